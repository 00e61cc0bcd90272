use Prim.Native.Nat.{◌≤◌}
use native.Mathlib.Omega.{arith}
use lib.ListN.{length}
use Rattle.probe_blocks.specs.Calls.{written_by}
use Rattle.probe_blocks.proofs.Builds.{written_inside, built_said}
use Rattle.probe_blocks.proofs.calls.built.Goals as goal

pub build-requires : goal.build-requires
build-requires c =
    let a = c.args in
    let k = c.build-b in
    let w : written_by k.result ≤ length a.out.now = rw k.ensures.0 (written_inside _ _ _ _ _ _) in
    (omega (arith, k.auto), omega (arith, k.auto), omega arith)

pub returns : goal.returns
returns c =
    let a = c.args in
    let k = c.build-b in
    built_said a.line.now a.body.now a.out.now
    c.sync-sync.ensures
    c.fields-fields.ensures
    c.four-n.ensures
    k.ensures.0 k.ensures.1 c.build.ensures
