use Prim.Native.Nat.{◌≤◌}
use native.Mathlib.Omega.{arith}
use lib.ListN.{length}
use Rattle.probe_transport.specs.Calls.{written_by}
use Rattle.probe_transport.proofs.Builds.{written_inside, built_said}
use Rattle.probe_transport.proofs.built.Goals as goal

pub sdu-requires : goal.sdu-requires
sdu-requires c =
    let a = c.args in
    let k = c.build-b in
    let w : written_by k.result ≤ length a.out.now = rw k.ensures.0 (written_inside _ _ _ _ _ _) in
    (omega (arith, w, k.auto), omega (arith, c.requires, k.auto), omega (arith, c.requires))

pub returns : goal.returns
returns c =
    let a = c.args in
    let k = c.build-b.ensures in
    built_said a.line.now a.body.now a.out.now
    c.message-message.ensures c.four-n.ensures
    k.0 k.1 c.sdu.ensures
