use mathlib.Core.Path.{◌≡◌, sym, ap, ◌∙◌}
use Prim.Native.Nat.{◌+◌, ◌*◌, ◌/◌, ◌%◌, ◌<◌}
use native.Mathlib.Omega.{arith}
use lib.ListN.{take, length-take}
use Rattle.std.proofs.lemmas.List.{get_or-take}
use Rattle.bits.specs.Bits.{num, bits_of}
use Rattle.fcs.specs.Register.{ones, fed}
use Rattle.fcs.proofs.Rules.{four_rule}
use Rattle.fcs.proofs.Register.{fed_nil, length_ones}
use Rattle.fcs.proofs.Numbers.{more_code, fcs_code}
use Rattle.fcs.proofs.fcs_of.Goals as goal
use Rattle.fcs.proofs.fcs_of.Goals.{After-loop-x}

pub loop-x-init : goal.loop-x-init
loop-x-init c = let n = c.args.n in c.start-c.ensures ∙ ap num (sym (fed_nil (ones 32 n) (length_ones 32 n)))

pub after-c-requires : goal.after-c-requires
after-c-requires c = (record { entry = four_rule }, omega arith, omega arith)

pub loop-x-preserved : goal.loop-x-preserved
loop-x-preserved c =
    let a = c.args in
    let l = c.loop-x in
    let i = l.x-index in
    let w : i < a.n / 8 = omega (arith, length-take (a.n / 8) a.s.now) in
    let e : 8 * i + 8 ≡ 8 * (i + 1) = omega arith in
    rw e at (more_code a.s.now (ones 32 a.n) i 8 l.c c.after-c.result (length_ones 32 a.n) (omega arith) (omega arith)
    l.invariant (rw (get_or-take (a.n / 8) a.s.now i 0 w) at c.after-c.ensures))

-- the whole bytes came in
whole : (c : After-loop-x)
    → c.loop-x.c ≡ num (fed (ones 32 c.args.n) (take (8 * (c.args.n / 8)) (bits_of c.args.s.now)))
whole c =
    let a = c.args in
    let e : c.loop-x.x-index ≡ a.n / 8 = omega (arith, length-take (a.n / 8) a.s.now) in
    rw e at c.loop-x.invariant

pub returns-then-k-eq0 : goal.returns-then-k-eq0
returns-then-k-eq0 c =
    let a = c.args in
    let e : 8 * (a.n / 8) ≡ a.n = omega arith in
    fcs_code a.s.now a.n c.loop-x.c (omega arith) (rw e at (whole (goal.at.returns-then-k-eq0 c).After-loop-x))

pub after-requires : goal.after-requires
after-requires c = (record { entry = four_rule }, omega arith, omega arith)

pub returns : goal.returns
returns c =
    let a = c.args in
    let e : 8 * (a.n / 8) + a.n % 8 ≡ a.n = omega arith in
    fcs_code a.s.now a.n c.after.result (omega arith)
    (rw e at (more_code a.s.now (ones 32 a.n) (a.n / 8) (a.n % 8) c.loop-x.c c.after.result (length_ones 32 a.n)
    (omega arith) (omega arith) (whole (goal.at.returns c).After-loop-x) c.after.ensures))
