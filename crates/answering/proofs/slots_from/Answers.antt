-- Before each turn the slots up to the header in turn are filled, and no others.
use mathlib.Core.Path.{◌≡◌}
use Prim.Native.Nat.{suc, ◌+◌, ◌*◌, ◌-◌}
use native.Mathlib.Omega.{arith}
use Rattle.answering.proofs.FillingLaws.{next_header, without_end, with_end}
use Rattle.answering.proofs.slots_from.Goals as goal

pub loop-i-preserved : goal.loop-i-preserved
loop-i-preserved c =
    let l = c.loop-i in
    let a = c.args in
    let p = c.requires in (
      rw (c.from.ensures, c.header_at.ensures, l.invariant.0)
          (next_header a.x a.k a.m a.over p.frames.0 p.frames.1 p.over l.i (omega arith) (omega arith)),
      omega arith,
    )

pub returns-then-told : goal.returns-then-told
returns-then-told c =
    let l = c.loop-i in
    let a = c.args in
    let p = c.requires in
    let e : l.i ≡ 2 * a.m = omega arith in
    let n : suc (a.k + a.m - 1) ≡ a.k + a.m = omega (arith, p) in
    rw (c.from-then-told.ensures, c.end_after.ensures, n, l.invariant.0, e, c.if-told.true)
    (with_end a.x a.k a.m a.over p.frames.0 p.frames.1 p.over)

pub returns-else-told : goal.returns-else-told
returns-else-told c =
    let l = c.loop-i in
    let a = c.args in
    let p = c.requires in
    let e : l.i ≡ 2 * a.m = omega arith in
    rw (l.invariant.0, e, c.if-told.false)
    (without_end a.x a.k a.m a.over p.frames.0 p.frames.1 p.over)
