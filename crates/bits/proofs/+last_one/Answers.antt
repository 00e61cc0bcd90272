use mathlib.Core.Path.{◌≡◌, refl}
use mathlib.Core.List.{List}
use Prim.Native.Nat.{ℕ, ◌+◌, ◌-◌, ◌*◌, ◌/◌, ◌%◌, ◌^◌}
use native.Mathlib.Nat.{sub-zero}
use native.Mathlib.Omega.{arith}
use lib.Bits.{bit_and, and_mask}
use lib.ListN.{length}
use lib.Seq.{slice, slice_empty}
use Rattle.bits.specs.Bits.{bits_of, Inside}
use Rattle.bits.specs.Fill.{strip, found_at}
use Rattle.std.specs.Prelude.{Option}
use Rattle.std.proofs.Common.{rules}
use Rattle.bits.proofs.Bytes.{length_bits_of}
use Rattle.bits.proofs.Searching.{Turn, turn, Within, last_within}
use Rattle.bits.proofs.+last_one.Goals as goal
use Rattle.bits.proofs.+last_one.Goals.{In-loop-i}

-- what the room from the byte's first bit on says of the room from bit `from` on
own : (s : List ℕ) (from to : ℕ) (r : Option ℕ) → Inside (length s) from to
    → r ≡ found_at (from - bit_and from 7) (strip (slice (from - bit_and from 7) to (bits_of s)))
    → Within from r (found_at from (strip (slice from to (bits_of s))))
own s from to r i e =
    rw e
    (last_within (bits_of s) (from - bit_and from 7) from to (omega (arith, and_mask from 3)) (omega arith)
    (omega (arith, length_bits_of s)))

pub returns-in_err-at : goal.returns-in_err-at
returns-in_err-at t c =
    let w = own c.args.s.now c.args.from c.args.to c.last_one.result c.requires c.last_one.ensures in
    let e = rw c.in_err-at.was at w in
    search (rules, e)

pub returns-then-at-from : goal.returns-then-at-from
returns-then-at-from t c =
    let w = own c.args.s.now c.args.from c.args.to c.last_one.result c.requires c.last_one.ensures in
    (rw c.in_ok-at.was at w).0 (omega arith)

pub returns-then-before-ne0 : goal.returns-then-before-ne0
returns-then-before-ne0 t c =
    let w = own c.args.s.now c.args.from c.args.to c.last_one.result c.requires c.last_one.ensures in
    (rw c.in_ok-at.was at w).1 (omega arith)

pub loop-i-init : goal.loop-i-init
unfolding strip
loop-i-init t c =
    let a = c.args in
    let e : 8 * ((a.to + 7) / 8) - ((a.to + 7) / 8 * 8 % 2 ^ 64 - a.to) ≡ a.to = omega arith in
    (omega arith, omega arith, rw (e, slice_empty a.to (bits_of a.s.now)) refl)

-- a turn of the loop
turned : (t : ℕ) (c : In-loop-i t)
    → (let a = c.args in
    let l = c.loop-i in
    Turn a.s.now a.from a.to (l.i - 1) l.after)
turned t c =
    let a = c.args in
    let l = c.loop-i in
    let m = and_mask a.from 3 in
    turn a.s.now a.from a.to l.i (l.i - 1) l.after (omega arith) (omega arith) (omega arith)
    (omega arith) l.invariant.1 (omega (arith, c.type_inv.s (l.i - 1))) l.invariant.2

pub overflow_sub-result-then-byte-ne0 : goal.overflow_sub-result-then-byte-ne0
overflow_sub-result-then-byte-ne0 t c =
    let f = (turned t (goal.at.overflow_sub-result-then-byte-ne0 t c).In-loop-i).found (omega arith) in omega arith

pub returns-then-byte-ne0 : goal.returns-then-byte-ne0
returns-then-byte-ne0 t c =
    let i = c.loop-i.i in
    let e : (i - 1) * 8 % 2 ^ 64 ≡ 8 * (i - 1) = omega arith in
    rw e ((turned t (goal.at.returns-then-byte-ne0 t c).In-loop-i).found (omega arith)).1

pub loop-i-preserved : goal.loop-i-preserved
loop-i-preserved t c =
    let i = c.loop-i.i in
    let z = (turned t (goal.at.loop-i-preserved t c).In-loop-i).more (omega arith) in
    (omega arith, omega arith, rw (sub-zero (8 * (i - 1))) z)

pub returns : goal.returns
unfolding found_at
returns t c =
    let a = c.args in
    let l = c.loop-i in
    let m = and_mask a.from 3 in
    let e : 8 * l.i - l.after ≡ a.from = omega arith in
    rw (rw e at l.invariant.2) refl
