-- Bytes moved to the start of a room. Assumes nothing.
use mathlib.Core.Path.{◌≡◌, refl, sym, ap, ◌∙◌}
use mathlib.Core.Bool.{Bool, true, false}
use mathlib.Core.List.{List, ◌++◌}
use Prim.Native.Nat.{ℕ, ◌+◌, ◌-◌, ◌≤◌, min}
use native.Mathlib.Omega.{arith}
use lib.Dec.{leb}
use lib.ListN.{length, take, drop, length-drop}
use borrow.Author.Tests.{leb-true, leb-false}
use Rattle.bits.proofs.Numbers.{drop_of_take}
use Rattle.slotlog.specs.Room.{left_of, moved_up}
use lib.Seq.{take_all, length-take-le}

-- ---- what is left of the bytes in use

-- no more than all of them
take_in_use : (have : ℕ) (l : List ℕ) → take (min have (length l)) l ≡ take have l
take_in_use have l = when (leb have (length l)) refl
  where
    when : (b : Bool) → leb have (length l) ≡ b → take (min have (length l)) l ≡ take have l
    when true e =
        let n : min have (length l) ≡ have = omega (arith, leb-true have (length l) e) in
        ap (λ (k : ℕ). take k l) n
    when false e =
        let h = leb-false have (length l) e in
        take_all (min have (length l)) l (omega arith) ∙ sym (take_all have l (omega arith))

pub in_use : (have n : ℕ) (l : List ℕ) → n ≡ min have (length l) → (take n l ≡ take have l) × (n ≤ have)
    × (n ≤ length l) × (length (take n l) ≡ n)
in_use have n l e =
    (rw e (take_in_use have l), omega arith, omega arith, length-take-le n l (omega arith))

pub moved_up_lem : (old : List ℕ) (have read n : ℕ) {new : List ℕ} → n ≡ min have (length old) → read ≤ n
    → new ≡ take (n - read) (drop read old) ++ drop (n - read) old
    → new ≡ moved_up have read old
moved_up_lem old have read n {new} m h e =
    let k = n - read in
    let j : n ≡ read + k = omega arith in
    let l : left_of have read old ≡ take k (drop read old) =
    ap (drop read) (sym (in_use have n old m).0) ∙ ap (λ (i : ℕ). drop read (take i old)) j
    ∙ drop_of_take read k old in
    let c : length (take k (drop read old)) ≡ k =
    length-take-le k (drop read old) (omega (arith, length-drop read old)) in
    e ∙ rw (l, c) refl
