-- What the rules of a response say, and where it starts. Assumes nothing.
use mathlib.Core.Path.{◌≡◌, refl, sym}
use mathlib.Core.Bool.{Bool, true, false, cond, ◌&&◌}
use Prim.Native.Nat.{ℕ, zero, suc, ◌+◌, ◌-◌, ◌≤◌}
use native.Mathlib.Omega.{arith}
use lib.Dec.{eqb, leb}
use mir.Val.{bool_byte}
use borrow.Author.Tests.{ne_eqb, eqb-false, le-leb, leb-true, leb-false}
use Rattle.blocks.specs.Faults.{first_of}
use Rattle.blocks.specs.Slots.{frames_to}
use Rattle.blocks.proofs.FaultLaws.{by_rules, le_holds}
use Rattle.blocks.proofs.SlotLaws.{frames_counted}
use Rattle.answering.specs.Calendar.{yes, was_fragmented, least_of, limit_of, last_frame, first_frame, response_rules}
use Rattle.answering.specs.Calendar.{passed_over, slots, Fits, with_fault, with_slots, calendar_of}
use Rattle.answering.specs.declared.Response.{Response}

-- ---- numbers that are taken

-- the limit is DN210, or it is at most 4
limit_dn210 : (a d : ℕ) → a ≤ 1 → limit_of a d ≡ d
limit_dn210 a d l = rw (ne_eqb a 2 (λ e. omega arith), ne_eqb a 3 (λ e. omega arith)) refl

limit_few : (a d : ℕ) → 2 ≤ a → a ≤ 3 → limit_of a d ≤ 4
limit_few a d l m = go (eqb a 2) (eqb a 3) refl refl
  where
    go : (t u : Bool) → eqb a 2 ≡ t → eqb a 3 ≡ u → cond t 1 (cond u 4 d) ≤ 4
    go true u e f = omega arith
    go false true e f = omega arith
    go false false e f = let x = eqb-false a 2 e in let y = eqb-false a 3 f in absurd (omega arith)

pub limit_4 : (r : Response) → Fits r → limit_of r.answered r.dn210 ≤ 4
limit_4 r k = go (leb r.answered 1) refl
  where
    go : (t : Bool) → leb r.answered 1 ≡ t → limit_of r.answered r.dn210 ≤ 4
    go true e =
        let l = leb-true r.answered 1 e in
        let d = k.dn210 l in
        omega (arith, limit_dn210 r.answered r.dn210 l)
    go false e =
        let l = leb-false r.answered 1 e in limit_few r.answered r.dn210 (omega arith) k.answered

least_some : (t : Bool) (n : ℕ) → cond t 1 0 ≤ n → t ≡ true → 1 ≤ n
least_some t n l e = rw e at l

some_least : (t : Bool) (n : ℕ) → (t ≡ true → 1 ≤ n) → cond t 1 0 ≤ n
some_least true n f = f refl
some_least false n f = omega arith

pub fits : (r : Response) → first_of (response_rules r) ≡ 0 → Fits r
fits r e =
    by_rules (response_rules r) e (λ x₁ x₁₈ f a n m s l b.
    let most = limit_of r.answered r.dn210 in
    let m : most ≤ 4 = le_holds most 4 12 m in
    let s : 1 ≤ r.frames = le_holds 1 r.frames 12 s in
    let l : r.frames ≤ most = le_holds r.frames most 12 l in
    record {
      frame = (le_holds 1 r.frame 14 x₁, le_holds r.frame 18 14 x₁₈);
      countdown = le_holds r.countdown 3 12 f;
      answered = le_holds r.answered 3 12 a;
      count = le_holds r.count 15 12 n;
      dn210 = λ h. let d = limit_dn210 r.answered r.dn210 h in (omega arith, omega arith);
      frames = (s, l);
      blocks =
          least_some (was_fragmented r.answered) r.count (le_holds (least_of r.answered) r.count 9 b);
    })

-- and no others are refused
pub taken : (r : Response) → Fits r → first_of (response_rules r) ≡ 0
taken r k =
    rw (
      le-leb 1 r.frame k.frame.0,
      le-leb r.frame 18 k.frame.1,
      le-leb r.countdown 3 k.countdown,
      le-leb r.answered 3 k.answered,
      le-leb r.count 15 k.count,
      le-leb _ 4 (limit_4 r k),
      le-leb 1 r.frames k.frames.0,
      le-leb r.frames _ k.frames.1,
      le-leb _ r.count (some_least (was_fragmented r.answered) r.count k.blocks),
    ) refl

-- what is answered then, and otherwise
pub granted : (r : Response) → first_of (response_rules r) ≡ 0 → with_slots (slots r) ≡ calendar_of r
unfolding calendar_of
granted r e = rw e refl

pub refused : (r : Response) (n : ℕ) → n ≡ first_of (response_rules r) → (n ≡ 0 → ⊥) → with_fault n ≡ calendar_of r
unfolding calendar_of
refused r zero e h = absurd (h refl)
refused r (suc n) e h = rw (sym e) refl

-- ---- its first frame

-- a flag, as Rust makes a number of it
pub flag_small : (b : Bool) → bool_byte b ≤ 1
flag_small true = omega arith
flag_small false = omega arith

-- of a message with at most fifteen blocks
pub frames_few : (x f i : ℕ) → f ≤ 3 → i ≤ 14 → frames_to x f i ≤ 19
frames_few x f i l m = let e = frames_counted x f i in omega arith

-- the answered message is over within 19 frames
pub last_soon : (r : Response) → Fits r → last_frame r ≤ 19
last_soon r k = go (was_fragmented r.answered)
  where
    go : (t : Bool) → cond t (frames_to r.frame r.countdown (r.count - 1)) r.countdown ≤ 19
    go true =
        let n = k.count in frames_few r.frame r.countdown (r.count - 1) k.countdown (omega arith)
    go false = let n = k.countdown in omega arith

pub first_soon : (r : Response) → Fits r → first_frame r ≤ 21
first_soon r k = go (eqb r.answered 3 && yes r.later) (last_soon r k)
  where
    go : (t : Bool) → last_frame r ≤ 19 → suc (last_frame r) + cond t 1 0 ≤ 21
    go true l = omega arith
    go false l = omega arith

pub over_few : (slot1 : ℕ) → passed_over slot1 ≤ 1
over_few slot1 = go (yes slot1)
  where
    go : (t : Bool) → cond t 0 1 ≤ 1
    go true = omega arith
    go false = omega arith
