-- Two headers with the same SCH/H but for the countdown are both fragmented, or neither is, and tell the same number of
-- blocks. Assumes nothing.
use mathlib.Core.Path.{◌≡◌, refl, sym, ◌∙◌, ap, ap₂, subst}
use mathlib.Core.Bool.{Bool, true, false, cond}
use mathlib.Core.List.{List, [], ◌∷◌}
use Prim.Native.Nat.{ℕ, zero, suc, ◌+◌, ◌-◌, ◌*◌, ◌^◌, ◌≤◌, ◌<◌}
use native.Mathlib.Omega.{arith}
use lib.Dec.{eqb}
use lib.ListN.{length, take, drop, length-drop}
use lib.Seq.{length-take-le}
use borrow.Author.Tests.{eqb-true, eqb-false}
use Rattle.bits.specs.Bits.{bits_of, num, field}
use Rattle.bits.proofs.Numbers.{num_lt, take_of_drop}
use Rattle.bits.proofs.Bytes.{length_bits_of}
use Rattle.bits.proofs.Over.{length_over, over_take}
use Rattle.blocks.specs.Header.{fragmented_in}
use Rattle.blocks.specs.Continuation.{read_continuation}
use Rattle.blocks.specs.declared.header.Header as read
use Rattle.store.proofs.Blocks.{halves_same}
use Rattle.history.specs.Slots.{Header, Heard, nothing, fragmented, unfragmented, frag, end}
use Rattle.history.specs.Slots.{header_in, more_in, countdown_in, is_fragmented}
use Rattle.history.proofs.Verdicts.{absurd_bool}
use Rattle.reports.specs.Lent.{Lent, uncounted, raw_of, unfaulted, header_from, header_in_lent, header_heard}
use Rattle.reports.specs.Lent.{sch_h_in, block_heard, heard, BringsShort}
use Rattle.reports.specs.declared.unit.Settings.{Settings}
use Rattle.reports.proofs.Readings.{WellRead, well_read}

-- The flag is bit 11.
flag_first : (b : List Bool) → fragmented_in (take 12 b) ≡ fragmented_in b
unfolding fragmented_in
flag_first b = ap num (take_of_drop 1 11 12 b (omega arith))

flag_low : (b : List Bool) → length b ≡ 128 → fragmented_in b ≤ 1
unfolding fragmented_in
flag_low b l =
    let x = take 1 (drop 11 b) in
    let n : length x ≡ 1 = length-take-le 1 (drop 11 b) (omega (arith, length-drop 11 b)) in
    let h : num x < 2 ^ 1 = subst (λ (k : ℕ). num x < 2 ^ k) n (num_lt x) in
    omega arith

-- The slot count, where there is one, comes after it.
abbrev slots_in : ℕ → List Bool → ℕ
slots_in f b = field 12 (4 * f) b

slots_first : (f : ℕ) (b : List Bool) → slots_in f (take (12 + 4 * f) b) ≡ slots_in f b
slots_first f b = ap num (take_of_drop (4 * f) 12 (12 + 4 * f) b (omega arith))

-- The countdown's two bits come after both, in either header: to leave them out leaves these as they are.
module _ (b : List Bool) (l : length b ≡ 128) where
  uncounted_length : length (uncounted b) ≡ 128
  uncounted_length =
      length_over (12 + 4 * fragmented_in b) (false ∷ false ∷ []) b (omega (arith, flag_low b l)) ∙ l

  uncounted_flag : fragmented_in (uncounted b) ≡ fragmented_in b
  uncounted_flag =
      sym (flag_first (uncounted b))
      ∙ ap fragmented_in
      (over_take 12 (12 + 4 * fragmented_in b) (false ∷ false ∷ []) b (omega arith) (omega (arith, flag_low b l)))
      ∙ flag_first b

  uncounted_slots : slots_in (fragmented_in b) (uncounted b) ≡ slots_in (fragmented_in b) b
  uncounted_slots =
      let f = fragmented_in b in
      sym (slots_first f (uncounted b))
      ∙ ap (slots_in f)
      (over_take (12 + 4 * f) (12 + 4 * f) (false ∷ false ∷ []) b (omega arith) (omega (arith, flag_low b l)))
      ∙ slots_first f b

block_length : (h : List ℕ) → length h ≡ 16 → length (bits_of h) ≡ 128
block_length h l = omega (arith, length_bits_of h)

-- The same numbers are the same bits.
pub same_bits : (h k : List ℕ) → length h ≡ 16 → length k ≡ 16 → raw_of h ≡ raw_of k
    → uncounted (bits_of h) ≡ uncounted (bits_of k)
same_bits h k l n e =
    halves_same (uncounted (bits_of h)) (uncounted (bits_of k))
    (uncounted_length (bits_of h) (block_length h l) ∙ sym (uncounted_length (bits_of k) (block_length k n))) e

same_flag : (h k : List ℕ) → length h ≡ 16 → length k ≡ 16 → raw_of h ≡ raw_of k
    → fragmented_in (bits_of h) ≡ fragmented_in (bits_of k)
same_flag h k l n e =
    sym (uncounted_flag (bits_of h) (block_length h l)) ∙ ap fragmented_in (same_bits h k l n e)
    ∙ uncounted_flag (bits_of k) (block_length k n)

same_slots_in : (h k : List ℕ) → length h ≡ 16 → length k ≡ 16 → raw_of h ≡ raw_of k
    → slots_in (fragmented_in (bits_of h)) (bits_of h) ≡ slots_in (fragmented_in (bits_of k)) (bits_of k)
same_slots_in h k l n e =
    sym (uncounted_slots (bits_of h) (block_length h l))
    ∙ ap₂ slots_in (same_flag h k l n e) (same_bits h k l n e)
    ∙ uncounted_slots (bits_of k) (block_length k n)

-- ---- So it is with two that were read.

-- The SCH/H that a header was read from.
record ReadFrom (x : Heard) : Type 0 where
  block : List ℕ
  long : length block ≡ 16
  raw : (header_in x).raw ≡ raw_of block
  flag : is_fragmented x ≡ eqb (fragmented_in (bits_of block)) 1
  slots : more_in x ≡ slots_in (fragmented_in (bits_of block)) (bits_of block) - 1

-- By what it reads as.
from_read : {b : List ℕ} {r : read.Header} (x : Heard) → WellRead b r → (header_in x).raw ≡ raw_of b
    → eqb r.fragmented 1 ≡ is_fragmented x → more_in x ≡ r.count - 1 → ReadFrom x
from_read {b} x y e g n =
    record {
      block = b;
      long = y.long;
      raw = e;
      flag = sym g ∙ ap (λ (f : ℕ). eqb f 1) y.flag;
      slots = n ∙ ap (λ (m : ℕ). m - 1) y.count;
    }

-- By the fault that it reads with, and the flag.
from_header : (b : List ℕ) (h : Header) (r : read.Header) (fault : ℕ) (flag : Bool) → h.raw ≡ raw_of b
    → eqb r.fragmented 1 ≡ flag → (fault ≡ 0 → WellRead b r)
    → let f = r.countdown in
    let x = unfaulted fault (cond flag (fragmented h (r.count - 1) f) (unfragmented h f)) in
    (header_in x).for_us ≡ true → ReadFrom x
from_header b h r (suc n) flag e g w m = absurd_bool m
from_header b h r zero true e g w m = from_read (fragmented h (r.count - 1) r.countdown) (w refl) e g refl
from_header b h r zero false e g w m =
    let y = w refl in
    let z = y.alone (omega (arith, y.low, eqb-false r.fragmented 1 g)) in
    from_read (unfragmented h r.countdown) y e g (omega arith)

-- By its kind: only one of kind 2 brings a header.
from_block : (n : ℕ) (last : Bool) (m : List Bool)
    → (header_in (unfaulted n (cond last (end m) (frag m)))).for_us ≡ true → ⊥
from_block zero true m e = absurd_bool e
from_block zero false m e = absurd_bool e
from_block (suc n) last m e = absurd_bool e

read_from : (s : Settings) (l : Lent) → (header_in (heard s l)).for_us ≡ true → ReadFrom (heard s l)
unfolding heard
read_from s l = go (eqb l.kind 2) (eqb l.kind 3)
  where
    go : (two three : Bool)
        → let x = cond two (header_heard s (drop 8 l.blocks) (header_in_lent l))
        (cond three (block_heard l.blocks (read_continuation l.blocks)) nothing) in
        (header_in x).for_us ≡ true → ReadFrom x
    go true three m =
        let b = drop 8 l.blocks in
        let r = header_in_lent l in
        from_header b _ r r.fault (eqb r.fragmented 1) refl refl
        (well_read l.frame l.slot (take 8 l.blocks) b) m
    go false true m =
        let r = read_continuation l.blocks in absurd (from_block r.fault (eqb r.last 1) _ m)
    go false false m = absurd_bool m

pub same_read : (s : Settings) (l m : Lent) → (header_in (heard s l)).for_us ≡ true
    → (header_in (heard s m)).for_us ≡ true → (header_in (heard s l)).raw ≡ (header_in (heard s m)).raw
    → (is_fragmented (heard s l) ≡ is_fragmented (heard s m)) × (more_in (heard s l) ≡ more_in (heard s m))
same_read s l m a b e =
    let x = read_from s l a in
    let y = read_from s m b in
    let raw = sym x.raw ∙ e ∙ y.raw in (
      x.flag
          ∙ ap (λ (n : ℕ). eqb n 1) (same_flag x.block y.block x.long y.long raw)
          ∙ sym y.flag,
      x.slots
          ∙ ap (λ (n : ℕ). n - 1) (same_slots_in x.block y.block x.long y.long raw)
          ∙ sym y.slots,
    )

-- ---- A report that brings an unfragmented header for this unit.

abbrev is_short : Heard → Bool
is_short nothing = false
is_short (fragmented h more f) = false
is_short (unfragmented h f) = true
is_short (frag b) = false
is_short (end b) = false

-- What it is heard as says what was lent.
pub record HeardShort (s : Settings) (l : Lent) (h : Header) (f : ℕ) : Type 0 where
  pub brings : BringsShort s l
  pub header : h ≡ header_from s (sch_h_in l) (header_in_lent l)
  pub countdown : f ≡ (header_in_lent l).countdown

short_header : (fault more f g : ℕ) (flag : Bool) (x h : Header)
    → unfaulted fault (cond flag (fragmented x more f) (unfragmented x f)) ≡ unfragmented h g
    → (fault ≡ 0) × (flag ≡ false) × (h ≡ x) × (g ≡ f)
short_header (suc n) more f g flag x h e = absurd_bool (ap is_short e)
short_header zero more f g true x h e = absurd_bool (ap is_short e)
short_header zero more f g false x h e = (refl, refl, ap header_in (sym e), ap countdown_in (sym e))

not_a_block : (n : ℕ) (last : Bool) (m : List Bool) → is_short (unfaulted n (cond last (end m) (frag m))) ≡ false
not_a_block zero true m = refl
not_a_block zero false m = refl
not_a_block (suc n) last m = refl

pub heard_short : (s : Settings) (l : Lent) (h : Header) (f : ℕ) → heard s l ≡ unfragmented h f → h.for_us ≡ true
    → HeardShort s l h f
unfolding heard
heard_short s l h f e w = go (eqb l.kind 2) (eqb l.kind 3) refl e
  where
    go : (two three : Bool) → eqb l.kind 2 ≡ two
        → cond two (header_heard s (sch_h_in l) (header_in_lent l))
        (cond three (block_heard l.blocks (read_continuation l.blocks)) nothing) ≡ unfragmented h f
        → HeardShort s l h f
    go true three k e =
        let r = header_in_lent l in
        let (z, flag, x, g) = short_header r.fault (r.count - 1) r.countdown f (eqb r.fragmented 1) _ h e in
        let low = (well_read l.frame l.slot (take 8 l.blocks) (sch_h_in l) z).low in
        let no = eqb-false r.fragmented 1 flag in
        record {
          brings = record {
            kind = eqb-true l.kind 2 k;
            well = z;
            unfragmented = omega (arith, low, no);
            for_us = ap (λ (y : Header). y.for_us) (sym x) ∙ w;
          };
          header = x;
          countdown = g;
        }
    go false true k e =
        let b = read_continuation l.blocks in
        absurd_bool (sym (not_a_block b.fault (eqb b.last 1) _) ∙ ap is_short e)
    go false false k e = absurd_bool (ap is_short e)

pub short_heard : (s : Settings) (l : Lent) → BringsShort s l
    → heard s l ≡ unfragmented (header_from s (sch_h_in l) (header_in_lent l)) (header_in_lent l).countdown
unfolding heard
short_heard s l b = rw (b.kind, b.well, b.unfragmented) refl
