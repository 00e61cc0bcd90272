-- What the code holds of a report is what the report brings. Assumes nothing.
use mathlib.Core.Path.{◌≡◌, refl, sym, ap, ◌∙◌, subst}
use mathlib.Core.Bool.{Bool, true, false, cond}
use mathlib.Core.List.{List}
use Prim.Native.Nat.{ℕ, zero, suc, ◌+◌, ◌-◌, ◌*◌, ◌≤◌}
use native.Mathlib.Omega.{arith}
use lib.Dec.{eqb}
use lib.ListN.{length, take, drop, length-drop}
use lib.Seq.{drop-drop, take_all}
use borrow.Author.Tests.{eqb-true, eqb-false, eq-eqb, ne_eqb}
use Rattle.bits.specs.Bits.{bits_of}
use Rattle.bits.proofs.Bytes.{bits_of_drop}
use Rattle.store.specs.Store.{without}
use Rattle.store.specs.declared.Raw.{Raw}
use Rattle.blocks.specs.Sdu.{bits_of_message}
use Rattle.blocks.specs.Header.{body_of, message_of_header, read_reported}
use Rattle.blocks.specs.Continuation.{block_message, read_continuation}
use Rattle.blocks.specs.declared.header.Header as read
use Rattle.blocks.specs.declared.continuation.Continuation.{Continuation}
use Rattle.history.specs.Slots.{Header, Heard, nothing, fragmented, unfragmented, frag, end, countdown_in, bits_in}
use Rattle.history.specs.declared.What.{What}
use Rattle.history.specs.declared.What.TheVariants.{Nothing, Fragmented, Unfragmented, Frag, End}
use Rattle.history.proofs.Bounds.{Sized}
use Rattle.reports.specs.Lent.{
  Lent,
  lent,
  for_unit,
  raw_of,
  unfaulted,
  brought,
  header_in_lent,
  header_heard,
  block_heard,
}
use Rattle.reports.specs.Lent.{heard, fault_in}
use Rattle.reports.specs.Reading.{brought_of, headless, Reads}
use Rattle.reports.specs.declared.unit.Settings.{Settings}
use Rattle.reports.specs.declared.read.Brought.{Brought}
use Rattle.reports.proofs.Readings.{WellRead, WellReadBlock, well_read, well_read_block}

-- ---- nothing

-- nothing was heard, or a block with a fault
pub nothing_reads : (s : Settings) (l : Lent) {n : ℕ} → heard s l ≡ nothing → fault_in l ≡ n
    → Reads s l (headless Nothing n 0 0)
nothing_reads s l e f =
    record {
      shows = rw (e, f) refl;
      message = rw e refl;
      inside = record { ordered = omega arith; within = omega arith; near = omega arith };
      few = omega arith;
      falls = omega arith;
    }

unfaulted_none : (n : ℕ) (x : Heard) → (n ≡ 0 → ⊥) → unfaulted n x ≡ nothing
unfaulted_none zero x h = absurd (h refl)
unfaulted_none (suc n) x h = refl

-- ---- a header

-- what stands after SCH/S
rest_is : (b : List ℕ) → take (length b - 8) (drop 8 b) ≡ drop 8 b
rest_is b = take_all (length b - 8) (drop 8 b) (omega (arith, length-drop 8 b))

-- its message bits
abbrev header_bits : List ℕ → List Bool
header_bits h = bits_of_message (message_of_header (body_of (bits_of h)) (bits_of h))

module _ (s : Settings) (frame slot : ℕ) (b : List ℕ) where
  abbrev report : Lent
  report = lent frame slot 2 b

  abbrev header : read.Header → Header
  header x =
      record
      { raw = raw_of (drop 8 b); for_us = for_unit s x.fields; fields = x.fields; bits = header_bits (drop 8 b) }

  -- as the code lends the two blocks
  abbrev read_lent : read.Header
  read_lent = read_reported frame slot (take 8 b) (take (length b - 8) (drop 8 b))

  header_lent : read_lent ≡ header_in_lent report
  header_lent = ap (read_reported frame slot (take 8 b)) (rest_is b)

  -- one with a fault
  pub header_none : {x : read.Header} → x ≡ read_lent → (x.fault ≡ 0 → ⊥)
      → Reads s report (headless Nothing x.fault 0 0)
  unfolding heard
  header_none l n =
      let e = l ∙ header_lent in
      rw e (nothing_reads s report (unfaulted_none (header_in_lent report).fault _ (rw (← e) n)) refl)

  module _ {x : read.Header} (l : x ≡ read_lent) (z : x.fault ≡ 0) (long : length b ≡ 24) where
    e : x ≡ header_in_lent report
    e = l ∙ header_lent

    well : WellRead (drop 8 b) x
    well =
        subst (WellRead (drop 8 b)) (sym e)
        (well_read frame slot (take 8 b) (drop 8 b) (ap (λ (y : read.Header). y.fault) (sym e) ∙ z))

    pub first_small : x.first ≤ 124
    first_small = omega (arith, well.room)

    pub flag_low : x.fragmented ≤ 1
    flag_low = well.low

    pub counted : x.fragmented ≤ x.count
    counted = well.counted

    fault_none : fault_in report ≡ 0
    fault_none = ap (λ (y : read.Header). y.fault) (sym e) ∙ z

    -- where it stands in the lent bytes
    there : take x.bits (drop (64 + x.first) (bits_of b)) ≡ header_bits (drop 8 b)
    there =
        ap (take x.bits) (sym (drop-drop x.first 64 (bits_of b)) ∙ ap (drop x.first) (sym (bits_of_drop 8 b)))
        ∙ well.bits

    header_as : (y : Heard) → heard s report ≡ y → bits_in y ≡ header_bits (drop 8 b) → countdown_in y ≡ x.countdown
        → {r : Brought} → r ≡ brought_of y 0 (64 + x.first) → Reads s report r
    header_as y h m c k =
        let w = well in
        let n : length (bits_in y) ≡ x.bits = ap length m ∙ sym w.sized in
        subst (Reads s report) (sym k)
        (record {
          shows = rw (h, fault_none) refl;
          message = rw (h, n) (there ∙ sym m);
          inside =
              record {
                ordered = omega arith;
                within = omega (arith, n, w.room);
                near = omega (arith, n, w.room);
              };
          few = omega (arith, n, w.room);
          falls = omega (arith, c, w.falls);
        })

    heard_by : (f : Bool) → eqb x.fragmented 1 ≡ f
        → heard s report
        ≡ cond f (fragmented (header x) (x.count - 1) x.countdown) (unfragmented (header x) x.countdown)
    unfolding heard
    heard_by f q = rw (← e, z, q) refl

    raw_lent : without (12 + 4 * x.fragmented) (take (length b - 8) (drop 8 b)) ≡ raw_of (drop 8 b)
    raw_lent = rw (rest_is b, well.flag) refl

    -- one that reads well, fragmented or not
    pub header_reads : {meant : Bool} → meant ≡ for_unit s x.fields → {raw : Raw}
        → raw ≡ without (12 + 4 * x.fragmented) (take (length b - 8) (drop 8 b))
        → (what : What) (f : Bool) → eqb x.fragmented 1 ≡ f → what ≡ cond f Fragmented Unfragmented
        → Reads s report
        (record {
          what = what;
          fault = 0;
          meant = meant;
          raw = raw;
          fields = x.fields;
          more = x.count - x.fragmented;
          countdown = x.countdown;
          from = 64 + x.first;
          bits = x.bits;
        })
    header_reads g t what true q k =
        header_as (fragmented (header x) (x.count - 1) x.countdown) (heard_by true q) refl refl
        (rw (k, g, t ∙ raw_lent, eqb-true x.fragmented 1 q, well.sized) refl)
    header_reads g t what false q k =
        let f : x.fragmented ≡ 0 = omega (arith, well.low, eqb-false x.fragmented 1 q) in
        let n : x.count - x.fragmented ≡ 0 = omega (arith, well.alone f) in
        header_as (unfragmented (header x) x.countdown) (heard_by false q) refl refl
        (rw (k, g, t ∙ raw_lent, n, well.sized) refl)

-- ---- a continuation

module _ (s : Settings) (frame slot : ℕ) (b : List ℕ) where
  abbrev brings : Lent
  brings = lent frame slot 3 b

  abbrev block_bits : List Bool
  block_bits = bits_of_message (block_message (bits_of b))

  pub block_none : {x : Continuation} → x ≡ read_continuation b → (x.fault ≡ 0 → ⊥)
      → Reads s brings (headless Nothing x.fault 0 0)
  unfolding heard
  block_none e n = rw e (nothing_reads s brings (unfaulted_none (read_continuation b).fault _ (rw (← e) n)) refl)

  module _ {x : Continuation} (e : x ≡ read_continuation b) (z : x.fault ≡ 0) where
    well_block : WellReadBlock b x
    well_block = subst (WellReadBlock b) (sym e) (well_read_block b (ap (λ (y : Continuation). y.fault) (sym e) ∙ z))

    block_by : (f : Bool) → eqb x.last 1 ≡ f → heard s brings ≡ cond f (end block_bits) (frag block_bits)
    unfolding heard
    block_by f q = rw (← e, z, q) refl

    block_as : (y : Heard) → heard s brings ≡ y → bits_in y ≡ block_bits → countdown_in y ≡ 0 → {r : Brought}
        → r ≡ brought_of y 0 x.first → Reads s brings r
    block_as y h m c k =
        let w = well_block in
        let n : length (bits_in y) ≡ x.bits = ap length m ∙ sym w.sized in
        subst (Reads s brings) (sym k)
        (record {
          shows = rw (h, ap (λ (y : Continuation). y.fault) (sym e) ∙ z) refl;
          message = rw (h, n) (w.bits ∙ sym m);
          inside =
              record {
                ordered = omega arith;
                within = omega (arith, n, w.room, w.long);
                near = omega (arith, n, w.room);
              };
          few = omega (arith, n, w.room, w.after);
          falls = omega (arith, c);
        })

    pub end_reads : x.last ≡ 1 → Reads s brings (headless End 0 x.first x.bits)
    end_reads q =
        block_as (end block_bits) (block_by true (eq-eqb x.last 1 q)) refl refl (rw well_block.sized refl)

    pub frag_reads : (x.last ≡ 1 → ⊥) → Reads s brings (headless Frag 0 x.first x.bits)
    frag_reads q =
        block_as (frag block_bits) (block_by false (ne_eqb x.last 1 q)) refl refl (rw well_block.sized refl)

-- ---- by the report's kind

pub other_reads : (s : Settings) (l : Lent) → (l.kind ≡ 2 → ⊥) → (l.kind ≡ 3 → ⊥) → Reads s l (headless Nothing 0 0 0)
unfolding heard
other_reads s l h k =
    let a = ne_eqb l.kind 2 h in let b = ne_eqb l.kind 3 k in nothing_reads s l (rw (a, b) refl) (rw (a, b) refl)

pub header_bytes : (kind n : ℕ) → kind ≡ 2 → brought kind n ≡ true → n ≡ 24
header_bytes kind n k e = eqb-true n 24 (rw k at e)

pub block_bytes : (kind n : ℕ) → kind ≡ 3 → brought kind n ≡ true → n ≡ 34
block_bytes kind n k e = eqb-true n 34 (rw k at e)

-- ---- what is heard has the reader's sizes

-- the header, as it is heard
abbrev headed : Settings → List ℕ → read.Header → Header
headed s h x = record { raw = raw_of h; for_us = for_unit s x.fields; fields = x.fields; bits = header_bits h }

sized_header : (s : Settings) (h : List ℕ) (x : read.Header) (n : ℕ) → (n ≡ 0 → WellRead h x) → (f : Bool)
    → (let y = headed s h x in
    Sized (unfaulted n (cond f (fragmented y (x.count - 1) x.countdown) (unfragmented y x.countdown))))
sized_header s h x zero w true = let g = w refl in (omega (arith, g.room, g.sized), omega (arith, g.slots), g.falls)
sized_header s h x zero w false = let g = w refl in (omega (arith, g.room, g.sized), g.falls)
sized_header s h x (suc n) w f = tt

sized_block : (b : List ℕ) (x : Continuation) (n : ℕ) → (n ≡ 0 → WellReadBlock b x) → (f : Bool)
    → (let m = bits_of_message (block_message (bits_of b)) in Sized (unfaulted n (cond f (end m) (frag m))))
sized_block b x zero w true = let g = w refl in omega (arith, g.room, g.after, g.sized)
sized_block b x zero w false = let g = w refl in omega (arith, g.room, g.after, g.sized)
sized_block b x (suc n) w f = tt

sized_when : (s : Settings) (l : Lent) (two three : Bool)
    → Sized (cond two (header_heard s (drop 8 l.blocks) (header_in_lent l))
    (cond three (block_heard l.blocks (read_continuation l.blocks)) nothing))
sized_when s l true three =
    let x = header_in_lent l in
    sized_header s (drop 8 l.blocks) x x.fault
    (well_read l.frame l.slot (take 8 l.blocks) (drop 8 l.blocks)) (eqb x.fragmented 1)
sized_when s l false true =
    let x = read_continuation l.blocks in
    sized_block l.blocks x x.fault (well_read_block l.blocks) (eqb x.last 1)
sized_when s l false false = tt

pub sized : (s : Settings) (l : Lent) → Sized (heard s l)
unfolding heard
sized s l = sized_when s l (eqb l.kind 2) (eqb l.kind 3)
