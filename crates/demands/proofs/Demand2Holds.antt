-- Demand 2 holds. Assumes nothing.
use mathlib.Core.Path.{◌≡◌, refl, sym, ap, ap₂, subst, ◌∙◌}
use mathlib.Core.Bool.{Bool, true, false, cond}
use mathlib.Core.List.{List, [], ◌∷◌, ◌++◌, append-nil}
use mathlib.Core.Logic.{◌⊎◌, inl, inr, ⊎_elim}
use Prim.Native.Nat.{ℕ, zero, suc, ◌+◌, ◌-◌, ◌*◌, ◌/◌, ◌^◌, ◌≤◌, ◌<◌, min}
use native.Mathlib.Nat.{sub_self}
use native.Mathlib.Omega.{arith}
use lib.Dec.{leb}
use lib.ListN.{length, take, drop, length-take, length-append}
use lib.Seq.{take_all, take_at, drop-drop}
use borrow.Author.Tests.{le-leb, lt-leb, lt-ltb, le-ltb, eq-eqb, leb-true}
use Rattle.bits.specs.Bits.{bits_n, bits_of}
use Rattle.bits.specs.Fill.{filled}
use Rattle.bits.specs.Layout.{pack}
use Rattle.bits.proofs.Bytes.{length_bits_of, length_bytes_n, bits_of_bytes_n}
use Rattle.bits.proofs.Filling.{filled_none}
use Rattle.blocks.specs.Widths.{entry_of, width_of, run_fits}
use Rattle.blocks.specs.Sdu.{fill_told}
use Rattle.blocks.specs.Sync.{sync_parts, sync_of}
use Rattle.blocks.specs.Header.{sdu_at, fields_of, header_of, read_header}
use Rattle.blocks.specs.Faults.{GivenFirst}
use Rattle.blocks.specs.declared.header.Header.{Header}
use Rattle.blocks.specs.Continuation.{continuation_parts, refused_block, read_continuation}
use Rattle.blocks.specs.declared.continuation.Continuation.{Continuation}
use Rattle.bits.specs.Runs.{joined}
use Rattle.blocks.specs.Slots.{fits_header, in_header}
use Rattle.build.specs.Plan.{fragmented_for, blocks_for, build_fault}
use Rattle.build.specs.Build.{shape_for, header_parts, header_block, continuation_block, continuation_blocks}
use Rattle.build.specs.Build.{built_bits}
use Rattle.build.specs.Build.{built_as, build_of, out_of, sch_s, sch_h, cut_blocks, sch_fs, read_all, expected}
use Rattle.build.specs.Build.{block_bits}
use Rattle.build.specs.Build.{last_when}
use Rattle.blocks.proofs.FaultLaws.{given_first}
use Rattle.build.proofs.RangeLaws as fields
use Rattle.build.proofs.BuiltLaws as laws
use Rattle.build.proofs.OutputLaws.{built_fault}
use Rattle.build.proofs.JoinLaws.{built_reads, built_blocks, built_joined}
use Rattle.build.proofs.RebuildLaws.{read_is, in_range_again, fits_header_lem, rebuilt, length_s, length_h}
use Rattle.demands.specs.Demand2.{Call, bits, h, k, answer, after, InRange, checks, built, laid_out, header_back}
use Rattle.demands.specs.Demand2.{sch_f, block_back, header_message, padded, Buildable, WellBuilt, Rebuildable}
use Rattle.demands.specs.Demand2.{again, Rebuilt, Demand2}

-- a room that the message fills has no fill
full_room : (room : ℕ) (m : List Bool) → length m ≡ room → (fill_told room m ≡ 0) × (filled room m ≡ m)
full_room room m e = (rw (le-ltb (length m) room (omega arith)) refl, rw (← e) (filled_none m))

-- ---- a call in range, as the laws of `blocks` have it

either : (t : Bool) → cond t true true ≡ true
either true = refl
either false = refl

module _ (c : Call) (r : InRange c) where
  header_holds : cond (fits_header (h c) c.n) true (leb (h c) 120) ≡ true
  header_holds =
      ⊎_elim (λ (l : c.n + h c ≤ 124). rw (le-leb (c.n + h c) 124 l) refl)
      (λ (l : h c + 4 ≤ 124). rw (le-leb (h c) 120 (omega arith)) (either (fits_header (h c) c.n))) r.header

  run_holds : run_fits c.fields.message c.fields.width c.fields.elements ≡ true
  unfolding run_fits
  run_holds =
      rw (
        le-leb (entry_of c.fields.message).width 254 r.listed,
        lt-ltb c.fields.elements (2 ^ c.fields.width) r.elements,
        eq-eqb (width_of (entry_of c.fields.message) (bits_n c.fields.width c.fields.elements))
            c.fields.width
            r.table,
      ) refl

  pub all_lent : length (bits c) ≡ c.n
  all_lent =
      let l = r.lent in
      rw (length-take c.n (bits_of c.message)) (omega (arith, length_bits_of c.message))

  module _ (few : k c ≤ 15) where
    ranged : {lent : ℕ} → 24 + 34 * k c ≤ lent
        → fields.InRange c.sync c.countdown c.fields c.n (length c.message) lent
    ranged room =
        let d = r.destination in
        let s = r.source in
        record {
          numbers = record {
            lowest = r.system.0;
            highest = r.system.1;
            first_frame = r.frame.0;
            last_frame = r.frame.1;
            usage = r.usage;
            slot = r.slot;
            countdown = r.countdown;
            mni = r.mni;
            message = r.message;
          };
          destination = record { kind = let k = d.kind in omega arith; ssi = d.ssi };
          source = record { kind = let k = s.kind in omega arith; ssi = s.ssi };
          elements = record { run = run_holds; lent = r.lent };
          header = record { to = d.kind; from = s.kind; listed = r.listed; fits = header_holds };
          blocks = record { count = few; room = room };
        }

    -- the same of the message's own bits
    whole :
        fields.InRange c.sync c.countdown c.fields (length (bits c)) (length c.message) (24 + 34 * k c)
    whole = rw all_lent (ranged {lent = 24 + 34 * k c} (omega arith))

    built_length : length (built c) ≡ 24 + 34 * k c
    built_length =
        length_bytes_n (24 + 34 * blocks_for c.fields (length (bits c))) (laid_out c) ∙ rw all_lent refl

    builds : 24 + 34 * k c ≤ length c.out
        → (answer c ≡ record { fault = 0; blocks = k c }) × (after c ≡ built c ++ drop (24 + 34 * k c) c.out)
    unfolding build_of out_of
    builds room =
        rw (fields.no_fault _ _ _ _ _ _ (ranged room))
        (refl, ap (λ (n : ℕ). built c ++ drop n c.out) built_length)

    pub built_bits_lem : bits_of (built c) ≡ laid_out c
    built_bits_lem =
        bits_of_bytes_n (24 + 34 * blocks_for c.fields (length (bits c))) (laid_out c)
        (laws.built_length (bits c) whole)

    bit_for_bit : (rest : List ℕ) → bits_of (take (24 + 34 * k c) (built c ++ rest)) ≡ laid_out c
    bit_for_bit rest = ap bits_of (take_at (built c) rest (24 + 34 * k c) built_length) ∙ built_bits_lem

  -- ---- the layout

  abbrev pub laid_out_lem : ℕ → List Bool
  laid_out_lem n =
      let i = in_header (h c) n in
      let blocks = blocks_for c.fields n in
      (pack (sync_parts c.sync)
      ++ header_block (fragmented_for c.fields n) blocks c.countdown c.fields (take i (bits c)))
      ++ continuation_blocks blocks (drop i (bits c))

  pub by_n : laid_out c ≡ laid_out_lem c.n
  unfolding built_bits
  by_n = ap laid_out_lem all_lent

  unfragmented : c.n + h c ≤ 124
      → (k c ≡ 0) × (laid_out c ≡ pack (sync_parts c.sync) ++ header_block 0 0 c.countdown c.fields (bits c))
  unfragmented l =
      let f : fits_header (h c) c.n ≡ true = le-leb (c.n + h c) 124 l in
      let s = pack (sync_parts c.sync) in (
        rw (f, sub_self c.n) refl,
        by_n
            ∙ rw (f, sub_self c.n)
            (append-nil (s ++ header_block 0 0 c.countdown c.fields (take c.n (bits c)))
            ∙ ap (λ (x : List Bool). s ++ header_block 0 0 c.countdown c.fields x)
            (take_all c.n (bits c) (omega (arith, all_lent)))),
      )

  fragmented : 124 < c.n + h c → let i = 120 - h c in
      (264 * k c < c.n - i + 264) × (c.n - i ≤ 264 * k c) × (1 ≤ k c)
      × (laid_out c
      ≡ (pack (sync_parts c.sync)
      ++ (pack (header_parts 0 1 (k c) c.countdown c.fields) ++ padded (take i (bits c))))
      ++ continuation_blocks (k c) (drop i (bits c)))
  fragmented l =
      let f : fits_header (h c) c.n ≡ false = lt-leb (c.n + h c) 124 l in
      let small : h c ≤ 120 =
      ⊎_elim (λ (a : c.n + h c ≤ 124). absurd (omega arith)) (λ (a : h c + 4 ≤ 124). omega arith) r.header in
      let i = 120 - h c in
      let m = take i (bits c) in
      let lm : length m ≡ i = rw (length-take i (bits c)) (omega (arith, all_lent)) in
      let room : 124 - sdu_at (shape_for 1 c.fields) ≡ i = omega arith in
      let full = full_room i m lm in
      let blocks : k c ≡ (c.n - i + 263) / 264 = rw f refl in
      (omega arith, omega arith, omega arith, by_n ∙ rw f (rw (room, full.0, full.1) refl))

-- ---- the blocks

frag : (j : ℕ) (r : List Bool) → 264 ≤ length r
    → continuation_blocks (suc (suc j)) r
    ≡ (pack (continuation_parts 0 0) ++ padded (take 264 r)) ++ continuation_blocks (suc j) (drop 264 r)
frag j r l =
    let full = full_room 264 (take 264 r) (rw (length-take 264 r) (omega arith)) in
    rw (full.0, full.1) refl

end_block : (r : List Bool) → length r ≤ 264
    → continuation_blocks 1 r ≡ pack (continuation_parts 1 (fill_told 264 r)) ++ padded (filled 264 r)
end_block r l = append-nil (continuation_block 1 (take 264 r)) ∙ rw (take_all 264 r l) refl

-- ---- back again

abbrev first_of : Continuation → List Continuation → Continuation
first_of d [] = d
first_of d (x ∷ xs) = x

abbrev later : List Continuation → List Continuation
later [] = []
later (x ∷ xs) = xs

-- block i of a list of blocks, as it reads
block_read : (i j m : ℕ) (b : List ℕ) → read_all (cut_blocks (suc (i + j)) b) ≡ expected (suc (i + j)) m
    → read_continuation (take 34 (drop (34 * i) b))
    ≡ record { fault = 0; last = last_when j; first = 4; bits = min 264 (m - 264 * i) }
block_read zero j m b e =
    let n : suc (0 + j) ≡ suc j = omega arith in
    let left : m - 264 * 0 ≡ m = omega arith in
    let z : read_all (cut_blocks (suc j) b) ≡ expected (suc j) m =
    subst (λ (n : ℕ). read_all (cut_blocks n b) ≡ expected n m) n e in
    rw left (ap (first_of (refused_block 0)) z)
block_read (suc i) j m b e =
    let next : 34 * suc i ≡ 34 + 34 * i = omega arith in
    let at : drop (34 * suc i) b ≡ drop (34 * i) (drop 34 b) =
    ap (λ (n : ℕ). drop n b) next ∙ sym (drop-drop (34 * i) 34 b) in
    let left : m - 264 * suc i ≡ m - 264 - 264 * i = omega arith in
    let n : suc (suc i + j) ≡ suc (suc (i + j)) = omega arith in
    rw (at, left)
    (block_read i j (m - 264) (drop 34 b)
    (ap later (subst (λ (n : ℕ). read_all (cut_blocks n b) ≡ expected n m) n e)))

module _ (c : Call) (r : InRange c) (few : k c ≤ 15) (rest : List ℕ) where
  header_reads_back : read_header (sch_s (built c ++ rest)) (sch_h (built c ++ rest)) ≡ header_back c
  header_reads_back = rw (all_lent c r) (rw (all_lent c r) at (built_reads (bits c) (whole c r few) rest))

  all_back : read_all (sch_fs (k c) (built c ++ rest)) ≡ expected (k c) (c.n - in_header (h c) c.n)
  all_back = rw (all_lent c r) (rw (all_lent c r) at (built_blocks (bits c) (whole c r few) rest))

  blocks_back : (i : ℕ) → i < k c → read_continuation (sch_f i (built c ++ rest)) ≡ block_back c i
  blocks_back i l =
      let j = k c - suc i in
      let e : k c ≡ suc (i + j) = omega arith in
      let m = c.n - in_header (h c) c.n in
      let b = drop 24 (built c ++ rest) in
      block_read i j m b (subst (λ (n : ℕ). read_all (cut_blocks n b) ≡ expected n m) e all_back)

  message_back : joined (header_message (sch_h (built c ++ rest)) ∷ block_bits (sch_fs (k c)
      (built c ++ rest))) ≡ bits c
  message_back = rw (all_lent c r) (rw (all_lent c r) at (built_joined (bits c) (whole c r few) rest))

-- ---- an unfragmented header, built again

module _ (s b lent out : List ℕ) (w : Rebuildable s b lent out) where
  abbrev read : Header
  read = header_of (sync_of (bits_of s)) (bits_of b)

  is_read : read_header s b ≡ read
  is_read = read_is s b w.well w.unfragmented w.reserved_3 w.reserved_8 w.reserved_h

  rebuilds_read : take read.bits (bits_of lent) ≡ header_message b → read.bits ≤ 8 * length lent
      → let c = again read lent out in Rebuilt s b out (answer c) (after c)
  unfolding build_of out_of
  rebuilds_read m l =
      let good = w.well in
      let plain = w.unfragmented in
      let r₃ = w.reserved_3 in
      let r₈ = w.reserved_8 in
      let r₀ = w.reserved_h in
      let none = fields.no_fault _ _ _ _ _ _ (in_range_again s b good plain r₃ r₈ r₀ l w.room) in
      let n = length (header_message b) in
      let k₀ : blocks_for (fields_of (bits_of b)) n ≡ 0 = rw
      (fits_header_lem s b good plain r₃ r₈ r₀, sub_self n) refl in
      let l₂ : length (s ++ b) ≡ 24 =
      length-append s b ∙ omega (arith, length_s s b good plain r₃ r₈ r₀, length_h s b good plain r₃ r₈ r₀) in
      rw (none, m) (
        ap (built_as 0) k₀,
        ap (λ (x : List ℕ). x ++ drop (length x) out) (rebuilt s b good plain r₃ r₈ r₀ w.bytes_s w.bytes_h)
            ∙ ap (λ (x : ℕ). (s ++ b) ++ drop x out) l₂,
      )

  rebuilds : let c = again (read_header s b) lent out in Rebuilt s b out (answer c) (after c)
  rebuilds =
      rw is_read (rebuilds_read (rw is_read at w.message) (rw is_read at w.all_lent))

-- ---- refusals

module _ (c : Call) where
  abbrev fault : ℕ
  fault = build_fault c.sync c.countdown c.fields c.n (length c.message) (length c.out)

  fault_is : (answer c).fault ≡ fault
  unfolding build_of
  fault_is = built_fault fault (k c)

  header_when : (t : Bool) → fits_header (h c) c.n ≡ t → cond t true (leb (h c) 120) ≡ true
      → (c.n + h c ≤ 124) ⊎ (h c + 4 ≤ 124)
  header_when true f e = inl (leb-true (c.n + h c) 124 f)
  header_when false f e = let l = leb-true (h c) 120 e in inr (omega arith)

  taken : (answer c).fault ≡ 0 → Buildable c
  taken e =
      let r =
      fields.in_range c.sync c.countdown c.fields c.n (length c.message) (length c.out)
      (sym fault_is ∙ e) in
      record {
        in_range = record {
          system = (r.numbers.lowest, r.numbers.highest);
          frame = (r.numbers.first_frame, r.numbers.last_frame);
          usage = r.numbers.usage;
          slot = r.numbers.slot;
          countdown = r.numbers.countdown;
          destination = record { kind = r.header.to; ssi = r.destination.ssi };
          source = record { kind = r.header.from; ssi = r.source.ssi };
          mni = r.numbers.mni;
          message = r.numbers.message;
          listed = r.header.listed;
          table = fields.width_is r;
          elements = fields.elements_fit r;
          lent = r.elements.lent;
          header = header_when (fits_header (h c) c.n) refl r.header.fits;
        };
        few = r.blocks.count;
        room = r.blocks.room;
      }

  well : Buildable c → WellBuilt c (answer c) (after c)
  well x =
      let r = x.in_range in
      let few = x.few in
      let rest = drop (24 + 34 * k c) c.out in
      let (a, o) = builds c r few x.room in
      record {
        answer = a;
        bytes = o;
        bit_for_bit = rw o (bit_for_bit c r few rest);
        header_reads_back = rw o (header_reads_back c r few rest);
        blocks_back = λ i l. rw o (blocks_back c r few rest i l);
        message_back = rw o (message_back c r few rest);
      }

  refused : (n : ℕ) → (answer c).fault ≡ suc n
      → GivenFirst n (checks c) × ((answer c).blocks ≡ 0) × (after c ≡ c.out)
  unfolding build_fault build_of out_of
  refused n e =
      let f : fault ≡ suc n = sym fault_is ∙ e in
      (given_first n (checks c) f, rw f refl, rw f refl)

-- ---- two builds

different : (c d : Call) → InRange c → InRange d → k c ≤ 15 → k d ≤ 15 → built c ≡ built d
    → (c.sync ≡ d.sync) × (c.countdown ≡ d.countdown) × (c.fields ≡ d.fields) × (bits c ≡ bits d)
different c d rc rd fc fd e =
    let same : header_back c ≡ header_back d =
    sym (header_reads_back c rc fc []) ∙ ap (λ (x : List ℕ). read_header (sch_s (x ++ [])) (sch_h (x ++ []))) e
    ∙ header_reads_back d rd fd [] in
    let counts : k c ≡ k d = ap (λ (x : Header). x.count) same in (
      ap (λ (x : Header). x.sync) same,
      ap (λ (x : Header). x.countdown) same,
      ap (λ (x : Header). x.fields) same,
      sym (message_back c rc fc [])
          ∙ ap₂ (λ (x : List ℕ) (n : ℕ). joined (header_message (sch_h (x ++ [])) ∷ block_bits (sch_fs n (x ++ [])))) e
          counts
          ∙ message_back d rd fd [],
    )

-- ---- the demand

pub demand2 : Demand2
demand2 =
    record {
      builds = λ c. record { well = well c; taken = taken c; refused = refused c };
      unfragmented = λ c r. unfragmented c r;
      fragmented = λ c r. fragmented c r;
      frag = frag;
      end = end_block;
      rebuilds = rebuilds;
      different = different;
    }
