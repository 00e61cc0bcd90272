-- What the blocks of a build are heard as, by the unit that they are for. Assumes nothing.
use Prim.Native.Nat.{ℕ, zero, suc, ◌+◌, ◌-◌, ◌*◌, ◌/◌, ◌≤◌, ◌<◌}
use native.Mathlib.Omega.{arith}
use mathlib.Core.Path.{◌≡◌, refl, sym, ◌∙◌, ap, ap₂}
use mathlib.Core.Bool.{Bool, true, false, cond}
use mathlib.Core.List.{List, [], ◌∷◌, ◌++◌, append_assoc, append-nil}
use lib.Dec.{eqb, leb}
use lib.ListN.{length, take, drop, length-append, length-take, length-drop}
use lib.Seq.{take_at, drop_at, drop-drop}
use borrow.Author.Tests.{leb-true, leb-false}
use Rattle.bits.specs.Bits.{test_bit, bits_n, bits_of, over}
use Rattle.bits.specs.Layout.{Part, part, pack, parts_with}
use Rattle.bits.specs.Runs.{joined}
use Rattle.bits.proofs.Numbers.{length_bits_n}
use Rattle.bits.proofs.Bytes.{length_bits_of, length_bytes_n}
use Rattle.bits.proofs.Over.{over_right, over_left, over_all}
use Rattle.bits.proofs.Packing.{length_pack, pack_append}
use Rattle.blocks.specs.Sdu.{bits_of_message, fill_told}
use Rattle.blocks.specs.Header.{address_width, sdu_at, fragmented_in, body_of, message_of_header}
use Rattle.blocks.specs.Header.{header_of, read_header, read_reported}
use Rattle.blocks.specs.Continuation.{block_message, read_continuation}
use Rattle.blocks.specs.Slots.{fits_header, in_header}
use Rattle.build.specs.Plan.{header_bits, fragmented_for, blocks_for, build_fault}
use Rattle.build.specs.Build.{
  room_bits,
  shape_for,
  header_block,
  last_when,
  built_bits,
  built_bytes,
  build_of,
  out_as,
  out_of,
  sch_s,
  sch_h,
  cut_blocks,
  sch_fs,
  block_bits,
  read_all,
  expected,
}
use Rattle.blocks.specs.declared.sync.Sync.{Sync}
use Rattle.blocks.specs.declared.header.Fields.{Fields}
use Rattle.blocks.specs.declared.header.Header as read
use Rattle.blocks.specs.declared.continuation.Continuation.{Continuation}
use Rattle.build.proofs.RangeLaws.{InRange, in_range}
use Rattle.build.proofs.BuiltLaws.{header_bits_lem}
use Rattle.build.proofs.OutputLaws.{built_fault}
use Rattle.build.proofs.JoinLaws.{built_reads, built_blocks, built_joined}
use Rattle.store.specs.Store.{halves}
use Rattle.store.specs.declared.Raw.{Raw}
use Rattle.history.specs.Line.{Line, start, ◌▸◌, list}
use Rattle.history.specs.Slots.{Header, Heard, fragmented, unfragmented, frag, end}
use Rattle.history.specs.History.{join}
use Rattle.history.proofs.OpenRun.{join_more}
use Rattle.reports.specs.Lent.{for_unit, raw_of, unfaulted, header_heard, heard}
use Rattle.reports.specs.declared.unit.Settings.{Settings}
use Rattle.history.specs.declared.Place.{Place}
use Rattle.demands.proofs.ReportedLaws.{read_as, reported_reads}
use Rattle.ends.specs.EndToEnd.{Message, bits, k, Build, output, block_in, header_lent, block_lent}

-- ---- A header with its countdown put to 0 is the same for every countdown.

module _ (f count : ℕ) (g : Fields) (m : List Bool) where
  abbrev room : ℕ
  room = 124 - sdu_at (shape_for f g)

  abbrev front : List Part
  front = parts_with (10 ∷ 1 ∷ 1 ∷ 4 * f ∷ []) (0 ∷ fill_told room m ∷ f ∷ count ∷ [])

  abbrev back : List Part
  back =
      parts_with (2 ∷ address_width g.destination.kind ∷ 2 ∷ address_width g.source.kind ∷ 24 ∷ 5 ∷ g.width ∷ [])
      (g.destination.kind ∷ g.destination.ssi ∷ g.source.kind ∷ g.source.ssi ∷ g.mni ∷ g.message ∷ g.elements
      ∷ [])

  abbrev pub uncounted : List Bool
  uncounted = pack front ++ ((false ∷ false ∷ []) ++ (pack back ++ room_bits room m))

  block_split : (c : ℕ) → header_block f count c g m ≡ pack front ++ (bits_n 2 c ++ (pack back ++ room_bits room m))
  block_split c =
      ap (λ (x : List Bool). x ++ room_bits room m) (pack_append front (part 2 c ∷ back))
      ∙ append_assoc (pack front) (bits_n 2 c ++ pack back) (room_bits room m)
      ∙ ap (λ (x : List Bool). pack front ++ x) (append_assoc (bits_n 2 c) (pack back) (room_bits room m))

  -- it is that of countdown 0
  pub block_none : header_block f count 0 g m ≡ uncounted
  unfolding bits_n test_bit
  block_none = block_split 0

  block_uncounted : (c : ℕ) → over (12 + 4 * f) (false ∷ false ∷ []) (header_block f count c g m) ≡ uncounted
  block_uncounted c =
      let z = false ∷ false ∷ [] in
      let rest = pack back ++ room_bits room m in
      let lc = length_bits_n 2 c in
      let at : 12 + 4 * f ≡ length (pack front) + 0 = omega (arith, length_pack front) in
      ap₂ (λ (n : ℕ) (x : List Bool). over n z x) at (block_split c)
      ∙ over_right 0 z (pack front) (bits_n 2 c ++ rest)
      ∙ ap (λ (x : List Bool). pack front ++ x)
      (over_left 0 z (bits_n 2 c) rest (omega arith)
      ∙ ap (λ (x : List Bool). x ++ rest) (over_all z (bits_n 2 c) (sym lc)))

-- ---- A header that reads well.

module _ (s h : List ℕ) (good : (read_header s h).fault ≡ 0) where
  flag_read_lem : fragmented_in (bits_of h) ≡ (read_header s h).fragmented
  unfolding fragmented_in body_of
  flag_read_lem = ap (λ (r : read.Header). r.fragmented) (sym (read_as s h good))

  bits_read_lem : length (bits_of_message (message_of_header (body_of (bits_of h)) (bits_of h))) ≡
      (read_header s h).bits
  bits_read_lem = ap (λ (r : read.Header). r.bits) (sym (read_as s h good))

-- ---- Block i of a run of blocks.

-- one block on
further : (i : ℕ) (b : List ℕ) → drop (34 * suc i) b ≡ drop (34 * i) (drop 34 b)
further i b =
    let e : 34 * suc i ≡ 34 + 34 * i = omega arith in
    ap (λ (n : ℕ). drop n b) e ∙ sym (drop-drop (34 * i) 34 b)

abbrev nth : ℕ → List ℕ → List ℕ
nth i b = take 34 (drop (34 * i) b)

tail_same : (r x : Continuation) (rs xs : List Continuation) → r ∷ rs ≡ x ∷ xs → (r ≡ x) × (rs ≡ xs)
tail_same r x rs xs e = (cc, cc)

-- j blocks come after it
nth_reads : (i j n l : ℕ) (b : List ℕ) → n ≡ suc (i + j) → read_all (cut_blocks n b) ≡ expected n l
    → ((read_continuation (nth i b)).fault ≡ 0) × ((read_continuation (nth i b)).last ≡ last_when j)
nth_reads i j zero l b h e = absurd (omega arith)
nth_reads zero j (suc n) l b h e =
    let t = tail_same _ _ _ _ e in
    let w : n ≡ j = omega arith in
    (ap (λ (c : Continuation). c.fault) t.0, ap (λ (c : Continuation). c.last) t.0 ∙ ap last_when w)
nth_reads (suc i) j (suc n) l b h e =
    let t = tail_same _ _ _ _ e in
    rw (further i b) (nth_reads i j n (l - 264) (drop 34 b) (omega arith) t.1)

abbrev pub message_in_lem : List ℕ → List Bool
message_in_lem b = bits_of_message (block_message (bits_of b))

-- The message bits of the first i blocks.
abbrev pub messages_in : ℕ → List ℕ → Line (List Bool)
messages_in zero b = start
messages_in (suc i) b = messages_in i b ▸ message_in_lem (nth i b)

-- one block more
next_message : (i : ℕ) (b : List ℕ)
    → block_bits (cut_blocks i b) ++ (message_in_lem (nth i b) ∷ []) ≡ block_bits (cut_blocks (suc i) b)
next_message zero b = refl
next_message (suc i) b =
    let m = block_bits (cut_blocks i (drop 34 b)) in
    ap (◌∷◌ (message_in_lem (take 34 b)))
    (ap (λ (c : List ℕ). m ++ (message_in_lem (take 34 c) ∷ [])) (further i b) ∙ next_message i (drop 34 b))

-- they are those that are read, in order
list_messages : (i : ℕ) (b : List ℕ) → list (messages_in i b) ≡ block_bits (cut_blocks i b)
list_messages zero b = refl
list_messages (suc i) b =
    ap (λ (l : List (List Bool)). l ++ (message_in_lem (nth i b) ∷ [])) (list_messages i b) ∙ next_message i b

-- ---- A build.

-- a message needs a block where it does not fit the header, and only there
flag_when : (t : Bool) (h n : ℕ) → fits_header h n ≡ t → cond t true (leb h 120) ≡ true
    → let c = (n - cond t n (120 - h) + 263) / 264 in
    (c ≡ 0 → cond {A = ℕ} t 0 1 ≡ 0) × (1 ≤ c → cond {A = ℕ} t 0 1 ≡ 1)
flag_when true h n f e = (λ z. refl, λ z. absurd (omega arith))
flag_when false h n f e =
    let a = leb-false (n + h) 124 f in
    let b = leb-true h 120 e in
    (λ z. absurd (omega arith), λ z. refl)

module _ (m : Message) where
  abbrev pub flag : ℕ
  flag = fragmented_for m.fields m.n

  abbrev pub inside : ℕ
  inside = in_header (header_bits m.fields) m.n

  abbrev back_as : Sync → ℕ → ℕ → read.Header
  back_as y c n =
      let f = fragmented_for m.fields n in
      record {
        fault = 0;
        sync = y;
        fragmented = f;
        count = blocks_for m.fields n;
        countdown = c;
        fields = m.fields;
        first = sdu_at (shape_for f m.fields);
        bits = in_header (header_bits m.fields) n;
      }

  -- The header as it is heard, by whatever build.
  abbrev pub meant : Settings → Header
  meant s =
      let i = take inside (bits m) in
      record {
        raw = halves (uncounted flag (k m) m.fields i);
        for_us = for_unit s m.fields;
        fields = m.fields;
        bits = i;
      }

  module _ (b : Build m) where
    abbrev fault : ℕ
    fault = build_fault b.sync b.countdown m.fields m.n (length m.lent) (length b.out)

    none : fault ≡ 0
    unfolding build_of
    none = sym (built_fault fault (k m)) ∙ b.taken

    pub range : InRange b.sync b.countdown m.fields m.n (length m.lent) (length b.out)
    range = in_range b.sync b.countdown m.fields m.n (length m.lent) (length b.out) none

    all_bits : length (bits m) ≡ m.n
    all_bits =
        let l = range.elements.lent in
        rw (length-take m.n (bits_of m.lent)) (omega (arith, length_bits_of m.lent))

    whole : InRange b.sync b.countdown m.fields (length (bits m)) (length m.lent) (length b.out)
    whole = rw all_bits range

    abbrev bytes : List ℕ
    bytes = built_bytes b.sync b.countdown m.fields (bits m)

    abbrev rest : List ℕ
    rest = drop (length bytes) b.out

    abbrev out : List ℕ
    out = output m b

    out_is : out ≡ bytes ++ rest
    unfolding out_of
    out_is = ap (λ (f : ℕ). out_as f bytes b.out) none

    header_read : read_header (sch_s out) (sch_h out) ≡ back_as b.sync b.countdown m.n
    header_read =
        ap (λ (o : List ℕ). read_header (sch_s o) (sch_h o)) out_is ∙ built_reads (bits m) whole rest
        ∙ ap (back_as b.sync b.countdown) all_bits

    good : (read_header (sch_s out) (sch_h out)).fault ≡ 0
    good = ap (λ (r : read.Header). r.fault) header_read

    abbrev message_of : List ℕ → List Bool
    message_of h = bits_of_message (message_of_header (body_of (bits_of h)) (bits_of h))

    joined_is : joined (message_of (sch_h out) ∷ block_bits (sch_fs (k m) out)) ≡ bits m
    joined_is =
        ap₂ (λ (o : List ℕ) (n : ℕ). joined (message_of (sch_h o) ∷ block_bits (sch_fs (blocks_for m.fields n) o)))
        out_is (sym all_bits)
        ∙ built_joined (bits m) whole rest

    blocks_read : read_all (sch_fs (k m) out) ≡ expected (k m) (m.n - inside)
    blocks_read =
        ap₂ (λ (o : List ℕ) (n : ℕ). read_all (sch_fs (blocks_for m.fields n) o)) out_is (sym all_bits)
        ∙ built_blocks (bits m) whole rest
        ∙ ap (λ (n : ℕ). expected (blocks_for m.fields n) (n - in_header (header_bits m.fields) n)) all_bits

    -- the header's own bits
    header_message_lem : bits_of_message (message_of_header (body_of (bits_of (sch_h out))) (bits_of
        (sch_h out))) ≡ take inside (bits m)
    header_message_lem =
        let x = bits_of_message (message_of_header (body_of (bits_of (sch_h out))) (bits_of (sch_h out))) in
        let e = bits_read_lem (sch_s out) (sch_h out) good ∙ ap (λ (r : read.Header). r.bits) header_read in
        sym (take_at x (joined (block_bits (sch_fs (k m) out))) inside e)
        ∙ ap (take inside) joined_is

    block_is : bits_of (sch_h out) ≡ header_block flag (k m) b.countdown m.fields (take inside (bits m))
    block_is =
        ap (λ (o : List ℕ). bits_of (sch_h o)) out_is
        ∙ header_bits_lem (bits m) whole rest
        ∙ ap (λ (n : ℕ). header_block (fragmented_for m.fields n) (blocks_for m.fields n) b.countdown m.fields
        (take (in_header (header_bits m.fields) n) (bits m))) all_bits

    -- what it reads as, by these bits
    pub fields_read : (y : Sync)
        → (header_of y (header_block flag (k m) b.countdown m.fields (take inside (bits m)))).fields ≡ m.fields
    fields_read y =
        ap (λ (x : List Bool). (header_of y x).fields) (sym block_is)
        ∙ ap (λ (r : read.Header). r.fields) (sym (read_as (sch_s out) (sch_h out) good) ∙ header_read)

    raw_is : raw_of (sch_h out) ≡ halves (uncounted flag (k m) m.fields (take inside (bits m)))
    raw_is =
        let f : fragmented_in (bits_of (sch_h out)) ≡ flag = flag_read_lem (sch_s out) (sch_h out) good
        ∙ ap (λ (r : read.Header). r.fragmented) header_read in
        ap halves
        (ap₂ (λ (n : ℕ) (x : List Bool). over (12 + 4 * n) (false ∷ false ∷ []) x) f block_is
        ∙ block_uncounted flag (k m) m.fields (take inside (bits m)) b.countdown)

    out_length : 24 + 34 * k m ≤ length out
    out_length =
        let l : length out ≡ length bytes + length rest = ap length out_is ∙ length-append bytes rest in
        let n : length bytes ≡ 24 + 34 * k m =
        length_bytes_n (24 + 34 * blocks_for m.fields (length (bits m)))
        (built_bits b.sync b.countdown m.fields (bits m))
        ∙ ap (λ (n : ℕ). 24 + 34 * blocks_for m.fields n) all_bits in
        omega arith

    length_s : length (sch_s out) ≡ 8
    length_s = let l = out_length in rw (length-take 8 out) (omega arith)

    length_h : length (sch_h out) ≡ 16
    length_h = let l = out_length in rw (length-take 16 (drop 8 out), length-drop 8 out) (omega arith)

    pub length_header : length (sch_s out ++ sch_h out) ≡ 24
    length_header = length-append (sch_s out) (sch_h out) ∙ omega (arith, length_s, length_h)

    pub block_length : length (header_block flag (k m) b.countdown m.fields (take inside (bits m))) ≡ 128
    block_length = ap length (sym block_is) ∙ omega (arith, length_bits_of (sch_h out), length_h)

    pub length_block : (i : ℕ) → i < k m → length (block_in i out) ≡ 34
    length_block i u =
        let l = out_length in
        rw (length-take 34 (drop (34 * i) (drop 24 out)), length-drop (34 * i) (drop 24 out), length-drop 24 out)
        (omega arith)

    module _ (s : Settings) where
      abbrev heard_by_flag : ℕ → Heard
      heard_by_flag f =
          cond (eqb f 1) (fragmented (meant s) (k m - 1) b.countdown) (unfragmented (meant s) b.countdown)

      header_heard_lem : heard s (header_lent m b) ≡ heard_by_flag flag
      unfolding heard
      header_heard_lem =
          let y = b.sync in
          let f = ap (λ (r : read.Header). r.sync.frame) header_read in
          let z = ap (λ (r : read.Header). r.sync.slot + 1) header_read in
          let h : Raw → List Bool → Header =
          λ r x. record { raw = r; for_us = for_unit s m.fields; fields = m.fields; bits = x } in
          ap₂ (λ (x z : List ℕ). header_heard s z (read_reported y.frame (y.slot + 1) x z))
          (take_at (sch_s out) (sch_h out) 8 length_s) (drop_at (sch_s out) (sch_h out) 8 length_s)
          ∙ ap (header_heard s (sch_h out))
          (reported_reads (sch_s out) (sch_h out) good y.frame (y.slot + 1) f z ∙ header_read)
          ∙ ap₂ (λ (r : Raw) (x : List Bool).
          cond (eqb flag 1) (fragmented (h r x) (k m - 1) b.countdown) (unfragmented (h r x) b.countdown))
          raw_is header_message_lem

      flags : (k m ≡ 0 → flag ≡ 0) × (1 ≤ k m → flag ≡ 1)
      flags = let h = header_bits m.fields in flag_when (fits_header h m.n) h m.n refl range.header.fits

      pub fragmented_heard : (more : ℕ) → k m ≡ suc more
          → heard s (header_lent m b) ≡ fragmented (meant s) more b.countdown
      fragmented_heard more e =
          let j : k m - 1 ≡ more = omega arith in
          header_heard_lem ∙ ap heard_by_flag (flags.1 (omega arith))
          ∙ ap (λ (n : ℕ). fragmented (meant s) n b.countdown) j

      pub unfragmented_heard : k m ≡ 0 → heard s (header_lent m b) ≡ unfragmented (meant s) b.countdown
      unfragmented_heard e = header_heard_lem ∙ ap heard_by_flag (flags.0 e)

      -- block i, with j blocks after it
      pub block_heard_lem : (i j : ℕ) (q : Place) → k m ≡ suc (i + j) → let x = message_in_lem (block_in i out) in
          heard s (block_lent m b i q) ≡ cond (eqb (last_when j) 1) (end x) (frag x)
      unfolding heard
      block_heard_lem i j q e =
          let x = message_in_lem (block_in i out) in
          let r = nth_reads i j (k m) (m.n - inside) (drop 24 out) e blocks_read in
          ap₂ (λ (f l : ℕ). unfaulted f (cond (eqb l 1) (end x) (frag x))) r.0 r.1

    -- The bits of the header and of all blocks, in order.
    pub message_is : (more : ℕ) → k m ≡ suc more
        → join (take inside (bits m)) (messages_in more (drop 24 out)) ++ message_in_lem (block_in more out) ≡ bits m
    message_is more e =
        let t = take inside (bits m) in
        let c = drop 24 out in
        sym (join_more t (messages_in more c) (message_in_lem (block_in more out)))
        ∙ ap₂ (λ (x : List Bool) (l : List (List Bool)). joined (x ∷ l)) (sym header_message_lem)
        (list_messages (suc more) c ∙ ap (λ (n : ℕ). block_bits (cut_blocks n c)) (sym e))
        ∙ joined_is

    pub message_inside : k m ≡ 0 → take inside (bits m) ≡ bits m
    message_inside e =
        sym (append-nil (take inside (bits m)))
        ∙ ap₂ (λ (x : List Bool) (n : ℕ). x ++ joined (block_bits (cut_blocks n (drop 24 out))))
        (sym header_message_lem)
        (sym e)
        ∙ joined_is
