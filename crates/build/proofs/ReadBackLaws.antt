-- Reading what was built: SCH/S and SCH/H. Assumes nothing.
use mathlib.Core.Path.{◌≡◌, refl, sym, ap, ◌∙◌}
use mathlib.Core.Bool.{Bool, false}
use mathlib.Core.List.{List, [], ◌∷◌, ◌++◌, append_assoc, append-nil}
use Prim.Native.Nat.{ℕ, ◌+◌, ◌-◌, ◌≤◌}
use native.Mathlib.Omega.{arith}
use lib.ListN.{length, drop, replicate, get_or, length-append}
use lib.Seq.{take_at, drop_at, take-length, slice}
use Rattle.bits.specs.Bits.{num, bit, bits_n, field}
use Rattle.bits.specs.Fill.{filled}
use Rattle.bits.specs.Layout.{Part, part, pack, parts_with, parts_in, place_in, AllFit}
use Rattle.bits.proofs.Numbers.{length_bits_n}
use Rattle.bits.proofs.Packing.{length_pack, pack_append, read_pack}
use Rattle.bits.proofs.Filling.{length_filled}
use Rattle.blocks.specs.Widths.{entry_of, width_of}
use Rattle.blocks.specs.Sdu.{fill_told}
use Rattle.blocks.specs.Sync.{sync_layout, sync_parts, sync_of}
use Rattle.blocks.specs.Header.{address_width, tail_layout, to_in, from_in, message_in, width_in, Shape, header_prefix}
use Rattle.blocks.specs.Header.{header_layout}
use Rattle.blocks.specs.Header.{tail_start, sdu_at, fragmented_in, shape_of, body_with, body_of}
use Rattle.build.specs.Build.{room_bits, shape_for, header_parts, header_block}
use Rattle.blocks.specs.declared.sync.Sync.{Sync}
use Rattle.blocks.specs.declared.header.Fields.{Fields}
use Rattle.blocks.proofs.WidthLaws.{width_prefix}

-- the value of part k of a list of parts
abbrev value_at : ℕ → List Part → ℕ
value_at k ps = (get_or ps k (part 0 0)).value

-- ---- SCH/S

module _ (y : Sync) (f : AllFit (sync_parts y)) where
  sync_parts_lem : parts_in 0 sync_layout (pack (sync_parts y)) ≡ sync_parts y
  sync_parts_lem =
      read_pack 0 (sync_parts y) (pack (sync_parts y)) f
      (rw (← length_pack (sync_parts y)) (take-length (pack (sync_parts y))))

  pub sync_element : (k : ℕ) → value_at k (parts_in 0 sync_layout (pack (sync_parts y))) ≡ value_at k (sync_parts y)
  sync_element k = ap (value_at k) sync_parts_lem

  pub sync_back : sync_of (pack (sync_parts y)) ≡ y
  unfolding sync_of
  sync_back =
      λ i.
      record { system = sync_element 0 i; usage = sync_element 4 i; slot = sync_element 5 i; frame = sync_element 6 i }

-- ---- SCH/H

module _ (f count countdown : ℕ) (g : Fields) (m : List Bool) where
  abbrev q : Shape
  q = shape_for f g

  abbrev room : ℕ
  room = 124 - sdu_at q

  abbrev fill : ℕ
  fill = fill_told room m

  abbrev ps : List Part
  ps = header_parts fill f count countdown g

  abbrev b : List Bool
  b = header_block f count countdown g m

  pub parts_length : length (pack ps) ≡ sdu_at q
  parts_length = length_pack ps ∙ omega arith

  module _ (fit : AllFit ps) (h : sdu_at q + length m ≤ 124) where
    parts_back : parts_in 0 (header_layout q) b ≡ ps
    parts_back =
        read_pack 0 ps b fit (rw (← length_pack ps) (take_at (pack ps) (room_bits room m) (length (pack ps)) refl))

    at : (k : ℕ) → value_at k (parts_in 0 (header_layout q) b) ≡ value_at k ps
    at k = ap (value_at k) parts_back

    pub fragmented_back : fragmented_in b ≡ f
    unfolding fragmented_in
    fragmented_back = at 2

    abbrev start : ℕ
    start = tail_start f

    pub to_back : to_in start b ≡ g.destination.kind
    unfolding to_in
    to_back = at 5

    pub from_back : from_in start b ≡ g.source.kind
    unfolding from_in
    from_back = rw to_back (at 7)

    pub message_back : message_in start b ≡ g.message
    unfolding message_in
    message_back = rw (to_back, from_back) (at 10)

    -- the elements before the run
    abbrev front : List Part
    front =
        parts_with
        (header_prefix f ++ (2 ∷ address_width g.destination.kind ∷ 2 ∷ address_width g.source.kind ∷ 24 ∷ 5 ∷ []))
        (0 ∷ fill ∷ f ∷ count ∷ countdown ∷ g.destination.kind ∷ g.destination.ssi ∷ g.source.kind ∷ g.source.ssi
        ∷ g.mni ∷ g.message ∷ [])

    abbrev run : ℕ
    run = place_in start (tail_layout g.destination.kind g.source.kind 0) 6

    -- from the elements' run on
    run_back : drop run b ≡ bits_n g.width g.elements ++ room_bits room m
    run_back =
        let e = bits_n g.width g.elements in
        let lf : length (pack front) ≡ run = length_pack front ∙ omega arith in
        let split : b ≡ pack front ++ (e ++ room_bits room m) =
        ap (λ (x : List Bool). x ++ room_bits room m) (pack_append front (part g.width g.elements ∷ []))
        ∙ append_assoc (pack front) (e ++ []) (room_bits room m)
        ∙ ap (λ (x : List Bool). pack front ++ (x ++ room_bits room m)) (append-nil e) in
        rw split (drop_at (pack front) (e ++ room_bits room m) _ lf)

    module _ (w : width_of (entry_of g.message) (bits_n g.width g.elements) ≡ g.width) where
      pub width_back : width_in start b ≡ g.width
      unfolding width_in
      width_back =
          let e = bits_n g.width g.elements in
          rw (message_back, to_back, from_back, run_back)
          (width_prefix g.message e (room_bits room m) (w ∙ sym (length_bits_n g.width g.elements)) ∙ w)

      shape_back : shape_of b ≡ q
      shape_back = rw (fragmented_back, to_back, from_back, width_back) refl

      pub body_back : body_of b ≡ record {
        fill = fill;
        fragmented = f;
        count = count;
        countdown = countdown;
        tail = record {
          destination = g.destination;
          source = g.source;
          mni = g.mni;
          message = g.message;
          run = run;
          width = g.width;
          first = sdu_at q;
        };
      }
      unfolding body_of
      body_back = ap (λ (x : Shape). body_with x b) shape_back ∙ (λ i. record {
        fill = at 1 i;
        fragmented = at 2 i;
        count = at 3 i;
        countdown = at 4 i;
        tail = record {
          destination = record { kind = at 5 i; ssi = at 6 i };
          source = record { kind = at 7 i; ssi = at 8 i };
          mni = at 9 i;
          message = at 10 i;
          run = run;
          width = g.width;
          first = sdu_at q;
        };
      })

    pub elements_back : field run g.width b ≡ g.elements
    elements_back = at 11

    -- the block without its pad
    whole : b ≡ (pack ps ++ filled room m) ++ replicate 4 false
    whole = sym (append_assoc (pack ps) (filled room m) (replicate 4 false))

    length_whole : length (pack ps ++ filled room m) ≡ 124
    length_whole =
        length-append (pack ps) (filled room m) ∙ omega (arith, parts_length, length_filled room m (omega arith))

    pub room_back : slice (sdu_at q) 124 b ≡ filled room m
    room_back =
        rw (whole, take_at (pack ps ++ filled room m) (replicate 4 false) 124 length_whole)
        (drop_at (pack ps) (filled room m) (sdu_at q) parts_length)

    pub pad_back : field 124 4 b ≡ 0
    unfolding num bit
    pad_back = rw (whole, drop_at (pack ps ++ filled room m) (replicate 4 false) 124 length_whole) refl
