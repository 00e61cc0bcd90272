-- An unfragmented header that reads well, its reserved bits zero, builds again to the same bits. Assumes nothing.
use mathlib.Core.Path.{◌≡◌, refl, sym, ap, ap₂, ◌∙◌}
use mathlib.Core.Bool.{Bool, true, false}
use mathlib.Core.List.{List, [], ◌++◌, append_assoc, append-nil}
use Prim.Native.Nat.{ℕ, zero, suc, ◌+◌, ◌-◌, ◌*◌, ◌^◌, ◌≤◌, ◌<◌}
use native.Mathlib.Nat.{sub_self}
use native.Mathlib.Omega.{arith}
use lib.ListN.{length, take, drop, replicate, length-append, length-take, length-drop, take-append-drop}
use lib.Seq.{length-slice, take-length, take_all, take-take}
use borrow.Author.Tests.{le-leb, lt-ltb, eq-eqb}
use Rattle.bits.specs.Bits.{num, bits_n, bits_of, bytes_n, field, AllBytes}
use Rattle.bits.specs.Fill.{filled}
use Rattle.bits.specs.Layout.{pack, parts_in, total, element}
use Rattle.bits.proofs.Numbers.{num_take_lt, bits_n_is, bits_n_zero}
use Rattle.bits.proofs.Packing.{pack_read}
use Rattle.blocks.specs.Faults.{first_of}
use Rattle.blocks.specs.Widths.{entry_of, width_of, run_fits}
use Rattle.blocks.specs.Sdu.{fill_told, bits_of_message}
use Rattle.blocks.specs.Sync.{sync_layout, sync_parts, sync_of, sync_checks}
use Rattle.blocks.specs.Header.{address_width, to_in, from_in, message_in, run_in, width_in, header_layout, sdu_at}
use Rattle.blocks.specs.Header.{fragmented_in, tail_of}
use Rattle.blocks.specs.Header.{shape_of, body_of, room_of, message_of_header, body_checks, header_fault, fields_of}
use Rattle.blocks.specs.Header.{header_of}
use Rattle.blocks.specs.Header.{answered, read_header}
use Rattle.build.specs.Build.{shape_for, header_parts, header_block, built_bits, built_bytes}
use Rattle.blocks.specs.declared.header.Fields.{Fields}
use Rattle.blocks.specs.Slots.{fits_header}
use Rattle.build.specs.Plan.{header_bits}
use Rattle.blocks.specs.declared.header.Header.{Header}
use Rattle.blocks.proofs.FaultLaws.{chain_split}
use Rattle.blocks.proofs.RuleLaws.{SyncHolds, sync_holds, BodyHolds, body_holds}
use Rattle.build.proofs.RangeLaws.{InRange}
use Rattle.bits.proofs.Bytes.{length_bits_of, bits_of_append, bytes_n_bits_of, bytes_append}
use Rattle.blocks.proofs.RoomLaws.{refill}
use Rattle.blocks.proofs.WidthLaws.{width_alone, entry_le}

-- ---- SCH/S

-- the parts of a block whose fixed and reserved elements are zero
pub sync_again : (b : List Bool) → length b ≡ 64 → element sync_layout 1 b ≡ 0 → element sync_layout 2 b ≡ 0
    → element sync_layout 3 b ≡ 0
    → element sync_layout 7 b ≡ 0 → element sync_layout 8 b ≡ 0 → element sync_layout 9 b ≡ 0
    → pack (sync_parts (sync_of b)) ≡ b
unfolding sync_of
sync_again b l e₁ e₂ e₃ e₇ e₈ e₉ =
    let same : parts_in 0 sync_layout b ≡ sync_parts (sync_of b) = rw (e₁, e₂, e₃, e₇, e₈, e₉) refl in
    ap pack (sym same) ∙ pack_read 0 sync_layout b (omega arith) ∙ take_all 64 b (omega arith)

-- ---- SCH/H

module _ (b : List Bool) (l : length b ≡ 128) (f₀ : fragmented_in b ≡ 0) (z : BodyHolds b) (reserved : field 0 10 b ≡ 0)
    (pad : field 124 4 b ≡ 0) where
  abbrev g : Fields
  g = fields_of b

  abbrev first : ℕ
  first = (body_of b).tail.first

  abbrev inside : List Bool
  inside = room_of (body_of b) b

  abbrev m : List Bool
  m = bits_of_message (message_of_header (body_of b) b)

  fits : first ≤ 124
  fits = z.rules.tail.fits

  room_is : length inside ≡ 124 - first
  room_is = length-slice first 124 b (omega arith)

  fill_le : (body_of b).fill ≤ 1
  unfolding body_of
  fill_le = let s = num_take_lt 1 (drop 10 b) in omega arith

  again : (inside ≡ filled (length inside) m) × (fill_told (length inside) m ≡ (body_of b).fill)
      × (length m ≤ length inside)
  again = refill (body_of b).fill inside fill_le z.there

  pub message_fits : first + length m ≤ 124
  message_fits = let a = again.2 in let r = room_is in let f = fits in omega arith

  shape_is : shape_for 0 g ≡ shape_of b
  unfolding body_of to_in from_in
  shape_is =
      let at = tail_of b in
      λ i. record { fragmented = sym f₀ i; to = to_in at b; from = from_in at b; width = width_in at b }

  -- where the DM-SDU starts, with no slot count
  pub first_is : sdu_at (shape_for 0 g) ≡ first
  unfolding body_of
  first_is = ap sdu_at shape_is

  no_bits : field 12 0 b ≡ 0
  unfolding num
  no_bits = refl

  parts_again : header_parts (body_of b).fill 0 0 (body_of b).countdown g ≡ parts_in 0 (header_layout (shape_for 0 g)) b
  unfolding body_of fragmented_in to_in from_in
  parts_again = rw (f₀, reserved, no_bits) refl

  pub header_again : header_block 0 0 (body_of b).countdown g m ≡ b
  header_again =
      let a = again in
      let r = room_is in
      let f = fits in
      let w = header_layout (shape_for 0 g) in
      let room : 124 - sdu_at (shape_for 0 g) ≡ length inside = rw first_is (sym r) in
      let tot : total (parts_in 0 w b) ≡ first = omega (arith, first_is) in
      let front : pack (header_parts (body_of b).fill 0 0 (body_of b).countdown g) ≡ take first b =
      ap pack parts_again ∙ pack_read 0 w b (omega arith) ∙ ap (λ (n : ℕ). take n b) tot in
      let zeros : replicate 4 false ≡ drop 124 b =
      sym (bits_n_zero 4) ∙ ap (bits_n 4) (sym pad)
      ∙ bits_n_is 4 (field 124 4 b) (take 4 (drop 124 b))
      (rw (length-take 4 (drop 124 b), length-drop 124 b) (omega arith)) refl
      ∙ take_all 4 (drop 124 b) (rw (length-drop 124 b) (omega arith)) in
      let whole : take first b ++ (inside ++ drop 124 b) ≡ b =
      ap (λ (x : List Bool). x ++ (inside ++ drop 124 b)) (sym (take-take first 124 b f))
      ∙ sym (append_assoc (take first (take 124 b)) inside (drop 124 b))
      ∙ ap (λ (x : List Bool). x ++ drop 124 b) (take-append-drop first (take 124 b))
      ∙ take-append-drop 124 b in
      rw (room, a.1, ← a.0, zeros, front) whole

-- what was read fits its elements
pub record Small (countdown : ℕ) (g : Fields) : Type 0 where
  pub falls : countdown < 2 ^ 2
  pub mni : g.mni < 2 ^ 24
  pub message : g.message < 2 ^ 5
  pub to : g.destination.ssi < 2 ^ address_width g.destination.kind
  pub from : g.source.ssi < 2 ^ address_width g.source.kind

pub small : (b : List Bool) → Small (body_of b).countdown (fields_of b)
unfolding body_of to_in from_in
small b =
    let at = tail_of b in
    let d = address_width (to_in at b) in
    let s = address_width (from_in at b) in
    record {
      falls = num_take_lt 2 (drop (12 + 4 * fragmented_in b) b);
      mni = num_take_lt 24 (drop (at + 2 + d + 2 + s) b);
      message = num_take_lt 5 (drop (at + 2 + d + 2 + s + 24) b);
      to = num_take_lt d (drop (at + 2) b);
      from = num_take_lt s (drop (at + 2 + d + 2) b);
    }

-- ---- both, from what was read

answered_fault : (n : ℕ) (r : Header) → r.fault ≡ 0 → (answered n r).fault ≡ n
answered_fault zero r e = e
answered_fault (suc n) r e = refl

module _ (s h : List ℕ) (good : (read_header s h).fault ≡ 0) (plain : (read_header s h).fragmented ≡ 0)
    (r₃ : element sync_layout 3 (bits_of s) ≡ 0)
    (r₈ : element sync_layout 8 (bits_of s) ≡ 0) (r₀ : field 0 10 (bits_of h) ≡ 0) where
  abbrev S : List Bool
  S = bits_of s

  abbrev H : List Bool
  H = bits_of h

  none : header_fault s h ≡ 0
  unfolding read_header
  none = sym (answered_fault (header_fault s h) (header_of (sync_of S) H) refl) ∙ good

  pub read_is : read_header s h ≡ header_of (sync_of S) H
  unfolding read_header
  read_is = ap (λ (n : ℕ). answered n (header_of (sync_of S) H)) none

  abbrev checks : (first_of (sync_checks s h) ≡ 0) × (first_of (body_checks H) ≡ 0)
  checks = chain_split (sync_checks s h) (body_checks H) none

  sync_rules_lem : SyncHolds s h
  sync_rules_lem = sync_holds s h checks.0

  body_rules_lem : BodyHolds H
  body_rules_lem = body_holds H checks.1

  plain_is : fragmented_in H ≡ 0
  unfolding body_of fragmented_in
  plain_is = sym (ap (λ (r : Header). r.fragmented) read_is) ∙ plain

  pub length_s : length s ≡ 8
  length_s = sync_rules_lem.length_s

  pub length_h : length h ≡ 16
  length_h = sync_rules_lem.length_h

  pub sync_same : pack (sync_parts (sync_of S)) ≡ S
  sync_same =
      let r = sync_rules_lem in
      sync_again S (rw (length_bits_of s, length_s) refl) r.type r.communication r₃ r.encryption r₈ r.pad

  length_header_lem : length H ≡ 128
  length_header_lem = rw (length_bits_of h, length_h) refl

  abbrev message : List Bool
  message = bits_of_message (message_of_header (body_of H) H)

  abbrev fields : Fields
  fields = fields_of H

  pub header_same : header_block 0 0 (body_of H).countdown fields message ≡ H
  header_same = header_again H length_header_lem plain_is body_rules_lem r₀ sync_rules_lem.pad_h

  -- the run of elements that was read is the table's
  abbrev at : ℕ
  at = tail_of H

  abbrev w : ℕ
  w = width_in at H

  abbrev run : List Bool
  run = drop (run_in at H) H

  first_run : (body_of H).tail.first ≡ run_in at H + w
  unfolding body_of
  first_run = refl

  run_length : length (take w run) ≡ w
  run_length =
      let f = body_rules_lem.rules.tail.fits in
      let p = first_run in
      rw (length-take w run, length-drop (run_in at H) H) (omega (arith, length_header_lem))

  listed : (entry_of fields.message).width ≤ 254
  unfolding body_of message_in width_in
  listed =
      let l = body_rules_lem.rules.tail.listed in
      let r = entry_le (message_in at H) run in
      omega arith

  table : width_of (entry_of fields.message) (bits_n fields.width fields.elements) ≡ fields.width
  unfolding body_of message_in width_in
  table =
      rw (bits_n_is w (num (take w run)) (take w run) run_length refl)
      (width_alone (message_in at H) (take w run) (drop w run) (rw (take-append-drop w run) (sym run_length))
      ∙ run_length)

  pub run_fits_lem : run_fits fields.message fields.width fields.elements ≡ true
  unfolding run_fits body_of
  run_fits_lem =
      let e = bits_n fields.width fields.elements in
      rw (
        le-leb (entry_of fields.message).width 254 listed,
        lt-ltb fields.elements (2 ^ fields.width) (num_take_lt w run),
        eq-eqb (width_of (entry_of fields.message) e) fields.width table,
      ) refl

  pub fits_header_lem : fits_header (header_bits fields) (length message) ≡ true
  fits_header_lem =
      let m = message_fits H length_header_lem plain_is body_rules_lem r₀ sync_rules_lem.pad_h in
      let f = first_is H length_header_lem plain_is body_rules_lem r₀ sync_rules_lem.pad_h in
      le-leb (length message + header_bits fields) 124 (omega (arith, m, f))

  pub in_range_again : {bytes lent : ℕ} → length message ≤ 8 * bytes → 24 ≤ lent
      → InRange (sync_of S) (body_of H).countdown fields (length message) bytes lent
  unfolding sync_of
  in_range_again l r =
      let t = body_rules_lem.rules.tail in
      record {
        numbers = record {
          lowest = sync_rules_lem.system;
          highest = let k = num_take_lt 4 (drop 0 S) in omega arith;
          first_frame = sync_rules_lem.first_frame;
          last_frame = sync_rules_lem.last_frame;
          usage = let k = num_take_lt 2 (drop 10 S) in omega arith;
          slot = let k = num_take_lt 2 (drop 12 S) in omega arith;
          countdown = let k = (small H).falls in omega arith;
          mni = (small H).mni;
          message = let k = (small H).message in omega arith;
        };
        destination = record { kind = let k = t.to in omega arith; ssi = (small H).to };
        source = record { kind = let k = t.from in omega arith; ssi = (small H).from };
        elements = record { run = run_fits_lem; lent = l };
        header = record { to = t.to; from = t.from; listed = listed; fits = rw fits_header_lem refl };
        blocks = record {
          count = rw (fits_header_lem, sub_self (length message)) (omega arith);
          room = rw (fits_header_lem, sub_self (length message)) r;
        };
      }

  -- and so do the bytes
  pub rebuilt : AllBytes s → AllBytes h → built_bytes (sync_of S) (body_of H).countdown fields message ≡ s ++ h
  unfolding built_bits
  rebuilt hs hh =
      let l : length (s ++ h) ≡ 24 = length-append s h ∙ omega (arith, length_s, length_h) in
      rw (
        fits_header_lem,
        sub_self (length message),
        take-length message,
        sync_same,
        header_same,
        append-nil (S ++ H),
        ← bits_of_append s h,
      )
      (ap₂ bytes_n (sym l) (sym (append-nil (bits_of (s ++ h)))) ∙ bytes_n_bits_of (s ++ h) [] (bytes_append s h hs hh))
