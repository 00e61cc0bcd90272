-- Reading every block of a build, and joining their message bits. Assumes nothing.
use mathlib.Core.Path.{◌≡◌, refl, ap, ap₂, ◌∙◌}
use mathlib.Core.Bool.{Bool, true, false, cond}
use mathlib.Core.List.{List, [], ◌∷◌, ◌++◌, append_assoc}
use Prim.Native.Nat.{ℕ, zero, suc, ◌+◌, ◌-◌, ◌*◌, ◌/◌, ◌≤◌, min}
use native.Mathlib.Omega.{arith}
use lib.Dec.{ltb, leb}
use lib.ListN.{length, take, drop, length-append, length-take, length-drop, take-append-drop}
use lib.Seq.{take_at, drop_at}
use borrow.Author.Tests.{leb-true, leb-false}
use Rattle.bits.specs.Bits.{bits_of}
use Rattle.bits.specs.Runs.{joined}
use Rattle.bits.proofs.Bytes.{length_bits_of, bits_of_take, bits_of_drop, length_bytes_n}
use Rattle.blocks.specs.Sdu.{fill_told, bits_of_message}
use Rattle.blocks.specs.Header.{sdu_at, body_of, message_of_header, read_header}
use Rattle.blocks.specs.Continuation.{block_message, read_continuation}
use Rattle.blocks.specs.Slots.{fits_header, in_header}
use Rattle.build.specs.Plan.{header_bits, fragmented_for, blocks_for}
use Rattle.build.specs.Build.{shape_for, continuation_block, continuation_blocks, last_when, built_bits, built_bytes}
use Rattle.build.specs.Build.{sch_s, sch_h, cut_blocks, sch_fs, block_bits, read_all, expected}
use Rattle.blocks.specs.declared.sync.Sync.{Sync}
use Rattle.blocks.specs.declared.header.Fields.{Fields}
use Rattle.build.proofs.BuildLaws.{length_block, told_le, fill_fits, take_le}
use Rattle.build.proofs.BuiltLaws.{inside_length, sync_bits, header_bits_lem, blocks_bits}
use Rattle.build.proofs.RangeLaws.{InRange, sync_fits, header_fits, width_is, width_narrow}
use Rattle.build.proofs.RoundTripLaws.{Reads, header_reads, header_message_lem, block_reads, block_message_lem}

last_le : (k : ℕ) → last_when k ≤ 1
last_le zero = omega arith
last_le (suc k) = omega arith

module _ (k : ℕ) (r more : List Bool) (bytes : List ℕ) (e : bits_of bytes ≡ continuation_blocks (suc k) r ++ more) where
  abbrev block : List Bool
  block = continuation_block (last_when k) (take 264 r)

  split : bits_of bytes ≡ block ++ (continuation_blocks k (drop 264 r) ++ more)
  split = e ∙ append_assoc block (continuation_blocks k (drop 264 r)) more

  length_first : length block ≡ 272
  length_first = length_block (last_when k) (take 264 r) (take_le 264 r)

  first_bits : bits_of (take 34 bytes) ≡ block
  first_bits =
      bits_of_take 34 bytes ∙ ap (take 272) split
      ∙ take_at block (continuation_blocks k (drop 264 r) ++ more) 272 length_first

  rest_bits : bits_of (drop 34 bytes) ≡ continuation_blocks k (drop 264 r) ++ more
  rest_bits =
      bits_of_drop 34 bytes ∙ ap (drop 272) split
      ∙ drop_at block (continuation_blocks k (drop 264 r) ++ more) 272 length_first

  first_length : length (take 34 bytes) ≡ 34
  first_length =
      let l : length (bits_of bytes) ≡ 272 + length (continuation_blocks k (drop 264 r) ++ more) =
      ap length split ∙ length-append block (continuation_blocks k (drop 264 r) ++ more)
      ∙ ap (λ (x : ℕ). x + length (continuation_blocks k (drop 264 r) ++ more)) length_first in
      rw (length-take 34 bytes) (omega (arith, length_bits_of bytes))

  first_message : bits_of_message (block_message (bits_of (take 34 bytes))) ≡ take 264 r
  first_message =
      rw (block_message_lem (last_when k) (take 264 r) (last_le k) (take_le 264 r) (take 34 bytes) first_length
      first_bits)
      refl

  first_reads : read_continuation (take 34 bytes)
      ≡ record { fault = 0; last = last_when k; first = 4; bits = min 264 (length r) }
  first_reads =
      block_reads (last_when k) (take 264 r) (last_le k) (take_le 264 r) (take 34 bytes) first_length first_bits
      ∙ ap (λ (x : ℕ). record { fault = 0; last = last_when k; first = 4; bits = x }) (length-take 264 r)

pub blocks_read : (k : ℕ) (r more : List Bool) (bytes : List ℕ) → bits_of bytes ≡ continuation_blocks k r ++ more
    → read_all (cut_blocks k bytes) ≡ expected k (length r)
blocks_read zero r more bytes e = refl
blocks_read (suc k) r more bytes e =
    ap₂ ◌∷◌ (first_reads k r more bytes e)
    (blocks_read k (drop 264 r) more (drop 34 bytes) (rest_bits k r more bytes e) ∙ ap (expected k) (length-drop 264 r))

pub blocks_joined : (k : ℕ) (r more : List Bool) (bytes : List ℕ) → bits_of bytes ≡ continuation_blocks k r ++ more
    → length r ≤ 264 * k
    → joined (block_bits (cut_blocks k bytes)) ≡ r
blocks_joined zero [] more bytes e l = refl
blocks_joined zero (x ∷ xs) more bytes e l = absurd (omega arith)
blocks_joined (suc k) r more bytes e l =
    ap₂ (λ (x y : List Bool). x ++ y) (first_message k r more bytes e)
    (blocks_joined k (drop 264 r) more (drop 34 bytes) (rest_bits k r more bytes e)
    (rw (length-drop 264 r) (omega arith)))
    ∙ take-append-drop 264 r

-- ---- the whole of a build

-- a message that does not fit the header needs a block
counted_when : (t : Bool) (h n : ℕ) → fits_header h n ≡ t → cond t true (leb h 120) ≡ true
    → cond t 0 1 ≤ (n - cond t n (120 - h) + 263) / 264
counted_when true h n f e = omega arith
counted_when false h n f e = let l = leb-false (n + h) 124 f in let k = leb-true h 120 e in omega arith

-- and so many blocks as hold what the header leaves, none of them needless
enough_when : (t : Bool) (h n : ℕ) → fits_header h n ≡ t → cond t true (leb h 120) ≡ true
    → n - cond t n (120 - h) ≤ 264 * ((n - cond t n (120 - h) + 263) / 264)
enough_when t h n f e = omega arith

module _ {y : Sync} {countdown : ℕ} {g : Fields} (m : List Bool) {bytes lent : ℕ}
    (k : InRange y countdown g (length m) bytes lent) (rest : List ℕ) where
  abbrev n : ℕ
  n = length m

  abbrev i : ℕ
  i = in_header (header_bits g) n

  abbrev out : List ℕ
  out = built_bytes y countdown g m ++ rest

  abbrev room : ℕ
  room = 124 - sdu_at (shape_for (fragmented_for g n) g)

  abbrev fill : ℕ
  fill = fill_told room (take i m)

  well : Reads y (fragmented_for g n) (blocks_for g n) countdown g (take i m)
  well =
      let f = header_fits k in
      record {
        sync = sync_fits k;
        system = k.numbers.lowest;
        first_frame = k.numbers.first_frame;
        last_frame = k.numbers.last_frame;
        parts =
            fill_fits (fragmented_for g n) (blocks_for g n) countdown fill g (told_le (ltb (length (take i m)) room))
            f.parts;
        counted = counted_when (fits_header (header_bits g) n) (header_bits g) n refl k.header.fits;
        to = k.header.to;
        from = k.header.from;
        table = width_is k;
        narrow = width_narrow k;
        room = rw (inside_length m k) f.room;
      }

  out_length : 24 + 34 * blocks_for g n ≤ length out
  out_length =
      rw (
        length-append (built_bytes y countdown g m) rest,
        length_bytes_n (24 + 34 * blocks_for g n) (built_bits y countdown g m),
      ) (omega arith)

  length_s : length (sch_s out) ≡ 8
  length_s = let l = out_length in rw (length-take 8 out) (omega arith)

  length_h : length (sch_h out) ≡ 16
  length_h = let l = out_length in rw (length-take 16 (drop 8 out), length-drop 8 out) (omega arith)

  -- reading the header of a build gives back what it was built from
  pub built_reads : read_header (sch_s out) (sch_h out)
      ≡ record {
        fault = 0;
        sync = y;
        fragmented = fragmented_for g n;
        count = blocks_for g n;
        countdown = countdown;
        fields = g;
        first = sdu_at (shape_for (fragmented_for g n) g);
        bits = i;
      }
  built_reads =
      header_reads well (sch_s out) (sch_h out) length_s length_h (sync_bits m k rest) (header_bits_lem m k rest)
      ∙ ap
      (λ
      (x : ℕ).
      record {
        fault = 0;
        sync = y;
        fragmented = fragmented_for g n;
        count = blocks_for g n;
        countdown = countdown;
        fields = g;
        first = sdu_at (shape_for (fragmented_for g n) g);
        bits = x;
      }) (inside_length m k)

  -- the blocks read as the kinds that are due, with so many bits
  pub built_blocks : read_all (sch_fs (blocks_for g n) out) ≡ expected (blocks_for g n) (n - i)
  built_blocks =
      blocks_read (blocks_for g n) (drop i m) (bits_of rest) (drop 24 out) (blocks_bits m k rest)
      ∙ ap (expected (blocks_for g n)) (length-drop i m)

  -- the message bits of the header and of the blocks, joined in order, are the message
  pub built_joined : joined
      (bits_of_message (message_of_header (body_of (bits_of (sch_h out))) (bits_of (sch_h out)))
      ∷ block_bits (sch_fs (blocks_for g n) out)) ≡ m
  built_joined =
      ap₂ (λ (x z : List Bool). x ++ z)
      (header_message_lem well (sch_s out) (sch_h out) length_s length_h (sync_bits m k rest)
      (header_bits_lem m k rest))
      (blocks_joined (blocks_for g n) (drop i m) (bits_of rest) (drop 24 out) (blocks_bits m k rest)
      (rw (length-drop i m) (enough_when (fits_header (header_bits g) n) (header_bits g) n refl k.header.fits)))
      ∙ take-append-drop i m
