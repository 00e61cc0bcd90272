-- The laws of what the calls say. Assumes nothing.
use mathlib.Core.Path.{◌≡◌, refl}
use mathlib.Core.List.{List}
use Prim.Native.Nat.{ℕ, ◌+◌, ◌-◌, ◌≤◌, ◌<◌}
use native.Mathlib.Omega.{arith}
use lib.ListN.{length, take, drop, get_or}
use borrow.Author.Tests.{le-leb, lt-leb, ne_eqb}
use Rattle.blocks.specs.Header.{read_header}
use Rattle.blocks.specs.Continuation.{read_continuation}
use Rattle.blocks.specs.Slots.{due_of}
use Rattle.blocks.specs.declared.header.Header.{Header}
use Rattle.blocks.specs.declared.continuation.Continuation.{Continuation}
use Rattle.blocks.specs.declared.slots.Due.{Due}
use Rattle.lines.specs.Lines.{unknown_line, Stands, Says}
use Rattle.std.specs.Prelude.{Some, None}
use Rattle.probe_blocks.specs.Calls.{header_text, block_text, frame_text}
use Rattle.probe_blocks.specs.Calls.{build_line, header_line, block_line, frame_line, record_line}

pub block_said : (old body : List ℕ) {new : List ℕ} {b : Continuation} {n : ℕ} → b ≡ read_continuation body
    → Stands old (block_text b) new n → Says old (block_line body) new (Some n)
unfolding block_line
block_said old body e w = rw e at w

pub frame_short : (old body : List ℕ) → length body < 3 → Says old (frame_line body) old None
unfolding frame_line
frame_short old body h = rw (lt-leb 3 (length body) h) refl

pub frame_said : (old body : List ℕ) {new : List ℕ} {d : Due} {n : ℕ} → 3 ≤ length body
    → d ≡ due_of (get_or body 0 0) (get_or body 1 0) (get_or body 2 0) → Stands old (frame_text d) new n
    → Says old (frame_line body) new (Some n)
unfolding frame_line
frame_said old body h e w = rw (le-leb 3 (length body) h) (rw e at w)

abbrev end_of : List ℕ → ℕ
end_of body = 2 + get_or body 0 0 + get_or body 1 0

pub header_short : (old body : List ℕ) → length body < end_of body → Says old (header_line body) old None
unfolding header_line
header_short old body h = rw (lt-leb (end_of body) (length body) h) refl

pub header_said : (old body : List ℕ) (at end : ℕ) {new : List ℕ} {h : Header} {n : ℕ} → at ≡ 2 + get_or body 0 0
    → end ≡ at + get_or body 1 0 → end ≤ length body
    → h ≡ read_header (take (at - 2) (drop 2 body)) (take (end - at) (drop at body)) → Stands old (header_text h) new n
    → Says old (header_line body) new (Some n)
unfolding header_line
header_said old body at end p q l e w =
    let s : at - 2 ≡ get_or body 0 0 = omega arith in
    let t : end - at ≡ get_or body 1 0 = omega arith in
    rw (le-leb (end_of body) (length body) (omega arith)) (rw (e, s, t, p) at w)

-- ---- by the record's kind

module _ (kind : ℕ) (body : List ℕ) where
  pub line_5 : kind ≡ 5 → record_line kind body ≡ build_line body
  unfolding record_line
  line_5 e = rw e refl

  pub line_6 : kind ≡ 6 → record_line kind body ≡ header_line body
  unfolding record_line
  line_6 e = rw e refl

  pub line_7 : kind ≡ 7 → record_line kind body ≡ block_line body
  unfolding record_line
  line_7 e = rw e refl

  pub line_8 : kind ≡ 8 → record_line kind body ≡ frame_line body
  unfolding record_line
  line_8 e = rw e refl

  pub line_other : (kind ≡ 5 → ⊥) → (kind ≡ 6 → ⊥) → (kind ≡ 7 → ⊥) → (kind ≡ 8 → ⊥)
      → record_line kind body ≡ unknown_line
  unfolding record_line
  line_other a b c d = rw (ne_eqb kind 5 a, ne_eqb kind 6 b, ne_eqb kind 7 c, ne_eqb kind 8 d) refl
