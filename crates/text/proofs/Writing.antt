-- The laws of writing at a place. Assumes nothing.
use mathlib.Core.Path.{◌≡◌, refl, sym, ◌∙◌}
use mathlib.Core.List.{List, [], ◌∷◌, ◌++◌, append_assoc}
use Prim.Native.Nat.{ℕ, suc, ◌+◌, ◌-◌, ◌≤◌, ◌<◌}
use native.Mathlib.Nat.{add-zero}
use native.Mathlib.Omega.{arith}
use lib.ListN.{length, take, drop, get_or, set, length-append, length-take, length-drop, take-append-drop}
use lib.Seq.{drop-cons, set_at, take_at, drop_at, drop-drop}
use borrow.Rule.Slice.PartMut.{put_mid}
use Rattle.text.specs.Text.{written, Wrote}

length_written : (at : ℕ) (run old : List ℕ) → at + length run ≤ length old → length (written at run old) ≡ length old
unfolding written
length_written at run old h =
    rw (
      length-append (take at old) (run ++ drop (at + length run) old),
      length-append run (drop (at + length run) old),
      length-take at old,
      length-drop (at + length run) old,
    ) (omega arith)

written_none : (at : ℕ) (old : List ℕ) → written at [] old ≡ old
unfolding written
written_none at old = rw (add-zero at, take-append-drop at old) refl

-- what stands before the next place
length_start : (at : ℕ) (run old : List ℕ) → at ≤ length old → length (take at old ++ run) ≡ at + length run
length_start at run old h = rw (length-append (take at old) run, length-take at old) (omega arith)

-- one byte more
written_more : (at : ℕ) (run old : List ℕ) (b : ℕ) → at + length run < length old
    → set (written at run old) (at + length run) b ≡ written at (run ++ (b ∷ [])) old
unfolding written
written_more at run old b h =
    let n = at + length run in
    let e : at + length (run ++ (b ∷ [])) ≡ suc n = rw (length-append run (b ∷ [])) (omega arith) in
    rw (
      drop-cons old n 0 h,
      ← append_assoc (take at old) run (get_or old n 0 ∷ drop (suc n) old),
      set_at (take at old ++ run) (get_or old n 0) (drop (suc n) old) b n (length_start at run old (omega arith)),
      e,
      append_assoc (take at old) run (b ∷ drop (suc n) old),
      append_assoc run (b ∷ []) (drop (suc n) old),
    ) refl

-- one run after the other
written_both : (at : ℕ) (a b old : List ℕ) → at + length a ≤ length old
    → written (at + length a) b (written at a old) ≡ written at (a ++ b) old
unfolding written
written_both at a b old h =
    let p = take at old ++ a in
    let d = drop (at + length a) old in
    let l : length p ≡ at + length a = length_start at a old (omega arith) in
    let e : at + length (a ++ b) ≡ at + length a + length b = rw (length-append a b) (omega arith) in
    rw (
      ← append_assoc (take at old) a d,
      take_at p d (at + length a) l,
      ← drop-drop (length b) (at + length a) (p ++ d),
      drop_at p d (at + length a) l,
      drop-drop (length b) (at + length a) old,
      e,
      append_assoc (take at old) a (b ++ drop (at + length a + length b) old),
      append_assoc a b (drop (at + length a + length b) old),
    ) refl

-- ---- runs that were written

pub wrote_none : (old : List ℕ) (at : ℕ) → Wrote old at [] old at
wrote_none old at = record { bytes = sym (written_none at old); after = sym (add-zero at) }

pub wrote_more : (old : List ℕ) (at : ℕ) (run : List ℕ) {new : List ℕ} {next : ℕ} (b : ℕ) → Wrote old at run new next
    → next < length old → Wrote old at (run ++ (b ∷ [])) (set new next b) (next + 1)
wrote_more old at run b w h =
    record {
      bytes = rw (w.bytes, w.after) (written_more at run old b (omega (arith, w.after)));
      after = rw (w.after, length-append run (b ∷ [])) (omega arith);
    }

pub wrote_both : (old : List ℕ) (at : ℕ) (a b : List ℕ) {mid new : List ℕ} {next after : ℕ} → Wrote old at a mid next
    → Wrote mid next b new after → next ≤ length old → Wrote old at (a ++ b) new after
wrote_both old at a b u v h =
    record {
      bytes = v.bytes ∙ rw (u.bytes, u.after) (written_both at a b old (omega (arith, u.after)));
      after = rw (v.after, u.after, length-append a b) (omega arith);
    }

-- a run that was written leaves as many bytes
pub wrote_length : (old : List ℕ) (at : ℕ) (run : List ℕ) {new : List ℕ} {next : ℕ} → Wrote old at run new next
    → at + length run ≤ length old → length new ≡ length old
wrote_length old at run w h = rw w.bytes (length_written at run old h)

-- a run that a part of the bytes was made a copy of
pub wrote_part : (old : List ℕ) (at : ℕ) (run : List ℕ) {new : List ℕ} {end : ℕ}
    → new ≡ put_mid at (end - at) old run → end ≡ at + length run → Wrote old at run new end
unfolding written
wrote_part old at run {new} {end} e f =
    let same : end - at ≡ length run = omega arith in
    record { bytes = e ∙ rw (same, drop-drop (length run) at old) refl; after = f }

-- the same, where the part is said to be the run
pub wrote_copy : (old : List ℕ) (at : ℕ) (run part : List ℕ) → part ≡ run
    → Wrote old at run (put_mid at (at + length run - at) old part) (at + length run)
wrote_copy old at run part e = wrote_part old at run (rw e refl) refl
