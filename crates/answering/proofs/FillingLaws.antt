-- A calendar that is filled slot by slot. Assumes nothing.
use mathlib.Core.Path.{◌≡◌, refl, sym, ap, ◌∙◌}
use mathlib.Core.Bool.{Bool, true, false}
use mathlib.Core.List.{List, [], ◌∷◌, ◌++◌, append-nil, append_assoc}
use Prim.Native.Nat.{ℕ, zero, suc, ◌+◌, ◌*◌, ◌-◌, ◌/◌, ◌%◌, ◌≤◌, ◌<◌}
use native.Mathlib.Omega.{arith}
use lib.ListN.{length, get_or, take, drop, set, replicate, length-append, length-drop}
use lib.Seq.{set_at, take-suc, take-length, get_or-drop, length-take-le}
use Rattle.blocks.specs.Slots.{passing}
use Rattle.answering.specs.Calendar.{first_frame, header_at, end_at, headers, passed_over, has_end, ends, slots_from}
use Rattle.answering.specs.Calendar.{slots, Fits, no_slot, with_slots}
use Rattle.answering.specs.declared.Response.{Response}
use Rattle.answering.specs.declared.Slot.{Slot}
use Rattle.answering.specs.declared.Calendar.{Calendar}
use Rattle.answering.proofs.FrameLaws.{limit_4, over_few}

-- ---- the headers by their number

same_header : (x : ℕ) {k k' s s' n n' : ℕ} → k ≡ k' → s ≡ s' → n ≡ n' → header_at x k s n ≡ header_at x k' s' n'
same_header x a b c = cc

pub headers_length : (x k m : ℕ) → length (headers x k m) ≡ 2 * m
headers_length x k zero = refl
headers_length x k (suc m) = let e = headers_length x (suc k) m in omega arith

pub header_by : (x k m i : ℕ) → i < 2 * m
    → get_or (headers x k m) i no_slot ≡ header_at x (k + i / 2) (1 + 2 * (i % 2)) (m - 1 - i / 2)
header_by x k zero i l = absurd (omega arith)
header_by x k (suc m) zero l = same_header x (omega arith) (omega arith) (omega arith)
header_by x k (suc m) (suc zero) l = same_header x (omega arith) (omega arith) (omega arith)
header_by x k (suc m) (suc (suc i)) l =
    header_by x (suc k) m i (omega arith) ∙ same_header x (omega arith) (omega arith) (omega arith)

-- ---- nine slots, of which the first j are filled

abbrev pub filled_to : ℕ → List Slot → List Slot
filled_to j l = take j l ++ replicate (9 - j) no_slot

fill : (a : List Slot) (s : Slot) (j : ℕ) → length a ≡ j → j < 9
    → set (a ++ replicate (9 - j) no_slot) j s ≡ (a ++ (s ∷ [])) ++ replicate (9 - suc j) no_slot
fill a s j e l =
    let n : 9 - j ≡ suc (9 - suc j) = omega arith in
    rw n
    (set_at a no_slot (replicate (9 - suc j) no_slot) s j e
    ∙ sym (append_assoc a (s ∷ []) (replicate (9 - suc j) no_slot)))

fill_one : (l : List Slot) (j : ℕ) → j < length l → j < 9
    → set (filled_to j l) j (get_or l j no_slot) ≡ filled_to (suc j) l
fill_one l j m n =
    fill (take j l) (get_or l j no_slot) j (length-take-le j l (omega arith)) n
    ∙ ap (λ (a : List Slot). a ++ replicate (9 - suc j) no_slot) (sym (take-suc l j no_slot m))

-- a calendar with these, and with one more
abbrev pub holding : ℕ → List Slot → Calendar
holding n l = record { fault = 0; count = n; slots = l }

filled_all : (l : List Slot) (n : ℕ) → length l ≡ n → holding n (filled_to n l) ≡ with_slots l
filled_all l n e = rw (← e, take-length l) refl

filled_more : (l : List Slot) (s : Slot) (n : ℕ) → length l ≡ n → n < 9
    → holding (n + 1) (set (filled_to n l) n s) ≡ with_slots (l ++ (s ∷ []))
filled_more l s n e m =
    let t : take n l ≡ l = rw (← e) (take-length l) in
    let z : suc n ≡ length (l ++ (s ∷ [])) = rw (length-append l (s ∷ []), e) (omega arith) in
    let w : n + 1 ≡ suc n = omega arith in
    rw (t, fill l s n e m, w, z) refl

-- ---- what the code puts in: the headers from slot `over` on, one by one, and a DMAC-END

module _ (x k m over : ℕ) (least : 1 ≤ m) (few : m ≤ 4) (one : over ≤ 1) where
  abbrev pub these : List Slot
  these = drop over (headers x k m)

  these_length : length these ≡ 2 * m - over
  these_length = rw (length-drop over (headers x k m), headers_length x k m) refl

  pub next_header : (i : ℕ) → over ≤ i → i < 2 * m
      → set (filled_to (i - over) these) (i - over) (header_at x (k + i / 2) (1 + 2 * (i % 2)) (m - 1 - i / 2))
      ≡ filled_to (i + 1 - over) these
  next_header i l h =
      let n : over + (i - over) ≡ i = omega arith in
      let z : suc (i - over) ≡ i + 1 - over = omega arith in
      let e = these_length in
      let g : get_or these (i - over) no_slot ≡ get_or (headers x k m) i no_slot =
      get_or-drop over (headers x k m) (i - over) no_slot ∙ ap (λ (j : ℕ). get_or (headers x k m) j no_slot) n in
      ap (λ (s : Slot). set (filled_to (i - over) these) (i - over) s) (sym (header_by x k m i h) ∙ sym g)
      ∙ fill_one these (i - over) (omega arith) (omega arith) ∙ ap (λ (j : ℕ). filled_to j these) z

  pub without_end : holding (2 * m - over) (filled_to (2 * m - over) these) ≡ with_slots (slots_from x k m over false)
  without_end = filled_all these (2 * m - over) these_length ∙ ap with_slots (sym (append-nil these))

  pub with_end : holding (2 * m - over + 1)
      (set (filled_to (2 * m - over) these) (2 * m - over) (end_at x (passing x (k + m))))
      ≡ with_slots (slots_from x k m over true)
  with_end = filled_more these (end_at x (passing x (k + m))) (2 * m - over) these_length (omega arith)

-- ---- how many slots there are: one at least, and at most nine

ends_length : (told : Bool) (x k : ℕ) → length (ends told x k) ≤ 1
ends_length true x k = omega arith
ends_length false x k = omega arith

pub slots_length : (r : Response) → Fits r → (1 ≤ length (slots r)) × (length (slots r) ≤ 9)
slots_length r f =
    let x = r.frame in
    let k = first_frame r in
    let m = r.frames in
    let over = passed_over r.slot1 in
    let l = limit_4 r f in
    let n = f.frames in
    let o = over_few r.slot1 in
    let a = length-append (drop over (headers x k m)) (ends (has_end r) x (k + m)) in
    let d = these_length x k m over n.0 (omega arith) o in
    let e = ends_length (has_end r) x (k + m) in
    (omega arith, omega arith)
