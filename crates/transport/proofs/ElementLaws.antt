-- The laws of a DM-SDU's elements. Assumes nothing.
use mathlib.Core.Path.{◌≡◌, refl, sym, ap, ◌∙◌}
use mathlib.Core.Bool.{Bool, true, false, cond}
use mathlib.Core.List.{List}
use Prim.Native.Nat.{ℕ, suc, ◌+◌, ◌-◌, ◌*◌, ◌/◌, ◌%◌, ◌^◌, ◌≤◌, ◌<◌, min}
use native.Mathlib.Nat.{add-zero, zero-mul, mul_assoc, pow-suc, mod-lt}
use native.Mathlib.Omega.{arith}
use lib.Dec.{eqb, ltb}
use lib.Bits.{bit_and, and_mask}
use lib.ListN.{length, take, drop, length-take, length-drop}
use lib.Pow.{pow_pos, pow-add, shl_exact, shr-shr, high}
use lib.Seq.{drop-drop}
use borrow.Author.Tests.{lt-ltb, le-ltb, ne_eqb, ltb-true, ltb-false}
use Rattle.bits.specs.Bits.{bits_of, num, field, Got}
use Rattle.bits.proofs.Numbers.{take_of_drop, num_field, ones_of}
use Rattle.bits.proofs.Bytes.{length_bits_of}
use Rattle.transport.specs.Layouts.{per, forward_width}
use Rattle.transport.specs.Elements.{whole}
use Rattle.transport.specs.Runs.{cut, run_in, stored_at}

-- ---- widths

per_when : (m a b c d : ℕ) (t₁ t₂ t₃ t₄ : Bool) → a ≤ m → b ≤ m → c ≤ m → d ≤ m
    → cond t₁ a (cond t₂ b (cond t₃ c (cond t₄ d 0))) ≤ m
per_when m a b c d true t₂ t₃ t₄ ha hb hc hd = ha
per_when m a b c d false true t₃ t₄ ha hb hc hd = hb
per_when m a b c d false false true t₄ ha hb hc hd = hc
per_when m a b c d false false false true ha hb hc hd = hd
per_when m a b c d false false false false ha hb hc hd = omega arith

-- none is above what each kind has
pub per_le : (m kind a b c d : ℕ) → a ≤ m → b ≤ m → c ≤ m → d ≤ m → per kind a b c d ≤ m
per_le m kind a b c d ha hb hc hd = per_when m a b c d (eqb kind 1) (eqb kind 2) (eqb kind 3) (eqb kind 4) ha hb hc hd

forward_when : (t u : Bool) → cond t 24 (cond u 48 0) ≤ 48
forward_when true u = omega arith
forward_when false true = omega arith
forward_when false false = omega arith

pub forward_le : (forward : ℕ) → forward_width forward ≤ 48
forward_le forward = forward_when (eqb forward 1) (eqb forward 2)

-- ---- what stands in the first n of the lent bits

pub length_sdu : (n : ℕ) (s : List ℕ) → n ≤ 8 * length s → length (take n (bits_of s)) ≡ n
length_sdu n s h = rw (length-take n (bits_of s)) (omega (arith, length_bits_of s))

-- ---- runs of bits

pub cut_lt : (after w x : ℕ) → cut after w x < 2 ^ w
unfolding cut
cut_lt after w x = mod-lt (x / 2 ^ after) (pow_pos w)

-- `(x >> after) & ((1 << w) - 1)`
pub part_code : (x after w : ℕ) → w ≤ 56 → bit_and (x / 2 ^ after) (1 * 2 ^ w % 2 ^ 64 - 1) ≡ cut after w x
unfolding cut
part_code x after w h = rw (ones_of w (omega arith)) (and_mask (x / 2 ^ after) w)

-- nothing of a run is there
pub run_none : (place w : ℕ) (b : List Bool) → length b ≤ place → run_in place w b ≡ 0
unfolding run_in num
run_none place w b h = let e : min (length b - place) w ≡ 0 = omega arith in rw e (zero-mul (2 ^ (w - 0)))

-- what is there, and 0s
pub run_code : (place w m n r : ℕ) (s : List ℕ) → n ≤ 8 * length s → place ≤ n → w ≤ 56 → m ≡ min (n - place) w
    → Got (bits_of s) place m r → r * 2 ^ (w - m) % 2 ^ 64 ≡ run_in place w (take n (bits_of s))
unfolding run_in
run_code place w m n r s h l u e g =
    let there : place + m ≤ n = omega arith in
    let few : m + (w - m) ≤ 64 = omega arith in
    rw (length_sdu n s h, ← e, take_of_drop m place n (bits_of s) there, ← g.is) (shl_exact m (w - m) 64 g.small few)

shl_shr : (v a : ℕ) → v * 2 ^ a / 2 ^ a ≡ v
shl_shr v a = ap (λ (y : ℕ). y / 2 ^ a) (sym (add-zero (v * 2 ^ a))) ∙ high v a (pow_pos a)

-- an element of a run that is all there
pub part_is : (p w after m : ℕ) {place : ℕ} (b : List Bool) → place + m + after ≡ p + w → p ≤ place
    → place + m ≤ length b → cut after m (run_in p w b) ≡ whole place m b
unfolding cut run_in
part_is p w after m {place} b e l h =
    let j = min (length b - p) w in
    let k = place - p in
    let r = j - (k + m) in
    let x = take j (drop p b) in
    let lx : length x ≡ j = rw (length-take j (drop p b), length-drop p b) (omega arith) in
    let ea : after ≡ w - j + r = omega arith in
    let ex : k + m + r ≡ length x = rw lx (omega arith) in
    let ek : k + m ≤ j = omega arith in
    let ep : p + k ≡ place = omega arith in
    let up : num x * 2 ^ (w - j) / 2 ^ (w - j) ≡ num x = shl_shr (num x) (w - j) in
    let shifted : num x * 2 ^ (w - j) / 2 ^ after ≡ num x / 2 ^ r =
    ap (λ (y : ℕ). num x * 2 ^ (w - j) / 2 ^ y) ea ∙ sym (shr-shr (num x * 2 ^ (w - j)) (w - j) r)
    ∙ ap (λ (y : ℕ). y / 2 ^ r) up in
    let own : num x / 2 ^ r % 2 ^ m ≡ field place m b =
    num_field x k m r ex ∙ ap num (take_of_drop m k j (drop p b) ek)
    ∙ ap (λ (y : List Bool). num (take m y)) (drop-drop k p b)
    ∙ ap (λ (y : ℕ). field y m b) ep in
    rw (le-ltb (length b) (place + m) h) (ap (λ (y : ℕ). y % 2 ^ m) shifted ∙ own)

-- one bit of a run that is not there
bit_past : (p w after : ℕ) (b : List Bool) → after + 1 ≤ w → length b - p + (after + 1) ≤ w
    → cut after 1 (run_in p w b) ≡ 0
unfolding cut run_in
bit_past p w after b h u =
    let j = min (length b - p) w in
    let x = num (take j (drop p b)) in
    let r = w - j - (after + 1) in
    let e : w - j ≡ suc r + after = omega arith in
    let split : x * 2 ^ (w - j) ≡ x * 2 ^ r * 2 * 2 ^ after =
    ap (λ (y : ℕ). x * 2 ^ y) e
    ∙ rw (pow-add 2 (suc r) after, pow-suc 2 r, ← mul_assoc x (2 ^ r * 2) (2 ^ after), ← mul_assoc x (2 ^ r) 2) refl in
    ap (λ (y : ℕ). y / 2 ^ after % 2 ^ 1) split ∙ ap (λ (y : ℕ). y % 2 ^ 1) (shl_shr (x * 2 ^ r * 2) after)
    ∙ omega arith

-- one bit of a run, there or not
bit_when : (p w after : ℕ) {place : ℕ} (b : List Bool) (t : Bool) → ltb (length b) (place + 1) ≡ t
    → place + 1 + after ≡ p + w → p ≤ place → cut after 1 (run_in p w b) ≡ whole place 1 b
bit_when p w after {place} b false t e l = part_is p w after 1 b e l (ltb-false (length b) (place + 1) t)
bit_when p w after {place} b true t e l =
    let h = ltb-true (length b) (place + 1) t in rw t (bit_past p w after b (omega arith) (omega arith))

pub bit_is : (p w after : ℕ) {place : ℕ} (b : List Bool) → place + 1 + after ≡ p + w → p ≤ place
    → cut after 1 (run_in p w b) ≡ whole place 1 b
bit_is p w after {place} b e l = bit_when p w after b (ltb (length b) (place + 1)) refl e l

nothing_when : (t : Bool) {x : ℕ} → x ≡ 0 → 0 ≡ cond t 0 x
nothing_when true e = refl
nothing_when false e = sym e

-- of no bits
pub no_bits : (place : ℕ) (b : List Bool) → 0 ≡ whole place 0 b
unfolding num
no_bits place b = nothing_when (ltb (length b) (place + 0)) refl

-- not all there
pub not_there : (place w : ℕ) (b : List Bool) → length b < place + w → whole place w b ≡ 0
not_there place w b h = rw (lt-ltb (length b) (place + w) h) refl

-- ---- what hangs on storage

pub forward_le_of : {w : ℕ} (forward : ℕ) → w ≡ forward_width forward → w ≤ 48
forward_le_of forward e = rw e (forward_le forward)

pub stored_code : (place storage : ℕ) (b : List Bool) {x f w v a : ℕ} → (storage ≡ 0 → ⊥) → x ≡ run_in place 56 b
    → f ≡ cut 48 3 x → w ≡ forward_width f → v ≡ cut 51 5 x → a ≡ cut (48 - w) w x
    → record { validity = v; forward = f; address = a; typed = place + 8; next = place + 8 + w }
    ≡ stored_at place storage b
unfolding stored_at
stored_code place storage b h ex ef ew ev ea = rw (ne_eqb storage 0 h, ea, ev, ew, ef, ex) refl
