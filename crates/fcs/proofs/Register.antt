-- The laws of the register of the division, as a string. Assumes nothing.
use mathlib.Core.Path.{◌≡◌, refl, sym, ap, ap₂, ◌∙◌}
use mathlib.Core.Bool.{Bool, true, false, not, xor}
use mathlib.Core.List.{List, [], ◌∷◌, ◌++◌, append_assoc, map}
use Prim.Native.Nat.{ℕ, zero, suc, ◌+◌, ◌≤◌}
use native.Mathlib.Omega.{arith}
use lib.ListN.{length, take, drop, take-append-drop, length-append, length-take, length-drop, length-map}
use lib.ListN.{length-replicate, replicate-append-replicate}
use Rattle.bits.proofs.Numbers.{length_bits_n}
use Rattle.fcs.specs.Polynomials.{zeros, mixed, times, step, remainder}
use Rattle.fcs.specs.Annex.{generator, started, remainder_of}
use Rattle.fcs.specs.Register.{ones, fed, turns}
use Rattle.fcs.proofs.Polynomials.{mixed_comm, mixed_assoc, mixed_zeros, mixed_front, mixed_after, length_mixed}
use Rattle.fcs.proofs.Polynomials.{remainder_mixed, remainder_add, remainder_front, length_remainder, step_cons}
use Rattle.fcs.proofs.Annex.{lower, generator_is, length_generator}

pub length_zeros_after : (a : List Bool) (k : ℕ) → length (a ++ zeros k) ≡ length a + k
length_zeros_after a k = length-append a (zeros k) ∙ ap (λ (n : ℕ). length a + n) (length-replicate k false)

-- ---- turns

pub length_turns : (k : ℕ) (c : List Bool) → length c ≡ 32 → length (turns k c) ≡ 32
unfolding turns
length_turns k c e =
    length_remainder generator (c ++ zeros k) k 32 (length_zeros_after c k ∙ omega arith)
    (omega (arith, length_generator))

-- turns after turns
pub turns_add : (j k : ℕ) (c : List Bool) → length c ≡ 32 → turns (j + k) c ≡ turns k (turns j c)
unfolding turns
turns_add j k c e =
    let z : zeros (j + k) ≡ zeros j ++ zeros k = sym (replicate-append-replicate j k false) in
    let l : length (c ++ zeros j) ≡ j + 32 = length_zeros_after c j ∙ omega arith in
    remainder_add generator j k (c ++ zeros (j + k))
    ∙ ap (λ (x : List Bool). remainder generator k (remainder generator j x))
    (ap (λ (x : List Bool). c ++ x) z ∙ sym (append_assoc c (zeros j) (zeros k)))
    ∙ ap (remainder generator k)
    (remainder_front generator (c ++ zeros j) (zeros k) j 32 l (omega (arith, length_generator)))

-- ---- bits that come in

pub length_fed : (c b : List Bool) → length c ≡ 32 → length (fed c b) ≡ 32
unfolding fed
length_fed c b e =
    let t = b ++ zeros 32 in
    let l = length_zeros_after b 32 in
    length_remainder generator (mixed c t) (length b) 32
    (ap length (mixed_comm c t) ∙ length_mixed t c (omega arith) ∙ l) (omega (arith, length_generator))

-- no bits
pub fed_nil : (c : List Bool) → length c ≡ 32 → fed c [] ≡ c
unfolding fed remainder
fed_nil c e = mixed_zeros c 32 (omega arith)

-- as many steps as there are 0s in front leave the rest
step_zero : (w : List Bool) → 32 ≤ length w → step generator (false ∷ w) ≡ w
unfolding times
step_zero w h =
    rw generator_is
    (step_cons false w lower ∙ mixed_zeros w (length lower) (omega (arith, length_bits_n 32 0x04c11db7)))

over_zeros : (n : ℕ) (t : List Bool) → 32 ≤ length t → remainder generator n (zeros n ++ t) ≡ t
unfolding remainder
over_zeros zero t h = refl
over_zeros (suc n) t h =
    let l = length-append (zeros n) t in
    ap (remainder generator n) (step_zero (zeros n ++ t) (omega arith)) ∙ over_zeros n t h

-- 0s before a string do not count
pub remainder_after : (j : ℕ) (a : List Bool) → remainder_of (zeros j ++ a) ≡ remainder_of a
unfolding remainder_of
remainder_after j a =
    let t = a ++ zeros 32 in
    let l : length (zeros j ++ a) ≡ j + length a =
    length-append (zeros j) a ∙ ap (λ (k : ℕ). k + length a) (length-replicate j false) in
    ap₂ (remainder generator) l (append_assoc (zeros j) a (zeros 32))
    ∙ remainder_add generator j (length a) (zeros j ++ t)
    ∙ ap (remainder generator (length a)) (over_zeros j t (omega (arith, length_zeros_after a 32)))

-- the bits a come in with the register over them; what is left of both stands over what follows
fed_front : (c a t : List Bool) → 32 ≤ length t → remainder generator (length a) (mixed c (a ++ t)) ≡ mixed (fed c a) t
unfolding fed
fed_front c a t n =
    let r = remainder generator (length a) in
    let z = zeros (length a) ++ t in
    let over : mixed (zeros 32) t ≡ t = mixed_comm (zeros 32) t ∙ mixed_zeros t 32 n in
    let apart : a ++ t ≡ mixed (a ++ zeros 32) z =
    sym (mixed_after a (zeros 32) t ∙ ap (λ (x : List Bool). a ++ x) over) in
    ap (λ (x : List Bool). r (mixed c x)) apart
    ∙ ap r (sym (mixed_assoc c (a ++ zeros 32) z))
    ∙ remainder_mixed generator (length a) (mixed c (a ++ zeros 32)) z
    ∙ ap (mixed (fed c a)) (over_zeros (length a) t n)

-- bits that come in after others
pub fed_append : (c a b : List Bool) → fed c (a ++ b) ≡ fed (fed c a) b
unfolding fed
fed_append c a b =
    let t = b ++ zeros 32 in
    ap₂ (λ (k : ℕ) (x : List Bool). remainder generator k (mixed c x)) (length-append a b) (append_assoc a b (zeros 32))
    ∙ remainder_add generator (length a) (length b) (mixed c (a ++ t))
    ∙ ap (remainder generator (length b)) (fed_front c a t (omega (arith, length_zeros_after b 32)))

-- up to 32 bits are taken in at once, and then turned
pub fed_turns : (c b : List Bool) (j : ℕ) → length c ≡ 32 → length b + j ≡ 32
    → fed c b ≡ turns (length b) (mixed c (b ++ zeros j))
unfolding fed turns
fed_turns c b j e h =
    let k = length b in
    let w : 32 ≡ j + k = omega arith in
    let z : zeros 32 ≡ zeros j ++ zeros k = ap zeros w ∙ sym (replicate-append-replicate j k false) in
    ap (remainder generator k)
    (ap (λ (x : List Bool). mixed c (b ++ x)) z
    ∙ ap (mixed c) (sym (append_assoc b (zeros j) (zeros k)))
    ∙ mixed_comm c ((b ++ zeros j) ++ zeros k)
    ∙ mixed_front (b ++ zeros j) (zeros k) c (omega (arith, length_zeros_after b j))
    ∙ ap (λ (x : List Bool). x ++ zeros k) (mixed_comm (b ++ zeros j) c))

-- the bits that go out in k turns come back as their remainder
pub turns_parts : (k : ℕ) (c : List Bool) → length c ≡ 32 → k ≤ 32
    → turns k c ≡ mixed (remainder_of (take k c)) (drop k c ++ zeros k)
unfolding turns remainder_of fed mixed
turns_parts k c e h =
    let a = take k c in
    let d = drop k c in
    let n : length a ≡ k = length-take k c ∙ omega arith in
    let l : 32 ≤ length (d ++ zeros k) = omega (arith, length_zeros_after d k, length-drop k c) in
    let z : c ++ zeros k ≡ a ++ (d ++ zeros k) =
    ap (λ (x : List Bool). x ++ zeros k) (sym (take-append-drop k c)) ∙ append_assoc a d (zeros k) in
    ap₂ (remainder generator) (sym n) z ∙ fed_front [] a (d ++ zeros k) l

-- ---- what a frame begins with

pub length_ones : (w n : ℕ) → length (ones w n) ≡ w
unfolding ones
length_ones zero n = refl
length_ones (suc w) zero = length-replicate (suc w) false
length_ones (suc w) (suc n) = ap suc (length_ones w n)

-- the 1s complement the frame's first bits
complements : (w : ℕ) (m z : List Bool) → w ≤ length z
    → map not (take w m) ++ drop w m ++ z ≡ mixed (ones w (length m)) (m ++ z)
unfolding ones mixed xor
complements zero m z h = refl
complements (suc w) [] z h = sym (mixed_comm (zeros (suc w)) z ∙ mixed_zeros z (suc w) h)
complements (suc w) (true ∷ m) z h = ap (λ (x : List Bool). false ∷ x) (complements w m z (omega arith))
complements (suc w) (false ∷ m) z h = ap (λ (x : List Bool). true ∷ x) (complements w m z (omega arith))

length_started : (m : List Bool) → length (started m) ≡ length m
unfolding started
length_started m =
    let l = length-map (take 32 m) not in
    length-append (map not (take 32 m)) (drop 32 m) ∙ omega (arith, length-take 32 m, length-drop 32 m)

-- the remainder is what the register holds after the frame
pub fed_frame : (m : List Bool) → remainder_of (started m) ≡ fed (ones 32 (length m)) m
unfolding remainder_of fed started
fed_frame m = ap₂ (remainder generator) (length_started m) (complements 32 m (zeros 32) (omega arith))
