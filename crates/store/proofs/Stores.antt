-- The laws of a store: its length, its bits, and what it holds after a join. Assumes nothing.
use mathlib.Core.Path.{◌≡◌, refl, sym, ap, ◌∙◌}
use mathlib.Core.Bool.{Bool, false}
use mathlib.Core.List.{List, [], ◌∷◌, ◌++◌, append_assoc}
use Prim.Native.Nat.{ℕ, zero, suc, ◌+◌, ◌-◌, ◌*◌, ◌≤◌, min}
use native.Mathlib.Nat.{add-zero, zero-add, sub-zero}
use native.Mathlib.Omega.{arith}
use lib.ListN.{length, take, drop, replicate, length-append, length-replicate}
use lib.Seq.{take_at}
use lib.Pow.{pow_pos}
use Rattle.bits.specs.Bits.{num, bits_of, bytes_n, over, AllBytes}
use Rattle.bits.proofs.Numbers.{bits_n_zero, num_bits_n}
use Rattle.bits.proofs.Bytes.{length_bits_of, length_bytes_n, bytes_n_bytes, bits_of_bytes_n, bits_of_inj}
use Rattle.bits.proofs.Over.{length_over, over_right}
use Rattle.store.specs.Store.{store_of, joined_to}

-- bytes are those of their bits
pub bytes_are : (n : ℕ) (s : List ℕ) (b : List Bool) → AllBytes s → length b ≡ 8 * n → bits_of s ≡ b → s ≡ bytes_n n b
bytes_are n s b hs l e = bits_of_inj s (bytes_n n b) hs (bytes_n_bytes n b) (e ∙ sym (bits_of_bytes_n n b l))

-- the bits of a store: those that it holds, and zeros
abbrev pub padded : List Bool → List Bool
padded b = b ++ replicate (4096 - length b) false

pub length_padded : (b : List Bool) → length b ≤ 4096 → length (padded b) ≡ 4096
length_padded b h =
    length-append b (replicate (4096 - length b) false) ∙ omega (arith, length-replicate (4096 - length b) false)

pub length_store : (b : List Bool) → length (store_of b) ≡ 512
unfolding store_of
length_store b = length_bytes_n 512 _

pub bits_store : (b : List Bool) → length b ≤ 4096 → bits_of (store_of b) ≡ padded b
unfolding store_of
bits_store b h = bits_of_bytes_n 512 (padded b) (length_padded b h)

-- the bits that a store holds are there
pub store_holds : (b : List Bool) → length b ≤ 4096 → take (length b) (bits_of (store_of b)) ≡ b
store_holds b h = rw (bits_store b h) (take_at b (replicate (4096 - length b) false) (length b) refl)

-- a store and how many bits it holds say which they are
pub store_inj : (a b : List Bool) → length a ≡ length b → length b ≤ 4096 → store_of a ≡ store_of b → a ≡ b
store_inj a b l h e = sym (store_holds a (omega arith)) ∙ rw (l, e) (store_holds b h)

-- bytes whose bits are those of a store are that store
pub store_is : (s : List ℕ) (b : List Bool) → AllBytes s → length b ≤ 4096 → bits_of s ≡ padded b → s ≡ store_of b
unfolding store_of
store_is s b hs h e = bytes_are 512 s (padded b) hs (length_padded b h) e

-- ---- runs of one element

pub take_replicate : {A : Type 0} (k n : ℕ) (a : A) → take k (replicate n a) ≡ replicate (min k n) a
take_replicate zero n a = let e : min 0 n ≡ 0 = omega arith in rw e refl
take_replicate (suc k) zero a = let e : min (suc k) 0 ≡ 0 = omega arith in rw e refl
take_replicate (suc k) (suc n) a =
    let e : min (suc k) (suc n) ≡ suc (min k n) = omega arith in rw e (ap (◌∷◌ a) (take_replicate k n a))

pub drop_replicate : {A : Type 0} (k n : ℕ) (a : A) → drop k (replicate n a) ≡ replicate (n - k) a
drop_replicate zero n a = rw (sub-zero n) refl
drop_replicate (suc k) zero a = let e : 0 - suc k ≡ 0 = omega arith in rw e refl
drop_replicate (suc k) (suc n) a = let e : suc n - suc k ≡ n - k = omega arith in rw e (drop_replicate k n a)

num_zeros : (n : ℕ) → num (replicate n false) ≡ 0
num_zeros n = ap num (sym (bits_n_zero n)) ∙ num_bits_n n 0 (pow_pos n)

-- the bytes of zeros are zeros
pub bytes_zeros : (n m : ℕ) → bytes_n n (replicate m false) ≡ replicate n 0
unfolding bytes_n
bytes_zeros zero m = refl
bytes_zeros (suc n) m =
    rw (take_replicate 8 m false, num_zeros (min 8 m), drop_replicate 8 m false, bytes_zeros n (m - 8)) refl

pub store_nothing : store_of [] ≡ replicate 512 0
unfolding store_of
store_nothing = bytes_zeros 512 4096

-- ---- a join

join_bits : (b m : List Bool) → length b + length m ≤ 4096 → over (length b) m (padded b) ≡ padded (b ++ m)
unfolding over
join_bits b m h =
    let z = 4096 - length b in
    let e : z - length m ≡ 4096 - length (b ++ m) = omega (arith, length-append b m) in
    ap (λ (k : ℕ). over k m (padded b)) (sym (add-zero (length b)))
    ∙ over_right 0 m b (replicate z false)
    ∙ rw (
      zero-add (length m),
      drop_replicate (length m) z false,
      e,
      append_assoc b m (replicate (4096 - length (b ++ m)) false),
    )
    refl

-- bytes that bits were written over
pub joined_is : (old new : List ℕ) (at : ℕ) (m : List Bool) → AllBytes new → length old ≡ 512 → at + length m ≤ 4096
    → bits_of new ≡ over at m (bits_of old) → new ≡ joined_to old at m
unfolding joined_to
joined_is old new at m hn l h e =
    bytes_are 512 new (over at m (bits_of old)) hn
    (length_over at m (bits_of old) (omega (arith, length_bits_of old)) ∙ omega (arith, length_bits_of old)) e

-- bits put in after those that a store holds are held too
pub store_join : (b m : List Bool) → length b + length m ≤ 4096
    → joined_to (store_of b) (length b) m ≡ store_of (b ++ m)
unfolding joined_to store_of
store_join b m h = ap (bytes_n 512) (rw (bits_store b (omega arith)) (join_bits b m h))
