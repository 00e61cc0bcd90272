-- The laws of a message's bytes, and of a lent buffer that they are handed over to. Assumes nothing.
use mathlib.Core.Path.{◌≡◌, refl, sym, ap, ◌∙◌}
use mathlib.Core.Bool.{Bool, false}
use mathlib.Core.List.{List, [], ◌∷◌, ◌++◌, append_assoc}
use Prim.Native.Nat.{ℕ, zero, suc, ◌+◌, ◌-◌, ◌*◌, ◌/◌, ◌≤◌, ◌<◌, min}
use native.Mathlib.Nat.{zero-add}
use native.Mathlib.Numerals.{add-one}
use native.Mathlib.Omega.{arith}
use lib.ListN.{length, take, drop, get_or, set, replicate, length-append, length-drop, length-replicate}
use lib.ListN.{take-append-drop}
use lib.Seq.{take-append-add, take-take, take_at, length-take-le, paste, paste-suc}
use Rattle.bits.specs.Bits.{num, bits_of, bytes_n, over, AllBytes}
use Rattle.bits.proofs.Numbers.{drop_of_take}
use Rattle.bits.proofs.Bytes.{length_bits_of, bits_of_append, bits_of_take, bits_of_drop, length_bytes_n, bytes_n_bytes}
use Rattle.bits.proofs.Bytes.{bits_of_bytes_n, bits_of_inj, bytes_append, bytes_drop}
use Rattle.bits.proofs.Over.{length_over, over_left}
use Rattle.store.specs.Store.{store_of, joined_to, message_bytes, handed, first_over}
use Rattle.store.proofs.Stores.{padded, bits_store, take_replicate}

pub length_message : (m : List Bool) → length (message_bytes m) ≡ (length m + 7) / 8
unfolding message_bytes
length_message m = length_bytes_n _ _

-- the first bytes are those of the first bits
take_bytes : (q n : ℕ) (b : List Bool) → q ≤ n → take q (bytes_n n b) ≡ bytes_n q b
unfolding bytes_n
take_bytes zero n b h = refl
take_bytes (suc q) zero b h = absurd (omega arith)
take_bytes (suc q) (suc n) b h = ap (◌∷◌ (num (take 8 b))) (take_bytes q n (drop 8 b) (omega arith))

bytes_of_take : (q : ℕ) (b : List Bool) → bytes_n q (take (8 * q) b) ≡ bytes_n q b
unfolding bytes_n
bytes_of_take zero b = refl
bytes_of_take (suc q) b =
    let e : 8 * suc q ≡ 8 + 8 * q = omega arith in
    rw (take-take 8 (8 * suc q) b (omega arith), e, drop_of_take 8 (8 * q) b, bytes_of_take q (drop 8 b)) refl

-- bits with zeros after them, cut within the zeros
take_padded : (m : List Bool) (t z : ℕ) → length m ≤ t → t ≤ length m + z
    → take t (m ++ replicate z false) ≡ m ++ replicate (t - length m) false
take_padded m t z h k =
    let e : length m + (t - length m) ≡ t = omega arith in
    let f : min (t - length m) z ≡ t - length m = omega arith in
    ap (λ (x : ℕ). take x (m ++ replicate z false)) (sym e)
    ∙ take-append-add m (replicate z false) (t - length m)
    ∙ rw (take_replicate (t - length m) z false, f) refl

-- a message's bytes are those of its bits and of the 0s that fill the last one
pub message_filled : (m : List Bool)
    → let q = (length m + 7) / 8 in message_bytes m ≡ bytes_n q (m ++ replicate (8 * q - length m) false)
unfolding message_bytes
message_filled m =
    let q = (length m + 7) / 8 in
    sym (bytes_of_take q (m ++ replicate 7 false))
    ∙ ap (bytes_n q) (take_padded m (8 * q) 7 (omega arith) (omega arith))

-- a buffer that a message was handed to is as long as it was, and begins with the message's bits
pub length_handed : (m : List Bool) (old : List ℕ) → length m ≤ 8 * length old → length (handed m old) ≡ length old
length_handed m old h =
    length-append (message_bytes m) (drop (length (message_bytes m)) old)
    ∙ omega (arith, length_message m, length-drop (length (message_bytes m)) old)

pub handed_bits : (m : List Bool) (old : List ℕ) → take (length m) (bits_of (handed m old)) ≡ m
handed_bits m old =
    let q = (length m + 7) / 8 in
    let z = replicate (8 * q - length m) false in
    let rest = bits_of (drop (length (message_bytes m)) old) in
    let whole : length (m ++ z) ≡ 8 * q =
    length-append m z ∙ omega (arith, length-replicate (8 * q - length m) false) in
    ap (take (length m)) (bits_of_append (message_bytes m) (drop (length (message_bytes m)) old)
    ∙ ap (λ (x : List ℕ). bits_of x ++ rest) (message_filled m)
    ∙ ap (λ (x : List Bool). x ++ rest) (bits_of_bytes_n q (m ++ z) whole)
    ∙ append_assoc m z rest)
    ∙ take_at m (z ++ rest) (length m) refl

-- a message's bytes are the first of the store that holds it
pub message_in_store : (m : List Bool) → length m ≤ 4096 → message_bytes m ≡ take ((length m + 7) / 8) (store_of m)
unfolding message_bytes store_of
message_in_store m h =
    let q = (length m + 7) / 8 in
    sym (bytes_of_take q (m ++ replicate 7 false))
    ∙ ap (bytes_n q)
    (take_padded m (8 * q) 7 (omega arith) (omega arith)
    ∙ sym (take_padded m (8 * q) (4096 - length m) (omega arith) (omega arith)))
    ∙ bytes_of_take q (padded m)
    ∙ sym (take_bytes q 512 (padded m) (omega arith))

-- a turn of the loop that copies to a buffer's start
pub paste_more : (old s : List ℕ) (i : ℕ) → i < length old → i < length s
    → set (paste old 0 s i) i (get_or s i 0) ≡ paste old 0 s (i + 1)
paste_more old s i ho hs =
    rw (add-one i)
    (ap (λ (k : ℕ). set (paste old 0 s i) k (get_or s i 0)) (sym (zero-add i))
    ∙ paste-suc old 0 s i 0 (rw (zero-add i) ho) hs)

-- the bits that a store holds, copied to a buffer's start, are handed over
pub handed_first : (m : List Bool) (old : List ℕ) → length m ≤ 4096
    → first_over (length m) (store_of m) old ≡ handed m old
handed_first m old h = rw (length_message m, message_in_store m h) refl

-- ---- handed over without another store

-- bits written within the first t bits are written to these
pub take_over : (t at : ℕ) (m l : List Bool) → at + length m ≤ t → t ≤ length l
    → take t (over at m l) ≡ over at m (take t l)
take_over t at m l h k =
    let f = take t l in
    let lf : length f ≡ t = length-take-le t l k in
    ap (λ (x : List Bool). take t (over at m x)) (sym (take-append-drop t l))
    ∙ rw (over_left at m f (drop t l) (omega arith))
    (take_at (over at m f) (drop t l) t (length_over at m f (omega arith) ∙ lf))

-- the bits of a buffer with the first bits of a store at its start
bits_first : (k : ℕ) (store old : List ℕ)
    → bits_of (first_over k store old)
    ≡ take (8 * ((k + 7) / 8)) (bits_of store) ++ drop (8 * ((k + 7) / 8)) (bits_of old)
bits_first k store old =
    let q = (k + 7) / 8 in
    rw (bits_of_append (take q store) (drop q old), bits_of_take q store, bits_of_drop q old) refl

-- a buffer with the first k bits of a store at its start, and then bits written over these: the first k bits of the
-- store that the bits are joined to
pub first_joined : (k at : ℕ) (m : List Bool) (store old mid new : List ℕ) → AllBytes old → AllBytes new
    → length store ≡ 512 → at + length m ≤ k → k ≤ 4096
    → bits_of mid ≡ bits_of (first_over k store old) → bits_of new ≡ over at m (bits_of mid)
    → new ≡ first_over k (joined_to store at m) old
unfolding joined_to
first_joined k at m store old mid new ho hn l h s f e =
    let q = (k + 7) / 8 in
    let t = 8 * q in
    let b = bits_of store in
    let lb : length b ≡ 4096 = omega (arith, length_bits_of store) in
    let lt : length (take t b) ≡ t = length-take-le t b (omega arith) in
    let lo : length (over at m b) ≡ 8 * 512 = length_over at m b (omega arith) ∙ lb in
    bits_of_inj new (first_over k (joined_to store at m) old) hn
    (bytes_append (take q (joined_to store at m)) (drop q old)
    (rw (take_bytes q 512 (over at m b) (omega arith)) (bytes_n_bytes q (over at m b))) (bytes_drop q old ho))
    (e
    ∙ rw (f, bits_first k store old, over_left at m (take t b) (drop t (bits_of old)) (omega arith)) refl
    ∙ ap (λ (x : List Bool). x ++ drop t (bits_of old)) (sym (take_over t at m b (omega arith) (omega arith)))
    ∙ sym (rw (bits_first k (joined_to store at m) old, bits_of_bytes_n 512 (over at m b) lo) refl))

-- a buffer with its first whole bytes cleared has the bits of a store that holds nothing there
pub first_nothing : (k : ℕ) (old new : List ℕ) → k ≤ 4096
    → bits_of new ≡ over 0 (replicate ((k + 7) / 8 * 8 - 0) false) (bits_of old)
    → bits_of new ≡ bits_of (first_over k (store_of []) old)
unfolding over
first_nothing k old new h e =
    let t = 8 * ((k + 7) / 8) in
    let c : (k + 7) / 8 * 8 - 0 ≡ t = omega arith in
    let f : min t 4096 ≡ t = omega arith in
    e
    ∙ rw (
      c,
      length-replicate t false,
      zero-add t,
      bits_first k (store_of []) old,
      bits_store [] (omega arith),
      take_replicate t 4096 false,
      f,
    ) refl
