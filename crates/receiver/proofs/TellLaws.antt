-- The store and the lent buffer, by an act and an outcome. Assumes nothing.
use mathlib.Core.Path.{◌≡◌, refl, sym, ap, ◌∙◌}
use mathlib.Core.Bool.{Bool, true, false, cond}
use mathlib.Core.List.{List, [], ◌++◌}
use Prim.Native.Nat.{ℕ, ◌+◌, ◌≤◌}
use native.Mathlib.Omega.{arith}
use lib.ListN.{length, drop, length-append, length-drop}
use lib.Seq.{length-take-le}
use Rattle.bits.specs.Bits.{bits_of, bytes_n, Inside}
use Rattle.bits.proofs.Bytes.{length_bits_of}
use Rattle.store.specs.Store.{store_of, joined_to, first_over, message_bytes, handed}
use Rattle.store.proofs.Stores.{store_join}
use Rattle.store.proofs.Messages.{handed_first}
use Rattle.blocks.specs.declared.header.Fields.{Fields}
use Rattle.history.specs.Slots.{no_loss}
use Rattle.history.specs.Step.{Outcome, message_of, clears, joins, joined_after, outcome_of, outcome_number}
use Rattle.history.specs.declared.Outcome as code
use Rattle.history.specs.declared.Outcome.TheVariants.{Quiet, Single, Joined, Opened, Kept, Copied}
use Rattle.history.specs.declared.Act.{Act}
use Rattle.history.specs.declared.Act.TheVariants.{Stays, Ends, Opens, Takes}
use Rattle.reports.specs.declared.read.Brought.{Brought}
use Rattle.receiver.specs.View.{answer_of, plain_answer, brought_bits, Tells}

-- so many bits are brought
pub length_brought : (x : Brought) (blocks : List ℕ) → Inside (length blocks) x.from (x.from + x.bits)
    → length (brought_bits x blocks) ≡ x.bits
length_brought x blocks i =
    length-take-le x.bits (drop x.from (bits_of blocks))
    (omega (arith, length-drop x.from (bits_of blocks), length_bits_of blocks, i.within))

-- no message leaves a buffer as it was
pub handed_none : (old : List ℕ) → handed [] old ≡ old
unfolding message_bytes bytes_n
handed_none old = refl

-- ---- what an act leaves of the joined bits, and what it makes of them

abbrev pub left_of : Act → List Bool → List Bool
left_of act j = cond (clears act) [] j

pub joined_is : (act : Act) (b j : List Bool) {d : Bool} → joins act ≡ d
    → joined_after act b j ≡ cond d (left_of act j ++ b) (left_of act j)
joined_is Stays b j e = ap (λ (d : Bool). cond d (j ++ b) j) e
joined_is Ends b j e = ap (λ (d : Bool). cond d b []) e
joined_is Opens b j e = ap (λ (d : Bool). cond d b []) e
joined_is Takes b j e = ap (λ (d : Bool). cond d (j ++ b) j) e

pub count_left : (act : Act) (j : List Bool) → cond (clears act) 0 (length j) ≡ length (left_of act j)
count_left act j = go (clears act)
  where
    go : (c : Bool) → cond c 0 (length j) ≡ length (cond c [] j)
    go true = refl
    go false = refl

pub store_left : (act : Act) (j : List Bool) → cond (clears act) (store_of []) (store_of j) ≡ store_of (left_of act j)
store_left act j = go (clears act)
  where
    go : (c : Bool) → cond c (store_of []) (store_of j) ≡ store_of (cond c [] j)
    go true = refl
    go false = refl

pub left_least : (c : Bool) (n : ℕ) → cond c 0 n ≤ n
left_least true n = omega arith
left_least false n = omega arith

-- in numbers
module _ (act : Act) (j b : List Bool) {at left : ℕ} (s : left ≡ cond (clears act) 0 at) (e : at ≡ length j) where
  pub left_is : left ≡ length (left_of act j)
  left_is = s ∙ ap (λ (n : ℕ). cond (clears act) 0 n) e ∙ count_left act j

-- the bits of a store, and of a block after them
pub join_is : {old new : List ℕ} {at : ℕ} (j b : List Bool) → old ≡ store_of j → at ≡ length j → at + length b ≤ 4096
    → new ≡ joined_to old at b
    → new ≡ store_of (j ++ b)
join_is j b s a h e = e ∙ rw (s, a) (store_join j b (omega (arith, a)))

pub hand_is : {store new : List ℕ} {at n : ℕ} (j b : List Bool) (old : List ℕ) → store ≡ store_of j → at ≡ length j
    → n ≡ length b → at + n ≤ 4096
    → new ≡ first_over (at + n) (joined_to store at b) old → new ≡ handed (j ++ b) old
hand_is j b old s a n h e =
    let m = length-append j b in
    e ∙ rw (s, a, n, store_join j b (omega (arith, a, n)), ← m) (handed_first (j ++ b) old (omega (arith, m, a, n)))

pub hand_alone : {new : List ℕ} {n : ℕ} (b : List Bool) (old : List ℕ) → n ≡ length b → n ≤ 4096
    → new ≡ first_over n (joined_to (store_of []) 0 b) old → new ≡ handed b old
hand_alone b old n h e = e ∙ rw (n, store_join [] b (omega (arith, n))) (handed_first b old (omega (arith, n)))

-- ---- none of the two that hand over

pub plain_when : (o : code.Outcome) → (o ≡ Single → ⊥) → (o ≡ Joined → ⊥)
    → (g : Fields) (b : List Bool) (joining : Fields) (m : List Bool) (dropped fault : ℕ)
    → (plain_answer (outcome_number o) dropped fault ≡ answer_of (outcome_of o g b joining m) dropped fault no_loss)
    × (message_of (outcome_of o g b joining m) ≡ [])
plain_when Quiet h k g b joining m dropped fault = (refl, refl)
plain_when Single h k g b joining m dropped fault = absurd (h refl)
plain_when Joined h k g b joining m dropped fault = absurd (k refl)
plain_when Opened h k g b joining m dropped fault = (refl, refl)
plain_when Kept h k g b joining m dropped fault = (refl, refl)
plain_when Copied h k g b joining m dropped fault = (refl, refl)

-- ---- what is told, by the outcome

module _ (x : Brought) (blocks : List ℕ) (i : Inside (length blocks) x.from (x.from + x.bits)) (joining : Fields)
    (j : List Bool) where
  abbrev b : List Bool
  b = brought_bits x blocks

  abbrev told : code.Outcome → Outcome
  told o = outcome_of o x.fields b joining (j ++ b)

  module _ (dropped : Bool) (old : List ℕ) {new : List ℕ} where
    pub single_tells : x.bits ≤ 4096 → new ≡ first_over x.bits (joined_to (store_of []) 0 b) old
        → Tells (told Single) dropped x.fault
        (record {
          outcome = 1;
          dropped = cond dropped 1 0;
          fault = x.fault;
          bits = x.bits;
          fields = x.fields;
          lost = no_loss;
        })
        old new
    single_tells h w =
        let l = length_brought x blocks i in
        record { answer = rw l refl; buffer = hand_alone b old (sym l) h w }

    pub joined_tells : {store : List ℕ} {at : ℕ} → store ≡ store_of j → at ≡ length j → at + x.bits ≤ 4096
        → new ≡ first_over (at + x.bits) (joined_to store at b) old
        → Tells (told Joined) dropped x.fault
        (record {
          outcome = 2;
          dropped = cond dropped 1 0;
          fault = x.fault;
          bits = at + x.bits;
          fields = joining;
          lost = no_loss;
        })
        old new
    joined_tells {store} {at} s a h w =
        let l = length_brought x blocks i in
        let k : at + x.bits ≡ length (j ++ b) = omega (arith, a, l, length-append j b) in
        record { answer = rw k refl; buffer = hand_is j b old s a (sym l) h w }

    pub plain_tells : (o : code.Outcome) → (o ≡ Single → ⊥) → (o ≡ Joined → ⊥) → new ≡ old
        → Tells (told o) dropped x.fault (plain_answer (outcome_number o) (cond dropped 1 0) x.fault) old new
    plain_tells o h k w =
        let p = plain_when o h k x.fields b joining (j ++ b) (cond dropped 1 0) x.fault in
        record { answer = p.0; buffer = w ∙ rw p.1 (sym (handed_none old)) }
