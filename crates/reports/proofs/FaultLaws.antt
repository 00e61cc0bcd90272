-- What reading the blocks of an accepted report may give as a fault; with a fault it brings nothing. Assumes nothing.
use mathlib.Core.Path.{◌≡◌, refl, sym}
use mathlib.Core.Bool.{Bool, true, false, cond, ◌&&◌, ◌||◌}
use mathlib.Core.List.{List, [], ◌∷◌, ◌++◌}
use mathlib.Core.Logic.{◌⊎◌, inl, inr}
use Prim.Native.Nat.{ℕ, zero, suc, ◌+◌, ◌≤◌}
use native.Mathlib.Omega.{arith}
use lib.Dec.{eqb, leb, T}
use lib.ListN.{length, take, length-take, length-drop}
use borrow.Author.Tests.{eq-eqb, eqb-true, leb-true}
use Rattle.blocks.specs.Faults.{unless, first_of}
use Rattle.bits.specs.Bits.{bits_of, field}
use Rattle.bits.specs.Layout.{element}
use Rattle.bits.proofs.Tests.{both}
use Rattle.blocks.specs.Sdu.{is_there}
use Rattle.blocks.specs.Sync.{sync_layout, sync_rules, sync_of, sync_checks}
use Rattle.blocks.specs.declared.sync.Sync.{Sync}
use Rattle.blocks.specs.Header as header
use Rattle.blocks.specs.Header.{read_reported}
use Rattle.blocks.specs.Continuation as block
use Rattle.blocks.specs.Continuation.{read_continuation}
use Rattle.blocks.specs.declared.header.Header.{Header}
use Rattle.blocks.specs.declared.continuation.Continuation.{Continuation}
use Rattle.history.specs.Slots.{Heard, nothing}
use Rattle.history.proofs.Verdicts.{absurd_bool}
use Rattle.reports.specs.Lent.{Lent, brought, unfaulted, sch_h_in, header_in_lent, header_heard, block_heard, heard}
use Rattle.reports.specs.Lent.{heard_slot, report_rules, OfReading, fault_in}
use Rattle.reports.specs.declared.unit.Settings.{Settings}

none : OfReading 0
none = record { not_1 = λ e. omega (arith, e); known = inl (omega arith) }

-- A chain of tests, each with its number, and whether all numbers are such.
abbrev chain : List (Bool × ℕ) → List ℕ
chain [] = []
chain (p ∷ ps) = unless p.0 p.1 ∷ chain ps

abbrev all_such : List (Bool × ℕ) → Bool
all_such [] = true
all_such (p ∷ ps) = (leb 2 p.1 && (leb p.1 12 || eqb p.1 18)) && all_such ps

such : (n : ℕ) (a b c : Bool) → leb 2 n ≡ a → leb n 12 ≡ b → eqb n 18 ≡ c → T (a && (b || c)) → OfReading n
such n true true c x y z t =
    record { not_1 = λ e. omega (arith, e, leb-true 2 n x); known = inl (leb-true n 12 y) }
such n true false true x y z t =
    let e = eqb-true n 18 z in record { not_1 = λ d. omega (arith, d, e); known = inr e }
such n true false false x y z t = absurd t
such n false b c x y z t = absurd t

first_such : (t : Bool) (n : ℕ) (ns : List ℕ) → OfReading n → OfReading (first_of ns)
    → OfReading (first_of (unless t n ∷ ns))
first_such true n ns a b = b
first_such false zero ns a b = b
first_such false (suc n) ns a b = a

chain_such : (ps : List (Bool × ℕ)) (ns : List ℕ) → T (all_such ps) → OfReading (first_of ns)
    → OfReading (first_of (chain ps ++ ns))
chain_such [] ns a b = b
chain_such (p ∷ ps) ns a b =
    let n = p.1 in
    let (x, y) = both (leb 2 n && (leb n 12 || eqb n 18)) (all_such ps) a in
    first_such p.0 n (chain ps ++ ns) (such n (leb 2 n) (leb n 12) (eqb n 18) refl refl refl x)
    (chain_such ps ns y b)

header_number : (n : ℕ) (r : Header) → r.fault ≡ 0 → OfReading n → OfReading (header.answered n r).fault
header_number zero r e a = rw e a
header_number (suc n) r e a = a

block_number : (n : ℕ) (r : Continuation) → r.fault ≡ 0 → OfReading n → OfReading (block.answered n r).fault
block_number zero r e a = rw e a
block_number (suc n) r e a = a

sync_such : (pad other system pdu communication encryption frame : ℕ) (ns : List ℕ) → OfReading (first_of ns)
    → OfReading (first_of (sync_rules pad other system pdu communication encryption frame ++ ns))
sync_such pad other system pdu communication encryption frame ns =
    chain_such
    ((eqb pad 0, 2) ∷ (eqb other 0, 2) ∷ (leb 10 system, 3) ∷ (eqb pdu 0, 4) ∷ (eqb communication 0, 5) ∷
    (eqb encryption 0, 6) ∷ (leb 1 frame, 7) ∷ (leb frame 18, 7) ∷ []) ns tt

body_such : (frame slot : ℕ) (y : Sync) (fragmented count to from width first : ℕ) (there : Bool)
    → OfReading (first_of (header.place_rules frame slot y
    ++ (header.body_rules fragmented count to from width first ++ unless there 11 ∷ [])))
body_such frame slot y fragmented count to from width first there =
    chain_such
    ((eqb y.frame frame, 18) ∷ (eqb (y.slot + 1) slot, 18) ∷ (leb fragmented count, 10) ∷ (leb to 2, 8) ∷
    (leb from 2, 8) ∷ (leb width 254, 9) ∷ (leb first 124, 9) ∷ (there, 11) ∷ []) [] tt none

pub header_fault_lem : (frame slot : ℕ) (s h : List ℕ) → length s ≡ 8 → length h ≡ 16
    → OfReading (read_reported frame slot s h).fault
unfolding read_reported sync_checks
header_fault_lem frame slot s h a b =
    let z = bits_of s in
    let e = header.body_of (bits_of h) in
    let t = e.tail in
    header_number (header.reported_fault frame slot s h) (header.header_of (sync_of z) (bits_of h)) refl
    (rw (eq-eqb (length s) 8 a, eq-eqb (length h) 16 b)
    (sync_such (element sync_layout 9 z) (field 124 4 (bits_of h)) (element sync_layout 0 z) (element sync_layout 1 z)
    (element sync_layout 2 z) (element sync_layout 7 z) (element sync_layout 6 z)
    (header.place_rules frame slot (sync_of z) ++ header.body_checks (bits_of h))
    (body_such frame slot (sync_of z) e.fragmented e.count t.destination.kind t.source.kind
    t.width t.first (is_there (header.message_of_header e (bits_of h))))))

pub block_fault : (b : List ℕ) → length b ≡ 34 → OfReading (read_continuation b).fault
unfolding read_continuation
block_fault b a =
    let w = bits_of b in
    block_number (first_of (block.continuation_checks b)) (block.continuation_of w) refl
    (rw (eq-eqb (length b) 34 a)
    (chain_such
    ((eqb (field 268 4 w) 0, 2) ∷ (eqb (element block.continuation_layout 0 w) 1, 12) ∷
    (is_there (block.block_message w), 11) ∷ []) [] tt none))

pub reading_fault : (l : Lent) → brought l.kind (length l.blocks) ≡ true → OfReading (fault_in l)
reading_fault l = by_kind (eqb l.kind 1) refl
  where
    by_blocks : (two three : Bool) → let n = length l.blocks in
        cond two (eqb n 24) (cond three (eqb n 34) false) ≡ true
        → OfReading (cond two (header_in_lent l).fault (cond three (read_continuation l.blocks).fault 0))
    by_blocks true three e =
        let n = eqb-true (length l.blocks) 24 e in
        header_fault_lem l.frame l.slot (take 8 l.blocks) (sch_h_in l)
        (rw (length-take 8 l.blocks) (omega (arith, n))) (rw (length-drop 8 l.blocks) (omega (arith, n)))
    by_blocks false true e = block_fault l.blocks (eqb-true (length l.blocks) 34 e)
    by_blocks false false e = absurd_bool e

    by_kind : (one : Bool) → eqb l.kind 1 ≡ one → let n = length l.blocks in
        cond one (eqb n 0) (cond (eqb l.kind 2) (eqb n 24) (cond (eqb l.kind 3) (eqb n 34) false)) ≡ true
        → OfReading (fault_in l)
    by_kind true k e = rw (eqb-true l.kind 1 k) none
    by_kind false k e = by_blocks (eqb l.kind 2) (eqb l.kind 3) e

-- ---- A block that reads with a fault counts as nothing heard.

unread_as : (n : ℕ) (x : Heard) → (n ≡ 0 → ⊥) → unfaulted n x ≡ nothing
unread_as zero x k = absurd (k refl)
unread_as (suc n) x k = refl

pub unread : (s : Settings) (l : Lent) → (fault_in l ≡ 0 → ⊥) → heard s l ≡ nothing
unfolding heard
unread s l = go (eqb l.kind 2) (eqb l.kind 3)
  where
    go : (two three : Bool)
        → (cond two (header_in_lent l).fault (cond three (read_continuation l.blocks).fault 0) ≡ 0 → ⊥)
        → cond two (header_heard s (sch_h_in l) (header_in_lent l))
        (cond three (block_heard l.blocks (read_continuation l.blocks)) nothing) ≡ nothing
    go true three k = unread_as (header_in_lent l).fault _ k
    go false true k = unread_as (read_continuation l.blocks).fault _ k
    go false false k = refl

-- ---- The numbers that a report is refused with are others.

between : {n : ℕ} → 13 ≤ n → n ≤ 17 → OfReading n → ⊥
between {n} a b o = go o.known
  where
    go : (n ≤ 12) ⊎ (n ≡ 18) → ⊥
    go (inl c) = omega (arith, a, c)
    go (inr c) = omega (arith, b, c)

not_reading : (a b c d e : Bool) (n : ℕ)
    → first_of (unless a 15 ∷ unless b 15 ∷ unless c 16 ∷ unless d 1 ∷ unless e 17 ∷ []) ≡ suc n → OfReading (suc n) → ⊥
not_reading false b c d e n z = between (omega (arith, z)) (omega (arith, z))
not_reading true false c d e n z = between (omega (arith, z)) (omega (arith, z))
not_reading true true false d e n z = between (omega (arith, z)) (omega (arith, z))
not_reading true true true false e n z = λ o. o.not_1 (sym z)
not_reading true true true true false n z = between (omega (arith, z)) (omega (arith, z))
not_reading true true true true true n z = absurd (omega (arith, z))

pub refusal_apart : (frame slot kind lent buffer n : ℕ) → first_of (report_rules frame slot kind lent buffer) ≡ suc n
    → OfReading (suc n) → ⊥
refusal_apart frame slot kind lent buffer =
    not_reading (leb 1 frame) (leb frame 18) (heard_slot slot) (brought kind lent) (leb 512 buffer)
