-- The laws of a message that is handed over in a lent buffer, and of what `book` reads of it. Assumes nothing.
use mathlib.Core.Path.{◌≡◌, refl, sym, ap, ap₂, ◌∙◌}
use mathlib.Core.Bool.{Bool, cond, ◌&&◌}
use mathlib.Core.List.{List, [], append-nil}
use Prim.Native.Nat.{ℕ, ◌*◌, ◌%◌, ◌^◌, ◌≤◌}
use native.Mathlib.Omega.{arith}
use lib.Dec.{eqb, ltb}
use lib.ListN.{length, drop, length-append, drop_of_length-le}
use borrow.Author.Tests.{le-leb}
use Rattle.store.specs.Store.{message_bytes, handed}
use Rattle.store.proofs.Messages.{length_message, handed_bits}
use Rattle.transport.specs.Reading.{sdu_bits, read_bits, refused_transport}
use Rattle.transport.proofs.ReadLaws.{lent_read}
use Rattle.transport.specs.declared.Transport.{Transport}
use Rattle.history.specs.Line.{Line, start, ◌▸◌, each, Every}
use Rattle.bookings.specs.Pairs.{Pair}
use Rattle.bookings.specs.Book.{Lent, reading_of}
use Rattle.bookings.specs.Calls.{Call, transfers}
use Rattle.ends.specs.EndToEnd.{Handed}
use Rattle.hires.specs.Program.{message_in, lent_as, transfers_in}

-- ---- the bytes

pub handed_lent : (m : List Bool) (old : List ℕ) → length m ≤ 8 * length (handed m old)
handed_lent m old =
    rw (length-append (message_bytes m) (drop (length (message_bytes m)) old), length_message m) (omega arith)

-- in bytes of its own
own_bytes : (m : List Bool) → handed m [] ≡ message_bytes m
own_bytes m =
    let n = length (message_bytes m) in
    rw (drop_of_length-le {A = ℕ} [] {i = n} (omega arith)) (append-nil (message_bytes m))

own_bits : (m : List Bool) → sdu_bits (length m) (message_bytes m) ≡ m
own_bits m = rw (own_bytes m) at (handed_bits m [])

own_lent : (m : List Bool) → length m ≤ 8 * length (message_bytes m)
own_lent m = rw (own_bytes m) at (handed_lent m [])

-- ---- what is read

abbrev pub Whole : Lent → Type 0
Whole l = l.n ≤ 8 * length l.sdu

abbrev pub in_lent : Lent → Handed
in_lent l = record { fields = l.fields; bits = sdu_bits l.n l.sdu }

-- of bits that are all lent
abbrev pub read_in : Handed → Transport
read_in x =
    cond (ltb x.fields.source.ssi (2 ^ 24)) (read_bits x.fields.message (x.fields.elements % 2) x.bits)
    (refused_transport 13)

pub reading_is : (l : Lent) → Whole l → reading_of l ≡ read_in (in_lent l)
unfolding reading_of
reading_is l h =
    let t = le-leb l.n (8 * length l.sdu) h in
    rw (lent_read l.fields.message l.fields.elements l.n l.sdu t) refl

-- the same in bytes of its own
reads_the_same : (l : Lent) → Whole l → reading_of (lent_as (in_lent l)) ≡ reading_of l
reads_the_same l h =
    let x = in_lent l in
    reading_is (lent_as x) (own_lent x.bits)
    ∙ ap (λ (b : List Bool). read_in (record { fields = l.fields; bits = b })) (own_bits x.bits)
    ∙ sym (reading_is l h)

-- ---- the transfers of calls that are lent all their bits

abbrev entered : Line Pair → Lent → Transport → Line Pair
entered ts l t =
    cond (eqb t.fault 0 && eqb t.message.kind 1)
    (ts ▸ record { source = l.fields.source.ssi; reference = t.message.reference })
    ts

pub transfers_in_lem : (cs : Line Call) → Every (λ c. Whole c.lent) cs
    → transfers cs ≡ transfers_in (each message_in cs)
transfers_in_lem start w = refl
transfers_in_lem (cs ▸ c) w =
    ap₂ (λ (ts : Line Pair) (t : Transport). entered ts c.lent t) (transfers_in_lem cs w.0)
    (sym (reads_the_same c.lent w.1))
