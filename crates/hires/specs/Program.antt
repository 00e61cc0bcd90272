-- A program that has one receiver and one index of bookings. Both begin with `fresh`; each slot report goes to `hear`,
-- and each message that is handed over goes to `book`. `fresh` promises `fresh_of` and `bookings_at start`, `hear`
-- promises `Hears` and `book` promises `Books`; each asks for what `fresh` or an earlier call gave, and nothing else.
use Rattle.std.specs.Prelude.{◌≡◌, ◌⊎◌, cond, List, ℕ, eqb, length}
use Rattle.store.specs.Store.{message_bytes}
use Rattle.history.specs.Line.{Line, start, ◌▸◌, each}
use Rattle.reports.specs.Lent.{Lent}
use Rattle.reports.specs.declared.unit.Settings.{Settings}
use Rattle.receiver.specs.View.{fresh_of}
use Rattle.receiver.specs.Reached.{refused_with, Hears}
use Rattle.receiver.specs.declared.Receiver.{Receiver}
use Rattle.receiver.specs.declared.Reply.{Reply}
use Rattle.receiver.specs.declared.Fresh.{Fresh}
use Rattle.transport.specs.Reading.{sdu_bits}
use Rattle.bookings.specs.Pairs.{Pair}
use Rattle.bookings.specs.Book as book
use Rattle.bookings.specs.Calls.{Call, mark, InTurn}
use Rattle.ends.specs.EndToEnd.{Handed}

-- A call of `hear`: the receiver before, the report, the reply, and the lent buffer before and after.
pub record Hearing : Type 0 where
  pub before : Receiver
  pub report : Lent
  pub reply : Reply
  pub old : List ℕ
  pub new : List ℕ
  pub hears : Hears before report reply old new

-- It hands a message over: outcome 1 or 2.
abbrev pub HandsOver : Hearing → Type 0
HandsOver h = (h.reply.answer.outcome ≡ 1) ⊎ (h.reply.answer.outcome ≡ 2)

-- What is then lent to `book`: the answer's fields, its bits, and the buffer afterwards.
abbrev pub handed_on_to : Hearing → book.Lent
handed_on_to h = book.lent h.reply.answer.fields h.reply.answer.bits h.new

-- A report, and what the program does then: where a message is handed over it calls `book`, and where none is it does
-- not.
pub data Step : Type 0 where
  quiet : (h : Hearing) → (HandsOver h → ⊥) → Step
  books : (h : Hearing) → HandsOver h → (c : Call) → c.lent ≡ handed_on_to h → Step

abbrev pub hearing : Step → Hearing
hearing (quiet h n) = h
hearing (books h y c e) = h

-- The accepted reports, oldest first. Refused ones have not happened.
abbrev pub accepted : Line Step → Line Lent
accepted start = start
accepted (xs ▸ x) =
    cond (eqb (refused_with (hearing x).report (hearing x).old) 0) (accepted xs ▸ (hearing x).report) (accepted xs)

-- The calls of `book`, oldest first, and their marks: 0 nothing to book, 1 booked, 2 again.
abbrev pub calls : Line Step → Line Call
calls start = start
calls (xs ▸ quiet h n) = calls xs
calls (xs ▸ books h y c e) = calls xs ▸ c

abbrev pub marks : Line Step → Line ℕ
marks xs = each mark (calls xs)

-- The receiver after these steps; each is handed the one that the step before gave.
abbrev pub receiver_after : Receiver → Line Step → Receiver
receiver_after r start = r
receiver_after r (xs ▸ x) = (hearing x).reply.receiver

abbrev pub HearsInTurn : Receiver → Line Step → Type 0
HearsInTurn r start = Unit {0}
HearsInTurn r (xs ▸ x) = HearsInTurn r xs × ((hearing x).before ≡ receiver_after r xs)

-- The program: a fresh receiver, with any settings, and fresh bookings; any reports, refused ones too.
pub record Program (s : Settings) (xs : Line Step) : Type 0 where
  pub individual : ℕ
  pub group : ℕ
  pub mni : ℕ
  pub fresh : Fresh
  pub begun : fresh ≡ fresh_of individual group mni
  pub unit : s ≡ fresh.receiver.settings
  pub hears : HearsInTurn fresh.receiver xs
  pub books : InTurn (calls xs)

-- ---- What goes to `book`.

-- The message that a call of `book` is lent: fields, and the first n bits of the bytes.
abbrev pub message_in : Call → Handed
message_in c = record { fields = c.lent.fields; bits = sdu_bits c.lent.n c.lent.sdu }

-- A message that is handed over, lent in bytes of its own; and the transfers among such messages, each with its pair.
abbrev pub lent_as : Handed → book.Lent
lent_as x = book.lent x.fields (length x.bits) (message_bytes x.bits)

abbrev pub transfers_in : Line Handed → Line Pair
transfers_in start = start
transfers_in (xs ▸ x) =
    cond (book.is_transfer (lent_as x)) (transfers_in xs ▸ book.pair_of (lent_as x)) (transfers_in xs)
