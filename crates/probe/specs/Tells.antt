-- What a record of any kind does.
use Rattle.std.specs.Prelude.{◌≡◌, List, ℕ, eqb, replicate}
use Rattle.std.proofs.Math.Option.{Option}
use Rattle.std.specs.declared.ops.ControlFlow.{ControlFlow}
use Rattle.std.specs.declared.ops.ControlFlow.TheVariants.{Continue, Break}
use Rattle.receiver.specs.Reached as receiver
use Rattle.bookings.specs.Kept as bookings
use Rattle.lines.specs.Lines.{Says}
use Rattle.probe_blocks.specs.Calls.{record_line}
use Rattle.probe_reports.specs.Reports.{Either, UnitTells, ReportTells}
use Rattle.lines.specs.declared.line.Told.{Told}
use Rattle.receiver.specs.declared.Receiver.{Receiver}
use Rattle.probe_transport.specs.Calls.{read_line, build_line, FreshTells, BookTells}
use Rattle.bookings.specs.declared.Bookings.{Bookings}
use Rattle.probe.specs.declared.State.{State}

-- A receiver and bookings that their fresh ones or earlier calls gave.
pub record StateReached (s : State) : Type 0 where
  pub receiver : receiver.Reached s.receiver
  pub bookings : bookings.Reached s.bookings

-- What is kept and said with another receiver, or with other bookings.
abbrev pub with_receiver : State → Told Receiver → Told State
with_receiver before t =
    record { state = record { receiver = t.state; bookings = before.bookings }; line = t.line }

abbrev pub with_bookings : State → Told Bookings → Told State
with_bookings before t =
    record { state = record { receiver = before.receiver; bookings = t.state }; line = t.line }

-- A record that gives another receiver leaves the bookings alone.
pub record ToReceiver (tells : Told Receiver → Type 0) (before : State) (t : Told State) : Type 0 where
  pub next : Told Receiver
  pub holds : tells next
  pub only : t ≡ with_receiver before next

-- One that gives other bookings leaves the receiver alone.
pub record ToBookings (tells : Told Bookings → Type 0) (before : State) (t : Told State) : Type 0 where
  pub next : Told Bookings
  pub holds : tells next
  pub only : t ≡ with_bookings before next

-- And one that only prints leaves both alone.
pub record OnlyPrints (line : Option (List ℕ)) (before : State) (old new : List ℕ) (t : Told State) : Type 0 where
  pub says : Says old line new t.line
  pub same : t.state ≡ before

-- By the record's kind.
unfoldable pub Tells : State → ℕ → List ℕ → List ℕ → List ℕ → Told State → Type 0
Tells before kind body old new t =
    Either (eqb kind 0) (ToReceiver (UnitTells before.receiver body old new) before t)
    (Either (eqb kind 4) (ToReceiver (ReportTells before.receiver body old new) before t)
    (Either (eqb kind 9) (OnlyPrints (read_line body) before old new t)
    (Either (eqb kind 10) (OnlyPrints (build_line body) before old new t)
    (Either (eqb kind 11) (ToBookings (FreshTells old new) before t)
    (Either (eqb kind 12) (ToBookings (BookTells before.bookings body old new) before t)
    (OnlyPrints (record_line kind body) before old new t))))))

-- What is kept after a record is what comes with its line.
pub record Kept (before : State) (kind : ℕ) (body : List ℕ) (after : State) : Type 0 where
  pub next : Told State
  pub line : List ℕ
  pub tells : Tells before kind body (replicate 4096 0) line next
  pub kept : after ≡ next.state

-- What is kept where another record is to be read, and where none is.
abbrev pub kept_in : ControlFlow State State → State
kept_in (Continue s) = s
kept_in (Break s) = s
