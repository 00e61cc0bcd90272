-- The laws of what is next of a record, by its kind. Assumes nothing.
use mathlib.Core.Path.{◌≡◌, refl}
use mathlib.Core.Bool.{Bool, true, false}
use mathlib.Core.List.{List}
use mathlib.Core.Option.{Option, none, some}
use Prim.Native.Nat.{ℕ, ◌≤◌}
use lib.Dec.{eqb, leb}
use lib.ListN.{length}
use borrow.Author.Tests.{ne_eqb, leb-true, leb-false}
use Rattle.bookings.specs.Kept as bookings
use Rattle.bookings.specs.declared.Bookings.{Bookings}
use Rattle.receiver.specs.Reached as receiver
use Rattle.receiver.specs.declared.Receiver.{Receiver}
use Rattle.lines.specs.Lines.{unknown_line, Says}
use Rattle.std.specs.Prelude.{Some}
use Rattle.std.specs.declared.option.Option as answer
use Rattle.lines.proofs.Printing.{line_fits}
use Rattle.probe_blocks.specs.Calls.{record_line}
use Rattle.probe_reports.specs.Reports.{unit_text, report_text, Either, fresh_in, buffer_in, UnitTells, ReportTells}
use Rattle.lines.specs.declared.line.Told.{Told}
use Rattle.probe_transport.specs.Calls.{fresh_text, book_text, read_line, build_line, FreshTells, BookTells}
use Rattle.probe.specs.Tells.{StateReached, with_receiver, with_bookings, ToReceiver, ToBookings, OnlyPrints, Tells}
use Rattle.probe.specs.declared.State.{State}

-- ---- what is kept and next, by the record's kind

module _ (before : State) (k : StateReached before) where
  to_receiver : (tells : Told Receiver → Type 0) {t : Told State} {next : Told Receiver}
      → receiver.Reached next.state
      → tells next → t ≡ with_receiver before next → StateReached t.state × ToReceiver tells before t
  to_receiver tells {next = next} r h e =
      (rw e (record { receiver = r; bookings = k.bookings }), record { next = next; holds = h; only = e })

  to_bookings : (tells : Told Bookings → Type 0) {t : Told State} {next : Told Bookings}
      → bookings.Reached next.state
      → tells next → t ≡ with_bookings before next → StateReached t.state × ToBookings tells before t
  to_bookings tells {next = next} r h e =
      (rw e (record { receiver = k.receiver; bookings = r }), record { next = next; holds = h; only = e })

  module _ (kind : ℕ) (body old new : List ℕ) where
    abbrev Answers : Told State → Type 0
    Answers t = StateReached t.state × Tells before kind body old new t

    module _ {t : Told State} {next : Told Receiver} (r : receiver.Reached next.state) where
      pub tells_0 : kind ≡ 0 → UnitTells before.receiver body old new next → t ≡ with_receiver before next → Answers t
      unfolding Tells
      tells_0 e h w = rw e (to_receiver (UnitTells before.receiver body old new) r h w)

      pub tells_4 : kind ≡ 4 → ReportTells before.receiver body old new next → t ≡ with_receiver before next
          → Answers t
      unfolding Tells
      tells_4 e h w = rw e (to_receiver (ReportTells before.receiver body old new) r h w)

    module _ {t : Told State} {next : Told Bookings} (r : bookings.Reached next.state) where
      pub tells_11 : kind ≡ 11 → FreshTells old new next → t ≡ with_bookings before next → Answers t
      unfolding Tells
      tells_11 e h w = rw e (to_bookings (FreshTells old new) r h w)

      pub tells_12 : kind ≡ 12 → BookTells before.bookings body old new next → t ≡ with_bookings before next
          → Answers t
      unfolding Tells
      tells_12 e h w = rw e (to_bookings (BookTells before.bookings body old new) r h w)

    module _ (line : answer.Option ℕ) where
      pub tells_9 : kind ≡ 9 → Says old (read_line body) new line → Answers (record { state = before; line = line })
      unfolding Tells
      tells_9 e w = rw e (k, record { says = w; same = refl })

      pub tells_10 : kind ≡ 10 → Says old (build_line body) new line → Answers (record { state = before; line = line })
      unfolding Tells
      tells_10 e w = rw e (k, record { says = w; same = refl })

      pub tells_other : (kind ≡ 0 → ⊥) → (kind ≡ 4 → ⊥) → (kind ≡ 9 → ⊥) → (kind ≡ 10 → ⊥) → (kind ≡ 11 → ⊥)
          → (kind ≡ 12 → ⊥) → Says old (record_line kind body) new line
          → Answers (record { state = before; line = line })
      unfolding Tells
      tells_other n₀ n₄ n₉ n₁₀ n₁₁ n₁₂ w =
          let none = ne_eqb kind in
          rw (none 0 n₀, none 4 n₄, none 9 n₉, none 10 n₁₀, none 11 n₁₁, none 12 n₁₂)
          (k, record { says = w; same = refl })

-- what a call kept, put beside what it left alone
pub received : (before : State) {next : Told Receiver} {t : Told State}
    → (t.state.receiver ≡ next.state) × (t.state.bookings ≡ before.bookings) → t.line ≡ next.line
    → t ≡ with_receiver before next
received before k l = rw (← k.0, ← k.1, ← l) refl

pub booked : (before : State) {next : Told Bookings} {t : Told State}
    → (t.state.receiver ≡ before.receiver) × (t.state.bookings ≡ next.state) → t.line ≡ next.line
    → t ≡ with_bookings before next
booked before k l = rw (← k.0, ← k.1, ← l) refl

-- ---- a line that was written fits its buffer

either_fits : (b : Bool) {A B : Type 0} {n m : ℕ} → (A → n ≤ m) → (B → n ≤ m) → Either b A B → n ≤ m
either_fits true f g x = f x
either_fits false f g x = g x

module _ (body old new : List ℕ) {n : ℕ} where
  unit_fits : (r : Receiver) (t : Told Receiver) → t.line ≡ Some n → UnitTells r body old new t
      → n ≤ length new
  unfolding UnitTells
  unit_fits r t e =
      either_fits (leb 12 (length body))
      (λ x. line_fits old (some (unit_text (fresh_in body).fault)) new e x.0)
      (λ x. line_fits old none new e x.0)

  report_fits : (r : Receiver) (t : Told Receiver) → t.line ≡ Some n → ReportTells r body old new t
      → n ≤ length new
  unfolding ReportTells
  report_fits r t e =
      either_fits (leb 5 (length body))
      (either_fits (leb (buffer_in body) 1024)
      (λ x. line_fits old (some (report_text x.reply.answer x.after)) new e x.said)
      (λ x. line_fits old unknown_line new e x.0))
      (λ x. line_fits old none new e x.0)

  fresh_fits : (t : Told Bookings) → t.line ≡ Some n → FreshTells old new t → n ≤ length new
  unfolding FreshTells
  fresh_fits t e x = line_fits old (some fresh_text) new e x.0

  book_fits : (b : Bookings) (t : Told Bookings) → t.line ≡ Some n → BookTells b body old new t
      → n ≤ length new
  book_fits b t e x = fits_when (leb 17 (length body)) refl
    where
      fits_when : (d : Bool) → leb 17 (length body) ≡ d → n ≤ length new
      fits_when true h =
          let c = x.called (leb-true 17 (length body) h) in
          line_fits old (some (book_text c.reply.booked)) new e c.said
      fits_when false h = line_fits old none new e (x.short (leb-false 17 (length body) h)).0

  prints_fits : (line : Option (List ℕ)) (before : State) (t : Told State) → t.line ≡ Some n
      → OnlyPrints line before old new t
      → n ≤ length new
  prints_fits line before t e x = line_fits old line new e x.says

  pub told_fits : (before : State) (kind : ℕ) (t : Told State) → t.line ≡ Some n → Tells before kind body old new t
      → n ≤ length new
  unfolding Tells
  told_fits before kind t e =
      either_fits (eqb kind 0) (λ x. unit_fits before.receiver x.next (rw x.only at e) x.holds)
      (either_fits (eqb kind 4) (λ x. report_fits before.receiver x.next (rw x.only at e) x.holds)
      (either_fits (eqb kind 9) (prints_fits (read_line body) before t e)
      (either_fits (eqb kind 10) (prints_fits (build_line body) before t e)
      (either_fits (eqb kind 11) (λ x. fresh_fits x.next (rw x.only at e) x.holds)
      (either_fits (eqb kind 12) (λ x. book_fits before.bookings x.next (rw x.only at e) x.holds)
      (prints_fits (record_line kind body) before t e))))))
