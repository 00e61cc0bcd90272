-- The laws of what the calls say. Assumes nothing.
use mathlib.Core.Path.{◌≡◌, refl}
use mathlib.Core.List.{List}
use Prim.Native.Nat.{ℕ, ◌-◌, ◌≤◌, ◌<◌}
use native.Mathlib.Omega.{arith}
use lib.ListN.{length, take, drop, length-drop}
use lib.Seq.{take_all}
use borrow.Author.Tests.{le-leb, lt-leb}
use Rattle.history.specs.Line.{start}
use Rattle.blocks.specs.declared.header.Fields.{Fields}
use Rattle.transport.specs.Reading.{read_of}
use Rattle.transport.specs.declared.Transport.{Transport}
use Rattle.bookings.specs.Kept.{bookings_at}
use Rattle.bookings.specs.Book.{lent, Books}
use Rattle.bookings.specs.declared.Bookings.{Bookings}
use Rattle.bookings.specs.declared.Reply.{Reply}
use Rattle.records.specs.Numbers.{four_at}
use Rattle.lines.specs.Lines.{Stands, Says}
use Rattle.std.specs.Prelude.{Some, None}
use Rattle.probe_transport.specs.Body.{fields_in, n_in}
use Rattle.probe_transport.specs.Calls.{transport_text, fresh_text, book_text, read_line}
use Rattle.probe_transport.specs.Calls.{FreshTells, Called, BookTells}
use Rattle.lines.specs.declared.line.Told.{Told}

-- what a body has from a place on is lent whole
pub rest_lent : (k : ℕ) (body : List ℕ) → take (length body - k) (drop k body) ≡ drop k body
rest_lent k body = take_all (length body - k) (drop k body) (rw (length-drop k body) (omega arith))

-- ---- a message that is read

pub read_short : (old body : List ℕ) → length body < 13 → Says old (read_line body) old None
unfolding read_line
read_short old body h = rw (lt-leb 13 (length body) h) refl

pub read_said : (old body : List ℕ) {new : List ℕ} {g : Fields} {t : Transport} {n r : ℕ} → 13 ≤ length body
    → g ≡ fields_in 0 body → n ≡ n_in body
    → t ≡ read_of g.message g.elements n (take (length body - 13) (drop 13 body))
    → Stands old (transport_text t) new r → Says old (read_line body) new (Some r)
unfolding read_line
read_said old body h p q e w = rw (le-leb 13 (length body) h) (rw (e, p, q, rest_lent 13 body) at w)

-- ---- bookings

pub fresh_said : (old : List ℕ) {new : List ℕ} {b : Bookings} {r : ℕ} → b ≡ bookings_at start
    → Stands old fresh_text new r → FreshTells old new (record { state = b; line = Some r })
unfolding FreshTells
fresh_said old e w = (w, e)

module _ (before : Bookings) (old body : List ℕ) where
  pub book_called : (source : ℕ) {new : List ℕ} {g : Fields} {a : Reply} {n r : ℕ} → g ≡ fields_in source body
      → n ≡ n_in body → Books before (lent g n (take (length body - 13) (drop 13 body))) a
      → Stands old (book_text a.booked) new r
      → Called before source body old new (record { state = a.bookings; line = Some r })
  book_called source {a = a} p q k w =
      record { reply = a; books = rw (p, q, rest_lent 13 body) at k; said = w; kept = refl }

  pub book_short : length body < 17 → BookTells before body old old (record { state = before; line = None })
  book_short h = record { called = λ g. absurd (omega arith); short = λ g. (refl, refl) }

  pub book_said : {new : List ℕ} {t : Told Bookings} {source : ℕ} → 17 ≤ length body → source ≡ four_at body 0
      → Called before source (take (length body - 4) (drop 4 body)) old new t → BookTells before body old new t
  book_said h e k = record { called = λ g. rw (e, rest_lent 4 body) at k; short = λ g. absurd (omega arith) }
