-- A hire that is heard whole goes to `book` exactly once, and is read as exactly that transfer. Assumes nothing.
use mathlib.Core.Path.{◌≡◌, refl, sym, ap, ◌∙◌}
use mathlib.Core.Bool.{Bool}
use mathlib.Core.List.{List}
use Prim.Native.Nat.{ℕ, ◌^◌, ◌<◌}
use borrow.Author.Tests.{lt-ltb}
use Rattle.bits.proofs.Numbers.{fits_in}
use Rattle.blocks.proofs.HeaderLaws.{address_width_le}
use Rattle.history.specs.Line.{Line, start, ◌▸◌, ◌⧺◌, each}
use Rattle.history.specs.History.{History}
use Rattle.history.proofs.Lines.{never, every_parts, each-⧺}
use Rattle.reports.specs.declared.unit.Settings.{Settings}
use Rattle.receiver.specs.Reached.{report_of, reports}
use Rattle.transport.specs.Layouts.{ack_of, per, at}
use Rattle.transport.specs.Reading.{flag_of, read_bits}
use Rattle.transport.specs.Building.{shape_for, built_bits}
use Rattle.transport.specs.Well.{user_in}
use Rattle.transport.proofs.RoundTripLaws.{back_of, sdu_out, built_reads, user_there}
use Rattle.bookings.specs.Book.{reading_of}
use Rattle.bookings.specs.Calls.{Call}
use Rattle.ends.specs.EndToEnd as ends
use Rattle.ends.specs.EndToEnd.{Handed, header_lent}
use Rattle.ends.proofs.HeardLaws.{range}
use Rattle.ends.proofs.EndToEndHolds.{end_to_end}
use Rattle.hires.specs.Program.{Step, accepted, calls, Program, message_in}
use Rattle.hires.specs.June.{Hire, message, user_bits, Arrives, read_back, BookedAs}
use Rattle.hires.proofs.HandedLaws.{Whole, read_in, reading_is}
use Rattle.hires.proofs.ProgramLaws.{calls_append, handed_on, in_full}

-- ---- one call

record Single (cs : Line Call) (x : Handed) : Type 0 where
  call : Call
  once : cs ≡ start ▸ call
  is : message_in call ≡ x

single : (cs : Line Call) (x : Handed) → each message_in cs ≡ start ▸ x → Single cs x
single start x e = absurd (never start x (sym e))
single (start ▸ c) x e = record { call = c; once = refl; is = cc }
single (cs ▸ b ▸ c) x e = absurd (never (each message_in cs) (message_in b) (cc))

-- ---- a hire

module _ (h : Hire) where
  abbrev carrier : ℕ
  carrier = h.fields.message

  abbrev flag : ℕ
  flag = flag_of h.fields.elements

  abbrev sent : Handed
  sent = record { fields = h.fields; bits = ends.bits (message h) }

  abbrev built : List Bool
  built = built_bits carrier flag h.transfer (user_bits h)

  sent_bits : ends.bits (message h) ≡ built
  sent_bits = sdu_out carrier flag h.transfer h.n h.user h.out h.taken

  -- a transfer's user data begin after its elements
  back_is : back_of carrier h.transfer h.n ≡ read_back h
  back_is =
      let f = at 20 (shape_for (ack_of carrier) h.transfer) in
      let n = h.n in
      ap (λ (k : ℕ). record { fault = 0; message = h.transfer; first = per k f f 0 0; bits = per k n n 0 0 }) h.kind

  reads_back : read_bits carrier flag (ends.bits (message h)) ≡ read_back h
  reads_back =
      ap (read_bits carrier flag) sent_bits
      ∙ built_reads carrier flag h.transfer h.n h.user h.out h.taken
      ∙ back_is

  -- the lower layer's source has 24 bits
  source_fits : ends.Build (message h) → h.fields.source.ssi < 2 ^ 24
  source_fits b = fits_in 24 (range (message h) b).source.ssi (address_width_le h.fields.source.kind)

  read_sent : ends.Build (message h) → read_in sent ≡ read_back h
  read_sent b = rw (lt-ltb h.fields.source.ssi (2 ^ 24) (source_fits b)) reads_back

-- ---- how it arrives

module _ (s : Settings) (before xs : Line Step) (h : Hire) (p : Program s (before ⧺ xs))
    (a : Arrives s before h xs) where
  abbrev heard_before : History
  heard_before = reports s (accepted before)

  handed_once : each message_in (calls xs) ≡ start ▸ sent h
  handed_once =
      handed_on s before xs p
      ∙ ap (λ (l : Line _). ends.handed heard_before (reports s l)) a.heard
      ∙ ap (ends.handed heard_before) (each-⧺ (report_of s) (start ▸ header_lent (message h) a.build) a.rest)
      ∙ (end_to_end.hands_over s (message h) a.build heard_before a.for_us).once a.no_copy a.whole

  one : Single (calls xs) (sent h)
  one = single (calls xs) (sent h) handed_once

  all_lent : Whole one.call.lent
  all_lent =
      let w =
      every_parts (λ c. Whole c.lent) (calls before) (calls xs)
      (rw (calls_append before xs) at (in_full s (before ⧺ xs) p)) in
      (rw one.once at w.1).1

  reading : reading_of one.call.lent ≡ read_back h
  reading = reading_is one.call.lent all_lent ∙ ap read_in one.is ∙ read_sent h a.build

  pub booked_as : BookedAs h xs
  booked_as =
      record {
        call = one.call;
        once = one.once;
        fields = ap (λ (x : Handed). x.fields) one.is;
        read = one.call.books.transport ∙ reading;
        user =
            ap (λ (x : Handed). user_in (read_back h) x.bits) one.is
            ∙ ap (user_in (read_back h)) (sent_bits h)
            ∙ user_there (carrier h) (flag h) h.transfer h.n h.user h.out h.taken;
      }
