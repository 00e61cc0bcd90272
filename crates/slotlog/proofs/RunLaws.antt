-- The replies to a log's records one by one, and a run over them. Assumes nothing.
use mathlib.Core.Path.{◌≡◌, refl, sym, ap, ap₂, ◌∙◌}
use mathlib.Core.List.{List, [], ◌∷◌, ◌++◌, append_assoc, append-nil}
use mathlib.Core.Option.{Option, none, some}
use mathlib.Core.Logic.{◌⊎◌, inl, inr}
use Prim.Native.Nat.{ℕ, zero, suc, ◌+◌, ◌-◌, ◌≤◌}
use native.Mathlib.Omega.{arith}
use lib.ListN.{length, take, drop, get_or}
use borrow.Author.Tests.{eq-eqb, ne_eqb}
use Rattle.bits.proofs.Numbers.{drop_of_take}
use Rattle.records.specs.Numbers.{two_at}
use Rattle.history.specs.Line.{Line, Every}
use Rattle.reports.specs.Lent.{Lent, Event, lent}
use Rattle.reports.specs.declared.unit.Settings.{Settings}
use Rattle.receiver.specs.Reached.{refused_with, Accepted, receiver_at, Leads, Reached, Hears}
use Rattle.receiver.specs.declared.Receiver.{Receiver}
use Rattle.receiver.specs.declared.Reply.{Reply}
use Rattle.receiver.proofs.AnswerLaws.{answer_is}
use Rattle.slotlog.specs.Log.{next_in, report_in, entries}
use Rattle.slotlog.specs.declared.log.Next.{Next}
use Rattle.slotlog.specs.declared.log.Next.TheVariants.{End, Part, Cut, Other, Report}
use Rattle.slotlog.specs.Replies.{refusal, answer_when, heard_when, LogReply, to_report, to_other, to_cut, replies_of}
use Rattle.slotlog.specs.Print.{line_of, reply_line, lines_of}
use Rattle.slotlog.specs.Runs.{Answers, passing, passed, Replies, state_of, shown_line, end_reply, unless_cut}
use Rattle.slotlog.specs.Runs.{Goes, shown_as, only, RepliesAs}
use Rattle.slotlog.specs.declared.replies.Shown.{Shown}
use Rattle.slotlog.specs.declared.replies.Shown.TheVariants as shown
use Rattle.slotlog.specs.declared.replies.NextReply.{NextReply}
use Rattle.slotlog.specs.declared.run.State.{State}
use Rattle.slotlog.specs.declared.run.State.TheVariants as state
use Rattle.slotlog.proofs.LogLaws.{ReportAt, report_at, other_size, entries_report, entries_other}
use Rattle.slotlog.proofs.LogLaws.{entries_cut, entries_end, entries_part}

-- ---- the answer to a report, in a buffer of 512 bytes

answers_when : (n : ℕ) (s : Settings) (ls : Line Event) (l : Lent) {before : Receiver} {r : Reply} {old new : List ℕ}
    → Leads s ls before → Hears before l r old new → refused_with l old ≡ n → refusal l ≡ n
    → (r.answer ≡ answer_when n s ls l) × Leads s (heard_when n ls l) r.receiver
answers_when zero s ls l {old = old} k h e f =
    let a = h.answered s ls k e in
    (answer_is s ls l a, record { fit = k.fit; accepted = (k.accepted, f); there = a.receiver })
answers_when (suc n) s ls l k h e f = let a = h.refused n e in (a.answer, rw a.receiver k)

pub answers : {before : Receiver} {l : Lent} {r : Reply} {old new : List ℕ} → length old ≡ 512
    → Reached r.receiver × Hears before l r old new → Answers before l r
answers {before} {l} {r} {old} e (k, h) =
    record {
      reached = k;
      answers = λ s ls j.
          let z : refused_with l old ≡ refusal l = rw e refl in
          let a = answers_when (refusal l) s ls l j h z refl in
          record { answer = a.0; leads = a.1 };
    }

-- ---- the next record and its reply

-- the report that the code hears is the log's
pub report_lent : (w : List ℕ) (n : ℕ) → ReportAt w n
    → lent (get_or w 4 0) (get_or w 5 0) (get_or w 2 0) (take (n - 6) (drop 6 w)) ≡ report_in n w
report_lent w n r =
    let k = r.kind in
    let l = r.least in
    let z : get_or w 3 0 ≡ 0 = omega arith in
    let m : n ≡ 6 + (n - 6) = omega arith in
    let b : take (n - 6) (drop 6 w) ≡ drop 6 (take n w) =
    sym (drop_of_take 6 (n - 6) w) ∙ ap (λ (j : ℕ). drop 6 (take j w)) (sym m) in
    let q : get_or w 2 0 ≡ two_at w 2 = rw z (omega arith) in
    ap₂ (λ (i : ℕ) (c : List ℕ). lent (get_or w 4 0) (get_or w 5 0) i c) q b

pub passed_at : (s : Settings) (ls : Line Event) (rest : List ℕ) (x : Next) → next_in rest ≡ x
    → passed s ls rest ≡ passing s ls rest x
unfolding passed
passed_at s ls rest x e = ap (passing s ls rest) e

module _ (before : Receiver) (rest : List ℕ) where
  pub replies_report : (n : ℕ) → next_in rest ≡ Report n → {y : Reply} → Answers before (report_in n rest) y
      → Replies before rest
      (record {
        receiver = y.receiver;
        took = n;
        shown = shown.Report (get_or rest 4 0) (get_or rest 5 0) y.answer;
      })
  replies_report n e {y} a =
      record {
        reached = a.reached;
        settled = λ s ls k.
            let b = a.answers s ls k in
            rw (passed_at s ls rest (Report n) e, b.answer, b.leads.there) refl;
      }

  -- any other record leaves the receiver as it is
  pub replies_same : (took : ℕ) (show : Shown) → Reached before
      → ((s : Settings) (ls : Line Event) → passed s ls rest ≡ record { heard = ls; took = took; shown = show })
      → Replies before rest (record { receiver = before; took = took; shown = show })
  replies_same took show k e = record { reached = k; settled = λ s ls j. rw (e s ls, j.there) refl }

pub next_unique : {before : Receiver} {rest : List ℕ} → Reached before → {x y : NextReply} → Replies before rest x
    → Replies before rest y → x ≡ y
next_unique k a b =
    a.settled k.settings k.heard k.leads ∙ sym (b.settled k.settings k.heard k.leads)

-- ---- what the next record takes, and whatever follows

-- the reports that are heard are accepted
heard_accepted : (n : ℕ) (ls : Line Event) (l : Lent) → refusal l ≡ n → Every Accepted ls
    → Every Accepted (heard_when n ls l)
heard_accepted zero ls l e a = (a, e)
heard_accepted (suc n) ls l e a = a

module _ (s : Settings) (ls : Line Event) (rest : List ℕ) where
  passing_inside : (x : Next) → next_in rest ≡ x → (passing s ls rest x).took ≤ length rest
  passing_inside End e = omega arith
  passing_inside Part e = omega arith
  passing_inside Cut e = omega arith
  passing_inside (Other n) e = (other_size rest n e).1
  passing_inside (Report n) e = (report_at rest n e).there

  pub next_inside : (passed s ls rest).took ≤ length rest
  unfolding passed
  next_inside = passing_inside (next_in rest) refl

  passing_forward : (x : Next) → next_in rest ≡ x → state_of (passing s ls rest x).shown ≡ state.GoesOn
      → 1 ≤ (passing s ls rest x).took
  passing_forward End e z = cc
  passing_forward Part e z = cc
  passing_forward Cut e z = cc
  passing_forward (Other n) e z = omega (arith, (other_size rest n e).0)
  passing_forward (Report n) e z = omega (arith, (report_at rest n e).least)

  pub next_forward : state_of (passed s ls rest).shown ≡ state.GoesOn → 1 ≤ (passed s ls rest).took
  unfolding passed
  next_forward = passing_forward (next_in rest) refl

  passing_accepted : (x : Next) → Every Accepted ls → Every Accepted (passing s ls rest x).heard
  passing_accepted End a = a
  passing_accepted Part a = a
  passing_accepted Cut a = a
  passing_accepted (Other n) a = a
  passing_accepted (Report n) a = let l = report_in n rest in heard_accepted (refusal l) ls l refl a

  pub next_leads : {before : Receiver} → Leads s ls before
      → Leads s (passed s ls rest).heard (receiver_at s (passed s ls rest).heard)
  unfolding passed
  next_leads k = record { fit = k.fit; accepted = passing_accepted (next_in rest) k.accepted; there = refl }

  -- what is left of the log tells nothing yet
  tells_none : replies_of s ls (entries rest) ≡ end_reply rest
      → RepliesAs s ls rest (record { heard = ls; took = 0; shown = shown.Wants })
  tells_none e =
      record { reply = none; shown = refl; goes = record { replies = λ more. refl; ends = λ u. e } }

  passing_goes : (x : Next) → next_in rest ≡ x → RepliesAs s ls rest (passing s ls rest x)
  unfolding replies_of
  passing_goes End e = let z = entries_end rest e in tells_none (rw (z.0, eq-eqb (length rest) 0 z.1) refl)
  passing_goes Part e =
      let z = entries_part rest e in
      let l = z.1 in
      tells_none (rw (z.0, ne_eqb (length rest) 0 (omega arith)) refl)
  passing_goes Cut e =
      record {
        reply = some to_cut;
        shown = refl;
        goes = record { replies = λ more. rw (entries_cut rest more e) refl; ends = λ u. cc };
      }
  passing_goes (Other n) e =
      record {
        reply = some to_other;
        shown = refl;
        goes = record { replies = λ more. rw (entries_other rest more n e) refl; ends = λ u. cc };
      }
  passing_goes (Report n) e =
      let l = report_in n rest in
      record {
        reply = some (to_report s ls l (answer_when (refusal l) s ls l));
        shown = refl;
        goes = record { replies = λ more. rw (entries_report rest more n e) refl; ends = λ u. cc };
      }

  pub next_goes : RepliesAs s ls rest (passed s ls rest)
  unfolding passed
  next_goes = passing_goes (next_in rest) refl

pub replies_inside : {before : Receiver} {rest : List ℕ} → Reached before → {x : NextReply} → Replies before rest x
    → x.took ≤ length rest
replies_inside {rest = rest} k r =
    rw (r.settled k.settings k.heard k.leads) (next_inside k.settings k.heard rest)

-- ---- runs one after the other

not_cut : {A : Type 0} (at : State) → (at ≡ state.Cut → ⊥) → (more : List A) → unless_cut at more ≡ more
not_cut state.GoesOn n more = refl
not_cut state.Wants n more = refl
not_cut state.Cut n more = absurd (n refl)

-- from the start of a log to itself
pub goes_none : (s : Settings) (ls : Line Event) (rest : List ℕ) → Goes s ls rest [] rest ls state.GoesOn
goes_none s ls rest = record { replies = λ more. refl; ends = λ u. cc }

pub goes_both : {s : Settings} {ls mid_heard heard : Line Event} {rest mid left : List ℕ} (a b : List LogReply)
    {i at : State} → Goes s ls rest a mid mid_heard i → (i ≡ state.Cut → ⊥) → Goes s mid_heard mid b left heard at
    → Goes s ls rest (a ++ b) left heard at
goes_both {s} {heard = heard} {left = left} a b {i} {at} g n h =
    record {
      replies = λ more.
          g.replies more
          ∙ rw (not_cut i n _, h.replies more)
          (sym (append_assoc a b (unless_cut at (replies_of s heard (entries (left ++ more))))));
      ends = h.ends;
    }

-- more of the log comes
pub goes_more : {s : Settings} {ls heard : Line Event} {rest left : List ℕ} (said : List LogReply) {at : State}
    → Goes s ls rest said left heard at → (at ≡ state.Cut → ⊥) → (part : List ℕ)
    → Goes s ls (rest ++ part) said (left ++ part) heard state.GoesOn
goes_more {rest = rest} {left} said {at} g n part =
    record {
      replies = λ more.
          rw (append_assoc rest part more, append_assoc left part more)
          (g.replies (part ++ more) ∙ rw (not_cut at n _) refl);
      ends = λ u. cc;
    }

-- ---- the lines of replies

pub lines_both : (a b : List LogReply) → lines_of (a ++ b) ≡ lines_of a ++ lines_of b
unfolding lines_of
lines_both [] b = refl
lines_both (r ∷ a) b = rw (lines_both a b) (sym (append_assoc (reply_line r) (lines_of a) (lines_of b)))

pub line_shown : (x : Shown) (reply : Option LogReply) → x ≡ shown_as reply → shown_line x ≡ lines_of (only reply)
unfolding lines_of
line_shown x none e = rw e refl
line_shown x (some (to_report s ls l a)) e = rw e (sym (append-nil (line_of l.frame l.slot a)))
line_shown x (some to_other) e = rw e refl
line_shown x (some to_cut) e = rw e refl

pub three_states : (x : State) → (x ≡ state.GoesOn) ⊎ ((x ≡ state.Wants) ⊎ (x ≡ state.Cut))
three_states state.GoesOn = inl refl
three_states state.Wants = inr (inl refl)
three_states state.Cut = inr (inr refl)
