-- Each reply to a log is the one that the history asks for. Assumes nothing.
use mathlib.Core.Path.{◌≡◌, refl, sym, ◌∙◌}
use mathlib.Core.Bool.{Bool, true, false, cond}
use mathlib.Core.List.{List, [], ◌∷◌}
use mathlib.Core.Logic.{◌⊎◌, inl, inr}
use Prim.Native.Nat.{ℕ, zero, suc, ◌≤◌}
use native.Mathlib.Omega.{arith}
use lib.Dec.{leb}
use lib.ListN.{length, drop}
use Rattle.blocks.specs.Faults.{unless, first_of}
use Rattle.history.specs.Line.{Line, start}
use Rattle.history.specs.Step.{message_of, outcome_at, dropped_at}
use Rattle.history.proofs.Theorems.{theorem_told, theorem_dropped}
use Rattle.history.proofs.LostHolds.{theorem_lost}
use Rattle.history.proofs.Verdicts.{absurd_bool}
use Rattle.reports.specs.Lent.{Lent, Event, brought, heard_slot}
use Rattle.reports.proofs.FaultLaws.{reading_fault}
use Rattle.reports.specs.declared.unit.Settings.{Settings}
use Rattle.receiver.specs.Reached.{report_of, reports}
use Rattle.slotlog.specs.Log.{Entry, report, other, cut, settings_at, first_bytes, entries}
use Rattle.slotlog.specs.Replies.{refusal, answer_when, heard_when, replies_of, replies_to}
use Rattle.slotlog.specs.Asked.{AnswerAsked, Asked, AllAsked}
use Rattle.slotlog.proofs.LogLaws.{Lends, all_lend}

-- a mark that is 1 where it is true
mark_few : (b : Bool) → cond b 1 0 ≤ 1
mark_few true = omega arith
mark_few false = omega arith

mark_true : (b : Bool) → ◌≡◌ {A = ℕ} (cond b 1 0) 1 → b ≡ true
mark_true true e = refl
mark_true false e = absurd (omega arith)

module _ (s : Settings) (ls : Line Event) (l : Lent) where
  answer_asked : AnswerAsked s ls l (answer_when 0 s ls l)
  answer_asked =
      let hs = reports s ls in
      let r = report_of s l in
      let d = theorem_dropped hs r in
      record {
        message = message_of (outcome_at hs r);
        told = theorem_told hs r;
        bits = refl;
        dropped = (λ e. d.0 (mark_true (dropped_at hs r) e), λ e. rw (d.1 e) refl);
        mark = mark_few (dropped_at hs r);
        lost = theorem_lost hs r;
        fault = refl;
      }

  -- the number of a report that is refused though it lends what its kind lends
  refused_with_lem : (a b c d : Bool) (n : ℕ) → d ≡ true
      → first_of (unless a 15 ∷ unless b 15 ∷ unless c 16 ∷ unless d 1 ∷ 0 ∷ []) ≡ suc n
      → (suc n ≡ 15) ⊎ (suc n ≡ 16)
  refused_with_lem false b c d n t e = inl (sym e)
  refused_with_lem true false c d n t e = inl (sym e)
  refused_with_lem true true false d n t e = inr (sym e)
  refused_with_lem true true true true n t e = absurd (omega (arith, e))
  refused_with_lem true true true false n t e = absurd_bool t

  asked_when : brought l.kind (length l.blocks) ≡ true → (n : ℕ) → refusal l ≡ n
      → Asked s ls l (answer_when n s ls l)
  asked_when t zero e =
      record {
        accepted = λ z. answer_asked;
        refused = λ n f. absurd (omega (arith, sym e ∙ f));
        fault = inl (reading_fault l t);
      }
  asked_when t (suc n) e =
      let w = brought l.kind (length l.blocks) in
      record {
        accepted = λ z. absurd (omega (arith, sym e ∙ z));
        refused = λ m f. rw (sym e ∙ f) refl;
        fault = inr (refused_with_lem (leb 1 l.frame) (leb l.frame 18) (heard_slot l.slot) w n t e);
      }

all_asked : (s : Settings) (ls : Line Event) (es : List Entry) → Lends es → AllAsked s ls (replies_of s ls es)
unfolding replies_of
all_asked s ls [] t = tt
all_asked s ls (report l ∷ es) t =
    (refl, refl, asked_when s ls l t.0 (refusal l) refl, all_asked s (heard_when (refusal l) ls l) es t.1)
all_asked s ls (other ∷ es) t = all_asked s ls es t
all_asked s ls (cut ∷ es) t = tt

pub replies_asked : (log : List ℕ) → AllAsked (settings_at log) start (replies_to log)
replies_asked log =
    let rest = drop (first_bytes log) log in
    all_asked (settings_at log) start (entries rest) (all_lend rest)
