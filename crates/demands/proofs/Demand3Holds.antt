-- Demand 3 holds. Assumes nothing.
use mathlib.Core.Path.{◌≡◌, refl, sym, ap, subst, subst⁻¹, ◌∙◌}
use mathlib.Core.Logic.{◌↔◌, ◌⊎◌, inl, inr}
use mathlib.Core.Bool.{Bool, true, false, cond}
use mathlib.Core.List.{List, []}
use Prim.Native.Nat.{ℕ, zero, suc, ◌≤◌}
use native.Mathlib.Omega.{arith}
use lib.ListN.{length}
use Rattle.store.specs.Store.{handed}
use Rattle.blocks.specs.declared.header.Fields.{Fields}
use Rattle.history.specs.Line.{Line, start, count}
use Rattle.history.specs.Slots.{Heard, nothing, fragmented, unfragmented, frag, end, no_fields, no_loss, Report}
use Rattle.history.specs.Slots.{is_fragmented}
use Rattle.history.specs.declared.Place.{Place}
use Rattle.blocks.proofs.SlotLaws.{due_range}
use Rattle.history.specs.Step.{dropped_at}
use Rattle.history.specs.History.{History, Unbroken, NotFragmented, Run, next_due, Closes, Singles, Opens, Keeps}
use Rattle.history.specs.History.{Copies, Ends, broken, other_header, missed, Told}
use Rattle.history.specs.History.{IsAcknowledged, Loses, LostTold, one_lost}
use Rattle.history.specs.History as history_of
use Rattle.history.specs.History.{nothing_told, single_told, joined_told, opened_told, kept_told, copy_told}
use Rattle.history.specs.declared.Lost.{Lost}
use Rattle.history.proofs.Verdicts.{absurd_bool}
use Rattle.history.proofs.Theorems.{theorem_unique, theorem_once, theorem_dropped}
use Rattle.history.proofs.FateHolds.{over_mark, keep_mark}
use Rattle.history.proofs.LostHolds.{theorem_lost_only}
use Rattle.reports.specs.Lent.{Event}
use Rattle.reports.proofs.FaultLaws.{unread}
use Rattle.reports.specs.Units.{settings_fit}
use Rattle.reports.specs.declared.unit.Settings.{Settings}
use Rattle.receiver.specs.View.{new_receiver}
use Rattle.receiver.specs.Reached.{Leads, Reached, Answered}
use Rattle.receiver.specs.declared.Receiver.{Receiver}
use Rattle.receiver.specs.declared.Fresh.{Fresh}
use Rattle.receiver.proofs.TellLaws.{handed_none}
use Rattle.receiver.proofs.AcceptedLaws.{passes, canonical}
use Rattle.receiver.proofs.AnswerLaws.{hear_unique}
use Rattle.receiver.proofs.ReplyLaws.{replies}
use Rattle.receiver.proofs.HearLaws.{fresh_leads}
use Rattle.demands.specs.Calls.{Calls, begun, refused, accepted, HearCall, Made, history, current, answer}
use Rattle.demands.specs.Calls.{refusal, heard_after, Taken}
use Rattle.demands.specs.Demand3.{Some, HandsOver, HandsNothing, Answers, Demand3}
use Rattle.demands.proofs.CopyLaws.{copies_bits}

-- ---- the calls lead to their receiver

fresh_when_lem : (b : Bool) (individual group mni : ℕ) → settings_fit individual group mni ≡ b
    → let f =
    cond {A = Fresh} b
    (record { fault = 0; receiver = new_receiver individual group mni })
    (record { fault = 13; receiver = new_receiver 0 0 0 }) in
    Leads f.receiver.settings start f.receiver
fresh_when_lem true individual group mni e = fresh_leads individual group mni e
fresh_when_lem false individual group mni e = fresh_leads 0 0 0 refl

pub leads : {s : Settings} {ls : Line Event} {r : Receiver} → Calls s ls r → Leads s ls r
leads (begun individual group mni f e) = rw e (fresh_when_lem
    (settings_fit individual group mni) individual group mni refl)
leads (refused c l r old new h n e) = rw (h.refused n e).receiver (leads c)
leads (accepted c l r old new h e) =
    let k = leads c in
    let a = h.answered _ _ k e in
    record { fit = k.fit; accepted = (k.accepted, (passes l old e).0); there = a.receiver }

-- ---- what a number says

-- none of the five
abbrev Nothing : History → Report → Type 0
Nothing hs r =
    (Some (Singles hs r) → ⊥) × (Some (Closes hs r) → ⊥) × (Opens r → ⊥) × (Keeps hs r → ⊥) × (Copies hs r → ⊥)

some : {P : Fields → List Bool → Type 0} (g : Fields) (m : List Bool) → P g m → Some P
some g m a = record { fields = g; message = m; holds = a }

-- what each number means
abbrev Means : History → Report → ℕ → Type 0
Means hs r zero = Nothing hs r
Means hs r (suc zero) = Some (Singles hs r)
Means hs r (suc (suc zero)) = Some (Closes hs r)
Means hs r (suc (suc (suc zero))) = Opens r
Means hs r (suc (suc (suc (suc zero)))) = Keeps hs r
Means hs r (suc (suc (suc (suc (suc zero))))) = Copies hs r
Means hs r (suc (suc (suc (suc (suc (suc n)))))) = ⊥

means : {hs : History} {r : Report} {n : ℕ} {g : Fields} {m : List Bool} → Told hs r n g m → Means hs r n
means (nothing_told s j o k y) =
    ((λ a. s a.fields a.message a.holds), (λ a. j a.fields a.message a.holds), o, k, y)
means (single_told g m c) = some g m c
means (joined_told g m c) = some g m c
means (opened_told c) = c
means (kept_told c) = c
means (copy_told c) = c

-- there are six, and but for 1 and 2 nothing is handed over
apart : {hs : History} {r : Report} {n : ℕ} {g : Fields} {m : List Bool} → Told hs r n g m
    → (n ≤ 5) × ((n ≡ 1 → ⊥) → (n ≡ 2 → ⊥) → (g ≡ no_fields) × (m ≡ []))
apart (nothing_told s j o k y) = (omega arith, λ a b. (refl, refl))
apart (single_told g m c) = (omega arith, λ a b. absurd (a refl))
apart (joined_told g m c) = (omega arith, λ a b. absurd (b refl))
apart (opened_told c) = (omega arith, λ a b. (refl, refl))
apart (kept_told c) = (omega arith, λ a b. (refl, refl))
apart (copy_told c) = (omega arith, λ a b. (refl, refl))

-- ---- the answer

module _ (c : HearCall) (t : Taken c) where
  pub given : Answered c.settings c.earlier c.report c.reply c.old c.new
  given = t.made.hears.answered c.settings c.earlier (leads t.made.calls) t.accepted

  said : {n : ℕ} → (answer c).outcome ≡ n → Means (history c) (current c) n
  said e = subst (Means (history c) (current c)) e (means given.told)

  at_start : {m k : List Bool} → m ≡ k → handed m c.old ≡ handed k c.old
  at_start e = ap (λ (x : List Bool). handed x c.old) e

  -- what the history asks for is what is answered
  asked : {n : ℕ} {g : Fields} {m : List Bool} → Told (history c) (current c) n g m
      → ((answer c).outcome ≡ n) × HandsOver c g m
  asked a =
      let u = theorem_unique (history c) (current c) given.told a in
      (u.0, record { fields = u.1; bits = given.bits ∙ ap length u.2; buffer = given.buffer ∙ at_start u.2 })

  hands_nothing : ((answer c).fields ≡ no_fields) × (given.message ≡ []) → HandsNothing c
  hands_nothing (f, m) =
      record {
        fields = f;
        bits = given.bits ∙ ap length m;
        buffer = given.buffer ∙ at_start m ∙ handed_none c.old;
      }

  nothing_asked : Nothing (history c) (current c) → Told (history c) (current c) 0 no_fields []
  nothing_asked (s, j, o, k, y) =
      nothing_told (λ g m a. s (some g m a)) (λ g m a. j (some g m a)) o k y

-- what is lost, by what is told of it
lost : (c : HearCall) → Taken c → (x : Lost)
    → Loses (history c) (current c) x ↔ (((answer c).lost ≡ x) × IsAcknowledged x.message)
lost c t x = (
  λ l. (sym (is_told l), subst⁻¹ (λ (x : Lost). IsAcknowledged x.message) l.its_numbers l.acknowledged),
  λ (e, k). go (given c t).lost (subst⁻¹ (λ (x : Lost). IsAcknowledged x.message) e k) e,
)
  where
    only : {y : Lost} → LostTold (history c) (current c) y → y ≡ (answer c).lost
    only z =
        theorem_lost_only (history c) (current c) z ∙ sym (theorem_lost_only (history c) (current c) (given c t).lost)

    is_told : Loses (history c) (current c) x → x ≡ (answer c).lost
    is_told l = only (one_lost x l)

    go : {y : Lost} → LostTold (history c) (current c) y → IsAcknowledged y.message → y ≡ x
        → Loses (history c) (current c) x
    go (history_of.none_lost n) (inl z) e = absurd (omega (arith, z))
    go (history_of.none_lost n) (inr z) e = absurd (omega (arith, z))
    go (one_lost y l) k e = subst (Loses (history c) (current c)) e l

none_lost : (c : HearCall) → Taken c
    → ((answer c).lost ≡ no_loss) ↔ ((x : Lost) → Loses (history c) (current c) x → ⊥)
none_lost c t = (
  λ e x l.
      let (f, k) = (lost c t x).0 l in
      no_loss_told (subst (λ (x : Lost). IsAcknowledged x.message) (sym f ∙ e) k),
  λ n.
      theorem_lost_only (history c) (current c) (given c t).lost
      ∙ sym (theorem_lost_only (history c) (current c) (history_of.none_lost n)),
)
  where
    no_loss_told : IsAcknowledged 0 → ⊥
    no_loss_told (inl z) = omega (arith, z)
    no_loss_told (inr z) = omega (arith, z)

-- ---- what goes with a number

abbrev is_nothing : Heard → Bool
is_nothing nothing = true
is_nothing (fragmented h more f) = false
is_nothing (unfragmented h f) = false
is_nothing (frag b) = false
is_nothing (end b) = false

-- a report that brings nothing is told of as nothing
unheard : {hs : History} {r : Report} {n : ℕ} {g : Fields} {m : List Bool} → Told hs r n g m → r.heard ≡ nothing
    → n ≡ 0
unheard (nothing_told s j o k y) e = refl
unheard (single_told g m c) e = absurd_bool (ap is_nothing (sym c.holds ∙ e))
unheard (joined_told g m c) e = absurd_bool (ap is_nothing (sym c.holds ∙ e))
unheard (opened_told c) e = absurd_bool (ap is_nothing (sym c.holds ∙ e))
unheard (kept_told c) e = absurd_bool (ap is_nothing (sym c.holds ∙ e))
unheard (copy_told c) e = absurd_bool (ap is_nothing (sym c.holds ∙ e))

module _ (c : HearCall) (t : Taken c) where
  pub unmarked : dropped_at (history c) (current c) ≡ false → (answer c).dropped ≡ 0
  unmarked e =
      let n : (answer c).dropped ≡ 1 → ⊥ =
      λ d. absurd_bool (sym e ∙ (theorem_dropped (history c) (current c)).1 ((given c t).dropped.0 d)) in
      omega (arith, (given c t).mark, n)

  in_time : ((answer c).outcome ≡ 2) ⊎ ((answer c).outcome ≡ 4) → (answer c).dropped ≡ 0
  in_time (inl e) = unmarked (over_mark (said c t e).holds)
  in_time (inr e) = unmarked (keep_mark (said c t e))

  -- No block is due in frame 18.
  not_due : (u : Run) → c.report.frame ≡ 18 → (current c).place ≡ next_due u → ⊥
  not_due u e d =
      let r = (due_range u.place.frame u.countdown (count u.blocks)).1 in
      omega (arith, r, e, ap (λ (p : Place). p.frame) d)

  never_18 : c.report.frame ≡ 18 → ((answer c).outcome ≡ 2 → ⊥) × ((answer c).outcome ≡ 4 → ⊥)
  never_18 e = (
    λ o. let x = (said c t o).holds in not_due x.run e x.in_due,
    λ o. let x = said c t o in not_due x.run e x.in_due,
  )

  kept_over_18 : c.report.frame ≡ 18 → Unbroken (history c) (current c).place → NotFragmented (current c).heard
      → (answer c).dropped ≡ 0
  kept_over_18 e k n =
      let d : (answer c).dropped ≡ 1 → ⊥ = λ d. let x = (given c t).dropped.0 d in ended x.run x.ends in
      omega (arith, (given c t).mark, d)
    where
      ended : (u : Run) → Ends (history c) u (current c) → ⊥
      ended u (broken b) = b k
      ended u (other_header h more f q r) = absurd_bool (sym n ∙ ap is_fragmented q)
      ended u (missed d q r) = not_due u e d

  pub answers : Answers c
  answers =
      record {
        joined = (said c t, (λ a. (asked c t (joined_told a.fields a.message a.holds)).0));
        joined_what = λ g m a. (asked c t (joined_told g m a)).1;
        single = (said c t, (λ a. (asked c t (single_told a.fields a.message a.holds)).0));
        single_what = λ g m a. (asked c t (single_told g m a)).1;
        opened = (said c t, (λ a. (asked c t (opened_told a)).0));
        kept = (said c t, (λ a. (asked c t (kept_told a)).0));
        copy = (said c t, (λ a. (asked c t (copy_told a)).0));
        copy_bits = (λ e. (copies_bits c).0 (said c t e), λ b. (asked c t (copy_told ((copies_bits c).1 b))).0);
        nothing = (said c t, (λ a. (asked c t (nothing_asked c t a)).0));
        six = (apart (given c t).told).0;
        quiet = λ a b. hands_nothing c t ((apart (given c t).told).1 a b);
        dropped = (given c t).dropped;
        mark = (given c t).mark;
        in_time = in_time;
        never_18 = never_18;
        kept_over_18 = kept_over_18;
        lost = lost c t;
        none_lost = none_lost c t;
        fault = (given c t).fault;
        unheard = λ n.
            unheard (given c t).told (unread c.settings c.report (λ e. n ((given c t).fault ∙ e)));
        receiver = (given c t).receiver;
      }

-- ---- refused or not

pub reached : {s : Settings} {ls : Line Event} {r : Receiver} → Calls s ls r → Reached r
reached k = record { settings = _; heard = _; leads = leads k }

-- the calls go on with this one
pub after_call : (c : HearCall) → Made c → Calls c.settings (heard_after (refusal c) c) c.reply.receiver
after_call c m = go (refusal c) refl
  where
    go : (n : ℕ) → refusal c ≡ n → Calls c.settings (heard_after n c) c.reply.receiver
    go zero e = accepted m.calls c.report c.reply c.old c.new m.hears e
    go (suc n) e = refused m.calls c.report c.reply c.old c.new m.hears n e

pub demand3 : Demand3
demand3 =
    record {
      answers = answers;
      once = theorem_once;
      refused = λ c m n e. let r = m.hears.refused n e in (r.answer, r.receiver, r.buffer);
      store = λ c m. canonical (reached (after_call c m));
      unique = unique;
      possible = λ k l buffer.
          let r = replies (reached k) l buffer in
          (r.reply, r.new, record { calls = k; hears = r.hears });
    }
  where
    unique : (c d : HearCall) → Made c → Made d → c.before ≡ d.before → c.report ≡ d.report → c.old ≡ d.old
        → (c.reply ≡ d.reply) × (c.new ≡ d.new)
    unique c d m n x y z =
        hear_unique (reached m.calls) m.hears (rw (x, y, z) n.hears)
