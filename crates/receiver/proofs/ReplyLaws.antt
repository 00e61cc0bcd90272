-- A receiver stands for one state of the step, so that there is a reply to every report. Assumes nothing.
use mathlib.Core.Path.{◌≡◌, refl, sym, ap, ap₂, ◌∙◌}
use mathlib.Core.Bool.{cond}
use mathlib.Core.List.{List}
use mathlib.Core.Option.{Option, none, some}
use Prim.Native.Nat.{ℕ, zero, suc}
use native.Mathlib.Omega.{arith}
use lib.ListN.{length}
use Rattle.store.specs.Store.{handed}
use Rattle.store.proofs.Stores.{store_inj}
use Rattle.history.specs.Line.{Line}
use Rattle.history.specs.Step as step
use Rattle.history.specs.Step.{State, message_of, answer, after, lost_in}
use Rattle.history.specs.declared.Place.{Place}
use Rattle.reports.specs.Lent.{Lent, Event, fault_in}
use Rattle.reports.specs.declared.unit.Settings.{Settings}
use Rattle.reports.proofs.NearLaws.{nears_once}
use Rattle.receiver.specs.View.{place_of, receiver_of, answer_of, plain_answer}
use Rattle.receiver.specs.Reached.{report_of, reports, refused_with, Leads, Reached, Hears}
use Rattle.receiver.specs.declared.Receiver.{Receiver}
use Rattle.receiver.specs.declared.Reply.{Reply}
use Rattle.receiver.proofs.AcceptedLaws.{Named, last_named, small}
use Rattle.receiver.proofs.HearLaws.{answers, not_heard}

place_once : (m n : Option Place) → Named m → Named n → place_of m ≡ place_of n → m ≡ n
place_once none none a b e = refl
place_once none (some q) a b e = let z : 0 ≡ q.slot = λ i. (e i).slot in absurd (omega arith)
place_once (some p) none a b e = let z : p.slot ≡ 0 = λ i. (e i).slot in absurd (omega arith)
place_once (some p) (some q) a b e = ap some e

module _ {s s' : Settings} {ls ls' : Line Event} {r : Receiver} (k : Leads s ls r) (k' : Leads s' ls' r) where
  one : receiver_of s (after (reports s ls)) ≡ receiver_of s' (after (reports s' ls'))
  one = sym k.there ∙ k'.there

  pub settings_once : s ≡ s'
  settings_once = ap (λ (r : Receiver). r.settings) one

  pub state_once : after (reports s ls) ≡ after (reports s' ls')
  state_once =
      let t = after (reports s ls) in
      let t' = after (reports s' ls') in
      let z = small s' ls' k'.accepted in
      let n : length t.assembly.joined ≡ length t'.assembly.joined =
      ap (λ (r : Receiver). r.assembly.bits) one in
      let p =
      place_once t.last t'.last (last_named s ls k.accepted) (last_named s' ls' k'.accepted)
      (ap (λ (r : Receiver). r.place) one) in
      let j =
      store_inj t.assembly.joined t'.assembly.joined n (omega (arith, z.bits, z.blocks, z.slots))
      (ap (λ (r : Receiver). r.assembly.store) one) in
      let m = nears_once t.near t'.near (ap (λ (r : Receiver). r.near) one) in
      λ i. record { last = p i; near = m i; assembly = record { run = (one i).assembly.run; joined = j i } }

-- the reply of the receiver that stands for a state
abbrev reply_from : Settings → State → Lent → Reply
reply_from s t l =
    let a = answer t (report_of s l) in
    record {
      receiver = receiver_of s (step.step t (report_of s l));
      answer = answer_of a.outcome (cond a.dropped 1 0) (fault_in l) (lost_in t a.dropped);
    }

abbrev over_from : Settings → State → Lent → List ℕ → List ℕ
over_from s t l old = handed (message_of (answer t (report_of s l)).outcome) old

pub record Replies (before : Receiver) (l : Lent) (old : List ℕ) : Type 0 where
  pub reply : Reply
  pub new : List ℕ
  pub hears : Hears before l reply old new

replies_when : {before : Receiver} (k : Reached before) (l : Lent) (old : List ℕ) (f : ℕ) → refused_with l old ≡ f
    → Replies before l old
replies_when {before} k l old zero e =
    let t = after (reports k.settings k.heard) in
    record {
      reply = reply_from k.settings t l;
      new = over_from k.settings t l old;
      hears =
          record {
            refused = λ m i. let c : suc m ≡ 0 = sym i ∙ e in absurd (omega arith);
            answered = λ s ls h i.
                answers s ls l
                (ap₂ (λ (s : Settings) (t : State). reply_from s t l) (settings_once k.leads h)
                (state_once k.leads h))
                (ap₂ (λ (s : Settings) (t : State). over_from s t l old)
                (settings_once k.leads h) (state_once k.leads h));
          };
    }
replies_when {before} k l old (suc n) e =
    let r : Reply = record { receiver = before; answer = plain_answer 0 0 (suc n) } in
    record { reply = r; new = old; hears = (not_heard k l old (sym e) (λ z. omega (arith, z)) {r = r} refl refl).1 }

-- every report has its reply
pub replies : {before : Receiver} → Reached before → (l : Lent) (old : List ℕ) → Replies before l old
replies k l old = replies_when k l old (refused_with l old) refl
