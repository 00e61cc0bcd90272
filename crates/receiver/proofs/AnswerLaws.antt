-- The answer to an accepted report, whole; and two answers to the same call are equal. Assumes nothing.
use mathlib.Core.Path.{◌≡◌, refl, sym, ap, ap₂, ◌∙◌}
use mathlib.Core.Bool.{Bool, true, false, cond}
use mathlib.Core.List.{List}
use Prim.Native.Nat.{ℕ, zero, suc, ◌≤◌}
use native.Mathlib.Omega.{arith}
use lib.ListN.{length}
use Rattle.store.specs.Store.{handed}
use Rattle.blocks.specs.declared.header.Fields.{Fields}
use Rattle.history.specs.Line.{Line}
use Rattle.history.specs.Step.{message_of, outcome_at, dropped_at, loss_at}
use Rattle.history.specs.declared.Lost.{Lost}
use Rattle.history.proofs.Theorems.{theorem_told_only, theorem_dropped}
use Rattle.history.proofs.LostHolds.{theorem_lost_only}
use Rattle.reports.specs.Lent.{Lent, Event, fault_in}
use Rattle.reports.specs.declared.unit.Settings.{Settings}
use Rattle.receiver.specs.View.{answer_of}
use Rattle.receiver.specs.Reached.{report_of, reports, refused_with, Reached, Answered, Hears}
use Rattle.receiver.specs.declared.answer.Answer.{Answer}
use Rattle.receiver.specs.declared.Receiver.{Receiver}
use Rattle.receiver.specs.declared.Reply.{Reply}

-- a mark that is 1 exactly when it should be
mark_of : (b : Bool) {n : ℕ} → n ≤ 1 → (n ≡ 1 → b ≡ true) → (b ≡ true → n ≡ 1) → n ≡ cond b 1 0
mark_of true h f g = g refl
mark_of false {n} h f g =
    let z : n ≡ 1 → ⊥ = λ e. let t = f e in let y : ◌≡◌ {A = ℕ} 0 1 = cc in omega arith in omega arith

parts : (x : Answer) {o d f b : ℕ} {g : Fields} {y : Lost} → x.outcome ≡ o → x.dropped ≡ d → x.fault ≡ f
    → x.bits ≡ b → x.fields ≡ g → x.lost ≡ y
    → x ≡ record { outcome = o; dropped = d; fault = f; bits = b; fields = g; lost = y }
parts x a b c d e f = rw (← a, ← b, ← c, ← d, ← e, ← f) refl

module _ (s : Settings) (ls : Line Event) (l : Lent) where
  pub answer_is : {r : Reply} {old new : List ℕ} → Answered s ls l r old new
      → r.answer
      ≡ answer_of (outcome_at (reports s ls) (report_of s l)) (cond (dropped_at (reports s ls) (report_of s l)) 1 0)
      (fault_in l) (loss_at (reports s ls) (report_of s l))
  answer_is {r} a =
      let t = theorem_told_only (reports s ls) (report_of s l) a.told in
      let d = theorem_dropped (reports s ls) (report_of s l) in
      parts r.answer t.0
      (mark_of (dropped_at (reports s ls) (report_of s l)) a.mark (λ e. d.1 (a.dropped.0 e))
      (λ e. a.dropped.1 (d.0 e)))
      a.fault
      (a.bits ∙ ap length t.2) t.1 (theorem_lost_only (reports s ls) (report_of s l) a.lost)

  pub buffer_is : {r : Reply} {old new : List ℕ} → Answered s ls l r old new
      → new ≡ handed (message_of (outcome_at (reports s ls) (report_of s l))) old
  buffer_is {r} {old} a =
      a.buffer ∙ ap (λ (m : List Bool). handed m old) (theorem_told_only (reports s ls) (report_of s l) a.told).2

-- ---- two answers

reply_eq : (r q : Reply) → r.receiver ≡ q.receiver → r.answer ≡ q.answer → r ≡ q
reply_eq r q a b = ap₂ (λ (x : Receiver) (y : Answer). record { receiver = x; answer = y }) a b

unique_when : (n : ℕ) {before : Receiver} {l : Lent} {old : List ℕ} → Reached before → refused_with l old ≡ n
    → {r q : Reply} {new new' : List ℕ}
    → Hears before l r old new → Hears before l q old new' → (r ≡ q) × (new ≡ new')
unique_when zero {l = l} k e {r} {q} h h' =
    let a = h.answered k.settings k.heard k.leads e in
    let b = h'.answered k.settings k.heard k.leads e in (
      reply_eq r q (a.receiver ∙ sym b.receiver)
          (answer_is k.settings k.heard l a ∙ sym (answer_is k.settings k.heard l b)),
      buffer_is k.settings k.heard l a ∙ sym (buffer_is k.settings k.heard l b),
    )
unique_when (suc n) k e {r} {q} h h' =
    let a = h.refused n e in
    let b = h'.refused n e in
    (reply_eq r q (a.receiver ∙ sym b.receiver) (a.answer ∙ sym b.answer), a.buffer ∙ sym b.buffer)

-- two answers that `hear` may give to the same call, and the buffers after them, are equal
pub hear_unique : {before : Receiver} {l : Lent} {old : List ℕ} → Reached before → {r q : Reply} {new new' : List ℕ}
    → Hears before l r old new → Hears before l q old new' → (r ≡ q) × (new ≡ new')
hear_unique {l = l} {old = old} k h h' = unique_when (refused_with l old) k refl h h'
