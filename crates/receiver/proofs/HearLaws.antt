-- What the code makes of an accepted report is what the step makes of it, and so what the history asks for. Assumes
-- nothing.
use mathlib.Core.Path.{◌≡◌, refl, sym, ap, ap₂, ◌∙◌, subst}
use mathlib.Core.Bool.{Bool, true, false, not, cond}
use mathlib.Core.List.{List, [], ◌++◌}
use Prim.Native.Nat.{ℕ, suc, ◌+◌, ◌≤◌}
use native.Mathlib.Omega.{arith}
use borrow.Author.Tests.{eqb-true, eqb-false}
use lib.ListN.{length}
use Rattle.std.specs.Prelude.{Result, Ok, Err, is_ok, eqb}
use Rattle.store.specs.Store.{store_of, handed}
use Rattle.history.specs.Line.{Line, start, ◌▸◌}
use Rattle.history.specs.Slots.{due, no_loss, Heard, Report, header_in, more_in, countdown_in, bits_in}
use Rattle.history.specs.History.{History}
use Rattle.history.specs.Step as step
use Rattle.history.specs.Step.{State, message_of, in_turn, is_over, older_near, older_run, broken_off, judge}
use Rattle.history.specs.Step.{near_of, near_after, opening, run_after, joined_after, outcome_of, aged, verdict_at}
use Rattle.history.specs.Step.{answer, after}
use Rattle.history.specs.Step.{quiet, is_held, is_due, on_nothing, passed, outcome_at, dropped_at, lost_of, lost_in}
use Rattle.history.specs.Step.{loss_at, outcome_number}
use Rattle.history.specs.declared.Place.{Place}
use Rattle.history.specs.declared.Near.{Near}
use Rattle.history.specs.declared.Nears.{Nears}
use Rattle.history.specs.declared.Open.{Open}
use Rattle.history.specs.declared.Lost.{Lost}
use Rattle.history.specs.declared.Verdict.{Verdict}
use Rattle.history.specs.declared.Outcome as code
use Rattle.history.specs.declared.Outcome.TheVariants as outcome
use Rattle.history.specs.declared.Outcome.TheVariants.{Quiet}
use Rattle.history.specs.declared.What.TheVariants.{Nothing}
use Rattle.blocks.specs.Faults.{number_of, refusal}
use Rattle.blocks.specs.declared.fault.Fault.{Fault}
use Rattle.history.proofs.Verdicts.{absurd_bool}
use Rattle.history.proofs.Verdicts.{rest_at}
use Rattle.history.proofs.Bounds.{Small}
use Rattle.history.proofs.Theorems.{theorem_told, theorem_dropped}
use Rattle.history.proofs.LostHolds.{theorem_lost}
use Rattle.reports.specs.Lent.{Lent, Event, heard, fault_in}
use Rattle.reports.specs.Turns.{follows}
use Rattle.reports.specs.Units.{unit, settings_fit}
use Rattle.reports.specs.Reading.{brought_of, headless, Reads}
use Rattle.reports.specs.Nears.{flat, places_of, nears_of, Judged, fallen_when, Fallen, Kept}
use Rattle.reports.proofs.Counting.{and_false}
use Rattle.reports.proofs.NearLaws.{places_take, fewer_left, judged_list, nears_after}
use Rattle.reports.specs.declared.unit.Settings.{Settings}
use Rattle.reports.specs.declared.read.Brought.{Brought}
use Rattle.receiver.specs.View.{receiver_of, new_receiver, answer_of, plain_answer, with_loss, brought_bits, Counted}
use Rattle.receiver.specs.View.{Stored, Tells, Told, no_place, Brings}
use Rattle.receiver.specs.Reached.{report_of, reports, refused_with, Accepted, Leads, Reached, Answered, Hears}
use Rattle.receiver.specs.declared.answer.Answer.{Answer}
use Rattle.receiver.specs.declared.Receiver.{Receiver}
use Rattle.receiver.specs.declared.Reply.{Reply}
use Rattle.receiver.proofs.AcceptedLaws.{passes, last_named, follows_is, small, few_near, free_near}
use Rattle.receiver.proofs.AcceptedLaws.{no_assembly_is}
use Rattle.receiver.proofs.FaultLaws.{number_some}
use Rattle.receiver.proofs.TellLaws.{handed_none}

abbrev place : Lent → Place
place l = record { frame = l.frame; slot = l.slot }

-- ---- what is left of the record when a report comes

bits_left : (t : Bool) (j : List Bool) → cond t (length j) 0 ≡ length (cond t j [])
bits_left true j = refl
bits_left false j = refl

store_left : (t : Bool) (j : List Bool) → cond (not t) (store_of []) (store_of j) ≡ store_of (cond t j [])
store_left true j = refl
store_left false j = refl

nears_left : (t : Bool) (ns : List Near) → cond (not t) (nears_of []) (nears_of ns) ≡ nears_of (older_near t ns)
nears_left true ns = refl
nears_left false ns = refl

module _ (s : Settings) (ls : Line Event) {before : Receiver} (k : Leads s ls before) (l : Lent) where
  abbrev state : State
  state = after (reports s ls)

  abbrev q : Place
  q = place l

  abbrev left : State
  left = aged state q

  module _ {turn : Bool} (t : turn ≡ follows before.place q) where
    turn_is : turn ≡ in_turn state.last q
    turn_is = t ∙ rw k.there (follows_is state.last q (last_named s ls k.accepted))

    lost_is : broken_off turn before.assembly.run ≡ broken_off (in_turn state.last q) state.assembly.run
    lost_is = rw (turn_is, k.there) refl

    run_is : older_run turn q before.assembly.run ≡ left.assembly.run
    run_is = rw (turn_is, k.there) refl

    near_is : cond (not turn) (nears_of []) before.near ≡ nears_of left.near
    near_is = rw (turn_is, k.there) (nears_left (in_turn state.last q) state.near)

    bits_is : cond turn before.assembly.bits 0 ≡ length left.assembly.joined
    bits_is = rw (turn_is, k.there) (bits_left (in_turn state.last q) state.assembly.joined)

    store_is : cond (not turn) (store_of []) before.assembly.store ≡ store_of left.assembly.joined
    store_is = rw (turn_is, k.there) (store_left (in_turn state.last q) state.assembly.joined)

-- ---- what a report brings, by the fault that it is refused for

pub brings_fault : (f : Fault) (s : Settings) (l : Lent) {x : Brought} → x ≡ headless Nothing (number_of f) 0 0
    → Brings (number_of f) s l x
brings_fault f s l e =
    rw e
    (record {
      accepted = λ z. absurd (number_some f z);
      refused = λ _. refl;
      inside = record { ordered = omega arith; within = omega arith; near = omega arith };
      few = omega arith;
      falls = omega arith;
    })

pub brings_read : {s : Settings} {l : Lent} {x : Brought} → Reads s l x → Brings 0 s l x
brings_read r =
    record { accepted = λ _. r; refused = λ n. absurd (n refl); inside = r.inside; few = r.few; falls = r.falls }

-- ---- what the code asks for on the way

older_small : (turn : Bool) (tick : Place) (a : Open) → a.kept ≤ 14 → (older_run turn tick a).kept ≤ 14
older_small true tick a h = h
older_small false tick a h = omega arith

older_few : (turn : Bool) (ns : List Near) → length ns ≤ 7 → length (older_near turn ns) ≤ 7
older_few true ns h = h
older_few false ns h = omega arith

fewer : (turn : Bool) (n : ℕ) → n + 264 ≤ 4096 → cond turn n 0 + 264 ≤ 4096
fewer true n h = h
fewer false n h = omega arith

module _ {before : Receiver} (k : Reached before) (turn : Bool) where
  kept_small : Small (after (reports k.settings k.heard)).assembly
  kept_small = small k.settings k.heard k.leads.accepted

  pub run_small : (tick : Place) {run : Open} → run ≡ older_run turn tick before.assembly.run
      → run.kept ≤ 14
  run_small tick e =
      let z = kept_small in
      rw (e, k.leads.there) (older_small turn tick _ (omega (arith, z.blocks, z.slots)))

  pub bits_small : {bits : ℕ} → bits ≡ cond turn before.assembly.bits 0 → bits + 264 ≤ 4096
  bits_small e =
      let z = kept_small in
      rw (e, k.leads.there) (fewer turn _ (omega (arith, z.bits, z.blocks, z.slots)))

  -- the earlier headers that are left
  abbrev pub kept_near : List Near
  kept_near = older_near turn (after (reports k.settings k.heard)).near

  near_few : length kept_near ≤ 7
  near_few = older_few turn _ (few_near k.settings k.heard k.leads.accepted)

  pub near_known : {near : Nears} → near ≡ cond (not turn) (nears_of []) before.near → near ≡ nears_of kept_near
  near_known e = e ∙ rw k.leads.there (nears_left turn (after (reports k.settings k.heard)).near)

  pub count_few : {near : Nears} → near ≡ cond (not turn) (nears_of []) before.near → near.count ≤ 7
  count_few e = omega (arith, ap (λ (n : Nears). n.count) (near_known e), near_few)

quiet_nothing : (due lost : Bool) → (on_nothing due lost).outcome ≡ Quiet
quiet_nothing true lost = refl
quiet_nothing false lost = refl

-- an outcome's number is small
pub few_outcomes : (o : code.Outcome) → outcome_number o ≤ 5
few_outcomes outcome.Quiet = omega arith
few_outcomes outcome.Single = omega arith
few_outcomes outcome.Joined = omega arith
few_outcomes outcome.Opened = omega arith
few_outcomes outcome.Kept = omega arith
few_outcomes outcome.Copied = omega arith

module _ {f : ℕ} {s : Settings} {l : Lent} {x : Brought} (b : Brings f s l x) (o : Open) (n : List Near) (q : Place)
    (lost : Bool) {v : Verdict} (e : v ≡ judge x.what o n q x.meant x.raw x.countdown lost) where
  -- a buffer is written to only where it is long enough
  room_when : {m : ℕ} → (f ≡ 0 → 512 ≤ m) → (d : Bool) → eqb f 0 ≡ d → (v.outcome ≡ Quiet → ⊥) → 512 ≤ m
  room_when h true d u = h (eqb-true f 0 d)
  room_when h false d u = absurd (u (rw (e, b.refused (eqb-false f 0 d)) (quiet_nothing (is_due o q) lost)))

  pub tells_inside : {m : ℕ} → (f ≡ 0 → 512 ≤ m) → (v.outcome ≡ Quiet → ⊥) → 512 ≤ m
  tells_inside h = room_when h (eqb f 0) refl

-- ---- a place for the header that is kept

none_near : (due lost : Bool) → (on_nothing due lost).near ≡ false
none_near true lost = refl
none_near false lost = refl

module _ {before : Receiver} (k : Reached before) (turn : Bool) {near : Nears}
    (e : near ≡ cond (not turn) (nears_of []) before.near) where
  abbrev ns : List Near
  ns = kept_near k turn

  pub count_known : near.count ≡ length ns
  count_known = ap (λ (n : Nears). n.count) (near_known k turn e)

  pub places_known : near.places ≡ flat (places_of ns)
  places_known = ap (λ (n : Nears). n.places) (near_known k turn e)

  pub judged_kept : (x : Brought) (a : Open) (q : Place) (lost : Bool) {v : Verdict}
      → Judged x a near.places near.count q lost v → v ≡ judge x.what a ns q x.meant x.raw x.countdown lost
  judged_kept = judged_list ns count_known places_known

  module _ (over : Bool) {left : Nears} (f : Fallen over near.places near.count left.count left.places) where
    left_is : left.count ≡ length (fallen_when over ns)
    left_is =
        (f (places_of ns) places_known).0
        ∙ rw count_known (ap (λ (m : List Near). length (fallen_when over m)) (places_take ns))

    pub left_few : left.count ≤ 7
    left_few = omega (arith, left_is, fewer_left over ns, count_few k turn e, count_known)

    pub left_free : (d : Result (Unit {0}) Fault) (l : Lent)
        → turn ≡ cond (is_ok d) (follows before.place (place l)) true
        → over ≡ cond (is_ok d) (is_over (place l)) false → {x : Brought} → Brings (refusal d) before.settings l x
        → (a : Open) (q : Place) (lost : Bool) {v : Verdict} → Judged x a near.places near.count q lost v
        → v.near ≡ true → left.count ≤ 6
    left_free (Ok z) l t o {x} b a q lost {v} j n =
        let y = turn_is k.settings k.heard k.leads l t in
        let hs = reports k.settings k.heard in
        let w : left.count ≡ length (fallen_when (is_over (place l)) (rest_at hs (place l)).near) =
        left_is ∙ rw (o, y) refl in
        omega (arith, w, free_near k.settings k.heard (place l) k.leads.accepted)
    left_free (Err g) l t o {x} b a q lost {v} j n =
        let w : v.near ≡ false =
        ap (λ (v : Verdict). v.near) (judged_kept x a q lost j)
        ∙ rw (b.refused (number_some g)) (none_near (is_due a q) lost) in
        absurd_bool (sym w ∙ n)

-- ---- the reply

-- What the code finds on the way to its reply to a report that is accepted, or refused for a fault; and the lent
-- buffer, before and after.
pub record Works (before : Receiver) (d : Result (Unit {0}) Fault) (l : Lent) (r : Reply) (old new : List ℕ) : Type 0
  where
    pub turn : Bool
    pub tick : Place
    pub lost : Bool
    pub run : Open
    pub near : Nears
    pub bits : ℕ
    pub store : List ℕ
    pub x : Brought
    pub v : Verdict
    pub told : Answer
    pub over : Bool
    pub left : Nears
    pub loss : Lost
    pub turn_is : turn ≡ cond (is_ok d) (follows before.place (place l)) true
    pub tick_is : tick ≡ cond (is_ok d) (place l) no_place
    pub lost_is : lost ≡ broken_off turn before.assembly.run
    pub run_is : run ≡ older_run turn tick before.assembly.run
    pub near_is : near ≡ cond (not turn) (nears_of []) before.near
    pub bits_is : bits ≡ cond turn before.assembly.bits 0
    pub store_is : store ≡ cond (not turn) (store_of []) before.assembly.store
    pub brings : Brings (refusal d) before.settings l x
    pub judges : Judged x run near.places near.count tick lost v
    pub answer_is : r.answer ≡ with_loss told loss
    pub loss_is : let g = before.assembly.run.fields in
        loss ≡ lost_of v.dropped g.source.ssi g.message before.assembly.bits
    pub tells : Told v x (brought_bits x l.blocks) run.fields bits store told old new
    pub settings_after : r.receiver.settings ≡ before.settings
    pub place_after : r.receiver.place ≡ cond (is_ok d) (place l) before.place
    pub over_is : over ≡ cond (is_ok d) (is_over (place l)) false
    pub falls : Fallen over near.places near.count left.count left.places
    pub keeps : Kept v.near over x left.places left.count r.receiver.near.count r.receiver.near.places
    pub run_after : let o = opening x.fields x.raw x.more l.frame x.countdown in
        r.receiver.assembly.run ≡ run_after v.act o run
    pub bits_after : Counted v.act bits x.bits r.receiver.assembly.bits
    pub store_after : Stored v.act bits (brought_bits x l.blocks) store r.receiver.assembly.store

abbrev mark_of : Bool → ℕ
mark_of b = cond b 1 0

mark_one : (b : Bool) → mark_of b ≡ 1 → b ≡ true
mark_one true e = refl
mark_one false e = absurd (omega arith)

mark_small : (b : Bool) → mark_of b ≤ 1
mark_small true = omega arith
mark_small false = omega arith

-- the step's reply is what the history asks for
pub answers : (s : Settings) (ls : Line Event) (l : Lent) {r : Reply} {old new : List ℕ}
    → (let a = answer (after (reports s ls)) (report_of s l) in
    r ≡ record {
      receiver = receiver_of s (step.step (after (reports s ls)) (report_of s l));
      answer =
          answer_of a.outcome (cond a.dropped 1 0) (fault_in l) (lost_in (after (reports s ls)) a.dropped);
    })
    → new ≡ handed (message_of (outcome_at (reports s ls) (report_of s l))) old → Answered s ls l r old new
unfolding after
answers s ls l e b =
    let hs = reports s ls in
    let x = report_of s l in
    let d = dropped_at hs x in
    record {
      message = message_of (outcome_at hs x);
      told = rw e (theorem_told hs x);
      bits = rw e refl;
      buffer = b;
      dropped = rw e ((λ i. (theorem_dropped hs x).0 (mark_one d i)), (λ i. ap mark_of ((theorem_dropped hs x).1 i)));
      mark = rw e (mark_small d);
      lost = rw e (theorem_lost hs x);
      fault = rw e refl;
      receiver = rw e refl;
    }

module _ (s : Settings) (ls : Line Event) {before : Receiver} (k : Leads s ls before) (l : Lent) {r : Reply}
    {old new : List ℕ} (w : Works before (Ok tt) l r old new) where
  abbrev history : History
  history = reports s ls

  abbrev next : Report
  next = report_of s l

  abbrev h : Heard
  h = heard s l

  abbrev rest : State
  rest = left s ls k l

  reads : Reads s l w.x
  reads =
      subst (λ (z : Settings). Reads z l w.x) (ap (λ (z : Receiver). z.settings) k.there)
      (w.brings.accepted refl)

  run_left : w.run ≡ rest.assembly.run
  run_left = w.run_is ∙ rw w.tick_is (run_is s ls k l w.turn_is)

  near_left : w.near ≡ nears_of rest.near
  near_left = w.near_is ∙ near_is s ls k l w.turn_is

  known_left : w.near.count ≡ length rest.near
  known_left = ap (λ (n : Nears). n.count) near_left

  places_are_left : w.near.places ≡ flat (places_of rest.near)
  places_are_left = ap (λ (n : Nears). n.places) near_left

  bits_left_is : w.bits ≡ length rest.assembly.joined
  bits_left_is = w.bits_is ∙ bits_is s ls k l w.turn_is

  store_left_is : w.store ≡ store_of rest.assembly.joined
  store_left_is = w.store_is ∙ store_is s ls k l w.turn_is

  shown : w.x ≡ brought_of h (fault_in l) w.x.from
  shown = reads.shows

  -- the verdict is the step's
  verdict_is : w.v ≡ verdict_at (after history) next
  verdict_is =
      judged_list rest.near known_left places_are_left w.x w.run w.tick w.lost w.judges
      ∙ rw (shown, run_left, w.tick_is, w.lost_is ∙ lost_is s ls k l w.turn_is) refl

  brought_is : brought_bits w.x l.blocks ≡ bits_in h
  brought_is = reads.message

  abbrev verdict : Verdict
  verdict = verdict_at (after history) next

  -- and so are the receiver and the answer
  receiver_is : r.receiver ≡ receiver_of s (step.step (after history) next)
  unfolding step.step
  receiver_is =
      let j = rest.assembly.joined in
      let e₁ : r.receiver.settings ≡ s = w.settings_after ∙ ap (λ (z : Receiver). z.settings) k.there in
      let e₂ : r.receiver.near
      ≡ nears_of
      (near_after (is_over (place l)) verdict.near (near_of (header_in h).raw (countdown_in h)) rest.near) =
      nears_after w.over w.v.near w.x rest.near known_left places_are_left
      (older_few (in_turn (after history).last (place l)) (after history).near (few_near s ls k.accepted))
      (λ _. rw w.over_is (free_near s ls (place l) k.accepted)) w.falls w.keeps
      ∙ rw (w.over_is, verdict_is, shown) refl in
      let o = opening (header_in h).fields (header_in h).raw (more_in h) l.frame (countdown_in h) in
      let e₃ : r.receiver.assembly.run ≡ run_after verdict.act o rest.assembly.run =
      w.run_after ∙ rw (verdict_is, shown, run_left) refl in
      let e₄ : r.receiver.assembly.bits ≡ length (joined_after verdict.act (bits_in h) j) =
      w.bits_after j (bits_in h) bits_left_is (ap (λ (y : Brought). y.bits) shown)
      ∙ ap (λ (v : Verdict). length (joined_after v.act (bits_in h) j)) verdict_is in
      let e₅ : r.receiver.assembly.store ≡ store_of (joined_after verdict.act (bits_in h) j) =
      w.store_after j store_left_is bits_left_is
      ∙ ap₂ (λ (v : Verdict) (b : List Bool). store_of (joined_after v.act b j)) verdict_is brought_is in
      λ i. record {
        settings = e₁ i;
        place = w.place_after i;
        near = e₂ i;
        assembly = record { run = e₃ i; bits = e₄ i; store = e₅ i };
      }

  -- what is told of an assembly is told of the step's
  loss_left : w.loss ≡ loss_at history next
  unfolding answer
  loss_left = w.loss_is ∙ rw (verdict_is, k.there) refl

  told_is : Tells (outcome_at history next) (dropped_at history next) (fault_in l) w.told old new
  unfolding answer
  told_is =
      let j = rest.assembly.joined in
      let T : Verdict → Brought → List Bool → Open → Type 0 =
      λ v y b a.
      Tells (outcome_of v.outcome y.fields b a.fields (j ++ b)) v.dropped y.fault w.told old new
      in
      let t₁ : T verdict w.x (brought_bits w.x l.blocks) w.run =
      subst (λ (v : Verdict). T v w.x (brought_bits w.x l.blocks) w.run) verdict_is
      (w.tells j store_left_is bits_left_is) in
      let t₂ : T verdict w.x (bits_in h) rest.assembly.run =
      subst (λ (a : Open). T verdict w.x (bits_in h) a) run_left
      (subst (λ (b : List Bool). T verdict w.x b w.run) brought_is t₁) in
      subst (λ (y : Brought). T verdict y (bits_in h) rest.assembly.run) shown t₂

  pub answered : Answered s ls l r old new
  answered =
      answers s ls l
      (ap₂ (λ (x : Receiver) (y : Answer). record { receiver = x; answer = y }) receiver_is
      (w.answer_is ∙ ap₂ with_loss told_is.answer loss_left))
      told_is.buffer

  leads_on : Accepted l → Leads s (ls ▸ l) r.receiver
  unfolding after
  leads_on a = record { fit = k.fit; accepted = (k.accepted, a); there = receiver_is }

-- ---- what the calls return

heard_all : {before : Receiver} (k : Reached before) (l : Lent) (old : List ℕ) → refused_with l old ≡ 0 → {r : Reply}
    {new : List ℕ} → Works before (Ok tt) l r old new → Reached r.receiver × Hears before l r old new
heard_all k l old z w = (
  record {
    settings = k.settings;
    heard = k.heard ▸ l;
    leads = leads_on k.settings k.heard k.leads l w (passes l old z).0;
  },
  record {
    refused = λ m i. let c : suc m ≡ 0 = sym i ∙ z in absurd (omega arith);
    answered = λ s ls h i. answered s ls h l w;
  },
)

pub not_heard : {before : Receiver} (k : Reached before) (l : Lent) (old : List ℕ) {f : ℕ} → f ≡ refused_with l old
    → (f ≡ 0 → ⊥) → {r : Reply} → r ≡ record { receiver = before; answer = plain_answer 0 0 f } → {new : List ℕ}
    → new ≡ old → Reached r.receiver × Hears before l r old new
not_heard k l old {f} e n q o = (
  rw q k,
  record {
    refused = λ m i. let z : f ≡ suc m = e ∙ i in record { answer = rw (q, z) refl; receiver = rw q refl; buffer = o };
    answered = λ s ls h i. absurd (n (e ∙ i));
  },
)

-- a refused report leaves all as it was
module _ {before : Receiver} (k : Reached before) (l : Lent) (f : Fault) {r : Reply} {old new : List ℕ}
    (w : Works before (Err f) l r old new) where
  abbrev joined : List Bool
  joined = (after (reports k.settings k.heard)).assembly.joined

  run_on : w.run ≡ before.assembly.run
  run_on = w.run_is ∙ rw (w.turn_is, w.tick_is) refl

  nothing_brought : w.x ≡ headless Nothing (number_of f) 0 0
  nothing_brought = w.brings.refused (number_some f)

  abbrev were : List Near
  were = (after (reports k.settings k.heard)).near

  near_was : before.near ≡ nears_of were
  near_was = ap (λ (z : Receiver). z.near) k.leads.there

  near_on : w.near ≡ nears_of were
  near_on = w.near_is ∙ rw w.turn_is near_was

  known_on : w.near.count ≡ length were
  known_on = ap (λ (n : Nears). n.count) near_on

  places_on : w.near.places ≡ flat (places_of were)
  places_on = ap (λ (n : Nears). n.places) near_on

  never_due : (a : Open) → is_due a no_place ≡ false
  never_due a = rw (and_false (eqb 0 (due a.frame a.countdown a.kept).frame), and_false (is_held a)) refl

  idle : w.v ≡ passed false
  idle =
      judged_list were known_on places_on w.x w.run w.tick w.lost w.judges
      ∙ rw (nothing_brought, w.tick_is, never_due w.run, w.lost_is, w.turn_is) refl

  bits_were : before.assembly.bits ≡ length joined
  bits_were = ap (λ (z : Receiver). z.assembly.bits) k.leads.there

  store_was : before.assembly.store ≡ store_of joined
  store_was = ap (λ (z : Receiver). z.assembly.store) k.leads.there

  bits_on : w.bits ≡ length joined
  bits_on = w.bits_is ∙ rw w.turn_is bits_were

  store_on : w.store ≡ store_of joined
  store_on = w.store_is ∙ rw w.turn_is store_was

  kept_all : r.receiver ≡ before
  kept_all =
      let n : w.v.near ≡ true → length (fallen_when w.over were) ≤ 6 =
      λ z. absurd_bool (sym (ap (λ (v : Verdict). v.near) idle) ∙ z) in
      let e₂ : r.receiver.near ≡ before.near =
      nears_after w.over w.v.near w.x were known_on places_on
      (few_near k.settings k.heard k.leads.accepted) n w.falls w.keeps
      ∙ rw (w.over_is, idle) (sym near_was) in
      let e₃ : r.receiver.assembly.run ≡ before.assembly.run = w.run_after ∙ rw idle run_on in
      let c : r.receiver.assembly.bits ≡ length (joined_after w.v.act [] joined) =
      w.bits_after joined [] bits_on (ap (λ (y : Brought). y.bits) nothing_brought) in
      let e₄ : r.receiver.assembly.bits ≡ before.assembly.bits = c ∙ rw idle (sym bits_were) in
      let e₅ : r.receiver.assembly.store ≡ before.assembly.store =
      w.store_after joined store_on bits_on ∙ rw idle (sym store_was) in
      λ i. record {
        settings = w.settings_after i;
        place = w.place_after i;
        near = e₂ i;
        assembly = record { run = e₃ i; bits = e₄ i; store = e₅ i };
      }

  told_fault : Tells quiet false (number_of f) w.told old new
  told_fault =
      let T : Verdict → Brought → Type 0 =
      λ v y. Tells (outcome_of v.outcome y.fields (brought_bits w.x l.blocks) w.run.fields
      (joined ++ brought_bits w.x l.blocks)) v.dropped y.fault w.told old new in
      subst (λ (y : Brought). T (passed false) y) nothing_brought
      (subst (λ (v : Verdict). T v w.x) idle (w.tells joined store_on bits_on))

  no_loss_told : w.loss ≡ no_loss
  no_loss_told = w.loss_is ∙ rw idle refl

  left_alone : number_of f ≡ refused_with l old → Reached r.receiver × Hears before l r old new
  left_alone e =
      not_heard k l old e (number_some f)
      (ap₂ (λ (x : Receiver) (y : Answer). record { receiver = x; answer = y }) kept_all
      (w.answer_is ∙ ap₂ with_loss told_fault.answer no_loss_told))
      (told_fault.buffer ∙ handed_none old)

-- what the code works out is what `hear` promises
pub replied : {before : Receiver} (k : Reached before) (l : Lent) (old : List ℕ) (d : Result (Unit {0}) Fault)
    → refusal d ≡ refused_with l old → {r : Reply} {new : List ℕ} → Works before d l r old new
    → Reached r.receiver × Hears before l r old new
replied k l old (Ok tt) e w = heard_all k l old (sym e) w
replied k l old (Err f) e w = left_alone k l f w e

-- a fresh receiver
pub fresh_leads : (individual group mni : ℕ) → settings_fit individual group mni ≡ true
    → Leads (unit individual group mni) start (new_receiver individual group mni)
unfolding after
fresh_leads individual group mni e = record { fit = e; accepted = tt; there = rw no_assembly_is refl }

pub fresh_reached : (individual group mni : ℕ) → settings_fit individual group mni ≡ true
    → Reached (new_receiver individual group mni)
fresh_reached individual group mni e =
    record { settings = unit individual group mni; heard = start; leads = fresh_leads individual group mni e }
