-- A run, turn after turn. Assumes nothing.
use mathlib.Core.Path.{◌≡◌, refl, sym, ap, ap₂, ◌∙◌}
use mathlib.Core.Bool.{Bool, true, false, cond, ◌&&◌}
use mathlib.Core.List.{List, [], ◌++◌}
use Prim.Native.Nat.{ℕ, zero, suc, ◌+◌, ◌-◌, ◌≤◌, ◌<◌}
use native.Mathlib.Omega.{arith}
use lib.ListN.{length, take, drop, length-drop}
use lib.Seq.{drop-drop, take_all}
use borrow.Author.Tests.{leb-true, leb-false}
use Rattle.text.specs.Text.{Wrote, written}
use Rattle.text.proofs.Writing.{wrote_none, wrote_both}
use Rattle.history.specs.Line.{Line}
use Rattle.reports.specs.Lent.{Event}
use Rattle.reports.specs.declared.unit.Settings.{Settings}
use Rattle.receiver.specs.Reached.{receiver_at, Leads, Reached}
use Rattle.receiver.specs.declared.Receiver.{Receiver}
use Rattle.slotlog.specs.Print.{lines_of}
use Rattle.slotlog.specs.Room.{moved_up}
use Rattle.slotlog.specs.Runs.{Passed, passed, Replies, state_of, shown_line, Stage, onward, turn, turns, run_over}
use Rattle.slotlog.specs.Runs.{goes_on, has_room, run_at, Ran, OneAs, One, only, Writes}
use Rattle.slotlog.specs.declared.replies.NextReply.{NextReply}
use Rattle.slotlog.specs.declared.run.Run.{Run}
use Rattle.slotlog.specs.declared.run.State.{State}
use Rattle.slotlog.specs.declared.run.State.TheVariants.{GoesOn, Wants, Cut}
use Rattle.slotlog.proofs.RunLaws.{next_inside, next_forward, next_leads, next_goes, goes_none, goes_both}
use Rattle.slotlog.proofs.RunLaws.{lines_both, line_shown}

-- ---- whether it goes on

goes : (x : State) → goes_on x ≡ true → x ≡ GoesOn
goes GoesOn e = refl
goes Wants e = cc
goes Cut e = cc

stops : (x : State) → (x ≡ GoesOn → ⊥) → goes_on x ≡ false
stops GoesOn n = absurd (n refl)
stops Wants n = refl
stops Cut n = refl

stopped : (x : State) → goes_on x ≡ false → x ≡ GoesOn → ⊥
stopped GoesOn f e = cc
stopped Wants f e = cc
stopped Cut f e = cc

-- ---- one turn

abbrev first : Line Event → Stage
first ls = record { heard = ls; read = 0; text = []; state = GoesOn }

module _ (s : Settings) (log : List ℕ) where
  -- what a turn passes
  abbrev ahead : Stage → Passed
  ahead x = passed s x.heard (drop x.read log)

  module _ (room : ℕ) (x : Stage) where
    -- a turn is made; it is not for want of room, or in another state
    turn_made : x.state ≡ GoesOn → has_room room (length x.text) ≡ true → turn s log room x ≡ onward x (ahead x)
    turn_made e h = rw (ap goes_on e, h) refl

    turn_full : has_room room (length x.text) ≡ false → turn s log room x ≡ x
    turn_full h = full_when (goes_on x.state) (has_room room (length x.text)) h
      where
        full_when : (b c : Bool) → c ≡ false → cond (b && c) (onward x (ahead x)) x ≡ x
        full_when true c h = rw h refl
        full_when false c h = refl

    turn_over : (x.state ≡ GoesOn → ⊥) → turn s log room x ≡ x
    turn_over n = rw (stops x.state n) refl

  -- where a turn changes nothing, more of them do not
  turns_still : (room k : ℕ) (x : Stage) → turn s log room x ≡ x → turns k s log room x ≡ x
  unfolding turns
  turns_still room zero x e = refl
  turns_still room (suc k) x e = ap (turns k s log room) e ∙ turns_still room k x e

-- the turns that are left
abbrev pub left_in : List ℕ → State → ℕ → ℕ
left_in log state read = cond (goes_on state) (suc (length log - read)) 0

fewer_when : (b : Bool) {n m : ℕ} → (b ≡ true → n < m) → cond b (suc n) 0 < suc m
fewer_when true h = let l = h refl in omega arith
fewer_when false h = omega arith

fewer_left : (s : Settings) (ls : Line Event) (log : List ℕ) (read : ℕ) (state : State) → read ≤ length log
    → state ≡ GoesOn
    → (let p = passed s ls (drop read log) in
    left_in log (state_of p.shown) (read + p.took) < left_in log state read)
fewer_left s ls log read state h z =
    let p = passed s ls (drop read log) in
    let i = next_inside s ls (drop read log) in
    rw (ap goes_on z)
    (fewer_when (goes_on (state_of p.shown))
    (λ e.
    omega
    (arith, next_forward s ls (drop read log) (goes (state_of p.shown) e), length-drop read log)))

-- ---- what a run means

module _ (s : Settings) (ls : Line Event) (log : List ℕ) where
  -- as far as a run can come
  pub record Come (x : Stage) : Type 0 where
    pub writes : Writes s ls log x
    pub inside : x.read ≤ length log
    pub leads : {before : Receiver} → Leads s ls before → Leads s x.heard (receiver_at s x.heard)

  come_first : Come (first ls)
  unfolding lines_of
  come_first =
      record {
        writes = record { said = []; lines = refl; goes = goes_none s ls log };
        inside = omega arith;
        leads = λ k. record { fit = k.fit; accepted = k.accepted; there = refl };
      }

  come_on : (x : Stage) → Come x → x.state ≡ GoesOn → Come (onward x (ahead s log x))
  come_on x c z =
      let rest = drop x.read log in
      let p = ahead s log x in
      let g = next_goes s x.heard rest in
      let w = c.writes in
      let i = next_inside s x.heard rest in
      let d : drop p.took rest ≡ drop (x.read + p.took) log = drop-drop p.took x.read log in
      record {
        writes = record {
          said = w.said ++ only g.reply;
          lines = ap₂ ◌++◌ w.lines (line_shown p.shown g.reply g.shown)
              ∙ sym (lines_both w.said (only g.reply));
          goes = rw (sym d) (goes_both w.said (only g.reply) w.goes (λ u. cc) g.goes);
        };
        inside = omega (arith, c.inside, length-drop x.read log);
        leads = λ k. next_leads s x.heard rest (c.leads k);
      }

  module _ (room : ℕ) where
    come_turn : (x : Stage) → Come x → Come (turn s log room x)
    come_turn x c = when (goes_on x.state) (has_room room (length x.text)) refl
      where
        when : (a b : Bool) → goes_on x.state ≡ a → Come (cond (a && b) (onward x (ahead s log x)) x)
        when true true e = come_on x c (goes x.state e)
        when true false e = c
        when false b e = c

    come_turns : (k : ℕ) (x : Stage) → Come x → Come (turns k s log room x)
    unfolding turns
    come_turns zero x c = c
    come_turns (suc k) x c = come_turns k (turn s log room x) (come_turn x c)

    pub come_over : Come (run_over s ls log room)
    come_over = come_turns _ (first ls) come_first

    -- with turns enough it stops in state GoesOn for want of room only
    abbrev Full : Stage → Type 0
    Full x = x.state ≡ GoesOn → room < length x.text + 128

    full_turns : (k : ℕ) (x : Stage) → Come x → left_in log x.state x.read ≤ k → Full (turns k s log room x)
    unfolding turns
    full_turns zero x c h = λ z. let m = rw (ap goes_on z) at h in absurd (omega arith)
    full_turns (suc k) x c h =
        let y = onward x (ahead s log x) in
        when (λ d l. full_turns k y d l) (goes_on x.state) (has_room room (length x.text)) refl refl
      where
        when : (let y = onward x (ahead s log x) in Come y → left_in log y.state y.read ≤ k
            → Full (turns k s log room y))
            → (a b : Bool) → goes_on x.state ≡ a → has_room room (length x.text) ≡ b
            → Full (turns k s log room (cond (a && b) (onward x (ahead s log x)) x))
        when more true true e f =
            let z = goes x.state e in
            more (come_on x c z) (omega (arith, h, fewer_left s x.heard log x.read x.state c.inside z))
        when more true false e f =
            rw (turns_still s log room k x (turn_full s log room x f))
            (λ z. omega (arith, leb-false 128 (room - length x.text) f))
        when more false b e f =
            let n = stopped x.state e in
            rw (turns_still s log room k x (turn_over s log room x n)) (λ z. absurd (n z))

    pub run_full : Full (run_over s ls log room)
    run_full = full_turns _ (first ls) come_first (omega arith)

-- ---- the loop

-- one record and its line
pub one : (rest : List ℕ) (x : Run) (old : List ℕ) {y : NextReply} {new : List ℕ} {after : ℕ}
    → Replies x.receiver rest y → Wrote old x.written (shown_line y.shown) new after → after ≤ x.written + 128
    → One rest x old
    (record { receiver = y.receiver; read = x.read + y.took; written = after; state = state_of y.shown }) new
one rest x old {y} r w h =
    record {
      reached = r.reached;
      settled = λ s ls k.
          let e = r.settled s ls k in
          record {
            receiver = ap (λ (q : NextReply). q.receiver) e;
            read = ap (λ (q : NextReply). x.read + q.took) e;
            state = ap (λ (q : NextReply). state_of q.shown) e;
            wrote = rw (ap (λ (q : NextReply). q.shown) e) at w;
          };
      few = h;
    }

-- where the run is at `x`, for a unit with these settings that had heard these reports: the stage that the function has
-- come to, and enough of its turns
pub record At (s : Settings) (ls : Line Event) (log old : List ℕ) (x : Run) (new : List ℕ) : Type 0 where
  pub stage : Stage
  pub left : ℕ
  pub total : run_over s ls log (length old) ≡ turns left s log (length old) stage
  pub enough : left_in log x.state x.read ≤ left
  pub leads : Leads s stage.heard x.receiver
  pub read : x.read ≡ stage.read
  pub state : x.state ≡ stage.state
  pub wrote : Wrote old 0 stage.text new x.written

-- as far as the run has come
pub record SoFar (before : Receiver) (log old : List ℕ) (x : Run) (new : List ℕ) : Type 0 where
  pub room : x.written ≤ length old
  pub same : length new ≡ length old
  pub inside : x.read ≤ length log
  pub reached : Reached x.receiver
  pub at : (s : Settings) (ls : Line Event) → Leads s ls before → At s ls log old x new

pub begun : (before : Receiver) (log old : List ℕ) → Reached before
    → SoFar before log old (record { receiver = before; read = 0; written = 0; state = GoesOn }) old
begun before log old k =
    record {
      room = omega arith;
      same = refl;
      inside = omega arith;
      reached = k;
      at = λ s ls j.
          record {
            stage = first ls;
            left = suc (length log);
            total = refl;
            enough = omega arith;
            leads = j;
            read = refl;
            state = refl;
            wrote = wrote_none old 0;
          };
    }

-- what was written from the start on
from_start : (old text : List ℕ) {new : List ℕ} {n : ℕ} → Wrote old 0 text new n
    → (n ≡ length text) × (new ≡ text ++ drop (length text) old)
unfolding written
from_start old text w =
    let z : 0 + length text ≡ length text = omega arith in
    (w.after ∙ z, w.bytes ∙ ap (λ (k : ℕ). text ++ drop k old) z)

-- what the loop reads next
pub rest_is : (at : ℕ) (log : List ℕ) → take (length log - at) (drop at log) ≡ drop at log
rest_is at log = take_all (length log - at) (drop at log) (omega (arith, length-drop at log))

module _ {before : Receiver} {log old : List ℕ} {x : Run} {new : List ℕ} (f : SoFar before log old x new) where
  -- the room that it has for a line
  pub room_left : has_room (length new) x.written ≡ true → x.written + 128 ≤ length new
  room_left e = omega (arith, f.room, f.same, leb-true 128 (length new - x.written) e)

  -- the stage's text is what was written
  room_is : {s : Settings} {ls : Line Event} (a : At s ls log old x new) {b : Bool}
      → has_room (length new) x.written ≡ b → has_room (length old) (length a.stage.text) ≡ b
  room_is a e =
      let n : length a.stage.text ≡ x.written = omega (arith, a.wrote.after) in
      ap₂ has_room (sym f.same) n ∙ e

  module _ {y : Run} {late : List ℕ} (z : x.state ≡ GoesOn) (o : One (drop x.read log) x new y late) where
    -- the next record, for the settings and reports that are known to lead to the receiver
    known : OneAs f.reached.settings (passed f.reached.settings f.reached.heard (drop x.read log)) x new
        y late
    known = o.settled f.reached.settings f.reached.heard f.reached.leads

    pub fewer : left_in log y.state y.read < left_in log x.state x.read
    fewer =
        rw (known.state, known.read)
        (fewer_left f.reached.settings f.reached.heard log x.read x.state f.inside z)

    at_next : (s : Settings) (ls : Line Event) → has_room (length new) x.written ≡ true → (a : At s ls log old x new)
        → (k : ℕ) → a.left ≡ k → At s ls log old y late
    unfolding turns
    at_next s ls h a zero e =
        let m = rw (ap goes_on z) at a.enough in absurd (omega arith)
    at_next s ls h a (suc k) e =
        let u = a.stage in
        let p = ahead s log u in
        let w = rw a.read at (o.settled s u.heard a.leads) in
        let g = fewer in
        record {
          stage = onward u p;
          left = k;
          total = a.total ∙ ap (λ (j : ℕ). turns j s log (length old) u) e
              ∙ ap (turns k s log (length old)) (turn_made s log (length old) u (sym a.state ∙ z) (room_is a h));
          enough = omega (arith, a.enough);
          leads = rw w.receiver (next_leads s u.heard (drop u.read log) a.leads);
          read = w.read;
          state = w.state;
          wrote = wrote_both old 0 u.text (shown_line p.shown) a.wrote w.wrote f.room;
        }

    pub further : has_room (length new) x.written ≡ true → length late ≡ length new → SoFar before log old y late
    further h l =
        let r = room_left h in
        let i = next_inside f.reached.settings f.reached.heard (drop x.read log) in
        record {
          room = omega (arith, o.few, f.same);
          same = l ∙ f.same;
          inside = omega (arith, known.read, f.inside, length-drop x.read log);
          reached = o.reached;
          at = λ s ls k. let a = f.at s ls k in at_next s ls h a a.left refl;
        }

  run_is : (s : Settings) (u : Stage) → x.receiver ≡ receiver_at s u.heard → x.read ≡ u.read
      → x.written ≡ length u.text
      → x.state ≡ u.state → x ≡ run_at s u
  run_is s u a b c d = rw (← a, ← b, ← c, ← d) refl

  -- where no turn changes the stage, the run is over
  ran : ((s : Settings) (ls : Line Event) (a : At s ls log old x new) → turn s log (length old) a.stage ≡ a.stage)
      → Ran before log old x new
  ran q =
      record {
        reached = f.reached;
        settled = λ s ls k.
            let a = f.at s ls k in
            let w = from_start old a.stage.text a.wrote in
            rw (a.total ∙ turns_still s log (length old) a.left a.stage (q s ls a))
            (record {
              answer = run_is s a.stage a.leads.there a.read w.0 a.state;
              output = w.1;
            });
        inside = f.inside;
        room = omega (arith, f.room, f.same);
      }

  pub ran_full : has_room (length new) x.written ≡ false → Ran before log old x new
  ran_full h = ran (λ s ls a. turn_full s log (length old) a.stage (room_is a h))

  pub ran_over : (x.state ≡ GoesOn → ⊥) → Ran before log old x new
  ran_over n = ran (λ s ls a. turn_over s log (length old) a.stage (λ e. n (a.state ∙ e)))

pub run_unique : {before : Receiver} {log old : List ℕ} → Reached before → {r q : Run} {new new' : List ℕ}
    → Ran before log old r new → Ran before log old q new' → (r ≡ q) × (new ≡ new')
run_unique k a b =
    let x = a.settled k.settings k.heard k.leads in
    let y = b.settled k.settings k.heard k.leads in
    (x.answer ∙ sym y.answer, x.output ∙ sym y.output)

pub part_unique : {before : Receiver} (room : List ℕ) (have : ℕ) {old : List ℕ} → Reached before
    → {r q : Run} {new new' after after' : List ℕ}
    → Ran before (take have room) old r new × (after ≡ moved_up have r.read room)
    → Ran before (take have room) old q new' × (after' ≡ moved_up have q.read room)
    → (r ≡ q) × (new ≡ new') × (after ≡ after')
part_unique room have k a b =
    let u = run_unique k a.0 b.0 in
    (u.0, u.1, a.1 ∙ ap (λ (x : Run). moved_up have x.read room) u.0 ∙ sym b.1)
