-- What a receiver answers to the reports of one message, whatever it heard before. Assumes nothing.
use Prim.Native.Nat.{ℕ, suc, ◌+◌, ◌≤◌}
use native.Mathlib.Omega.{arith}
use mathlib.Core.Path.{◌≡◌, refl, sym, ◌∙◌, ap, ap₂}
use mathlib.Core.Bool.{Bool, true, false, ◌&&◌}
use mathlib.Core.List.{List, ◌++◌}
use borrow.Author.Tests.{eq-eqb, ne_eqb}
use Rattle.bits.proofs.Runs.{join_none_right}
use Rattle.blocks.specs.Slots.{next_frame}
use Rattle.blocks.proofs.SlotLaws.{due_alike}
use Rattle.history.specs.Line.{Line, start, ◌▸◌, ◌⧺◌, count}
use Rattle.history.specs.Slots.{next, due, Header, Heard, nothing, fragmented, unfragmented, frag, end, Report}
use Rattle.history.specs.Slots.{header_in, is_fragmented}
use Rattle.history.specs.History.{History, final, InTurn, Unbroken, join, Singles, Copy, Copies}
use Rattle.history.specs.Step.{Assembly, State, Outcome, Answer, quiet, joined, is_due, is_last, broken_off, on_nothing}
use Rattle.history.specs.Step.{on_frag, on_end, on_fragmented, judged, answered, answer, after, outcome_at}
use Rattle.history.specs.declared.Place.{Place}
use Rattle.history.proofs.Turns.{frame_after}
use Rattle.history.proofs.Verdicts.{unfit, rest_at}
use Rattle.history.proofs.OpenRun.{same_place_true, same_place_is, turn_is, unbroken_on, left, again_is, repeats_is, At}
use Rattle.history.proofs.OpenRun.{join_more, with_bits, left_at, leaving, stays_at, takes_at, opens_at}
use Rattle.history.proofs.Outcomes.{untrue, answer_at, quiet_at}
use Rattle.history.proofs.OnceHolds.{theorem_again}
use Rattle.ends.specs.Sent.{in_slot, Sending, at_first, silence, again, block, on_the_way}
use Rattle.ends.specs.Sent.{Repeating, said, unsaid, said_again}

-- Where nothing is heard, nothing is handed over.
pub hushed : (hs : History) (r : Report) → r.heard ≡ nothing → outcome_at hs r ≡ quiet
hushed hs r e =
    let last = is_last (rest_at hs r.place).assembly.run in
    quiet_at hs r (ap (λ (x : Heard). (header_in x).for_us) e) (λ d. ap (unfit last) e)

abbrev told : Outcome → Answer
told o = record { outcome = o; dropped = false }

-- ---- A fragmented header.

module _ (hs : History) (h : Header) (more f : ℕ) (p : Place) (w : h.for_us ≡ true)
    (l : 1 ≤ p.frame) (u : p.frame ≤ 18) where
  abbrev heard_so_far : History → History
  heard_so_far rs = (hs ▸ in_slot p (fragmented h more f)) ⧺ rs

  turns : {rs : History} {bs : Line (List Bool)} → Sending h more f p rs bs → InTurn p rs
  turns at_first = tt
  turns (silence r s t e n) = (turns s, t)
  turns (again r f' s t e c) = (turns s, t)
  turns (block r b s t e d m) = (turns s, t)

  -- The assembly as it is held on the way, and its due slots: those of the first header.
  abbrev held : ℕ → ℕ → ℕ → Line (List Bool) → Assembly
  held y c n bs =
      record {
        run =
            record {
              fields = h.fields;
              raw = h.raw;
              held = 1;
              again = n;
              more = more;
              frame = y;
              countdown = c;
              kept = count bs;
            };
        joined = join h.bits bs;
      }

  -- A header with no block yet.
  headed : (y c n : ℕ) → with_bits (held y c n start) h.bits ≡ held y c n start
  headed y c n = ap (with_bits (held y c n start)) (sym (join_none_right h.bits))

  record Known (rs : History) (bs : Line (List Bool)) : Type 0 where
    frame : ℕ
    countdown : ℕ
    same : next_frame (frame + countdown) ≡ next_frame (p.frame + f)
    is : At (heard_so_far rs) (held frame countdown (left (suc f) rs) bs)

  unbroken : (rs : History) (q : Place) → q ≡ next (final p rs) → Unbroken (heard_so_far rs) q
  unbroken rs = unbroken_on hs rs (in_slot p (fragmented h more f))

  module _ {rs : History} {bs : Line (List Bool)} (k : Known rs bs) (r : Report)
      (t : r.place ≡ next (final p rs)) where
    due_same : due k.frame k.countdown (count bs) ≡ due p.frame f (count bs)
    due_same =
        ap (λ (z : ℕ). record { frame = z; slot = 1 })
        (due_alike k.frame k.countdown p.frame f (count bs) k.same)

    -- What is held when one report more comes, and whether its slot is the due one.
    abbrev still : Assembly
    still = held k.frame k.countdown (left (suc f) (rs ▸ r)) bs

    abbrev left_then : State
    left_then = leaving (heard_so_far rs) r still

    still_at : (rest_at (heard_so_far rs) r.place).assembly ≡ still
    still_at = left_at (heard_so_far rs) r.place (unbroken rs r.place t) k.is

    due_is : r.place ≡ due p.frame f (count bs) → is_due still.run r.place ≡ true
    due_is d = same_place_is r.place (due k.frame k.countdown (count bs)) (d ∙ sym due_same)

    due_not : (r.place ≡ due p.frame f (count bs) → ⊥) → is_due still.run r.place ≡ false
    due_not n =
        let d = due k.frame k.countdown (count bs) in
        untrue (is_due still.run r.place) (λ e. n (same_place_true r.place d e ∙ due_same))

    -- The answer to it.
    answer_on : (x : Heard) → r.heard ≡ x
        → answer (after (heard_so_far rs)) r ≡ answered left_then x (judged left_then r.place x false)
    answer_on x e =
        let a = (after (heard_so_far rs)).assembly.run in
        answer_at (heard_so_far rs) r still x still_at e
        ∙ ap (λ (t : Bool). answered left_then x (judged left_then r.place x (broken_off t a)))
        (turn_is (heard_so_far rs) r.place (unbroken rs r.place t))

  known : {rs : History} {bs : Line (List Bool)} → Sending h more f p rs bs → Known rs bs
  known at_first =
      let o = opens_at hs (in_slot p (fragmented h more f)) h more f refl w in
      record { frame = p.frame; countdown = f; same = refl; is = o ∙ headed p.frame f (suc f) }
  known (silence {rs} r s t e n) =
      let k = known s in
      let i = stays_at (heard_so_far rs) r (still k r t) (still_at k r t) (ap is_fragmented e) (due_not k r t n) in
      record { frame = k.frame; countdown = k.countdown; same = k.same; is = i }
  known (again {rs} r f' s t e c) =
      let y = frame_after p (rs ▸ r) l u (turns s, t) in
      let i = opens_at (heard_so_far rs) r h more f' e w in
      let n = again_is f f' (rs ▸ r) c in
      record {
        frame = r.place.frame;
        countdown = f';
        same = omega arith;
        is = i ∙ headed r.place.frame f' (suc f') ∙ ap (λ (n : ℕ). held r.place.frame f' n start) (sym n);
      }
  known (block {rs} {bs} r b s t e d m) =
      let k = known s in
      let z = ne_eqb (count bs) more (omega arith) in
      let i = takes_at (heard_so_far rs) r (still k r t) (still_at k r t) b e (due_is k r t d) z in
      let a = held k.frame k.countdown (left (suc f) (rs ▸ r)) (bs ▸ b) in
      let j = ap (with_bits a) (sym (join_more h.bits bs b)) in
      record { frame = k.frame; countdown = k.countdown; same = k.same; is = i ∙ j }

  -- At each report on the way the receiver hands nothing over and drops nothing: it opens again at a repeat, keeps a
  -- block, and is quiet in between.
  pub theorem_on_the_way : {rs : History} {bs : Line (List Bool)} {r : Report} → Sending h more f p (rs ▸ r) bs
      → answer (after (heard_so_far rs)) r ≡ told (on_the_way r.heard)
  theorem_on_the_way (silence r s t e n) =
      let k = known s in
      answer_on k r t nothing e
      ∙ ap (λ (d : Bool). answered (left_then k r t) nothing (on_nothing d false)) (due_not k r t n)
      ∙ ap (λ (x : Heard). told (on_the_way x)) (sym e)
  theorem_on_the_way (again {rs} r f' s t e c) =
      let k = known s in
      let x = fragmented h more f' in
      let n = repeats_is h.raw h.raw (left (suc f) (rs ▸ r)) f' refl (again_is f f' (rs ▸ r) c) in
      answer_on k r t x e
      ∙ ap₂ (λ (w n : Bool). answered (left_then k r t) x (on_fragmented w true (w && n) false)) w n
      ∙ ap (λ (x : Heard). told (on_the_way x)) (sym e)
  theorem_on_the_way (block {bs = bs} r b s t e d m) =
      let k = known s in
      answer_on k r t (frag b) e
      ∙ ap₂ (λ (d l : Bool). answered (left_then k r t) (frag b) (on_frag d l false))
      (due_is k r t d) (ne_eqb (count bs) more (omega arith))
      ∙ ap (λ (x : Heard). told (on_the_way x)) (sym e)

  -- The last block in its due slot hands the message over, and no assembly is dropped.
  pub theorem_delivered : {rs : History} {bs : Line (List Bool)} (r : Report) (last : List Bool)
      → Sending h more f p rs bs → count bs ≡ more → r.place ≡ next (final p rs) → r.place ≡ due p.frame f more
      → r.heard ≡ end last
      → answer (after (heard_so_far rs)) r ≡ told (joined h.fields (join h.bits bs ++ last))
  theorem_delivered {bs = bs} r last s c t d e =
      let k = known s in
      answer_on k r t (end last) e
      ∙ ap₂ (λ (d l : Bool). answered (left_then k r t) (end last) (on_end d l false))
      (due_is k r t (d ∙ ap (due p.frame f) (sym c))) (eq-eqb (count bs) more c)

-- ---- An unfragmented header.

module _ (hs : History) (h : Header) (f : ℕ) (p : Place) (w : h.for_us ≡ true) where
  abbrev heard_before : History → History
  heard_before rs = (hs ▸ in_slot p (unfragmented h f)) ⧺ rs

  -- Its first report: the message is handed over, unless what was heard before makes it a copy.
  pub theorem_singles : (Copy hs (in_slot p (unfragmented h f)) h f → ⊥)
      → Singles hs (in_slot p (unfragmented h f)) h.fields h.bits
  theorem_singles n =
      record { header = h; countdown = f; holds = refl; for_us = w; no_copy = n; its_fields = refl; its_bits = refl }

  pub theorem_copies : Copy hs (in_slot p (unfragmented h f)) h f → Copies hs (in_slot p (unfragmented h f))
  theorem_copies c = record { header = h; countdown = f; holds = refl; for_us = w; is_copy = c }

  repeating_turns : {rs : History} → Repeating h f p rs → InTurn p rs
  repeating_turns said = tt
  repeating_turns (unsaid r s t e) = (repeating_turns s, t)
  repeating_turns (said_again r f' s t e c) = (repeating_turns s, t)

  -- Each repeat is a copy, and the message is not handed over again.
  pub theorem_repeats : {rs : History} {r : Report} → Repeating h f p (rs ▸ r)
      → outcome_at (heard_before rs) r ≡ on_the_way r.heard
  theorem_repeats (unsaid {rs} r s t e) = hushed (heard_before rs) r e ∙ ap on_the_way (sym e)
  theorem_repeats (said_again {rs} r f' s t e c) =
      theorem_again hs rs p h f r w
      (record { countdown = f'; holds = e; turns = (repeating_turns s, t); counted = c })
      ∙ ap on_the_way (sym e)
