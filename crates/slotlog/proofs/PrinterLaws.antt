-- What the printer has printed. Assumes nothing.
use mathlib.Core.Path.{◌≡◌, refl, sym, ap, ap₂, ◌∙◌}
use mathlib.Core.Bool.{Bool, true, false, cond, ◌&&◌}
use Rattle.std.specs.Prelude.{Ok}
use mathlib.Core.List.{List, [], ◌∷◌, ◌++◌, append_assoc, append-nil}
use Prim.Native.Nat.{ℕ, ◌+◌, ◌≤◌}
use native.Mathlib.Omega.{arith}
use lib.Dec.{eqb, leb}
use lib.ListN.{length, take, drop, get_or, length-append, get_or-append}
use lib.Seq.{drop-append-le, take_at}
use borrow.Author.Tests.{le-leb, eqb-true}
use Rattle.history.specs.Line.{start}
use Rattle.reports.specs.Units.{settings_fit}
use Rattle.reports.specs.declared.unit.Settings.{Settings}
use Rattle.receiver.specs.View.{new_receiver}
use Rattle.receiver.specs.Reached.{receiver_at, Leads}
use Rattle.receiver.specs.declared.Receiver.{Receiver}
use Rattle.receiver.specs.declared.Fresh.{Fresh}
use Rattle.receiver.proofs.HearLaws.{fresh_leads}
use Rattle.slotlog.specs.Log.{settings_at, is_first, is_unit, first_bytes, entries}
use Rattle.slotlog.specs.Log.{Beginning, begun_as, begun_by, begun}
use Rattle.slotlog.specs.declared.log.Begun.{Begun}
use Rattle.slotlog.specs.declared.run.Run.{Run}
use Rattle.slotlog.specs.declared.run.State.{State}
use Rattle.slotlog.specs.declared.run.State.TheVariants.{Wants, Cut}
use Rattle.slotlog.specs.Replies.{LogReply, to_cut, replies_of}
use Rattle.slotlog.specs.Print.{unit_line, cut_line, lines_of, printed}
use Rattle.slotlog.specs.Runs.{Stage, run_over, Ran, unless_cut, end_line}
use Rattle.slotlog.specs.Printer.{Prints, first, more, run, Printed}
use Rattle.slotlog.proofs.LogLaws.{and_first, first_long, begun_lem}
use Rattle.slotlog.proofs.RunLaws.{goes_none, goes_more, goes_both, lines_both}
use Rattle.slotlog.proofs.TurnLaws.{Come, come_over}

-- ---- the first record, whatever follows

-- how a log starts, by whether it starts with settings and whether they are in range
abbrev begun_as_lem : Bool → Bool → Settings → ℕ → Beginning
begun_as_lem b c s took =
    let none : Fresh = record { fault = 13; receiver = new_receiver 0 0 0 } in
    let fresh : Fresh = record { fault = 0; receiver = new_receiver s.individual s.group s.mni } in
    cond b (begun_as (cond c fresh none) took) (record { fault = 13; took = 0; receiver = new_receiver 0 0 0 })

begun_when : (b c : Bool) (s : Settings) (took : ℕ) → settings_fit s.individual s.group s.mni ≡ c
    → (begun_as_lem b c s took).fault ≡ 0
    → ((b && c) ≡ true) × ((begun_as_lem b c s took).took ≡ took) × Leads s start (begun_as_lem b c s took).receiver
begun_when true true s took e z = (refl, refl, fresh_leads s.individual s.group s.mni e)
begun_when true false s took e z = absurd (omega arith)
begun_when false c s took e z = absurd (omega arith)

begun_is : (w : List ℕ) → (begun_by w).fault ≡ 0
    → (is_unit w ≡ true) × ((begun_by w).took ≡ first_bytes w) × Leads (settings_at w) start (begun_by w).receiver
begun_is w z =
    let s = settings_at w in
    begun_when (is_first w) (settings_fit s.individual s.group s.mni) s (first_bytes w) refl z

begun_ok : (x : Beginning) (b : Begun) → begun x ≡ Ok b
    → (x.fault ≡ 0) × (b.took ≡ x.took) × (b.receiver ≡ x.receiver)
begun_ok x b e = when (eqb x.fault 0) refl e
  where
    when : (c : Bool) → eqb x.fault 0 ≡ c → begun_lem c x ≡ Ok b
        → (x.fault ≡ 0) × (b.took ≡ x.took) × (b.receiver ≡ x.receiver)
    when true f e = (eqb-true x.fault 0 f, cc, cc)
    when false f e = cc

no_unit_when : (b c : Bool) (s : Settings) (took : ℕ) → ((begun_as_lem b c s took).fault ≡ 0 → ⊥) → (b && c) ≡ false
no_unit_when true true s took n = absurd (n refl)
no_unit_when true false s took n = refl
no_unit_when false c s took n = refl

no_unit : (w : List ℕ) → ((begun_by w).fault ≡ 0 → ⊥) → is_unit w ≡ false
no_unit w n =
    let s = settings_at w in
    no_unit_when (is_first w) (settings_fit s.individual s.group s.mni) s (first_bytes w) n

unit_same : (w z : List ℕ) → first_bytes w ≤ length w
    → (is_unit (w ++ z) ≡ is_unit w) × (settings_at (w ++ z) ≡ settings_at w)
unit_same w z h =
    let g : (i : ℕ) → i + 1 ≤ 16 → get_or (w ++ z) i 0 ≡ get_or w i 0 = λ i k. get_or-append w z 0 i (omega arith) in
    let l : leb 16 (length (w ++ z)) ≡ leb 16 (length w) =
    le-leb 16 (length (w ++ z)) (omega (arith, length-append w z)) ∙ sym (le-leb 16 (length w) h) in
    let s : settings_at (w ++ z) ≡ settings_at w =
    rw (
      g 4 (omega arith),
      g 5 (omega arith),
      g 6 (omega arith),
      g 7 (omega arith),
      g 8 (omega arith),
      g 9 (omega arith),
      g 10 (omega arith),
      g 11 (omega arith),
      g 12 (omega arith),
      g 13 (omega arith),
      g 14 (omega arith),
      g 15 (omega arith),
    ) refl in
    let f : is_first (w ++ z) ≡ is_first w =
    rw (l, g 0 (omega arith), g 1 (omega arith), g 2 (omega arith), g 3 (omega arith)) refl in
    (ap₂ (λ (b : Bool) (s : Settings). b && settings_fit s.individual s.group s.mni) f s, s)

-- ---- what was printed, and what is to come

-- one run more, from the stage that it came to
run_then : {input left text : List ℕ} {r : Receiver} {state : State} (f : Printed input left text r state)
    → (state ≡ Cut → ⊥)
    → (u : Stage) → Come f.settings f.heard left u
    → Printed input (drop u.read left) (text ++ u.text) (receiver_at f.settings u.heard) u.state
run_then f n u c =
    let w = c.writes in
    record {
      settings = f.settings;
      heard = u.heard;
      rest = f.rest;
      said = f.said ++ w.said;
      lines = ap₂ ◌++◌ f.lines w.lines ∙ sym (lines_both f.said w.said);
      unit = f.unit;
      replies = f.replies;
      leads = c.leads f.leads;
      goes = goes_both f.said w.said f.goes n w.goes;
    }

ran_then : {input left text : List ℕ} {r : Receiver} {state : State} → Printed input left text r state
    → (state ≡ Cut → ⊥)
    → {old new : List ℕ} {x : Run} → Ran r left old x new
    → Printed input (drop x.read left) (text ++ take x.written new) x.receiver x.state
ran_then {left = left} f e {old} {new} g =
    let s = f.settings in
    let u = run_over s f.heard left (length old) in
    let a = g.settled s f.heard f.leads in
    let n = length u.text in
    let t : take n new ≡ u.text = ap (take n) a.output ∙ take_at u.text (drop n old) n refl in
    rw (a.answer, t) (run_then f e u (come_over s f.heard left (length old)))

pub so_far : {input left text : List ℕ} {r : Receiver} {state : State} → Prints input left text r state
    → Printed input left text r state
unfolding lines_of
so_far (first input b e) =
    let s = settings_at input in
    let k = begun_ok (begun_by input) b e in
    let u = begun_is input k.0 in
    let h : first_bytes input ≤ length input =
    first_long input (and_first (is_first input) (settings_fit s.individual s.group s.mni) u.0) in
    record {
      settings = s;
      heard = start;
      rest = drop (first_bytes input) input;
      said = [];
      lines = refl;
      unit = λ more. (unit_same input more h).0 ∙ u.0;
      replies = λ more. rw ((unit_same input more h).1, drop-append-le (first_bytes input) input more h) refl;
      leads = rw k.2 u.2;
      goes = rw (k.1, u.1) (goes_none s start (drop (first_bytes input) input));
    }
so_far (more {input} {left} {text} p n part) =
    let f = so_far p in
    record {
      settings = f.settings;
      heard = f.heard;
      rest = f.rest ++ part;
      said = f.said;
      lines = f.lines;
      unit = λ z. rw (append_assoc input part z) (f.unit (part ++ z));
      replies = λ z. rw (append_assoc input part z, append_assoc f.rest part z) (f.replies (part ++ z));
      leads = f.leads;
      goes = goes_more f.said f.goes n part;
    }
so_far (run p n old new x g) = ran_then (so_far p) n g

pub printed_so_far : {input left text : List ℕ} {r : Receiver} {state : State} (f : Printed input left text r state)
    (z : List ℕ)
    → printed (input ++ z)
    ≡ text ++ lines_of (unless_cut state (replies_of f.settings f.heard (entries (left ++ z))))
printed_so_far {left = left} {state = state} f z =
    let rs = unless_cut state (replies_of f.settings f.heard (entries (left ++ z))) in
    rw (f.unit z, f.replies z, f.goes.replies z)
    (lines_both f.said rs ∙ ap (λ (t : List ℕ). t ++ lines_of rs) (sym f.lines))

end_line_lem : (b : Bool) → lines_of (cond b [] (to_cut ∷ [])) ≡ cond b [] cut_line
unfolding lines_of
end_line_lem true = refl
end_line_lem false = refl

-- A record was cut: all is printed, whatever follows. The input has ended, and the run wants more of it: the lines so
-- far, and `cut` where bytes are left over, are all that is printed of it.
pub printed_cut : {input left text : List ℕ} {r : Receiver} → Prints input left text r Cut → (z : List ℕ)
    → printed (input ++ z) ≡ text
unfolding lines_of
printed_cut {text = text} p z = printed_so_far (so_far p) z ∙ append-nil text

pub printed_end : {input left text : List ℕ} {r : Receiver} → Prints input left text r Wants
    → printed input ≡ text ++ end_line left
printed_end {input} {left} {text} p =
    let f = so_far p in
    let s = replies_of f.settings f.heard in
    ap printed (sym (append-nil input)) ∙ printed_so_far f []
    ∙ ap (λ (l : List ℕ). text ++ lines_of (s (entries l))) (append-nil left)
    ∙ ap (λ (rs : List LogReply). text ++ lines_of rs) (f.goes.ends refl)
    ∙ ap (λ (l : List ℕ). text ++ l) (end_line_lem (eqb (length left) 0))

-- The first bytes, or fewer where the log is shorter, that give no receiver: `unit` is all that is printed.
pub printed_unit : (w z : List ℕ) → ((begun_by w).fault ≡ 0 → ⊥) → first_bytes w ≤ length w
    → printed (w ++ z) ≡ unit_line
printed_unit w z n h = rw ((unit_same w z h).0 ∙ no_unit w n) refl

pub printed_short : (w : List ℕ) → ((begun_by w).fault ≡ 0 → ⊥) → printed w ≡ unit_line
printed_short w n = rw (no_unit w n) refl
