-- What the receiver answers to a report, after any history, is what the history asks for. Assumes nothing.
use Prim.Native.Nat.{ℕ}
use native.Mathlib.Omega.{arith}
use mathlib.Core.Path.{◌≡◌, refl, sym, ◌∙◌, ap, ap₂}
use mathlib.Core.Logic.{◌↔◌}
use mathlib.Core.Bool.{Bool, true}
use mathlib.Core.List.{List, [], ◌∷◌, ◌++◌}
use borrow.Author.Tests.{eq-eqb}
use Rattle.history.specs.Line.{start, ◌▸◌, ◌⧺◌, count, Every}
use Rattle.history.specs.Slots.{end, Report}
use Rattle.blocks.specs.declared.header.Fields.{Fields}
use Rattle.history.specs.Step.{Assembly, State, Answer, Outcome, quiet, single, joined, opened, kept, copy}
use Rattle.history.specs.Step.{number, fields_of, message_of, no_assembly, on_end, changed}
use Rattle.history.specs.Step.{step, answer, after, outcome_at, dropped_at}
use Rattle.history.specs.History.{History, NotFragmented, next_due, Closes, Keeps, Singles, Copies, Opens, Drops}
use Rattle.history.specs.History.{Told, nothing_told, single_told, joined_told, opened_told, kept_told, copy_told}
use Rattle.history.proofs.Verdicts.{lost_at}
use Rattle.history.proofs.OpenRun.{same_place_is, on, shape, found, At, none_left, leaving, known_at, stays_at}
use Rattle.history.proofs.Outcomes.{says, run_at, closes, keeps, singles, copies, opens, drops_true, drops_is}

module _ (hs : History) (r : Report) where
  pub theorem_joined : (g : Fields) (m : List Bool) → (outcome_at hs r ≡ joined g m) ↔ Closes hs r g m
  theorem_joined g m = (says hs r (joined g m), closes hs r g m)

  pub theorem_single : (g : Fields) (m : List Bool) → (outcome_at hs r ≡ single g m) ↔ Singles hs r g m
  theorem_single g m = (says hs r (single g m), singles hs r g m)

  pub theorem_opened : (outcome_at hs r ≡ opened) ↔ Opens r
  theorem_opened = (says hs r opened, opens hs r)

  pub theorem_kept : (outcome_at hs r ≡ kept) ↔ Keeps hs r
  theorem_kept = (says hs r kept, keeps hs r)

  pub theorem_copy : (outcome_at hs r ≡ copy) ↔ Copies hs r
  theorem_copy = (says hs r copy, copies hs r)

  pub theorem_dropped : (dropped_at hs r ≡ true) ↔ Drops hs r
  theorem_dropped = (drops_true hs r, drops_is hs r)

  -- The whole answer: it is what the history asks for, and the history asks for nothing else.
  pub theorem_told : Told hs r (number (outcome_at hs r)) (fields_of (outcome_at hs r)) (message_of (outcome_at hs r))
  theorem_told = go (outcome_at hs r) refl
    where
      go : (o : Outcome) → outcome_at hs r ≡ o → Told hs r (number o) (fields_of o) (message_of o)
      go quiet e =
          nothing_told
          (λ g m c. omega (arith, ap number (sym e ∙ singles hs r g m c)))
          (λ g m c. omega (arith, ap number (sym e ∙ closes hs r g m c)))
          (λ c. omega (arith, ap number (sym e ∙ opens hs r c)))
          (λ c. omega (arith, ap number (sym e ∙ keeps hs r c)))
          (λ c. omega (arith, ap number (sym e ∙ copies hs r c)))
      go (single g m) e = single_told g m (says hs r (single g m) e)
      go (joined g m) e = joined_told g m (says hs r (joined g m) e)
      go opened e = opened_told (says hs r opened e)
      go kept e = kept_told (says hs r kept e)
      go copy e = copy_told (says hs r copy e)

  same_as : (o : Outcome) → outcome_at hs r ≡ o → (number o ≡ number (outcome_at hs r))
      × (fields_of o ≡ fields_of (outcome_at hs r)) × (message_of o ≡ message_of (outcome_at hs r))
  same_as o e = (ap number (sym e), ap fields_of (sym e), ap message_of (sym e))

  pub theorem_told_only : {n : ℕ} {g : Fields} {m : List Bool} → Told hs r n g m
      → (n ≡ number (outcome_at hs r)) × (g ≡ fields_of (outcome_at hs r)) × (m ≡ message_of (outcome_at hs r))
  theorem_told_only (nothing_told a b c d f) = same_as quiet (go (outcome_at hs r) refl)
    where
      go : (o : Outcome) → outcome_at hs r ≡ o → o ≡ quiet
      go quiet e = refl
      go (single g m) e = absurd (a g m (says hs r (single g m) e))
      go (joined g m) e = absurd (b g m (says hs r (joined g m) e))
      go opened e = absurd (c (says hs r opened e))
      go kept e = absurd (d (says hs r kept e))
      go copy e = absurd (f (says hs r copy e))
  theorem_told_only (single_told g m c) = same_as (single g m) (singles hs r g m c)
  theorem_told_only (joined_told g m c) = same_as (joined g m) (closes hs r g m c)
  theorem_told_only (opened_told c) = same_as opened (opens hs r c)
  theorem_told_only (kept_told c) = same_as kept (keeps hs r c)
  theorem_told_only (copy_told c) = same_as copy (copies hs r c)

  pub theorem_unique : {n n' : ℕ} {g g' : Fields} {m m' : List Bool} → Told hs r n g m → Told hs r n' g' m'
      → (n ≡ n') × (g ≡ g') × (m ≡ m')
  theorem_unique t t' =
      let (a₁, b₁, c₁) = theorem_told_only t in
      let (a₂, b₂, c₂) = theorem_told_only t' in
      (a₁ ∙ sym a₂, b₁ ∙ sym b₂, c₁ ∙ sym c₂)

-- Once: after a run is handed over no report hands over a joined message before another fragmented header is heard.
pub closed : (hs : History) (r : Report) (g : Fields) (m : List Bool) → Closes hs r g m → At (hs ▸ r) no_assembly
closed hs r g m c =
    let u = c.run in
    let x = end c.last in
    let a = shape (on u r) in
    known_at hs r a (run_at hs r u c.is_open c.unbroken) x c.holds
    ∙ ap₂ (λ (d l : Bool). (changed (leaving hs r a) r.place x (on_end d l (lost_at hs r.place))).assembly)
    (same_place_is r.place (next_due u) c.in_due) (eq-eqb (count u.blocks) u.more c.full)

pub stays_closed : (hs later : History) → At hs no_assembly → Every (λ r. NotFragmented r.heard) later
    → At (hs ⧺ later) no_assembly
stays_closed hs start e n = e
stays_closed hs (later ▸ r) e n =
    stays_at (hs ⧺ later) r no_assembly (none_left (hs ⧺ later) r.place (stays_closed hs later e n.0)) n.1 refl

pub theorem_once : (hs later : History) (r r' : Report) (g g' : Fields) (m m' : List Bool) → Closes hs r g m
    → Every (λ r. NotFragmented r.heard) later → Closes ((hs ▸ r) ⧺ later) r' g' m' → ⊥
theorem_once hs later r r' g g' m m' c n c' =
    let a = stays_closed (hs ▸ r) later (closed hs r g m c) n in
    let b = found ((hs ▸ r) ⧺ later) c'.run c'.is_open in
    omega (arith, ap (λ (a : Assembly). a.run.held) (sym a ∙ b))

-- The same over a list of reports, given to the receiver one after another.
abbrev pub line : History → List Report → History
line hs [] = hs
line hs (r ∷ rs) = line (hs ▸ r) rs

abbrev pub runs : State → List Report → State
runs s [] = s
runs s (r ∷ rs) = runs (step s r) rs

pub theorem_runs : (hs : History) (rs : List Report) → runs (after hs) rs ≡ after (line hs rs)
unfolding after
theorem_runs hs [] = refl
theorem_runs hs (r ∷ rs) = theorem_runs (hs ▸ r) rs

abbrev pub answers : State → List Report → List Answer
answers s [] = []
answers s (r ∷ rs) = answer s r ∷ answers (step s r) rs

pub theorem_answers : (hs : History) (xs : List Report) (r : Report) (ys : List Report)
    → answers (after hs) (xs ++ (r ∷ ys))
    ≡ answers (after hs) xs ++ (answer (after (line hs xs)) r ∷ answers (after (line hs xs ▸ r)) ys)
unfolding after
theorem_answers hs [] r ys = refl
theorem_answers hs (x ∷ xs) r ys = ap (λ (l : List Answer). answer (after hs) x ∷ l) (theorem_answers (hs ▸ x) xs r ys)
