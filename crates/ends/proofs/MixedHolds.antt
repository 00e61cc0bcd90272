-- Messages of several senders, their headers mixed slot by slot, are handed over once each. Assumes nothing.
use Prim.Native.Nat.{ℕ, ◌+◌, ◌-◌, ◌≤◌}
use native.Mathlib.Omega.{arith}
use mathlib.Core.Path.{◌≡◌, refl, sym, ◌∙◌, ap, ap₂, subst}
use mathlib.Core.Bool.{Bool}
use mathlib.Core.Logic.{◌⊎◌, ⊎_elim}
use mathlib.Core.List.{List}
use Rattle.blocks.specs.declared.header.Fields.{Fields}
use Rattle.history.specs.Line.{Line, start, ◌▸◌, ◌⧺◌, each, Every}
use Rattle.history.specs.Slots.{next, Header, header_in, unfragmented, Heard, Report}
use Rattle.history.specs.History.{History, final, InTurn, Unbroken, frames, Copies}
use Rattle.history.specs.Step.{Outcome, quiet, single, joined, opened, kept, copy, number, outcome_at}
use Rattle.history.specs.declared.Place.{Place}
use Rattle.history.proofs.Theorems.{theorem_single}
use Rattle.history.proofs.Lines.{⧺-assoc, start-⧺, never, both, never_in, each-⧺}
use Rattle.history.proofs.OnceHolds.{theorem_again, theorem_original}
use Rattle.reports.specs.Lent.{Lent}
use Rattle.reports.specs.declared.unit.Settings.{Settings}
use Rattle.receiver.specs.Reached.{report_of, reports}
use Rattle.ends.specs.Sent.{in_slot}
use Rattle.ends.specs.EndToEnd.{Message, Build, bits, header_slot, header_lent, header_report, Handed}
use Rattle.ends.specs.EndToEnd.{with_outcome, handed, headers}
use Rattle.ends.specs.Mixed.{Short, Mixed, none, new, again, other, message_of, EachOnce}
use Rattle.ends.proofs.HeardLaws.{meant, unfragmented_heard}
use Rattle.ends.proofs.LayoutLaws.{built_for}
use Rattle.ends.proofs.DifferentLaws.{same_fields}
use Rattle.ends.proofs.EndToEndHolds.{end_to_end}

abbrev place : Lent → Place
place l = record { frame = l.frame; slot = l.slot }

-- ---- All reports of a mix are in turn.

abbrev AllInTurn : Settings → Line Lent → Type 0
AllInTurn s start = Unit {0}
AllInTurn s (ls ▸ l) = AllInTurn s ls × Unbroken (reports s ls) (place l)

all_in_turn : {s : Settings} {hs : History} {ls : Line Lent} {ms : Line Message} → Mixed s hs ls ms → AllInTurn s ls
all_in_turn none = tt
all_in_turn (new m b t sh u c) = (all_in_turn t, u)
all_in_turn (again m b b' before since t sh e u c) = (all_in_turn t, u)
all_in_turn (other l t u o) = (all_in_turn t, u)

-- What a report after one of them, and others since, follows.
follows : (s : Settings) (before since : Line Lent) (l : Lent) (q : Place)
    → Unbroken (reports s ((before ▸ l) ⧺ since)) q → q ≡ next (final (place l) (reports s since))
follows s before start l q u = u
follows s before (since ▸ x) l q u = u

in_turn_since : (s : Settings) (before since : Line Lent) (l : Lent) → AllInTurn s ((before ▸ l) ⧺ since)
    → InTurn (place l) (reports s since)
in_turn_since s before start l a = tt
in_turn_since s before (since ▸ x) l a =
    (in_turn_since s before since l a.0, follows s before since l (place x) a.1)

-- ---- What each report comes to.

-- The header of such a message, as it is heard.
header_is : (s : Settings) (m : Message) (b : Build m) → Short s m
    → header_report s m b ≡ in_slot (header_slot m b) (unfragmented (meant m s) b.countdown)
header_is s m b sh = ap (in_slot (header_slot m b)) (unfragmented_heard m b s sh.inside)

new_comes : (s : Settings) (hs : History) (m : Message) (b : Build m) → Short s m
    → (Copies hs (header_report s m b) → ⊥) → outcome_at hs (header_report s m b) ≡ single m.fields (bits m)
new_comes s hs m b sh c = (end_to_end.hands_over s m b hs sh.meant).at_once sh.inside c

again_comes : (s : Settings) (hs : History) (m : Message) (b b' : Build m) (before since : Line Lent) → Short s m
    → AllInTurn s ((before ▸ header_lent m b) ⧺ since)
    → Unbroken (reports s ((before ▸ header_lent m b) ⧺ since)) (header_slot m b')
    → b.countdown ≡ b'.countdown + frames (reports s (since ▸ header_lent m b'))
    → outcome_at (hs ⧺ reports s ((before ▸ header_lent m b) ⧺ since)) (header_report s m b') ≡ copy
again_comes s hs m b b' before since sh a u c =
    let h = meant m s in
    let p = header_slot m b in
    let split : hs ⧺ reports s ((before ▸ header_lent m b) ⧺ since)
    ≡ ((hs ⧺ reports s before) ▸ in_slot p (unfragmented h b.countdown)) ⧺ reports s since =
    ap (λ (l : History). hs ⧺ l) (each-⧺ (report_of s) (before ▸ header_lent m b) since)
    ∙ ⧺-assoc hs (reports s before ▸ header_report s m b) (reports s since)
    ∙ ap (λ (r : Report). ((hs ⧺ reports s before) ▸ r) ⧺ reports s since) (header_is s m b sh) in
    ap (λ (l : History). outcome_at l (header_report s m b')) split
    ∙ theorem_again (hs ⧺ reports s before) (reports s since) p h b.countdown (header_report s m b') sh.meant
    (record {
      countdown = b'.countdown;
      holds = unfragmented_heard m b' s sh.inside;
      turns = (
        in_turn_since s before since (header_lent m b) a,
        follows s before since (header_lent m b) (header_slot m b') u,
      );
      counted = c;
    })

-- What hands nothing over adds nothing.
adds_none : (l : Line Handed) (o : Outcome) → with_outcome start o ≡ start → with_outcome l o ≡ l
adds_none l quiet e = refl
adds_none l (single g m) e = absurd (never start (record { fields = g; bits = m }) e)
adds_none l (joined g m) e = absurd (never start (record { fields = g; bits = m }) e)
adds_none l opened e = refl
adds_none l kept e = refl
adds_none l copy e = refl

-- A repeat in a mix.
copied : (s : Settings) (hs : History) {ls : Line Lent} {ms : Line Message} (m : Message) (b b' : Build m)
    (before since : Line Lent) → Mixed s hs ls ms → Short s m → ls ≡ (before ▸ header_lent m b) ⧺ since
    → Unbroken (reports s ls) (header_slot m b')
    → b.countdown ≡ b'.countdown + frames (reports s (since ▸ header_lent m b'))
    → outcome_at (hs ⧺ reports s ls) (header_report s m b') ≡ copy
copied s hs m b b' before since t sh e u c =
    ap (λ (l : Line Lent). outcome_at (hs ⧺ reports s l) (header_report s m b')) e
    ∙ again_comes s hs m b b' before since sh (subst (AllInTurn s) e (all_in_turn t))
    (subst (λ (l : Line Lent). Unbroken (reports s l) (header_slot m b')) e u) c

once : (s : Settings) (hs : History) {ls : Line Lent} {ms : Line Message} → Mixed s hs ls ms
    → handed hs (reports s ls) ≡ each message_of ms
once s hs none = refl
once s hs (new {ls} m b t sh u c) = ap₂ with_outcome (once s hs t) (new_comes s (hs ⧺ reports s ls) m b sh c)
once s hs (again m b b' before since t sh e u c) =
    ap₂ with_outcome (once s hs t) (copied s hs m b b' before since t sh e u c)
once s hs (other {ls} l t u o) =
    adds_none (handed hs (reports s ls)) (outcome_at (hs ⧺ reports s ls) (report_of s l)) o ∙ once s hs t

-- ---- A message with other fields is no copy.

-- The header that a report of the mix handed over was one of theirs.
data Among (m : Message) : Line Message → Type 0 where
  last : {ms : Line Message} → Among m (ms ▸ m)
  earlier : {ms : Line Message} {x : Message} → Among m ms → Among m (ms ▸ x)

record Said (s : Settings) (ms : Line Message) (r : Report) : Type 0 where
  message : Message
  build : Build message
  short : Short s message
  among : Among message ms
  is : r ≡ header_report s message build

further : {s : Settings} {ms : Line Message} {r : Report} {m : Message} → Said s ms r → Said s (ms ▸ m) r
further d = record { message = d.message; build = d.build; short = d.short; among = earlier d.among; is = d.is }

-- An outcome that hands over is none of the others.
not_single : {g : Fields} {m : List Bool} {o : Outcome} → o ≡ single g m → with_outcome start o ≡ start → ⊥
not_single {g} {m} e o = never start (record { fields = g; bits = m }) (ap (with_outcome start) (sym e) ∙ o)

copy_single : {g : Fields} {m : List Bool} {o : Outcome} → o ≡ single g m → o ≡ copy → ⊥
copy_single e c = let z = ap number (sym e ∙ c) in omega arith

-- The report after a mix, by what it comes to there.
at_last : {before : History} {r x : Report} {o : Outcome} (hs : History) → hs ▸ x ≡ before ▸ r → outcome_at before r ≡ o
    → outcome_at (start ⧺ hs) x ≡ o
at_last hs e y = ap₂ outcome_at (start-⧺ hs ∙ (both e).0) (both e).1 ∙ y

said : (s : Settings) {ls : Line Lent} {ms : Line Message} → Mixed s start ls ms → (before since : History) (r : Report)
    (g : Fields) (m : List Bool) → reports s ls ≡ (before ▸ r) ⧺ since → outcome_at before r ≡ single g m → Said s ms r
said s none before since r g m e y = absurd (never_in before since r e)
said s (new x b t sh u c) before start r g m e y =
    record { message = x; build = b; short = sh; among = last; is = sym (both e).1 }
said s (new x b t sh u c) before (since ▸ z) r g m e y = further (said s t before since r g m (both e).0 y)
said s (again {ls} x b b' first since t sh f u c) before start r g m e y =
    absurd (copy_single (at_last (reports s ls) e y) (copied s start x b b' first since t sh f u c))
said s (again x b b' first since t sh f u c) before (later ▸ z) r g m e y =
    said s t before later r g m (both e).0 y
said s (other {ls} l t u o) before start r g m e y = absurd (not_single (at_last (reports s ls) e y) o)
said s (other l t u o) before (since ▸ z) r g m e y = said s t before since r g m (both e).0 y

among_every : (P : Message → Type 0) {m : Message} {ms : Line Message} → Among m ms → Every P ms → P m
among_every P last a = a.1
among_every P (earlier i) a = among_every P i a.0

-- The header that is heard.
header_of : {x : Heard} {h h' : Header} {f f' : ℕ} → x ≡ unfragmented h f → x ≡ unfragmented h' f' → h ≡ h'
header_of a b = ap header_in (sym a ∙ b)

different : (s : Settings) {ls : Line Lent} {ms : Line Message} → Mixed s start ls ms → (m : Message) (b : Build m)
    → Short s m → Every (λ (x : Message). x.fields ≡ m.fields → ⊥) ms
    → Copies (reports s ls) (header_report s m b) → ⊥
different s {ls} t m b sh a c =
    let o = theorem_original (reports s ls) (header_report s m b) c.header c.countdown c.is_copy in
    let y = (theorem_single o.before o.report o.header.fields o.header.bits).1 o.handed in
    let d = said s t o.before o.since o.report o.header.fields o.header.bits o.split y in
    let x = d.message in
    let u = unfragmented_heard x d.build s d.short.inside in
    let w : o.header ≡ meant x s = header_of o.holds (ap (λ (r : Report). r.heard) d.is ∙ u) in
    let v : c.header ≡ meant m s = header_of c.holds (unfragmented_heard m b s sh.inside) in
    let e = ap (λ (h : Header). h.raw) (sym w) ∙ o.same ∙ ap (λ (h : Header). h.raw) v in
    among_every (λ (x : Message). x.fields ≡ m.fields → ⊥) d.among a (same_fields s x m d.build b e)

-- ---- Every header can be built for every slot.

possible : (m : Message) (b : Build m) (q : Place) (f : ℕ) → 1 ≤ q.frame → q.frame ≤ 18
    → (q.slot ≡ 1) ⊎ (q.slot ≡ 3) → f ≤ 3 → (b' : Build m) × (header_slot m b' ≡ q) × (b'.countdown ≡ f)
possible m b q f l h z j =
    let i : q.slot - 1 ≤ 3 = ⊎_elim (λ e. omega arith) (λ e. omega arith) z in
    let n : q.slot - 1 + 1 ≡ q.slot = ⊎_elim (λ e. omega arith) (λ e. omega arith) z in
    (built_for m b q.frame (q.slot - 1) f l h i j, (λ i. record { frame = q.frame; slot = n i }), refl)

-- ---- Two cages in turn, and three.

-- A message's header in a frame up to 4 and a slot, by its code, with this countdown.
abbrev at : (m : Message) → Build m → (x z f : ℕ) → (1 ≤ x) × (x ≤ 4) × (z ≤ 3) × (f ≤ 3) → Build m
at m b x z f h = built_for m b x z f h.0 (omega (arith, h.1)) h.2 h.3

-- A header that has not come before.
say : (s : Settings) {ls : Line Lent} {ms : Line Message} (m : Message) (b : Build m) → Mixed s start ls ms → Short s m
    → Unbroken (reports s ls) (header_slot m b) → Every (λ (x : Message). x.fields ≡ m.fields → ⊥) ms
    → Mixed s start (ls ▸ header_lent m b) (ms ▸ m)
say s {ls} m b t sh u a =
    new m b t sh u
    (λ c. different s t m b sh a (subst (λ (l : History). Copies l (header_report s m b)) (start-⧺ (reports s ls)) c))

module _ (s : Settings) (m₁ m₂ : Message) (c₁ : Build m₁) (c₂ : Build m₂) (h₁ : Short s m₁) (h₂ : Short s m₂) where
  two : (m₁.fields ≡ m₂.fields → ⊥) → (ls : Line Lent) × Mixed s start ls (start ▸ m₁ ▸ m₂) × (headers ls ≡ 8)
  two d =
      let b₁ = at m₁ c₁ 1 0 3 (omega arith, omega arith, omega arith, omega arith) in
      let l₁ = header_lent m₁ b₁ in
      let b₂ = at m₂ c₂ 1 2 3 (omega arith, omega arith, omega arith, omega arith) in
      let l₂ = header_lent m₂ b₂ in
      let b₃ = at m₁ c₁ 2 0 2 (omega arith, omega arith, omega arith, omega arith) in
      let l₃ = header_lent m₁ b₃ in
      let b₄ = at m₂ c₂ 2 2 2 (omega arith, omega arith, omega arith, omega arith) in
      let l₄ = header_lent m₂ b₄ in
      let b₅ = at m₁ c₁ 3 0 1 (omega arith, omega arith, omega arith, omega arith) in
      let l₅ = header_lent m₁ b₅ in
      let b₆ = at m₂ c₂ 3 2 1 (omega arith, omega arith, omega arith, omega arith) in
      let l₆ = header_lent m₂ b₆ in
      let b₇ = at m₁ c₁ 4 0 0 (omega arith, omega arith, omega arith, omega arith) in
      let l₇ = header_lent m₁ b₇ in
      let b₈ = at m₂ c₂ 4 2 0 (omega arith, omega arith, omega arith, omega arith) in
      let l₈ = header_lent m₂ b₈ in
      let t₁ = say s m₁ b₁ none h₁ tt tt in
      let t₂ = say s m₂ b₂ t₁ h₂ refl (tt, d) in
      let t₃ = again m₁ b₁ b₃ start (start ▸ l₂) t₂ h₁ refl refl refl in
      let t₄ = again m₂ b₂ b₄ (start ▸ l₁) (start ▸ l₃) t₃ h₂ refl refl refl in
      let t₅ = again m₁ b₁ b₅ start (start ▸ l₂ ▸ l₃ ▸ l₄) t₄ h₁ refl refl refl in
      let t₆ = again m₂ b₂ b₆ (start ▸ l₁) (start ▸ l₃ ▸ l₄ ▸ l₅) t₅ h₂ refl refl refl in
      let t₇ = again m₁ b₁ b₇ start (start ▸ l₂ ▸ l₃ ▸ l₄ ▸ l₅ ▸ l₆) t₆ h₁ refl refl refl in
      let t₈ = again m₂ b₂ b₈ (start ▸ l₁) (start ▸ l₃ ▸ l₄ ▸ l₅ ▸ l₆ ▸ l₇) t₇ h₂ refl refl refl in
      (_, t₈, refl)

module _ (s : Settings) (m₁ m₂ m₃ : Message) (c₁ : Build m₁) (c₂ : Build m₂) (c₃ : Build m₃) (h₁ : Short s m₁)
    (h₂ : Short s m₂) (h₃ : Short s m₃) where
  three : (m₁.fields ≡ m₂.fields → ⊥) → (m₁.fields ≡ m₃.fields → ⊥) → (m₂.fields ≡ m₃.fields → ⊥)
      → (ls : Line Lent) × Mixed s start ls (start ▸ m₁ ▸ m₂ ▸ m₃) × (headers ls ≡ 7)
  three d₁₂ d₁₃ d₂₃ =
      let b₁ = at m₁ c₁ 1 0 3 (omega arith, omega arith, omega arith, omega arith) in
      let l₁ = header_lent m₁ b₁ in
      let b₂ = at m₂ c₂ 1 2 3 (omega arith, omega arith, omega arith, omega arith) in
      let l₂ = header_lent m₂ b₂ in
      let b₃ = at m₃ c₃ 2 0 3 (omega arith, omega arith, omega arith, omega arith) in
      let l₃ = header_lent m₃ b₃ in
      let b₄ = at m₁ c₁ 2 2 2 (omega arith, omega arith, omega arith, omega arith) in
      let l₄ = header_lent m₁ b₄ in
      let b₅ = at m₂ c₂ 3 0 1 (omega arith, omega arith, omega arith, omega arith) in
      let l₅ = header_lent m₂ b₅ in
      let b₆ = at m₃ c₃ 3 2 2 (omega arith, omega arith, omega arith, omega arith) in
      let l₆ = header_lent m₃ b₆ in
      let b₇ = at m₁ c₁ 4 0 0 (omega arith, omega arith, omega arith, omega arith) in
      let l₇ = header_lent m₁ b₇ in
      let t₁ = say s m₁ b₁ none h₁ tt tt in
      let t₂ = say s m₂ b₂ t₁ h₂ refl (tt, d₁₂) in
      let t₃ = say s m₃ b₃ t₂ h₃ refl ((tt, d₁₃), d₂₃) in
      let t₄ = again m₁ b₁ b₄ start (start ▸ l₂ ▸ l₃) t₃ h₁ refl refl refl in
      let t₅ = again m₂ b₂ b₅ (start ▸ l₁) (start ▸ l₃ ▸ l₄) t₄ h₂ refl refl refl in
      let t₆ = again m₃ b₃ b₆ (start ▸ l₁ ▸ l₂) (start ▸ l₄ ▸ l₅) t₅ h₃ refl refl refl in
      let t₇ = again m₁ b₁ b₇ start (start ▸ l₂ ▸ l₃ ▸ l₄ ▸ l₅ ▸ l₆) t₆ h₁ refl refl refl in
      (_, t₇, refl)

pub each_once : EachOnce
each_once =
    record {
      once = λ s hs t. once s hs t;
      different = λ s t m b. different s t m b;
      possible = possible;
      two = two;
      three = three;
    }
