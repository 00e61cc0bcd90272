-- How long an assembly lasts: the reports after its header's, up to that of its last block. Nothing here runs the step.
use Rattle.std.specs.Prelude.{ℕ, zero, suc, ◌+◌, ◌-◌, ◌*◌, ◌≤◌, ◌≡◌, cond, eqb, leb}
use Rattle.blocks.specs.Slots.{next_frame, frames_to}
use Rattle.history.specs.Slots.{next, Report}
use Rattle.history.specs.History.{History, Run}
use Rattle.history.specs.Fate.{Way, still_open, Fate}
use Rattle.history.specs.declared.Place.{Place}

-- The slot that comes n slots after p.
abbrev pub slots_on : ℕ → Place → Place
slots_on zero p = p
slots_on (suc n) p = next (slots_on n p)

-- The slots from a header in slot p with countdown f to the due slot of block i: two for each frame, and one less where
-- the header is in slot 3.
abbrev pub slots_to : Place → ℕ → ℕ → ℕ
slots_to p f i = 2 * frames_to p.frame f i - cond (eqb p.slot 1) 0 1

-- One frame more where frame 18 lies among those from the one after the last repeat's to that of block i.
abbrev pub over_18 : ℕ → ℕ → ℕ → ℕ
over_18 x f i = cond (leb 18 (next_frame (x + f) + i)) 1 0

-- The reports of a run after its header's, up to that of its last block.
abbrev pub lasts : Run → ℕ
lasts u = slots_to u.place u.countdown u.more

-- The assembly that report o opened is over: in one of the ways but the first, at one of the first so many reports.
pub record IsOver (before : History) (o : Report) (since : History) (most : ℕ) : Type 0 where
  pub way : Way
  pub at : ℕ
  pub fate : Fate before o since way at
  pub ended : way ≡ still_open → ⊥
  pub soon : at ≤ most
