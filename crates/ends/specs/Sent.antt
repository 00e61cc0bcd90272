-- One message as its receiver hears it: the header, its repeats, and its blocks in their due slots, with nothing in the
-- other slots. Assumes nothing.
use Rattle.std.specs.Prelude.{ℕ, ◌+◌, ◌<◌, ◌≡◌, Bool, List}
use Rattle.history.specs.Line.{Line, start, ◌▸◌, count}
use Rattle.history.specs.Slots.{next, due, Header, Heard, nothing, fragmented, unfragmented, frag, end, Report}
use Rattle.history.specs.History.{History, final, frames}
use Rattle.history.specs.Step.{Outcome, quiet, opened, kept, copy}
use Rattle.history.specs.declared.Place.{Place}

-- A report in slot p.
abbrev pub in_slot : Place → Heard → Report
in_slot p x = record { place = p; heard = x }

-- The reports after a fragmented header's first one, in slot p with countdown f, and the DMAC-FRAG blocks that they
-- brought: nothing in a slot that is not due; the header again, before the first block, its countdown less by the
-- frames gone by; a block in its due slot.
pub data Sending (h : Header) (more f : ℕ) (p : Place) : History → Line (List Bool) → Type 0 where
  at_first : Sending h more f p start start
  silence : {rs : History} {bs : Line (List Bool)} (r : Report) → Sending h more f p rs bs
      → r.place ≡ next (final p rs) → r.heard ≡ nothing
      → (r.place ≡ due p.frame f (count bs) → ⊥) → Sending h more f p (rs ▸ r) bs
  again : {rs : History} (r : Report) (f' : ℕ) → Sending h more f p rs start → r.place ≡ next (final p rs)
      → r.heard ≡ fragmented h more f'
      → f ≡ f' + frames (rs ▸ r) → Sending h more f p (rs ▸ r) start
  block : {rs : History} {bs : Line (List Bool)} (r : Report) (b : List Bool) → Sending h more f p rs bs
      → r.place ≡ next (final p rs) → r.heard ≡ frag b
      → r.place ≡ due p.frame f (count bs) → count bs < more → Sending h more f p (rs ▸ r) (bs ▸ b)

-- What the receiver answers on the way to what it hears.
abbrev pub on_the_way : Heard → Outcome
on_the_way nothing = quiet
on_the_way (fragmented h more f) = opened
on_the_way (unfragmented h f) = copy
on_the_way (frag b) = kept
on_the_way (end b) = quiet

-- The reports after an unfragmented header's first one: nothing, or the header again.
pub data Repeating (h : Header) (f : ℕ) (p : Place) : History → Type 0 where
  said : Repeating h f p start
  unsaid : {rs : History} (r : Report) → Repeating h f p rs → r.place ≡ next (final p rs) → r.heard ≡ nothing
      → Repeating h f p (rs ▸ r)
  said_again : {rs : History} (r : Report) (f' : ℕ) → Repeating h f p rs → r.place ≡ next (final p rs)
      → r.heard ≡ unfragmented h f'
      → f ≡ f' + frames (rs ▸ r) → Repeating h f p (rs ▸ r)
