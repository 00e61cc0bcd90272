-- What becomes of an assembly: over any reports it is handed over, dropped, opened anew by its own repeat, or still
-- open, and only one of these, once. Nothing here runs the step.
use Rattle.std.specs.Prelude.{ℕ, suc, ◌≡◌, Bool, List, ◌++◌}
use Rattle.history.specs.Line.{◌▸◌, ◌⧺◌, count}
use Rattle.history.specs.Slots.{Header, fragmented, Report}
use Rattle.history.specs.History.{History, Unbroken, join, Run, IsOpen, Closes, Opens, Repeats, Ends}

-- What becomes of an opened assembly.
pub data Way : Type 0 where
  still_open handed_over dropped opened_anew : Way

-- The report brings the open run's own header again, before its first block.
pub record Renews (hs : History) (u : Run) (r : Report) : Type 0 where
  pub header : Header
  pub more : ℕ
  pub countdown : ℕ
  pub is_open : IsOpen hs u
  pub unbroken : Unbroken hs r.place
  pub holds : r.heard ≡ fragmented header more countdown
  pub repeats : Repeats u r header countdown

-- How the open run u ends at a report: its own message is handed over, it is dropped, or its own header opens it anew.
pub data EndsBy (hs : History) (u : Run) (r : Report) : Way → Type 0 where
  by_end : (last : List Bool) → Closes hs r u.header.fields (join u.header.bits u.blocks ++ last)
      → EndsBy hs u r handed_over
  by_drop : IsOpen hs u → Ends hs u r → EndsBy hs u r dropped
  by_repeat : Renews hs u r → EndsBy hs u r opened_anew

-- The assembly that report o opened, as the run u, is open after the reports since.
pub record Still (before : History) (o : Report) (since : History) (u : Run) : Type 0 where
  pub is_open : IsOpen ((before ▸ o) ⧺ since) u
  pub its_own : u.since ≡ since

-- What became of the assembly that report o opened, over the reports since; and at which of them, counted from 1, or
-- how many there were where it is still open.
pub data Fate (before : History) (o : Report) (since : History) : Way → ℕ → Type 0 where
  not_ended : (u : Run) → Still before o since u → Fate before o since still_open (count since)
  ended : (until later : History) (r : Report) (u : Run) (w : Way) → since ≡ (until ▸ r) ⧺ later
      → Still before o until u → EndsBy ((before ▸ o) ⧺ until) u r w → Fate before o since w (suc (count until))

pub record HasFate (before : History) (o : Report) (since : History) : Type 0 where
  pub way : Way
  pub at : ℕ
  pub fate : Fate before o since way at

pub record DroppedOrHandedOver : Type 0 where
  -- Never neither: every assembly that a report opens comes to one of the four.
  pub some : (before : History) (o : Report) (since : History) → Opens o → HasFate before o since
  -- Never both, and once: to one of them only, at one report only.
  pub only : {before : History} {o : Report} {since : History} {w w' : Way} {n n' : ℕ} → Fate before o since w n
      → Fate before o since w' n' → (w ≡ w') × (n ≡ n')
