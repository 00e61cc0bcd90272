-- A message that goes into its header is handed over once, however its repeats, those of others and all else are mixed.
-- Nothing here runs the step.
use Rattle.std.specs.Prelude.{ℕ, ◌+◌, ◌≡◌}
use Rattle.history.specs.Line.{◌▸◌, ◌⧺◌}
use Rattle.history.specs.Slots.{Header, unfragmented, Report}
use Rattle.history.specs.History.{History, InTurn, frames, Singles}
use Rattle.history.specs.declared.Place.{Place}

-- The report, after these since the header's in slot p, with no break, brings the header again: its countdown is less
-- by the frames gone by. What came between may be anything.
pub record Repeated (h : Header) (f : ℕ) (p : Place) (since : History) (r : Report) : Type 0 where
  pub countdown : ℕ
  pub holds : r.heard ≡ unfragmented h countdown
  pub turns : InTurn p (since ▸ r)
  pub counted : f ≡ countdown + frames (since ▸ r)

-- An earlier report handed over what a header h with countdown f at this report is a copy of, with no break since.
pub record Original (hs : History) (r : Report) (h : Header) (f : ℕ) : Type 0 where
  pub before : History
  pub report : Report
  pub since : History
  pub split : hs ≡ (before ▸ report) ⧺ since
  pub turns : InTurn report.place (since ▸ r)
  pub header : Header
  pub countdown : ℕ
  pub holds : report.heard ≡ unfragmented header countdown
  pub same : header.raw ≡ h.raw
  pub counted : countdown ≡ f + frames (since ▸ r)
  pub handed : Singles before report header.fields header.bits
