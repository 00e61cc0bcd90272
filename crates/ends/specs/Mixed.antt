-- Messages that go into their headers, of any number of senders, their headers mixed slot by slot: each is handed over
-- once. Beside the law of one message, EndToEnd.antt.
use Rattle.std.specs.Prelude.{ℕ, ◌+◌, ◌≤◌, ◌≡◌, true, ◌⊎◌}
use Rattle.history.specs.Line.{Line, start, ◌▸◌, ◌⧺◌, each, Every}
use Rattle.history.specs.History.{History, Unbroken, frames, Copies}
use Rattle.history.specs.Step.{outcome_at}
use Rattle.reports.specs.Lent.{Lent, for_unit}
use Rattle.reports.specs.declared.unit.Settings.{Settings}
use Rattle.history.specs.declared.Place.{Place}
use Rattle.receiver.specs.Reached.{report_of, reports}
use Rattle.ends.specs.EndToEnd.{Message, Build, bits, k, header_slot, header_lent, header_report, Handed}
use Rattle.ends.specs.EndToEnd.{with_outcome, handed, headers}

-- A message for this unit that goes into its header.
pub record Short (s : Settings) (m : Message) : Type 0 where
  pub inside : k m ≡ 0
  pub meant : for_unit s m.fields ≡ true

-- Reports with no break between, where hs was heard before, and the messages that they bring, in the order in which
-- their headers are first heard: the header of a message that is no copy; one of these headers again, from a build of
-- its own, its countdown less by the frames gone by since it was first heard; and anything else by which nothing is
-- handed over, such as nothing at all, a damaged block, a header for another unit or one that opens an assembly.
pub data Mixed (s : Settings) (hs : History) : Line Lent → Line Message → Type 0 where
  none : Mixed s hs start start
  new : {ls : Line Lent} {ms : Line Message} (m : Message) (b : Build m) → Mixed s hs ls ms → Short s m
      → Unbroken (reports s ls) (header_slot m b) → (Copies (hs ⧺ reports s ls) (header_report s m b) → ⊥)
      → Mixed s hs (ls ▸ header_lent m b) (ms ▸ m)
  again : {ls : Line Lent} {ms : Line Message} (m : Message) (b b' : Build m) (before since : Line Lent)
      → Mixed s hs ls ms → Short s m → ls ≡ (before ▸ header_lent m b) ⧺ since
      → Unbroken (reports s ls) (header_slot m b')
      → b.countdown ≡ b'.countdown + frames (reports s (since ▸ header_lent m b'))
      → Mixed s hs (ls ▸ header_lent m b') ms
  other : {ls : Line Lent} {ms : Line Message} (l : Lent) → Mixed s hs ls ms
      → Unbroken (reports s ls) (record { frame = l.frame; slot = l.slot })
      → with_outcome start (outcome_at (hs ⧺ reports s ls) (report_of s l)) ≡ start → Mixed s hs (ls ▸ l) ms

abbrev pub message_of : Message → Handed
message_of m = record { fields = m.fields; bits = bits m }

pub record EachOnce : Type 0 where
  -- Exactly these messages are handed over, each once, in their order.
  pub once : (s : Settings) (hs : History) {ls : Line Lent} {ms : Line Message} → Mixed s hs ls ms
      → handed hs (reports s ls) ≡ each message_of ms
  -- To a receiver that had heard nothing before, a message is no copy where its header's fields are not those of one
  -- that came: where it has another sender, say.
  pub different : (s : Settings) {ls : Line Lent} {ms : Line Message} → Mixed s start ls ms
      → (m : Message) (b : Build m) → Short s m → Every (λ (x : Message). x.fields ≡ m.fields → ⊥) ms
      → Copies (reports s ls) (header_report s m b) → ⊥
  -- A header can be built for every slot and every countdown, so that each of them can be heard again in whatever slot.
  pub possible : (m : Message) (b : Build m) (q : Place) (f : ℕ) → 1 ≤ q.frame → q.frame ≤ 18
      → (q.slot ≡ 1) ⊎ (q.slot ≡ 3) → f ≤ 3 → (b' : Build m) × (header_slot m b' ≡ q) × (b'.countdown ≡ f)
  -- Two senders in turn for four frames, one in slot 1 and the other in slot 3; and three, of which each is heard again
  -- with one or two others between. There are such reports, and `once` says what a receiver that had heard nothing
  -- before is handed: each message once.
  pub two : (s : Settings) (m₁ m₂ : Message) → Build m₁ → Build m₂ → Short s m₁ → Short s m₂
      → (m₁.fields ≡ m₂.fields → ⊥) → (ls : Line Lent) × Mixed s start ls (start ▸ m₁ ▸ m₂) × (headers ls ≡ 8)
  pub three : (s : Settings) (m₁ m₂ m₃ : Message) → Build m₁ → Build m₂ → Build m₃
      → Short s m₁ → Short s m₂ → Short s m₃
      → (m₁.fields ≡ m₂.fields → ⊥) → (m₁.fields ≡ m₃.fields → ⊥) → (m₂.fields ≡ m₃.fields → ⊥)
      → (ls : Line Lent) × Mixed s start ls (start ▸ m₁ ▸ m₂ ▸ m₃) × (headers ls ≡ 7)
