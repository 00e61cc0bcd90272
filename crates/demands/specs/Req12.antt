-- Request 12: an assembly never hangs. How long a unit may show 'receiving': over any list of accepted reports, and of
-- the calls. And a message is handed over as the same bits wherever it is cut.
-- `slots_to`, `slots_on`, `over_18` and `lasts` are in crates/history/specs/Lasts.antt, `Fate` is in Fate.antt there.
use Rattle.std.specs.Prelude.{◌≡◌, ◌↔◌, ◌⊎◌, Bool, true, List, [], ◌∷◌, ◌++◌, ℕ, suc, ◌+◌, ◌≤◌, ◌<◌, length}
use Rattle.bits.specs.Bits.{bytes_n}
use Rattle.bits.specs.Layout.{pack}
use Rattle.blocks.specs.Slots.{frames_to}
use Rattle.blocks.specs.Sync.{sync_parts}
use Rattle.blocks.specs.Continuation.{read_continuation}
use Rattle.build.specs.Build.{header_block, continuation_block}
use Rattle.blocks.specs.declared.header.Fields.{Fields}
use Rattle.history.specs.Line.{Line, start, ◌▸◌, ◌⧺◌, count, each, Every, Any}
use Rattle.history.specs.Slots.{due, Heard}
use Rattle.history.specs.History.{History, InTurn, dues, join, NotFragmented, Run, IsOpen, Closes, Opens}
use Rattle.history.specs.Fate.{Renews}
use Rattle.history.specs.Lasts.{slots_on, slots_to, over_18, lasts, IsOver}
use Rattle.history.specs.declared.Place.{Place}
use Rattle.reports.specs.Lent.{Lent, Event, for_unit, block_heard, heard}
use Rattle.reports.specs.declared.unit.Settings.{Settings}
use Rattle.receiver.specs.Reached.{report_of, reports, Accepted}
use Rattle.receiver.specs.declared.Receiver.{Receiver}
use Rattle.demands.specs.Calls.{Calls, HearCall, answer, Taken, Series}
use Rattle.demands.specs.Demand2.{Call, bits, h, k, built, InRange}
use Rattle.demands.specs.Demand3.{HandsOver}

-- With this answer an open assembly has ended: its message is handed over, or it is dropped.
abbrev pub Ended : HearCall → Type 0
Ended c = ((answer c).outcome ≡ 2) ⊎ ((answer c).dropped ≡ 1)

-- ---- A message cut at any places.

-- The parts of a message: its header's, those of the blocks but the last, and the last one's. Joined in order they are
-- the message. Each fits its room: the header's is what the fields and the slot count leave of 124 bits, a block's 264
-- bits. There are at most fifteen blocks.
pub record Cut (c : Call) : Type 0 where
  pub head : List Bool
  pub blocks : Line (List Bool)
  pub last : List Bool
  pub whole : join head (blocks ▸ last) ≡ bits c
  pub room : h c + 4 + length head ≤ 124
  pub fit : Every (λ b. length b ≤ 264) (blocks ▸ last)
  pub few : count blocks ≤ 14

-- The parts as blocks, each room full or filled: SCH/S with SCH/H, which is fragmented and tells the number of blocks;
-- and SCH/F, a DMAC-FRAG (0) or a DMAC-END (1).
abbrev pub header_bytes : (c : Call) → Cut c → List ℕ
header_bytes c x =
    bytes_n 8 (pack (sync_parts c.sync))
    ++ bytes_n 16 (header_block 1 (suc (count x.blocks)) c.countdown c.fields x.head)

abbrev pub block_bytes : ℕ → List Bool → List ℕ
block_bytes last b = bytes_n 34 (continuation_block last b)

-- All of them, one after another.
abbrev pub frags_bytes : Line (List Bool) → List ℕ
frags_bytes start = []
frags_bytes (bs ▸ b) = frags_bytes bs ++ block_bytes 0 b

abbrev pub cut_bytes : (c : Call) → Cut c → List ℕ
cut_bytes c x = header_bytes c x ++ (frags_bytes x.blocks ++ block_bytes 1 x.last)

-- Reported: the header in the slot that it names, a block in a slot.
abbrev pub header_slot : Call → Place
header_slot c = record { frame = c.sync.frame; slot = c.sync.slot + 1 }

abbrev pub header_lent : (c : Call) → Cut c → Lent
header_lent c x = record { frame = c.sync.frame; slot = c.sync.slot + 1; kind = 2; blocks = header_bytes c x }

abbrev pub block_lent : ℕ → List Bool → Place → Lent
block_lent last b q = record { frame = q.frame; slot = q.slot; kind = 3; blocks = block_bytes last b }

-- What a DMAC-FRAG is heard as, from its bytes.
abbrev pub frag_heard : List Bool → Heard
frag_heard b = block_heard (block_bytes 0 b) (read_continuation (block_bytes 0 b))

-- The reports after the header's: each names the slot next in turn, and none brings a fragmented header; each due slot
-- held the block that was due, and the last report is that of the last block. What the other slots bring is open.
pub record BringsCut (s : Settings) (c : Call) (x : Cut c) (since : Line Event) (last : Lent) : Type 0 where
  pub turns : InTurn (header_slot c) (reports s (since ▸ last))
  pub latest : Every (λ l. NotFragmented (heard s l)) since
  pub held : dues c.sync.frame c.countdown (reports s since) ≡ each frag_heard x.blocks
  pub at_last : last ≡ block_lent 1 x.last (due c.sync.frame c.countdown (count x.blocks))

-- The longest there is: X 18, F 3, the header in slot 1, fifteen blocks; here fifteen bits, one to a block.
abbrev pub longest : Call
longest =
    record {
      sync = record { system = 13; usage = 0; slot = 0; frame = 18 };
      countdown = 3;
      fields =
          record {
            destination = record { kind = 0; ssi = 5001 };
            source = record { kind = 0; ssi = 7 };
            mni = 901;
            message = 23;
            width = 8;
            elements = 146;
          };
      n = 15;
      message = 181 ∷ 106 ∷ [];
      out = [];
    }

-- An assembly is open, and these are the reports since its header's.
abbrev pub OpenSince : Settings → Line Event → Line Event → Type 0
OpenSince s ls since = (u : Run) × IsOpen (reports s ls) u × (u.since ≡ reports s since)

-- It is open with 37 reports since its header's, whatever came before that one, and joined at the 38th.
pub record Lasts38 (s : Settings) (before : Line Event) : Type 0 where
  pub cut : Cut longest
  pub since : Line Event
  pub last : Lent
  pub header_accepted : Accepted (header_lent longest cut)
  pub accepted : Every Accepted (since ▸ last)
  pub number : count since ≡ 37
  pub is_open : OpenSince s ((before ▸ header_lent longest cut) ⧺ since) since
  pub closes :
      Closes (reports s ((before ▸ header_lent longest cut) ⧺ since)) (report_of s last) longest.fields (bits longest)

pub record Req12 : Type 0 where
  -- 1. How many reports lead from a header's to that of block i, exactly. In frames: one for each repeat and for each
  -- block up to that one, and one more where frame 18 lies among those of the blocks.
  pub in_frames : (x f i : ℕ) → i ≤ 14 → frames_to x f i ≡ f + suc i + over_18 x f i
  -- In slots: so many slots on comes the due slot of block i.
  pub in_slots : (p : Place) → 1 ≤ p.frame → p.frame ≤ 18 → (f i : ℕ)
      → slots_on (slots_to p f i) p ≡ due p.frame f i
  -- In reports that name the slot next in turn: the due slots that have come are those that so many reports reach.
  pub in_reports : (p : Place) → 1 ≤ p.frame → p.frame ≤ 18 → (f : ℕ) → f ≤ 3 → (rs : History) → InTurn p rs
      → (i : ℕ) → (i < count (dues p.frame f rs)) ↔ (slots_to p f i ≤ count rs)
  -- They are at most 38, and 38 for the longest.
  pub most : (p : Place) (f i : ℕ) → f ≤ 3 → i ≤ 14 → slots_to p f i ≤ 38
  pub longest_38 : slots_to (header_slot longest) longest.countdown 14 ≡ 38
  -- 2. Over any list of accepted reports: a run is open only before its last due slot, and so with at most 37 reports
  -- since its header's; it is handed over in that slot.
  pub open_until : (s : Settings) (ls : Line Event) → Every Accepted ls → {u : Run} → IsOpen (reports s ls) u
      → (count u.since < lasts u) × (count u.since ≤ 37)
  pub handed_in : (s : Settings) (ls : Line Event) (l : Lent) → Every Accepted ls → {g : Fields} {m : List Bool}
      → (c : Closes (reports s ls) (report_of s l) g m) → suc (count c.run.since) ≡ lasts c.run
  -- At the 38th report after its header's, whatever they are, it has been handed over, dropped or opened anew.
  pub over : (s : Settings) (before : Line Event) (o : Lent) (since : Line Event)
      → Every Accepted ((before ▸ o) ⧺ since) → Opens (report_of s o) → 38 ≤ count since
      → IsOver (reports s before) (report_of s o) (reports s since) 38
  -- Opened anew by its own header it lasts no longer: each due slot stays where it is.
  pub repeated : (s : Settings) (ls : Line Event) (l : Lent) → Every Accepted ls → {u : Run}
      → (z : Renews (reports s ls) u (report_of s l)) → (i : ℕ)
      → slots_to u.place u.countdown i
      ≡ suc (count u.since) + slots_to (report_of s l).place z.countdown i
  -- 3. Of the calls. A receiver that calls gave holds an assembly exactly when a run is open.
  pub receiving : {s : Settings} {ls : Line Event} {r : Receiver} → Calls s ls r
      → (r.assembly.run.held ≡ 1) ↔ ((u : Run) × IsOpen (reports s ls) u)
  -- Over the reports that are left until its last due slot, whatever they are, it ends, however often its own header is
  -- heard again. So it does over any 38.
  pub ends : {s : Settings} {before ls : Line Event} {cs : Line HearCall} {u : Run} → Every Accepted before
      → IsOpen (reports s before) u → Series s before ls cs → lasts u ≤ count u.since + count cs → Any Ended cs
  pub ends_38 : {s : Settings} {before ls : Line Event} {r : Receiver} {cs : Line HearCall} → Calls s before r
      → r.assembly.run.held ≡ 1 → Series s before ls cs → 38 ≤ count cs → Any Ended cs
  -- So it does over any 38 after an answer with outcome 3, its header's own or a repeat's.
  pub after_3 : (c : HearCall) → Taken c → (answer c).outcome ≡ 3 → {ls : Line Event} {cs : Line HearCall}
      → Series c.settings (c.earlier ▸ c.report) ls cs → 38 ≤ count cs → Any Ended cs
  -- There are such calls, for any reports that can be accepted.
  pub possible : {s : Settings} {before : Line Event} {r : Receiver} → Calls s before r → (ls : Line Event)
      → Every Accepted ls → (cs : Line HearCall) × Series s before ls cs
  -- 4. Joining runs of bits is associative, and the empty run is neutral.
  pub assoc : (a b c : List Bool) → (a ++ b) ++ c ≡ a ++ (b ++ c)
  pub none_left : (a : List Bool) → [] ++ a ≡ a
  pub none_right : (a : List Bool) → a ++ [] ≡ a
  -- 5. A message in range, for this unit, cut at any places. Its last block in its due slot, whatever came before its
  -- header: outcome 2, nothing dropped, and exactly that message is handed over. Until then its assembly is open.
  pub any_cut : (d : HearCall) → Taken d → (c : Call) → InRange c → for_unit d.settings c.fields ≡ true
      → (x : Cut c) (before since : Line Event) → d.earlier ≡ (before ▸ header_lent c x) ⧺ since
      → BringsCut d.settings c x since d.report
      → ((answer d).outcome ≡ 2) × ((answer d).dropped ≡ 0) × HandsOver d c.fields (bits c)
  pub until_then : (s : Settings) (c : Call) → InRange c → for_unit s c.fields ≡ true → (x : Cut c)
      → (before since : Line Event) (l : Lent) → BringsCut s c x since l
      → OpenSince s ((before ▸ header_lent c x) ⧺ since) since
  -- There are such reports for every cut of every message whose header is in slot 1 or 3: none of them is refused, and
  -- they are just as many as were counted.
  pub brought : (s : Settings) (c : Call) → InRange c → (c.sync.slot ≡ 0) ⊎ (c.sync.slot ≡ 2) → (x : Cut c)
      → (since : Line Event) × (l : Lent) × BringsCut s c x since l × Accepted (header_lent c x)
      × Every Accepted (since ▸ l)
      × (suc (count since) ≡ slots_to (header_slot c) c.countdown (count x.blocks))
  -- A build makes one of these cuts: what it writes of a message that takes blocks are the blocks of a cut.
  pub as_built : (c : Call) → InRange c → 124 < c.n + h c → k c ≤ 15 → (x : Cut c) × (built c ≡ cut_bytes c x)
  -- 37 is reached, and 38, by every unit that the longest is for; the one with address 5001 is such a unit.
  pub reached : (s : Settings) → for_unit s longest.fields ≡ true → (before : Line Event) → Lasts38 s before
  pub for_5001 : (group : ℕ)
      → for_unit (record { individual = 5001; group = group; mni = 901 }) longest.fields ≡ true
