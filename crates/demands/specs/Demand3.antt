-- Demand 3. From a fresh receiver, over any list of accepted slot reports, a joined message is handed over at a
-- report exactly when that report closes a full run: the latest fragmented header heard from anyone was for this
-- unit, every report since names the slot next in turn, each due slot held the due kind of block, the last kind in
-- the last one only. What is handed over is that run's header fields and bits in order, once. Well-formed
-- unfragmented messages for this unit are handed over exactly when they are not copies as document 01 defines them.
-- `Closes`, `Singles`, `Opens`, `Keeps`, `Copies`, `Drops` and `Loses` are read off the history of accepted reports, in
-- crates/history/specs/History.antt; what a report brings is read off its lent bytes, in
-- crates/reports/specs/Lent.antt. Neither runs a receiver.
use Rattle.std.specs.Prelude.{◌≡◌, ◌↔◌, ◌⊎◌, Bool, List, ℕ, suc, ◌+◌, ◌≤◌, length}
use Rattle.bits.specs.Bits.{bits_of}
use Rattle.store.specs.Store.{handed}
use Rattle.blocks.specs.declared.header.Fields.{Fields}
use Rattle.history.specs.Line.{Line, ◌▸◌, ◌⧺◌, Every}
use Rattle.history.specs.Slots.{no_fields, no_loss, Report}
use Rattle.history.specs.History.{History, InTurn, Unbroken, frames, NotFragmented, Closes, Singles, Opens, Keeps}
use Rattle.history.specs.History.{Copies, Drops, IsAcknowledged, Loses}
use Rattle.history.specs.declared.Lost.{Lost}
use Rattle.reports.specs.Lent.{Lent, Event, uncounted, sch_h_in, header_in_lent, fault_in, BringsShort}
use Rattle.reports.specs.declared.unit.Settings.{Settings}
use Rattle.receiver.specs.View.{plain_answer}
use Rattle.receiver.specs.Reached.{report_of, reports, receiver_at, Canonical}
use Rattle.receiver.specs.declared.Receiver.{Receiver}
use Rattle.receiver.specs.declared.Reply.{Reply}
use Rattle.demands.specs.Calls.{Calls, HearCall, Made, history, current, answer, refusal, Taken}

-- Some header fields and some message for which this holds.
pub record Some (P : Fields → List Bool → Type 0) : Type 0 where
  pub fields : Fields
  pub message : List Bool
  pub holds : P fields message

-- These fields and this message are handed over: the fields and the number of bits in the answer; the bits at the
-- buffer's start, the last byte's spare bits zero, and every later byte as it was.
pub record HandsOver (c : HearCall) (g : Fields) (m : List Bool) : Type 0 where
  pub fields : (answer c).fields ≡ g
  pub bits : (answer c).bits ≡ length m
  pub buffer : c.new ≡ handed m c.old

-- Nothing is handed over.
pub record HandsNothing (c : HearCall) : Type 0 where
  pub fields : (answer c).fields ≡ no_fields
  pub bits : (answer c).bits ≡ 0
  pub buffer : c.new ≡ c.old

-- The report's header is a copy, said of the lent bytes: an earlier report brought such a header too, with no break
-- since; the bits of the two SCH/H are the same but for those of the countdown; and the earlier countdown is the new
-- one plus the frames gone by.
pub record CopiesBits (c : HearCall) : Type 0 where
  pub before : Line Event
  pub first : Lent
  pub since : Line Event
  pub split : c.earlier ≡ (before ▸ first) ⧺ since
  pub here : BringsShort c.settings c.report
  pub there : BringsShort c.settings first
  pub turns : InTurn (report_of c.settings first).place (reports c.settings (since ▸ c.report))
  pub same : uncounted (bits_of (sch_h_in first)) ≡ uncounted (bits_of (sch_h_in c.report))
  pub counted :
      (header_in_lent first).countdown
      ≡ (header_in_lent c.report).countdown + frames (reports c.settings (since ▸ c.report))

-- What is answered to a report that was accepted.
pub record Answers (c : HearCall) : Type 0 where
  -- Outcome 2, exactly when the report closes a full run; then that run's fields and bits are handed over.
  pub joined : ((answer c).outcome ≡ 2) ↔ Some (Closes (history c) (current c))
  pub joined_what : (g : Fields) (m : List Bool) → Closes (history c) (current c) g m → HandsOver c g m
  -- Outcome 1, exactly when the report brings an unfragmented message for this unit that is no copy; then what it
  -- reads as is handed over.
  pub single : ((answer c).outcome ≡ 1) ↔ Some (Singles (history c) (current c))
  pub single_what : (g : Fields) (m : List Bool) → Singles (history c) (current c) g m → HandsOver c g m
  -- Outcomes 3, 4 and 5: an assembly is opened, a block is kept, a copy is heard. Outcome 0: none of the five.
  pub opened : ((answer c).outcome ≡ 3) ↔ Opens (current c)
  pub kept : ((answer c).outcome ≡ 4) ↔ Keeps (history c) (current c)
  pub copy : ((answer c).outcome ≡ 5) ↔ Copies (history c) (current c)
  pub nothing :
      ((answer c).outcome ≡ 0)
      ↔ ((Some (Singles (history c) (current c)) → ⊥) × (Some (Closes (history c) (current c)) → ⊥)
      × (Opens (current c) → ⊥) × (Keeps (history c) (current c) → ⊥) × (Copies (history c) (current c) → ⊥))
  -- A copy once more, in the bits that were lent: `Copies` compares SCH/H as two numbers, and they are the same exactly
  -- where the bits are.
  pub copy_bits : ((answer c).outcome ≡ 5) ↔ CopiesBits c
  -- There is no other outcome, and with 0, 3, 4 and 5 nothing is handed over.
  pub six : (answer c).outcome ≤ 5
  pub quiet : ((answer c).outcome ≡ 1 → ⊥) → ((answer c).outcome ≡ 2 → ⊥) → HandsNothing c
  -- The dropped mark is 1 exactly when an open run ends here without being handed over, and 0 otherwise. With outcomes
  -- 2 and 4, where a block of an open run has come in its due slot, it is 0.
  pub dropped : ((answer c).dropped ≡ 1) ↔ Drops (history c) (current c)
  pub mark : (answer c).dropped ≤ 1
  pub in_time : ((answer c).outcome ≡ 2) ⊎ ((answer c).outcome ≡ 4) → (answer c).dropped ≡ 0
  -- Frame 18 is no block's: none is kept or handed over there, and none is missed, so that a report next in turn that
  -- brings no fragmented header drops nothing.
  pub never_18 : c.report.frame ≡ 18 → ((answer c).outcome ≡ 2 → ⊥) × ((answer c).outcome ≡ 4 → ⊥)
  pub kept_over_18 : c.report.frame ≡ 18 → Unbroken (history c) (current c).place → NotFragmented (current c).heard
      → (answer c).dropped ≡ 0
  -- The answer has three numbers of a lost message exactly when a run of a DM-SDS DATA or a DM-SDS ACK is dropped here,
  -- and they are its own: the source address of its header, its message type and the bits joined so far. Otherwise they
  -- are zeros.
  pub lost : (x : Lost) → Loses (history c) (current c) x ↔ (((answer c).lost ≡ x) × IsAcknowledged x.message)
  pub none_lost : ((answer c).lost ≡ no_loss) ↔ ((x : Lost) → Loses (history c) (current c) x → ⊥)
  -- The fault is the reader's, and with a fault the outcome is 0.
  pub fault : (answer c).fault ≡ fault_in c.report
  pub unheard : ((answer c).fault ≡ 0 → ⊥) → (answer c).outcome ≡ 0
  -- The receiver is a function of its settings and of the accepted reports.
  pub receiver : c.reply.receiver ≡ receiver_at c.settings (c.earlier ▸ c.report)

pub record Demand3 : Type 0 where
  -- What an accepted report is answered with.
  pub answers : (c : HearCall) → Taken c → Answers c
  -- Once: after a run is closed no report closes one before another fragmented header is heard.
  pub once : (hs later : History) (r r' : Report) (g g' : Fields) (m m' : List Bool) → Closes hs r g m
      → Every (λ x. NotFragmented x.heard) later
      → Closes ((hs ▸ r) ⧺ later) r' g' m' → ⊥
  -- Refused reports have not happened.
  pub refused : (c : HearCall) → Made c → (n : ℕ) → refusal c ≡ suc n
      → (answer c ≡ plain_answer 0 0 (suc n)) × (c.reply.receiver ≡ c.before) × (c.new ≡ c.old)
  -- Refused or not: the receiver holds no assembly, and then all of it is zero, or an open one, and then its store is
  -- the joined bits and zero beyond them.
  pub store : (c : HearCall) → Made c → Canonical c.reply.receiver.assembly
  -- Two calls of the same receiver with the same report and the same buffer have the same reply and leave the same
  -- buffer; and there is such a call, whatever is lent.
  pub unique : (c d : HearCall) → Made c → Made d → c.before ≡ d.before → c.report ≡ d.report → c.old ≡ d.old
      → (c.reply ≡ d.reply) × (c.new ≡ d.new)
  pub possible : {s : Settings} {ls : Line Event} {r : Receiver} → Calls s ls r → (l : Lent) (buffer : List ℕ)
      → (reply : Reply) × (new : List ℕ) × Made
      (record {
        settings = s;
        earlier = ls;
        before = r;
        report = l;
        reply = reply;
        old = buffer;
        new = new;
      })
