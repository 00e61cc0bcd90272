-- The receiver, as a step that runs: each report is judged, by what it brings and by what is open, and the verdict says
-- what is answered and what is changed. Assumes nothing.
use Rattle.std.specs.Prelude.{ℕ, suc, ◌-◌, Bool, true, false, cond, not, ◌&&◌, ◌||◌, List, [], ◌∷◌, ◌++◌, eqb, length}
use Rattle.std.proofs.Math.Option.{Option, none, some}
use Rattle.history.specs.Line.{Line, start, ◌▸◌}
use Rattle.history.specs.Slots.{same_place, next, due, no_fields, no_raw, no_loss, Heard, Report}
use Rattle.history.specs.Slots.{what_in, header_in, more_in, countdown_in, bits_in}
use Rattle.store.specs.Store.{same_raw}
use Rattle.store.specs.declared.Raw.{Raw}
use Rattle.blocks.specs.declared.header.Fields.{Fields}
use Rattle.history.specs.declared.Place.{Place}
use Rattle.history.specs.declared.Near.{Near}
use Rattle.history.specs.declared.Open.{Open}
use Rattle.history.specs.declared.Lost.{Lost}
use Rattle.history.specs.declared.Verdict.{Verdict}
use Rattle.history.specs.declared.Act.{Act}
use Rattle.history.specs.declared.Act.TheVariants.{Stays, Ends, Opens, Takes}
use Rattle.history.specs.declared.Outcome as code
use Rattle.history.specs.declared.Outcome.TheVariants.{Quiet, Single, Joined, Opened, Kept, Copied}
use Rattle.history.specs.declared.What.{What}
use Rattle.history.specs.declared.What.TheVariants.{Nothing, Fragmented, Unfragmented, Frag, End}

-- ---- What is kept.

-- An assembly: what is kept of the open run, and the bits joined so far.
pub record Assembly : Type 0 where
  pub run : Open
  pub joined : List Bool

-- The place of the last report, the earlier headers, the oldest first, and the assembly.
pub record State : Type 0 where
  pub last : Option Place
  pub near : List Near
  pub assembly : Assembly

-- What is not there is zero.
abbrev pub no_near : Near
no_near = record { raw = no_raw; countdown = 0 }

abbrev pub no_run : Open
no_run = record { fields = no_fields; raw = no_raw; held = 0; again = 0; more = 0; frame = 0; countdown = 0; kept = 0 }

abbrev pub no_assembly : Assembly
no_assembly = record { run = no_run; joined = [] }

abbrev pub fresh : State
fresh = record { last = none; near = []; assembly = no_assembly }

-- ---- What is answered.

pub data Outcome : Type 0 where
  quiet : Outcome
  single : Fields → List Bool → Outcome
  joined : Fields → List Bool → Outcome
  opened kept copy : Outcome

-- The document's numbers.
abbrev pub number : Outcome → ℕ
number quiet = 0
number (single f m) = 1
number (joined f m) = 2
number opened = 3
number kept = 4
number copy = 5

-- And by the code's own outcomes, which have no message with them.
abbrev pub outcome_number : code.Outcome → ℕ
outcome_number Quiet = 0
outcome_number Single = 1
outcome_number Joined = 2
outcome_number Opened = 3
outcome_number Kept = 4
outcome_number Copied = 5

-- The message handed over, and its header fields: none, and 0, where nothing is handed over. The answer's bits are the
-- message's length.
abbrev pub message_of : Outcome → List Bool
message_of quiet = []
message_of (single g m) = m
message_of (joined g m) = m
message_of opened = []
message_of kept = []
message_of copy = []

abbrev pub fields_of : Outcome → Fields
fields_of quiet = no_fields
fields_of (single g m) = g
fields_of (joined g m) = g
fields_of opened = no_fields
fields_of kept = no_fields
fields_of copy = no_fields

pub record Answer : Type 0 where
  pub outcome : Outcome
  pub dropped : Bool

-- ---- Tests.

abbrev pub in_turn : Option Place → Place → Bool
in_turn none q = true
in_turn (some p) q = same_place q (next p)

-- The frame is over: after slot 1 comes slot 3 of the same one, and else slot 1 of the next.
abbrev pub is_over : Place → Bool
is_over q = not (eqb q.slot 1)

abbrev pub is_held : Open → Bool
is_held a = eqb a.held 1

abbrev pub is_due : Open → Place → Bool
is_due a q = is_held a && same_place q (due a.frame a.countdown a.kept)

abbrev pub is_last : Open → Bool
is_last a = eqb a.kept a.more

-- A header, its SCH/H but for the countdown and its countdown, repeats an earlier one.
abbrev pub repeats : Raw → ℕ → Raw → ℕ → Bool
repeats raw again other f = same_raw raw other && eqb again (suc f)

-- It is a copy of this one, or of one of these.
abbrev pub fits : Near → Raw → ℕ → Bool
fits n raw f = eqb n.countdown f && same_raw n.raw raw

abbrev pub copied : List Near → Raw → ℕ → Bool
copied [] raw f = false
copied (n ∷ ns) raw f = fits n raw f || copied ns raw f

-- It repeats the open run's own, before the first block; `meant` where it is for this unit.
abbrev pub renews : Open → Bool → Raw → ℕ → Bool
renews a meant raw f = meant && (eqb a.kept 0 && repeats a.raw a.again raw f)

-- ---- What is left when a report comes: nothing after a break, and else the same, some frames on.

-- A countdown falls by one with each frame, at slot 1.
abbrev pub wane : Place → ℕ → ℕ
wane q n = cond (eqb q.slot 1) (n - 1) n

abbrev pub older_near : Bool → List Near → List Near
older_near true ns = ns
older_near false ns = []

abbrev pub older_run : Bool → Place → Open → Open
older_run false q a = no_run
older_run true q a =
    record {
      fields = a.fields;
      raw = a.raw;
      held = a.held;
      again = wane q a.again;
      more = a.more;
      frame = a.frame;
      countdown = a.countdown;
      kept = a.kept;
    }

abbrev pub older : Bool → Place → Assembly → Assembly
older t q a = record { run = older_run t q a.run; joined = cond t a.joined [] }

-- An open assembly is broken off.
abbrev pub broken_off : Bool → Open → Bool
broken_off true a = false
broken_off false a = is_held a

-- ---- The rules: what a report comes to. `lost` where an open assembly was broken off.

abbrev pub verdict : code.Outcome → Bool → Act → Bool → Verdict
verdict outcome dropped act near = record { outcome = outcome; dropped = dropped; act = act; near = near }

-- The due block was not heard: the assembly ends, and the mark tells of it. A block that is not due changes nothing.
abbrev pub missed : Verdict
missed = verdict Quiet true Ends false

abbrev pub passed : Bool → Verdict
passed lost = verdict Quiet lost Stays false

abbrev pub on_nothing : Bool → Bool → Verdict
on_nothing due lost = cond due missed (passed lost)

-- A DMAC-FRAG is kept where it is due and not the last one to come; a DMAC-END hands over where it is due and is.
abbrev pub on_frag : Bool → Bool → Bool → Verdict
on_frag due last lost = cond due (cond last missed (verdict Kept lost Takes false)) (passed lost)

abbrev pub on_end : Bool → Bool → Bool → Verdict
on_end due last lost = cond due (cond last (verdict Joined lost Ends false) missed) (passed lost)

-- A fragmented header opens an assembly where it is for this unit, and ends an open one in any case; the mark tells of
-- it, but where the header is the open run's own.
abbrev pub on_fragmented : Bool → Bool → Bool → Bool → Verdict
on_fragmented meant held renewed lost =
    let mark = cond held (not renewed) lost in
    cond meant (verdict Opened mark Opens false) (verdict Quiet mark Ends false)

-- To an open assembly an unfragmented header is as if nothing was heard. One that is a copy fits whatever the earlier
-- one fits, which is there already.
abbrev pub on_unfragmented : Bool → Bool → Bool → Bool → Verdict
on_unfragmented due meant copied lost =
    let p = on_nothing due lost in
    cond meant (verdict (cond copied Copied Single) p.dropped p.act (not copied)) p

-- By what the report brings, over what is left of the open run and of the earlier headers: the slot, whether the header
-- is for this unit, its SCH/H but for the countdown, its countdown.
abbrev pub judge : What → Open → List Near → Place → Bool → Raw → ℕ → Bool → Verdict
judge Nothing a ns q meant raw f lost = on_nothing (is_due a q) lost
judge Fragmented a ns q meant raw f lost = on_fragmented meant (is_held a) (renews a meant raw f) lost
judge Unfragmented a ns q meant raw f lost = on_unfragmented (is_due a q) meant (copied ns raw f) lost
judge Frag a ns q meant raw f lost = on_frag (is_due a q) (is_last a) lost
judge End a ns q meant raw f lost = on_end (is_due a q) (is_last a) lost

-- ---- What a verdict changes, and what it answers.

abbrev pub near_of : Raw → ℕ → Near
near_of raw f = record { raw = raw; countdown = f }

-- A frame on, each countdown has fallen by one; where it was 0 there is no copy any more.
abbrev pub fallen : List Near → List Near
fallen [] = []
fallen (n ∷ ns) = cond (eqb n.countdown 0) (fallen ns) (near_of n.raw (n.countdown - 1) ∷ fallen ns)

-- The earlier headers from now on, this one more among them or not; `over` where the next slot is in a new frame.
abbrev pub near_after : Bool → Bool → Near → List Near → List Near
near_after over more n ns = let all = cond more (ns ++ (n ∷ [])) ns in cond over (fallen all) all

-- The run that a header opens.
abbrev pub opening : Fields → Raw → ℕ → ℕ → ℕ → Open
opening fields raw more frame f =
    record { fields = fields; raw = raw; held = 1; again = suc f; more = more; frame = frame; countdown = f; kept = 0 }

-- The run with one block more.
abbrev pub taking : Open → Open
taking a =
    record {
      fields = a.fields;
      raw = a.raw;
      held = a.held;
      again = a.again;
      more = a.more;
      frame = a.frame;
      countdown = a.countdown;
      kept = suc a.kept;
    }

-- An act as two questions: whether what was open is gone, and whether the bits that are brought are joined.
abbrev pub clears : Act → Bool
clears Stays = false
clears Ends = true
clears Opens = true
clears Takes = false

abbrev pub joins : Act → Bool
joins Stays = false
joins Ends = false
joins Opens = true
joins Takes = true

-- By the act: the run, where this one would be opened; and the joined bits, where these are brought.
abbrev pub run_after : Act → Open → Open → Open
run_after Stays o a = a
run_after Ends o a = no_run
run_after Opens o a = o
run_after Takes o a = taking a

abbrev pub joined_after : Act → List Bool → List Bool → List Bool
joined_after Stays b j = j
joined_after Ends b j = []
joined_after Opens b j = b
joined_after Takes b j = j ++ b

-- By the verdict's outcome: the header's message, the joined one, or none.
abbrev pub outcome_of : code.Outcome → Fields → List Bool → Fields → List Bool → Outcome
outcome_of Quiet g b fields message = quiet
outcome_of Single g b fields message = single g b
outcome_of Joined g b fields message = joined fields message
outcome_of Opened g b fields message = opened
outcome_of Kept g b fields message = kept
outcome_of Copied g b fields message = copy

-- ---- The step.

-- What is left of the state when a report comes.
abbrev pub aged : State → Place → State
aged s q =
    let t = in_turn s.last q in
    record { last = some q; near = older_near t s.near; assembly = older t q s.assembly }

-- What is made of a report that brings x in slot q, in such a state; `lost` as above.
abbrev pub judged : State → Place → Heard → Bool → Verdict
judged s q x lost =
    judge (what_in x) s.assembly.run s.near q (header_in x).for_us (header_in x).raw (countdown_in x) lost

abbrev pub changed : State → Place → Heard → Verdict → State
changed s q x v =
    record {
      last = s.last;
      near = near_after (is_over q) v.near (near_of (header_in x).raw (countdown_in x)) s.near;
      assembly = record {
        run =
            run_after v.act
            (opening (header_in x).fields (header_in x).raw (more_in x) q.frame (countdown_in x))
            s.assembly.run;
        joined = joined_after v.act (bits_in x) s.assembly.joined;
      };
    }

abbrev pub answered : State → Heard → Verdict → Answer
answered s x v =
    record {
      outcome =
          outcome_of v.outcome (header_in x).fields (bits_in x) s.assembly.run.fields
          (s.assembly.joined ++ bits_in x);
      dropped = v.dropped;
    }

abbrev pub verdict_at : State → Report → Verdict
verdict_at s r =
    judged (aged s r.place) r.place r.heard (broken_off (in_turn s.last r.place) s.assembly.run)

unfoldable pub step : State → Report → State
step s r = changed (aged s r.place) r.place r.heard (verdict_at s r)

unfoldable pub answer : State → Report → Answer
answer s r = answered (aged s r.place) r.heard (verdict_at s r)

-- The state after a history of accepted reports, and the answer to one more.
unfoldable pub after : Line Report → State
after start = fresh
after (hs ▸ r) = step (after hs) r

abbrev pub outcome_at : Line Report → Report → Outcome
outcome_at hs r = (answer (after hs) r).outcome

abbrev pub dropped_at : Line Report → Report → Bool
dropped_at hs r = (answer (after hs) r).dropped

-- What is told of an assembly that ends without being handed over: of a DM-SDS DATA (23) and a DM-SDS ACK (24) the
-- source address, the message type and so many bits; of all others, and where none is dropped, zeros.
abbrev pub is_acknowledged : ℕ → Bool
is_acknowledged message = eqb message 23 || eqb message 24

abbrev pub lost_of : Bool → ℕ → ℕ → ℕ → Lost
lost_of dropped source message n =
    cond (dropped && is_acknowledged message) (record { source = source; message = message; bits = n }) no_loss

abbrev pub lost_in : State → Bool → Lost
lost_in s dropped =
    let g = s.assembly.run.fields in lost_of dropped g.source.ssi g.message (length s.assembly.joined)

abbrev pub loss_at : Line Report → Report → Lost
loss_at hs r = lost_in (after hs) (dropped_at hs r)
