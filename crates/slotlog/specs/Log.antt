-- The records of a slot log (document 01, 'The slot log and its printer'). A record is two bytes length of what
-- follows, two bytes kind, body; numbers have their lowest byte first.
use Rattle.std.specs.Prelude.{Bool, cond, ◌&&◌, List, [], ◌∷◌, ℕ, zero, suc, ◌+◌, ◌-◌, eqb, leb, ltb}
use Rattle.std.specs.Prelude.{length, take, drop, get_or}
use Rattle.std.specs.Prelude.{Option, Some, None, Result, Ok, Err}
use Rattle.blocks.specs.declared.fault.Fault.TheVariants.{Range}
use Rattle.records.specs.Numbers.{two_at, four_at}
use Rattle.reports.specs.Lent.{Lent}
use Rattle.reports.specs.Units.{settings_fit}
use Rattle.reports.specs.declared.unit.Settings.{Settings}
use Rattle.receiver.specs.View.{new_receiver, fresh_of}
use Rattle.receiver.specs.declared.Fresh.{Fresh}
use Rattle.receiver.specs.declared.Receiver.{Receiver}
use Rattle.slotlog.specs.declared.log.Begun.{Begun}
use Rattle.slotlog.specs.declared.log.NotBegun.{NotBegun}
use Rattle.slotlog.specs.declared.log.Kind.{Kind}
use Rattle.slotlog.specs.declared.log.Kind.TheVariants as kind
use Rattle.slotlog.specs.declared.log.Next.{Next}
use Rattle.slotlog.specs.declared.log.Next.TheVariants.{End, Part, Cut, Other, Report}

-- The kinds and their numbers: settings; silence; SCH/S and SCH/H; SCH/F. Of any other number there is no kind.
abbrev pub number_of : Kind → ℕ
number_of kind.Settings = 0
number_of kind.Silence = 1
number_of kind.Header = 2
number_of kind.Block = 3

abbrev pub kind_of : ℕ → Option Kind
kind_of n =
    cond (eqb n 0) (Some kind.Settings)
    (cond (eqb n 1) (Some kind.Silence) (cond (eqb n 2) (Some kind.Header) (cond (eqb n 3) (Some kind.Block) None)))

-- The bytes of a kind's body: settings; a frame and a slot; the same with SCH/S and SCH/H; the same with SCH/F. An
-- unknown kind asks for none.
abbrev pub body_of : ℕ → ℕ
body_of kind = cond (eqb kind 0) 12 (cond (eqb kind 1) 2 (cond (eqb kind 2) 26 (cond (eqb kind 3) 36 0)))

-- Kinds 1 to 3 are reports.
abbrev pub is_report : ℕ → Bool
is_report kind = leb 1 kind && leb kind 3

-- A whole record, after the first, with n bytes of body: shorter than its kind it is cut; a report of its right length;
-- any other is unknown, misplaced or too long.
abbrev pub whole_of : ℕ → ℕ → Next
whole_of kind n =
    cond (ltb n (body_of kind)) Cut (cond (is_report kind && eqb n (body_of kind)) (Report (n + 4)) (Other (n + 4)))

-- What stands next in the rest of a log, with the bytes that it takes: nothing; a record that runs past what is there;
-- one that is cut whatever follows; a report; or another one.
unfoldable pub next_in : List ℕ → Next
next_in w =
    cond (eqb (length w) 0) End
    (cond (ltb (length w) 2) Part
    (cond (ltb (two_at w 0) 2) Cut
    (cond (ltb (length w) (two_at w 0 + 2)) Part
    (whole_of (two_at w 2) (two_at w 0 - 2)))))

-- A report of n bytes at the start of a run of bytes.
abbrev pub report_in : ℕ → List ℕ → Lent
report_in n w = record { frame = get_or w 4 0; slot = get_or w 5 0; kind = two_at w 2; blocks = drop 6 (take n w) }

-- ---- The first record.

-- A whole kind 0 of its right length.
abbrev pub is_first : List ℕ → Bool
is_first w = leb 16 (length w) && (eqb (two_at w 0) 14 && eqb (two_at w 2) 0)

abbrev pub settings_at : List ℕ → Settings
settings_at w = record { individual = four_at w 4; group = four_at w 8; mni = four_at w 12 }

-- And its settings are in range.
abbrev pub is_unit : List ℕ → Bool
is_unit w = let s = settings_at w in is_first w && settings_fit s.individual s.group s.mni

-- The bytes that it takes.
abbrev pub first_bytes : List ℕ → ℕ
first_bytes w = 16

-- The receiver that a log starts with and the bytes that its first record takes; fault 13 where it starts with none.
pub record Beginning : Type 0 where
  pub fault : ℕ
  pub took : ℕ
  pub receiver : Receiver

abbrev pub begun_as : Fresh → ℕ → Beginning
begun_as f took = record { fault = f.fault; took = took; receiver = f.receiver }

abbrev pub begun_by : List ℕ → Beginning
begun_by w =
    let s = settings_at w in
    cond (is_first w) (begun_as (fresh_of s.individual s.group s.mni) (first_bytes w))
    (record { fault = 13; took = 0; receiver = new_receiver 0 0 0 })

-- What is answered of it: the same bytes and receiver where it is refused.
abbrev pub begun : Beginning → Result Begun NotBegun
begun b =
    let x : Begun = record { took = b.took; receiver = b.receiver } in
    cond (eqb b.fault 0) (Ok x) (Err (record { fault = Range; begun = x }))

-- ---- The records after it, to the end or to the first that is cut.

pub data Entry : Type 0 where
  report : Lent → Entry
  other : Entry
  cut : Entry

-- At most so many of them.
abbrev pub entry : Next → List ℕ → (List ℕ → List Entry) → List Entry
entry End w more = []
entry Part w more = cut ∷ []
entry Cut w more = cut ∷ []
entry (Other n) w more = other ∷ more (drop n w)
entry (Report n) w more = report (report_in n w) ∷ more (drop n w)

unfoldable pub entries_for : ℕ → List ℕ → List Entry
entries_for zero w = []
entries_for (suc k) w = entry (next_in w) w (entries_for k)

-- All: each takes a byte and more.
unfoldable pub entries : List ℕ → List Entry
entries w = entries_for (length w) w
