-- What the rules of each group say, where none is broken. Assumes nothing.
use mathlib.Core.Path.{◌≡◌}
use mathlib.Core.Bool.{Bool, true}
use mathlib.Core.List.{List, [], ◌∷◌}
use Prim.Native.Nat.{ℕ, ◌≤◌}
use lib.Dec.{leb}
use lib.ListN.{length}
use Rattle.bits.specs.Bits.{bits_of, field}
use Rattle.bits.specs.Layout.{element}
use Rattle.blocks.specs.Faults.{unless, first_of}
use Rattle.blocks.specs.Sdu.{is_there}
use Rattle.blocks.specs.Sync.{sync_layout, sync_checks}
use Rattle.blocks.specs.Header.{body_of, message_of_header, tail_rules, rules_of, body_checks}
use Rattle.blocks.specs.declared.header.Body.{Body}
use Rattle.blocks.proofs.FaultLaws.{by_rules, holds, le_holds, eq_holds, rule_split, chain_split}

-- ---- 1 to 7: the two lent blocks of a header

pub record SyncHolds (s h : List ℕ) : Type 0 where
  pub length_s : length s ≡ 8
  pub length_h : length h ≡ 16
  pub pad : element sync_layout 9 (bits_of s) ≡ 0
  pub pad_h : field 124 4 (bits_of h) ≡ 0
  pub system : 10 ≤ element sync_layout 0 (bits_of s)
  pub type : element sync_layout 1 (bits_of s) ≡ 0
  pub communication : element sync_layout 2 (bits_of s) ≡ 0
  pub encryption : element sync_layout 7 (bits_of s) ≡ 0
  pub first_frame : 1 ≤ element sync_layout 6 (bits_of s)
  pub last_frame : element sync_layout 6 (bits_of s) ≤ 18

pub sync_holds : (s h : List ℕ) → first_of (sync_checks s h) ≡ 0 → SyncHolds s h
unfolding sync_checks
sync_holds s h e =
    by_rules (sync_checks s h) e (λ ls lh pad pad_h system type communication encryption first last.
    let b = bits_of s in
    record {
      length_s = eq_holds (length s) 8 0 ls;
      length_h = eq_holds (length h) 16 0 lh;
      pad = eq_holds (element sync_layout 9 b) 0 1 pad;
      pad_h = eq_holds (field 124 4 (bits_of h)) 0 1 pad_h;
      system = le_holds 10 (element sync_layout 0 b) 2 system;
      type = eq_holds (element sync_layout 1 b) 0 3 type;
      communication = eq_holds (element sync_layout 2 b) 0 4 communication;
      encryption = eq_holds (element sync_layout 7 b) 0 5 encryption;
      first_frame = le_holds 1 (element sync_layout 6 b) 6 first;
      last_frame = le_holds (element sync_layout 6 b) 18 6 last;
    })

-- ---- 8 and 9: a tail; 10 and 11: SCH/H

pub record TailHolds (destination source width first end : ℕ) : Type 0 where
  pub to : destination ≤ 2
  pub from : source ≤ 2
  pub listed : width ≤ 254
  pub fits : first ≤ end

pub tail_holds : (to from width first end : ℕ) → first_of (tail_rules to from width first end) ≡ 0
    → TailHolds to from width first end
tail_holds to from width first end e =
    by_rules (tail_rules to from width first end) e (λ a b c d.
    record {
      to = le_holds to 2 7 a;
      from = le_holds from 2 7 b;
      listed = le_holds width 254 8 c;
      fits = le_holds first end 8 d;
    })

-- what they say of SCH/H before its room is looked at, and with it
pub record RulesHold (e : Body) : Type 0 where
  pub counted : e.fragmented ≤ e.count
  pub tail : TailHolds e.tail.destination.kind e.tail.source.kind e.tail.width e.tail.first 124

pub rules_hold : (e : Body) → first_of (rules_of e) ≡ 0 → RulesHold e
rules_hold e z =
    let t = e.tail in
    let rest = tail_rules t.destination.kind t.source.kind t.width t.first 124 in
    let s = rule_split (unless (leb e.fragmented e.count) 10) rest z in
    record {
      counted = le_holds e.fragmented e.count 9 s.0;
      tail = tail_holds t.destination.kind t.source.kind t.width t.first 124 s.1;
    }

pub record BodyHolds (b : List Bool) : Type 0 where
  pub rules : RulesHold (body_of b)
  pub there : is_there (message_of_header (body_of b) b) ≡ true

pub body_holds : (b : List Bool) → first_of (body_checks b) ≡ 0 → BodyHolds b
body_holds b z =
    let t = is_there (message_of_header (body_of b) b) in
    let s = chain_split (rules_of (body_of b)) (unless t 11 ∷ []) z in
    record { rules = rules_hold (body_of b) s.0; there = holds t 10 (rule_split (unless t 11) [] s.1).0 }
