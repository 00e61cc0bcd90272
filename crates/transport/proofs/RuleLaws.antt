-- What the rules of each group say, where none is broken. Assumes nothing.
use mathlib.Core.Path.{◌≡◌}
use mathlib.Core.Bool.{Bool, true}
use Prim.Native.Nat.{ℕ, ◌+◌, ◌*◌, ◌≤◌}
use Rattle.blocks.specs.Faults.{first_of}
use Rattle.blocks.proofs.FaultLaws.{by_rules, holds, le_holds, eq_holds}
use Rattle.transport.specs.Building.{kind_rules, flag_rules, fit_rules}
use Rattle.transport.specs.Runs.{end_rules}
use Rattle.transport.specs.Reading.{sdu_rules}

-- ---- building

pub record KindHolds (carrier lowest kind least octet : ℕ) (stored : Bool) : Type 0 where
  pub from : 22 ≤ carrier
  pub up_to : carrier ≤ 24
  pub first : lowest ≤ kind
  pub last : kind ≤ 4
  pub protocol : least ≤ octet
  pub direct : stored ≡ true

pub kind_holds : (carrier lowest kind least protocol : ℕ) (stored : Bool)
    → first_of (kind_rules carrier lowest kind least protocol stored) ≡ 0
    → KindHolds carrier lowest kind least protocol stored
kind_holds carrier lowest kind least protocol stored e =
    by_rules (kind_rules carrier lowest kind least protocol stored) e (λ c d f l p s. record {
      from = le_holds 22 carrier 20 c;
      up_to = le_holds carrier 24 20 d;
      first = le_holds lowest kind 20 f;
      last = le_holds kind 4 20 l;
      protocol = le_holds least protocol 20 p;
      direct = holds stored 20 s;
    })

pub record FlagsHold (flag party kept n most : ℕ) (lent : Bool) : Type 0 where
  pub flagged : flag ≤ 1
  pub addressed : party ≤ 1
  pub storage : kept ≤ 1
  pub few : n ≤ most
  pub there : lent ≡ true

pub flags_hold : (flag addressed storage n most : ℕ) (lent : Bool)
    → first_of (flag_rules flag addressed storage n most lent) ≡ 0
    → FlagsHold flag addressed storage n most lent
flags_hold flag addressed storage n most lent e =
    by_rules (flag_rules flag addressed storage n most lent) e (λ f a s k t. record {
      flagged = le_holds flag 1 12 f;
      addressed = le_holds addressed 1 12 a;
      storage = le_holds storage 1 12 s;
      few = le_holds n most 12 k;
      there = holds lent 12 t;
    })

pub record FitHolds (length most : ℕ) (fit enough : Bool) : Type 0 where
  pub long : length ≤ most
  pub fits : fit ≡ true
  pub room : enough ≡ true

pub fit_holds : (length most : ℕ) (fit enough : Bool) → first_of (fit_rules length most fit enough) ≡ 0
    → FitHolds length most fit enough
fit_holds length most fit enough e =
    by_rules (fit_rules length most fit enough) e
    (λ l f r. record { long = le_holds length most 12 l; fits = holds fit 12 f; room = holds enough 0 r })

-- ---- reading

pub record EndHolds (forward check : Bool) (last end flag n : ℕ) : Type 0 where
  pub direct : forward ≡ true
  pub checked : check ≡ true
  pub fixed : last ≤ end
  pub there : end + 32 * flag ≤ n

pub end_holds : (forward check : Bool) (fixed end flag n : ℕ) → first_of (end_rules forward check fixed end flag n) ≡ 0
    → EndHolds forward check fixed end flag n
end_holds forward check fixed end flag n e =
    by_rules (end_rules forward check fixed end flag n) e (λ d c f t. record {
      direct = holds forward 20 d;
      checked = holds check 20 c;
      fixed = le_holds fixed end 21 f;
      there = le_holds (end + 32 * flag) n 21 t;
    })

pub record SduHolds (carrier ack_type ack address_type party kind : ℕ) (forward check : Bool)
    (fixed end flag n : ℕ) : Type 0 where
  pub from : 22 ≤ carrier
  pub up_to : carrier ≤ 24
  pub acknowledged : ack_type ≡ ack
  pub address : address_type ≡ party
  pub one : 1 ≤ kind
  pub ended : EndHolds forward check fixed end flag n

pub sdu_holds : (carrier ack_type ack address_type party kind : ℕ) (forward check : Bool) (fixed end flag n : ℕ)
    → first_of (sdu_rules carrier ack_type ack address_type party kind forward check fixed end flag n) ≡ 0
    → SduHolds carrier ack_type ack address_type party kind forward check fixed end flag n
sdu_holds carrier ack_type ack address_type party kind forward check fixed end flag n e =
    by_rules (sdu_rules carrier ack_type ack address_type party kind forward check fixed end flag n) e
    (λ c d k a o i j f t. record {
      from = le_holds 22 carrier 20 c;
      up_to = le_holds carrier 24 20 d;
      acknowledged = eq_holds ack_type ack 20 k;
      address = eq_holds address_type party 20 a;
      one = le_holds 1 kind 20 o;
      ended = record {
        direct = holds forward 20 i;
        checked = holds check 20 j;
        fixed = le_holds fixed end 21 f;
        there = le_holds (end + 32 * flag) n 21 t;
      };
    })
