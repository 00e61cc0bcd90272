-- What the rules of each group of a build say, where none is broken, and that nothing else is refused. Assumes nothing.
use mathlib.Core.Path.{◌≡◌, refl}
use mathlib.Core.Bool.{true, cond}
use Prim.Native.Nat.{ℕ, ◌+◌, ◌*◌, ◌^◌, ◌≤◌, ◌<◌}
use lib.Dec.{leb}
use borrow.Author.Tests.{le-leb, lt-ltb}
use Rattle.blocks.specs.Faults.{first_of}
use Rattle.blocks.specs.Widths.{run_fits}
use Rattle.blocks.specs.Header.{address_width}
use Rattle.blocks.specs.Slots.{fits_header, block_count}
use Rattle.blocks.proofs.FaultLaws.{by_rules, holds, le_holds, lt_holds}
use Rattle.build.specs.Plan.{number_rules, address_rules, element_rules, header_rules, length_rules}

-- ---- 3, 7 and 13: the numbers

pub record NumbersHold (system frame channel place left net type : ℕ) : Type 0 where
  pub lowest : 10 ≤ system
  pub highest : system ≤ 15
  pub first_frame : 1 ≤ frame
  pub last_frame : frame ≤ 18
  pub usage : channel ≤ 3
  pub slot : place ≤ 3
  pub countdown : left ≤ 3
  pub mni : net < 2 ^ 24
  pub message : type ≤ 31

module _ (system frame usage slot countdown mni message : ℕ) where
  pub numbers_hold : first_of (number_rules system frame usage slot countdown mni message) ≡ 0
      → NumbersHold system frame usage slot countdown mni message
  numbers_hold e =
      by_rules (number_rules system frame usage slot countdown mni message) e (λ l h f t u s c n m. record {
        lowest = le_holds 10 system 2 l;
        highest = le_holds system 15 2 h;
        first_frame = le_holds 1 frame 6 f;
        last_frame = le_holds frame 18 6 t;
        usage = le_holds usage 3 12 u;
        slot = le_holds slot 3 12 s;
        countdown = le_holds countdown 3 12 c;
        mni = lt_holds mni (2 ^ 24) 12 n;
        message = le_holds message 31 12 m;
      })

  pub numbers_pass : NumbersHold system frame usage slot countdown mni message
      → first_of (number_rules system frame usage slot countdown mni message) ≡ 0
  numbers_pass k =
      rw (
        le-leb 10 system k.lowest,
        le-leb system 15 k.highest,
        le-leb 1 frame k.first_frame,
        le-leb frame 18 k.last_frame,
        le-leb usage 3 k.usage,
        le-leb slot 3 k.slot,
        le-leb countdown 3 k.countdown,
        lt-ltb mni (2 ^ 24) k.mni,
        le-leb message 31 k.message,
      ) refl

-- ---- 13: an address

pub record AddressHolds (type address : ℕ) : Type 0 where
  pub kind : type ≤ 3
  pub ssi : address < 2 ^ address_width type

module _ (kind ssi : ℕ) where
  pub address_holds : first_of (address_rules kind ssi) ≡ 0 → AddressHolds kind ssi
  address_holds e =
      by_rules (address_rules kind ssi) e
      (λ k s. record { kind = le_holds kind 3 12 k; ssi = lt_holds ssi (2 ^ address_width kind) 12 s })

  pub address_pass : AddressHolds kind ssi → first_of (address_rules kind ssi) ≡ 0
  address_pass k = rw (le-leb kind 3 k.kind, lt-ltb ssi (2 ^ address_width kind) k.ssi) refl

-- ---- 13: the elements, and the bits that are lent

pub record ElementsHold (message width elements n bytes : ℕ) : Type 0 where
  pub run : run_fits message width elements ≡ true
  pub lent : n ≤ 8 * bytes

module _ (message width elements n bytes : ℕ) where
  pub elements_hold : first_of (element_rules message width elements n bytes) ≡ 0
      → ElementsHold message width elements n bytes
  elements_hold e =
      by_rules (element_rules message width elements n bytes) e
      (λ r l. record { run = holds (run_fits message width elements) 12 r; lent = le_holds n (8 * bytes) 12 l })

  pub elements_pass : ElementsHold message width elements n bytes
      → first_of (element_rules message width elements n bytes) ≡ 0
  elements_pass k = rw (k.run, le-leb n (8 * bytes) k.lent) refl

-- ---- 8 and 9: the header

pub record HeaderHolds (destination source entry h n : ℕ) : Type 0 where
  pub to : destination ≤ 2
  pub from : source ≤ 2
  pub listed : entry ≤ 254
  pub fits : cond (fits_header h n) true (leb h 120) ≡ true

module _ (to from entry h n : ℕ) where
  pub header_holds : first_of (header_rules to from entry h n) ≡ 0 → HeaderHolds to from entry h n
  header_holds e =
      by_rules (header_rules to from entry h n) e (λ t f l k. record {
        to = le_holds to 2 7 t;
        from = le_holds from 2 7 f;
        listed = le_holds entry 254 8 l;
        fits = holds (cond (fits_header h n) true (leb h 120)) 8 k;
      })

  pub header_pass : HeaderHolds to from entry h n → first_of (header_rules to from entry h n) ≡ 0
  header_pass k = rw (le-leb to 2 k.to, le-leb from 2 k.from, le-leb entry 254 k.listed, k.fits) refl

-- ---- 14 and 1: the blocks, and the output

pub record LengthHolds (h n lent : ℕ) : Type 0 where
  pub count : block_count h n ≤ 15
  pub room : 24 + 34 * block_count h n ≤ lent

module _ (h n lent : ℕ) where
  pub length_holds : first_of (length_rules h n lent) ≡ 0 → LengthHolds h n lent
  length_holds e =
      let k = block_count h n in
      by_rules (length_rules h n lent) e
      (λ c r. record { count = le_holds k 15 13 c; room = le_holds (24 + 34 * k) lent 0 r })

  pub length_pass : LengthHolds h n lent → first_of (length_rules h n lent) ≡ 0
  length_pass k = rw (le-leb (block_count h n) 15 k.count, le-leb (24 + 34 * block_count h n) lent k.room) refl
