-- What a build's rules show of its numbers, where none is broken. Assumes nothing.
use mathlib.Core.Path.{◌≡◌, refl, ◌∙◌}
use mathlib.Core.Bool.{Bool, true, false, cond}
use mathlib.Core.List.{List, ◌++◌}
use Prim.Native.Nat.{ℕ, ◌+◌, ◌-◌, ◌*◌, ◌/◌, ◌^◌, ◌≤◌, ◌<◌}
use native.Mathlib.Nat.{sub_self}
use native.Mathlib.Omega.{arith}
use lib.Dec.{eqb, ltb, leb}
use borrow.Author.Tests.{le-leb, leb-true, leb-false, ltb-true, eqb-true}
use Rattle.bits.specs.Bits.{bits_n}
use Rattle.bits.specs.Layout.{AllFit}
use Rattle.blocks.specs.Widths.{entry_of, width_of, run_holds, run_fits}
use Rattle.blocks.specs.Sync.{sync_parts}
use Rattle.blocks.specs.Header.{address_width, sdu_at}
use Rattle.blocks.specs.Slots.{fits_header, in_header}
use Rattle.build.specs.Plan.{header_bits, fragmented_for, blocks_for, number_rules, address_rules, element_rules}
use Rattle.build.specs.Plan.{header_rules}
use Rattle.build.specs.Plan.{length_rules, build_fault}
use Rattle.build.specs.Build.{shape_for, header_parts, HeaderFits}
use Rattle.blocks.specs.declared.sync.Sync.{Sync}
use Rattle.blocks.specs.declared.header.Fields.{Fields}
use Rattle.blocks.proofs.FaultLaws.{chain_none, chain_split}
use Rattle.blocks.proofs.WidthLaws.{width_listed}
use Rattle.build.proofs.RuleLaws.{NumbersHold, numbers_hold, numbers_pass, AddressHolds, address_holds}
use Rattle.build.proofs.RuleLaws.{address_pass}
use Rattle.build.proofs.RuleLaws.{ElementsHold, elements_hold, elements_pass, HeaderHolds, header_holds}
use Rattle.build.proofs.RuleLaws.{header_pass}
use Rattle.build.proofs.RuleLaws.{LengthHolds, length_holds, length_pass}

-- what all of them say
pub record InRange (y : Sync) (countdown : ℕ) (g : Fields) (n bytes lent : ℕ) : Type 0 where
  pub numbers : NumbersHold y.system y.frame y.usage y.slot countdown g.mni g.message
  pub destination : AddressHolds g.destination.kind g.destination.ssi
  pub source : AddressHolds g.source.kind g.source.ssi
  pub elements : ElementsHold g.message g.width g.elements n bytes
  pub header : HeaderHolds g.destination.kind g.source.kind (entry_of g.message).width (header_bits g) n
  pub blocks : LengthHolds (header_bits g) n lent

module _ (y : Sync) (countdown : ℕ) (g : Fields) (n bytes lent : ℕ) where
  abbrev numbers : List ℕ
  numbers = number_rules y.system y.frame y.usage y.slot countdown g.mni g.message

  abbrev to : List ℕ
  to = address_rules g.destination.kind g.destination.ssi

  abbrev from : List ℕ
  from = address_rules g.source.kind g.source.ssi

  abbrev elements : List ℕ
  elements = element_rules g.message g.width g.elements n bytes

  abbrev header : List ℕ
  header = header_rules g.destination.kind g.source.kind (entry_of g.message).width (header_bits g) n

  abbrev blocks : List ℕ
  blocks = length_rules (header_bits g) n lent

  pub in_range : build_fault y countdown g n bytes lent ≡ 0 → InRange y countdown g n bytes lent
  unfolding build_fault
  in_range e =
      let (a, e) = chain_split numbers (to ++ (from ++ (elements ++ (header ++ blocks)))) e in
      let (b, e) = chain_split to (from ++ (elements ++ (header ++ blocks))) e in
      let (c, e) = chain_split from (elements ++ (header ++ blocks)) e in
      let (d, e) = chain_split elements (header ++ blocks) e in
      let (h, l) = chain_split header blocks e in
      record {
        numbers = numbers_hold _ _ _ _ _ _ _ a;
        destination = address_holds _ _ b;
        source = address_holds _ _ c;
        elements = elements_hold _ _ _ _ _ d;
        header = header_holds _ _ _ _ _ h;
        blocks = length_holds _ _ _ l;
      }

  -- and the other way round: nothing else is refused
  pub no_fault : InRange y countdown g n bytes lent → build_fault y countdown g n bytes lent ≡ 0
  unfolding build_fault
  no_fault k =
      chain_none numbers (to ++ (from ++ (elements ++ (header ++ blocks)))) (numbers_pass _ _ _ _ _ _ _ k.numbers)
      ∙ chain_none to (from ++ (elements ++ (header ++ blocks))) (address_pass _ _ k.destination)
      ∙ chain_none from (elements ++ (header ++ blocks)) (address_pass _ _ k.source)
      ∙ chain_none elements (header ++ blocks) (elements_pass _ _ _ _ _ k.elements)
      ∙ chain_none header blocks (header_pass _ _ _ _ _ k.header)
      ∙ length_pass _ _ _ k.blocks

-- ---- the run of elements

run_when : (s : Bool) (a b : Bool) → run_holds true a b ≡ true → (a ≡ true) × (b ≡ true)
run_when s true b e = (refl, e)
run_when s false b e = let z : ◌≡◌ {A = ℕ} 0 1 = cc in absurd (omega arith)

-- ---- numbers in range fit their elements, of SCH/S and of SCH/H

pub sync_parts_fit : (y : Sync) → y.system ≤ 15 → y.frame ≤ 18 → y.usage ≤ 3 → y.slot ≤ 3 → AllFit (sync_parts y)
sync_parts_fit y a b c d = omega arith

pub parts_fit : (f count countdown : ℕ) (g : Fields) → f ≤ 1 → count < 2 ^ (4 * f) → countdown ≤ 3
    → g.destination.kind ≤ 2 → g.destination.ssi < 2 ^ address_width g.destination.kind → g.source.kind ≤ 2
    → g.source.ssi < 2 ^ address_width g.source.kind → g.mni < 2 ^ 24 → g.message ≤ 31
    → g.elements < 2 ^ g.width → AllFit (header_parts 0 f count countdown g)
parts_fit f count countdown g flag counted falls to to_ssi from from_ssi mni message elements = (
  omega arith,
  (
    omega arith,
    (
      omega arith,
      (
        counted,
        (
          omega arith,
          (omega arith, (to_ssi, (omega arith, (from_ssi, (mni, (omega arith, (elements, tt))))))),
        ),
      ),
    ),
  ),
)

module _ {y : Sync} {countdown : ℕ} {g : Fields} {n bytes lent : ℕ} (k : InRange y countdown g n bytes lent) where
  run_holds_lem : (ltb g.elements (2 ^ g.width) ≡ true)
      × (eqb (width_of (entry_of g.message) (bits_n g.width g.elements)) g.width ≡ true)
  unfolding run_fits
  run_holds_lem =
      run_when true _ _ (rw (le-leb (entry_of g.message).width 254 k.header.listed) at k.elements.run)

  pub elements_fit : g.elements < 2 ^ g.width
  elements_fit = ltb-true g.elements (2 ^ g.width) run_holds_lem.0

  -- the stated width is the table's
  pub width_is : width_of (entry_of g.message) (bits_n g.width g.elements) ≡ g.width
  width_is = eqb-true (width_of (entry_of g.message) (bits_n g.width g.elements)) g.width run_holds_lem.1

  pub width_narrow : g.width ≤ 45
  width_narrow = rw width_is at (width_listed g.message (bits_n g.width g.elements) k.header.listed)

  pub sync_fits : AllFit (sync_parts y)
  sync_fits =
      sync_parts_fit y k.numbers.highest k.numbers.last_frame k.numbers.usage k.numbers.slot

  -- ---- the header, fragmented or not

  header_when : (t : Bool) → fits_header (header_bits g) n ≡ t → cond t true (leb (header_bits g) 120) ≡ true
      → (sdu_at (shape_for (cond t 0 1) g) + cond t n (120 - header_bits g) ≤ 124)
      × (blocks_for g n < 2 ^ (4 * cond t 0 1))
      × (cond t 0 1 ≤ 1) × (cond t n (120 - header_bits g) ≤ n)
  header_when true f e =
      let l = leb-true (n + header_bits g) 124 f in
      let b : blocks_for g n ≡ 0 = rw (f, sub_self n) refl in
      (omega arith, rw b (omega arith), omega arith, omega arith)
  header_when false f e =
      let l = leb-false (n + header_bits g) 124 f in
      let h = leb-true (header_bits g) 120 e in
      let c = k.blocks.count in
      (omega arith, omega arith, omega arith, omega arith)

  pub header_fits : HeaderFits (fragmented_for g n) (blocks_for g n) countdown g (in_header (header_bits g) n)
  header_fits =
      let w = header_when (fits_header (header_bits g) n) refl k.header.fits in
      record {
        flag = w.2;
        parts =
            parts_fit (fragmented_for g n) (blocks_for g n) countdown g w.2 w.1 k.numbers.countdown
            k.header.to k.destination.ssi k.header.from k.source.ssi k.numbers.mni
            k.numbers.message elements_fit;
        narrow = width_narrow;
        room = w.0;
      }

  pub inside_le : in_header (header_bits g) n ≤ n
  inside_le = (header_when (fits_header (header_bits g) n) refl k.header.fits).3

  -- a message that is built has at most so many bits
  n_when : (t : Bool) → fits_header (header_bits g) n ≡ t → cond t true (leb (header_bits g) 120) ≡ true → n ≤ 4080
  n_when true f e = let l = leb-true (n + header_bits g) 124 f in omega arith
  n_when false f e =
      let h = leb-true (header_bits g) 120 e in
      let c : (n - (120 - header_bits g) + 263) / 264 ≤ 15 = rw f at k.blocks.count in
      omega arith

  pub n_small : n ≤ 4080
  n_small = n_when (fits_header (header_bits g) n) refl k.header.fits
