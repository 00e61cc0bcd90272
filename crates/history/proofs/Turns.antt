-- Places in turn. Assumes nothing.
use Prim.Native.Nat.{ℕ, ◌+◌, ◌-◌, ◌*◌, ◌%◌, ◌≤◌}
use native.Mathlib.Omega.{arith}
use mathlib.Core.Path.{◌≡◌, ◌∙◌, ap, subst⁻¹}
use mathlib.Core.Bool.{Bool, true, false, cond}
use lib.Dec.{eqb}
use Rattle.history.specs.Line.{start, ◌▸◌}
use Rattle.history.specs.Slots.{next, tick}
use Rattle.history.specs.History.{History, final, InTurn, frames}
use Rattle.history.specs.declared.Place.{Place}

-- The slot after one of frame y: slot 3 of the same frame after slot 1, else slot 1 of the next.
abbrev pub slot_after : Bool → ℕ → Place
slot_after first y = cond first (record { frame = y; slot = 3 }) (record { frame = y % 18 + 1; slot = 1 })

range_go : (y : ℕ) (b : Bool) → 1 ≤ y → y ≤ 18 → let q = slot_after b y in (1 ≤ q.frame) × (q.frame ≤ 18)
range_go y true l h = (l, h)
range_go y false l h = (omega arith, omega arith)

pub next_range : (p : Place) → 1 ≤ p.frame → p.frame ≤ 18 → (1 ≤ (next p).frame) × ((next p).frame ≤ 18)
next_range p = range_go p.frame (eqb p.slot 1)

-- The frame and the frames gone by go together.
frame_go : (x n y : ℕ) (b : Bool) → 1 ≤ x → y ≡ (x + n - 1) % 18 + 1
    → let q = slot_after b y in q.frame ≡ (x + tick q n - 1) % 18 + 1
frame_go x n y true l e = e
frame_go x n y false l e = omega arith

pub frame_after : (p : Place) (rs : History) → 1 ≤ p.frame → p.frame ≤ 18 → InTurn p rs
    → (final p rs).frame ≡ (p.frame + frames rs - 1) % 18 + 1
frame_after p start l u t = omega arith
frame_after p (rs ▸ r) l u t =
    let q = final p rs in
    subst⁻¹ (λ (z : Place). z.frame ≡ (p.frame + tick z (frames rs) - 1) % 18 + 1) t.1
    (frame_go p.frame (frames rs) q.frame (eqb q.slot 1) l (frame_after p rs l u t.0))

-- ---- Slots, counted: 36 of them, and then again.

abbrev pub nth_slot : Place → ℕ
nth_slot q = 2 * q.frame + cond (eqb q.slot 1) 0 1

-- The next slot has the next number.
next_go : (y : ℕ) (b : Bool) → nth_slot (slot_after b y) % 36 ≡ (2 * y + cond b 0 1 + 1) % 36
next_go y true = omega arith
next_go y false = omega arith

pub next_nth : (q : Place) → nth_slot (next q) % 36 ≡ (nth_slot q + 1) % 36
next_nth q = next_go q.frame (eqb q.slot 1)

-- From slot v on so many slots lie before slot d.
abbrev pub gap : ℕ → ℕ → ℕ
gap v d = (d + 35 * (v + 1)) % 36

pub gap_is : (v d : ℕ) → (v + 1 + gap v d) % 36 ≡ d % 36
gap_is v d = omega arith

-- Remainders.
suc_mod : (y d : ℕ) → 1 ≤ d → (y + 1) % 18 ≡ d → d ≡ y % 18 + 1
suc_mod y d a e = omega arith

double_mod : (y : ℕ) → (2 * y) % 36 ≡ 2 * (y % 18)
double_mod y = omega arith

frame_next : (y d : ℕ) → 1 ≤ d → d ≤ 17 → 1 ≤ y → y ≤ 18 → (2 * y + 1 + 1) % 36 ≡ (2 * d) % 36 → d ≡ y % 18 + 1
frame_next y d a b c e h =
    let w : 2 * (y + 1) ≡ 2 * y + 1 + 1 = omega arith in
    let u : (y + 1) % 18 ≡ d % 18 = omega (arith, double_mod (y + 1), double_mod d, ap (λ (z : ℕ). z % 36) w) in
    let v : d % 18 ≡ d = omega arith in
    suc_mod y d a (u ∙ v)

-- A slot 1 that comes next by its number comes next.
first_go : (y d : ℕ) (b : Bool) → 1 ≤ d → d ≤ 17 → 1 ≤ y → y ≤ 18 → (2 * y + cond b 0 1 + 1) % 36 ≡ (2 * d) % 36
    → record { frame = d; slot = 1 } ≡ slot_after b y
first_go y d true a b c e h = absurd (omega arith)
first_go y d false a b c e h = ap (λ (z : ℕ). record { frame = z; slot = 1 }) (frame_next y d a b c e h)

pub first_next : (q : Place) (d : ℕ) → 1 ≤ d → d ≤ 17 → 1 ≤ q.frame → q.frame ≤ 18
    → (nth_slot q + 1) % 36 ≡ (2 * d) % 36 → record { frame = d; slot = 1 } ≡ next q
first_next q d = first_go q.frame d (eqb q.slot 1)
