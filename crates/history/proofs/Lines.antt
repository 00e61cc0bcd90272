-- Lists that grow at the end. Assumes nothing.
use Prim.Native.Nat.{◌+◌}
use native.Mathlib.Omega.{arith}
use mathlib.Core.Path.{◌≡◌, refl, sym, ap, ap₂}
use Rattle.history.specs.Line.{Line, start, ◌▸◌, ◌⧺◌, count, each, Every}

pub ⧺-assoc : {A : Type 0} (xs ys zs : Line A) → xs ⧺ (ys ⧺ zs) ≡ (xs ⧺ ys) ⧺ zs
⧺-assoc xs ys start = refl
⧺-assoc {A} xs ys (zs ▸ z) = ap (λ (l : Line A). l ▸ z) (⧺-assoc xs ys zs)

pub start-⧺ : {A : Type 0} (xs : Line A) → start ⧺ xs ≡ xs
start-⧺ start = refl
start-⧺ {A} (xs ▸ x) = ap (λ (l : Line A). l ▸ x) (start-⧺ xs)

pub count-⧺ : {A : Type 0} (xs ys : Line A) → count (xs ⧺ ys) ≡ count xs + count ys
count-⧺ xs start = omega arith
count-⧺ xs (ys ▸ y) = omega (arith, count-⧺ xs ys)

-- A line with a member is not the empty one; and it has one last member.
pub never : {A : Type 0} (xs : Line A) (x : A) → xs ▸ x ≡ start → ⊥
never xs x e = let z = ap count e in omega arith

pub both : {A : Type 0} {xs ys : Line A} {x y : A} → xs ▸ x ≡ ys ▸ y → (xs ≡ ys) × (x ≡ y)
both e = (cc, cc)

-- The same line at the end of two.
pub ⧺-cancel : {A : Type 0} (xs ys zs : Line A) → xs ⧺ zs ≡ ys ⧺ zs → xs ≡ ys
⧺-cancel xs ys start e = e
⧺-cancel xs ys (zs ▸ z) e = ⧺-cancel xs ys zs (both e).0

pub never_in : {A : Type 0} (before since : Line A) (x : A) → start ≡ (before ▸ x) ⧺ since → ⊥
never_in before start x e = never before x (sym e)
never_in before (since ▸ y) x e = never ((before ▸ x) ⧺ since) y (sym e)

-- What every member of two lines has, every member of each has.
pub every_parts : {A : Type 0} (P : A → Type 0) (xs ys : Line A) → Every P (xs ⧺ ys) → Every P xs × Every P ys
every_parts P xs start e = (e, tt)
every_parts P xs (ys ▸ y) e = let (a, b) = every_parts P xs ys e.0 in (a, (b, e.1))

-- A line that is made member by member and parted at a member was made of one that is parted so.
pub record Parted {A B : Type 0} (f : A → B) (xs : Line A) (before : Line B) (y : B) (since : Line B) : Type 0 where
  pub first : Line A
  pub member : A
  pub later : Line A
  pub split : xs ≡ (first ▸ member) ⧺ later
  pub first_is : before ≡ each f first
  pub member_is : y ≡ f member
  pub later_is : since ≡ each f later

pub made_of : {A B : Type 0} (f : A → B) (xs : Line A) (before since : Line B) (y : B)
    → each f xs ≡ (before ▸ y) ⧺ since → Parted f xs before y since
made_of f start before since y e = absurd (never_in before since y e)
made_of f (xs ▸ x) before start y e =
    record {
      first = xs;
      member = x;
      later = start;
      split = refl;
      first_is = sym (both e).0;
      member_is = sym (both e).1;
      later_is = refl;
    }
made_of {A} {B} f (xs ▸ x) before (since ▸ z) y e =
    let p = made_of f xs before since y (both e).0 in
    record {
      first = p.first;
      member = p.member;
      later = p.later ▸ x;
      split = ap (λ (l : Line A). l ▸ x) p.split;
      first_is = p.first_is;
      member_is = p.member_is;
      later_is = ap₂ (λ (l : Line B) (w : B). l ▸ w) p.later_is (sym (both e).1);
    }

-- Two made lines side by side are made of two side by side.
pub each-⧺ : {A B : Type 0} (f : A → B) (xs ys : Line A) → each f (xs ⧺ ys) ≡ each f xs ⧺ each f ys
each-⧺ f xs start = refl
each-⧺ {A} {B} f xs (ys ▸ y) = ap (λ (l : Line B). l ▸ f y) (each-⧺ f xs ys)
