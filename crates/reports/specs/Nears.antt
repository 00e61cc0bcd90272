-- Earlier headers in their places, as the code holds and changes them.
use Rattle.std.specs.Prelude.{
  ◌≡◌,
  Bool,
  cond,
  List,
  [],
  ◌∷◌,
  ◌++◌,
  ℕ,
  ◌+◌,
  ◌-◌,
  length,
  take,
  drop,
  set,
  get_or,
  replicate,
}
use Rattle.std.proofs.lemmas.List.Edits.{sets}
use Rattle.store.specs.declared.Raw.{Raw}
use Rattle.history.specs.Step.{no_near, copied, judge, near_of, fallen}
use Rattle.history.specs.declared.Near.{Near}
use Rattle.history.specs.declared.Nears.{Nears}
use Rattle.history.specs.declared.Open.{Open}
use Rattle.history.specs.declared.Place.{Place}
use Rattle.history.specs.declared.Verdict.{Verdict}
use Rattle.reports.specs.declared.read.Brought.{Brought}

-- Each takes three numbers.
abbrev pub flat : List Near → List ℕ
flat [] = []
flat (n ∷ ns) = n.raw.high ∷ n.raw.low ∷ n.countdown ∷ flat ns

-- A list of at most seven in seven places: what is not there is zero.
abbrev pub places_of : List Near → List Near
places_of ns = ns ++ replicate (7 - length ns) no_near

abbrev pub nears_of : List Near → Nears
nears_of ns = record { count = length ns; places = flat (places_of ns) }

-- ---- What the code does, where its numbers are those of the places ps: the first n of them are there.

-- A place, read and written.
abbrev pub Placed : List ℕ → ℕ → Near → Type 0
Placed places i r = (ps : List Near) → places ≡ flat ps → r ≡ get_or ps i no_near

abbrev pub Put : List ℕ → ℕ → Near → List ℕ → Type 0
Put old i n new = (ps : List Near) → old ≡ flat ps → new ≡ flat (set ps i n)

-- Whether a header is a copy of one of them.
abbrev pub Copied : List ℕ → ℕ → Raw → ℕ → Bool → Type 0
Copied places n raw f r = (ps : List Near) → places ≡ flat ps → r ≡ copied (take n ps) raw f

-- The verdict on a report in slot q, over them and over what is left of the open run.
abbrev pub Judged : Brought → Open → List ℕ → ℕ → Place → Bool → Verdict → Type 0
Judged x a places n q lost r =
    (ps : List Near) → places ≡ flat ps → r ≡ judge x.what a (take n ps) q x.meant x.raw x.countdown lost

-- A frame on, where one is over: those that are left stand first, and what has gone out is zero.
abbrev pub fallen_when : Bool → List Near → List Near
fallen_when over ns = cond over (fallen ns) ns

abbrev pub fallen_in : Bool → ℕ → List Near → List Near
fallen_in over n ps = let ns = fallen_when over (take n ps) in ns ++ (replicate (n - length ns) no_near ++ drop n ps)

abbrev pub Fallen : Bool → List ℕ → ℕ → ℕ → List ℕ → Type 0
Fallen over old n r new =
    (ps : List Near) → old ≡ flat ps
    → (r ≡ length (fallen_when over (take n ps))) × (new ≡ flat (fallen_in over n ps))

-- The header that is one more, if there is one, as it is in the slot next in turn; it comes after them.
abbrev pub newest : Bool → Bool → Brought → List Near
newest near over x = cond near (fallen_when over (near_of x.raw x.countdown ∷ [])) []

abbrev pub Kept : Bool → Bool → Brought → List ℕ → ℕ → ℕ → List ℕ → Type 0
Kept near over x old n r new =
    (ps : List Near) → old ≡ flat ps
    → (r ≡ n + length (newest near over x)) × (new ≡ flat (sets ps n (newest near over x)))
