-- The same elements as the code takes them: cut out of three runs of bits. Only the contracts of functions inside cite
-- this; that these are the elements of the layout is what the proofs show.
use Rattle.std.specs.Prelude.{Bool, cond, List, [], ◌∷◌, ℕ, ◌+◌, ◌-◌, ◌*◌, ◌/◌, ◌%◌, ◌^◌, min, eqb, leb, ltb, length}
use Rattle.bits.specs.Bits.{field}
use Rattle.blocks.specs.Faults.{unless}
use Rattle.transport.specs.Layouts.{forward_width}
use Rattle.transport.specs.Elements.{kind_in_data, kind_in_status}
use Rattle.transport.specs.declared.elements.Front.{Front}
use Rattle.transport.specs.declared.elements.Fixed.{Fixed}
use Rattle.transport.specs.declared.elements.Stored.{Stored}

-- The w bits of x that `after` bits follow.
unfoldable pub cut : ℕ → ℕ → ℕ → ℕ
cut after w x = x / 2 ^ after % 2 ^ w

-- The w bits from bit `place` on as one number; one that is not there is 0.
unfoldable pub run_in : ℕ → ℕ → List Bool → ℕ
run_in place w b = let m = min (length b - place) w in field place m b * 2 ^ (w - m)

-- What stands before the short data type identifier, which begins at `next`: of x, the first 53 bits.
unfoldable pub front_of : ℕ → ℕ → Front
front_of ack x =
    cond (eqb ack 1) (record { acknowledged = cut 49 4 x; addressed = 0; kind = 0; mni = 0; ssi = 0; next = 4 })
    (cond (eqb (cut 52 1 x) 0) (record { acknowledged = 0; addressed = 0; kind = 0; mni = 0; ssi = 0; next = 1 })
    (record { acknowledged = 0; addressed = 1; kind = cut 48 4 x; mni = cut 24 24 x; ssi = cut 0 24 x; next = 53 }))

-- The kind of message: of x, the 47 bits from the short data type identifier on, which begins at `place`.
unfoldable pub kind_at : ℕ → ℕ → ℕ → ℕ → ℕ
kind_at n place x ack =
    cond (eqb (cut 43 4 x) 3) (kind_in_data n (place + 27) (cut 32 11 x) (cut 24 8 x) (cut 20 4 x) ack)
    (cond (eqb (cut 43 4 x) 4) (cond (ltb n (place + 10)) 0 (kind_in_status (cut 37 6 x)))
    0)

-- The elements that a message of this kind always has, of the same.
unfoldable pub fixed_at : ℕ → ℕ → ℕ → Fixed
fixed_at place kind x =
    let length = cut 32 11 x in
    let protocol = cut 24 8 x in
    let storage = cut 16 1 x in
    let higher = cut 8 8 x in
    let lower = cut 0 8 x in
    cond (eqb kind 1) (record {
      length = length;
      from = place + 15;
      protocol = protocol;
      request = cut 18 2 x;
      short = cut 17 1 x;
      required = 0;
      storage = storage;
      status = 0;
      reference = higher;
      next = place + 39;
    })
    (cond (eqb kind 2) (record {
      length = length;
      from = place + 15;
      protocol = protocol;
      request = 0;
      short = 0;
      required = cut 19 1 x;
      storage = storage;
      status = higher;
      reference = lower;
      next = place + 47;
    })
    (cond (eqb kind 3) (record {
      length = length;
      from = place + 15;
      protocol = protocol;
      request = 0;
      short = 0;
      required = 0;
      storage = 0;
      status = higher;
      reference = lower;
      next = place + 47;
    })
    (record {
      length = 0;
      from = place + 4;
      protocol = 0;
      request = 0;
      short = 0;
      required = 0;
      storage = 0;
      status = cut 35 2 x;
      reference = cut 27 8 x;
      next = place + 20;
    })))

-- The elements that hang on storage: of x, the 56 bits from bit `place` on.
abbrev pub stored_in : ℕ → ℕ → ℕ → Stored
stored_in place forward x =
    let w = forward_width forward in
    record {
      validity = cut 51 5 x;
      forward = forward;
      address = cut (48 - w) w x;
      typed = place + 8;
      next = place + 8 + w;
    }

unfoldable pub stored_at : ℕ → ℕ → List Bool → Stored
stored_at place storage b =
    cond (eqb storage 0) (record { validity = 0; forward = 0; address = 0; typed = place; next = place })
    (stored_in place (cut 48 3 (run_in place 56 b)) (run_in place 56 b))

-- The rules of `sdu_rules` on what stands before the short data type identifier, and those after the kind.
abbrev pub front_rules : ℕ → ℕ → ℕ → ℕ → ℕ → List ℕ
front_rules carrier acknowledged ack address addressed =
    unless (leb 22 carrier) 21 ∷
    unless (leb carrier 24) 21 ∷
    unless (eqb acknowledged ack) 21 ∷
    unless (eqb address addressed) 21 ∷
    []

abbrev pub end_rules : Bool → Bool → ℕ → ℕ → ℕ → ℕ → List ℕ
end_rules forward check fixed end flag n =
    unless forward 21 ∷
    unless check 21 ∷
    unless (leb fixed end) 22 ∷
    unless (leb (end + 32 * flag) n) 22 ∷
    []
