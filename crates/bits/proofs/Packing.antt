-- The laws of a layout: packing, reading back, and the loop that puts the parts. Assumes nothing.
use mathlib.Core.Path.{◌≡◌, refl, sym, ap, ap₂, ◌∙◌}
use mathlib.Core.Bool.{Bool}
use mathlib.Core.List.{List, [], ◌∷◌, ◌++◌, append_assoc, append-nil}
use Prim.Native.Nat.{ℕ, zero, suc, ◌+◌, ◌*◌, ◌%◌, ◌^◌, ◌≤◌, ◌<◌}
use native.Mathlib.Omega.{arith}
use lib.Arith.{digits_lt}
use lib.Bits.{bit_or, or_shifted}
use lib.Pow.{high, pow-add, shl_exact}
use lib.ListN.{get_or, length, take, drop, length-append, length-take, length-drop}
use lib.Seq.{take_at, drop_at, drop-drop, take-add, take-take}
use Rattle.bits.specs.Bits.{num, bits_n, bits_of, over, field, Inside}
use Rattle.bits.specs.Layout.{Part, part, pack, total, widths, parts_with, parts_in, AllFit, AllNarrow}
use Rattle.bits.proofs.Numbers.{length_bits_n, num_bits_n, bits_n_is, bits_n_add, bits_n_high, num_take_lt}
use Rattle.bits.proofs.Numbers.{drop_of_take}
use Rattle.bits.proofs.Bytes.{length_bits_of}
use Rattle.bits.proofs.Over.{over_over}

pub length_pack : (ps : List Part) → length (pack ps) ≡ total ps
length_pack [] = refl
length_pack (p ∷ ps) =
    length-append (bits_n p.width p.value) (pack ps)
    ∙ ap₂ (λ (x y : ℕ). x + y) (length_bits_n p.width p.value) (length_pack ps)

pub pack_append : (a b : List Part) → pack (a ++ b) ≡ pack a ++ pack b
pack_append [] b = refl
pack_append (p ∷ ps) b = rw (pack_append ps b, append_assoc (bits_n p.width p.value) (pack ps) (pack b)) refl

-- each part fits
pub fit_at : (k : ℕ) (ps : List Part) → AllFit ps → let p = get_or ps k (part 0 0) in p.value < 2 ^ p.width
fit_at k [] f = omega arith
fit_at zero (p ∷ ps) f = f.0
fit_at (suc k) (p ∷ ps) f = fit_at k ps f.1

-- ---- pack, then read

-- a string that holds the bits of the parts reads as the parts
pub read_pack : (at : ℕ) (ps : List Part) (b : List Bool) → AllFit ps → take (total ps) (drop at b) ≡ pack ps
    → parts_in at (widths ps) b ≡ ps
read_pack at [] b f e = refl
read_pack at (p ∷ ps) b f e =
    let w = p.width in
    let n = bits_n w p.value in
    let ln : length n ≡ w = length_bits_n w p.value in
    let first : take w (drop at b) ≡ n =
    sym (take-take w (w + total ps) (drop at b) (omega arith)) ∙ ap (take w) e ∙ take_at n (pack ps) w ln in
    let rest : take (total ps) (drop (at + w) b) ≡ pack ps =
    ap (take (total ps)) (sym (drop-drop w at b)) ∙ sym (drop_of_take w (total ps) (drop at b)) ∙ ap (drop w) e
    ∙ drop_at n (pack ps) w ln in
    ap₂ ◌∷◌ (ap (part w) (ap num first ∙ num_bits_n w p.value f.0)) (read_pack (at + w) ps b f.1 rest)

-- ---- read, then pack

-- what was read fits
pub fit_read : (at : ℕ) (ws : List ℕ) (b : List Bool) → AllFit (parts_in at ws b)
fit_read at [] b = tt
fit_read at (w ∷ ws) b = (num_take_lt w (drop at b), fit_read (at + w) ws b)

-- the parts that were read, packed, are the bits that they were read from
pub pack_read : (at : ℕ) (ws : List ℕ) (b : List Bool) → at + total (parts_in at ws b) ≤ length b
    → pack (parts_in at ws b) ≡ take (total (parts_in at ws b)) (drop at b)
pack_read at [] b h = refl
pack_read at (w ∷ ws) b h =
    let t = total (parts_in (at + w) ws b) in
    let l : length (take w (drop at b)) ≡ w = rw (length-take w (drop at b), length-drop at b) (omega arith) in
    ap₂ (λ (x y : List Bool). x ++ y) (bits_n_is w (field at w b) (take w (drop at b)) l refl)
    (pack_read (at + w) ws b (omega arith) ∙ ap (take t) (sym (drop-drop w at b)))
    ∙ sym (take-add w t (drop at b))

-- ---- the loop that puts the parts

-- what is still to be put, from bit `to` on, so that the whole comes out as `goal`: the n bits of acc, which wait, and
-- the parts after them
pub record ToPut (ws vs : List ℕ) (goal : List Bool) (out : List ℕ) (to n acc : ℕ) : Type 0 where
  pub paired : length ws ≡ length vs
  pub narrow : AllNarrow ws
  pub fit : AllFit (parts_with ws vs)
  pub short : n ≤ 56
  pub held : acc < 2 ^ n
  pub room : Inside (length out) to (to + (n + total (parts_with ws vs)))
  pub bits : over to (bits_n n acc ++ pack (parts_with ws vs)) (bits_of out) ≡ goal

-- the bits that wait are put
put_waiting : (ps : List Part) (out out' : List ℕ) (to n acc : ℕ) → to + (n + total ps) ≤ 8 * length out
    → bits_of out' ≡ over to (bits_n n acc) (bits_of out)
    → over (to + n) (pack ps) (bits_of out') ≡ over to (bits_n n acc ++ pack ps) (bits_of out)
put_waiting ps out out' to n acc h b =
    let l : length (bits_n n acc) ≡ n = length_bits_n n acc in
    rw b
    (ap (λ (k : ℕ). over (to + k) (pack ps) (over to (bits_n n acc) (bits_of out))) (sym l)
    ∙ over_over to (bits_n n acc) (pack ps) (bits_of out) (omega (arith, length_pack ps, length_bits_of out)))

module _ {w v : ℕ} {ws vs out : List ℕ} {goal : List Bool} {to n acc : ℕ}
    (s : ToPut (w ∷ ws) (v ∷ vs) goal out to n acc) where
  -- a part that fits waits with them
  pub join_next : n + w ≤ 56 → ToPut ws vs goal out to (n + w) (bit_or (acc * 2 ^ w % 2 ^ 64) v)
  join_next h =
      let lt = s.fit.0 in
      let code : bit_or (acc * 2 ^ w % 2 ^ 64) v ≡ acc * 2 ^ w + v =
      rw (shl_exact {a = acc} n w 64 s.held (omega arith), or_shifted acc w v lt) refl in
      let two : bits_n (n + w) (acc * 2 ^ w + v) ≡ bits_n n acc ++ bits_n w v =
      rw (bits_n_add n w (acc * 2 ^ w + v), high acc w lt, bits_n_high w acc v) refl in
      record {
        paired = omega arith;
        narrow = s.narrow.1;
        fit = s.fit.1;
        short = h;
        held = rw (code, pow-add 2 n w) (digits_lt s.held lt);
        room = omega arith;
        bits = rw (code, two, append_assoc (bits_n n acc) (bits_n w v) (pack (parts_with ws vs))) s.bits;
      }

  -- one that does not waits after they are put
  pub wait_next : (out' : List ℕ) → length out' ≡ length out → bits_of out' ≡ over to (bits_n n acc) (bits_of out)
      → ToPut ws vs goal out' (to + n) w v
  wait_next out' l b =
      record {
        paired = omega arith;
        narrow = s.narrow.1;
        fit = s.fit.1;
        short = s.narrow.0;
        held = s.fit.0;
        room = omega arith;
        bits = put_waiting (part w v ∷ parts_with ws vs) out out' to n acc (omega arith) b ∙ s.bits;
      }

pub none_put : (ws vs : List ℕ) (out : List ℕ) (at : ℕ) → length ws ≡ length vs → AllNarrow ws
    → AllFit (parts_with ws vs)
    → Inside (length out) at (at + total (parts_with ws vs))
    → ToPut ws vs (over at (pack (parts_with ws vs)) (bits_of out)) out at 0 0
unfolding bits_n
none_put ws vs out at p n f r =
    record { paired = p; narrow = n; fit = f; short = omega arith; held = omega arith; room = omega arith; bits = refl }

pub all_put : (ws vs : List ℕ) {goal : List Bool} {out : List ℕ} {to n acc : ℕ} → length ws ≡ 0
    → ToPut ws vs goal out to n acc
    → over to (bits_n n acc) (bits_of out) ≡ goal
all_put [] vs {goal} {out} {to} {n} {acc} e s =
    ap (λ (x : List Bool). over to x (bits_of out)) (sym (append-nil (bits_n n acc))) ∙ s.bits
all_put (w ∷ ws) vs e s = absurd (omega arith)
