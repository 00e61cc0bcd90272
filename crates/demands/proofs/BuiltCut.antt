-- A build cuts a message at some of the places at which it may be cut. Assumes nothing.
use mathlib.Core.Path.{◌≡◌, refl, sym, ap, ap₂, ◌∙◌}
use mathlib.Core.Bool.{Bool, false}
use mathlib.Core.List.{List, [], ◌++◌, append-nil}
use mathlib.Core.Logic.{⊎_elim}
use Prim.Native.Nat.{ℕ, zero, suc, ◌+◌, ◌-◌, ◌*◌, ◌≤◌, ◌<◌}
use native.Mathlib.Omega.{arith}
use lib.ListN.{length, take, drop, length-take, length-drop, take-append-drop}
use lib.Seq.{take_all, take-add, drop-drop}
use borrow.Author.Tests.{lt-leb}
use Rattle.bits.specs.Bits.{bits_of, AllBytes}
use Rattle.bits.specs.Layout.{pack}
use Rattle.bits.proofs.Bytes.{bits_of_append, bytes_n_bytes, bytes_append, bits_of_inj}
use Rattle.bits.proofs.Runs.{join_assoc}
use Rattle.blocks.specs.Sync.{sync_parts}
use Rattle.blocks.specs.Slots.{fits_header}
use Rattle.build.specs.Build.{header_block, continuation_block, continuation_blocks}
use Rattle.build.proofs.BuildLaws.{take_le}
use Rattle.history.specs.Line.{Line, start, ◌▸◌, count, Every}
use Rattle.history.specs.History.{join}
use Rattle.history.proofs.OpenRun.{join_more}
use Rattle.demands.specs.Demand2.{Call, bits, h, k, InRange, built, laid_out}
use Rattle.demands.specs.Req12.{Cut, header_bytes, block_bytes, frags_bytes, cut_bytes}
use Rattle.demands.proofs.Demand2Holds.{all_lent, built_bits_lem, by_n, demand2}
use Rattle.demands.proofs.CutLaws.{block_bits, bits_s, bits_h, sch_s_lem, sch_h_lem}

-- ---- Blocks of 264 bits, but for the last.

abbrev full_parts : ℕ → List Bool → Line (List Bool)
full_parts zero r = start
full_parts (suc n) r = full_parts n r ▸ take 264 (drop (264 * n) r)

count_parts : (n : ℕ) (r : List Bool) → count (full_parts n r) ≡ n
count_parts zero r = refl
count_parts (suc n) r = ap suc (count_parts n r)

fit_parts : (n : ℕ) (r : List Bool) → Every (λ b. length b ≤ 264) (full_parts n r)
fit_parts zero r = tt
fit_parts (suc n) r = (fit_parts n r, take_le 264 (drop (264 * n) r))

join_parts : (head r : List Bool) (n : ℕ) → join head (full_parts n r) ≡ head ++ take (264 * n) r
join_parts head r zero = refl
join_parts head r (suc n) =
    let b = take 264 (drop (264 * n) r) in
    let e : 264 * n + 264 ≡ 264 * suc n = omega arith in
    join_more head (full_parts n r) b
    ∙ ap (λ (x : List Bool). x ++ b) (join_parts head r n)
    ∙ join_assoc head (take (264 * n) r) b
    ∙ ap (λ (x : List Bool). head ++ x) (sym (take-add (264 * n) 264 r) ∙ ap (λ (j : ℕ). take j r) e)

-- ---- Their bits, from the last block on as from the first.

abbrev frags : ℕ → List Bool → List Bool
frags zero r = []
frags (suc n) r = frags n r ++ continuation_block 0 (take 264 (drop (264 * n) r))

further : (n : ℕ) (r : List Bool) → drop (264 * suc n) r ≡ drop (264 * n) (drop 264 r)
further n r =
    let e : 264 * suc n ≡ 264 + 264 * n = omega arith in ap (λ (j : ℕ). drop j r) e ∙ sym (drop-drop (264 * n) 264 r)

frags_front : (n : ℕ) (r : List Bool)
    → frags (suc n) r ≡ continuation_block 0 (take 264 r) ++ frags n (drop 264 r)
frags_front zero r = sym (append-nil (continuation_block 0 (take 264 r)))
frags_front (suc n) r =
    ap₂ (λ (x y : List Bool). x ++ continuation_block 0 (take 264 y)) (frags_front n r) (further n r)
    ∙ join_assoc (continuation_block 0 (take 264 r)) (frags n (drop 264 r))
    (continuation_block 0 (take 264 (drop (264 * n) (drop 264 r))))

from_last : (n : ℕ) (r : List Bool)
    → continuation_blocks (suc n) r ≡ frags n r ++ continuation_block 1 (take 264 (drop (264 * n) r))
from_last zero r = append-nil (continuation_block 1 (take 264 r))
from_last (suc n) r =
    let b = continuation_block 0 (take 264 r) in
    ap (λ (x : List Bool). b ++ x) (from_last n (drop 264 r))
    ∙ sym
    (join_assoc b (frags n (drop 264 r)) (continuation_block 1 (take 264 (drop (264 * n) (drop 264 r)))))
    ∙ ap₂ (λ (x y : List Bool). x ++ continuation_block 1 (take 264 y)) (sym (frags_front n r)) (sym (further n r))

frags_bits : (n : ℕ) (r : List Bool) → bits_of (frags_bytes (full_parts n r)) ≡ frags n r
unfolding bits_of
frags_bits zero r = refl
frags_bits (suc n) r =
    let b = take 264 (drop (264 * n) r) in
    bits_of_append (frags_bytes (full_parts n r)) (block_bytes 0 b)
    ∙ ap₂ (λ (x y : List Bool). x ++ y) (frags_bits n r)
    (block_bits 0 b (omega arith) (take_le 264 (drop (264 * n) r)))

frags_are_bytes : (bs : Line (List Bool)) → AllBytes (frags_bytes bs)
frags_are_bytes start = tt
frags_are_bytes (bs ▸ b) =
    bytes_append (frags_bytes bs) (block_bytes 0 b) (frags_are_bytes bs) (bytes_n_bytes 34 (continuation_block 0 b))

-- ---- The cut that a build makes.

module _ (c : Call) (r : InRange c) (l : 124 < c.n + h c) (few : k c ≤ 15) where
  abbrev i : ℕ
  i = 120 - h c

  abbrev rest : List Bool
  rest = drop i (bits c)

  -- The blocks but the last.
  abbrev j : ℕ
  j = k c - 1

  number : k c ≡ suc j
  number = let (a, b, o, e) = demand2.fragmented c r l in omega arith

  small : h c ≤ 120
  small = ⊎_elim (λ (a : c.n + h c ≤ 124). absurd (omega arith)) (λ (a : h c + 4 ≤ 124). omega arith) r.header

  left : length (drop (264 * j) rest) ≤ 264
  left =
      let (a, b, o, e) = demand2.fragmented c r l in
      rw (length-drop (264 * j) rest, length-drop i (bits c)) (omega (arith, all_lent c r))

  abbrev cut : Cut c
  cut =
      record {
        head = take i (bits c);
        blocks = full_parts j rest;
        last = drop (264 * j) rest;
        whole =
            join_more (take i (bits c)) (full_parts j rest) (drop (264 * j) rest)
            ∙ ap (λ (x : List Bool). x ++ drop (264 * j) rest) (join_parts (take i (bits c)) rest j)
            ∙ join_assoc (take i (bits c)) (take (264 * j) rest) (drop (264 * j) rest)
            ∙ ap (λ (x : List Bool). take i (bits c) ++ x) (take-append-drop (264 * j) rest)
            ∙ take-append-drop i (bits c);
        room = rw (length-take i (bits c)) (omega (arith, small));
        fit = (fit_parts j rest, left);
        few = omega (arith, number, count_parts j rest);
      }

  -- SCH/S and SCH/H, before so many blocks.
  abbrev front : ℕ → List Bool
  front n = pack (sync_parts c.sync) ++ header_block 1 n c.countdown c.fields (take i (bits c))

  laid : laid_out c ≡ front (k c) ++ continuation_blocks (k c) rest
  laid = let f : fits_header (h c) c.n ≡ false = lt-leb (c.n + h c) 124 l in by_n c r ∙ rw f refl

  cut_bits : bits_of (cut_bytes c cut) ≡ laid_out c
  cut_bits =
      let a = frags_bytes cut.blocks in
      let b = block_bytes 1 cut.last in
      bits_of_append (header_bytes c cut) (a ++ b)
      ∙ ap₂ (λ (x y : List Bool). x ++ y)
      (bits_of_append (sch_s_lem c r cut) (sch_h_lem c r cut)
      ∙ ap₂ (λ (x y : List Bool). x ++ y) (bits_s c r cut) (bits_h c r cut))
      (bits_of_append a b
      ∙ ap₂ (λ (x y : List Bool). x ++ y) (frags_bits j rest) (block_bits 1 cut.last (omega arith) left))
      ∙ ap₂ (λ (n : ℕ) (x : List Bool). front (suc n) ++ (frags j rest ++ continuation_block 1 x)) (count_parts j rest)
      (sym (take_all 264 cut.last left))
      ∙ ap (λ (x : List Bool). front (suc j) ++ x) (sym (from_last j rest))
      ∙ ap (λ (n : ℕ). front n ++ continuation_blocks n rest) (sym number)
      ∙ sym laid

  cut_are_bytes : AllBytes (cut_bytes c cut)
  cut_are_bytes =
      let a = frags_bytes cut.blocks in
      let b = block_bytes 1 cut.last in
      bytes_append (header_bytes c cut) (a ++ b)
      (bytes_append (sch_s_lem c r cut) (sch_h_lem c r cut) (bytes_n_bytes 8 _) (bytes_n_bytes 16 _))
      (bytes_append a b (frags_are_bytes cut.blocks) (bytes_n_bytes 34 (continuation_block 1 cut.last)))

  pub as_built : (x : Cut c) × (built c ≡ cut_bytes c x)
  as_built = (
    cut,
    bits_of_inj (built c) (cut_bytes c cut) (bytes_n_bytes _ _) cut_are_bytes
        (built_bits_lem c r few ∙ sym cut_bits),
  )
