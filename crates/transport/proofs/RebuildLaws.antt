-- A DM-SDU that reads well is its answer, bit for bit; and with reserved bits zero and nothing after it, it builds
-- again to the same bits. Assumes nothing.
use mathlib.Core.Path.{◌≡◌, refl, sym, ap, ap₂, subst, ◌∙◌}
use mathlib.Core.Bool.{Bool, true, false, cond}
use mathlib.Core.List.{List, [], ◌∷◌, ◌++◌, append_assoc, append-nil}
use Prim.Native.Nat.{ℕ, ◌+◌, ◌-◌, ◌*◌, ◌^◌, ◌≤◌, ◌<◌}
use native.Mathlib.Nat.{add-zero}
use native.Mathlib.Omega.{arith}
use lib.Dec.{eqb}
use lib.ListN.{length, take, drop, set, get_or, length-append, length-take, length-drop}
use lib.Seq.{take_at, take-add, take_all, length-take-le}
use borrow.Author.Tests.{eqb-true, eqb-false}
use Rattle.bits.specs.Bits.{bits_of, num}
use Rattle.bits.specs.Layout.{Part, part, pack, total, parts_with, parts_in, AllFit}
use Rattle.bits.proofs.Numbers.{num_take_lt, fits_in}
use Rattle.bits.proofs.Bytes.{length_bits_of}
use Rattle.bits.proofs.Packing.{length_pack, read_pack, pack_read, fit_read, fit_at}
use Rattle.store.specs.Store.{handed}
use Rattle.fcs.specs.Annex.{fcs_of}
use Rattle.transport.specs.Layouts.{ack_of, per, Shape, shape, layout, at}
use Rattle.transport.specs.Elements.{shape_of}
use Rattle.transport.specs.Reading.{flag_of, sdu_bits, read_of}
use Rattle.transport.specs.Building.{shape_for, length_for, values_for, parts_for, frame_bits, checked, built_bits}
use Rattle.transport.specs.Building.{bits_for, most_for, sdu_of, out_of}
use Rattle.transport.specs.Well.{stands, end_at, ReadsWell, transport_at, user_in, after_at}
use Rattle.transport.specs.Well.{Accounts, Exact, Buildable}
use Rattle.transport.specs.declared.Message.{Message}
use Rattle.transport.specs.declared.Transport.{Transport}
use Rattle.transport.proofs.BuildLaws.{length_checked}
use Rattle.transport.proofs.WellLaws.{by_kind, fixed_inside, kind_least, form_is}
use Rattle.transport.proofs.WellLaws.{read_lent, reads_well, well_reads}
use Rattle.transport.proofs.RangeLaws.{flag_le, none_in, parts_fit, storage_small, length_wide}
use Rattle.transport.proofs.RangeLaws.{built_range, range_built, range_out}

-- ---- every bit

-- the elements are the bits before where they end
front_bits : (q : Shape) (b : List Bool) → at 20 q ≤ length b → pack (parts_in 0 (layout q) b) ≡ take (at 20 q) b
front_bits q b h =
    let t : total (parts_in 0 (layout q) b) ≡ at 20 q = omega arith in
    pack_read 0 (layout q) b (omega arith) ∙ ap (λ (x : ℕ). take x b) t

module _ (q : Shape) (b : List Bool) (l : 1 ≤ q.kind) (h : q.kind ≤ 4) where
  -- the same with another kind
  abbrev of : ℕ → Shape
  of k = shape q.ack q.addressed k q.storage q.forward

  -- what follows them is the user data, or what an SDS-ACK has after them
  behind : at 20 q ≤ end_at q b
      → take (end_at q b - at 20 q) (drop (at 20 q) b) ≡ user_in (transport_at q b) b ++ after_at q b
  behind =
      by_kind
      (λ (k : ℕ). let p = of k in at 20 p ≤ end_at p b
      → take (end_at p b - at 20 p) (drop (at 20 p) b) ≡ user_in (transport_at p b) b ++ after_at p b)
      (λ e. sym (append-nil _)) (λ e. sym (append-nil _)) (λ e. refl)
      (λ e. let z : end_at (of 4) b - at 20 (of 4) ≡ 0 = omega arith in ap (λ (x : ℕ). take x (drop (at 20
      (of 4)) b)) z)
      q.kind l h

  -- the length indicator is the length of both with the elements before them
  indicated : at 20 q ≤ end_at q b → end_at q b ≤ length b
      → stands 6 q b ≡ length_for q ((transport_at q b).bits + length (after_at q b))
  unfolding num
  indicated =
      by_kind
      (λ (k : ℕ). let p = of k in at 20 p ≤ end_at p b → end_at p b ≤ length b
      → stands 6 p b ≡ length_for p ((transport_at p b).bits + length (after_at p b)))
      (λ e i. omega arith) (λ e i. omega arith)
      (λ e i.
      let p = of 3 in
      let n = end_at p b - at 20 p in
      let z : length (take n (drop (at 20 p) b)) ≡ n =
      rw (length-take n (drop (at 20 p) b), length-drop (at 20 p) b) (omega arith) in
      omega arith)
      (λ e i. refl) q.kind l h

  user_inside : at 20 q ≤ end_at q b → (transport_at q b).first + (transport_at q b).bits ≤ end_at q b
  user_inside =
      by_kind
      (λ (k : ℕ). let p = of k in at 20 p ≤ end_at p b
      → (transport_at p b).first + (transport_at p b).bits ≤ end_at p b)
      (λ e. omega arith) (λ e. omega arith) (λ e. omega arith) (λ e. omega arith) q.kind l h

  -- where an SDS-ACK has nothing after its elements, the data end with the user data
  ends_with : at 20 q ≤ end_at q b → (q.kind ≡ 3 → end_at q b ≡ at 20 q)
      → at 20 q + (transport_at q b).bits ≡ end_at q b
  ends_with =
      by_kind
      (λ (k : ℕ). let p = of k in at 20 p ≤ end_at p b → (k ≡ 3 → end_at p b ≡ at 20 p)
      → at 20 p + (transport_at p b).bits ≡ end_at p b)
      (λ e i. omega arith) (λ e i. omega arith) (λ e i. let z = i refl in omega arith) (λ e i. omega arith)
      q.kind l h

-- all of it
module _ {carrier flag : ℕ} {b : List Bool} (w : ReadsWell carrier flag b) where
  abbrev q : Shape
  q = w.form

  abbrev r : Transport
  r = transport_at q b

  data_there : end_at q b ≤ length b
  data_there = let z = w.there in omega arith

  user_length : length (user_in r b) ≡ r.bits
  user_length =
      let z = user_inside q b (kind_least w) w.most w.fixed in
      let y = data_there in
      rw (length-take r.bits (drop r.first b), length-drop r.first b) (omega arith)

  length_stands : stands 6 q b ≡ length_for q (r.bits + length (after_at q b))
  length_stands = indicated q b (kind_least w) w.most w.fixed data_there

  pub well_accounts : Accounts flag q b r
  well_accounts =
      let n = end_at q b - at 20 q in
      let m = r.message in
      let split : end_at q b ≡ at 20 q + n = let z = w.fixed in omega arith in
      record {
        answer = refl;
        parts =
            λ i. parts_with (layout q)
            (w.acknowledged i ∷
            w.addressed i ∷
            w.address i ∷
            m.mni ∷
            m.ssi ∷
            w.sdti i ∷
            length_stands i ∷
            m.protocol ∷
            w.type i ∷
            m.request ∷
            m.short ∷
            m.required ∷
            stands 12 q b ∷
            w.storage i ∷
            w.beginning i ∷
            m.status ∷
            m.reference ∷
            m.validity ∷
            w.forward i ∷
            m.address ∷
            []);
        bits =
            ap (λ (x : ℕ). take x b) split
            ∙ take-add (at 20 q) n b
            ∙ ap₂ (λ (x y : List Bool). x ++ y) (sym (front_bits q b (fixed_inside w)))
            (behind q b (kind_least w) w.most w.fixed);
        user = user_length;
        there = w.there;
        check = w.check;
      }

-- ---- built again

-- an SDS-ACK has nothing after its elements
no_after : (q : Shape) (b : List Bool) → (q.kind ≡ 3 → end_at q b ≡ at 20 q) → after_at q b ≡ []
no_after q b h = when (eqb q.kind 3) refl
  where
    when : (t : Bool) → eqb q.kind 3 ≡ t → cond t (take (end_at q b - at 20 q) (drop (at 20 q) b)) [] ≡ []
    when true e =
        let z : end_at q b - at 20 q ≡ 0 = let y = h (eqb-true q.kind 3 e) in omega arith in
        ap (λ (x : ℕ). take x (drop (at 20 q) b)) z
    when false e = refl

module _ {carrier flag : ℕ} {b : List Bool} (w : ReadsWell carrier flag b) (f : flag ≤ 1)
    (x : Exact flag w.form b) where
  abbrev p : Shape
  p = w.form

  abbrev t : Transport
  t = transport_at p b

  abbrev m : Message
  m = t.message

  abbrev user : List Bool
  user = user_in t b

  abbrev end : ℕ
  end = end_at p b

  none_after : after_at p b ≡ []
  none_after = no_after p b x.after

  bits_alone : t.bits + length (after_at p b) ≡ t.bits
  bits_alone = ap (λ (y : List Bool). t.bits + length y) none_after ∙ add-zero t.bits

  parts_again : parts_in 0 (layout p) b ≡ parts_for p.ack m t.bits
  parts_again =
      (well_accounts w).parts
      ∙ ap₂ (λ (n v : ℕ). parts_with (layout p) (set (values_for p.ack m (length_for p n)) 12 v)) bits_alone
      x.reserved

  frame_again : frame_bits p.ack m user ≡ take end b
  unfolding frame_bits
  frame_again =
      ap (λ (n : ℕ). pack (parts_for p.ack m n) ++ user) (user_length w)
      ∙ ap₂ (λ (y : List Part) (z : List Bool). pack y ++ z) (sym parts_again)
      (sym (append-nil user) ∙ ap (λ (y : List Bool). user ++ y) (sym none_after))
      ∙ sym (well_accounts w).bits

  all_there : take (end + 32 * flag) b ≡ b
  all_there = let e = x.ends in take_all (end + 32 * flag) b (omega arith)

  checked_again : checked flag (take end b) ≡ b
  checked_again = when (eqb flag 1) refl
    where
      when : (c : Bool) → eqb flag 1 ≡ c → cond c (take end b ++ fcs_of (take end b)) (take end b) ≡ b
      when true e =
          let g = eqb-true flag 1 e in
          let s : end + 32 ≡ end + 32 * flag = omega arith in
          ap (λ (y : List Bool). take end b ++ y) (sym (w.check g))
          ∙ sym (take-add end 32 b)
          ∙ ap (λ (y : ℕ). take y b) s
          ∙ all_there
      when false e =
          let g = eqb-false flag 1 e in
          let s : end ≡ end + 32 * flag = omega arith in
          ap (λ (y : ℕ). take y b) s ∙ all_there

  pub built_again : built_bits carrier flag m user ≡ b
  unfolding built_bits
  built_again =
      ap (λ (a : ℕ). checked flag (frame_bits a m user)) (sym w.carried)
      ∙ ap (checked flag) frame_again
      ∙ checked_again

  -- as many bits
  bits_again : bits_for carrier flag m t.bits ≡ length b
  bits_again =
      let e = ends_with p b (kind_least w) w.most w.fixed x.after in
      ap (λ (a : ℕ). at 20 (shape_for a m) + t.bits + 32 * flag) (sym w.carried) ∙ omega (arith, x.ends)

  length_again : length_for p t.bits ≡ stands 6 p b
  length_again = ap (length_for p) (sym bits_alone) ∙ sym (length_stands w)

  short_enough : stands 6 p b ≤ most_for p.ack flag
  short_enough = when (eqb p.ack 1) refl
    where
      when : (c : Bool) → eqb p.ack 1 ≡ c → stands 6 p b ≤ cond c (269 - 32 * flag) 2047
      when true e = x.short (eqb-true p.ack 1 e)
      when false e =
          let s = num_take_lt (per p.kind 11 11 11 0) (drop (at 6 p) b) in
          let z : stands 6 p b < 2 ^ 11 = fits_in 11 s (length_wide p.kind (kind_least w) w.most) in
          omega arith

  pub buildable_again : {bytes lent : ℕ} → t.bits ≤ 8 * bytes → length b ≤ 8 * lent
      → Buildable carrier flag m t.bits bytes lent
  buildable_again hu ho =
      let k = p.kind in
      let a = w.carried in
      let read = parts_in 0 (layout p) b in
      let g = fit_read 0 (layout p) b in
      let d : p.addressed < 2 ^ (1 - p.ack) = rw w.addressed at (fit_at 1 read g) in
      let s : p.storage < 2 ^ per k 1 1 0 0 = rw w.storage at (fit_at 13 read g) in
      record {
        lowest = w.lowest;
        highest = w.highest;
        least = rw (← a) w.least;
        most = w.most;
        protocol = w.protocol;
        stored = λ h. w.stored;
        flagged = f;
        addressed = rw (← a) (flag_le (1 - p.ack) p.addressed (omega arith) d);
        storage = flag_le (per k 1 1 0 0) p.storage (storage_small k (kind_least w) w.most) s;
        mni = fit_at 3 read g;
        ssi = fit_at 4 read g;
        octet = fit_at 7 read g;
        request = fit_at 9 read g;
        short = fit_at 10 read g;
        required = fit_at 11 read g;
        status = fit_at 15 read g;
        reference = fit_at 16 read g;
        validity = fit_at 17 read g;
        forward = rw w.forward at (fit_at 18 read g);
        address = fit_at 19 read g;
        none = none_in k (kind_least w) w.most (end - at 20 p);
        user = hu;
        long = rw (← a) (rw length_again short_enough);
        room = rw bits_again ho;
      }

  pub well_rebuilt : (lent out : List ℕ) {n : ℕ} → length b ≡ n → t.bits ≤ 8 * length lent
      → take t.bits (bits_of lent) ≡ user → n ≤ 8 * length out
      → (sdu_of carrier flag m t.bits (length lent) (length out) ≡ record { fault = 0; bits = n })
      × (out_of carrier flag m t.bits lent out ≡ handed b out)
  well_rebuilt lent out l hu e ho =
      let g = buildable_again {bytes = length lent} {lent = length out} hu (omega arith) in (
        range_built g ∙ ap (λ (y : ℕ). record { fault = 0; bits = y }) (bits_again ∙ l),
        range_out lent out g
            ∙ ap (λ (y : List Bool). handed y out) (ap (built_bits carrier flag m) e ∙ built_again),
      )

-- ---- and nothing else builds again

-- the elements are the first bits of what is built
built_front : (flag : ℕ) (ps : List Part) (u : List Bool) → take (total ps) (checked flag (pack ps ++ u)) ≡ pack ps
built_front flag ps u = when (eqb flag 1)
  where
    when : (c : Bool) → take (total ps) (cond c ((pack ps ++ u) ++ fcs_of (pack ps ++ u)) (pack ps ++ u)) ≡ pack ps
    when true =
        rw (append_assoc (pack ps) u (fcs_of (pack ps ++ u)))
        (take_at (pack ps) (u ++ fcs_of (pack ps ++ u)) (total ps) (length_pack ps))
    when false = take_at (pack ps) u (total ps) (length_pack ps)

module _ {carrier flag : ℕ} {b : List Bool} (w : ReadsWell carrier flag b) where
  abbrev P : Shape
  P = w.form

  abbrev T : Transport
  T = transport_at P b

  abbrev M : Message
  M = T.message

  abbrev U : List Bool
  U = user_in T b

  module _ {bytes lent : ℕ} (g : Buildable carrier flag M T.bits bytes lent) (e : built_bits carrier flag M U ≡ b)
    where
      abbrev ps : List Part
      ps = parts_for P.ack M T.bits

      built_is : checked flag (pack ps ++ U) ≡ b
      unfolding built_bits frame_bits
      built_is =
          ap (λ (n : ℕ). checked flag (pack (parts_for P.ack M n) ++ U)) (sym (user_length w))
          ∙ ap (λ (a : ℕ). checked flag (frame_bits a M U)) w.carried
          ∙ e

      parts_back : parts_in 0 (layout P) b ≡ ps
      parts_back =
          let f = subst (λ (a : ℕ). AllFit (parts_for a M T.bits)) (sym w.carried) (parts_fit g) in
          read_pack 0 ps b f (ap (take (total ps)) (sym built_is) ∙ built_front flag ps U)

      length_front : length (pack ps) ≡ at 20 P
      length_front = length_pack ps ∙ omega arith

      length_back : length b ≡ at 20 P + T.bits + 32 * flag
      length_back =
          ap length (sym built_is)
          ∙ length_checked flag (pack ps ++ U) g.flagged
          ∙ omega (arith, length-append (pack ps) U, length_front, user_length w)

      end_is : end_at P b ≡ at 20 P + (T.bits + length (after_at P b))
      end_is =
          let y = data_there w in
          sym (length-take-le (end_at P b) b y)
          ∙ ap length ((well_accounts w).bits ∙ ap (λ (x : List Part). pack x ++ (U ++ after_at P b)) parts_back)
          ∙ length-append (pack ps) (U ++ after_at P b)
          ∙ omega (arith, length-append U (after_at P b), length_front, user_length w)

      pub only_exact : Exact flag P b
      only_exact =
          let l = length_back in
          let n = end_is in
          let y = w.there in
          record {
            reserved = ap (λ (x : List Part). (get_or x 12 (part 0 0)).value) parts_back;
            ends = omega arith;
            after = λ k.
                let z = none_in P.kind (kind_least w) w.most (end_at P b - at 20 P) (omega arith) in
                omega arith;
            short = λ a.
                let z : length (after_at P b) ≡ 0 = omega arith in
                let s : stands 6 P b ≡ length_for P T.bits =
                length_stands w ∙ ap (λ (x : ℕ). length_for P (T.bits + x)) z ∙ ap (length_for P) (add-zero T.bits) in
                let h : length_for P T.bits ≤ most_for P.ack flag =
                subst (λ (c : ℕ). length_for (shape_for c M) T.bits ≤ most_for c flag) (sym w.carried) g.long in
                subst (λ (c : ℕ). stands 6 P b ≤ most_for c flag) a (rw s h);
          }

-- ---- what was read

module _ (carrier elements n : ℕ) (sdu : List ℕ) (good : (read_of carrier elements n sdu).fault ≡ 0) where
  abbrev flag : ℕ
  flag = flag_of elements

  abbrev B : List Bool
  B = sdu_bits n sdu

  abbrev Q : Shape
  Q = shape_of (ack_of carrier) B

  abbrev R : Transport
  R = read_of carrier elements n sdu

  lent : n ≤ 8 * length sdu
  lent = read_lent carrier elements n sdu good

  well : ReadsWell carrier flag B
  well = reads_well carrier elements n sdu good

  read_is : R ≡ transport_at well.form B
  read_is = well_reads carrier elements n sdu lent well

  pub length_read : length B ≡ n
  length_read = let h = lent in rw (length-take n (bits_of sdu)) (omega (arith, length_bits_of sdu))

  -- the answer accounts for every bit
  pub accounts : Accounts flag Q B R
  accounts =
      subst (λ (q : Shape). Accounts flag q B R) (sym (form_is well))
      (subst (λ (r : Transport). Accounts flag well.form B r) (sym read_is) (well_accounts well))

  -- with reserved bits zero and nothing after it, it builds again to the same bits
  module _ (x : Exact flag Q B) where
    exact : Exact flag well.form B
    exact = subst (λ (q : Shape). Exact flag q B) (form_is well) x

    small : flag ≤ 1
    small = omega arith

    pub rebuilt : (user out : List ℕ) → R.bits ≤ 8 * length user → take R.bits (bits_of user) ≡ user_in R B
        → n ≤ 8 * length out
        → (sdu_of carrier flag R.message R.bits (length user) (length out) ≡ record { fault = 0; bits = n })
        × (out_of carrier flag R.message R.bits user out ≡ handed B out)
    rebuilt user out = rw read_is (well_rebuilt well small exact user out length_read)

  -- and nothing else does
  pub rebuilt_only : (bytes room : ℕ) → (sdu_of carrier flag R.message R.bits bytes room).fault ≡ 0
      → built_bits carrier flag R.message (user_in R B) ≡ B → Exact flag Q B
  rebuilt_only bytes room f e =
      let g =
      subst (λ (r : Transport). Buildable carrier flag r.message r.bits bytes room) read_is
      (built_range carrier flag R.message R.bits bytes room f) in
      let h = subst (λ (r : Transport). built_bits carrier flag r.message (user_in r B) ≡ B) read_is e in
      subst (λ (q : Shape). Exact flag q B) (sym (form_is well)) (only_exact well g h)
