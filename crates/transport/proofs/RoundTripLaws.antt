-- What was built reads back: it reads well, since each element stands where it was put. Assumes nothing.
use mathlib.Core.Path.{◌≡◌, refl, sym, ap, ap₂, ◌∙◌}
use mathlib.Core.Bool.{Bool, true, false, cond}
use mathlib.Core.List.{List, ◌++◌}
use Prim.Native.Nat.{ℕ, ◌+◌, ◌-◌, ◌*◌, ◌%◌, ◌^◌, ◌≤◌, ◌<◌}
use native.Mathlib.Omega.{arith}
use lib.Dec.{eqb}
use lib.ListN.{length, take, drop, get_or, length-append}
use lib.Seq.{take_at, drop_at, take-length}
use borrow.Author.Tests.{le-leb, eq-eqb}
use Rattle.bits.specs.Bits.{bits_of}
use Rattle.bits.specs.Layout.{Part, part, pack, total, parts_in}
use Rattle.bits.proofs.Numbers.{take_of_drop}
use Rattle.bits.proofs.Packing.{length_pack, read_pack}
use Rattle.store.specs.Store.{handed}
use Rattle.store.proofs.Messages.{length_handed, handed_bits}
use Rattle.fcs.specs.Annex.{fcs_of}
use Rattle.fcs.proofs.Annex.{length_fcs}
use Rattle.transport.specs.Layouts.{ack_of, per, forward_width, Shape, layout, at, end_of}
use Rattle.transport.specs.Reading.{direct, read_bits, read_of}
use Rattle.transport.specs.Building.{shape_for, message_bits, parts_for, frame_bits, checked}
use Rattle.transport.specs.Building.{built_bits, bits_for, sdu_of, out_of}
use Rattle.transport.specs.Well.{end_at, ReadsWell, transport_at, Buildable}
use Rattle.transport.specs.declared.Message.{Message}
use Rattle.transport.specs.declared.Transport.{Transport}
use Rattle.transport.proofs.ElementLaws.{length_sdu}
use Rattle.transport.proofs.ReadLaws.{lent_read}
use Rattle.transport.proofs.BuildLaws.{length_checked, message_end}
use Rattle.transport.proofs.MessageLaws.{total_parts}
use Rattle.transport.proofs.WellLaws.{by_kind, well_stands}
use Rattle.transport.proofs.RangeLaws.{parts_fit, storage_small, two_of, built_range, range_built, range_out}

abbrev value_at : ℕ → List Part → ℕ
value_at k ps = (get_or ps k (part 0 0)).value

-- what a build's reading gives back
abbrev pub back_of : ℕ → Message → ℕ → Transport
back_of carrier m n =
    let f = at 20 (shape_for (ack_of carrier) m) in
    record { fault = 0; message = m; first = per m.kind f f 0 0; bits = per m.kind n n 0 0 }

module _ {carrier flag n bytes lent : ℕ} {m : Message} (k : Buildable carrier flag m n bytes lent) (user : List Bool)
    (lu : length user ≡ n) where
  abbrev ack : ℕ
  ack = ack_of carrier

  abbrev q : Shape
  q = shape_for ack m

  abbrev ps : List Part
  ps = parts_for ack m n

  abbrev frame : List Bool
  frame = pack ps ++ user

  abbrev b : List Bool
  b = checked flag frame

  built_is : built_bits carrier flag m user ≡ b
  unfolding built_bits frame_bits
  built_is = rw lu refl

  least : 1 ≤ m.kind
  least = let l = k.least in omega arith

  length_elements : length (pack ps) ≡ at 20 q
  length_elements = length_pack ps ∙ total_parts ack m n

  length_frame : length frame ≡ at 20 q + n
  length_frame = length-append (pack ps) user ∙ omega (arith, length_elements)

  length_built : length b ≡ at 20 q + n + 32 * flag
  length_built = length_checked flag frame k.flagged ∙ omega (arith, length_frame)

  -- the frame stands first
  frame_first : take (at 20 q + n) b ≡ frame
  frame_first = when (eqb flag 1)
    where
      when : (t : Bool) → take (at 20 q + n) (cond t (frame ++ fcs_of frame) frame) ≡ frame
      when true = take_at frame (fcs_of frame) (at 20 q + n) length_frame
      when false = rw (← length_frame) (take-length frame)

  elements_first : take (total ps) (drop 0 b) ≡ pack ps
  elements_first =
      let t = total_parts ack m n in
      sym (take_of_drop (total ps) 0 (at 20 q + n) b (omega arith))
      ∙ ap (take (total ps)) frame_first
      ∙ take_at (pack ps) user (total ps) (length_pack ps)

  -- each element is as it was put
  as_put : (j : ℕ) → value_at j (parts_in 0 (layout q) b) ≡ value_at j ps
  as_put j = ap (value_at j) (read_pack 0 ps b (parts_fit k) elements_first)

  -- ---- where the data end

  -- an ack and a short report have no forward address
  no_forward : m.storage ≡ 0 → forward_width m.forward ≡ 0
  no_forward s =
      let f : m.forward < 1 = rw (ap (λ (x : ℕ). 2 ^ (3 * x)) s) at k.forward in
      let z : m.forward ≡ 0 = omega arith in
      ap forward_width z

  -- the length indicator ends user defined data 4 where the user data end, and a status has no other bits
  ends_with : (l : ℕ) → l ≡ message_bits m.kind m.storage m.forward + n
      → let x = per m.kind l l l 0 in per m.kind x x x 16 ≡ l
  ends_with l =
      by_kind
      (λ (j : ℕ). m.storage ≤ per j 1 1 0 0 → (3 ≤ j → n ≡ 0) → l ≡ message_bits j m.storage m.forward + n
      → let x = per j l l l 0 in per j x x x 16 ≡ l)
      (λ s z e. refl)
      (λ s z e. refl)
      (λ s z e. refl)
      (λ s z e. let none = z (omega arith) in let w = no_forward (omega arith) in omega arith)
      m.kind least k.most k.storage k.none

  end_at_lem : end_at q b ≡ at 20 q + n
  end_at_lem =
      let e = message_end q least k.most in
      let l = at 20 q - at 7 q + n in
      ap (end_of q) (as_put 6) ∙ ap (λ (x : ℕ). at 7 q + x) (ends_with l (omega arith)) ∙ omega arith

  -- ---- it reads well

  stored : m.storage ≡ 1 → direct m.forward ≡ true
  stored s =
      let w = storage_small m.kind least k.most in
      let l = k.storage in
      k.stored (two_of m.kind least k.most 1 (omega arith)).0 s

  check : flag ≡ 1 → take 32 (drop (at 20 q + n) b) ≡ fcs_of (take (at 20 q + n) b)
  check f =
      let whole : b ≡ frame ++ fcs_of frame = rw (eq-eqb flag 1 f) refl in
      ap (λ (x : List Bool). take 32 (drop (at 20 q + n) x)) whole
      ∙ ap (take 32) (drop_at frame (fcs_of frame) (at 20 q + n) length_frame)
      ∙ rw (← length_fcs frame) (take-length (fcs_of frame))
      ∙ ap fcs_of (sym frame_first)

  well : ReadsWell carrier flag b
  well =
      let l = length_built in
      record {
        lowest = k.lowest;
        highest = k.highest;
        form = q;
        carried = refl;
        addressed = as_put 1;
        storage = as_put 13;
        forward = as_put 18;
        acknowledged = as_put 0;
        address = as_put 2;
        least = k.least;
        most = k.most;
        sdti = as_put 5;
        protocol = λ h. rw (as_put 7) (k.protocol h);
        type = as_put 8;
        beginning = as_put 14;
        stored = stored;
        fixed = rw end_at_lem (omega arith);
        there = rw end_at_lem (omega arith);
        check = λ f. rw end_at_lem (check f);
      }

  -- ---- the answer

  found_back : transport_at q b ≡ back_of carrier m n
  found_back =
      let rest : end_at q b - at 20 q ≡ n = ap (λ (x : ℕ). x - at 20 q) end_at_lem ∙ omega arith in
      λ i. record {
        fault = 0;
        message = record {
          kind = m.kind;
          addressed = m.addressed;
          mni = as_put 3 i;
          ssi = as_put 4 i;
          protocol = as_put 7 i;
          request = as_put 9 i;
          short = as_put 10 i;
          required = as_put 11 i;
          storage = m.storage;
          status = as_put 15 i;
          reference = as_put 16 i;
          validity = as_put 17 i;
          forward = m.forward;
          address = as_put 19 i;
        };
        first = per m.kind (at 20 q) (at 20 q) 0 0;
        bits = per m.kind (rest i) (rest i) 0 0;
      }

  pub reads : read_bits carrier flag (built_bits carrier flag m user) ≡ back_of carrier m n
  unfolding well
  reads = ap (read_bits carrier flag) built_is ∙ well_stands well ∙ found_back

  -- the user data stand after the elements
  pub user_back : take n (drop (at 20 q) (built_bits carrier flag m user)) ≡ user
  user_back =
      ap (λ (x : List Bool). take n (drop (at 20 q) x)) built_is
      ∙ sym (take_of_drop n (at 20 q) (at 20 q + n) b (omega arith))
      ∙ ap (λ (x : List Bool). take n (drop (at 20 q) x)) frame_first
      ∙ ap (take n) (drop_at (pack ps) user (at 20 q) length_elements)
      ∙ rw (← lu) (take-length user)

  pub length_bits : length (built_bits carrier flag m user) ≡ bits_for carrier flag m n
  length_bits = ap length built_is ∙ length_built

-- ---- of the calls

module _ (carrier flag : ℕ) (m : Message) (n : ℕ) (user out : List ℕ)
    (taken : (sdu_of carrier flag m n (length user) (length out)).fault ≡ 0) where
  pub build_shows : Buildable carrier flag m n (length user) (length out)
  build_shows = built_range carrier flag m n (length user) (length out) taken

  abbrev lent : List Bool
  lent = take n (bits_of user)

  lent_length : length lent ≡ n
  lent_length = length_sdu n user build_shows.user

  abbrev sdu : List Bool
  sdu = built_bits carrier flag m lent

  -- a build that is not refused answers its number of bits, and its output begins with them
  pub sdu_answer : sdu_of carrier flag m n (length user) (length out) ≡ record { fault = 0; bits = length sdu }
  sdu_answer =
      range_built build_shows
      ∙ ap (λ (x : ℕ). record { fault = 0; bits = x }) (sym (length_bits build_shows lent lent_length))

  pub sdu_output : out_of carrier flag m n user out ≡ handed sdu out
  sdu_output = range_out user out build_shows

  pub sdu_out : take (sdu_of carrier flag m n (length user) (length out)).bits
      (bits_of (out_of carrier flag m n user out))
      ≡ sdu
  sdu_out = rw (sdu_answer, sdu_output) (handed_bits sdu out)

  pub sdu_fits : length sdu ≤ 8 * length out
  sdu_fits = rw (length_bits build_shows lent lent_length) build_shows.room

  pub built_reads : read_bits carrier flag sdu ≡ back_of carrier m n
  built_reads = reads build_shows lent lent_length

  -- what was built, read with elements whose last bit is the flag, is the message, every element, with its user data's
  -- place and number
  pub reads_back : (elements : ℕ) → elements % 2 ≡ flag
      → read_of carrier elements (sdu_of carrier flag m n (length user) (length out)).bits
      (out_of carrier flag m n user out)
      ≡ back_of carrier m n
  reads_back elements e =
      let room : length sdu ≤ 8 * length (handed sdu out) = rw (length_handed sdu out sdu_fits) sdu_fits in
      let fits = le-leb (length sdu) (8 * length (handed sdu out)) room in
      rw (sdu_answer, sdu_output)
      (sym (lent_read carrier elements (length sdu) (handed sdu out) fits)
      ∙ ap₂ (λ (f : ℕ) (x : List Bool). read_bits carrier f x) e (handed_bits sdu out)
      ∙ built_reads)

  -- and there the user data stand
  pub user_there : take n (drop (at 20 (shape_for (ack_of carrier) m)) sdu) ≡ lent
  user_there = user_back build_shows lent lent_length

-- two builds of different messages or user data differ
pub different : {carrier flag n₁ n₂ bytes₁ bytes₂ lent₁ lent₂ : ℕ} {m₁ m₂ : Message}
    (k₁ : Buildable carrier flag m₁ n₁ bytes₁ lent₁) (k₂ : Buildable carrier flag m₂ n₂ bytes₂ lent₂)
    (u₁ u₂ : List Bool) → length u₁ ≡ n₁ → length u₂ ≡ n₂
    → built_bits carrier flag m₁ u₁ ≡ built_bits carrier flag m₂ u₂ → (m₁ ≡ m₂) × (u₁ ≡ u₂)
different {carrier} {flag} {n₁} {n₂} {m₁ = m₁} {m₂ = m₂} k₁ k₂ u₁ u₂ l₁ l₂ e =
    let back : back_of carrier m₁ n₁ ≡ back_of carrier m₂ n₂ =
    sym (reads k₁ u₁ l₁) ∙ ap (read_bits carrier flag) e ∙ reads k₂ u₂ l₂ in
    let same : m₁ ≡ m₂ = ap (λ (r : Transport). r.message) back in
    let first : at 20 (shape_for (ack_of carrier) m₁) ≡ at 20 (shape_for (ack_of carrier) m₂) =
    ap (λ (m : Message). at 20 (shape_for (ack_of carrier) m)) same in
    let bits : bits_for carrier flag m₁ n₁ ≡ bits_for carrier flag m₂ n₂ =
    sym (length_bits k₁ u₁ l₁) ∙ ap length e ∙ length_bits k₂ u₂ l₂ in
    let number : n₁ ≡ n₂ = omega arith in (
      same,
      sym (user_back k₁ u₁ l₁) ∙ ap₂ (λ (n p : ℕ). take n (drop p (built_bits carrier flag m₁ u₁))) number first
          ∙ ap (λ (x : List Bool). take n₂ (drop (at 20 (shape_for (ack_of carrier) m₂)) x)) e ∙ user_back k₂ u₂ l₂,
    )
