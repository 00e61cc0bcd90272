-- The laws of reading a DM-SDU. Assumes nothing.
use mathlib.Core.Path.{◌≡◌, refl, sym, ap, ◌∙◌}
use mathlib.Core.Bool.{Bool, true, false, cond}
use mathlib.Core.List.{List, [], ◌∷◌, ◌++◌}
use Prim.Native.Nat.{ℕ, zero, suc, ◌+◌, ◌-◌, ◌*◌, ◌%◌, ◌≤◌, ◌<◌}
use native.Mathlib.Omega.{arith}
use lib.Dec.{eqb, leb, ltb}
use lib.ListN.{length, take}
use lib.Seq.{take-take}
use borrow.Author.Tests.{lt-ltb, le-ltb, le-leb, lt-leb, eq-eqb, leb-true, ltb-true, ltb-false}
use Rattle.bits.specs.Bits.{bits_of, num, field}
use Rattle.bits.proofs.Numbers.{take_of_drop}
use Rattle.std.proofs.Common.{rules}
use Rattle.blocks.specs.Faults.{unless, first_of, number_of}
use Rattle.blocks.specs.declared.fault.Fault.{Fault}
use Rattle.blocks.proofs.FaultLaws.{chain_none, chain_given}
use Rattle.transport.proofs.RuleLaws.{end_holds}
use Rattle.fcs.specs.Annex.{fcs_of}
use Rattle.transport.specs.Layouts.{ack_of, per, Shape, shape, at}
use Rattle.transport.specs.Elements.{element_in, addressed_in, kind_in, storage_in, forward_in, end_in}
use Rattle.transport.specs.Runs.{run_in, front_of, kind_at, fixed_at, stored_at, front_rules, end_rules}
use Rattle.transport.specs.Reading.{direct, forward_holds, fcs_holds, sdu_rules, rules_of, transport_of}
use Rattle.transport.specs.Reading.{refused_transport, answered, read_bits, read_of, sdu_bits}
use Rattle.transport.specs.declared.elements.Front.{Front}
use Rattle.transport.specs.declared.elements.Fixed.{Fixed}
use Rattle.transport.specs.declared.elements.Stored.{Stored}
use Rattle.transport.specs.declared.Transport.{Transport}
use Rattle.transport.proofs.ElementLaws.{length_sdu, per_le}
use Rattle.transport.proofs.RunLaws.{sdti_at, exact, flagged, front_next, front_is, kind_is, Told, told}
use Rattle.transport.proofs.RunLaws.{Agreed, fixed_is, storage_le, StoredAs, stored_is}

-- ---- the FCS

module _ (end n : ℕ) (s : List ℕ) (h : n ≤ 8 * length s) where
  abbrev b : List Bool
  b = take n (bits_of s)

  pub fcs_not_there : (flag : ℕ) → flag ≡ 1 → n < end + 32 → true ≡ fcs_holds flag end b
  fcs_not_there flag f l = rw (eq-eqb flag 1 f, lt-ltb (length b) (end + 32) (rw (length_sdu n s h) l)) refl

  pub fcs_there : (flag : ℕ) → flag ≡ 1 → end + 32 ≤ n → {x y : ℕ} → x ≡ field end 32 (bits_of s)
      → y ≡ num (fcs_of (take end (bits_of s)))
      → eqb x y ≡ fcs_holds flag end b
  fcs_there flag f l ex ey =
      rw (
        eq-eqb flag 1 f,
        le-ltb (length b) (end + 32) (rw (length_sdu n s h) l),
        take_of_drop 32 end n (bits_of s) l,
        take-take end n (bits_of s) (omega arith),
        ex,
        ey,
      ) refl

-- ---- the rules

-- a chain goes on in the same way
chain_same : (ns a b : List ℕ) → first_of a ≡ first_of b → first_of (ns ++ a) ≡ first_of (ns ++ b)
chain_same [] a b e = e
chain_same (zero ∷ ns) a b e = chain_same ns a b e
chain_same (suc n ∷ ns) a b e = refl

chain_zero : (ns a : List ℕ) → first_of (ns ++ a) ≡ 0 → first_of a ≡ 0
chain_zero [] a e = e
chain_zero (zero ∷ ns) a e = chain_zero ns a e
chain_zero (suc n ∷ ns) a e = absurd (omega arith)

fifth : (t₁ t₂ t₃ t₄ : Bool) (n : ℕ) (ns : List ℕ)
    → first_of (unless t₁ (suc n) ∷ unless t₂ (suc n) ∷ unless t₃ (suc n) ∷ unless t₄ (suc n) ∷ suc n ∷ ns) ≡ suc n
fifth false t₂ t₃ t₄ n ns = refl
fifth true false t₃ t₄ n ns = refl
fifth true true false t₄ n ns = refl
fifth true true true false n ns = refl
fifth true true true true n ns = refl

-- where no kind is told
no_kind : (carrier acknowledged ack address addressed : ℕ) (forward check : Bool) (fixed end flag n : ℕ)
    → first_of (sdu_rules carrier acknowledged ack address addressed 0 forward check fixed end flag n) ≡ 21
no_kind carrier acknowledged ack address addressed forward check fixed end flag n =
    fifth (leb 22 carrier) (leb carrier 24) (eqb acknowledged ack) (eqb address addressed) 20
    (end_rules forward check fixed end flag n)

-- where the bits end before the elements do
abbrev last_rules : ℕ → ℕ → ℕ → ℕ → List ℕ
last_rules fixed end flag n = unless (leb fixed end) 22 ∷ unless (leb (end + 32 * flag) n) 22 ∷ []

short_when : (fixed end flag n : ℕ) (t : Bool) → leb fixed end ≡ t → n < fixed
    → first_of (last_rules fixed end flag n) ≡ 22
short_when fixed end flag n false t h = rw t refl
short_when fixed end flag n true t h =
    let l = leb-true fixed end t in rw (t, lt-leb (end + 32 * flag) n (omega arith)) refl

short_rules : (fixed end flag n : ℕ) → n < fixed → first_of (last_rules fixed end flag n) ≡ 22
short_rules fixed end flag n h = short_when fixed end flag n (leb fixed end) refl h

-- a forward address type that is not all there is not looked at
holds_when : (t u : Bool) (v : Bool) → cond t (cond u true (cond true true v)) true ≡ true
holds_when true true v = refl
holds_when true false v = refl
holds_when false u v = refl

holds_short : (storage forward typed end n : ℕ) → n < typed → forward_holds storage forward typed end n ≡ true
holds_short storage forward typed end n h =
    rw (lt-ltb n typed h) (holds_when (eqb storage 1) (ltb end typed) (direct forward))

pub end_fits : (forward check : Bool) (fixed end flag n : ℕ) {fault : ℕ}
    → fault ≡ first_of (end_rules forward check fixed end flag n) → fault ≡ 0 → fixed ≤ end
end_fits forward check fixed end flag n e z = (end_holds forward check fixed end flag n (sym e ∙ z)).fixed

-- no fault has the number of none
pub no_zero : (f : Fault) → number_of f ≡ 0 → ⊥
no_zero f e = search rules

-- a refusal, and a message that none of the rules refuses
pub answered_refused : (f : ℕ) (r : Transport) → (f ≡ 0 → ⊥) → refused_transport f ≡ answered f r
answered_refused zero r h = absurd (h refl)
answered_refused (suc f) r h = refl

answered_same : {f g : ℕ} (r u : Transport) → f ≡ g → (g ≡ 0 → r ≡ u) → answered f r ≡ answered g u
answered_same {f} {g} r u e h = ap (λ (k : ℕ). answered k r) e ∙ when g h
  where
    when : (g : ℕ) → (g ≡ 0 → r ≡ u) → answered g r ≡ answered g u
    when zero h = h refl
    when (suc g) h = refl

pub ack_le : {a : ℕ} (carrier : ℕ) → a ≡ ack_of carrier → a ≤ 1
ack_le carrier e = rw e (when (eqb carrier 24))
  where
    when : (t : Bool) → cond t 1 0 ≤ 1
    when true = omega arith
    when false = omega arith

pub end_le : {w : ℕ} (kind length : ℕ) → w ≡ per kind length length length 16 → length ≤ 2047 → w ≤ 2047
end_le kind length e h = rw e (per_le 2047 kind length length length 16 h h h (omega arith))

-- ---- all of it, as the code reads it

module _ (carrier flag : ℕ) (b : List Bool) where
  -- where the data end
  abbrev pub end_with : ℕ → Fixed → ℕ
  end_with kind x = x.from + per kind x.length x.length x.length 16

  abbrev pub found : Front → ℕ → Fixed → Stored → ℕ → Transport
  found f kind x t end =
      record {
        fault = 0;
        message = record {
          kind = kind;
          addressed = f.addressed;
          mni = f.mni;
          ssi = f.ssi;
          protocol = x.protocol;
          request = x.request;
          short = x.short;
          required = x.required;
          storage = x.storage;
          status = x.status;
          reference = x.reference;
          validity = t.validity;
          forward = t.forward;
          address = t.address;
        };
        first = per kind t.next t.next 0 0;
        bits = per kind (end - t.next) (end - t.next) 0 0;
      }

  abbrev pub rules_with : ℕ → Front → ℕ → Fixed → Stored → ℕ → ℕ → List ℕ
  rules_with ack f kind x t end n =
      sdu_rules carrier f.acknowledged ack f.kind f.addressed kind
      (forward_holds x.storage t.forward t.typed end n)
      (fcs_holds flag end b) t.next end flag n

  abbrev answer_with : ℕ → Front → ℕ → Fixed → Stored → ℕ → ℕ → Transport
  answer_with ack f kind x t end n = answered (first_of (rules_with ack f kind x t end n)) (found f kind x t end)

  -- from the front, its end and the kind on
  abbrev answer_from : ℕ → Front → ℕ → ℕ → Transport
  answer_from ack f place kind =
      let x = fixed_at place kind (run_in place 47 b) in
      answer_with ack f kind x (stored_at x.next x.storage b) (end_with kind x) (length b)

  -- the elements agree
  module _ (ack a k t v : ℕ) (x : Fixed) (y : Stored) (es : x.storage ≡ t)
      (g : Agreed (shape ack a k t v) b x) (h : StoredAs (shape ack a k t v) b y) where
    abbrev q : Shape
    q = shape ack a k t v

    abbrev f : Front
    f = exact ack a b

    rules_when : (d : Bool) → ltb (length b) (at 19 q) ≡ d
        → first_of (rules_with ack f k x y (end_with k x) (length b)) ≡ first_of (rules_of carrier flag q b)
    rules_when false d =
        let l = ltb-false (length b) (at 19 q) d in
        rw (g.end, es, h.forward l, h.typed, h.next l) refl
    rules_when true d =
        let l = ltb-true (length b) (at 19 q) d in
        let ours : forward_holds x.storage y.forward y.typed (end_with k x) (length b) ≡ true =
        holds_short x.storage y.forward y.typed (end_with k x) (length b) (rw h.typed l) in
        let theirs : forward_holds t v (at 19 q) (end_in q b) (length b) ≡ true =
        holds_short t v (at 19 q) (end_in q b) (length b) l in
        let far = h.far in
        let u = short_rules y.next (end_in q b) flag (length b) (omega arith) in
        let w = short_rules (at 20 q) (end_in q b) flag (length b) (omega arith) in
        rw (ours, theirs, g.end)
        (chain_same
        (front_rules carrier f.acknowledged ack f.kind a
        ++ (unless (leb 1 k) 21 ∷ unless true 21 ∷ unless (fcs_holds flag (end_in q b) b) 21 ∷ []))
        (last_rules y.next (end_in q b) flag (length b)) (last_rules (at 20 q) (end_in q b) flag (length b)) (u
        ∙ sym w))

    rules_are : first_of (rules_with ack f k x y (end_with k x) (length b)) ≡ first_of (rules_of carrier flag q b)
    rules_are = rules_when (ltb (length b) (at 19 q)) refl

    found_is : first_of (rules_of carrier flag q b) ≡ 0 → found f k x y (end_with k x) ≡ transport_of q b
    found_is z =
        let e = end_in q b in
        let last = chain_zero (front_rules carrier f.acknowledged ack f.kind a ++ (unless (leb 1 k) 21 ∷ []))
        (end_rules (forward_holds t v (at 19 q) e (length b)) (fcs_holds flag e b) (at 20 q) e flag (length b)) z in
        let n = length b in
        let ends = end_holds (forward_holds t v (at 19 q) e n) (fcs_holds flag e b) (at 20 q) e flag n last in
        let l : at 20 q ≤ length b = omega (arith, ends.fixed, ends.there) in
        let l₁₉ : at 19 q ≤ length b = omega arith in
        let r = g.rest (omega arith) in
        let o = h.next l₁₉ in
        λ i. record {
          fault = 0;
          message = record {
            kind = k;
            addressed = a;
            mni = element_in 3 q b;
            ssi = element_in 4 q b;
            protocol = r.protocol i;
            request = r.request i;
            short = r.short i;
            required = r.required i;
            storage = es i;
            status = r.status i;
            reference = r.reference i;
            validity = h.validity l₁₉ i;
            forward = h.forward l₁₉ i;
            address = h.address l i;
          };
          first = per k (o i) (o i) 0 0;
          bits = per k (g.end i - o i) (g.end i - o i) 0 0;
        }

    agree : answer_with ack f k x y (end_with k x) (length b)
        ≡ answered (first_of (rules_of carrier flag q b)) (transport_of q b)
    agree = answered_same (found f k x y (end_with k x)) (transport_of q b) rules_are found_is

  -- where no kind is told, and where one is
  of_kind : (ack a k t v : ℕ) (f : Front) → t ≡ element_in 13 (shape ack a k 0 0) b → t ≤ 1
      → v ≡ element_in 18 (shape ack a k t 0) b → Told ack a k b
      → (sdti_at ack a ≤ length b → f ≡ exact ack a b) → let q = shape ack a k t v in
      answer_from ack f (sdti_at ack a) k ≡ answered (first_of (rules_of carrier flag q b)) (transport_of q b)
  of_kind ack a zero t v f et lt ev l ef =
      let q = shape ack a 0 t v in
      let x = fixed_at (sdti_at ack a) 0 (run_in (sdti_at ack a) 47 b) in
      let y = stored_at x.next x.storage b in
      let e = end_with 0 x in
      let n = length b in
      let ours =
      no_kind carrier f.acknowledged ack f.kind f.addressed
      (forward_holds x.storage y.forward y.typed e n) (fcs_holds flag e b) y.next e flag n in
      let theirs =
      no_kind carrier (element_in 0 q b) ack (element_in 2 q b) a
      (forward_holds t v (at 19 q) (end_in q b) n) (fcs_holds flag (end_in q b) b) (at 20 q) (end_in q b) flag n in
      answered_same (found f 0 x y e) (transport_of q b) (ours ∙ sym theirs)
      (λ z. absurd (let w = sym theirs ∙ z in omega arith))
  of_kind ack a (suc k) t v f et lt ev l ef =
      let p = sdti_at ack a in
      let x = fixed_at p (suc k) (run_in p 47 b) in
      let there = l.some (omega arith) in
      let g = fixed_is ack a (suc k) t v b (omega arith) l in
      let es : x.storage ≡ t = g.storage ∙ sym et in
      let h = stored_is ack a (suc k) t v b lt ev in
      ap (λ (u : Front). answer_from ack u p (suc k)) (ef (omega arith))
      ∙ ap (λ (y : Stored). answer_with ack (exact ack a b) (suc k) x y (end_with (suc k) x) (length b))
      (λ i. stored_at (g.next i) (es i) b)
      ∙ agree ack a (suc k) t v x (stored_at (at 17 (shape ack a (suc k) t v)) t b) es g h

  same : let ack = ack_of carrier in
      answer_from ack (front_of ack (run_in 0 53 b)) (sdti_at ack (addressed_in ack b)) (kind_in ack b)
      ≡ read_bits carrier flag b
  unfolding read_bits storage_in forward_in
  same =
      let ack = ack_of carrier in
      let fl = flagged ack b (ack_le carrier refl) in
      of_kind ack (addressed_in ack b) (kind_in ack b) (storage_in ack b) (forward_in ack b) (front_of ack
      (run_in 0 53 b))
      refl (storage_le ack b) refl (told ack b) (front_is ack (addressed_in ack b) b fl)

  read_is : {ack x₀ place y kind end n : ℕ} {f : Front} {x : Fixed} {t : Stored} → length b ≡ n
      → ack ≡ ack_of carrier → x₀ ≡ run_in 0 53 b → f ≡ front_of ack x₀ → place ≡ f.next → y ≡ run_in place 47 b
      → kind ≡ kind_at n place y ack → x ≡ fixed_at place kind y → t ≡ stored_at x.next x.storage b
      → end ≡ end_with kind x → answer_with ack f kind x t end n ≡ read_bits carrier flag b
  read_is {ack} {x₀} {place} {y} {kind} {end} {n} {f} {x} {t} el ea e₀ ef ep ey ek ex et ee =
      let fl = flagged (ack_of carrier) b (ack_le carrier refl) in
      let a = addressed_in (ack_of carrier) b in
      let g = front_of (ack_of carrier) (run_in 0 53 b) in
      let eg : f ≡ g = ef ∙ (λ i. front_of (ea i) (e₀ i)) in
      let at5 : place ≡ sdti_at (ack_of carrier) a =
      ep ∙ ap (λ (u : Front). u.next) eg ∙ (front_next (ack_of carrier) a (run_in 0 53 b) fl).1 in
      let kinds : kind ≡ kind_in (ack_of carrier) b =
      ek ∙ (λ i. kind_at (sym el i) place (ey i) (ea i))
      ∙ ap (λ (p : ℕ). kind_at (length b) p (run_in p 47 b) (ack_of carrier)) at5
      ∙ kind_is (ack_of carrier) b in
      ap (λ (m : ℕ). answer_with ack f kind x t end m) (sym el)
      ∙ ap (λ (e : ℕ). answer_with ack f kind x t e (length b)) ee
      ∙ ap (λ (u : Stored). answer_with ack f kind x u (end_with kind x) (length b)) et
      ∙ ap (λ (u : Fixed). answer_with ack f kind u (stored_at u.next u.storage b) (end_with kind u) (length b))
      (ex ∙ ap (fixed_at place kind) ey)
      ∙ (λ i. answer_from (ea i) (eg i) (at5 i) (kinds i))
      ∙ same

-- ---- each of its answers

module _ (carrier flag n : ℕ) (s : List ℕ) (h : n ≤ 8 * length s) {ack x₀ : ℕ} {f : Front} (ea : ack ≡ ack_of carrier)
    (e₀ : x₀ ≡ run_in 0 53 (sdu_bits n s)) (ef : f ≡ front_of ack x₀) {y kind : ℕ}
    (ey : y ≡ run_in f.next 47 (sdu_bits n s))
    (ek : kind ≡ kind_at n f.next y ack) where
  abbrev all : List Bool
  all = sdu_bits n s

  abbrev front : List ℕ
  front = front_rules carrier f.acknowledged ack f.kind f.addressed

  module _ {x : Fixed} {t : Stored} {end : ℕ} (ex : x ≡ fixed_at f.next kind y)
      (et : t ≡ stored_at x.next x.storage all)
      (ee : end ≡ end_with carrier flag all kind x) where
    abbrev message : Transport
    message = found carrier flag all f kind x t end

    abbrev last : List ℕ
    last =
        end_rules (forward_holds x.storage t.forward t.typed end n) (fcs_holds flag end all) t.next end flag n

    abbrev rest : List ℕ
    rest = unless (leb 1 kind) 21 ∷ last

    given : {fault : ℕ} → first_of (front ++ rest) ≡ fault → answered fault message ≡ read_bits carrier flag all
    given e =
        ap (λ (g : ℕ). answered g message) (sym e)
        ∙ read_is carrier flag all (length_sdu n s h) ea e₀ ef refl ey ek ex et ee

    -- by what stands before the short data type identifier
    front_with : {fault : ℕ} → fault ≡ first_of front → (fault ≡ 0 → ⊥)
        → refused_transport fault ≡ read_bits carrier flag all
    front_with {fault} e r =
        answered_refused fault message r ∙ given (chain_given front rest (λ z. r (e ∙ z)) ∙ sym e)

    -- no kind is told
    kind_with : first_of front ≡ 0 → kind ≡ 0 → refused_transport 21 ≡ read_bits carrier flag all
    kind_with e z = given {fault = 21} (chain_none front rest e ∙ rw z refl)

    -- by what stands after the kind
    module _ (e : first_of front ≡ 0) (k : 1 ≤ kind) {forward check : Bool} {fault : ℕ}
        (eh : forward ≡ forward_holds x.storage t.forward t.typed end n) (ec : check ≡ fcs_holds flag end all)
        (er : fault ≡ first_of (end_rules forward check t.next end flag n)) where
      last_is : first_of (front ++ rest) ≡ fault
      last_is = chain_none front rest e ∙ rw (le-leb 1 kind k) (sym (er ∙ rw (eh, ec) refl))

      pub last_refused : (fault ≡ 0 → ⊥) → refused_transport fault ≡ read_bits carrier flag all
      last_refused r = answered_refused fault message r ∙ given last_is

    pub last_found : first_of front ≡ 0 → 1 ≤ kind → {forward check : Bool}
        → forward ≡ forward_holds x.storage t.forward t.typed end n → check ≡ fcs_holds flag end all
        → first_of (end_rules forward check t.next end flag n) ≡ 0 → message ≡ read_bits carrier flag all
    last_found e k eh ec z = given (last_is e k eh ec (sym z))

  pub front_refused : {fault : ℕ} → fault ≡ first_of front → (fault ≡ 0 → ⊥)
      → refused_transport fault ≡ read_bits carrier flag all
  front_refused e r = front_with refl refl refl e r

  pub kind_refused : first_of front ≡ 0 → kind ≡ 0 → refused_transport 21 ≡ read_bits carrier flag all
  kind_refused e z = kind_with refl refl refl e z

-- ---- n and the bits lent

pub lent_refused : (carrier elements n : ℕ) (s : List ℕ) → leb n (8 * length s) ≡ false
    → refused_transport 13 ≡ read_of carrier elements n s
unfolding read_of
lent_refused carrier elements n s e = rw e refl

pub lent_read : (carrier elements n : ℕ) (s : List ℕ) → leb n (8 * length s) ≡ true
    → read_bits carrier (elements % 2) (sdu_bits n s) ≡ read_of carrier elements n s
unfolding read_of read_bits
lent_read carrier elements n s e = rw e refl
