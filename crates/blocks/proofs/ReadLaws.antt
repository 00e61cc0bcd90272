-- What reading a header makes of its parts. Assumes nothing.
use mathlib.Core.Path.{◌≡◌, refl, sym, ap, ◌∙◌}
use mathlib.Core.Bool.{Bool}
use mathlib.Core.List.{List, [], ◌∷◌, ◌++◌}
use Prim.Native.Nat.{ℕ, zero, suc, ◌+◌, ◌≤◌}
use lib.ListN.{length, drop}
use Rattle.std.proofs.Common.{append_assoc}
use Rattle.bits.specs.Bits.{bits_of}
use Rattle.blocks.specs.Faults.{unless, first_of}
use Rattle.blocks.specs.Sdu.{is_there, bits_of_message}
use Rattle.blocks.specs.Sync.{sync_of, sync_checks}
use Rattle.blocks.specs.Header.{message_in, run_in, width_in, fields_with, tail_of, body_of, message_of_header}
use Rattle.blocks.specs.Header.{rules_of, body_checks, place_rules, refused_header, header_of, answered, read_body}
use Rattle.blocks.specs.Header.{read_header, read_reported}
use Rattle.blocks.specs.declared.sync.Sync.{Sync}
use Rattle.blocks.specs.declared.header.Body.{Body}
use Rattle.blocks.specs.declared.header.Fields.{Fields}
use Rattle.blocks.specs.declared.header.Tail.{Tail}
use Rattle.blocks.specs.declared.header.Header.{Header}
use Rattle.blocks.proofs.FaultLaws.{no_zero, chain_none, chain_given, chain_split}
use Rattle.blocks.proofs.RuleLaws.{rules_hold}
use Rattle.blocks.proofs.WidthLaws.{width_le_45}

refused_answer : (n : ℕ) (r : Header) → (n ≡ 0 → ⊥) → refused_header n ≡ answered n r
refused_answer zero r h = absurd (h refl)
refused_answer (suc n) r h = refl

-- a chain that starts with a fault gives it
refused_chain : (a b : List ℕ) (r : Header) {f : ℕ} → f ≡ first_of a → (f ≡ 0 → ⊥)
    → refused_header f ≡ answered (first_of (a ++ b)) r
refused_chain a b r {f} q h =
    refused_answer f r h ∙ ap (λ (n : ℕ). answered n r) (q ∙ sym (chain_given a b (rw q at h)))

-- ---- the elements

-- the last rule
abbrev eleven : List Bool → List ℕ
eleven b = unless (is_there (message_of_header (body_of b) b)) 11 ∷ []

-- what the rules say of a body that they pass
pub record Held (t : Tail) : Type 0 where
  pub fits : t.first ≤ 124
  pub ends : t.first ≡ t.run + t.width
  pub narrow : t.width ≤ 45

pub held : (b : List Bool) {e : Body} → e ≡ body_of b → first_of (rules_of e) ≡ 0 → Held e.tail
unfolding body_of width_in
held b {e} p z =
    let k = (rules_hold e z).tail in
    let at = tail_of b in
    record {
      fits = k.fits;
      ends = rw p refl;
      narrow = width_le_45 (message_in at b) (drop (run_in at b) b) (ap (λ (x : Body). x.tail.width) p) k.listed;
    }

-- and where 11 is passed too
pub held_all : (b : List Bool) {e : Body} → e ≡ body_of b → first_of (body_checks b) ≡ 0 → Held e.tail
held_all b {e} p z = held b p (rw p (chain_split (rules_of (body_of b)) (eleven b) z).0)

module _ (y : Sync) (b : List Bool) where
  pub body_refused : {f : ℕ} → f ≡ first_of (body_checks b) → (f ≡ 0 → ⊥) → refused_header f ≡ read_body y b
  unfolding read_body
  body_refused {f} q h = refused_answer f (header_of y b) h ∙ ap (λ (n : ℕ). answered n (header_of y b)) q

  -- the answer, where nothing is refused
  pub body_answer : {e : Body} → e ≡ body_of b → first_of (body_checks b) ≡ 0 → (fields : Fields) (bits : ℕ)
      → fields ≡ fields_with e.tail b → bits ≡ length (bits_of_message (message_of_header e b))
      → record {
        fault = 0;
        sync = y;
        fragmented = e.fragmented;
        count = e.count;
        countdown = e.countdown;
        fields = fields;
        first = e.tail.first;
        bits = bits;
      } ≡ read_body y b
  unfolding read_body
  body_answer p z fields bits q n = rw (z, n, q, p) refl

-- ---- the whole header

module _ (s h : List ℕ) where
  abbrev sync : Sync
  sync = sync_of (bits_of s)

  pub header_refused : {f : ℕ} → f ≡ first_of (sync_checks s h) → (f ≡ 0 → ⊥) → refused_header f ≡ read_header s h
  unfolding read_header
  header_refused q n = refused_chain (sync_checks s h) (body_checks (bits_of h)) (header_of sync (bits_of h)) q n

  pub header_passed : first_of (sync_checks s h) ≡ 0 → read_body sync (bits_of h) ≡ read_header s h
  unfolding read_header read_body
  header_passed z =
      ap (λ (n : ℕ). answered n (header_of sync (bits_of h)))
      (sym (chain_none (sync_checks s h) (body_checks (bits_of h)) z))

  module _ (frame slot : ℕ) where
    -- the rules before those of the body
    abbrev first_rules : List ℕ
    first_rules = sync_checks s h ++ place_rules frame slot sync

    rules_joined : first_rules ++ body_checks (bits_of h)
        ≡ sync_checks s h ++ (place_rules frame slot sync ++ body_checks (bits_of h))
    rules_joined = append_assoc (sync_checks s h) (place_rules frame slot sync) (body_checks (bits_of h))

    -- after the rules of the blocks, those of the place are what counts
    pub place_alone : (y : Sync) → 0 ≡ first_of (sync_checks s h) → y ≡ sync
        → first_of (place_rules frame slot y) ≡ first_of first_rules
    place_alone y z e = rw e (sym (chain_none (sync_checks s h) (place_rules frame slot sync) (sym z)))

    pub reported_refused : {f : ℕ} → f ≡ first_of first_rules → (f ≡ 0 → ⊥)
        → refused_header f ≡ read_reported frame slot s h
    unfolding read_reported
    reported_refused q n =
        rw rules_joined at (refused_chain first_rules (body_checks (bits_of h)) (header_of sync (bits_of h)) q n)

    pub reported_passed : first_of first_rules ≡ 0 → read_body sync (bits_of h) ≡ read_reported frame slot s h
    unfolding read_reported read_body
    reported_passed z =
        ap (λ (n : ℕ). answered n (header_of sync (bits_of h)))
        (sym (chain_none first_rules (body_checks (bits_of h)) z) ∙ ap first_of rules_joined)

-- for `read_body`, `read_header` and `read_reported`
pub ruleset bodies = (held_all, body_answer, body_refused, no_zero)

pub ruleset headers = (header_passed, header_refused, no_zero)

pub ruleset reports = (reported_passed, reported_refused, no_zero)
