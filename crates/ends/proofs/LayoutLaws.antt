-- Every build can be reported in the slots of its layout, and no such report is refused. Assumes nothing.
use Prim.Native.Nat.{ℕ, zero, suc, ◌+◌, ◌-◌, ◌*◌, ◌%◌, ◌≤◌, ◌<◌}
use native.Mathlib.Omega.{arith}
use mathlib.Core.Path.{◌≡◌, refl, sym, ◌∙◌, ap, ap₂, subst, subst⁻¹}
use mathlib.Core.Bool.{true, cond}
use mathlib.Core.Logic.{◌⊎◌}
use mathlib.Core.List.{List}
use lib.Dec.{eqb}
use lib.ListN.{length}
use Rattle.build.specs.Build.{built_as, build_of}
use Rattle.blocks.specs.declared.sync.Sync.{Sync}
use Rattle.blocks.specs.declared.header.Fields.{Fields}
use Rattle.blocks.proofs.SlotLaws.{due_range}
use Rattle.build.proofs.RangeLaws.{InRange, no_fault}
use Rattle.history.specs.Line.{Line, start, ◌▸◌}
use Rattle.history.specs.Slots.{next, tick}
use Rattle.history.specs.History.{final, InTurn, frames}
use Rattle.history.proofs.Turns.{slot_after, next_range, frame_after, nth_slot, next_nth, gap, gap_is, first_next}
use Rattle.reports.specs.Lent.{Lent, brought, heard_slot}
use Rattle.reports.specs.declared.unit.Settings.{Settings}
use Rattle.history.specs.declared.Place.{Place}
use Rattle.receiver.specs.Reached.{report_of, reports, Accepted}
use Rattle.demands.proofs.BroughtLaws.{accept, next_heard, named_heard}
use Rattle.ends.specs.EndToEnd.{Message, k, Build, header_slot, header_lent, nothing_lent, due_slot, Sent, first}
use Rattle.ends.specs.EndToEnd.{silence, repeat, block, headers}
use Rattle.ends.proofs.HeardLaws.{range, length_header, length_block}

-- The rules of a build in another slot, with another countdown.
pub other_slot : {y : Sync} {c : ℕ} {g : Fields} {n bytes lent : ℕ} {x z f : ℕ} → InRange y c g n bytes lent → 1 ≤ x
    → x ≤ 18 → z ≤ 3 → f ≤ 3
    → InRange (record { system = y.system; usage = y.usage; slot = z; frame = x }) f g n bytes lent
other_slot r l h i j =
    let k = r.numbers in
    record {
      numbers = record {
        lowest = k.lowest;
        highest = k.highest;
        first_frame = l;
        last_frame = h;
        usage = k.usage;
        slot = i;
        countdown = j;
        mni = k.mni;
        message = k.message;
      };
      destination = r.destination;
      source = r.source;
      elements = r.elements;
      header = r.header;
      blocks = r.blocks;
    }

pub built_taken : (m : Message) (y : Sync) (c : ℕ) (out : List ℕ)
    → InRange y c m.fields m.n (length m.lent) (length out)
    → (build_of y c m.fields m.n (length m.lent) (length out)).fault ≡ 0
unfolding build_of
built_taken m y c out r = ap (λ (f : ℕ). (built_as f (k m)).fault) (no_fault _ _ _ _ _ _ r)

-- A build of the same message for another slot, with another countdown.
abbrev pub built_for : (m : Message) → Build m → (x z f : ℕ) → 1 ≤ x → x ≤ 18 → z ≤ 3 → f ≤ 3 → Build m
built_for m b x z f l h i j =
    record {
      sync = record { system = b.sync.system; usage = b.sync.usage; slot = z; frame = x };
      countdown = f;
      out = b.out;
      taken =
          built_taken m (record { system = b.sync.system; usage = b.sync.usage; slot = z; frame = x }) f b.out
          (other_slot (range m b) l h i j);
    }

module _ (s : Settings) (m : Message) (b : Build m) where
  abbrev last_slot : Line Lent → Place
  last_slot ls = final (header_slot m b) (reports s ls)

  in_turn : {ls : Line Lent} {i : ℕ} → Sent s m b ls i → InTurn (header_slot m b) (reports s ls)
  in_turn first = tt
  in_turn (silence q t g d) = (in_turn t, g)
  in_turn (repeat b' t g c) = (in_turn t, g)
  in_turn (block t u g) = (in_turn t, g)

  frame_range : {ls : Line Lent} {i : ℕ} → Sent s m b ls i → (1 ≤ (last_slot ls).frame) × ((last_slot ls).frame ≤ 18)
  frame_range {ls} t =
      let n = (range m b).numbers in
      let e = frame_after (header_slot m b) (reports s ls) n.first_frame n.last_frame (in_turn t) in
      (omega arith, omega arith)

  -- Nothing in n slots, and then block i in its own.
  to_block : (n : ℕ) (ls : Line Lent) (i : ℕ) → Sent s m b ls i → i < k m → n < 36
      → (nth_slot (last_slot ls) + 1 + n) % 36 ≡ (2 * (due_slot m b i).frame) % 36
      → (ls' : Line Lent) × Sent s m b ls' (suc i) × (headers ls' ≡ headers ls)
  to_block zero ls i t u h e =
      let r = frame_range t in
      let d = due_range b.sync.frame b.countdown i in
      let q = last_slot ls in
      (_, block t u (first_next q (due_slot m b i).frame d.0 d.1 r.0 r.1 (omega arith)), refl)
  to_block (suc n) ls i t u h e =
      let q = next (last_slot ls) in
      let z = next_nth (last_slot ls) in
      to_block n (ls ▸ nothing_lent q) i
      (silence q t refl (λ u' c. let c' : nth_slot q ≡ 2 * (due_slot m b i).frame + 0 = ap nth_slot c in omega arith)) u
      (omega arith) (omega arith)

  -- So many blocks, and the headers before them.
  abbrev Laid : ℕ → ℕ → Type 0
  Laid i n = (ls : Line Lent) × Sent s m b ls i × (headers ls ≡ n)

  one_more : {i n : ℕ} → i < k m → Laid i n → Laid (suc i) n
  one_more {i} u (ls, t, e) =
      let v = nth_slot (last_slot ls) in
      let d = 2 * (due_slot m b i).frame in
      let r = to_block (gap v d) ls i t u (omega arith) (gap_is v d) in
      (r.0, r.1, r.2 ∙ e)

  -- From any point before the first block, the blocks one after another.
  up_to : {n : ℕ} → Laid 0 n → (i : ℕ) → i ≤ k m → Laid i n
  up_to r zero h = r
  up_to r (suc i) h = one_more h (up_to r i (omega arith))

  pub possible : (ls : Line Lent) × Sent s m b ls (k m)
  possible = let r = up_to (start, first, refl) (k m) (omega arith) in (r.0, r.1)

  -- ---- The header in every slot that it may have.

  -- Its report there, as a repeat.
  another : (ls : Line Lent) (y z : ℕ) → Sent s m b ls 0 → let q : Place = record { frame = y; slot = z + 1 } in
      q ≡ next (last_slot ls) → z ≤ 3
      → tick q (frames (reports s ls)) ≤ b.countdown
      → (l : Lent) × Sent s m b (ls ▸ l) 0 × (l.kind ≡ 2) × ((report_of s l).place ≡ q)
  another ls y z t e i u =
      let r = frame_range t in
      let n = tick (record { frame = y; slot = z + 1 }) (frames (reports s ls)) in
      let f = (range m b).numbers.countdown in
      let h = next_range (last_slot ls) r.0 r.1 in
      let b' = built_for m b y z (b.countdown - n) (rw (ap (λ (q : Place). q.frame) e) h.0)
      (rw (ap (λ (q : Place). q.frame) e) h.1) i (omega arith) in
      (header_lent m b', repeat b' t e (omega arith), refl, refl)

  -- So far the header is in n slots, with so many frames gone by, and was last in a slot 1 or 3.
  record Headed (n gone slot : ℕ) : Type 0 where
    heard : Line Lent
    sent : Sent s m b heard 0
    number : headers heard ≡ n
    frames_gone : frames (reports s heard) ≡ gone
    last : (last_slot heard).slot ≡ slot

  headed_on : {n gone slot : ℕ} (z : ℕ) (r : Headed n gone slot) (y : ℕ)
      → record { frame = y; slot = z + 1 } ≡ next (last_slot r.heard) → z ≤ 3
      → tick (record { frame = y; slot = z + 1 }) gone ≤ b.countdown
      → Headed (suc n) (tick (record { frame = y; slot = z + 1 }) gone) (z + 1)
  headed_on {n} {gone} z r y e i u =
      let q : Place = record { frame = y; slot = z + 1 } in
      let g = ap (tick q) r.frames_gone in
      let a = another r.heard y z r.sent e i (subst⁻¹ (λ (j : ℕ). j ≤ b.countdown) g u) in
      record {
        heard = r.heard ▸ a.0;
        sent = a.1;
        number = ap₂ (λ (x j : ℕ). cond (eqb x 2) (suc j) j) a.2 r.number;
        frames_gone = ap (λ (q : Place). tick q (frames (reports s r.heard))) a.3 ∙ g;
        last = ap (λ (q : Place). q.slot) a.3;
      }

  -- slot 3 after a slot 1, and slot 1 after a slot 3
  next_at : (p : Place) (z : ℕ) → p.slot ≡ z → slot_after (eqb z 1) p.frame ≡ next p
  next_at p z e = ap (λ (z : ℕ). slot_after (eqb z 1) p.frame) (sym e)

  on_third : {n gone : ℕ} → Headed n gone 1 → gone ≤ b.countdown → Headed (suc n) gone 3
  on_third r = let p = last_slot r.heard in headed_on 2 r p.frame (next_at p 1 r.last) (omega arith)

  on_first : {n gone : ℕ} → Headed n gone 3 → suc gone ≤ b.countdown → Headed (suc n) (suc gone) 1
  on_first r = let p = last_slot r.heard in headed_on 0 r (p.frame % 18 + 1) (next_at p 3 r.last) (omega arith)

  headed : b.sync.slot ≡ 0 → (t : ℕ) → t ≤ b.countdown → Headed (2 * t + 1) t 3
  headed e zero h =
      on_third
      (record { heard = start; sent = first; number = refl; frames_gone = refl; last = ap (λ (z : ℕ). z + 1) e }) h
  headed e (suc t) h =
      let n : suc (suc (2 * t + 1)) ≡ 2 * suc t + 1 = omega arith in
      subst (λ (j : ℕ). Headed j (suc t) 3) n (on_third (on_first (headed e t (omega arith)) h) h)

  pub in_full : b.sync.slot ≡ 0 → (ls : Line Lent) × Sent s m b ls (k m) × (headers ls ≡ 2 * b.countdown + 1)
  in_full e = let r = headed e b.countdown (omega arith) in up_to (r.heard, r.sent, r.number) (k m) (omega arith)

-- ---- Reports that are not refused.

header_brought : (m : Message) (b : Build m) → brought 2 (length (header_lent m b).blocks) ≡ true
header_brought m b = ap (brought 2) (length_header m b)

module _ (s : Settings) (m : Message) (b : Build m) where
  pub accepted : {ls : Line Lent} {l : Lent} {i : ℕ} → Sent s m b (ls ▸ l) i → Accepted l
  accepted {ls} {l} t = let r = frame_range s m b t in accept l r.0 r.1 (slot_in t) (brings t)
    where
      slot_in : {l : Lent} {i : ℕ} → Sent s m b (ls ▸ l) i → heard_slot l.slot ≡ true
      slot_in (silence q t g d) = next_heard (last_slot s m b ls) q g
      slot_in (repeat b' t g c) = next_heard (last_slot s m b ls) (header_slot m b') g
      slot_in (block {i = i} t u g) = next_heard (last_slot s m b ls) (due_slot m b i) g

      brings : {l : Lent} {i : ℕ} → Sent s m b (ls ▸ l) i → brought l.kind (length l.blocks) ≡ true
      brings (silence q t g d) = refl
      brings (repeat b' t g c) = header_brought m b'
      brings (block {i = i} t u g) = ap (brought 3) (length_block m b i u)

pub header_accepted : (m : Message) (b : Build m) → (b.sync.slot ≡ 0) ⊎ (b.sync.slot ≡ 2)
    → Accepted (header_lent m b)
header_accepted m b h =
    accept (header_lent m b) (range m b).numbers.first_frame (range m b).numbers.last_frame
    (named_heard b.sync.slot h)
    (header_brought m b)
