-- An assembly is handed over, dropped, opened anew or still open, and only one of these, once. Assumes nothing.
use Prim.Native.Nat.{ℕ, suc}
use native.Mathlib.Omega.{arith}
use mathlib.Core.Path.{◌≡◌, refl, sym, ◌∙◌, ap, subst, subst⁻¹}
use mathlib.Core.Bool.{Bool, true, false, not}
use mathlib.Core.List.{List}
use lib.Dec.{eqb}
use borrow.Author.Tests.{eqb-true, eqb-false}
use Rattle.history.specs.Line.{Line, start, ◌▸◌, ◌⧺◌, count, each, Every}
use Rattle.history.specs.Slots.{same_place, next, Header, Heard, nothing, fragmented, unfragmented, frag, end}
use Rattle.history.specs.Slots.{Report, is_fragmented}
use Rattle.blocks.specs.declared.header.Fields.{Fields}
use Rattle.history.specs.declared.Place.{Place}
use Rattle.history.specs.declared.Near.{Near}
use Rattle.history.specs.declared.Verdict.{Verdict}
use Rattle.history.specs.Step.{Assembly, Answer, no_assembly, in_turn, renews, broken_off, changed}
use Rattle.history.specs.Step.{after, step, answer, dropped_at}
use Rattle.history.specs.History.{History, final, InTurn, Unbroken, NotFragmented, Run, IsOpen, next_due}
use Rattle.history.specs.History.{Closes, Keeps, Opens, DueKind, Ends, broken, other_header, missed, Drops}
use Rattle.history.specs.Fate.{Way, still_open, handed_over, dropped, opened_anew, Renews, EndsBy, by_end}
use Rattle.history.specs.Fate.{by_drop, by_repeat, Still, Fate, not_ended, ended, HasFate, DroppedOrHandedOver}
use Rattle.history.proofs.Lines.{both, ⧺-assoc, ⧺-cancel, every_parts}
use Rattle.history.proofs.Verdicts.{absurd_bool, Comes, passing, missing, keeping, closing, heading}
use Rattle.history.proofs.Verdicts.{rest, rest_at, lost_at, comes_at}
use Rattle.history.proofs.OpenRun.{same_place_true, turn_true, turn_is, unbroken_on, on, shape}
use Rattle.history.proofs.OpenRun.{grown, grows, At, found}
use Rattle.history.proofs.Outcomes.{repeat_is, repeat_true, closing_at, keeping_at, header_mark, drops_is}
use Rattle.history.proofs.Theorems.{closed, stays_closed}

-- ---- What an open run comes to at a report.

pub data Next (hs : History) (u : Run) (r : Report) : Type 0 where
  goes_on : (bs : Line (List Bool)) → IsOpen (hs ▸ r) (grown u r bs) → Next hs u r
  ends : (w : Way) → EndsBy hs u r w → Next hs u r

module _ {hs : History} (u : Run) (r : Report) (o : IsOpen hs u) where
  drops : Ends hs u r → Next hs u r
  drops e = ends dropped (by_drop o e)

  -- A header, its own or not.
  headed : Unbroken hs r.place → (h : Header) (more f : ℕ) → r.heard ≡ fragmented h more f → Next hs u r
  headed k h more f e = go (renews (shape (on u r)).run h.for_us h.raw f) refl
    where
      go : (b : Bool) → renews (shape (on u r)).run h.for_us h.raw f ≡ b → Next hs u r
      go true z =
          ends opened_anew
          (by_repeat
          (record {
            header = h;
            more = more;
            countdown = f;
            is_open = o;
            unbroken = k;
            holds = e;
            repeats = repeat_true u r h f z;
          }))
      go false z = drops (other_header h more f e (λ y. absurd_bool (sym z ∙ repeat_is u r h f y)))

  -- A slot that is not due, and one that is, by what it held.
  passed : Unbroken hs r.place → NotFragmented r.heard → same_place r.place (next_due u) ≡ false → Next hs u r
  passed k n e = goes_on u.blocks (grows u r false u.blocks o k n e refl o.short)

  missed_at : same_place r.place (next_due u) ≡ true → NotFragmented r.heard → (DueKind u r.heard → ⊥)
      → Next hs u r
  missed_at d n z = drops (missed (same_place_true r.place (next_due u) d) n z)

  at_due : Unbroken hs r.place → same_place r.place (next_due u) ≡ true → NotFragmented r.heard → (x : Heard)
      → r.heard ≡ x → Next hs u r
  at_due k d n nothing e = missed_at d n (λ z. rw e at z)
  at_due k d n (fragmented h more f) e = absurd_bool (sym n ∙ ap is_fragmented e)
  at_due k d n (unfragmented h f) e = missed_at d n (λ z. rw e at z)
  at_due k d n (frag b) e = go (eqb (count u.blocks) u.more) refl
    where
      go : (l : Bool) → eqb (count u.blocks) u.more ≡ l → Next hs u r
      go true l =
          let c = eqb-true (count u.blocks) u.more l in
          missed_at d n (λ z. let y : DueKind u (frag b) = rw e at z in omega (arith, c, y))
      go false l =
          let c = eqb-false (count u.blocks) u.more l in
          goes_on (u.blocks ▸ b)
          (grows u r true (u.blocks ▸ b) o k n d (ap (λ (x : Heard). each frag u.blocks ▸ x) e)
          (omega (arith, o.short)))
  at_due k d n (end b) e = go (eqb (count u.blocks) u.more) refl
    where
      go : (l : Bool) → eqb (count u.blocks) u.more ≡ l → Next hs u r
      go true l =
          ends handed_over
          (by_end b
          (record {
            run = u;
            is_open = o;
            unbroken = k;
            in_due = same_place_true r.place (next_due u) d;
            full = eqb-true (count u.blocks) u.more l;
            last = b;
            holds = e;
            its_fields = refl;
            its_bits = refl;
          }))
      go false l = missed_at d n (λ z. eqb-false (count u.blocks) u.more l (rw e at z))

  pub next_is : Next hs u r
  next_is = go (in_turn (after hs).last r.place) refl
    where
      by_slot : Unbroken hs r.place → NotFragmented r.heard → (d : Bool)
          → same_place r.place (next_due u) ≡ d → Next hs u r
      by_slot k n true d = at_due k d n r.heard refl
      by_slot k n false d = passed k n d

      by_kind : Unbroken hs r.place → (x : Heard) → r.heard ≡ x → Next hs u r
      by_kind k (fragmented h more f) e = headed k h more f e
      by_kind k nothing e = by_slot k (rw e refl) (same_place r.place (next_due u)) refl
      by_kind k (unfragmented h f) e = by_slot k (rw e refl) (same_place r.place (next_due u)) refl
      by_kind k (frag b) e = by_slot k (rw e refl) (same_place r.place (next_due u)) refl
      by_kind k (end b) e = by_slot k (rw e refl) (same_place r.place (next_due u)) refl

      go : (t : Bool) → in_turn (after hs).last r.place ≡ t → Next hs u r
      go false t = drops (broken (λ k. absurd_bool (sym t ∙ turn_is hs r.place k)))
      go true t = by_kind (turn_true hs r.place t) r.heard refl

-- ---- Never neither.

-- The run's header is the report's, and the history before it is the run's.
abbrev header : Run → Report
header u = record { place = u.place; heard = fragmented u.header u.more u.countdown }

own : {before : History} {o : Report} {since : History} {u : Run} (s : Still before o since u)
    → before ▸ o ≡ s.is_open.before ▸ header u
own {before} {o} {since} {u} s =
    let b = s.is_open.before in
    ⧺-cancel (before ▸ o) (b ▸ header u) since
    (s.is_open.split ∙ ap (λ (l : History). (b ▸ header u) ⧺ l) s.its_own)

module _ (before : History) (o : Report) (y : Opens o) where
  pub just_opened : Still before o start
      (record {
        header = y.header;
        more = y.more;
        countdown = y.countdown;
        place = o.place;
        since = start;
        blocks = start;
      })
  just_opened =
      record {
        is_open =
            record {
              before = before;
              split = ap (λ (x : Heard). before ▸ record { place = o.place; heard = x }) y.holds;
              for_us = y.for_us;
              latest = tt;
              turns = tt;
              held = refl;
              short = omega arith;
            };
        its_own = refl;
      }

  grows_fate : {since : History} (r : Report) (u : Run) (s : Still before o since u)
      → Next ((before ▸ o) ⧺ since) u r → HasFate before o (since ▸ r)
  grows_fate {since} r u s (goes_on bs i) =
      record {
        way = still_open;
        at = count (since ▸ r);
        fate =
            not_ended (grown u r bs)
            (record { is_open = i; its_own = ap (λ (l : History). l ▸ r) s.its_own });
      }
  grows_fate {since} r u s (ends w x) =
      record { way = w; at = suc (count since); fate = ended since start r u w refl s x }

  some_fate : (since : History) → HasFate before o since
  some_fate start = record { way = still_open; at = 0; fate = not_ended _ just_opened }
  some_fate (since ▸ r) = go (some_fate since).fate
    where
      go : {w : Way} {n : ℕ} → Fate before o since w n → HasFate before o (since ▸ r)
      go (not_ended u s) = grows_fate r u s (next_is u r s.is_open)
      go (ended until later q u w e s x) =
          record {
            way = w;
            at = suc (count until);
            fate = ended until (later ▸ r) q u w (ap (λ (l : History). l ▸ r) e) s x;
          }

-- ---- Never both, and once.

-- The mark at a report that hands over, and at one that opens anew.
unbroken_mark : (hs : History) (r : Report) → Unbroken hs r.place → lost_at hs r.place ≡ false
unbroken_mark hs r k = ap (λ (t : Bool). broken_off t (after hs).assembly.run) (turn_is hs r.place k)

pub over_mark : {hs : History} {r : Report} {g : Fields} {m : List Bool} → Closes hs r g m → dropped_at hs r ≡ false
over_mark {hs} {r} c = ap (λ (y : Answer). y.dropped) (closing_at hs r c) ∙ unbroken_mark hs r c.unbroken

pub keep_mark : {hs : History} {r : Report} → Keeps hs r → dropped_at hs r ≡ false
keep_mark {hs} {r} c = ap (λ (y : Answer). y.dropped) (keeping_at hs r c) ∙ unbroken_mark hs r c.unbroken

pub anew_mark : {hs : History} {u : Run} {r : Report} → Renews hs u r → dropped_at hs r ≡ false
anew_mark {hs} {u} {r} w =
    header_mark hs r u w.header w.more w.countdown w.is_open w.unbroken w.holds
    ∙ ap not (repeat_is u r w.header w.countdown w.repeats)

module _ {hs : History} {r : Report} where
  not_dropped : {u : Run} → dropped_at hs r ≡ false → IsOpen hs u → Ends hs u r → ⊥
  not_dropped {u} e o x = absurd_bool (sym e ∙ drops_is hs r (record { run = u; is_open = o; ends = x }))

  not_a_header : {g : Fields} {m : List Bool} {u : Run} → Closes hs r g m → Renews hs u r → ⊥
  not_a_header c w = absurd_bool (ap is_fragmented (sym c.holds ∙ w.holds))

  one_way : {u v : Run} {w w' : Way} → EndsBy hs u r w → EndsBy hs v r w' → w ≡ w'
  one_way (by_end l c) (by_end l' c') = refl
  one_way (by_end l c) (by_drop o x) = absurd (not_dropped (over_mark c) o x)
  one_way (by_end l c) (by_repeat z) = absurd (not_a_header c z)
  one_way (by_drop o x) (by_end l c) = absurd (not_dropped (over_mark c) o x)
  one_way (by_drop o x) (by_drop o' x') = refl
  one_way (by_drop o x) (by_repeat z) = absurd (not_dropped (anew_mark z) o x)
  one_way (by_repeat z) (by_end l c) = absurd (not_a_header c z)
  one_way (by_repeat z) (by_drop o x) = absurd (not_dropped (anew_mark z) o x)
  one_way (by_repeat z) (by_repeat z') = refl

-- A report in turn that brings no fragmented header and drops an assembly leaves none.
none_kept : (a : Assembly) {n : List Near} {q : Place} {lost : Bool} {x : Heard} {v : Verdict}
    → Comes a.run n q lost x v → NotFragmented x → lost ≡ false → v.dropped ≡ true
    → (changed (rest q n a) q x v).assembly ≡ no_assembly
none_kept a (passing f d g) k l e = absurd_bool (sym l ∙ e)
none_kept a (missing f d w g) k l e = refl
none_kept a (keeping b d i) k l e = absurd_bool (sym l ∙ e)
none_kept a (closing b d i) k l e = refl
none_kept a (heading w i) k l e = absurd_bool (sym k)

dropped_none : {hs : History} {r : Report} → Drops hs r → Unbroken hs r.place → NotFragmented r.heard
    → At (hs ▸ r) no_assembly
unfolding after step answer
dropped_none {hs} {r} d k n =
    none_kept (rest_at hs r.place).assembly (comes_at hs r) n
    (ap (λ (t : Bool). broken_off t (after hs).assembly.run) (turn_is hs r.place k)) (drops_is hs r d)

none_after : {hs : History} {r : Report} {u : Run} {w : Way} → EndsBy hs u r w → Unbroken hs r.place
    → NotFragmented r.heard → At (hs ▸ r) no_assembly
none_after {hs} {r} (by_end l c) k n = closed hs r _ _ c
none_after {u = u} (by_drop o x) k n = dropped_none (record { run = u; is_open = o; ends = x }) k n
none_after (by_repeat z) k n = absurd_bool (sym n ∙ ap is_fragmented z.holds)

-- What ended is never open again: after these reports, and any others.
turned : (p : Place) (until more : History) (r : Report) → InTurn p ((until ▸ r) ⧺ more)
    → r.place ≡ next (final p until)
turned p until start r e = e.1
turned p until (more ▸ x) r e = turned p until more r e.0

module _ (before : History) (o : Report) (until : History) (r : Report) {v : Run} (more : History)
    (s : Still before o ((until ▸ r) ⧺ more) v) where
  -- Up to the report the history is that of the run.
  same : (before ▸ o) ⧺ until ≡ (s.is_open.before ▸ header v) ⧺ until
  same = ap (λ (l : History). l ⧺ until) (own s)

  never_again : (let hs = (before ▸ o) ⧺ until in
      Unbroken hs r.place → NotFragmented r.heard → At (hs ▸ r) no_assembly) → ⊥
  never_again none =
      let (w, l) =
      every_parts (λ z. NotFragmented z.heard) (until ▸ r) more
      (subst (λ (h : History). Every (λ z. NotFragmented z.heard) h) s.its_own s.is_open.latest) in
      let t =
      turned v.place until more r (subst (λ (h : History). InTurn v.place h) s.its_own s.is_open.turns) in
      let k : Unbroken ((before ▸ o) ⧺ until) r.place =
      subst⁻¹ (λ (h : History). Unbroken h r.place) same
      (unbroken_on s.is_open.before until (header v) r.place t) in
      let a = stays_closed (((before ▸ o) ⧺ until) ▸ r) more (none k w.1) l in
      let b : At ((((before ▸ o) ⧺ until) ▸ r) ⧺ more) (shape v) =
      subst (λ (h : History). At h (shape v)) (⧺-assoc (before ▸ o) (until ▸ r) more) (found _ v s.is_open) in
      omega (arith, ap (λ (a : Assembly). a.run.held) (sym a ∙ b))

-- While it is open nothing is dropped.
pub not_yet : (before : History) (o : Report) (since : History) (r : Report) {v : Run}
    → Still before o (since ▸ r) v → Drops ((before ▸ o) ⧺ since) r → ⊥
not_yet before o since r s d = never_again before o since r start s (dropped_none d)

-- Two members of a line: they are one, or one of them comes later.
data Order (a : History) (r : Report) (b : History) (q : Report) : Type 0 where
  same_place_in : a ≡ b → r ≡ q → Order a r b q
  later_in : (n : History) → b ≡ (a ▸ r) ⧺ n → Order a r b q
  earlier_in : (n : History) → a ≡ (b ▸ q) ⧺ n → Order a r b q

order : (a : History) (r : Report) (l b : History) (q : Report) (m : History) → (a ▸ r) ⧺ l ≡ (b ▸ q) ⧺ m
    → Order a r b q
order a r start b q start e = same_place_in (both e).0 (both e).1
order a r start b q (m ▸ y) e = earlier_in m (both e).0
order a r (l ▸ x) b q start e = later_in l (sym (both e).0)
order a r (l ▸ x) b q (m ▸ y) e = order a r l b q m (both e).0

one_fate : {before : History} {o : Report} {since : History} {w w' : Way} {n n' : ℕ} → Fate before o since w n
    → Fate before o since w' n' → (w ≡ w') × (n ≡ n')
one_fate (not_ended u s) (not_ended u' s') = (refl, refl)
one_fate {before} {o} (not_ended u s) (ended b m q v w e t x) =
    absurd (never_again before o b q m (subst (λ (h : History). Still before o h u) e s) (none_after x))
one_fate {before} {o} (ended a l r u w e s x) (not_ended v t) =
    absurd (never_again before o a r l (subst (λ (h : History). Still before o h v) e t) (none_after x))
one_fate {before} {o} (ended a l r u w e s x) (ended b m q v w' e' t y) = go (order a r l b q m (sym e ∙ e'))
  where
    go : Order a r b q → (w ≡ w') × (suc (count a) ≡ suc (count b))
    go (same_place_in i j) = (
      one_way x
          (subst⁻¹ (λ (z : Report). EndsBy ((before ▸ o) ⧺ a) v z w') j
          (subst⁻¹ (λ (h : History). EndsBy ((before ▸ o) ⧺ h) v q w') i y)),
      ap (λ (h : History). suc (count h)) i,
    )
    go (later_in n i) =
        absurd (never_again before o a r n (subst (λ (h : History). Still before o h v) i t) (none_after x))
    go (earlier_in n i) =
        absurd (never_again before o b q n (subst (λ (h : History). Still before o h u) i s) (none_after y))

pub dropped_or_handed_over : DroppedOrHandedOver
dropped_or_handed_over = record { some = λ before o since y. some_fate before o y since; only = one_fate }
