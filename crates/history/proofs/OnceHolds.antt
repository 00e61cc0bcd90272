-- A message that goes into its header is handed over once: no repeat of it is, and of whatever is a copy an earlier
-- report handed over the original. Assumes nothing.
use Prim.Native.Nat.{ℕ, zero, suc, ◌+◌, ◌<◌}
use native.Mathlib.Omega.{arith}
use mathlib.Core.Path.{◌≡◌, refl, sym, ◌∙◌, ap, ap₂}
use mathlib.Core.Bool.{Bool, true, false, cond}
use lib.Dec.{eqb}
use Rattle.history.specs.Line.{start, ◌▸◌, ◌⧺◌, count}
use Rattle.history.specs.Slots.{next, Header, Heard, nothing, fragmented, unfragmented, frag, end, Report}
use Rattle.history.specs.declared.Place.{Place}
use Rattle.history.specs.Step.{copied, copy, outcome_at}
use Rattle.history.specs.History.{History, final, InTurn, frames, NotFragmented, Brings, Earlier, IsEarlier, Copy}
use Rattle.history.specs.Once.{Repeated, Original}
use Rattle.history.proofs.Lines.{⧺-assoc, count-⧺}
use Rattle.history.proofs.Verdicts.{absurd_bool, rest_at}
use Rattle.history.proofs.OpenRun.{report, unbroken_on, turns_on}
use Rattle.history.proofs.EarlierHeaders.{copy_true, copy_is}
use Rattle.history.proofs.Outcomes.{copies}

-- Each repeat is a copy, whatever came between.
pub theorem_again : (hs since : History) (p : Place) (h : Header) (f : ℕ) (r : Report) → h.for_us ≡ true
    → Repeated h f p since r → outcome_at ((hs ▸ report p (unfragmented h f)) ⧺ since) r ≡ copy
theorem_again hs since p h f r w a =
    let x = report p (unfragmented h f) in
    copies ((hs ▸ x) ⧺ since) r
    (record {
      header = h;
      countdown = a.countdown;
      holds = a.holds;
      for_us = w;
      is_copy =
          record {
            earlier = record { header = h; countdown = f; since = since };
            is_earlier =
                record { before = hs; report = x; split = refl; brings = (refl, refl, w); turns = a.turns.0 };
            unbroken = unbroken_on hs since x r.place a.turns.1;
            alike = refl;
            same = refl;
            counted = a.counted;
          };
    })

-- ---- The original.

unfragmented_is : (x : Heard) (h : Header) (f : ℕ) → Brings x h f → NotFragmented x → x ≡ unfragmented h f
unfragmented_is nothing h f (a, b, w) n = absurd_bool (ap (λ (h : Header). h.for_us) a ∙ w)
unfragmented_is (fragmented y more g) h f b n = absurd_bool (sym n)
unfragmented_is (unfragmented y g) h f (a, b, w) n = ap₂ unfragmented a b
unfragmented_is (frag y) h f (a, b, w) n = absurd_bool (ap (λ (h : Header). h.for_us) a ∙ w)
unfragmented_is (end y) h f (a, b, w) n = absurd_bool (ap (λ (h : Header). h.for_us) a ∙ w)

-- Reports after reports.
frames_on : (xs ys : History) → frames (xs ⧺ ys) ≡ frames xs + frames ys
frames_on xs start = omega arith
frames_on xs (ys ▸ y) = go (eqb y.place.slot 1) (frames_on xs ys)
  where
    go : (b : Bool) → frames (xs ⧺ ys) ≡ frames xs + frames ys
        → cond b (suc (frames (xs ⧺ ys))) (frames (xs ⧺ ys)) ≡ frames xs + cond b (suc (frames ys)) (frames ys)
    go true e = omega arith
    go false e = e

final_on : (p : Place) (xs : History) (x : Report) (ys : History) → final p ((xs ▸ x) ⧺ ys) ≡ final x.place ys
final_on p xs x start = refl
final_on p xs x (ys ▸ y) = refl

turns_all : (p : Place) (xs : History) (x : Report) (ys : History) → InTurn p (xs ▸ x) → InTurn x.place ys
    → InTurn p ((xs ▸ x) ⧺ ys)
turns_all p xs x start a b = a
turns_all p xs x (ys ▸ y) a b =
    (turns_all p xs x ys a b.0, b.1 ∙ ap next (sym (final_on p xs x ys)))

-- What a copy is a copy of was handed over itself, or is a copy of something that came before.
module _ (hs : History) (r : Report) (h : Header) (f : ℕ) (c : Copy hs r h f) where
  abbrev e : Earlier
  e = c.earlier

  abbrev o : IsEarlier hs e
  o = c.is_earlier

  since_turns : InTurn o.report.place (e.since ▸ r)
  since_turns = (o.turns, turns_on o.before e.since o.report r.place o.split c.unbroken)

  shorter : count o.before < count hs
  shorter = omega (arith, ap count o.split, count-⧺ (o.before ▸ o.report) e.since)

  abbrev seen : Bool
  seen = copied (rest_at o.before o.report.place).near e.header.raw e.countdown

  itself : seen ≡ false → Original hs r h f
  itself z =
      let x = unfragmented_is o.report.heard e.header e.countdown o.brings c.alike in
      record {
        before = o.before;
        report = o.report;
        since = e.since;
        split = o.split;
        turns = since_turns;
        header = e.header;
        countdown = e.countdown;
        holds = x;
        same = c.same;
        counted = c.counted;
        handed =
            record {
              header = e.header;
              countdown = e.countdown;
              holds = x;
              for_us = o.brings.2;
              no_copy =
                  λ y. absurd_bool (sym z ∙ copy_is o.before o.report e.header e.countdown y);
              its_fields = refl;
              its_bits = refl;
            };
      }

  further : Original o.before o.report e.header e.countdown → Original hs r h f
  further y =
      let s = (y.since ▸ o.report) ⧺ e.since in
      let n = frames_on (y.since ▸ o.report) (e.since ▸ r) in
      record {
        before = y.before;
        report = y.report;
        since = s;
        split =
            o.split
            ∙ ap (λ (l : History). (l ▸ o.report) ⧺ e.since) y.split
            ∙ sym (⧺-assoc (y.before ▸ y.report) (y.since ▸ o.report) e.since);
        turns = turns_all y.report.place y.since o.report (e.since ▸ r) y.turns since_turns;
        header = y.header;
        countdown = y.countdown;
        holds = y.holds;
        same = y.same ∙ c.same;
        counted = omega (arith, n, y.counted, c.counted);
        handed = y.handed;
      }

  either : (b : Bool) → seen ≡ b
      → (Copy o.before o.report e.header e.countdown
      → Original o.before o.report e.header e.countdown)
      → Original hs r h f
  either true z i = further (i (copy_true o.before o.report e.header e.countdown z))
  either false z i = itself z

original : (n : ℕ) (hs : History) (r : Report) (h : Header) (f : ℕ) → count hs < n → Copy hs r h f → Original hs r h f
original zero hs r h f l c = absurd (omega arith)
original (suc n) hs r h f l c =
    let e = c.earlier in
    let o = c.is_earlier in
    either hs r h f c (seen hs r h f c) refl
    (original n o.before o.report e.header e.countdown (omega (arith, shorter hs r h f c)))

pub theorem_original : (hs : History) (r : Report) (h : Header) (f : ℕ) → Copy hs r h f → Original hs r h f
theorem_original hs r h f c = original (suc (count hs)) hs r h f (omega arith) c
