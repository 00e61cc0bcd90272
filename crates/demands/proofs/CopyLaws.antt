-- A copy, as the history has it, is one in the bits that were lent, and the other way round. Assumes nothing.
use mathlib.Core.Path.{◌≡◌, refl, sym, ap, ap₂, subst, subst⁻¹, ◌∙◌}
use mathlib.Core.Logic.{◌↔◌}
use mathlib.Core.Bool.{true, false}
use Prim.Native.Nat.{ℕ, ◌+◌}
use lib.ListN.{length, take}
use Rattle.store.specs.Store.{halves}
use Rattle.history.specs.Line.{start, ◌▸◌, ◌⧺◌}
use Rattle.history.specs.Slots.{next, Header, Heard, nothing, fragmented, unfragmented, frag, end, Report}
use Rattle.history.specs.Slots.{header_in, countdown_in, is_fragmented}
use Rattle.history.specs.History.{History, final, InTurn, Unbroken, frames, Copies}
use Rattle.history.specs.declared.Place.{Place}
use Rattle.history.proofs.Lines.{made_of, each-⧺}
use Rattle.history.proofs.Verdicts.{absurd_bool}
use Rattle.reports.specs.Lent.{Lent, sch_h_in, raw_of, header_from, header_in_lent}
use Rattle.reports.proofs.Readings.{well_read}
use Rattle.reports.proofs.FlagLaws.{same_bits, heard_short, short_heard}
use Rattle.receiver.specs.Reached.{report_of, reports}
use Rattle.demands.specs.Calls.{HearCall, history, current}
use Rattle.demands.specs.Demand3.{CopiesBits}

-- A header for this unit that is not fragmented.
short_is : (x : Heard) → (header_in x).for_us ≡ true → is_fragmented x ≡ false
    → x ≡ unfragmented (header_in x) (countdown_in x)
short_is nothing w e = absurd_bool w
short_is (fragmented h more f) w e = absurd_bool (sym e)
short_is (unfragmented h f) w e = refl
short_is (frag b) w e = absurd_bool w
short_is (end b) w e = absurd_bool w

-- A report that breaks nothing is next in turn after those since an earlier one, and the other way round.
turn_on : (before : History) (r : Report) (since : History) (q : Place) → Unbroken ((before ▸ r) ⧺ since) q
    → q ≡ next (final r.place since)
turn_on before r start q u = u
turn_on before r (since ▸ x) q u = u

on_turn : (before : History) (r : Report) (since : History) (q : Place) → q ≡ next (final r.place since)
    → Unbroken ((before ▸ r) ⧺ since) q
on_turn before r start q e = e
on_turn before r (since ▸ x) q e = e

long : (l : Lent) → (header_in_lent l).fault ≡ 0 → length (sch_h_in l) ≡ 16
long l z = (well_read l.frame l.slot (take 8 l.blocks) (sch_h_in l) z).long

module _ (c : HearCall) where
  in_bits : Copies (history c) (current c) → CopiesBits c
  in_bits y =
      let s = c.settings in
      let k = y.is_copy in
      let e = k.earlier in
      let i = k.is_earlier in
      let p = made_of (report_of s) c.earlier i.before e.since i.report i.split in
      let l = p.member in
      let w : (header_in i.report.heard).for_us ≡ true =
      ap (λ (h : Header). h.for_us) i.brings.0 ∙ i.brings.2 in
      let z : i.report.heard ≡ unfragmented (header_in i.report.heard) (countdown_in i.report.heard) =
      short_is i.report.heard w k.alike in
      let there = heard_short s l _ _ (ap (λ (r : Report). r.heard) (sym p.member_is) ∙ z) w in
      let here = heard_short s c.report y.header y.countdown y.holds y.for_us in
      let raw : raw_of (sch_h_in l) ≡ raw_of (sch_h_in c.report) =
      ap (λ (h : Header). h.raw) (sym there.header ∙ i.brings.0) ∙ k.same
      ∙ ap (λ (h : Header). h.raw) here.header in
      record {
        before = p.first;
        first = l;
        since = p.later;
        split = p.split;
        here = here.brings;
        there = there.brings;
        turns = (
          subst (λ (h : History). InTurn (report_of s l).place h) p.later_is
              (subst (λ (r : Report). InTurn r.place e.since) p.member_is i.turns),
          turn_on i.before i.report e.since (current c).place
              (subst (λ (h : History). Unbroken h (current c).place) i.split k.unbroken)
              ∙ ap₂ (λ (r : Report) (h : History). next (final r.place h)) p.member_is p.later_is,
        );
        same =
            same_bits (sch_h_in l) (sch_h_in c.report) (long l there.brings.well)
            (long c.report here.brings.well) raw;
        counted =
            sym there.countdown ∙ i.brings.1 ∙ k.counted
            ∙ ap₂ (λ (n : ℕ) (h : History). n + frames (h ▸ current c)) here.countdown p.later_is;
      }

  of_bits : CopiesBits c → Copies (history c) (current c)
  of_bits b =
      let s = c.settings in
      let l = b.first in
      let r = report_of s l in
      let z = short_heard s l b.there in
      let split : history c ≡ (reports s b.before ▸ r) ⧺ reports s b.since =
      ap (reports s) b.split ∙ each-⧺ (report_of s) (b.before ▸ l) b.since in
      record {
        header = header_from s (sch_h_in c.report) (header_in_lent c.report);
        countdown = (header_in_lent c.report).countdown;
        holds = short_heard s c.report b.here;
        for_us = b.here.for_us;
        is_copy =
            record {
              earlier =
                  record {
                    header = header_from s (sch_h_in l) (header_in_lent l);
                    countdown = (header_in_lent l).countdown;
                    since = reports s b.since;
                  };
              is_earlier =
                  record {
                    before = reports s b.before;
                    report = r;
                    split = split;
                    brings = (ap header_in z, ap countdown_in z, b.there.for_us);
                    turns = b.turns.0;
                  };
              unbroken =
                  subst⁻¹ (λ (h : History). Unbroken h (current c).place) split
                  (on_turn (reports s b.before) r (reports s b.since) (current c).place b.turns.1);
              alike = ap is_fragmented z;
              same = ap halves b.same;
              counted = b.counted;
            };
      }

  pub copies_bits : Copies (history c) (current c) ↔ CopiesBits c
  copies_bits = (in_bits, of_bits)
