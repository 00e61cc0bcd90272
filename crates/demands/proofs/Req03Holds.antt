-- Request 03 holds. Assumes nothing.
use mathlib.Core.Path.{◌≡◌, sym, ap, subst, ◌∙◌}
use mathlib.Core.Bool.{true}
use Prim.Native.Nat.{ℕ, ◌+◌}
use native.Mathlib.Omega.{arith}
use Rattle.history.specs.Line.{◌▸◌, ◌⧺◌}
use Rattle.history.specs.Slots.{Header, Heard, unfragmented, header_in, countdown_in, is_fragmented, Report}
use Rattle.history.specs.History.{History, NotFragmented, frames, Earlier, Copies}
use Rattle.history.specs.Once.{Repeated, Original}
use Rattle.history.specs.declared.Place.{Place}
use Rattle.history.proofs.Lines.{made_of}
use Rattle.history.proofs.Theorems.{theorem_copy}
use Rattle.history.proofs.OnceHolds.{theorem_again, theorem_original}
use Rattle.history.proofs.SevenHolds.{seven_are_needed}
use Rattle.reports.specs.Lent.{heard}
use Rattle.reports.proofs.FlagLaws.{same_read}
use Rattle.receiver.specs.Reached.{report_of}
use Rattle.receiver.proofs.AcceptedLaws.{listed}
use Rattle.demands.specs.Calls.{HearCall, history, current, answer, Taken}
use Rattle.demands.specs.Demand3.{HandsNothing}
use Rattle.demands.specs.Req03.{HeaderHere, Fits, Req03}
use Rattle.demands.proofs.Demand3Holds.{answers, reached, after_call}

module _ (c : HearCall) {h : Header} {f : ℕ} (b : HeaderHere c h f) where
  -- What it fits is not fragmented, as it is not.
  alike : (e : Earlier) (x : Fits c h f e) → NotFragmented x.is_earlier.report.heard
  alike e x =
      let s = c.settings in
      let i = x.is_earlier in
      let w = made_of (report_of s) c.earlier i.before e.since i.report i.split in
      let l = w.member in
      let z : i.report.heard ≡ heard s l = ap (λ (r : Report). r.heard) w.member_is in
      let g : header_in (heard s l) ≡ e.header = ap header_in (sym z) ∙ i.brings.0 in
      let k : header_in (current c).heard ≡ h = ap header_in b.holds in
      ap is_fragmented z
      ∙ (same_read s l c.report (ap (λ (h : Header). h.for_us) g ∙ i.brings.2)
      (ap (λ (h : Header). h.for_us) k ∙ b.for_us)
      (ap (λ (h : Header). h.raw) g ∙ x.same ∙ ap (λ (h : Header). h.raw) (sym k))).0
      ∙ ap is_fragmented b.holds

  copies : (e : Earlier) × Fits c h f e → Copies (history c) (current c)
  copies (e, x) =
      record {
        header = h;
        countdown = f;
        holds = b.holds;
        for_us = b.for_us;
        is_copy =
            record {
              earlier = e;
              is_earlier = x.is_earlier;
              unbroken = x.unbroken;
              alike = alike e x;
              same = x.same;
              counted = x.counted;
            };
      }

  -- The header of a copy is the one that is brought.
  its : (y : Copies (history c) (current c)) → unfragmented y.header y.countdown ≡ unfragmented h f
  its y = sym y.holds ∙ b.holds

  fits : Copies (history c) (current c) → (e : Earlier) × Fits c h f e
  fits y =
      let k = y.is_copy in
      let e = k.earlier in (
        e,
        record {
          is_earlier = k.is_earlier;
          unbroken = k.unbroken;
          same = k.same ∙ ap (λ (x : Heard). (header_in x).raw) (its y);
          counted = k.counted ∙ ap (λ (x : Heard). countdown_in x + frames (e.since ▸ current c)) (its y);
        },
      )

  original : Copies (history c) (current c) → Original (history c) (current c) h f
  original y =
      subst (λ (x : Heard). Original (history c) (current c) (header_in x) (countdown_in x)) (its y)
      (theorem_original (history c) (current c) y.header y.countdown y.is_copy)

repeated : (c : HearCall) → Taken c → (before since : History) (p : Place) (h : Header) (f : ℕ)
    → history c ≡ (before ▸ record { place = p; heard = unfragmented h f }) ⧺ since → h.for_us ≡ true
    → Repeated h f p since (current c) → ((answer c).outcome ≡ 5) × HandsNothing c
repeated c t before since p h f e w a =
    let y = (theorem_copy (history c) (current c)).0 (rw e (theorem_again before since p h f (current c) w a)) in
    let o = (answers c t).copy.1 y in
    (o, (answers c t).quiet (λ z. omega (arith, o)) (λ z. omega (arith, o)))

pub req03 : Req03
req03 =
    record {
      any = λ c t b. (λ o. fits c b ((answers c t).copy.0 o), λ x. (answers c t).copy.1 (copies c b x));
      repeated = repeated;
      original = λ c t o b. original c b ((answers c t).copy.0 o);
      seven = λ c m. listed (reached (after_call c m));
      needed = seven_are_needed;
    }
