-- Request 02 holds. Assumes nothing.
use mathlib.Core.Path.{◌≡◌, refl, sym, ap, subst, subst⁻¹, ◌∙◌}
use mathlib.Core.Logic.{◌⊎◌, inl, inr}
use mathlib.Core.Bool.{false}
use Prim.Native.Nat.{ℕ, zero, suc}
use native.Mathlib.Omega.{arith}
use Rattle.history.specs.Line.{◌▸◌, ◌⧺◌}
use Rattle.history.specs.Slots.{no_loss, Report}
use Rattle.history.specs.Step.{Assembly, dropped_at}
use Rattle.history.specs.History.{History, Run, IsOpen, Drops, IsAcknowledged, loss, LostTold, none_lost, one_lost}
use Rattle.history.specs.Fate.{Way, still_open, EndsBy, by_end, by_drop, by_repeat, Still}
use Rattle.history.specs.declared.Lost.{Lost}
use Rattle.history.proofs.OpenRun.{found}
use Rattle.history.proofs.Theorems.{theorem_dropped}
use Rattle.history.proofs.FateHolds.{over_mark, anew_mark, not_yet, dropped_or_handed_over}
use Rattle.history.proofs.Verdicts.{absurd_bool}
use Rattle.demands.specs.Calls.{HearCall, Made, history, current, answer, refusal, Taken}
use Rattle.demands.specs.Req02.{Says, Req02}
use Rattle.demands.proofs.Demand3Holds.{given, answers, demand3}

told_types : {hs : History} {r : Report} {x : Lost} → LostTold hs r x → (x ≡ no_loss) ⊎ IsAcknowledged x.message
told_types (none_lost n) = inl refl
told_types (one_lost x l) = inr (subst⁻¹ (λ (y : Lost). IsAcknowledged y.message) l.its_numbers l.acknowledged)

-- Two open runs have the same header's fields.
one_run : {hs : History} {u v : Run} → IsOpen hs u → IsOpen hs v
    → u.header.fields.message ≡ v.header.fields.message
one_run {hs} {u} {v} o p =
    ap (λ (a : Assembly). a.run.fields.message) (sym (found hs u o) ∙ found hs v p)

module _ (c : HearCall) (t : Taken c) where
  -- Where nothing is dropped nothing is told of a loss.
  not_dropped : (Drops (history c) (current c) → ⊥) → ((answer c).dropped ≡ 0) × ((answer c).lost ≡ no_loss)
  not_dropped n =
      let z : (answer c).dropped ≡ 1 → ⊥ = λ e. n ((answers c t).dropped.0 e) in
      (omega (arith, (answers c t).mark, z), (answers c t).none_lost.1 (λ x l. n l.drops))

  unmarked : dropped_at (history c) (current c) ≡ false → Drops (history c) (current c) → ⊥
  unmarked e d = absurd_bool (sym e ∙ (theorem_dropped (history c) (current c)).1 d)

  ended : {u : Run} {w : Way} → EndsBy (history c) u (current c) w → Says c u w
  ended (by_end last x) =
      let (d, l) = not_dropped (unmarked (over_mark x)) in (
        (answers c t).joined.1 (record { fields = _; message = _; holds = x }),
        d,
        l,
        (last, (answers c t).joined_what _ _ x),
      )
  ended {u} (by_drop o x) =
      let d : Drops (history c) (current c) = record { run = u; is_open = o; ends = x } in (
        (answers c t).dropped.1 d,
        record {
          of_these = λ k.
              (((answers c t).lost (loss u)).0 (record { drops = d; acknowledged = k; its_numbers = refl })).0;
          of_others = λ n.
              (answers c t).none_lost.1
              (λ y l. n (subst IsAcknowledged (one_run l.drops.is_open o) l.acknowledged));
        },
        λ e.
            let s = (answers c t).joined.0 e in
            unmarked (over_mark s.holds) d,
      )
  ended (by_repeat z) =
      let (d, l) = not_dropped (unmarked (anew_mark z)) in (
        (answers c t).opened.1
            (record {
              header = z.header;
              more = z.more;
              countdown = z.countdown;
              holds = z.holds;
              for_us = z.repeats.0;
            }),
        d,
        l,
      )

  not_ended : (before : History) (o : Report) (since : History) (u : Run) → history c ≡ (before ▸ o) ⧺ since
      → Still before o (since ▸ current c) u → Says c u still_open
  not_ended before o since u e s =
      not_dropped (λ d. not_yet before o since (current c) s (subst (λ (h : History). Drops h (current c)) e d))

  dropped : IsAcknowledged (answer c).lost.message → (answer c).dropped ≡ 1
  dropped k = (answers c t).dropped.1 (((answers c t).lost (answer c).lost).1 (refl, k)).drops

types : (c : HearCall) → Made c → ((answer c).lost ≡ no_loss) ⊎ IsAcknowledged (answer c).lost.message
types c m = go (refusal c) refl
  where
    go : (n : ℕ) → refusal c ≡ n → ((answer c).lost ≡ no_loss) ⊎ IsAcknowledged (answer c).lost.message
    go zero e = told_types (given c (record { made = m; accepted = e })).lost
    go (suc n) e = inl (rw (demand3.refused c m n e).0 refl)

pub req02 : Req02
req02 =
    record {
      fates = dropped_or_handed_over;
      ended = λ c t x. ended c t x;
      not_ended = not_ended;
      types = types;
      dropped = dropped;
    }
