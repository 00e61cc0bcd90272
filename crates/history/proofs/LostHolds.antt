-- The three numbers that are told are those that the history asks for. Assumes nothing.
use Prim.Native.Nat.{ℕ}
use mathlib.Core.Path.{◌≡◌, refl, sym, ◌∙◌, ap, ap₂}
use mathlib.Core.Logic.{inl, inr}
use mathlib.Core.Bool.{Bool, true, false, cond, ◌&&◌, ◌||◌}
use lib.Dec.{eqb}
use lib.ListN.{length}
use borrow.Author.Tests.{eqb-true}
use Rattle.history.specs.Slots.{no_loss, Report}
use Rattle.history.specs.declared.Lost.{Lost}
use Rattle.history.specs.Step.{Assembly, is_acknowledged, lost_of, after, dropped_at, loss_at}
use Rattle.history.specs.History.{History, IsAcknowledged, loss, Loses, LostTold, none_lost, one_lost}
use Rattle.history.proofs.Verdicts.{absurd_bool}
use Rattle.history.proofs.OpenRun.{and_true, found}
use Rattle.history.proofs.Theorems.{theorem_dropped}

-- The two message types, by their test.
type_true : (m : ℕ) → is_acknowledged m ≡ true → IsAcknowledged m
type_true m = go (eqb m 23) refl
  where
    go : (b : Bool) → eqb m 23 ≡ b → (b || eqb m 24) ≡ true → IsAcknowledged m
    go true e h = inl (eqb-true m 23 e)
    go false e h = inr (eqb-true m 24 h)

type_is : (m : ℕ) → IsAcknowledged m → is_acknowledged m ≡ true
type_is m (inl e) = rw e refl
type_is m (inr e) = rw e refl

module _ (hs : History) (r : Report) where
  -- The two that a loss hangs on, and what would be told of the state's assembly.
  abbrev lost : Bool → Assembly → Bool
  lost b a = b && is_acknowledged a.run.fields.message

  abbrev told : Bool → Assembly → Lost
  told b a = lost_of b a.run.fields.source.ssi a.run.fields.message (length a.joined)

  abbrev lost_now : Bool
  lost_now = lost (dropped_at hs r) (after hs).assembly

  -- A message that is lost is told, and the other way round.
  module _ (x : Lost) (l : Loses hs r x) where
    lost_is : lost_now ≡ true
    lost_is =
        let d = l.drops in
        ap₂ lost ((theorem_dropped hs r).1 d) (found hs d.run d.is_open)
        ∙ type_is d.run.header.fields.message l.acknowledged

    loses_is : x ≡ loss_at hs r
    loses_is =
        let d = l.drops in
        let u = d.run in
        l.its_numbers
        ∙ sym (ap (λ (b : Bool). cond b (loss u) no_loss) (type_is u.header.fields.message l.acknowledged))
        ∙ sym (ap₂ told ((theorem_dropped hs r).1 d) (found hs u d.is_open))

  loses_true : lost_now ≡ true → Loses hs r (loss_at hs r)
  loses_true e =
      let (a, b) = and_true (dropped_at hs r) (is_acknowledged (after hs).assembly.run.fields.message) e in
      let d = (theorem_dropped hs r).0 a in
      let u = d.run in
      let f = found hs u d.is_open in
      let s = sym (ap (λ (a : Assembly). is_acknowledged a.run.fields.message) f) ∙ b in
      record {
        drops = d;
        acknowledged = type_true u.header.fields.message s;
        its_numbers = ap₂ told a f ∙ ap (λ (b : Bool). cond b (loss u) no_loss) s;
      }

  pub theorem_lost : LostTold hs r (loss_at hs r)
  theorem_lost = go lost_now refl
    where
      go : (b : Bool) → lost_now ≡ b → LostTold hs r (loss_at hs r)
      go true e = one_lost (loss_at hs r) (loses_true e)
      go false e = rw e (none_lost (λ x l. absurd_bool (sym e ∙ lost_is x l)))

  pub theorem_lost_only : {x : Lost} → LostTold hs r x → x ≡ loss_at hs r
  theorem_lost_only (one_lost x l) = loses_is x l
  theorem_lost_only (none_lost n) = go (loss_at hs r) theorem_lost
    where
      go : (x : Lost) → LostTold hs r x → no_loss ≡ x
      go _ (none_lost m) = refl
      go _ (one_lost x l) = absurd (n x l)
