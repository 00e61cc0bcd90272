use mathlib.Core.Path.{◌≡◌, refl, sym, ◌∙◌}
use native.Mathlib.Omega.{arith}
use borrow.Author.Rules.{rules}
use Rattle.reports.specs.Lent.{lent}
use Rattle.receiver.specs.View.{no_place}
use Rattle.receiver.proofs.AcceptedLaws.{passes}
use Rattle.receiver.proofs.HearLaws.{run_small, bits_small, count_few, kept_near, judged_kept, left_few, left_free}
use Rattle.receiver.proofs.HearLaws.{tells_inside, replied}
use Rattle.receiver.proofs.Receiver.reply.Goals as goal

pub heard-x-requires : goal.heard-x-requires
heard-x-requires c z =
    let a = c.args in
    (passes (lent a.q.frame a.q.slot a.kind a.blocks.now) a.message.now (sym c.requires.refused ∙ z)).1

pub judge-v-requires : goal.judge-v-requires
judge-v-requires c = count_few c.requires.reached c.in_turn-turn.result c.forget.ensures

pub told-answer-requires : goal.told-answer-requires
told-answer-requires c =
    let a = c.args in
    let l = lent a.q.frame a.q.slot a.kind a.blocks.now in
    let k = c.requires.reached in
    let t = c.in_turn-turn.result in
    record {
      room = omega (arith, bits_small k t c.either-bits.ensures, c.heard-x.ensures.few);
      inside = c.heard-x.ensures.inside;
      buffer =
          tells_inside c.heard-x.ensures c.older_run-run.result (kept_near k t) c.either-tick.result
          c.broken_off-lost.result
          (judged_kept k t c.forget.ensures c.heard-x.result c.older_run-run.result c.either-tick.result
          c.broken_off-lost.result c.judge-v.ensures)
          (λ z. (passes l a.message.now (sym c.requires.refused ∙ z)).2);
    }

pub store_after-requires : goal.store_after-requires
store_after-requires c =
    record {
      room =
          omega (
            arith,
            bits_small c.requires.reached c.in_turn-turn.result c.either-bits.ensures,
            c.heard-x.ensures.few,
          );
      inside = c.heard-x.ensures.inside;
    }

pub fall-requires : goal.fall-requires
fall-requires c = count_few c.requires.reached c.in_turn-turn.result c.forget.ensures

pub keep-requires : goal.keep-requires
keep-requires c =
    let a = c.args in
    let l = lent a.q.frame a.q.slot a.kind a.blocks.now in
    let k = c.requires.reached in
    let t = c.in_turn-turn.result in
    record {
      room =
          left_free k t c.forget.ensures c.ending-over.result c.fall.ensures a.accepted l
          c.in_turn-turn.ensures c.ending-over.ensures c.heard-x.ensures c.older_run-run.result c.either-tick.result
          c.broken_off-lost.result c.judge-v.ensures;
      inside = left_few k t c.forget.ensures c.ending-over.result c.fall.ensures;
    }

pub run_after-self-requires : goal.run_after-self-requires
run_after-self-requires c = (
  c.heard-x.ensures.falls,
  run_small c.requires.reached c.in_turn-turn.result c.either-tick.result c.older_run-run.ensures,
)

pub bits_after-self-requires : goal.bits_after-self-requires
bits_after-self-requires c =
    omega (
      arith,
      bits_small c.requires.reached c.in_turn-turn.result c.either-bits.ensures,
      c.heard-x.ensures.few,
    )

pub returns : goal.returns
returns c =
    let a = c.args in
    let ok = c.is_ok-ok.ensures.value in
    let none : c.default.result ≡ no_place = search rules in
    replied c.requires.reached (lent a.q.frame a.q.slot a.kind a.blocks.now) a.message.now a.accepted
    c.requires.refused
    (record {
      turn = c.in_turn-turn.result;
      tick = c.either-tick.result;
      lost = c.broken_off-lost.result;
      run = c.older_run-run.result;
      near = c.forget.new.near;
      bits = c.either-bits.result;
      store = c.clear.new.store;
      x = c.heard-x.result;
      v = c.judge-v.result;
      told = c.told-answer.result;
      over = c.ending-over.result;
      left = c.fall.new.near;
      loss = c.lost_of-loss.result;
      turn_is = c.in_turn-turn.ensures;
      tick_is = c.either-tick.ensures ∙ rw (ok, none) refl;
      lost_is = c.broken_off-lost.ensures;
      run_is = c.older_run-run.ensures;
      near_is = c.forget.ensures;
      bits_is = c.either-bits.ensures;
      store_is = c.clear.ensures;
      brings = c.heard-x.ensures;
      judges = c.judge-v.ensures;
      tells = c.told-answer.ensures;
      answer_is = c.with_loss.ensures;
      loss_is = c.lost_of-loss.ensures;
      settings_after = refl;
      place_after = c.either-self.ensures ∙ rw ok refl;
      over_is = c.ending-over.ensures;
      falls = c.fall.ensures;
      keeps = c.keep.ensures;
      run_after = c.run_after-self.ensures;
      bits_after = c.bits_after-self.ensures;
      store_after = c.store_after.ensures;
    })
