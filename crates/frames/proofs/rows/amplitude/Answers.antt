use Rattle.std.proofs.Common.{◌<◌, length, take, sym, refl, ◌∙◌, arith}
use Rattle.pulses.specs.declared.pulse.Sign.TheVariants.{Plus, Minus}
use Rattle.pulses.specs.Pulses.{tally}
use Rattle.frames.specs.Sound.{amplitude_at}
use Rattle.frames.proofs.Sounds.{amplitude_hit, amplitude_miss, few_more, sum_fits, sum_is}
use Rattle.frames.proofs.rows.amplitude.Goals as goal
use Rattle.frames.proofs.rows.amplitude.Goals.{then-p-place, else-p-place}

pub loop-p-init : goal.loop-p-init
unfolding amplitude_at
loop-p-init c = (refl, omega arith)

pub overflow_add-sum : goal.overflow_add-sum
unfolding amplitude_at
overflow_add-sum c =
    let ps = take c.loop-p.p-index c.args.pulses.now in
    let x = c.args.place in
    sum_fits _ _ c.step-sum.result (tally ps x Plus) (tally ps x Minus) c.loop-p.p-index c.loop-p.invariant.0 c.loop-p.invariant.1 (omega arith) c.step-sum.ensures

pub loop-p-preserved : goal.loop-p-preserved
unfolding amplitude_at
loop-p-preserved c =
    let all = c.args.pulses.now in
    let k = c.loop-p.p-index in
    let ps = take k all in
    let x = c.args.place in
    let l : k < length all = omega arith in (
      elim c.if-p-place.branch [
        | then-p-place w ↦
            w.sum-is
            ∙ sum_is _ _ w.step-sum.result (tally ps x Plus) (tally ps x Minus) k c.loop-p.invariant.0 c.loop-p.invariant.1 (omega arith) w.step-sum.ensures
            ∙ sym (amplitude_hit all k x l w.if-p-place.true)
        | else-p-place w ↦ w.sum-is ∙ c.loop-p.invariant.0 ∙ sym (amplitude_miss all k x l w.if-p-place.false)
      ],
      few_more all k x l c.loop-p.invariant.1,
    )
