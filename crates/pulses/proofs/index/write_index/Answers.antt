use Rattle.std.proofs.Common.{◌≡◌, length, take, Ok, sym, ap, ◌∙◌, arith}
use Rattle.std.proofs.lemmas.Result.{err_from_is_err_and}
use Rattle.std.proofs.lemmas.List.{length-take}
use Rattle.refusals.specs.declared.cause.Cause.TheVariants.{WrongNumber}
use Rattle.pulses.proofs.CallLaws.{in_use, in_use_so, not_in_use, rowed, write_unused, write_refused, write_answers, amplitudes_tell_the_set}
use Rattle.pulses.proofs.index.write_index.Goals as goal

pub returns-in_err-number-clause-answer : goal.returns-in_err-number-clause-answer
returns-in_err-number-clause-answer c =
    let p = err_from_is_err_and c.from_residual.result c.from_residual.ensures.1 in
    let none = c.in_err-number.ensures.ok_part in
    let e = rw none at c.in_err-number.ensures.value in
    let k : c.in_err-number.field-0.0 ≡ WrongNumber = cc in
    rw (p.1, p.2, k) (sym (write_unused c.args.width c.args.pulses.now (not_in_use (length c.args.pulses.now) c.args.width _ none c.new.ensures)))

pub returns-in_err-row-clause-answer : goal.returns-in_err-row-clause-answer
returns-in_err-row-clause-answer c =
    let t = in_use_so (length c.args.pulses.now) c.args.width _ _ c.in_ok-number.ensures.ok_part c.new.ensures in
    let p = err_from_is_err_and c.from_residual-in_err-row.result c.from_residual-in_err-row.ensures.1 in
    rw (p.1, p.2) (sym (write_refused c.args.width c.args.pulses.now _ t.0 (rw (t.1.0, t.1.1) at (sym c.track_set.ensures ∙ c.in_err-row.was))))

pub invariant_of-group-clause-sorted : goal.invariant_of-group-clause-sorted
invariant_of-group-clause-sorted c =
    let M = c.args.width in
    let ps = c.args.pulses.now in
    let t = in_use_so (length c.args.pulses.now) c.args.width _ _ c.in_ok-number.ensures.ok_part c.new.ensures in
    let r = rowed (length ps) M ps c.in_ok-row.row (omega arith) (in_use (length ps) M t.0).few (rw (t.1.0, t.1.1) at (sym c.track_set.ensures ∙ c.in_ok-row.was)) in
    rw (t.1.0, t.1.1) r.front_sorted

pub invariant_of-group-clause-few : goal.invariant_of-group-clause-few
invariant_of-group-clause-few c =
    let t = in_use_so (length c.args.pulses.now) c.args.width _ _ c.in_ok-number.ensures.ok_part c.new.ensures in
    omega (arith, length-take c.in_ok-number.field-0.number c.in_ok-row.row)

pub returns-clause-answer : goal.returns-clause-answer
returns-clause-answer c =
    let t = in_use_so (length c.args.pulses.now) c.args.width _ _ c.in_ok-number.ensures.ok_part c.new.ensures in
    let n = length c.args.pulses.now in
    let y : length (take n c.in_ok-row.row) ≡ n = omega (arith, length-take n c.in_ok-row.row, (in_use n c.args.width t.0).few) in
    let e = write_answers c.args.width c.args.pulses.now c.in_ok-row.row t.0 (rw (t.1.0, t.1.1) at (sym c.track_set.ensures ∙ c.in_ok-row.was)) in
    ap Ok (rw y at (rw (t.1.0, t.1.1) at c.index.ensures.value)) ∙ sym e

pub returns-in_err-number-clause-amplitudes_tell_the_set : goal.returns-in_err-number-clause-amplitudes_tell_the_set
returns-in_err-number-clause-amplitudes_tell_the_set c = amplitudes_tell_the_set c.args.width c.args.pulses.now

pub returns-in_err-row-clause-amplitudes_tell_the_set : goal.returns-in_err-row-clause-amplitudes_tell_the_set
returns-in_err-row-clause-amplitudes_tell_the_set c = amplitudes_tell_the_set c.args.width c.args.pulses.now

pub returns-clause-amplitudes_tell_the_set : goal.returns-clause-amplitudes_tell_the_set
returns-clause-amplitudes_tell_the_set c = amplitudes_tell_the_set c.args.width c.args.pulses.now
