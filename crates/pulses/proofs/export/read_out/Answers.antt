use Rattle.std.proofs.Common.{length, sym, ap, ◌∙◌}
use Rattle.std.proofs.lemmas.Result.{err_from_is_err_and}
use Rattle.pulses.specs.Calls.{read_index, handed}
use Rattle.pulses.specs.Octets.{filled_octets}
use Rattle.pulses.proofs.Border.{handed_err, read_fits, front, filled_not}
use Rattle.pulses.proofs.export.read_out.Goals as goal

pub returns-in_err-number-clause-answer : goal.returns-in_err-number-clause-answer
returns-in_err-number-clause-answer c =
    let how = c.args.how in
    let n = c.args.pulses in
    let M = c.args.width in
    let i = c.args.index in
    let p = err_from_is_err_and c.from_residual.result c.from_residual.ensures.1 in
    let e = handed_err 6 (read_index how n M i) c.in_err-number.field-0.0 (sym c.read_index.ensures.answer ∙ c.in_err-number.was) (λ ps h. (read_fits how n M i ps h).few) in
    rw (p.1, p.2) (sym (ap (handed (length c.args.out.now)) e))

pub returns-in_err-number-clause-buffer : goal.returns-in_err-number-clause-buffer
returns-in_err-number-clause-buffer c =
    let how = c.args.how in
    let n = c.args.pulses in
    let M = c.args.width in
    let i = c.args.index in
    let e = handed_err 6 (read_index how n M i) c.in_err-number.field-0.0 (sym c.read_index.ensures.answer ∙ c.in_err-number.was) (λ ps h. (read_fits how n M i ps h).few) in
    sym (ap (filled_octets c.args.out.now) e ∙ filled_not c.in_err-number.field-0.0 c.args.out.now)

pub hand_out-requires-clause-on : goal.hand_out-requires-clause-on
hand_out-requires-clause-on c =
    (front c.args.how c.args.pulses c.args.width c.args.index c.in_ok-number.number c.read_index.new.out (sym c.read_index.ensures.answer ∙ c.in_ok-number.was) c.read_index.ensures.buffer).on
