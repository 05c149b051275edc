use Rattle.std.proofs.Common.{length, sym, ◌∙◌, arith}
use Rattle.pulses.specs.Calls.{read_index}
use Rattle.pulses.proofs.Border.{handed_ok, read_fits}
use Rattle.pulses.proofs.export.vilchuqa_read_index.Goals as goal

pub answer-requires : goal.answer-requires
answer-requires c x e =
    let how = c.way.result in
    let n = c.args.pulses in
    let M = c.args.width in
    let i = c.args.index in
    let h = handed_ok (length c.args.out.now) x (read_index how n M i) (sym c.read_out.ensures.answer ∙ e) in
    omega (arith, (read_fits how n M i h.0 h.1.0).few, h.1.1.0)
