use Rattle.std.proofs.Common.{◌∙◌}
use Rattle.frames.proofs.Houses.{index_written}
use Rattle.frames.proofs.frame.Frame.index.Goals as goal

pub returns : goal.returns
returns c =
    c.unwrap_or.ensures
    ∙ index_written c.args.self.now c.args.subframe c.args.track c.from.result c.pulses.result.now c.write_index.result (c.from.ensures ∙ c.track_width.ensures.is) c.pulses.ensures.is c.write_index.ensures.answer
