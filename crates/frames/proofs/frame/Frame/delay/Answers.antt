use Rattle.std.proofs.Common.{◌∙◌}
use Rattle.frames.proofs.Lags.{last_long_lem, delay_long, delay_short}
use Rattle.frames.proofs.frame.Frame.delay.Goals as goal

pub returns-then-long-subframe : goal.returns-then-long-subframe
returns-then-long-subframe c =
    delay_long c.args.self.now c.args.subframe c.last_long-long.result c.field_bits.result c.held.result c.long_delay-q.result
    (c.last_long-long.ensures.is ∙ last_long_lem c.args.subframe c.requires c.args.self.now.mode) c.field_bits.ensures.is c.held.ensures.is c.long_delay-q.ensures.is
    c.if-long-subframe.true

pub returns : goal.returns
returns c =
    delay_short c.args.self.now c.args.subframe c.last_long-long.result c.field_bits.result c.held.result c.long_delay-q.result
    c.short_base.result c.field_bits-2.result c.step.result c.held-2.result
    (c.last_long-long.ensures.is ∙ last_long_lem c.args.subframe c.requires c.args.self.now.mode) c.field_bits.ensures.is c.held.ensures.is c.long_delay-q.ensures.is
    c.if-long-subframe.false c.short_base.ensures.is c.field_bits-2.ensures.is c.step.ensures.is c.held-2.ensures.is
