use Rattle.std.proofs.Common.{string_bytes, ◌∙◌, arith}
use Rattle.sheets.proofs.Texts.{delays_more}
use Rattle.sheets.proofs.sheet.add_delays.Goals as goal

pub loop-s-preserved : goal.loop-s-preserved
loop-s-preserved c =
    c.in_ok-add_line.ensures
    ∙ delays_more (string_bytes c.args.text.now) (string_bytes c.loop-s.text) c.args.n c.args.frame.now c.delays.result c.loop-s.s (omega arith) c.delays.ensures c.loop-s.invariant
