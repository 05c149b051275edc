use Rattle.std.proofs.Common.{string_bytes, ◌∙◌, arith}
use Rattle.std.proofs.lemmas.Result.{IfOk-weaker}
use Rattle.sheets.proofs.Texts.{frames_more, frames_all}
use Rattle.sheets.proofs.sheet.add_frames.Goals as goal

pub loop-n-preserved : goal.loop-n-preserved
loop-n-preserved c =
    c.in_ok-add_delays.ensures
    ∙ frames_more (string_bytes c.args.text.now) (string_bytes c.loop-n.text) c.args.frames.now c.loop-n.n _ (omega arith) c.index-frames-n.is c.loop-n.invariant

pub returns : goal.returns
returns c =
    IfOk-weaker c.add_line.result _ _
    (λ u e. frames_all (string_bytes c.args.text.now) (string_bytes c.loop-n.text) (string_bytes c.add_line.new.text) c.args.frames.now c.loop-n.n c.loop-n-test.false c.loop-n.invariant e)
    c.add_line.ensures
