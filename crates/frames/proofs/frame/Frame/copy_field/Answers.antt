use Rattle.frames.proofs.Copied.{field_copied, field_left}
use Rattle.frames.proofs.frame.Frame.copy_field.Goals as goal

pub returns-in-Ok : goal.returns-in-Ok
returns-in-Ok c =
    field_copied c.args.self.now c.args.to.now c.set.new.self c.args.field c.in-Ok.value c.set.result c.requires.mode c.in-Ok.ensures c.set.ensures

pub returns-in_default : goal.returns-in_default
returns-in_default c = field_left c.args.self.now c.args.to.now c.args.field c.requires.mode c.in_default.ensures.0
