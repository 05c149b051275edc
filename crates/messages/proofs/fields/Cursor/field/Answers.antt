use Rattle.std.proofs.Common.{◌^◌, ◌<◌, ◌≤◌, Ok, arith, pow_mono}
use Rattle.messages.proofs.Fitting.{field_fits, field_inside}
use Rattle.messages.proofs.fields.Cursor.field.Goals as goal
use Rattle.messages.proofs.fields.Cursor.field.Goals.{In_ok-number}

fits : (g : _) (c : In_ok-number g) → c.in_ok-number.number < 2 ^ c.args.width
fits g c = field_fits (g.R.ReadCarrier.cells c.args.self.now.carrier.now) c.args.spot c.args.self.now.at c.args.width (Ok c.in_ok-number.number) c.in_ok-number.ensures

pub overflow_cast-result : goal.overflow_cast-result
overflow_cast-result g c =
    let f = fits g (goal.at.overflow_cast-result g c).In_ok-number in
    let m : 2 ^ c.args.width ≤ 2 ^ 16 = pow_mono c.requires in
    omega (arith, f)

pub returns-clause-fits : goal.returns-clause-fits
returns-clause-fits g c = fits g (goal.at.returns-clause-fits g c).In_ok-number

pub returns-clause-inside : goal.returns-clause-inside
returns-clause-inside g c =
    let h = c.args.self.now in
    field_inside (g.R.ReadCarrier.cells h.carrier.now) c.args.spot h.at c.args.width (Ok c.in_ok-number.number) h.inside c.in_ok-number.ensures
