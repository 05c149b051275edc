use Rattle.std.proofs.Common.{◌≡◌, Ok, Err, ◌∙◌, rules}
use Rattle.std.proofs.lemmas.Result.{err_from_is_err_and}
use Rattle.messages.proofs.Steps.{slot_by}
use Rattle.messages.proofs.Mapped.{mapped_ok, mapped_err}
use Rattle.messages.proofs.fields.Cursor.value.Goals as goal

pub returns-in_err-map_err-clause-is : goal.returns-in_err-map_err-clause-is
returns-in_err-map_err-clause-is g c =
    let h = c.args.self.now in
    let b = c.args.before.now in
    let p = err_from_is_err_and c.from_residual-in_err-map_err.result c.from_residual-in_err-map_err.ensures.1 in
    let q = mapped_err c.map_err.result _ c.question.result c.in_err-map_err.field-0.0 c.map_err.ensures.cases c.in_err-map_err.was in
    let told : c.in_err-map_err.field-0.0 ≡ record { cause = q.0.cause; spot = c.spot-spot.result } = search rules in
    rw (p.1, p.2, told) (slot_by b.how (g.R.ReadCarrier.cells h.carrier.now) b.mode h.frame h.at c.args.slot b.values c.spot-spot.result c.in_ok-number.number (Err q.0) (rw c.spot.ensures at c.spot-spot.ensures) c.in_ok-number.ensures.is (q.1 ∙ c.question.ensures))

pub returns-clause-is : goal.returns-clause-is
returns-clause-is g c =
    let h = c.args.self.now in
    let b = c.args.before.now in
    slot_by b.how (g.R.ReadCarrier.cells h.carrier.now) b.mode h.frame h.at c.args.slot b.values c.spot-spot.result c.in_ok-number.number (Ok c.in_ok-map_err.field-0) (rw c.spot.ensures at c.spot-spot.ensures) c.in_ok-number.ensures.is (mapped_ok c.map_err.result _ c.question.result c.in_ok-map_err.field-0 c.map_err.ensures.cases c.in_ok-map_err.was ∙ c.question.ensures)
