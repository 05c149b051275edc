use Rattle.std.proofs.Common.{◌≡◌, ◌-◌, Some, None, Ok, Err, Option, Result, ap, ◌∙◌, rules}
use Rattle.std.proofs.lemmas.Result.{err_from_is_err_and}
use Rattle.refusals.specs.declared.cause.Cause.{Cause}
use Rattle.modes.specs.declared.mode.Mode.{Mode}
use Rattle.messages.specs.Messages.{content}
use Rattle.messages.specs.Asked.{begun}
use Rattle.messages.proofs.Turning.{turn_stop, turn_by, turn_end, turn_refuse, turn_frame}
use Rattle.messages.proofs.Mapped.{mapped_ok, mapped_err}
use Rattle.messages.proofs.fields.Cursor.turn.Goals as goal
use Rattle.messages.proofs.fields.Cursor.turn.Goals.{In_ok-map_err}

-- what the mode cells began
what : (g : _) (c : In_ok-map_err g) → ◌≡◌ {A = Result (Option Mode) Cause} (Ok c.in_ok-map_err.field-0) (begun (512 - c.args.self.now.frame) c.in_ok-number.number)
what g c = mapped_ok c.map_err.result _ c.begun.result c.in_ok-map_err.field-0 c.map_err.ensures.cases c.in_ok-map_err.was ∙ c.begun.ensures

pub returns-in_err-number-clause-is : goal.returns-in_err-number-clause-is
returns-in_err-number-clause-is g c =
    let h = c.args.self.now in
    let p = err_from_is_err_and c.from_residual.result c.from_residual.ensures.1 in
    rw (p.1, p.2) (turn_stop c.args.how (g.R.ReadCarrier.cells h.carrier.now) (512 - h.frame) h.frame h.at c.spot-spot.result (rw c.nowhere.ensures at c.spot-spot.ensures) _ c.in_err-number.ensures.is)

pub returns-in_err-map_err-clause-is : goal.returns-in_err-map_err-clause-is
returns-in_err-map_err-clause-is g c =
    let h = c.args.self.now in
    let cells = g.R.ReadCarrier.cells h.carrier.now in
    let here = rw c.nowhere.ensures at c.spot-spot.ensures in
    let p = err_from_is_err_and c.from_residual-in_err-map_err.result c.from_residual-in_err-map_err.ensures.1 in
    let q = mapped_err c.map_err.result _ c.begun.result c.in_err-map_err.field-0.0 c.map_err.ensures.cases c.in_err-map_err.was in
    let told : c.in_err-map_err.field-0.0 ≡ record { cause = q.0; spot = c.spot-spot.result } = search rules in
    rw (p.1, p.2, told) (
    turn_refuse c.args.how cells h.frame h.at q.0 c.spot-spot.result here
    ∙ turn_by c.args.how cells (512 - h.frame) h.frame h.at c.spot-spot.result here c.in_ok-number.number (Err q.0) c.in_ok-number.ensures.is (q.1 ∙ c.begun.ensures)
    )

pub returns-in_err-ending-in-None-clause-is : goal.returns-in_err-ending-in-None-clause-is
returns-in_err-ending-in-None-clause-is g c =
    let h = c.args.self.now in
    let cells = g.R.ReadCarrier.cells h.carrier.now in
    let on = c.behind-behind.ensures in
    let p = err_from_is_err_and c.from_residual-in_err-ending-in-None.result c.from_residual-in_err-ending-in-None.ensures.1 in
    rw (p.1, p.2) (
    turn_end c.args.how cells h.frame h.at (Err _) (rw (on.carrier, on.frame, on.at) at c.in_err-ending-in-None.ensures)
    ∙ turn_by c.args.how cells (512 - h.frame) h.frame h.at c.spot-spot.result (rw c.nowhere.ensures at c.spot-spot.ensures) c.in_ok-number.number (Ok None) c.in_ok-number.ensures.is (rw c.in-None.is at (what g (goal.at.returns-in_err-ending-in-None-clause-is g c).In_ok-map_err))
    )

pub returns-in_ok-ending-in-None-clause-is : goal.returns-in_ok-ending-in-None-clause-is
returns-in_ok-ending-in-None-clause-is g c =
    let h = c.args.self.now in
    let cells = g.R.ReadCarrier.cells h.carrier.now in
    let on = c.behind-behind.ensures in
    turn_end c.args.how cells h.frame h.at (Ok tt) (rw (on.carrier, on.frame, on.at) at c.in_ok-ending-in-None.ensures)
    ∙ turn_by c.args.how cells (512 - h.frame) h.frame h.at c.spot-spot.result (rw c.nowhere.ensures at c.spot-spot.ensures) c.in_ok-number.number (Ok None) c.in_ok-number.ensures.is (rw c.in-None.is at (what g (goal.at.returns-in_ok-ending-in-None-clause-is g c).In_ok-map_err))

pub returns-in_err-body-in-Some-clause-is : goal.returns-in_err-body-in-Some-clause-is
returns-in_err-body-in-Some-clause-is g c =
    let h = c.args.self.now in
    let cells = g.R.ReadCarrier.cells h.carrier.now in
    let on = c.behind-behind.ensures in
    let p = err_from_is_err_and c.from_residual-in_err-body-in-Some.result c.from_residual-in_err-body-in-Some.ensures.1 in
    rw (p.1, p.2) (
    turn_frame c.args.how cells h.frame h.at c.in-Some.mode (Err _) (rw (on.carrier, on.frame, on.at) at c.in_err-body-in-Some.ensures.is)
    ∙ turn_by c.args.how cells (512 - h.frame) h.frame h.at c.spot-spot.result (rw c.nowhere.ensures at c.spot-spot.ensures) c.in_ok-number.number (Ok (Some c.in-Some.mode)) c.in_ok-number.ensures.is (rw c.in-Some.is at (what g (goal.at.returns-in_err-body-in-Some-clause-is g c).In_ok-map_err))
    )

pub returns-in_ok-body-in-Some-clause-is : goal.returns-in_ok-body-in-Some-clause-is
returns-in_ok-body-in-Some-clause-is g c =
    let h = c.args.self.now in
    let cells = g.R.ReadCarrier.cells h.carrier.now in
    let on = c.behind-behind.ensures in
    let b = c.in_ok-body-in-Some.field-0 in
    let said = c.in_ok-body-in-Some.ensures in
    ap (λ (x : Mode). Ok (Some (content x b.parts.values))) said.mode
    ∙ turn_frame c.args.how cells h.frame h.at c.in-Some.mode (Ok b.parts.values) (rw (on.carrier, on.frame, on.at) at said.is)
    ∙ turn_by c.args.how cells (512 - h.frame) h.frame h.at c.spot-spot.result (rw c.nowhere.ensures at c.spot-spot.ensures) c.in_ok-number.number (Ok (Some c.in-Some.mode)) c.in_ok-number.ensures.is (rw c.in-Some.is at (what g (goal.at.returns-in_ok-body-in-Some-clause-is g c).In_ok-map_err))
