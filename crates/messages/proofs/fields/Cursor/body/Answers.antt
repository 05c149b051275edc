use Rattle.std.proofs.Common.{◌≡◌, ◌+◌, Ok, sym, ap, ◌∙◌, subst}
use Rattle.std.proofs.lemmas.Result.{err_from_is_err_and}
use Rattle.pulses.specs.declared.index.Reading.{Reading}
use Rattle.modes.specs.declared.mode.Mode.{Mode}
use Rattle.modes.specs.Plan.{plan, total}
use Rattle.modes.specs.Slots.{slots_left}
use Rattle.messages.specs.Messages.{read_slots, blank}
use Rattle.messages.specs.Contents.{IsFine}
use Rattle.messages.proofs.Steps.{slots_stop, slots_more, slots_end, total_more}
use Rattle.messages.proofs.Placing.{frame_fine}
use Rattle.messages.proofs.Fined.{is_fine}
use Rattle.messages.proofs.fields.Cursor.body.Goals as goal
use Rattle.messages.proofs.fields.Cursor.body.Goals.{In-None}

pub returns-in_err-value-clause-is : goal.returns-in_err-value-clause-is
returns-in_err-value-clause-is g c =
    let l = c.loop-slot in
    let h = l.self in
    let p = err_from_is_err_and c.from_residual.result c.from_residual.ensures.1 in
    rw (p.1, p.2) (
    slots_stop l.parts.how (g.R.ReadCarrier.cells h.carrier.now) l.parts.mode h.frame h.at (slots_left l.slot-iterator) (slots_left c.next.new.self) l.parts.values c.in-Some.slot c.in-Some.ensures.steps.0 _ c.in_err-value.ensures.is
    ∙ l.invariant.4
    )

pub loop-slot-preserved : goal.loop-slot-preserved
loop-slot-preserved g c =
    let l = c.loop-slot in
    let h = l.self in
    let s = c.in-Some.ensures.steps in
    let slot = c.in-Some.slot in
    let ss = slots_left l.slot-iterator in
    let rest = slots_left c.next.new.self in
    let on = c.behind-self.ensures in
    let put = c.put.ensures in (
      on.carrier ∙ l.invariant.0,
      put.how ∙ l.invariant.1,
      put.mode ∙ l.invariant.2,
      ap (λ n. n + total rest) on.at ∙ total_more h.at ss rest slot s.0 ∙ l.invariant.3,
      rw (on.carrier, on.frame, on.at, put.how, put.mode, put.values)
          (slots_more l.parts.how (g.R.ReadCarrier.cells h.carrier.now) l.parts.mode h.frame h.at ss rest l.parts.values slot s.0 c.in_ok-value.value c.in_ok-value.ensures.is) ∙ l.invariant.4,
    )

-- the values, once no slot is left
read : (g : _) (c : In-None g) → Ok c.loop-slot.parts.values ≡ read_slots c.args.how (g.R.ReadCarrier.cells c.args.self.carrier.now) c.args.mode c.args.self.frame c.args.self.at (plan c.args.mode) blank
read g c =
    let l = c.loop-slot in
    let h = l.self in
    slots_end l.parts.how (g.R.ReadCarrier.cells h.carrier.now) l.parts.mode h.frame h.at (slots_left l.slot-iterator) l.parts.values c.in-None.ensures.steps.0 ∙ l.invariant.4

pub invariant_of-result : goal.invariant_of-result
invariant_of-result g c =
    let l = c.loop-slot in
    let a = c.args in
    let vs = l.parts.values in
    let fine = is_fine a.how a.mode vs (frame_fine a.how (g.R.ReadCarrier.cells a.self.carrier.now) a.mode a.self.frame a.self.at vs (sym (read g c))) in
    let by_mode : IsFine a.how l.parts.mode vs = let P : Mode → Type 0 = λ m. IsFine a.how m vs in subst P (sym l.invariant.2) fine in
    record { fine = let P : Reading → Type 0 = λ h. IsFine h l.parts.mode vs in subst P (sym l.invariant.1) by_mode }

pub returns-clause-is : goal.returns-clause-is
returns-clause-is g c = read g (goal.at.returns-clause-is g c).In-None
