use Rattle.std.proofs.Common.{◌≡◌, ◌++◌, refl, sym, ap, ◌∙◌, arith}
use Rattle.carriers.specs.Fields.{bits_of}
use Rattle.modes.specs.declared.slots.Slots.{Slots}
use Rattle.modes.specs.Plan.{plan}
use Rattle.modes.specs.Slots.{slots_left}
use Rattle.writers.proofs.Along.{slot_cells, cells_start, cells_more, cells_end, room_more}
use Rattle.writers.proofs.putting.put_slots.Goals as goal

pub loop-slot-init : goal.loop-slot-init
loop-slot-init g c =
    let f = c.args.frame.now in
    let cells = g.C.ReadCarrier.cells c.args.carrier.now in
    let same = c.into_iter-slot-iterator.ensures.into_iter_gives in
    let slots = c.slots-slot-items.ensures in
    let left : slots_left c.into_iter-slot-iterator.result ≡ plan f.mode = ap slots_left same ∙ slots.all ∙ ap plan c.mode.ensures in
    (refl, refl, ap (λ (s : Slots). s.mode) same ∙ slots.mode ∙ c.mode.ensures, rw left c.requires, ap (λ l. cells ++ l) (ap (slot_cells f) left ∙ cells_start f))

pub loop-slot-preserved : goal.loop-slot-preserved
loop-slot-preserved g c =
    let f = c.args.frame.now in
    let l = c.loop-slot in
    let x = c.in-Some.slot in
    let s = c.in-Some.ensures.steps in
    let put = c.put_field.ensures in
    let ss = slots_left l.slot-iterator in
    let rest = slots_left c.next.new.self in
    let room = g.C.WriteCarrier.room l.carrier in
    let before = g.C.ReadCarrier.cells l.carrier in
    let after = g.C.ReadCarrier.cells c.put_field.new.carrier in
    let v = c.part_value-value.result in
    let grown : after ≡ before ++ bits_of x.width v = put.put ∙ ap (λ n. before ++ bits_of n v) c.from.ensures in
    let r = room_more room ss rest x before after v s.0 grown l.invariant.3 in (
      put.fixed ∙ l.invariant.0,
      put.home ∙ l.invariant.1,
      s.1 ∙ l.invariant.2,
      omega (arith, r, put.fixed),
      cells_more f ss rest x before after v s.0 c.part_value-value.ensures grown ∙ l.invariant.4,
    )

pub returns-clause-put : goal.returns-clause-put
returns-clause-put g c =
    let l = c.loop-slot in
    let cells = g.C.ReadCarrier.cells l.carrier in
    sym (cells_end c.args.frame.now (slots_left l.slot-iterator) cells c.in-None.ensures.steps.0) ∙ l.invariant.4
