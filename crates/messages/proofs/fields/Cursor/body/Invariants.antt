use Rattle.std.proofs.Common.{◌≡◌, ◌+◌}
use Rattle.modes.specs.Plan.{plan, total}
use Rattle.modes.specs.Slots.{slots_left}
use Rattle.messages.specs.Messages.{read_slots, blank}
use Rattle.messages.proofs.fields.Cursor.body.Given as goal

abbrev pub invariant-loop-slot : goal.invariant-loop-slot
invariant-loop-slot g l =
    let cells = g.R.ReadCarrier.cells in
    let ss = slots_left l.slot-iterator in
    let start = l.initial.self in
    (l.self.carrier.now ≡ start.carrier.now)
    × (l.parts.how ≡ l.fn.how)
    × (l.parts.mode ≡ l.fn.mode)
    × (l.self.at + total ss ≡ start.at + total (plan l.fn.mode))
    × (read_slots l.parts.how (cells l.self.carrier.now) l.parts.mode l.self.frame l.self.at ss l.parts.values ≡ read_slots l.fn.how (cells start.carrier.now) l.fn.mode start.frame start.at (plan l.fn.mode) blank)
