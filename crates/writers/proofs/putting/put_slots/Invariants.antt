use Rattle.std.proofs.Common.{◌≡◌, ◌+◌, ◌≤◌, ◌++◌, length}
use Rattle.modes.specs.Plan.{total}
use Rattle.modes.specs.Slots.{slots_left}
use Rattle.frames.specs.Bits.{frame_bits}
use Rattle.messages.specs.Written.{as_cells}
use Rattle.writers.proofs.Along.{slot_cells}
use Rattle.writers.proofs.putting.put_slots.Given as goal

abbrev pub invariant-loop-slot : goal.invariant-loop-slot
invariant-loop-slot g l =
    let cells = g.C.ReadCarrier.cells in
    let room = g.C.WriteCarrier.room in
    let home = g.C.WriteCarrier.home in
    let ss = slots_left l.slot-iterator in
    (room l.carrier ≡ room l.initial.carrier)
    × (home l.carrier ≡ home l.initial.carrier)
    × (l.slot-iterator.mode ≡ l.frame.mode)
    × (length (cells l.carrier) + total ss ≤ room l.carrier)
    × (cells l.carrier ++ slot_cells l.frame ss ≡ cells l.initial.carrier ++ as_cells (frame_bits l.frame))
