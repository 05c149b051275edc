use Rattle.std.proofs.Common.{◌≡◌, ◌+◌, ◌≤◌, ◌++◌, length}
use Rattle.carriers.specs.Fields.{bits_of}
use Rattle.carriers.proofs.fields.put_bits.Given as goal

abbrev pub invariant-loop-place : goal.invariant-loop-place
invariant-loop-place g l =
    let cells = g.C.ReadCarrier.cells in
    let room = g.C.WriteCarrier.room in
    let home = g.C.WriteCarrier.home in
    record {
      fixed : room l.carrier ≡ room l.initial.carrier;
      home : home l.carrier ≡ home l.initial.carrier;
      fits : length (cells l.carrier) + l.place ≤ room l.carrier;
      whole : cells l.carrier ++ bits_of l.place l.value ≡ cells l.initial.carrier ++ bits_of l.width l.value;
    }
