use Rattle.std.proofs.Common.{◌≡◌, List, length}
use Rattle.std.specs.Option.{option_map}
use Rattle.messages.specs.Messages.{Content}
use Rattle.messages.proofs.Walking.{Walked}
use Rattle.messages.proofs.reading.count_frames.Given as goal

abbrev pub invariant-loop-body : goal.invariant-loop-body
invariant-loop-body g l =
    let cells = g.R.ReadCarrier.cells in
    let it = l.body-iterator in
    (bs : List Content)
    × Walked l.fn.how (cells l.fn.carrier) bs (option_map (λ h. record { how = it.how; cells = cells h.carrier.now; frame = h.frame; at = h.at }) it.next)
    × (l.count ≡ length bs)
