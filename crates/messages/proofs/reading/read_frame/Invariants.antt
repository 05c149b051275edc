use Rattle.std.proofs.Common.{◌≡◌, List, length}
use Rattle.std.specs.Option.{option_map}
use Rattle.messages.specs.Messages.{Content}
use Rattle.messages.specs.Seen.{framed}
use Rattle.messages.specs.Contents.{nth}
use Rattle.messages.proofs.Walking.{Walked}
use Rattle.messages.proofs.reading.read_frame.Given as goal

abbrev pub invariant-loop-k : goal.invariant-loop-k
invariant-loop-k g l =
    let cells = g.R.ReadCarrier.cells in
    let it = l.k-iterator.iter in
    (bs : List Content)
    × Walked l.fn.how (cells l.fn.carrier) bs (option_map (λ h. record { how = it.how; cells = cells h.carrier.now; frame = h.frame; at = h.at }) it.next)
    × (l.k-iterator.count ≡ length bs)
    × (framed l.frame ≡ nth bs l.fn.n)
