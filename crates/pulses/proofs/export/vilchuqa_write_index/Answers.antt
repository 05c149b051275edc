use Rattle.std.proofs.Common.{map, sym, ◌∙◌}
use Rattle.pulses.specs.Octets.{pulse_of}
use Rattle.pulses.proofs.Border.{index_small}
use Rattle.pulses.proofs.export.vilchuqa_write_index.Goals as goal

pub answer-requires : goal.answer-requires
answer-requires c x e = index_small c.args.width (map pulse_of c.args.pulses.now) x (sym c.written.ensures ∙ e)
