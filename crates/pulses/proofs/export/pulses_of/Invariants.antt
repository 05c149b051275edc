use Rattle.std.proofs.Common.{◌≡◌, map, length, take}
use Rattle.pulses.specs.Octets.{pulse_of}
use Rattle.pulses.proofs.export.pulses_of.Given as goal

abbrev pub invariant-loop-i : goal.invariant-loop-i
invariant-loop-i l = (length l.row ≡ 6) × (take l.i l.row ≡ map pulse_of (take l.i l.octets))
