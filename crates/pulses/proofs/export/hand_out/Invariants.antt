use Rattle.std.proofs.Common.{◌≡◌, ◌++◌, map, take, drop}
use Rattle.pulses.specs.Octets.{octet_of}
use Rattle.pulses.proofs.export.hand_out.Given as goal

abbrev pub invariant-loop-i : goal.invariant-loop-i
invariant-loop-i l = l.out ≡ map octet_of (take l.i l.pulses) ++ drop l.i l.initial.out
