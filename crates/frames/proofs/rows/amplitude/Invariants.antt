use Rattle.std.proofs.Common.{◌≡◌, ◌+◌, ◌≤◌, take}
use Rattle.pulses.specs.declared.pulse.Sign.TheVariants.{Plus, Minus}
use Rattle.pulses.specs.Pulses.{tally}
use Rattle.frames.specs.Sound.{amplitude_at}
use Rattle.frames.proofs.rows.amplitude.Given as goal

abbrev pub invariant-loop-p : goal.invariant-loop-p
invariant-loop-p l =
    (l.sum ≡ amplitude_at (take l.p-index l.pulses) l.place)
    × (tally (take l.p-index l.pulses) l.place Plus + tally (take l.p-index l.pulses) l.place Minus ≤ l.p-index)
