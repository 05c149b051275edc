use Rattle.std.proofs.Common.{◌≡◌, ℕ, ◌<◌, get_or, pos}
use Rattle.frames.specs.Sound.{sample}
use Rattle.frames.proofs.frame.Frame.excitation.Given as goal

abbrev pub invariant-loop-k : goal.invariant-loop-k
invariant-loop-k l = (k : ℕ) → k < l.k → get_or l.sample-items k (pos 0) ≡ sample l.self k
