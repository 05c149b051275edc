use Rattle.std.proofs.Common.{ℕ, refl, pow_pos, rules}
use Rattle.modes.specs.Fields.{cell_of}
use Rattle.frames.proofs.Blanks.{replicate_at, blank_fit, blank_on, blank_rising, blank_padded, blank_long, blank_track}
use Rattle.frames.proofs.frame.Frame.of.Goals as goal

pub invariant_of-result : goal.invariant_of-result
invariant_of-result c = record {
  fit = blank_fit _;
  on = λ i k. blank_on _ i k (search (rules, pow_pos));
  rising = λ i k h. blank_rising i k;
  padded = λ i k h. blank_padded i k;
  long = blank_long;
  cells = refl;
  rows = refl;
}

pub returns-clause-blank : goal.returns-clause-blank
returns-clause-blank c = record { fields = λ x. replicate_at {X = ℕ} 24 (cell_of x) 0; tracks = λ s t. blank_track _ s t }
