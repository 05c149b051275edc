use Rattle.std.proofs.Common.{rules}
use Rattle.std.proofs.lemmas.List.Sorted.{answers_always}
use Rattle.pulses.specs.Sets.{follows}
use Rattle.pulses.proofs.set.all_follow.Goals as goal

pub returns : goal.returns
returns c = c.is_sorted_by.ensures.cases follows (answers_always _ _ _ (λ f a r g h. search rules))
