use Rattle.std.proofs.Common.{rules}
use Rattle.std.proofs.lemmas.List.Sorted.{IsNonDecreasingBy-from_sort, answers_always}
use Rattle.pulses.proofs.Ordered.{in_order}
use Rattle.pulses.proofs.set.in_order.Goals as goal

pub returns : goal.returns
returns c =
    in_order c.args.pulses.now c.copy_from_slice.new.self c.sort_unstable_by_key.new.self c.requires c.copy_from_slice.ensures.after c.sort_unstable_by_key.ensures.permutation
    (IsNonDecreasingBy-from_sort (λ p. p.place) _ (c.sort_unstable_by_key.ensures.sorted (λ p. p.place) (answers_always _ _ _ (λ f a r g h. search rules))))
