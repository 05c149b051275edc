use Rattle.std.proofs.Common.{◌≡◌, ℕ, ◌+◌, ◌-◌, ◌<◌, ◌≤◌, ◌⊎◌, length, take, ap, inl, inr, ⊎_elim, arith}
use Rattle.pulses.specs.Within.{Chosen}
use Rattle.pulses.proofs.Within.{chosen_at}
use Rattle.pulses.proofs.write.Group.choose.Goals as goal
use Rattle.pulses.proofs.write.Group.choose.Goals.{After-ends, then-k-n, else-k-n}

chosen : (c : After-ends) → Chosen c.args.k c.args.self.width c.args.self.pulses.now c.if-k-n.value.0 c.split_at-2.result.0.now (take (length c.args.self.pulses.now - c.args.k) c.ends.result)
chosen c =
    let k = c.args.k in
    let n = c.lower-n.result in
    let ps = c.args.self.pulses.now in
    let h = c.if-k-n.value.0 in
    let s = c.if-k-n.value.1 in
    let way : ((k ≤ n) × ((h ≡ 0) × (s ≡ 0))) ⊎ ((n < k) × ((h ≡ 1) × (s ≡ n))) =
    elim c.if-k-n.branch [
      | then-k-n w ↦ inl (w.if-k-n.true, (ap (λ (z : ℕ × ℕ). z.0) w.value-is, ap (λ (z : ℕ × ℕ). z.1) w.value-is))
      | else-k-n w ↦ inr (w.if-k-n.false, (ap (λ (z : ℕ × ℕ). z.0) w.value-is, ap (λ (z : ℕ × ℕ). z.1) w.value-is))
    ] in
    let within : s + k ≤ length ps = ⊎_elim (λ t. omega (arith, t.0, t.1.1)) (λ t. omega (arith, t.0, t.1.1)) way in
    chosen_at k c.args.self.width n h s ps _ _ _ _ c.ends.result c.requires.width c.args.self.sorted c.lower-n.ensures.is c.lower-n.ensures.within way within
    c.split_at.ensures.front c.split_at.ensures.back c.split_at-2.ensures.front c.split_at-2.ensures.back c.ends.ensures

pub invariant_of-result-2-clause-sorted : goal.invariant_of-result-2-clause-sorted
invariant_of-result-2-clause-sorted c = (chosen (goal.at.invariant_of-result-2-clause-sorted c).After-ends).group_sorted

pub returns-clause-chosen : goal.returns-clause-chosen
returns-clause-chosen c = chosen (goal.at.returns-clause-chosen c).After-ends
