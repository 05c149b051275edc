use Rattle.std.proofs.Common.{◌≡◌, ◌-◌, ◌/◌, ◌%◌, ◌^◌, ◌∙◌, rules}
use Rattle.std.specs.Prelude.{nat_eq, count_by}
use Rattle.pulses.proofs.WriteSteps.{lows}
use Rattle.pulses.proofs.write.Group.lower.Goals as goal

pub returns-clause-is : goal.returns-clause-is
returns-clause-is c =
    let M = c.args.self.width in
    let ps = c.args.self.pulses.now in
    let e : c.count.result ≡ count_by (λ p. nat_eq (p.place % 2 ^ M / 2 ^ (M - 1)) 0) ps = search rules in
    e ∙ lows M ps
