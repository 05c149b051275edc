use Rattle.std.proofs.Common.{◌≡◌, ◌*◌, ◌%◌, ◌^◌, arith}
use Rattle.pulses.proofs.WriteSteps.{pair_written}
use Rattle.pulses.proofs.write.Group.pair.Goals as goal

pub returns-clause-value : goal.returns-clause-value
returns-clause-value c =
    let M = c.args.self.width in
    let e = pair_written M (c.args.a.place % 2 ^ M) (c.args.b.place % 2 ^ M) c.args.a.sign in
    let g : c.above.result.count ≡ 2 * c.args.self.width = omega arith in
    cc
