use Rattle.std.proofs.Common.{◌^◌, ◌≤◌, sym, ◌∙◌, arith, pow_mono}
use Rattle.std.proofs.lemmas.Bool.{le-leb, lt-ltb}
use Rattle.pulses.proofs.set.is_on.Goals as goal

pub returns-then-width-ge8 : goal.returns-then-width-ge8
returns-then-width-ge8 c =
    let l : 2 ^ 8 ≤ 2 ^ c.args.width = pow_mono c.if-width-ge8.true in
    le-leb 8 c.args.width c.if-width-ge8.true ∙ sym (lt-ltb c.args.place (2 ^ c.args.width) (omega arith))
