use Rattle.std.proofs.Common.{◌≡◌, Some, None, sym, ◌∙◌, subst, rules}
use Rattle.modes.specs.Plan.{Narrow}
use Rattle.modes.specs.Places.{slot_at}
use Rattle.modes.proofs.Listed.{places, narrow}
use Rattle.modes.proofs.mode.Mode.slot_at.Goals as goal

pub returns-then-k-heads : goal.returns-then-k-heads
unfolding slot_at
returns-then-k-heads c =
    let e : Some c.slot.result ≡ slot_at c.args.self c.args.k = search rules in
    let is = e ∙ places c.args.self c.args.k in
    record { is = is; narrow = subst Narrow (sym is) (narrow c.args.self c.args.k) }

pub returns-then-s-ge4 : goal.returns-then-s-ge4
unfolding slot_at
returns-then-s-ge4 c =
    let e : None ≡ slot_at c.args.self c.args.k = search rules in
    record { is = e ∙ places c.args.self c.args.k; narrow = tt }

pub returns : goal.returns
unfolding slot_at
returns c =
    let e : Some c.slot-2.result ≡ slot_at c.args.self c.args.k = search rules in
    let is = e ∙ places c.args.self c.args.k in
    record { is = is; narrow = subst Narrow (sym is) (narrow c.args.self c.args.k) }
