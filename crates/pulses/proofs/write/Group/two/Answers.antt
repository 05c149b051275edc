use Rattle.std.proofs.Common.{◌≡◌, refl, sym, ◌∙◌, arith}
use denote.Enum.Bare.{sameb}
use Rattle.std.proofs.lemmas.Bool.{cond-true, cond-false}
use Rattle.pulses.specs.contracts.pulse.Sign.{the_type}
use Rattle.pulses.specs.declared.pulse.Sign.{Sign}
use Rattle.pulses.specs.declared.pulse.Sign.TheVariants.{Plus, Minus}
use Rattle.pulses.specs.Pulses.{alike}
use Rattle.pulses.proofs.WriteSteps.{two_written}
use Rattle.pulses.proofs.write.Group.two.Goals as goal

alike_is : (s t : Sign) → alike s t ≡ sameb the_type s t
alike_is Plus Plus = refl
alike_is Plus Minus = refl
alike_is Minus Plus = refl
alike_is Minus Minus = refl

pub returns-then-eq-clause-value : goal.returns-then-eq-clause-value
returns-then-eq-clause-value c =
    let e = two_written c.args.self.width c.args.self.pulses.now (omega arith) c.args.self.sorted in
    let h = alike_is _ _ ∙ sym c.eq.ensures ∙ c.if-eq.true in
    c.pair.ensures.value ∙ sym (e ∙ cond-true _ _ _ h)

pub returns-else-eq-clause-value : goal.returns-else-eq-clause-value
returns-else-eq-clause-value c =
    let e = two_written c.args.self.width c.args.self.pulses.now (omega arith) c.args.self.sorted in
    let h = alike_is _ _ ∙ sym c.eq.ensures ∙ c.if-eq.false in
    c.pair-else-eq.ensures.value ∙ sym (e ∙ cond-false _ _ _ h)
