use Rattle.std.proofs.Common.{◌≡◌, ◌-◌, cond, length, sym, ◌∙◌}
use Rattle.std.specs.Prelude.{◌==◌}
use Rattle.std.proofs.lemmas.Bool.{cond-true, cond-false}
use Rattle.pulses.specs.Sets.{at}
use Rattle.pulses.proofs.WriteSteps.{ends_are}
use Rattle.pulses.proofs.write.ends.Goals as goal
use Rattle.pulses.proofs.write.ends.Goals.{then-is_empty, else-is_empty, then-is_empty-2, else-is_empty-2}

pub returns : goal.returns
returns c =
    let js = c.args.before.now in
    let ks = c.args.after.now in
    let first : c.if-is_empty.first ≡ cond (length js == 0) (at ks 0) (at js 0) =
    elim c.if-is_empty.branch [
      | then-is_empty w ↦ w.first-is ∙ sym (cond-true _ _ _ (sym c.is_empty.ensures ∙ w.if-is_empty.true))
      | else-is_empty w ↦ w.first-is ∙ sym (cond-false _ _ _ (sym c.is_empty.ensures ∙ w.if-is_empty.false))
    ] in
    let last : c.if-is_empty-2.last ≡ cond (length ks == 0) (at js (length js - 1)) (at ks (length ks - 1)) =
    elim c.if-is_empty-2.branch [
      | then-is_empty-2 w ↦ w.last-is ∙ sym (cond-true _ _ _ (sym c.is_empty-2.ensures ∙ w.if-is_empty-2.true))
      | else-is_empty-2 w ↦ w.last-is ∙ sym (cond-false _ _ _ (sym c.is_empty-2.ensures ∙ w.if-is_empty-2.false))
    ] in
    ends_are js ks _ _ c.requires.some c.requires.few first last
