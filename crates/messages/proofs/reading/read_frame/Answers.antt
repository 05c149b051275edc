use Rattle.std.proofs.Common.{ℕ, ◌+◌, cond, eqb, [], ◌∷◌, ◌++◌, Some, Option, refl, sym, ap, ap₂, ◌∙◌}
use Rattle.std.proofs.lemmas.Result.{err_from_is_err_and}
use Rattle.std.proofs.lemmas.List.{length_push}
use Rattle.messages.specs.Messages.{Content, read_frames}
use Rattle.messages.specs.Seen.{content_of, framed}
use Rattle.messages.proofs.Nths.{nth_push}
use Rattle.messages.proofs.Walking.{walk_start, walk_more, walk_over, walk_refused}
use Rattle.messages.proofs.Gathering.{refused_returned, returned}
use Rattle.messages.proofs.reading.read_frame.Goals as goal

pub loop-k-init : goal.loop-k-init
loop-k-init g c =
    let same = c.into_iter-k-iterator.ensures.into_iter_gives in
    let by = c.enumerate-k-items.ensures in (
      [],
      walk_start c.args.how (g.R.ReadCarrier.cells c.args.carrier.now) _ (rw (same, by.source) c.new.ensures),
      rw same by.count,
      refl,
    )

pub returns-in_err-body-clause-answer : goal.returns-in_err-body-clause-answer
returns-in_err-body-clause-answer g c =
    let i = c.loop-k.invariant in
    let cells = g.R.ReadCarrier.cells c.args.carrier.now in
    let p = err_from_is_err_and c.from_residual.result c.from_residual.ensures.1 in
    rw (p.1, p.2) (refused_returned (read_frames c.args.how cells) c.args.n _ (walk_refused c.args.how cells i.0 _ _ c.in-Some.body i.1 c.in-Some.ensures.steps.0 _ c.in_err-body.was))

pub loop-k-preserved : goal.loop-k-preserved
loop-k-preserved g c =
    let i = c.loop-k.invariant in
    let steps = c.in-Some.ensures.steps in
    let b = c.in_ok-body.field-0 in (
      i.0 ++ content_of b ∷ [],
      walk_more c.args.how (g.R.ReadCarrier.cells c.args.carrier.now) i.0 _ _ c.in-Some.body i.1 steps.0 b c.in_ok-body.was,
      steps.2 ∙ ap (λ k. k + 1) i.2 ∙ sym (length_push i.0 (content_of b)),
      c.kept-frame.ensures ∙ ap₂ (λ (k : ℕ) (o : Option Content). cond (eqb k c.args.n) (Some (content_of b)) o) (steps.1 ∙ i.2) i.3 ∙ sym (nth_push i.0 (content_of b) c.args.n),
    )

pub returns-clause-answer : goal.returns-clause-answer
returns-clause-answer g c =
    let i = c.loop-k.invariant in
    let cells = g.R.ReadCarrier.cells c.args.carrier.now in
    let over = walk_over c.args.how cells i.0 _ _ i.1 c.in-None.ensures.steps.0 in
    returned (read_frames c.args.how cells) i.0 c.args.n (framed c.loop-k.frame) c.recorded.result over i.3 c.recorded.ensures
