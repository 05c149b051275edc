use Rattle.std.proofs.Common.{◌+◌, [], ◌∷◌, ◌++◌, Ok, refl, sym, ap, ◌∙◌, arith}
use Rattle.std.proofs.lemmas.Result.{err_from_is_err_and}
use Rattle.std.proofs.lemmas.List.{length_push}
use Rattle.messages.specs.Messages.{counted}
use Rattle.messages.specs.Seen.{content_of}
use Rattle.messages.proofs.Walking.{walk_start, walk_more, walk_over, walk_refused}
use Rattle.messages.proofs.reading.count_frames.Goals as goal

pub loop-body-init : goal.loop-body-init
loop-body-init g c =
    let same = c.into_iter-body-iterator.ensures.into_iter_gives in
    ([], walk_start c.args.how (g.R.ReadCarrier.cells c.args.carrier.now) _ (rw (same) c.new-body-items.ensures), refl)

pub returns-in_err-body : goal.returns-in_err-body
returns-in_err-body g c =
    let i = c.loop-body.invariant in
    let p = err_from_is_err_and c.from_residual.result c.from_residual.ensures.1 in
    rw (p.1, p.2) (sym (ap counted (walk_refused c.args.how (g.R.ReadCarrier.cells c.args.carrier.now) i.0 _ _ c.in-Some.body i.1 c.in-Some.ensures.steps _ c.in_err-body.was)))

pub overflow_add-count : goal.overflow_add-count
overflow_add-count g c =
    let i = c.loop-body.invariant in
    omega (arith, i.2, i.1.long, i.1.few)

pub loop-body-preserved : goal.loop-body-preserved
loop-body-preserved g c =
    let i = c.loop-body.invariant in
    let b = c.in_ok-body.field-0 in (
      i.0 ++ content_of b ∷ [],
      walk_more c.args.how (g.R.ReadCarrier.cells c.args.carrier.now) i.0 _ _ c.in-Some.body i.1 c.in-Some.ensures.steps b c.in_ok-body.was,
      ap (λ k. k + 1) i.2 ∙ sym (length_push i.0 (content_of b)),
    )

pub returns : goal.returns
returns g c =
    let i = c.loop-body.invariant in
    ap Ok i.2 ∙ sym (ap counted (walk_over c.args.how (g.R.ReadCarrier.cells c.args.carrier.now) i.0 _ _ i.1 c.in-None.ensures.steps))
