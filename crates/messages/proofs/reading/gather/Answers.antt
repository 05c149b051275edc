use Rattle.std.proofs.Common.{[], ◌∷◌, ◌++◌, vec_items, sym, subst}
use Rattle.std.proofs.lemmas.Result.{err_from_is_err_and}
use Rattle.messages.specs.Messages.{read_frames}
use Rattle.messages.specs.Seen.{content_of}
use Rattle.messages.specs.Gathered.{Records}
use Rattle.messages.proofs.Walking.{walk_start, walk_begins, walk_more, walk_over, walk_refused}
use Rattle.messages.proofs.Gathering.{records_push, all_gathered, none_gathered}
use Rattle.messages.proofs.reading.gather.Goals as goal

pub loop-body-init : goal.loop-body-init
loop-body-init g c =
    let same = c.into_iter-body-iterator.ensures.into_iter_gives in
    ([], walk_start c.args.how (g.R.ReadCarrier.cells c.args.carrier.now) _ (rw (same) c.new-body-items.ensures), rw c.new-frames.ensures.items tt)

pub returns-in_err-body-clause-answer : goal.returns-in_err-body-clause-answer
returns-in_err-body-clause-answer g c =
    let i = c.loop-body.invariant in
    let cells = g.R.ReadCarrier.cells c.args.carrier.now in
    let p = err_from_is_err_and c.from_residual.result c.from_residual.ensures.1 in
    rw (p.1, p.2) (none_gathered (read_frames c.args.how cells) _ (walk_refused c.args.how cells i.0 _ _ c.in-Some.body i.1 c.in-Some.ensures.steps _ c.in_err-body.was))

pub returns-in_err-push-clause-no_memory : goal.returns-in_err-push-clause-no_memory
returns-in_err-push-clause-no_memory g c e =
    let i = c.loop-body.invariant in
    walk_begins c.args.how (g.R.ReadCarrier.cells c.args.carrier.now) i.0 _ _ c.in-Some.body i.1 c.in-Some.ensures.steps c.in_ok-body.field-0 c.in_ok-body.was

pub loop-body-preserved : goal.loop-body-preserved
loop-body-preserved g c =
    let i = c.loop-body.invariant in
    let b = c.in_ok-body.field-0 in (
      i.0 ++ content_of b ∷ [],
      walk_more c.args.how (g.R.ReadCarrier.cells c.args.carrier.now) i.0 _ _ c.in-Some.body i.1 c.in-Some.ensures.steps b c.in_ok-body.was,
      subst (Records (i.0 ++ content_of b ∷ [])) (sym c.in_ok-push.ensures.items) (records_push i.0 (vec_items c.loop-body.frames) (content_of b) c.record.result i.2 c.record.ensures),
    )

pub returns-clause-answer : goal.returns-clause-answer
returns-clause-answer g c =
    let i = c.loop-body.invariant in
    let cells = g.R.ReadCarrier.cells c.args.carrier.now in
    all_gathered (read_frames c.args.how cells) i.0 c.loop-body.frames (walk_over c.args.how cells i.0 _ _ i.1 c.in-None.ensures.steps) i.2
