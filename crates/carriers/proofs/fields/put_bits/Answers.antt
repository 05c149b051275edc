use Rattle.std.proofs.Common.{◌∙◌, Ok, arith}
use Rattle.carriers.proofs.Rows.{row_more, row_done}
use Rattle.carriers.proofs.Runs.{put_back, put_kept}
use Rattle.carriers.proofs.fields.put_bits.Goals as goal

pub loop-place-preserved : goal.loop-place-preserved
loop-place-preserved g c =
    let said = c.in_ok-put.ensures in
    let inv = c.loop-place.invariant in
    let on = row_more (g.C.ReadCarrier.cells c.loop-place.carrier) (g.C.ReadCarrier.cells c.put.new.self) _ c.loop-place.place c.args.value (g.C.WriteCarrier.room c.loop-place.carrier) c.at.result (omega arith) c.at.ensures said.put.1 inv.fits inv.whole in
    record { fixed = said.fixed ∙ inv.fixed; home = said.home ∙ inv.home; fits = omega (arith, on.0); whole = on.1 }

pub returns-clause-back : goal.returns-clause-back
returns-clause-back g c =
    let put = row_done _ _ c.loop-place.place c.args.value c.loop-place-test.false c.loop-place.invariant.whole in
    put_back _ _ c.capacity.result c.args.value c.args.width (Ok tt) (omega (arith, c.if-len-width.false, c.len.ensures), put)

pub returns-clause-kept : goal.returns-clause-kept
returns-clause-kept g c at w v =
    let put = row_done _ _ c.loop-place.place c.args.value c.loop-place-test.false c.loop-place.invariant.whole in
    put_kept _ _ c.capacity.result c.args.value c.args.width (Ok tt) (omega (arith, c.if-len-width.false, c.len.ensures), put) at w v
