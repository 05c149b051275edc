use Rattle.std.proofs.Common.{Ok, ◌≡◌, ℕ, length, take, sym, arith, length-take}
use Rattle.std.proofs.lemmas.Slice.{drop-append-drop}
use Rattle.carriers.specs.Copying.{padded}
use Rattle.carriers.proofs.Padding.{octet_more, octets_filled}
use Rattle.carriers.proofs.copying.copy_octets.Goals as goal

pub loop-i-preserved : goal.loop-i-preserved
loop-i-preserved g c =
    let cs = g.R.ReadCarrier.cells c.args.carrier.now in
    octet_more c.loop-i.octet-items (padded cs) c.loop-i.i c.in_ok-octet.field-0 (omega arith) c.loop-i.invariant c.in_ok-octet.ensures.octet

pub returns-clause-copied : goal.returns-clause-copied
returns-clause-copied g c =
    let cs = g.R.ReadCarrier.cells c.args.carrier.now in
    let n : ℕ = c.div_ceil-octets.result in
    let items = c.loop-i.octet-items in
    let long : length (take n c.args.out.now) ≡ n = simp length-take (omega arith) in
    let all : n ≡ c.loop-i.i = omega arith in
    let same : length items ≡ n = omega arith in
    (sym {a = Ok tt} c.in_ok-check_cells.ensures, omega arith, omega arith, octets_filled cs items _ n c.loop-i.i (omega arith) all same c.loop-i.invariant, drop-append-drop n c.args.out.now items n (omega arith) same)
