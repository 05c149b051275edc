use Rattle.std.proofs.Common.{◌<◌, refl, ◌∙◌, arith, get_or-set_other, get_or-set_same}
use Rattle.modes.specs.Fields.{cell_of}
use Rattle.frames.proofs.Cells.{cell_apart, width_has, below_from_shr}
use Rattle.frames.proofs.frame.Frame.set.Goals as goal

pub returns : goal.returns
returns c =
    let f = c.args.self.now in
    let x = c.args.field in
    let bits = c.in_ok-bits.ensures in
    let h = below_from_shr c.args.value c.in_ok-bits.bits c.if-value-bits-ne0.false in
    let in' : cell_of x < 24 = width_has f.mode x (omega (arith, bits)) in
    let ec = c.cell.ensures in
    record {
      has = omega (arith, bits);
      fits = rw bits.1 at h;
      mode = refl;
      tracks = λ s t. refl;
      here = rw ec (get_or-set_same f.values (cell_of x) c.args.value 0 (omega (arith, f.cells)));
      others = λ y ne. get_or-set_other f.values c.cell.result (cell_of y) c.args.value 0 (λ e'. cell_apart x y in' ne (e' ∙ ec));
    }
