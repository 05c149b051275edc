use Rattle.std.proofs.Common.{◌≡◌, ◌+◌, ◌*◌, ◌<◌, [], length, take, refl, ap, ◌∙◌, arith, length-set, get_or-set_same, rules}
use Rattle.std.proofs.lemmas.Result.{err_from_is_err_and}
use Rattle.pulses.specs.Pulses.{sort}
use Rattle.modes.specs.Modes.{row, pulses_in}
use Rattle.frames.specs.Frames.{track_refusal}
use Rattle.frames.specs.Frames.WhyNot.{no_track, unlawful}
use Rattle.modes.proofs.Modes.{pulses_in_few}
use Rattle.frames.proofs.Taken.{LawfulRow, told_ok, told_err, taken_ok, taken_err, taken_row, padded_front, sorted_group}
use Rattle.frames.proofs.Parted.{on_set, rising_set, padded_set, long_set, other_rows}
use Rattle.frames.proofs.frame.Frame.set_track.Goals as goal

pub returns-in_err-count : goal.returns-in_err-count
returns-in_err-count c =
    let p = err_from_is_err_and c.from_residual.result c.from_residual.ensures.1 in
    let h = c.in_err-count.ensures.answer in
    rw (p.1, p.2, h.1) (refl, refl, no_track h.0)

pub returns-in_err-row : goal.returns-in_err-row
returns-in_err-row c =
    let m = c.args.self.now.mode in
    let s = c.args.subframe in
    let t = c.args.track in
    let p = err_from_is_err_and c.from_residual-in_err-row.result c.from_residual-in_err-row.ensures.1 in
    let q = told_err c.track_set.result c.map_err.result _ _ c.map_err.ensures.cases c.in_err-row.was in
    let d : c.in_err-row.field-0.0 ≡ track_refusal q.0.cause s t = search rules in
    let a = rw (c.in_ok-count.ensures.answer.1, c.from.ensures, c.track_width.ensures.is) at (q.1 ∙ c.track_set.ensures) in
    let why = taken_err (pulses_in m s t) (row m).places c.args.pulses.now q.0 (pulses_in_few m s t) a in
    rw (p.1, p.2, d) (refl, refl, unlawful q.0.cause (omega (arith, c.in_ok-count.ensures.answer)) why)

pub invariant_of-self : goal.invariant_of-self
invariant_of-self c =
    let f = c.args.self.now in
    let s = c.args.subframe in
    let t = c.args.track in
    let m = f.mode in
    let in' = c.in_ok-count.ensures.there in
    let few = pulses_in_few m s t in
    let a = rw (c.in_ok-count.ensures.answer.1, c.from.ensures, c.track_width.ensures.is) at (told_ok c.track_set.result c.map_err.result _ _ c.map_err.ensures.cases c.in_ok-row.was ∙ c.track_set.ensures) in
    let g = taken_ok (pulses_in m s t) (row m).places c.args.pulses.now c.in_ok-row.row few a in
    let h : LawfulRow (pulses_in m s t) (row m).places c.in_ok-row.row = rw g.1 (taken_row (pulses_in m s t) (row m).places c.args.pulses.now few g.0) in
    let l : 4 * s + t < length f.tracks = omega (arith, in', f.rows) in
    record {
      fit = f.fit;
      on = on_set m s t f.tracks _ l h f.on;
      rising = rising_set m s t f.tracks _ l in'.1 in'.2 h f.rising;
      padded = padded_set m s t f.tracks _ l in'.1 in'.2 h f.padded;
      long = long_set m s t f.tracks _ l h f.long;
      cells = f.cells;
      rows = length-set f.tracks (4 * s + t) c.in_ok-row.row ∙ f.rows;
    }

pub returns : goal.returns
returns c =
    let f = c.args.self.now in
    let s = c.args.subframe in
    let t = c.args.track in
    let m = f.mode in
    let in' = c.in_ok-count.ensures.there in
    let few = pulses_in_few m s t in
    let a = rw (c.in_ok-count.ensures.answer.1, c.from.ensures, c.track_width.ensures.is) at (told_ok c.track_set.result c.map_err.result _ _ c.map_err.ensures.cases c.in_ok-row.was ∙ c.track_set.ensures) in
    let ps = c.args.pulses.now in
    let g = taken_ok (pulses_in m s t) (row m).places ps c.in_ok-row.row few a in
    let l : 4 * s + t < length f.tracks = omega (arith, in', f.rows) in
    record {
      has = omega (arith, c.in_ok-count.ensures.answer);
      group = g.0;
      mode = refl;
      fields = λ x. refl;
      here =
          ap (take (pulses_in m s t)) (get_or-set_same f.tracks (4 * s + t) c.in_ok-row.row [] l ∙ g.1)
          ∙ padded_front (sort ps) (pulses_in m s t) (sorted_group (pulses_in m s t) (row m).places ps g.0).size;
      others = λ s' t' ne. other_rows m s t s' t' f.tracks c.in_ok-row.row in'.1 in'.2 ne;
    }
