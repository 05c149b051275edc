use Rattle.std.proofs.Common.{◌≡◌, ◌<◌, ◌≤◌, length, take, drop, pos, ◌∙◌, arith, w8, SFits, to_z, of_z, rules}
use Rattle.std.proofs.lemmas.Int.{to_z-of_z}
use Rattle.std.proofs.lemmas.List.{length-take, length-take-le, get_or_append_left, drop_at}
use Rattle.std.proofs.lemmas.List.Edits.{fill_by_more}
use Rattle.frames.specs.Sound.{sample}
use Rattle.frames.proofs.frame.Frame.excitation.Goals as goal

pub sample-requires : goal.sample-requires
sample-requires c =
    let l : length (take 256 c.args.out.now) ≤ 256 = simp length-take (omega arith) in
    omega arith

pub loop-k-preserved : goal.loop-k-preserved
loop-k-preserved c =
    let f = c.args.self.now in
    let k = c.loop-k.k in
    let items = c.loop-k.sample-items in
    let l : k < length items = omega arith in
    let fits : SFits w8 c.sample.result = search rules in
    let v : to_z w8 (of_z w8 c.sample.result) ≡ sample f k = to_z-of_z w8 c.sample.result fits ∙ c.sample.ensures in
    rw v (fill_by_more (sample f) items k (pos 0) l c.loop-k.invariant)

pub returns : goal.returns
returns c =
    let out = c.args.out.now in
    let items = c.loop-k.sample-items in
    let long : length items ≡ 256 = c.loop-k.auto.sample-items ∙ length-take-le 256 out c.if-out-lt256.false in
    record {
      long = c.if-out-lt256.false;
      samples = λ k h. get_or_append_left items (drop 256 out) (pos 0) k (omega arith) ∙ c.loop-k.invariant k (omega arith);
      rest = drop_at items (drop 256 out) 256 long;
    }
