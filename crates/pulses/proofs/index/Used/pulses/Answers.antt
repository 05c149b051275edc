use Rattle.std.proofs.Common.{◌≡◌, length, take, replicate, ap, ◌∙◌, ap₂, arith}
use Rattle.std.proofs.lemmas.List.{take_at, length-take}
use Rattle.pulses.specs.Pulses.{up}
use Rattle.pulses.specs.Sets.{none}
use Rattle.pulses.specs.Reading.{pulses_of}
use Rattle.pulses.proofs.CallLaws.{in_use, up_none}
use Rattle.pulses.proofs.index.Used.pulses.Goals as goal

pub returns : goal.returns
returns c =
    let n = c.args.self.number in
    let M = c.args.self.width in
    let k = in_use n M c.args.self.in_use in
    let size : length (take n (replicate 6 none)) ≡ n = omega (arith, length-take n (replicate 6 none), k.few) in
    take_at c.read.new.out _ n (c.read.auto.out ∙ size)
    ∙ c.read.ensures
    ∙ ap₂ (λ f w. up f (pulses_of (length (take n (replicate 6 none))) w c.args.index)) c.track.ensures.from c.track.ensures.width
    ∙ up_none _ ∙ ap (λ z. pulses_of z M c.args.index) size
