use Rattle.std.proofs.Common.{refl, ◌∙◌, w8, SFits, rules}
use Rattle.std.proofs.lemmas.Int.{to_z-of_z}
use Rattle.frames.proofs.Sounds.{sample_read}
use Rattle.frames.proofs.frame.Frame.sample.Goals as goal

pub returns : goal.returns
returns c =
    let fits : SFits w8 c.amplitude.result = search rules in
    to_z-of_z w8 c.amplitude.result fits ∙ c.amplitude.ensures
    ∙ sample_read c.args.self.now c.args.k c.tracks-tracks.result _ c.pulses.result.now c.tracks-tracks.ensures.is c.pulses.ensures.is refl
