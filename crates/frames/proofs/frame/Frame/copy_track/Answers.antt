use Rattle.frames.proofs.Copied.{track_put}
use Rattle.frames.proofs.frame.Frame.copy_track.Goals as goal

pub returns : goal.returns
returns c =
    track_put c.args.self.now c.args.to.now c.set_track.new.self c.args.subframe c.args.track c.pulses.result.now c.set_track.result
    c.requires.mode c.pulses.ensures.is c.set_track.ensures
