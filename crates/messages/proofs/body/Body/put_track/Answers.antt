use Rattle.std.proofs.Common.{replicate, refl, arith}
use Rattle.pulses.specs.Sets.{none}
use Rattle.messages.specs.Seen.{content_of}
use Rattle.messages.proofs.Fined.{fine_of}
use Rattle.messages.proofs.Building.{low_narrow, never_refused, track_put}
use Rattle.messages.proofs.body.Body.put_track.Goals as goal

pub invariant_of-low : goal.invariant_of-low
invariant_of-low c =
    let few = low_narrow c.args.self.now.parts.mode c.args.s c.args.t c.requires.has in
    record { narrow = omega (arith, c.part_bits.ensures, few) }

pub returns-in-Ok : goal.returns-in-Ok
returns-in-Ok c f st =
    let a = c.args in
    let parts = a.self.now.parts in
    track_put parts.how (content_of a.self.now) a.s a.t c.part_bits.result c.get.result (fine_of parts.how parts.mode parts.values a.self.now.fine) (omega (arith, c.requires.has, c.part_bits.ensures)) c.part_bits.ensures c.get.ensures
    f a.built.now c.set_track.new.self c.in-Ok.n (replicate 6 none) c.read_track.new.row c.set_track.result st c.requires.mode refl c.in-Ok.ensures.answer c.in-Ok.ensures.buffer c.set_track.ensures

pub returns-in_default : goal.returns-in_default
returns-in_default c f st =
    let a = c.args in
    let parts = a.self.now.parts in
    absurd (never_refused parts.how (content_of a.self.now) a.s a.t c.part_bits.result c.get.result (fine_of parts.how parts.mode parts.values a.self.now.fine) (omega (arith, c.requires.has, c.part_bits.ensures)) c.part_bits.ensures c.get.ensures _ c.in_default.ensures.answer)
