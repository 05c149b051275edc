use Rattle.std.proofs.Common.{◌≡◌}
use Rattle.modes.specs.declared.plan.Part.{Part}
use Rattle.modes.specs.Slots.{slots_left}
use Rattle.frames.specs.declared.frame.Frame.{Frame}
use Rattle.frames.specs.Bits.{place_of}
use Rattle.messages.specs.Seen.{content_of}
use Rattle.messages.specs.Contents.{Stands}
use Rattle.messages.specs.Building.{PartSame}
use Rattle.messages.proofs.Planned.{Away}
use Rattle.messages.proofs.body.Body.record.Given as goal

abbrev pub invariant-loop-slot : goal.invariant-loop-slot
invariant-loop-slot l =
    (l.slot-iterator.mode ≡ l.self.parts.mode)
    × (l.built.mode ≡ l.self.parts.mode)
    × ((f : Frame) → Stands (content_of l.self) f → (p : Part) → Away (place_of p) (slots_left l.slot-iterator) → PartSame l.built f p)
