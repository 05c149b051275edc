-- How a record is built, slot by slot, from a frame in a message. Assumes Contents.
--   PartSame f g p            the records f and g have the same for the part p; a high part is set with its low part
--   Copied f before after p   the part p is now as in f, and the rest as before
use Rattle.std.specs.Prelude.{◌≡◌, ◌≢◌}
use Rattle.modes.specs.declared.plan.Part.{Part}
use Rattle.modes.specs.declared.plan.Part.TheVariants.{Value, High, Low}
use Rattle.frames.specs.declared.frame.Frame.{Frame}
use Rattle.frames.specs.Frames.{value, pulses}

abbrev pub PartSame : Frame → Frame → Part → Type 0
PartSame f g (Value x) = value f x ≡ value g x
PartSame f g (High s t) = Unit {0}
PartSame f g (Low s t) = pulses f s t ≡ pulses g s t

pub record Copied (f before after : Frame) (p : Part) : Type 0 where
  pub mode : after.mode ≡ before.mode
  pub here : PartSame after f p
  pub others : (q : Part) → (q ≢ p) → PartSame before f q → PartSame after f q
