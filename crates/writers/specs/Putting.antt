-- What the code holds while it puts a frame. Assumes the bits of frames.
--   Indices f is   the house index of track t of subframe s of the frame f stands at 4s + t of is
use Rattle.std.specs.Prelude.{◌≡◌, List, ℕ, ◌+◌, ◌*◌, ◌<◌, get_or}
use Rattle.frames.specs.declared.frame.Frame.{Frame}
use Rattle.frames.specs.Bits.{index}

abbrev pub Indices : Frame → List ℕ → Type 0
Indices f is = (s t : ℕ) → s < 4 → t < 4 → get_or is (4 * s + t) 0 ≡ index f s t
