-- The excitation of a frame. Assumes Modes, Frames and the pulses of a track.
--   signed s            what a pulse of sign s adds to its sample
--   amplitude_at ps x   the plus pulses on place x less its minus pulses
--   sample_of f s j     the amplitude of sample j of subframe s: place p of track t is sample p * tracks + t
--   sample f k          the amplitude of sample k of the frame's 256
--   Sounded f ..        the front of the buffer has the frame's samples, and the rest of it is as before
use Rattle.std.specs.Prelude.{◌≡◌, ℕ, ◌/◌, ◌%◌, ◌<◌, ◌≤◌, List, length, drop, ℤ, pos, negsuc, ◌-ℤ◌, slice_index_or}
use Rattle.pulses.specs.declared.pulse.Pulse.{Pulse}
use Rattle.pulses.specs.declared.pulse.Sign.{Sign}
use Rattle.pulses.specs.declared.pulse.Sign.TheVariants.{Plus, Minus}
use Rattle.pulses.specs.Pulses.{tally}
use Rattle.frames.specs.declared.frame.Frame.{Frame}
use Rattle.modes.specs.Modes.{row}
use Rattle.frames.specs.Frames.{pulses}

abbrev pub signed : Sign → ℤ
signed Plus = pos 1
signed Minus = negsuc 0

unfoldable pub amplitude_at : List Pulse → ℕ → ℤ
amplitude_at ps x = pos (tally ps x Plus) -ℤ pos (tally ps x Minus)

unfoldable pub sample_of : Frame → ℕ → ℕ → ℤ
sample_of f s j = amplitude_at (pulses f s (j % (row f.mode).tracks)) (j / (row f.mode).tracks)

abbrev pub sample : Frame → ℕ → ℤ
sample f k = sample_of f (k / 64) (k % 64)

pub record Sounded (f : Frame) (before after : List ℤ) : Type 0 where
  pub long : 256 ≤ length before
  pub samples : (k : ℕ) → k < 256 → slice_index_or after k (pos 0) ≡ sample f k
  pub rest : drop 256 after ≡ drop 256 before
