-- What a message is, with house indices. Assumes Messages and the bits of frames.
--   as_cells bs     the bits bs as cells
--   frame_cells f   the mode in 4 bits, then the bits of the frame
--   body fs         the cells of the frames fs, one after the other
--   message fs      the message of fs: their cells, 1111, and zeros up to a multiple of eight
use Rattle.std.specs.Prelude.{ℕ, ◌+◌, List, [], ◌∷◌, ◌++◌, map, length}
use Rattle.carriers.specs.Bits.{bit_of}
use Rattle.carriers.specs.Cells.{Cell, bit}
use Rattle.carriers.specs.Fields.{bits_of}
use Rattle.modes.specs.Modes.{number_of}
use Rattle.frames.specs.declared.frame.Frame.{Frame}
use Rattle.frames.specs.Bits.{frame_bits}
use Rattle.messages.specs.Messages.{filler}

abbrev pub as_cells : List ℕ → List Cell
as_cells bs = map (λ b. bit (bit_of b)) bs

abbrev pub frame_cells : Frame → List Cell
frame_cells f = bits_of 4 (number_of f.mode) ++ as_cells (frame_bits f)

abbrev pub body : List Frame → List Cell
body [] = []
body (f ∷ fs) = frame_cells f ++ body fs

unfoldable pub message : List Frame → List Cell
message fs = body fs ++ (bits_of 4 15 ++ bits_of (filler (length (body fs) + 4)) 0)
