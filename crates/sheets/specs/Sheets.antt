-- The delay sheet of a message. Assumes Lines, the delays of a frame, and what a message is.
--   text ls            the lines ls as octets, each ended by a line feed
--   frame_lines n f    the delays of frame n
--   delays_from n fs   the delays of the frames fs, of which the first is frame n
--   sheet_lines fs     all delays, and then the number of frames
--   refused_line e     the line of a refusal: its number, and the frame and the cell of its spot
--   Sheet cs ls        ls is the sheet of the cells cs: the lines of the frames whose message they are; or the line of the refusal, which tells a frame and a cell
--   Printed cs bs      the octets bs are the sheet of the cells cs
use Rattle.std.specs.Prelude.{◌≡◌, ℕ, suc, ◌≤◌, List, [], ◌∷◌, ◌++◌, length, Some, Err}
use Rattle.std.specs.Option.{unwrap_or}
use Rattle.refusals.specs.declared.refusal.Refusal.{Refusal}
use Rattle.refusals.specs.Refusals.{number_of}
use Rattle.carriers.specs.Cells.{Cell}
use Rattle.pulses.specs.declared.index.Reading.TheVariants.{Strict}
use Rattle.frames.specs.declared.frame.Frame.{Frame}
use Rattle.frames.specs.Delays.{delay}
use Rattle.messages.specs.Messages.{read_frames, counted}
use Rattle.messages.specs.Written.{message}
use Rattle.sheets.specs.declared.line.Line.{Line}
use Rattle.sheets.specs.declared.line.Line.TheVariants.{Delay, End, Refused}
use Rattle.sheets.specs.Lines.{line_text}

abbrev pub text : List Line → List ℕ
text [] = []
text (l ∷ ls) = (line_text l ++ 10 ∷ []) ++ text ls

abbrev pub frame_lines : ℕ → Frame → List Line
frame_lines n f = Delay n 0 (delay f 0) ∷ Delay n 1 (delay f 1) ∷ Delay n 2 (delay f 2) ∷ Delay n 3 (delay f 3) ∷ []

abbrev pub delays_from : ℕ → List Frame → List Line
delays_from n [] = []
delays_from n (f ∷ fs) = frame_lines n f ++ delays_from (suc n) fs

abbrev pub sheet_lines : List Frame → List Line
sheet_lines fs = delays_from 0 fs ++ End (length fs) ∷ []

abbrev pub refused_line : Refusal → Line
refused_line e = Refused (number_of e.cause) (unwrap_or e.spot.frame 0) (unwrap_or e.spot.cell 0)

pub data Sheet (cs : List Cell) : List Line → Type 0 where
  delays : (fs : List Frame) → length fs ≤ 512 → cs ≡ message fs → Sheet cs (sheet_lines fs)
  refusal : (e : Refusal) (n at : ℕ) → counted (read_frames Strict cs) ≡ Err e → e.spot.frame ≡ Some n → e.spot.cell ≡ Some at → Sheet cs (Refused (number_of e.cause) n at ∷ [])

abbrev pub Printed : List Cell → List ℕ → Type 0
Printed cs bs = (ls : List Line) × Sheet cs ls × (bs ≡ text ls)
