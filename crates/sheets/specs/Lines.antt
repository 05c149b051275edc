-- The lines of a delay sheet as octets. Assumes the delays of a frame.
--   tabbed ns     the numbers ns in decimal, a tab before each
--   line_text l   a line: its letter, and its numbers, parted by tabs
use Rattle.std.specs.Prelude.{ℕ, List, [], ◌∷◌, ◌++◌, decimal}
use Rattle.frames.specs.Delays.{microseconds}
use Rattle.sheets.specs.declared.line.Line.{Line}
use Rattle.sheets.specs.declared.line.Line.TheVariants.{Delay, End, Refused}

abbrev pub tabbed : List ℕ → List ℕ
tabbed [] = []
tabbed (n ∷ ns) = 9 ∷ decimal n ++ tabbed ns

-- D is 68, E is 69, R is 82
abbrev pub line_text : Line → List ℕ
line_text (Delay n s q) = 68 ∷ tabbed (n ∷ s ∷ q ∷ microseconds q ∷ [])
line_text (End k) = 69 ∷ tabbed (k ∷ [])
line_text (Refused r n at) = 82 ∷ tabbed (r ∷ n ∷ at ∷ [])
