use Rattle.std.proofs.Common.{◌≡◌, ◌++◌, take, string_bytes}
use Rattle.sheets.specs.Sheets.{text, delays_from}
use Rattle.sheets.proofs.sheet.add_frames.Given as goal

abbrev pub invariant-loop-n : goal.invariant-loop-n
invariant-loop-n l = string_bytes l.text ≡ string_bytes l.initial.text ++ text (delays_from 0 (take l.n l.frames))
