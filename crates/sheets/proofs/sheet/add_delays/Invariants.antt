use Rattle.std.proofs.Common.{◌≡◌, ◌++◌, take, string_bytes}
use Rattle.sheets.specs.Sheets.{text, frame_lines}
use Rattle.sheets.proofs.sheet.add_delays.Given as goal

abbrev pub invariant-loop-s : goal.invariant-loop-s
invariant-loop-s l = string_bytes l.text ≡ string_bytes l.initial.text ++ text (take l.s (frame_lines l.n l.frame))
