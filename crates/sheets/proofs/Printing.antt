-- What is printed is the sheet.
use Rattle.std.proofs.Common.{◌≡◌, ℕ, List, [], ◌∷◌, ◌++◌, Ok, Err, Option, Result, unwrap_or, sym, ap, ◌∙◌, subst, ap₂}
use Rattle.refusals.specs.declared.refusal.Refusal.{Refusal}
use Rattle.refusals.specs.Refusals.{number_of}
use Rattle.carriers.specs.Cells.{Cell}
use Rattle.pulses.specs.declared.index.Reading.TheVariants.{Strict}
use Rattle.frames.specs.declared.frame.Frame.{Frame}
use Rattle.messages.specs.declared.error.ReadError.{ReadError}
use Rattle.messages.specs.declared.error.ReadError.TheVariants.{Refused as RefusedWith}
use Rattle.messages.specs.Messages.{Content, read_frames, counted}
use Rattle.messages.specs.Gathered.{HandsOut, HandsOutMessages, Gathered}
use Rattle.messages.proofs.Telling.{refusals_tell_where}
use Rattle.sheets.specs.declared.line.Line.{Line}
use Rattle.sheets.specs.declared.line.Line.TheVariants.{Refused}
use Rattle.sheets.specs.Sheets.{text, sheet_lines, refused_line, Printed}
use Rattle.sheets.specs.Sheets.Sheet.{delays, refusal}

pub printed_delays : (cs : List Cell) (fs gs : List Frame) (before bs : List ℕ) → HandsOutMessages → HandsOut Strict cs fs → gs ≡ fs → before ≡ []
    → bs ≡ before ++ text (sheet_lines gs) → Printed cs bs
printed_delays cs fs gs before bs law h e b p =
    let m = (law cs fs).0 h in
    (sheet_lines fs, delays fs m.0 m.1, p ∙ ap₂ (λ (x : List ℕ) (y : List Frame). x ++ text (sheet_lines y)) b e)

was_refused : (r : Result (List Content) Refusal) (e : Refusal) → Gathered r (Err (RefusedWith e)) → r ≡ Err e
was_refused (Ok bs) e g = absurd g
was_refused (Err d) e g = ap Err (sym g)

pub printed_refusal : (cs : List Cell) (x : ReadError) (before bs : List ℕ) → Gathered (read_frames Strict cs) (Err x) → before ≡ []
    → (e : Refusal) × (x ≡ RefusedWith e) × (bs ≡ before ++ text (refused_line e ∷ [])) → Printed cs bs
printed_refusal cs x before bs g b h =
    let e = h.0 in
    let r = was_refused (read_frames Strict cs) e (subst (λ (y : ReadError). Gathered (read_frames Strict cs) (Err y)) h.1 g) in
    let w = refusals_tell_where Strict cs e r in
    let n = w.0 in
    let at = w.1 in
    let is : refused_line e ≡ Refused (number_of e.cause) n at = ap₂ (λ (y z : Option ℕ). Refused (number_of e.cause) (unwrap_or y 0) (unwrap_or z 0)) w.2 w.3 in
    (Refused (number_of e.cause) n at ∷ [], refusal e n at (ap counted r) w.2 w.3, h.2 ∙ ap₂ (λ (y : List ℕ) (l : Line). y ++ text (l ∷ [])) b is)
