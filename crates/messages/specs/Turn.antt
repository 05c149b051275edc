-- What reading one frame leaves for the next. Assumes Messages, Seen.
--   values_of r          the values that a body was read with
--   Onward long n at r   after frame n at a place, the next begins behind it, within the cells
--   Stand                where a walk over the frames of a message stands: how they are read, the cells, the next frame, and its first cell
--   beginning how cs     where it begins
--   next_at s            what is read where it stands
--   Walks s r t          the walk goes from s to t with the answer r: the next frame, or its refusal, or nothing more; after these two it stands nowhere, and is over
use Rattle.std.specs.Prelude.{◌≡◌, ℕ, ◌+◌, ◌-◌, ◌<◌, ◌≤◌, List, Some, None, Ok, Err, Option, Result}
use Rattle.refusals.specs.declared.refusal.Refusal.{Refusal}
use Rattle.carriers.specs.Cells.{Cell}
use Rattle.pulses.specs.declared.index.Reading.{Reading}
use Rattle.modes.specs.Plan.{plan, total}
use Rattle.messages.specs.declared.body.Body.{Body}
use Rattle.messages.specs.Messages.{Content, next_frame}
use Rattle.messages.specs.Seen.{content_of}

abbrev pub values_of : Result Body Refusal → Result (List ℕ) Refusal
values_of (Ok b) = Ok b.parts.values
values_of (Err e) = Err e

abbrev pub Onward : ℕ → ℕ → ℕ → Result (Option Body) Refusal → Type 0
Onward long n at (Ok None) = Unit {0}
Onward long n at (Ok (Some b)) = (n < 512) × (b.end ≡ at + 4 + total (plan b.parts.mode)) × (b.end ≤ long)
Onward long n at (Err e) = Unit {0}

pub record Stand : Type 0 where
  pub how : Reading
  pub cells : List Cell
  pub frame : ℕ
  pub at : ℕ

abbrev pub beginning : Reading → List Cell → Stand
beginning how cs = record { how = how; cells = cs; frame = 0; at = 0 }

abbrev pub next_at : Stand → Result (Option Content) Refusal
next_at s = next_frame s.how s.cells (512 - s.frame) s.frame s.at

abbrev pub Walks : Option Stand → Option (Result Body Refusal) → Option Stand → Type 0
Walks None r t = (r ≡ None) × (t ≡ None)
Walks (Some s) None t = (Ok None ≡ next_at s) × (t ≡ None)
Walks (Some s) (Some (Ok b)) t =
    (Ok (Some (content_of b)) ≡ next_at s)
    × (s.frame < 512)
    × (t ≡ Some (record s { frame = s.frame + 1; at = s.at + 4 + total (plan b.parts.mode) }))
Walks (Some s) (Some (Err e)) t = (Err e ≡ next_at s) × (t ≡ None)
