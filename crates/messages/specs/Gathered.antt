-- All frames of a message, as records. Assumes Messages, Contents, Written, Indexed.
--   Records bs fs        the records fs are those of the frames bs, one by one
--   HandsOut how cs fs   reading the cells cs hands out just the frames fs
--   HandsOutMessages     strict reading hands out fs exactly where the cells are the message of fs, which are at most 512
--   HandsOutByIndices reading hands out fs exactly where the cells are those of fs, at most 512, by some indices of their sets
--   Begins how cs  the first frame of the cells cs is accepted
--   Gathered r a   the answer a to handing out all frames of the read message r: their records; or the refusal of reading; or that there is no memory
use Rattle.std.specs.Prelude.{◌≡◌, ◌≤◌, ◌↔◌, List, [], ◌∷◌, length, Some, Ok, Err, vec_items, Result, Vec}
use Rattle.std.specs.declared.alloc.Global.{Global}
use Rattle.refusals.specs.declared.refusal.Refusal.{Refusal}
use Rattle.carriers.specs.Cells.{Cell}
use Rattle.pulses.specs.declared.index.Reading.{Reading}
use Rattle.pulses.specs.declared.index.Reading.TheVariants.{Strict}
use Rattle.frames.specs.declared.frame.Frame.{Frame}
use Rattle.messages.specs.declared.error.ReadError.{ReadError}
use Rattle.messages.specs.declared.error.ReadError.TheVariants.{Refused, NoMemory}
use Rattle.messages.specs.Messages.{Content, next_frame, read_frames}
use Rattle.messages.specs.Contents.{Stands}
use Rattle.messages.specs.Written.{message}
use Rattle.messages.specs.Indexed.{Bodies, ended}

abbrev pub Records : List Content → List Frame → Type 0
Records [] [] = Unit {0}
Records [] (f ∷ fs) = ⊥
Records (b ∷ bs) [] = ⊥
Records (b ∷ bs) (f ∷ fs) = Stands b f × Records bs fs

abbrev pub HandsOut : Reading → List Cell → List Frame → Type 0
HandsOut how cs fs = (bs : List Content) × (read_frames how cs ≡ Ok bs) × Records bs fs

abbrev pub HandsOutMessages : Type 0
HandsOutMessages = (cs : List Cell) (fs : List Frame) → HandsOut Strict cs fs ↔ ((length fs ≤ 512) × (cs ≡ message fs))

abbrev pub HandsOutByIndices : Type 0
HandsOutByIndices =
    (how : Reading) (cs : List Cell) (fs : List Frame)
    → HandsOut how cs fs ↔ ((front : List Cell) × Bodies how fs front × (length fs ≤ 512) × (cs ≡ ended front))

abbrev pub Begins : Reading → List Cell → Type 0
Begins how cs = (b : Content) × (next_frame how cs 512 0 0 ≡ Ok (Some b))

abbrev pub Gathered : Result (List Content) Refusal → Result (Vec Frame Global) ReadError → Type 0
Gathered r (Err NoMemory) = Unit {0}
Gathered (Ok bs) (Ok v) = Records bs (vec_items v)
Gathered (Ok bs) (Err (Refused e)) = ⊥
Gathered (Err d) (Ok v) = ⊥
Gathered (Err d) (Err (Refused e)) = e ≡ d
