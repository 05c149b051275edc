-- The cells that are left to put after some slots of a plan.
use Rattle.std.proofs.Common.{◌≡◌, ℕ, ◌+◌, ◌≤◌, List, [], ◌∷◌, ◌++◌, map, length, refl, sym, ap, ◌∙◌, append_assoc, append-nil, length-append, arith}
use Rattle.std.proofs.lemmas.List.{map-append}
use Rattle.carriers.specs.Bits.{bit_of}
use Rattle.carriers.specs.Cells.{Cell, bit}
use Rattle.carriers.specs.Fields.{bits_of}
use Rattle.carriers.proofs.Rows.{bits_length}
use Rattle.modes.specs.declared.plan.Slot.{Slot}
use Rattle.modes.specs.Plan.{plan, total}
use Rattle.frames.specs.declared.frame.Frame.{Frame}
use Rattle.frames.specs.Bits.{part_value, spell, frame_bits}
use Rattle.frames.specs.Bits.{bits_of as numeral_bits_of}
use Rattle.messages.specs.Written.{as_cells}
use Rattle.messages.proofs.Housed.{bits_cells}

-- the cells of a frame in some slots
unfoldable pub slot_cells : Frame → List Slot → List Cell
slot_cells f ss = as_cells (spell ss (map (λ s. part_value f s.part) ss))

cells_first : (f : Frame) (s : Slot) (ss : List Slot) → slot_cells f (s ∷ ss) ≡ bits_of s.width (part_value f s.part) ++ slot_cells f ss
unfolding slot_cells
cells_first f s ss =
    map-append (λ b. bit (bit_of b)) (numeral_bits_of s.width (part_value f s.part)) (spell ss (map (λ s. part_value f s.part) ss))
    ∙ ap (λ (l : List Cell). l ++ slot_cells f ss) (bits_cells s.width (part_value f s.part))

pub cells_start : (f : Frame) → slot_cells f (plan f.mode) ≡ as_cells (frame_bits f)
unfolding slot_cells frame_bits
cells_start f = refl

pub cells_more : (f : Frame) (ss rest : List Slot) (s : Slot) (before after : List Cell) (v : ℕ) → ss ≡ s ∷ rest → v ≡ part_value f s.part → after ≡ before ++ bits_of s.width v
    → after ++ slot_cells f rest ≡ before ++ slot_cells f ss
cells_more f ss rest s before after v e ev ea =
    ap (λ (l : List Cell). l ++ slot_cells f rest) (ea ∙ ap (λ (n : ℕ). before ++ bits_of s.width n) ev)
    ∙ append_assoc before (bits_of s.width (part_value f s.part)) (slot_cells f rest)
    ∙ ap (λ (l : List Cell). before ++ l) (sym (cells_first f s rest) ∙ ap (slot_cells f) (sym e))

pub cells_end : (f : Frame) (ss : List Slot) (cells : List Cell) → ss ≡ [] → cells ++ slot_cells f ss ≡ cells
unfolding slot_cells
cells_end f ss cells e = rw e (append-nil cells)

-- the room that is left
pub length_more : (before after : List Cell) (w v : ℕ) → after ≡ before ++ bits_of w v → length after ≡ length before + w
length_more before after w v e = ap length e ∙ length-append before (bits_of w v) ∙ ap (λ n. length before + n) (bits_length w v)

pub room_more : (room : ℕ) (ss rest : List Slot) (s : Slot) (before after : List Cell) (v : ℕ) → ss ≡ s ∷ rest → after ≡ before ++ bits_of s.width v → length before + total ss ≤ room
    → length after + total rest ≤ room
room_more room ss rest s before after v e ea h =
    let t : total ss ≡ s.width + total rest = ap total e in
    let l = length_more before after s.width v ea in
    omega arith
