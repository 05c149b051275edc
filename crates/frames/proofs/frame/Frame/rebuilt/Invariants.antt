use Rattle.std.proofs.Common.{◌≡◌, ℕ, ◌<◌, ◌≤◌}
use Rattle.std.specs.Iterator.Adapters.{map_source}
use Rattle.modes.specs.declared.field.Field.{Field}
use Rattle.modes.specs.Fields.{field_at}
use Rattle.frames.specs.Frames.{value, pulses}
use Rattle.frames.proofs.frame.Frame.rebuilt.Given as goal

abbrev pub invariant-loop-field : goal.invariant-loop-field
invariant-loop-field l =
    (goal.iterator-loop-field).can_next l.field-iterator
    × (goal.iterator-loop-field).is_finite l.field-iterator
    × (l.made.mode ≡ l.self.mode)
    × ((map_source l.field-iterator).end ≡ 24)
    × ((map_source l.field-iterator).start ≤ 24)
    × ((k : ℕ) → k < (map_source l.field-iterator).start → value l.made (field_at k) ≡ value l.self (field_at k))

abbrev pub invariant-loop-subframe : goal.invariant-loop-subframe
invariant-loop-subframe l =
    (l.made.mode ≡ l.self.mode) × ((x : Field) → value l.made x ≡ value l.self x)
    × ((s t : ℕ) → s < l.subframe → t < 4 → pulses l.made s t ≡ pulses l.self s t)

abbrev pub invariant-loop-track : goal.invariant-loop-track
invariant-loop-track l =
    (l.made.mode ≡ l.self.mode) × ((x : Field) → value l.made x ≡ value l.self x)
    × ((s t : ℕ) → s < l.subframe → t < 4 → pulses l.made s t ≡ pulses l.self s t)
    × ((t : ℕ) → t < l.track → pulses l.made l.subframe t ≡ pulses l.self l.subframe t)
