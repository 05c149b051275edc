-- What going over a plan gives. Assumes Plan.
--   slots_left s      the slots that are still to come
--   GivesSlot s r t   the first slot that was left is given, of 1 to 14 bits and as wide as the mode has its part; or none was left, and none is
use Rattle.std.specs.Prelude.{◌≡◌, List, [], ◌∷◌, drop, Some, None, Option}
use Rattle.modes.specs.declared.plan.Slot.{Slot}
use Rattle.modes.specs.declared.slots.Slots.{Slots}
use Rattle.modes.specs.Plan.{plan, slot, Narrow}

unfoldable pub slots_left : Slots → List Slot
slots_left s = drop s.next (plan s.mode)

abbrev pub GivesSlot : Slots → Option Slot → Slots → Type 0
GivesSlot s None t = (slots_left s ≡ []) × (slots_left t ≡ []) × (t.mode ≡ s.mode)
GivesSlot s (Some x) t =
    (slots_left s ≡ x ∷ slots_left t) × (t.mode ≡ s.mode) × (x ≡ slot s.mode x.part) × Narrow (Some x)
