-- Refusals that tell no place. Assumes Refusals.
--   nowhere     the spot with every part absent
--   because c   the refusal for c that tells no place
use Rattle.std.specs.Prelude.{None}
use Rattle.refusals.specs.declared.cause.Cause.{Cause}
use Rattle.refusals.specs.declared.refusal.Spot.{Spot}
use Rattle.refusals.specs.declared.refusal.Refusal.{Refusal}

abbrev pub nowhere : Spot
nowhere = record { frame = None; subframe = None; track = None; cell = None }

abbrev pub because : Cause → Refusal
because c = record { cause = c; spot = nowhere }
