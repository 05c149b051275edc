-- Refusals that tell a part of the plan. Assumes Fields, and the refusals of the crate below.
--   part_refusal c p   the refusal for c that tells the subframe and the track of the part p, each if it has one
use Rattle.refusals.specs.declared.cause.Cause.{Cause}
use Rattle.refusals.specs.declared.refusal.Refusal.{Refusal}
use Rattle.modes.specs.declared.plan.Part.{Part}
use Rattle.modes.specs.Fields.{part_spot}

abbrev pub part_refusal : Cause → Part → Refusal
part_refusal c p = record { cause = c; spot = part_spot p }
