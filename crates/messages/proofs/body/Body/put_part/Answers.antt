use Rattle.std.proofs.Common.{◌<◌, sym, subst}
use Rattle.modes.specs.declared.plan.Part.{Part}
use Rattle.modes.specs.Plan.{part_width}
use Rattle.messages.specs.Seen.{content_of}
use Rattle.messages.specs.Building.{Copied}
use Rattle.messages.proofs.Building.{by_track, field_put}
use Rattle.messages.proofs.body.Body.put_part.Goals as goal

pub returns-in-Value : goal.returns-in-Value
returns-in-Value c f st =
    let b = content_of c.args.self.now in
    let to = c.args.built.now in
    let P : Part → Type 0 = λ p. Copied f to c.set.new.self p in
    let Q : Part → Type 0 = λ p. 0 < part_width b.mode p in
    subst P (sym c.in-Value.is) (field_put b f to c.set.new.self c.in-Value.field c.get.result c.set.result st c.requires.mode (subst Q c.in-Value.is c.requires.has) c.get.ensures c.set.ensures)

pub returns-in-Low : goal.returns-in-Low
returns-in-Low c f st =
    let to = c.args.built.now in
    let P : Part → Type 0 = λ p. Copied f to c.put_track.new.built p in
    subst P (sym c.in-Low.is) (by_track f to c.put_track.new.built _ _ (c.put_track.ensures f st))
