use Rattle.std.proofs.Common.{◌≡◌, ℕ, ◌%◌, ◌^◌, ◌<◌, sym, ap, ◌∙◌, subst, ap₂, arith}
use Rattle.modes.specs.declared.mode.Mode.{Mode}
use Rattle.modes.specs.declared.plan.Part.{Part}
use Rattle.modes.specs.Plan.{low_bits, part_width}
use Rattle.frames.specs.Bits.{part_value}
use Rattle.writers.proofs.Parts.{low_there, low_few, masked}
use Rattle.writers.proofs.putting.part_value.Goals as goal

pub returns-in-Low : goal.returns-in-Low
returns-in-Low c =
    let f = c.args.frame.now in
    let s = c.in-Low.s in
    let t = c.in-Low.t in
    let l = low_there f.mode s t (subst (λ (p : Part). 0 < part_width f.mode p) c.in-Low.is c.requires.has) in
    let w : c.part_bits-width.result ≡ low_bits f.mode s t = c.part_bits-width.ensures ∙ ap (λ (m : Mode). low_bits m s t) c.mode-in-Low.ensures in
    let few : c.part_bits-width.result < 32 = omega (arith, w, low_few f.mode s t) in
    masked _ c.part_bits-width.result few ∙ ap₂ (λ (i k : ℕ). i % 2 ^ k) (c.requires.tracks s t l.0 l.1) w ∙ ap (part_value f) (sym c.in-Low.is)
