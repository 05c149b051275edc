-- What a track in a message is refused for: both signs, or strictly an index that is not the house's.
use Rattle.std.proofs.Common.{◌≡◌, ℕ, ◌+◌, ◌-◌, ◌^◌, ◌<◌, Bool, true, cond, eqb, ◌⊎◌, List, get_or, Ok, Err, Result, sym, refl, ap, ◌∙◌, subst, inl, inr, arith}
use Rattle.std.proofs.lemmas.Bool.{cond_both, eqb-true}
use Rattle.refusals.specs.declared.cause.Cause.TheVariants.{BothSigns, NotHouseIndex, OffTrack}
use Rattle.refusals.specs.declared.refusal.Refusal.{Refusal}
use Rattle.refusals.specs.Spots.{because}
use Rattle.pulses.specs.declared.pulse.Pulse.{Pulse}
use Rattle.pulses.specs.declared.index.Reading.{Reading}
use Rattle.pulses.specs.declared.index.Reading.TheVariants.{Strict, Open}
use Rattle.pulses.specs.Pulses.{sort}
use Rattle.pulses.specs.Rules.{bits}
use Rattle.pulses.specs.House.{house}
use Rattle.pulses.specs.Reading.{pulses_of}
use Rattle.pulses.specs.Sets.{on_track, one_signed, checked}
use Rattle.pulses.specs.Calls.{kept, read_index}
use Rattle.pulses.proofs.Checked.{test_from_on}
use Rattle.pulses.proofs.CallLaws.{never, read_is, on_read}
use Rattle.pulses.proofs.Cuts.{cut_below}
use Rattle.modes.specs.declared.plan.Part.TheVariants.{High}
use Rattle.modes.specs.Modes.{row, pulses_in}
use Rattle.modes.specs.Plan.{index_bits, high_bits, low_bits}
use Rattle.frames.specs.Bits.{place_of}
use Rattle.messages.specs.Messages.{settled, joined, questioned}
use Rattle.messages.specs.Laws.{TrackRefusals}
use Rattle.frames.proofs.Houses.{used_in}
use Rattle.messages.proofs.Mapped.{err_is}

abbrev Why : Reading → Refusal → Type 0
Why how e = (e ≡ because BothSigns) ⊎ ((how ≡ Strict) × (e ≡ because NotHouseIndex))

kept_why : (how : Reading) (n M i : ℕ) (ps : List Pulse) (e : Refusal) → kept how n M i (Ok ps) ≡ Err e → Why how e
kept_why Open n M i ps e h = absurd (never ps e (sym h))
kept_why Strict n M i ps e h =
    cond_both (eqb (house n M ps) i) (Ok ps) (Err (because NotHouseIndex)) (λ (r : Result (List Pulse) Refusal). r ≡ Err e → Why Strict e)
    (λ t g. absurd (never ps e (sym g)))
    (λ t g. inr (refl, sym (err_is {X = List Pulse} (because NotHouseIndex) e g))) h

checked_why : (how : Reading) (n M i : ℕ) (ps : List Pulse) (e : Refusal) → on_track M ps ≡ true → kept how n M i (checked M ps) ≡ Err e → Why how e
unfolding checked
checked_why how n M i ps e o h =
    let P : Bool → Type 0 = λ b. kept how n M i (cond b (cond (one_signed ps) (Ok (sort ps)) (Err (because BothSigns))) (Err (because OffTrack))) ≡ Err e in
    let g = subst P o h in
    cond_both (one_signed ps) (Ok (sort ps)) (Err (because BothSigns)) (λ (r : Result (List Pulse) Refusal). kept how n M i r ≡ Err e → Why how e)
    (λ t k. kept_why how n M i (sort ps) e k)
    (λ t k. inl (sym (err_is {X = List Pulse} (because BothSigns) e k))) g

settled_err : (r : Result (List Pulse) Refusal) (e : Refusal) → settled r ≡ Err e → r ≡ Err e
settled_err (Ok ps) e h = absurd (never tt e (sym h))
settled_err (Err d) e h = ap Err (err_is {X = Unit {0}} d e h)

high_low : (w : ℕ) → w ≡ high_bits w + (w - high_bits w)
high_low w =
    cond_both (eqb w 16) 2 (cond (eqb w 20) 10 (cond (eqb w 22) 11 0)) (λ h. w ≡ h + (w - h)) (λ e. omega (arith, eqb-true w 16 e)) (λ _.
    cond_both (eqb w 20) 10 (cond (eqb w 22) 11 0) (λ h. w ≡ h + (w - h)) (λ e. omega (arith, eqb-true w 20 e)) (λ _.
    cond_both (eqb w 22) 11 0 (λ h. w ≡ h + (w - h)) (λ e. omega (arith, eqb-true w 22 e)) (λ _. omega arith)))

pub track_refusals : TrackRefusals
unfolding questioned
track_refusals how m vs s t v e has high low h =
    let n = pulses_in m s t in
    let M = (row m).places in
    let w = index_bits m s t in
    let hi = get_or vs (place_of (High s t)) 0 in
    let i = joined hi (low_bits m s t) v in
    let below : i < 2 ^ bits n M = cut_below (high_bits w) (low_bits m s t) w hi v (high_low w) high low in
    let u = used_in m s t has in
    let r = settled_err (read_index how n M i) e h in
    checked_why how n M i (pulses_of n M i) e (test_from_on M (pulses_of n M i) (on_read n M i u below)) (sym (read_is how n M i u below) ∙ r)
