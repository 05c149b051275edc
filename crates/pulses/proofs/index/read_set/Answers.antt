use Rattle.std.proofs.Common.{◌≡◌, ℕ, ◌*◌, ◌%◌, ◌^◌, ◌<◌, List, length, take, Ok, Err, Result, refl, sym, ap, ◌∙◌, arith, ap₂}
use Rattle.std.proofs.lemmas.Result.{err_from_is_err_and}
use Rattle.std.proofs.lemmas.List.{length-take}
use Rattle.std.proofs.lemmas.Nat.{one_shl}
use Rattle.refusals.specs.declared.cause.Cause.TheVariants.{NoSuchIndex}
use Rattle.refusals.specs.declared.refusal.Refusal.{Refusal}
use Rattle.pulses.specs.declared.pulse.Pulse.{Pulse}
use Rattle.pulses.specs.Calls.{accepts}
use Rattle.pulses.specs.Rules.{bits}
use Rattle.pulses.specs.Sets.{track_set}
use Rattle.pulses.specs.Reading.{pulses_of}
use Rattle.pulses.proofs.CallLaws.{in_use, in_use_so, not_in_use, read_unused, read_past, read_refused, read_rowed, read_accepts, read_other}
use Rattle.pulses.proofs.index.read_set.Goals as goal

pub returns-in_err-track : goal.returns-in_err-track
returns-in_err-track c =
    let p = err_from_is_err_and c.from_residual.result c.from_residual.ensures.1 in
    let none = c.in_err-track.ensures.ok_part in
    let e = rw none at c.in_err-track.ensures.value in
    let k : c.in_err-track.field-0.0 ≡ NoSuchIndex = cc in
    rw (p.1, p.2, k) (read_unused c.args.how c.args.number c.args.width c.args.index (not_in_use c.args.number c.args.width _ none c.new.ensures))

-- the bound that the code tests
bound : (n M m w b : ℕ) → m ≡ n → w ≡ M → b ≡ bits m w → b < 32 → 1 * 2 ^ b % 2 ^ 32 ≡ 2 ^ bits n M
bound n M m w b en eM e l = one_shl b 32 l ∙ ap (λ z. 2 ^ z) (e ∙ ap₂ bits en eM)

pub returns-then-index-bits : goal.returns-then-index-bits
returns-then-index-bits c =
    let n = c.args.number in
    let M = c.args.width in
    let t = in_use_so n M _ _ c.in_ok-track.ensures.ok_part c.new.ensures in
    read_past c.args.how n M c.args.index (omega (arith, bound n M _ _ c.bits.result t.1.0 t.1.1 c.bits.ensures.is c.bits.ensures.few)) ∙ ap Err (sym c.into.ensures)

below : (n M i m w b : ℕ) → m ≡ n → w ≡ M → b ≡ bits m w → b < 32 → i < 1 * 2 ^ b % 2 ^ 32 → i < 2 ^ bits n M
below n M i m w b en eM e l h = omega (arith, h, bound n M m w b en eM e l)

-- the set that was asked for
asked : (n M i m w : ℕ) (raw : List Pulse) (r x : Result (List Pulse) Refusal) → m ≡ n → w ≡ M → take m raw ≡ pulses_of m w i → r ≡ track_set n M (take n raw) → r ≡ x
    → track_set n M (pulses_of n M i) ≡ x
asked n M i m w raw r x en eM e h k =
    let f : take n raw ≡ pulses_of n M i = rw (en, eM) at e in
    sym (h ∙ ap (track_set n M) f) ∙ k

pub returns-in_err-row : goal.returns-in_err-row
returns-in_err-row c =
    let n = c.args.number in
    let M = c.args.width in
    let i = c.args.index in
    let p = err_from_is_err_and c.from_residual-in_err-row.result c.from_residual-in_err-row.ensures.1 in
    let t = in_use_so n M _ _ c.in_ok-track.ensures.ok_part c.new.ensures in
    let l = below n M i _ _ c.bits.result t.1.0 t.1.1 c.bits.ensures.is c.bits.ensures.few c.if-index-bits.false in
    let s = asked n M i _ _ c.pulses-raw.result c.track_set.result (Err c.in_err-row.field-0.0) t.1.0 t.1.1 c.pulses-raw.ensures c.track_set.ensures c.in_err-row.was in
    rw (p.1, p.2) (read_refused c.args.how n M i t.0 l _ s)

pub pulses-raw-requires : goal.pulses-raw-requires
pulses-raw-requires c = below _ _ c.args.index _ _ c.bits.result refl refl c.bits.ensures.is c.bits.ensures.few c.if-index-bits.false

pub invariant_of-group-clause-sorted : goal.invariant_of-group-clause-sorted
invariant_of-group-clause-sorted c =
    let n = c.args.number in
    let M = c.args.width in
    let i = c.args.index in
    let t = in_use_so n M _ _ c.in_ok-track.ensures.ok_part c.new.ensures in
    let l = below n M i _ _ c.bits.result t.1.0 t.1.1 c.bits.ensures.is c.bits.ensures.few c.if-index-bits.false in
    let s = asked n M i _ _ c.pulses-raw.result c.track_set.result (Ok c.in_ok-row.row) t.1.0 t.1.1 c.pulses-raw.ensures c.track_set.ensures c.in_ok-row.was in
    (read_rowed c.args.how n M i t.0 l c.in_ok-row.row s).front_sorted

pub returns-then-not-accepts : goal.returns-then-not-accepts
returns-then-not-accepts c =
    let n = c.args.number in
    let M = c.args.width in
    let i = c.args.index in
    let t = in_use_so n M _ _ c.in_ok-track.ensures.ok_part c.new.ensures in
    let l = below n M i _ _ c.bits.result t.1.0 t.1.1 c.bits.ensures.is c.bits.ensures.few c.if-index-bits.false in
    let s = asked n M i _ _ c.pulses-raw.result c.track_set.result (Ok c.in_ok-row.row) t.1.0 t.1.1 c.pulses-raw.ensures c.track_set.ensures c.in_ok-row.was in
    let y : length (take n c.in_ok-row.row) ≡ n = omega (arith, length-take n c.in_ok-row.row, (in_use n M t.0).few) in
    let a = ap (λ v. accepts c.args.how v i) (sym (rw y at c.index.ensures.value)) ∙ sym c.accepts.ensures ∙ c.if-not-accepts.true in
    read_other c.args.how n M i t.0 l c.in_ok-row.row s a ∙ ap Err (sym c.into-then-not-accepts.ensures)

pub returns : goal.returns
returns c =
    let n = c.args.number in
    let M = c.args.width in
    let i = c.args.index in
    let t = in_use_so n M _ _ c.in_ok-track.ensures.ok_part c.new.ensures in
    let l = below n M i _ _ c.bits.result t.1.0 t.1.1 c.bits.ensures.is c.bits.ensures.few c.if-index-bits.false in
    let s = asked n M i _ _ c.pulses-raw.result c.track_set.result (Ok c.in_ok-row.row) t.1.0 t.1.1 c.pulses-raw.ensures c.track_set.ensures c.in_ok-row.was in
    let y : length (take n c.in_ok-row.row) ≡ n = omega (arith, length-take n c.in_ok-row.row, (in_use n M t.0).few) in
    let a = ap (λ v. accepts c.args.how v i) (sym (rw y at c.index.ensures.value)) ∙ sym c.accepts.ensures ∙ c.if-not-accepts.false in
    (read_accepts c.args.how n M i t.0 l c.in_ok-row.row s a, (in_use n M t.0).few)
