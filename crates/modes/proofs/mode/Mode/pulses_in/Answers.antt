use Rattle.std.proofs.Common.{get_or, sym, ap, ◌∙◌, inl, inr, ⊎_elim, arith}
use Rattle.modes.proofs.Modes.{pulses_few, pulses_in_here, pulses_in_none}
use Rattle.modes.proofs.mode.Mode.pulses_in.Goals as goal

pub returns-then-track-lt4 : goal.returns-then-track-lt4
returns-then-track-lt4 c =
    let m = c.args.self in
    let t = c.args.track in
    let e = c.from.ensures ∙ ap (λ xs. get_or xs t 0) c.row.ensures.pulses in
    record {
      is = e ∙ sym (pulses_in_here m c.args.subframe t (omega arith));
      few = omega (arith, e, pulses_few m t);
      has = λ _. (omega arith, omega arith);
    }

pub returns-else-subframe-lt4 : goal.returns-else-subframe-lt4
returns-else-subframe-lt4 c =
    record {
      is = sym (pulses_in_none c.args.self c.args.subframe c.args.track (⊎_elim (λ h. inr h.1) (λ h. inl h) c.else-subframe-lt4.either));
      few = omega arith;
      has = λ h. absurd (omega arith);
    }
