use Rattle.std.proofs.Common.{◌≡◌, ◌++◌, map, length, drop, sym, ap, ◌∙◌, arith}
use Rattle.std.proofs.lemmas.List.{take_all}
use Rattle.pulses.specs.Octets.{octet_of}
use Rattle.pulses.proofs.Border.{octets_more, filled_short, filled_whole}
use Rattle.pulses.proofs.export.hand_out.Goals as goal

pub returns-then-out-pulses-clause-buffer : goal.returns-then-out-pulses-clause-buffer
returns-then-out-pulses-clause-buffer c = sym (filled_short c.args.pulses.now c.args.out.now (omega arith))

pub loop-i-preserved : goal.loop-i-preserved
loop-i-preserved c = octets_more c.args.pulses.now c.args.out.now c.loop-i.out c.loop-i.i c.octet_of.result (omega arith) (omega arith) c.loop-i.invariant c.octet_of.ensures

pub returns-clause-buffer : goal.returns-clause-buffer
returns-clause-buffer c =
    let ps = c.args.pulses.now in
    let out = c.args.out.now in
    let e : c.loop-i.i ≡ length ps = omega arith in
    rw e at c.loop-i.invariant ∙ ap (λ z. map octet_of z ++ drop (length ps) out) (take_all (length ps) ps (omega arith)) ∙ sym (filled_whole ps out (omega arith))
