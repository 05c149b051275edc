-- The laws of the indices, for each number of pulses.
use Rattle.std.proofs.Common.{ℕ, zero, suc, ◌+◌, ◌-◌, ◌*◌, List, sym, refl, ap, ◌∙◌, arith}
use Rattle.pulses.specs.declared.pulse.Pulse.{Pulse}
use Rattle.pulses.specs.Pulses.{sort}
use Rattle.pulses.specs.Rules.{Choice, Index, bits}
use Rattle.pulses.specs.Reading.{pulses_of}
use Rattle.pulses.specs.House.{house}
use Rattle.pulses.specs.Laws.{ReadingIsRight, EveryNumberReads, HouseFollows, HouseAlone, RoundTrip, HouseTellsApart}
use Rattle.pulses.proofs.ReadBack.{Read, one_reads, two_reads, three_reads, four_reads, five_reads, six_reads}
use Rattle.pulses.proofs.Complete.{one_every, two_every, three_every, four_every, five_every, six_every}
use Rattle.pulses.proofs.Houses.{one_houses, two_houses, three_houses, four_houses, five_houses, six_houses}
use Rattle.pulses.proofs.Unique.{one_is, two_is, three_is, four_is, five_is, six_is}
use Rattle.pulses.proofs.Canon.{sort_is}

read_all : (v : Choice) (n M : ℕ) (ps : List Pulse) (i : ℕ) → Index v n M ps i → Read (bits n M) ps i (pulses_of n M i)
read_all v zero M ps i h = absurd h
read_all v (suc zero) M ps i h = one_reads h
read_all v (suc (suc zero)) M ps i h = two_reads h
read_all v (suc (suc (suc zero))) M ps i h = three_reads h
read_all v (suc (suc (suc (suc zero)))) M ps i h = four_reads h
read_all v (suc (suc (suc (suc (suc zero))))) M ps i h = five_reads h
read_all v (suc (suc (suc (suc (suc (suc zero)))))) M ps i h = six_reads h
read_all v (suc (suc (suc (suc (suc (suc (suc n))))))) M ps i h = absurd h

pub reading_is_right : ReadingIsRight
reading_is_right v n M ps i h = let r = read_all v n M ps i h in (r.below, r.same)

pub every_number_reads : EveryNumberReads
every_number_reads zero M i f h = absurd (omega (arith, f.some))
every_number_reads (suc zero) M i f h = one_every M (M + 1) i refl h
every_number_reads (suc (suc zero)) M i f h = two_every M (2 * M + 1) i refl h
every_number_reads (suc (suc (suc zero))) M i f h = three_every M (3 * M + 1) i (omega (arith, f.wide)) refl h
every_number_reads (suc (suc (suc (suc zero)))) M i f h = four_every M (4 * M) i (omega (arith, f.wide)) refl h
every_number_reads (suc (suc (suc (suc (suc zero))))) M i f h = five_every M (5 * M) i (omega (arith, f.wide)) refl h
every_number_reads (suc (suc (suc (suc (suc (suc zero)))))) M i f h = six_every M (6 * M - 2) i (omega (arith, f.wide)) refl h
every_number_reads (suc (suc (suc (suc (suc (suc (suc n))))))) M i f h = absurd (omega (arith, f.few))

pub house_follows : HouseFollows
house_follows zero M ps f g a = absurd (omega (arith, f.some))
house_follows (suc zero) M ps f g a = one_houses M ps g
house_follows (suc (suc zero)) M ps f g a = two_houses M ps g
house_follows (suc (suc (suc zero))) M ps f g a = three_houses M ps (omega (arith, f.wide)) g a
house_follows (suc (suc (suc (suc zero)))) M ps f g a = four_houses M ps (omega (arith, f.wide)) g a
house_follows (suc (suc (suc (suc (suc zero))))) M ps f g a = five_houses M ps (omega (arith, f.wide)) g a
house_follows (suc (suc (suc (suc (suc (suc zero)))))) M ps f g a = six_houses M ps (omega (arith, f.wide)) g a
house_follows (suc (suc (suc (suc (suc (suc (suc n))))))) M ps f g a = absurd (omega (arith, f.few))

pub house_alone : HouseAlone
house_alone zero M ps qs i u a g e = absurd u
house_alone (suc zero) M ps qs i u a g e = one_is M ps qs i u g e
house_alone (suc (suc zero)) M ps qs i u a g e = two_is M ps qs i u g e
house_alone (suc (suc (suc zero))) M ps qs i u a g e = three_is u qs a g e
house_alone (suc (suc (suc (suc zero)))) M ps qs i u a g e = four_is u qs a g e
house_alone (suc (suc (suc (suc (suc zero))))) M ps qs i u a g e = five_is u qs a g e
house_alone (suc (suc (suc (suc (suc (suc zero)))))) M ps qs i u a g e = six_is u qs a g e
house_alone (suc (suc (suc (suc (suc (suc (suc n))))))) M ps qs i u a g e = absurd u

pub round_trip : RoundTrip
round_trip n M ps f g a =
    let r = reading_is_right Choice.house n M ps (house n M ps) (house_follows n M ps f g a) in
    (r.0, sort_is ps (pulses_of n M (house n M ps)) g.lawful a r.1)

pub house_tells_apart : HouseTellsApart
house_tells_apart n M ps qs f g k a b e =
    sym (round_trip n M ps f g a).1 ∙ ap (λ i. sort (pulses_of n M i)) e ∙ (round_trip n M qs f k b).1
