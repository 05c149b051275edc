-- What the library's sort makes of the pulses of a track.
use Rattle.std.proofs.Common.{◌≡◌, ℕ, suc, ◌-◌, ◌≤◌, List, [], ◌∷◌, ◌++◌, length, take, drop, replicate, sym, refl, ap, ◌∙◌, subst, sum_by, arith}
use Rattle.std.specs.List.Sorted.{IsPermutation, IsNonDecreasingBy}
use Rattle.std.proofs.ByRecursion.{All-from_get_or}
use Rattle.std.proofs.lemmas.List.{drop-replicate, length-append, length-replicate}
use Rattle.std.proofs.Math.Seq.{take-append_seam, drop-append_seam}
use Rattle.std.proofs.lemmas.List.Sorted.{sum_by-IsPermutation, length_permutation}
use Rattle.std.proofs.lemmas.List.Recursion.{is_sum_by}
use Rattle.pulses.specs.declared.pulse.Pulse.{Pulse}
use Rattle.pulses.specs.declared.pulse.Sign.{Sign}
use Rattle.pulses.specs.Pulses.{hit, tally, Same, Sorted}
use Rattle.pulses.specs.Sets.{none, InOrder}

tally_is : (x : ℕ) (s : Sign) (ps : List Pulse) → tally ps x s ≡ sum_by (λ p. hit p x s) ps
tally_is x s ps = is_sum_by (λ qs. tally qs x s) (λ p. hit p x s) refl (λ _ _. refl) ps

same_moved : (ps qs : List Pulse) → IsPermutation ps qs → Same qs ps
same_moved ps qs h x s = tally_is x s qs ∙ sum_by-IsPermutation (λ p. hit p x s) ps qs h ∙ sym (tally_is x s ps)

sorted_moved : (ps : List Pulse) → IsNonDecreasingBy (λ p. p.place) ps → Sorted ps
sorted_moved [] h = tt
sorted_moved (p ∷ ps) h =
    (All-from_get_or (λ q. p.place ≤ q.place) ps none (λ k l. h 0 (suc k) none (omega arith) (omega arith)), sorted_moved ps (λ i j d l m. h (suc i) (suc j) d (omega arith) (omega arith)))

pub in_order : (ps qs rs : List Pulse) → length ps ≤ 6 → qs ≡ ps → IsPermutation qs rs → IsNonDecreasingBy (λ p. p.place) rs
    → InOrder ps (rs ++ drop (length ps) (replicate 6 none))
in_order ps qs rs l e h up =
    let m : IsPermutation ps rs = subst (λ z. IsPermutation z rs) e h in
    let n : length rs ≡ length ps = length_permutation ps rs m in
    let back = drop (length ps) (replicate 6 none) in
    let b : back ≡ replicate (6 - length ps) none = drop-replicate (length ps) 6 none in
    let t : take (length ps) (rs ++ back) ≡ rs = subst (λ k. take k (rs ++ back) ≡ rs) n (take-append_seam rs back) in
    record {
      size = omega (arith, length-append rs back, ap length b, length-replicate (6 - length ps) none);
      rises = subst Sorted (sym t) (sorted_moved rs up);
      same = subst (λ z. Same z ps) (sym t) (same_moved ps rs m);
      behind = subst (λ k. drop k (rs ++ back) ≡ back) n (drop-append_seam rs back) ∙ b;
    }
