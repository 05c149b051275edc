-- A lawful set has one sorted list, and its amplitudes say which.
use Rattle.std.proofs.Common.{◌≡◌, ℕ, ◌<◌, ◌≤◌, leb, List, [], ◌∷◌, sym, refl, ap, ◌∙◌, subst, ap₂, inl, inr, ⊎_elim, arith}
use Rattle.pulses.specs.declared.pulse.Sign.{Sign}
use Rattle.pulses.specs.declared.pulse.Sign.TheVariants.{Plus, Minus}
use Rattle.std.specs.List.{AllByRecursion}
use Rattle.std.proofs.lemmas.Bool.{cases_eq, leb-true, leb-false, cond_both}
use Rattle.std.proofs.ByRecursion.{All-weaker}
use Rattle.pulses.specs.declared.pulse.Pulse.{Pulse}
use Rattle.pulses.specs.Pulses.{pulse, hit, tally, Same, Lawful, Sorted, EqualAmplitudes, insert, sort}
use Rattle.pulses.proofs.Tallies.{hit_self, hit_apart}

-- where every place is at least m, a pulse that is there is at m or above
least : (m : ℕ) (ps : List Pulse) (x : ℕ) (s : Sign) → AllByRecursion (λ q. m ≤ q.place) ps → 0 < tally ps x s → m ≤ x
least m [] x s a h = absurd (omega arith)
least m (p ∷ ps) x s a h =
    ⊎_elim (λ e. omega (arith, a.0))
    (λ e. least m ps x s a.1 (omega (arith, hit_apart p.place x p.sign s e)))
    (cases_eq p.place x)

-- in a lawful set, two pulses at one place have one sign
one_sign : (ps : List Pulse) (x : ℕ) (s t : Sign) → Lawful ps → 0 < tally ps x s → 0 < tally ps x t → s ≡ t
one_sign ps x Minus Minus l h k = refl
one_sign ps x Plus Plus l h k = refl
one_sign ps x Minus Plus l h k = ⊎_elim (λ e. absurd (omega arith)) (λ e. absurd (omega arith)) (l x)
one_sign ps x Plus Minus l h k = ⊎_elim (λ e. absurd (omega arith)) (λ e. absurd (omega arith)) (l x)

lawful_tail : (p : Pulse) (ps : List Pulse) → Lawful (p ∷ ps) → Lawful ps
lawful_tail p ps l x = ⊎_elim (λ e. inl (omega arith)) (λ e. inr (omega arith)) (l x)

-- a sorted lawful set is one list
pub same_sorted : (ps qs : List Pulse) → Lawful ps → Sorted ps → Sorted qs → Same ps qs → ps ≡ qs
same_sorted [] [] l a b e = refl
same_sorted [] (q ∷ qs) l a b e = absurd (omega (arith, e q.place q.sign, hit_self q.place q.sign))
same_sorted (p ∷ ps) [] l a b e = absurd (omega (arith, e p.place p.sign, hit_self p.place p.sign))
same_sorted (p ∷ ps) (q ∷ qs) l a b e =
    let here : 0 < tally (p ∷ ps) p.place p.sign = omega (arith, hit_self p.place p.sign) in
    let there : 0 < tally (p ∷ ps) q.place q.sign = omega (arith, e q.place q.sign, hit_self q.place q.sign) in
    let back : 0 < tally (q ∷ qs) p.place p.sign = omega (arith, e p.place p.sign, hit_self p.place p.sign) in
    let up : p.place ≤ q.place = least p.place (p ∷ ps) q.place q.sign (omega arith, a.0) there in
    let down : q.place ≤ p.place = least q.place (q ∷ qs) p.place p.sign (omega arith, b.0) back in
    let at : q.place ≡ p.place = omega arith in
    let P : ℕ → Type 0 = λ z. 0 < tally (p ∷ ps) z q.sign in
    let sign : p.sign ≡ q.sign = one_sign (p ∷ ps) p.place p.sign q.sign l here (subst P at there) in
    let is : p ≡ q = ap₂ pulse (sym at) sign in
    let rest : Same ps qs = λ x s. omega (arith, e x s, ap (λ z. hit z x s) is) in
    ap₂ (λ z zs. z ∷ zs) is (same_sorted ps qs (lawful_tail p ps l) a.1 b.1 rest)

pub same_from_amplitudes : (ps qs : List Pulse) → Lawful ps → Lawful qs → EqualAmplitudes ps qs → Same ps qs
same_from_amplitudes ps qs l k e x Minus = ⊎_elim (λ a. ⊎_elim (λ b. omega (arith, e x)) (λ b. omega (arith, e x)) (k x)) (λ a. ⊎_elim (λ b. omega (arith, e x)) (λ b. omega (arith, e x)) (k x)) (l x)
same_from_amplitudes ps qs l k e x Plus = ⊎_elim (λ a. ⊎_elim (λ b. omega (arith, e x)) (λ b. omega (arith, e x)) (k x)) (λ a. ⊎_elim (λ b. omega (arith, e x)) (λ b. omega (arith, e x)) (k x)) (l x)

pub amplitudes_decide : (ps qs : List Pulse) → Lawful ps → Lawful qs → Sorted ps → Sorted qs → EqualAmplitudes ps qs → ps ≡ qs
amplitudes_decide ps qs l k a b e = same_sorted ps qs l a b (same_from_amplitudes ps qs l k e)

pub same_insert : (p : Pulse) (ps : List Pulse) → Same (insert p ps) (p ∷ ps)
unfolding insert
same_insert p [] x s = refl
same_insert p (q ∷ qs) x s =
    cond_both (leb p.place q.place) (p ∷ q ∷ qs) (q ∷ insert p qs) (λ z. tally z x s ≡ tally (p ∷ q ∷ qs) x s) (λ e. refl)
    (λ e. omega (arith, same_insert p qs x s))

pub same_sort : (ps : List Pulse) → Same (sort ps) ps
unfolding sort
same_sort [] x s = refl
same_sort (p ∷ ps) x s = omega (arith, same_insert p (sort ps) x s, same_sort ps x s)

all_insert : (m : ℕ) (p : Pulse) (ps : List Pulse) → m ≤ p.place → AllByRecursion (λ q. m ≤ q.place) ps → AllByRecursion (λ q. m ≤ q.place) (insert p ps)
unfolding insert
all_insert m p [] h a = (h, tt)
all_insert m p (q ∷ qs) h a =
    cond_both (leb p.place q.place) (p ∷ q ∷ qs) (q ∷ insert p qs) (λ z. AllByRecursion (λ q. m ≤ q.place) z) (λ e. (h, a)) (λ e. (a.0, all_insert m p qs h a.1))

sorted_insert : (p : Pulse) (ps : List Pulse) → Sorted ps → Sorted (insert p ps)
unfolding insert
sorted_insert p [] a = (tt, tt)
sorted_insert p (q ∷ qs) a =
    cond_both (leb p.place q.place) (p ∷ q ∷ qs) (q ∷ insert p qs) Sorted
    (λ e.
    let l = leb-true p.place q.place e in
    ((l, All-weaker (λ r. q.place ≤ r.place) (λ r. p.place ≤ r.place) (λ r h. omega arith) qs a.0), a))
    (λ e.
    let l = leb-false p.place q.place e in (all_insert q.place p qs (omega arith) a.0, sorted_insert p qs a.1))

pub sorted_sort : (ps : List Pulse) → Sorted (sort ps)
unfolding sort
sorted_sort [] = tt
sorted_sort (p ∷ ps) = sorted_insert p (sort ps) (sorted_sort ps)

-- so sorting what is the same set gives the sorted list
pub sort_is : (ps qs : List Pulse) → Lawful ps → Sorted ps → Same ps qs → sort qs ≡ ps
sort_is ps qs l a e = sym (same_sorted ps (sort qs) l a (sorted_sort qs) (λ x s. e x s ∙ sym (same_sort qs x s)))
