-- In a sorted list no place has both signs just where neighbours of different signs are at least a place apart.
use Rattle.std.proofs.Common.{◌≡◌, ℕ, zero, suc, ◌+◌, ◌<◌, ◌≤◌, Bool, true, false, cond, ◌&&◌, eqb, ◌⊎◌, List, [], ◌∷◌, length, refl, subst, inl, inr, arith}
use Rattle.std.specs.List.{AllByRecursion}
use Rattle.std.proofs.lemmas.Bool.Decides.{nat_tests, eqb_tells}
use Rattle.std.proofs.ByRecursion.{All-get_or}
use denote.Enum.Bare.{sameb}
use Rattle.pulses.specs.contracts.pulse.Sign.{the_type}
use Rattle.pulses.specs.declared.pulse.Pulse.{Pulse}
use Rattle.pulses.specs.declared.pulse.Sign.{Sign}
use Rattle.pulses.specs.declared.pulse.Sign.TheVariants.{Plus, Minus}
use Rattle.pulses.specs.Sets.{none, at, apart}
use Rattle.pulses.proofs.Tallies.{hit_self, hit_apart, hit_other}
use Rattle.pulses.specs.Pulses.{alike, hit, tally, Lawful, Sorted}

abbrev one_if : Bool → ℕ
one_if b = cond b 1 0

abbrev Step : Pulse → Pulse → Type 0
Step p q = p.place + apart p q ≤ q.place

abbrev pub Steps : List Pulse → Type 0
Steps ps = (k : ℕ) → k + 1 < length ps → Step (at ps k) (at ps (k + 1))

triangle : (a b c : Sign) → cond (alike a c) 0 1 ≤ cond (alike a b) 0 1 + cond (alike b c) 0 1
triangle Minus Minus Minus = omega arith
triangle Minus Minus Plus = omega arith
triangle Minus Plus Minus = omega arith
triangle Minus Plus Plus = omega arith
triangle Plus Minus Minus = omega arith
triangle Plus Minus Plus = omega arith
triangle Plus Plus Minus = omega arith
triangle Plus Plus Plus = omega arith

step_trans : (p q r : Pulse) → Step p q → Step q r → Step p r
unfolding apart
step_trans p q r a b = omega (arith, triangle p.sign q.sign r.sign)

-- from neighbours to all that follow
pub tail : (p : Pulse) (ps : List Pulse) → Steps (p ∷ ps) → Steps ps
tail p ps h k l = let e : suc k + 1 ≡ suc (k + 1) = omega arith in rw e at (h (suc k) (omega arith))

step_all : (p q : Pulse) (ps : List Pulse) → Step p q → AllByRecursion (Step q) ps → AllByRecursion (Step p) ps
step_all p q [] h us = tt
step_all p q (r ∷ rs) h us = (step_trans p q r h us.0, step_all p q rs h us.1)

pub follows : (p : Pulse) (ps : List Pulse) → Steps (p ∷ ps) → AllByRecursion (Step p) ps
follows p [] h = tt
follows p (q ∷ qs) h =
    let first : Step p q = h 0 (omega arith) in
    (first, step_all p q qs first (follows q qs (tail p (q ∷ qs) h)))

-- no pulse of the other sign at this place
raw : (a b : ℕ) (l m s : Sign) → alike l s ≡ false → a + cond (alike l m) 0 1 ≤ b → one_if (eqb b a && alike m s) ≡ 0
raw a b Minus Minus Minus e h = grind (arith, nat_tests)
raw a b Minus Minus Plus e h = grind (arith, nat_tests)
raw a b Minus Plus Minus e h = grind (arith, nat_tests)
raw a b Minus Plus Plus e h = grind (arith, nat_tests)
raw a b Plus Minus Minus e h = grind (arith, nat_tests)
raw a b Plus Minus Plus e h = grind (arith, nat_tests)
raw a b Plus Plus Minus e h = grind (arith, nat_tests)
raw a b Plus Plus Plus e h = grind (arith, nat_tests)

no_other : (p : Pulse) (s : Sign) (ps : List Pulse) → alike p.sign s ≡ false → AllByRecursion (Step p) ps → tally ps p.place s ≡ 0
unfolding hit apart
no_other p s [] e us = refl
no_other p s (q ∷ qs) e us =
    omega (arith, raw p.place q.place p.sign q.sign s e us.0, no_other p s qs e us.1)

sign_cases : (s : Sign) → (alike s Plus ≡ false) ⊎ (alike s Minus ≡ false)
sign_cases Minus = inl refl
sign_cases Plus = inr refl

pub lawful_from_steps : (ps : List Pulse) → Steps ps → Lawful ps
lawful_from_steps [] h x = inl refl
lawful_from_steps (p ∷ ps) h x =
    elim (eqb_tells p.place x) [
      | inl e ↦
          let P : ℕ → Type 0 = λ x. (tally (p ∷ ps) x Plus ≡ 0) ⊎ (tally (p ∷ ps) x Minus ≡ 0) in
          let us = follows p ps h in
          subst P e.1 (elim (sign_cases p.sign) [
            | inl f ↦ inl (omega (arith, hit_other p p.place Plus f, no_other p Plus ps f us))
            | inr f ↦ inr (omega (arith, hit_other p p.place Minus f, no_other p Minus ps f us))
          ])
      | inr e ↦
          elim (lawful_from_steps ps (tail p ps h) x) [
            | inl f ↦ inl (omega (arith, hit_apart p.place x p.sign Plus e.1))
            | inr f ↦ inr (omega (arith, hit_apart p.place x p.sign Minus e.1))
          ]
    ]

-- and back, in a sorted list
pub sorted_at : (ps : List Pulse) (k : ℕ) → Sorted ps → k + 1 < length ps → (at ps k).place ≤ (at ps (k + 1)).place
sorted_at [] k h l = absurd (omega arith)
sorted_at (p ∷ ps) zero h l = All-get_or (λ q. p.place ≤ q.place) ps 0 none (omega arith) h.0
sorted_at (p ∷ ps) (suc k) h l =
    let e : suc k + 1 ≡ suc (k + 1) = omega arith in rw e (sorted_at ps k h.1 (omega arith))

pub tally_at : (ps : List Pulse) (k : ℕ) → k < length ps → 1 ≤ tally ps (at ps k).place (at ps k).sign
tally_at [] k l = absurd (omega arith)
tally_at (p ∷ ps) zero l = omega (arith, hit_self p.place p.sign)
tally_at (p ∷ ps) (suc k) l = omega (arith, tally_at ps k (omega arith))

both : (n : Sign → ℕ) (a b : Sign) → alike a b ≡ false → 1 ≤ n a → 1 ≤ n b → (n Plus ≡ 0) ⊎ (n Minus ≡ 0) → ⊥
both n Minus Minus e h k l = let z : true ≡ false = e in absurd (grind arith)
both n Minus Plus e h k l = elim l [ inl f ↦ omega arith | inr f ↦ omega arith ]
both n Plus Minus e h k l = elim l [ inl f ↦ omega arith | inr f ↦ omega arith ]
both n Plus Plus e h k l = let z : true ≡ false = e in absurd (grind arith)

pub alike_cases : (a b : Sign) → (alike a b ≡ true) ⊎ (alike a b ≡ false)
alike_cases a b = elim (alike a b) as (λ t. (t ≡ true) ⊎ (t ≡ false)) [ true ↦ inl refl | false ↦ inr refl ]

pub steps_from_lawful : (ps : List Pulse) → Sorted ps → Lawful ps → Steps ps
unfolding apart
steps_from_lawful ps h l k lt =
    let p = at ps k in
    let q = at ps (k + 1) in
    let le = sorted_at ps k h lt in
    elim (alike_cases p.sign q.sign) [
      | inl e ↦ rw e (omega arith)
      | inr e ↦ elim (eqb_tells p.place q.place) [
        | inl f ↦
            let a = tally_at ps k (omega arith) in
            let b : 1 ≤ tally ps p.place q.sign = rw f.1 (tally_at ps (k + 1) lt) in
            absurd (both (λ s. tally ps p.place s) p.sign q.sign e a b (l p.place))
        | inr f ↦ rw e (grind arith)
      ]
    ]

-- the derived comparison of signs
pub same_alike : (a b : Sign) → sameb the_type a b ≡ alike a b
same_alike Plus Plus = refl
same_alike Plus Minus = refl
same_alike Minus Plus = refl
same_alike Minus Minus = refl
