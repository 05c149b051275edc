-- Tallies of lists of pulses: what joins, moves and halves do to them.
use Rattle.std.proofs.Common.{◌≡◌, ℕ, suc, ◌+◌, ◌-◌, ◌<◌, true, false, cond, ◌&&◌, eqb, ◌⊎◌, List, [], ◌∷◌, ◌++◌, length, sym, refl, ap, ◌∙◌, subst, ap₂, inl, inr, ⊎_elim, arith}
use Rattle.pulses.specs.declared.pulse.Sign.{Sign}
use Rattle.pulses.specs.declared.pulse.Sign.TheVariants.{Plus, Minus}
use Rattle.std.proofs.lemmas.Bool.{eqb-true, eqb-false, eq-eqb, ne_eqb, cases_eq, cases_lt, cond_both}
use Rattle.std.proofs.lemmas.Bool.Decides.{nat_tests}
use Rattle.pulses.specs.declared.pulse.Pulse.{Pulse}
use Rattle.pulses.specs.Pulses.{pulse, hit, tally, Same, Lawful, up, alike}

pub same_refl : (ps : List Pulse) → Same ps ps
same_refl ps x s = refl

pub same_sym : (ps qs : List Pulse) → Same ps qs → Same qs ps
same_sym ps qs h x s = sym (h x s)

pub same_trans : (ps qs rs : List Pulse) → Same ps qs → Same qs rs → Same ps rs
same_trans ps qs rs h k x s = h x s ∙ k x s

pub same_from : (ps qs : List Pulse) → ps ≡ qs → Same ps qs
same_from ps qs e x s = ap (λ z. tally z x s) e

pub up_by : (m n : ℕ) (ps : List Pulse) → m ≡ n → Same (up m ps) (up n ps)
up_by m n ps e x s = ap (λ z. tally (up z ps) x s) e

pub tally_append : (ps qs : List Pulse) (x : ℕ) (s : Sign) → tally (ps ++ qs) x s ≡ tally ps x s + tally qs x s
tally_append [] qs x s = omega arith
tally_append (p ∷ ps) qs x s = omega (arith, tally_append ps qs x s)

pub same_append : (js ks ls ms : List Pulse) → Same js ks → Same ls ms → Same (js ++ ls) (ks ++ ms)
same_append js ks ls ms h k x s = omega (arith, tally_append js ls x s, tally_append ks ms x s, h x s, k x s)

pub same_swap : (js ks : List Pulse) → Same (js ++ ks) (ks ++ js)
same_swap js ks x s = omega (arith, tally_append js ks x s, tally_append ks js x s)

eqb_add : (a b n : ℕ) → eqb (a + n) (b + n) ≡ eqb a b
eqb_add a b n =
    ⊎_elim (λ e. eq-eqb (a + n) (b + n) (omega arith) ∙ sym (eq-eqb a b e))
    (λ e. ne_eqb (a + n) (b + n) (λ f. e (omega arith)) ∙ sym (ne_eqb a b e)) (cases_eq a b)

pub hit_up : (p n x : ℕ) (m s : Sign) → hit (pulse (p + n) m) (x + n) s ≡ hit (pulse p m) x s
unfolding hit
hit_up p n x m s = ap (λ t. cond (t && alike m s) 1 0) (eqb_add p x n)

pub hit_apart : (p x : ℕ) (m s : Sign) → (p ≡ x → ⊥) → hit (pulse p m) x s ≡ 0
unfolding hit
hit_apart p x m s h = ap (λ t. cond (t && alike m s) 1 0) (ne_eqb p x h)

pub hit_self : (p : ℕ) (s : Sign) → hit (pulse p s) p s ≡ 1
unfolding hit
hit_self p Minus = ap (λ t. cond (t && true) 1 0) (eq-eqb p p refl)
hit_self p Plus = ap (λ t. cond (t && true) 1 0) (eq-eqb p p refl)

pub hit_place : (p : Pulse) (x : ℕ) (s : Sign) (n : ℕ) → n ≡ p.place → hit (pulse n p.sign) x s ≡ hit p x s
hit_place p x s n e = ap (λ z. hit (pulse z p.sign) x s) e

pub tally_up : (ps : List Pulse) (n x : ℕ) (s : Sign) → tally (up n ps) (x + n) s ≡ tally ps x s
unfolding up
tally_up [] n x s = refl
tally_up (p ∷ ps) n x s = ap₂ (λ a b. a + b) (hit_up p.place n x p.sign s) (tally_up ps n x s)

pub tally_up_below : (ps : List Pulse) (n x : ℕ) (s : Sign) → x < n → tally (up n ps) x s ≡ 0
unfolding up
tally_up_below [] n x s h = refl
tally_up_below (p ∷ ps) n x s h =
    omega (arith, hit_apart (p.place + n) x p.sign s (λ e. omega arith), tally_up_below ps n x s h)

pub same_up : (n : ℕ) (ps qs : List Pulse) → Same ps qs → Same (up n ps) (up n qs)
same_up n ps qs h x s =
    ⊎_elim (λ l. tally_up_below ps n x s l ∙ sym (tally_up_below qs n x s l))
    (λ l. let P : ℕ → Type 0 = λ z. tally (up n ps) z s ≡ tally (up n qs) z s in
    subst P (omega arith) (tally_up ps n (x - n) s ∙ h (x - n) s ∙ sym (tally_up qs n (x - n) s)))
    (cases_lt x n)

pub up_zero : (ps : List Pulse) → Same (up 0 ps) ps
up_zero ps x s =
    let P : ℕ → Type 0 = λ z. tally (up 0 ps) z s ≡ tally ps x s in subst P (omega arith) (tally_up ps 0 x s)

-- parts of a lawful set are lawful
pub lawful_same : (ps qs : List Pulse) → Same ps qs → Lawful ps → Lawful qs
lawful_same ps qs h l x = ⊎_elim (λ e. inl (omega (arith, h x Plus))) (λ e. inr (omega (arith, h x Minus))) (l x)

pub lawful_left : (ps qs : List Pulse) → Lawful (ps ++ qs) → Lawful ps
lawful_left ps qs l x =
    ⊎_elim (λ e. inl (omega (arith, tally_append ps qs x Plus))) (λ e. inr (omega (arith, tally_append ps qs x Minus))) (l x)

pub lawful_right : (ps qs : List Pulse) → Lawful (ps ++ qs) → Lawful qs
lawful_right ps qs l x =
    ⊎_elim (λ e. inl (omega (arith, tally_append ps qs x Plus))) (λ e. inr (omega (arith, tally_append ps qs x Minus))) (l x)

pub lawful_down : (n : ℕ) (ps : List Pulse) → Lawful (up n ps) → Lawful ps
lawful_down n ps l x =
    ⊎_elim (λ e. inl (omega (arith, tally_up ps n x Plus))) (λ e. inr (omega (arith, tally_up ps n x Minus))) (l (x + n))

-- a pulse of the other sign adds nothing
pub hit_other : (p : Pulse) (x : ℕ) (s : Sign) → alike p.sign s ≡ false → hit p x s ≡ 0
unfolding hit
hit_other p x s e = grind (arith, nat_tests)

-- a pulse is at a place with a sign, or adds nothing there
by_sign : (y x : ℕ) (t s : Sign) → y ≡ x → (hit (pulse y t) x s ≡ 0) ⊎ ((y ≡ x) × (t ≡ s))
by_sign y x Plus Plus e = inr (e, refl)
by_sign y x Minus Minus e = inr (e, refl)
by_sign y x Plus Minus e = inl (hit_other (pulse y Plus) x Minus refl)
by_sign y x Minus Plus e = inl (hit_other (pulse y Minus) x Plus refl)

pub hit_cases : (p : Pulse) (x : ℕ) (s : Sign) → (hit p x s ≡ 0) ⊎ ((p.place ≡ x) × (p.sign ≡ s))
hit_cases p x s = ⊎_elim (by_sign p.place x p.sign s) (λ e. inl (hit_apart p.place x p.sign s e)) (cases_eq p.place x)

-- one set has one size: take a pulse out of both
without : Pulse → List Pulse → List Pulse
without p [] = []
without p (q ∷ qs) = cond (eqb (hit q p.place p.sign) 0) (q ∷ without p qs) qs

hit_one : (p q : Pulse) → (hit q p.place p.sign ≡ 0 → ⊥) → q ≡ p
hit_one p q n = ⊎_elim (λ e. absurd (n e)) (λ e. ap₂ pulse e.0 e.1) (hit_cases q p.place p.sign)

record Removed (p : Pulse) (qs rs : List Pulse) : Type 0 where
  long : length qs ≡ suc (length rs)
  same : (x : ℕ) (s : Sign) → tally qs x s ≡ hit p x s + tally rs x s

removed : (p : Pulse) (qs : List Pulse) → 0 < tally qs p.place p.sign → Removed p qs (without p qs)
unfolding without
removed p [] h = absurd (omega arith)
removed p (q ∷ qs) h =
    cond_both (eqb (hit q p.place p.sign) 0) (q ∷ without p qs) qs (Removed p (q ∷ qs))
    (λ e.
    let z = eqb-true (hit q p.place p.sign) 0 e in
    let r = removed p qs (omega arith) in
    record { long = ap suc r.long; same = λ x s. omega (arith, r.same x s) })
    (λ e. let i = hit_one p q (eqb-false (hit q p.place p.sign) 0 e) in record { long = refl; same = λ x s. omega (arith, ap (λ z. hit z x s) i) })

pub same_size : (ps qs : List Pulse) → Same ps qs → length ps ≡ length qs
same_size [] [] e = refl
same_size [] (q ∷ qs) e = absurd (omega (arith, e q.place q.sign, hit_self q.place q.sign))
same_size (p ∷ ps) qs e =
    let r = removed p qs (omega (arith, e p.place p.sign, hit_self p.place p.sign)) in
    ap suc (same_size ps (without p qs) (λ x s. omega (arith, e x s, r.same x s))) ∙ sym r.long
