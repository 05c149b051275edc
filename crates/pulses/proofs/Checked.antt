-- What the questions to a track's pulses tell, and what stands in a row put in order.
use Rattle.std.proofs.Common.{◌≡◌, ℕ, ◌+◌, ◌-◌, ◌^◌, ◌<◌, ◌≤◌, Bool, true, false, ◌&&◌, eqb, leb, ◌⊎◌, List, [], ◌∷◌, ◌++◌, length, take, drop, replicate, Ok, Err, sym, refl, ap, ◌∙◌, subst, ap₂, inl, inr, ⊎_elim, arith}
use Rattle.std.specs.Prelude.{nat_lt}
use Rattle.std.specs.List.{AllByRecursion, IsAllAdjacentAnswer, list_all}
use Rattle.std.proofs.lemmas.List.{length-take, take-append-drop}
use Rattle.std.proofs.lemmas.Bool.{leb-true, le-leb, ltb-true, lt-ltb, eqb-true, eq-eqb, cases_lt, true≢false}
use Rattle.std.proofs.lemmas.Bool.Decides.{nat_tests}
use Rattle.refusals.specs.declared.cause.Cause.TheVariants.{WrongNumber, OffTrack, BothSigns}
use Rattle.refusals.specs.declared.refusal.Refusal.{Refusal}
use Rattle.refusals.specs.Spots.{because}
use Rattle.pulses.specs.declared.pulse.Pulse.{Pulse}
use Rattle.pulses.specs.declared.pulse.Sign.{Sign}
use Rattle.pulses.specs.declared.pulse.Sign.TheVariants.{Plus, Minus}
use Rattle.pulses.specs.Pulses.{opposite, tally, Lawful, On, sort}
use Rattle.pulses.specs.Sets.{every, on_track, one_signed, checked, none, padded, map_ok, track_set, InOrder, apart, follows}
use Rattle.pulses.proofs.Tallies.{hit_self, hit_cases, lawful_same, same_sym}
use Rattle.pulses.proofs.Canon.{sort_is}
use Rattle.pulses.proofs.Signs.{alike_cases, Steps, lawful_from_steps, steps_from_lawful}

-- a test of every element
and_true : (a b : Bool) → (a && b) ≡ true → (a ≡ true) × (b ≡ true)
and_true true b h = (refl, h)
and_true false b h = absurd (true≢false (sym h))

true_and : (a b : Bool) → a ≡ true → b ≡ true → (a && b) ≡ true
true_and true b h k = k
true_and false b h k = absurd (true≢false (sym h))

pub all_from_test : {X : Type 0} (f : X → Bool) (P : X → Type 0) → ((x : X) → f x ≡ true → P x) → (xs : List X) → every f xs ≡ true → AllByRecursion P xs
all_from_test f P g [] h = tt
all_from_test f P g (x ∷ xs) h = let t = and_true (f x) (every f xs) h in (g x t.0, all_from_test f P g xs t.1)

pub test_from_all : {X : Type 0} (f : X → Bool) (P : X → Type 0) → ((x : X) → P x → f x ≡ true) → (xs : List X) → AllByRecursion P xs → every f xs ≡ true
test_from_all f P g [] a = refl
test_from_all f P g (x ∷ xs) a = true_and (f x) (every f xs) (g x a.0) (test_from_all f P g xs a.1)

pub on_from_test : (M : ℕ) (ps : List Pulse) → on_track M ps ≡ true → On M ps
unfolding on_track
on_from_test M ps h = all_from_test _ (λ p. p.place < 2 ^ M) (λ p e. ltb-true p.place (2 ^ M) e) ps h

pub test_from_on : (M : ℕ) (ps : List Pulse) → On M ps → on_track M ps ≡ true
unfolding on_track
test_from_on M ps a = test_from_all _ (λ p. p.place < 2 ^ M) (λ p l. lt-ltb p.place (2 ^ M) l) ps a

-- what has this place and sign has nothing of the other sign there
abbrev Alone : List Pulse → Pulse → Type 0
Alone zs p = tally zs p.place (opposite p.sign) ≡ 0

alone_at : (zs ps : List Pulse) (x : ℕ) (s : Sign) → AllByRecursion (Alone zs) ps → 0 < tally ps x s → tally zs x (opposite s) ≡ 0
alone_at zs [] x s a h = absurd (omega arith)
alone_at zs (p ∷ ps) x s a h =
    ⊎_elim (λ e. alone_at zs ps x s a.1 (omega arith))
    (λ e. let P : ℕ → Type 0 = λ z. tally zs z (opposite s) ≡ 0 in subst P e.0 (let Q : Sign → Type 0 = λ z. tally zs p.place (opposite z) ≡ 0 in subst Q e.1 a.0))
    (hit_cases p x s)

pub lawful_from_test : (ps : List Pulse) → one_signed ps ≡ true → Lawful ps
unfolding one_signed
lawful_from_test ps h x =
    let a = all_from_test (λ p. eqb (tally ps p.place (opposite p.sign)) 0) (Alone ps) (λ p e. eqb-true (tally ps p.place (opposite p.sign)) 0 e) ps h in
    ⊎_elim (λ l. inl (omega arith)) (λ l. inr (alone_at ps ps x Plus a (omega arith))) (cases_lt (tally ps x Plus) 1)

alone : (zs : List Pulse) (p : Pulse) → Lawful zs → 0 < tally zs p.place p.sign → Alone zs p
alone zs p l h = by p.place p.sign h (l p.place)
  where
    by : (x : ℕ) (s : Sign) → 0 < tally zs x s → (tally zs x Plus ≡ 0) ⊎ (tally zs x Minus ≡ 0) → tally zs x (opposite s) ≡ 0
    by x Plus h l = ⊎_elim (λ e. absurd (omega arith)) (λ e. e) l
    by x Minus h l = ⊎_elim (λ e. e) (λ e. absurd (omega arith)) l

all_alone : (zs ps : List Pulse) → Lawful zs → ((x : ℕ) (s : Sign) → tally ps x s ≤ tally zs x s) → AllByRecursion (Alone zs) ps
all_alone zs [] l h = tt
all_alone zs (p ∷ ps) l h =
    (alone zs p l (omega (arith, h p.place p.sign, hit_self p.place p.sign)), all_alone zs ps l (λ x s. omega (arith, h x s)))

pub test_from_lawful : (ps : List Pulse) → Lawful ps → one_signed ps ≡ true
unfolding one_signed
test_from_lawful ps l =
    test_from_all (λ p. eqb (tally ps p.place (opposite p.sign)) 0) (Alone ps) (λ p e. eq-eqb (tally ps p.place (opposite p.sign)) 0 e) ps
    (all_alone ps ps l (λ x s. omega arith))

-- the three answers of `checked`
pub checked_ok : (M : ℕ) (ps : List Pulse) → On M ps → Lawful ps → checked M ps ≡ Ok (sort ps)
unfolding checked
checked_ok M ps o l = rw (test_from_on M ps o, test_from_lawful ps l)

not_true : (b : Bool) → (b ≡ true → ⊥) → b ≡ false
not_true true h = absurd (h refl)
not_true false h = refl

pub checked_off : (M : ℕ) (ps : List Pulse) → (On M ps → ⊥) → checked M ps ≡ Err (because OffTrack)
unfolding checked
checked_off M ps n = rw (not_true (on_track M ps) (λ e. n (on_from_test M ps e)))

pub checked_both : (M : ℕ) (ps : List Pulse) → On M ps → (Lawful ps → ⊥) → checked M ps ≡ Err (because BothSigns)
unfolding checked
checked_both M ps o n = rw (test_from_on M ps o, not_true (one_signed ps) (λ e. n (lawful_from_test ps e)))

-- a row put in order: the pulses in front, and nothing behind them
front_length : (ps row : List Pulse) → length ps ≤ 6 → InOrder ps row → length (take (length ps) row) ≡ length ps
front_length ps row h o = let e = o.size in simp length-take (omega arith)

-- the row of a lawful set
pub row_is : (ps row : List Pulse) → length ps ≤ 6 → InOrder ps row → Lawful ps → row ≡ padded (sort ps)
unfolding padded
row_is ps row h o l =
    let front = take (length ps) row in
    let e : sort ps ≡ front = sort_is front ps (lawful_same ps front (same_sym front ps o.same) l) o.rises o.same in
    let back : drop (length ps) row ≡ replicate (6 - length (sort ps)) none = o.behind ∙ ap (λ n. replicate (6 - n) none) (sym (ap length e ∙ front_length ps row h o)) in
    sym (take-append-drop (length ps) row) ∙ ap₂ (λ y z. y ++ z) (sym e) back

-- what the neighbours of a list tell
step_from_test : (p q : Pulse) → follows p q ≡ true → p.place + apart p q ≤ q.place
unfolding apart
step_from_test p q h =
    elim (alike_cases p.sign q.sign) [
      | inl e ↦ rw e (grind (arith, nat_tests))
      | inr e ↦ rw e (grind (arith, nat_tests))
    ]

test_from_step : (p q : Pulse) → p.place + apart p q ≤ q.place → follows p q ≡ true
unfolding apart
test_from_step p q h =
    elim (alike_cases p.sign q.sign) [
      | inl e ↦ grind (arith, nat_tests, rw e at h)
      | inr e ↦ grind (arith, nat_tests, rw e at h)
    ]

steps_from_answer : (xs : List Pulse) (r : Bool) → IsAllAdjacentAnswer (λ p q b. b ≡ follows p q) xs r → r ≡ true → Steps xs
steps_from_answer xs true h e = λ k l. step_from_test _ _ (sym (h k none l))
steps_from_answer xs false h e = absurd (true≢false (sym e))

no_steps_from_answer : (xs : List Pulse) (r : Bool) → IsAllAdjacentAnswer (λ p q b. b ≡ follows p q) xs r → r ≡ false → Steps xs → ⊥
no_steps_from_answer xs true h e st = true≢false e
no_steps_from_answer xs false h e st = true≢false (sym (test_from_step _ _ (st h.0 h.1)) ∙ sym (h.2 none))

-- the answers of `track_set`
pub set_number : (n M : ℕ) (ps : List Pulse) → (length ps ≡ n → n ≤ 6 → ⊥) → track_set n M ps ≡ Err (because WrongNumber)
unfolding track_set
set_number n M ps h =
    let e : (eqb (length ps) n && leb n 6) ≡ false =
    not_true (eqb (length ps) n && leb n 6) (λ e. let t = and_true (eqb (length ps) n) (leb n 6) e in h (eqb-true (length ps) n t.0) (leb-true n 6 t.1)) in
    rw e

pub set_is : (n M : ℕ) (ps : List Pulse) → length ps ≡ n → n ≤ 6 → track_set n M ps ≡ map_ok padded (checked M ps)
unfolding track_set
set_is n M ps e l = rw (eq-eqb (length ps) n e, le-leb n 6 l)

-- a test of every element, as the library has it
every_is : {X : Type 0} (f : X → Bool) (xs : List X) → every f xs ≡ list_all f xs
every_is f [] = refl
every_is f (x ∷ xs) = ap (λ b. f x && b) (every_is f xs)

pub on_track_is : (M : ℕ) (ps : List Pulse) → on_track M ps ≡ list_all (λ p. nat_lt p.place (2 ^ M)) ps
unfolding on_track
on_track_is M ps = every_is _ ps

-- and by those of the questions that it asks
pub number_refused : (n M : ℕ) (ps : List Pulse) (e : Refusal) → e ≡ because WrongNumber → (length ps ≡ n → ⊥) ⊎ (6 < n) → Err e ≡ track_set n M ps
number_refused n M ps e h w = ap Err h ∙ sym (set_number n M ps (λ l k. ⊎_elim (λ other. other l) (λ more. omega (arith, more)) w))

pub off_refused : (n M : ℕ) (ps : List Pulse) (e : Refusal) (on : Bool) → e ≡ because OffTrack → length ps ≡ n → n ≤ 6 → on ≡ list_all (λ p. nat_lt p.place (2 ^ M)) ps → on ≡ false
    → Err e ≡ track_set n M ps
off_refused n M ps e on h l k a f =
    ap Err h ∙ sym (set_is n M ps l k ∙ ap (map_ok padded) (checked_off M ps (λ o. true≢false (sym (test_from_on M ps o) ∙ on_track_is M ps ∙ sym a ∙ f))))

pub both_refused : (n M : ℕ) (ps row : List Pulse) (e : Refusal) (on b : Bool) → e ≡ because BothSigns → length ps ≡ n → n ≤ 6 → on ≡ list_all (λ p. nat_lt p.place (2 ^ M)) ps → on ≡ true
    → InOrder ps row → IsAllAdjacentAnswer (λ p q r. r ≡ follows p q) (take n row) b → b ≡ false → Err e ≡ track_set n M ps
both_refused n M ps row e on b h l k a t o w f =
    let front = take (length ps) row in
    let no : Steps (take n row) → ⊥ = no_steps_from_answer (take n row) b w f in
    ap Err h
    ∙ sym (set_is n M ps l k ∙ ap (map_ok padded) (checked_both M ps (on_from_test M ps (on_track_is M ps ∙ sym a ∙ t))
    (λ m. no (subst (λ z. Steps (take z row)) l (steps_from_lawful front o.rises (lawful_same ps front (same_sym front ps o.same) m))))))

pub row_given : (n M : ℕ) (ps row : List Pulse) (on b : Bool) → length ps ≡ n → n ≤ 6 → on ≡ list_all (λ p. nat_lt p.place (2 ^ M)) ps → on ≡ true
    → InOrder ps row → IsAllAdjacentAnswer (λ p q r. r ≡ follows p q) (take n row) b → b ≡ true → Ok row ≡ track_set n M ps
row_given n M ps row on b l k a t o w f =
    let front = take (length ps) row in
    let st = steps_from_answer (take n row) b w f in
    let m : Lawful ps = lawful_same front ps o.same (lawful_from_steps front (subst (λ z. Steps (take z row)) (sym l) st)) in
    sym (set_is n M ps l k ∙ ap (map_ok padded) (checked_ok M ps (on_from_test M ps (on_track_is M ps ∙ sym a ∙ t)) m) ∙ ap Ok (sym (row_is ps row (omega arith) o m)))

pub ruleset set_answers = (number_refused, off_refused, both_refused, row_given)
