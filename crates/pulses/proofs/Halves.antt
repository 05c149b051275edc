-- The two halves of a set of pulses.
use Rattle.std.proofs.Common.{◌≡◌, ℕ, zero, suc, ◌+◌, ◌-◌, ◌*◌, ◌/◌, ◌%◌, ◌^◌, ◌<◌, ◌≤◌, cond, eqb, leb, List, [], ◌∷◌, ◌++◌, map, length, take, drop, filter, sym, refl, ap, ◌∙◌, subst, ap₂, ⊎_elim, arith}
use Rattle.pulses.specs.declared.pulse.Sign.{Sign}
use Rattle.std.specs.List.{AllByRecursion}
use Rattle.std.proofs.lemmas.Bool.{eq-eqb, ne_eqb, cases_eq, leb-true, leb-false, cond_both}
use Rattle.std.proofs.lemmas.Nat.{pow_pos, mod_below, div_below, div-add-mod', div-mul-add, mod-mul-add}
use Rattle.std.proofs.lemmas.List.{length-map, length-append, length-take, length-drop, take-append-drop, map-append, append-nil}
use Rattle.std.proofs.lemmas.List.Elements.{filter-append}
use Rattle.std.proofs.ByRecursion.{All-append, All-take, All-drop, All-map, All-weaker}
use Rattle.pulses.specs.declared.pulse.Pulse.{Pulse}
use Rattle.pulses.specs.Pulses.{pulse, hit, tally, Same, Lawful, On, Sorted, up, half, Group}
use Rattle.pulses.specs.House.{fuller, others}
use Rattle.pulses.specs.Rules.{Choice, Lowest, LowerFirst}
use Rattle.pulses.proofs.Cuts.{cut_below}
use Rattle.pulses.proofs.Tallies.{same_from, tally_append, hit_place, lawful_same, lawful_left, lawful_right, lawful_down}

pub half_none : (H h : ℕ) → half H h [] ≡ []
unfolding half
half_none H h = refl

module _ (H h : ℕ) (p : Pulse) (ps : List Pulse) where
  pub half_in : p.place / 2 ^ H ≡ h → half H h (p ∷ ps) ≡ pulse (p.place % 2 ^ H) p.sign ∷ half H h ps
  unfolding half
  half_in e =
      ap (λ t. map (λ q. pulse (q.place % 2 ^ H) q.sign) (cond t (p ∷ filter (λ q. eqb (q.place / 2 ^ H) h) ps) (filter (λ q. eqb (q.place / 2 ^ H) h) ps)))
      (eq-eqb (p.place / 2 ^ H) h e)

  pub half_out : (p.place / 2 ^ H ≡ h → ⊥) → half H h (p ∷ ps) ≡ half H h ps
  unfolding half
  half_out e =
      ap (λ t. map (λ q. pulse (q.place % 2 ^ H) q.sign) (cond t (p ∷ filter (λ q. eqb (q.place / 2 ^ H) h) ps) (filter (λ q. eqb (q.place / 2 ^ H) h) ps)))
      (ne_eqb (p.place / 2 ^ H) h e)

pub on_half : (H h : ℕ) (ps : List Pulse) → On H (half H h ps)
unfolding half
on_half H h ps = All-map (λ p. p.place < 2 ^ H) (λ q. pulse (q.place % 2 ^ H) q.sign) (filter (λ q. eqb (q.place / 2 ^ H) h) ps) (every (filter (λ q. eqb (q.place / 2 ^ H) h) ps))
  where
    every : (qs : List Pulse) → AllByRecursion (λ q. q.place % 2 ^ H < 2 ^ H) qs
    every [] = tt
    every (q ∷ qs) = (mod_below q.place (2 ^ H) (pow_pos H), every qs)

pub on_up : (H h : ℕ) (ps : List Pulse) → h < 2 → On H ps → On (suc H) (up (h * 2 ^ H) ps)
unfolding up
on_up H h [] b k = tt
on_up H h (p ∷ ps) b k =
    (let t : h * 2 ^ H + p.place < 2 ^ suc H = cut_below 1 H (suc H) h p.place (omega arith) b k.0 in omega arith, on_up H h ps b k.1)

pub length_up : (n : ℕ) (ps : List Pulse) → length (up n ps) ≡ length ps
unfolding up
length_up n ps = length-map ps (λ p. pulse (p.place + n) p.sign)

pub up_append : (n : ℕ) (ps qs : List Pulse) → up n (ps ++ qs) ≡ up n ps ++ up n qs
unfolding up
up_append n ps qs = map-append (λ p. pulse (p.place + n) p.sign) ps qs

pub record Halved (H h : ℕ) (ps : List Pulse) : Type 0 where
  pub same : Same ps (up (h * 2 ^ H) (half H h ps) ++ up ((1 - h) * 2 ^ H) (half H (1 - h) ps))
  pub long : length (half H h ps) + length (half H (1 - h) ps) ≡ length ps

tally_up_cons : (n x : ℕ) (s : Sign) (p : Pulse) (ps qs : List Pulse) → qs ≡ p ∷ ps → tally (up n qs) x s ≡ hit (pulse (p.place + n) p.sign) x s + tally (up n ps) x s
unfolding up
tally_up_cons n x s p ps qs e = ap (λ z. tally (up n z) x s) e

halved_more : (H h : ℕ) (p : Pulse) (ps : List Pulse) → h < 2 → p.place / 2 ^ H ≡ h → Halved H h ps → Halved H h (p ∷ ps)
halved_more H h p ps b e r =
    let i = half_in H h p ps e in
    let o = half_out H (1 - h) p ps (λ f. omega arith) in
    record {
      same = λ x s.
          let back : p.place % 2 ^ H + h * 2 ^ H ≡ p.place = omega (arith, div-add-mod' p.place (2 ^ H), ap (λ z. z * 2 ^ H) e) in
          omega (
            arith,
            tally_append (up (h * 2 ^ H) (half H h (p ∷ ps))) (up ((1 - h) * 2 ^ H) (half H (1 - h) (p ∷ ps))) x s,
            tally_append (up (h * 2 ^ H) (half H h ps)) (up ((1 - h) * 2 ^ H) (half H (1 - h) ps)) x s,
            tally_up_cons (h * 2 ^ H) x s (pulse (p.place % 2 ^ H) p.sign) (half H h ps) (half H h (p ∷ ps)) i,
            ap (λ z. tally (up ((1 - h) * 2 ^ H) z) x s) o,
            hit_place p x s (p.place % 2 ^ H + h * 2 ^ H) back,
            r.same x s,
          );
      long = omega (arith, ap length i, ap length o, r.long);
    }

halved_swap : (H h : ℕ) (ps : List Pulse) → h < 2 → Halved H (1 - h) ps → Halved H h ps
halved_swap H h ps b r =
    let e : 1 - (1 - h) ≡ h = omega arith in
    record {
      same = λ x s.
          omega (
            arith,
            r.same x s,
            tally_append (up (h * 2 ^ H) (half H h ps)) (up ((1 - h) * 2 ^ H) (half H (1 - h) ps)) x s,
            tally_append (up ((1 - h) * 2 ^ H) (half H (1 - h) ps)) (up ((1 - (1 - h)) * 2 ^ H) (half H (1 - (1 - h)) ps)) x s,
            ap (λ z. tally (up (z * 2 ^ H) (half H z ps)) x s) e,
          );
      long = omega (arith, r.long, ap (λ z. length (half H z ps)) e);
    }

halved_none : (H h : ℕ) → Halved H h []
unfolding half up
halved_none H h = record { same = λ x s. refl; long = refl }

pub halved : (H h : ℕ) (ps : List Pulse) → h < 2 → On (suc H) ps → Halved H h ps
halved H h [] b k = halved_none H h
halved H h (p ∷ ps) b k =
    let low : p.place / 2 ^ H < 2 = div_below p.place (2 ^ H) 2 (pow_pos H) (omega (arith, k.0)) in
    let rest = halved H h ps b k.1 in
    let e : h ≡ 1 - (1 - h) = omega arith in
    let P : ℕ → Type 0 = λ z. Halved H z ps in
    ⊎_elim (λ f. halved_more H h p ps b f rest)
    (λ f. halved_swap H h (p ∷ ps) b (halved_more H (1 - h) p ps (omega arith) (omega arith) (halved_swap H (1 - h) ps (omega arith) (subst P e rest))))
    (cases_eq (p.place / 2 ^ H) h)

-- both halves of a group
pub record Halves (H h n : ℕ) (ps : List Pulse) : Type 0 where
  pub here : Group H (length (half H h ps)) (half H h ps)
  pub there : Group H (length (half H (1 - h) ps)) (half H (1 - h) ps)
  pub same : Same ps (up (h * 2 ^ H) (half H h ps) ++ up ((1 - h) * 2 ^ H) (half H (1 - h) ps))
  pub long : length (half H h ps) + length (half H (1 - h) ps) ≡ n

pub halves : (H h n : ℕ) (ps : List Pulse) → h < 2 → Group (suc H) n ps → Halves H h n ps
halves H h n ps b g =
    let r = halved H h ps b g.on in
    let l = lawful_same ps _ r.same g.lawful in
    record {
      here = record { size = refl; on = on_half H h ps; lawful = lawful_down (h * 2 ^ H) _ (lawful_left _ (up ((1 - h) * 2 ^ H) (half H (1 - h) ps)) l) };
      there = record { size = refl; on = on_half H (1 - h) ps; lawful = lawful_down ((1 - h) * 2 ^ H) _ (lawful_right (up (h * 2 ^ H) (half H h ps)) _ l) };
      same = r.same;
      long = r.long ∙ g.size;
    }

pub up_parts : (n k : ℕ) (ps : List Pulse) → Same (up n ps) (up n (take k ps) ++ up n (drop k ps))
up_parts n k ps = same_from _ _ (ap (up n) (sym (take-append-drop k ps)) ∙ up_append n (take k ps) (drop k ps))

pub lawful_take : (k : ℕ) (ps : List Pulse) → Lawful ps → Lawful (take k ps)
lawful_take k ps l = let P : List Pulse → Type 0 = λ z. Lawful z in lawful_left (take k ps) (drop k ps) (subst P (sym (take-append-drop k ps)) l)

pub lawful_drop : (k : ℕ) (ps : List Pulse) → Lawful ps → Lawful (drop k ps)
lawful_drop k ps l = let P : List Pulse → Type 0 = λ z. Lawful z in lawful_right (take k ps) (drop k ps) (subst P (sym (take-append-drop k ps)) l)

pub group_take : (M k n : ℕ) (ps : List Pulse) → k ≤ n → Group M n ps → Group M k (take k ps)
group_take M k n ps h g =
    record { size = omega (arith, length-take k ps, g.size); on = All-take _ k ps g.on; lawful = lawful_take k ps g.lawful }

pub group_drop : (M k n : ℕ) (ps : List Pulse) → Group M n ps → Group M (n - k) (drop k ps)
group_drop M k n ps g =
    record { size = omega (arith, length-drop k ps, g.size); on = All-drop _ k ps g.on; lawful = lawful_drop k ps g.lawful }

-- the lowest k of half h, and the others
pub record Parted (H h k n : ℕ) (ps : List Pulse) : Type 0 where
  pub front : Group H k (take k (half H h ps))
  pub rest : Group (suc H) (n - k) (others k H h ps)
  pub same : Same ps (up (h * 2 ^ H) (take k (half H h ps)) ++ others k H h ps)

pub parted : (H h k n : ℕ) (ps : List Pulse) → h < 2 → k ≤ length (half H h ps) → Group (suc H) n ps → Parted H h k n ps
unfolding others
parted H h k n ps b m g =
    let r = halves H h n ps b g in
    let a = half H h ps in
    let o = half H (1 - h) ps in
    let front : Group H k (take k a) = group_take H k (length a) a m r.here in
    let back : Group H (length a - k) (drop k a) = group_drop H k (length a) a r.here in
    let same : Same ps (up (h * 2 ^ H) (take k a) ++ (up (h * 2 ^ H) (drop k a) ++ up ((1 - h) * 2 ^ H) o)) =
    λ x s.
    omega (
      arith,
      r.same x s,
      tally_append (up (h * 2 ^ H) a) (up ((1 - h) * 2 ^ H) o) x s,
      up_parts (h * 2 ^ H) k a x s,
      tally_append (up (h * 2 ^ H) (take k a)) (up (h * 2 ^ H) (drop k a)) x s,
      tally_append (up (h * 2 ^ H) (take k a)) (up (h * 2 ^ H) (drop k a) ++ up ((1 - h) * 2 ^ H) o) x s,
      tally_append (up (h * 2 ^ H) (drop k a)) (up ((1 - h) * 2 ^ H) o) x s,
    ) in
    record {
      front = front;
      rest =
          record {
            size = omega (arith, length-append (up (h * 2 ^ H) (drop k a)) (up ((1 - h) * 2 ^ H) o), length_up (h * 2 ^ H) (drop k a), length_up ((1 - h) * 2 ^ H) o, back.size, r.long);
            on = All-append _ (up (h * 2 ^ H) (drop k a)) (up ((1 - h) * 2 ^ H) o) (on_up H h (drop k a) b back.on) (on_up H (1 - h) o (omega arith) r.there.on);
            lawful = lawful_right (up (h * 2 ^ H) (take k a)) _ (lawful_same ps _ same g.lawful);
          };
      same = same;
    }

-- the half that has k
pub record Full (k H : ℕ) (ps : List Pulse) (h : ℕ) : Type 0 where
  pub is_half : h < 2
  pub has : k ≤ length (half H h ps)
  pub else : h ≡ 1 → length (half H 0 ps) < k

pub full : (k H n : ℕ) (ps : List Pulse) → 2 * k ≤ n + 1 → Group (suc H) n ps → Full k H ps (fuller k H ps)
unfolding fuller
full k H n ps m g =
    let r = halves H 0 n ps (omega arith) g in
    cond_both (leb k (length (half H 0 ps))) 0 1 (Full k H ps)
    (λ e. record { is_half = omega arith; has = leb-true k (length (half H 0 ps)) e; else = λ f. absurd (omega arith) })
    (λ e.
    let l : length (half H 0 ps) < k = leb-false k (length (half H 0 ps)) e in
    record { is_half = omega arith; has = omega (arith, r.long); else = λ f. l })

-- a half keeps the order
all_half : (H h m : ℕ) (ps : List Pulse) → AllByRecursion (λ q. m + h * 2 ^ H ≤ q.place) ps → AllByRecursion (λ q. m ≤ q.place) (half H h ps)
all_half H h m [] a = let P : List Pulse → Type 0 = λ z. AllByRecursion (λ q. m ≤ q.place) z in subst P (sym (half_none H h)) tt
all_half H h m (p ∷ ps) a =
    let P : List Pulse → Type 0 = λ z. AllByRecursion (λ q. m ≤ q.place) z in
    ⊎_elim
    (λ e.
    subst P (sym (half_in H h p ps e))
    (omega (arith, a.0, div-add-mod' p.place (2 ^ H), ap (λ z. z * 2 ^ H) e), all_half H h m ps a.1))
    (λ e. subst P (sym (half_out H h p ps e)) (all_half H h m ps a.1)) (cases_eq (p.place / 2 ^ H) h)

pub sorted_half : (H h : ℕ) (ps : List Pulse) → Sorted ps → Sorted (half H h ps)
sorted_half H h [] a = subst Sorted (sym (half_none H h)) tt
sorted_half H h (p ∷ ps) a =
    ⊎_elim
    (λ e.
    let l : p.place % 2 ^ H + h * 2 ^ H ≡ p.place = omega (arith, div-add-mod' p.place (2 ^ H), ap (λ z. z * 2 ^ H) e) in
    subst Sorted (sym (half_in H h p ps e)) (
      all_half H h (p.place % 2 ^ H) ps
          (All-weaker (λ q. p.place ≤ q.place) (λ q. p.place % 2 ^ H + h * 2 ^ H ≤ q.place) (λ q k. omega arith) ps a.0),
      sorted_half H h ps a.1,
    ))
    (λ e. subst Sorted (sym (half_out H h p ps e)) (sorted_half H h ps a.1)) (cases_eq (p.place / 2 ^ H) h)

pub sorted_take : (k : ℕ) (ps : List Pulse) → Sorted ps → Sorted (take k ps)
sorted_take zero ps a = tt
sorted_take (suc k) [] a = tt
sorted_take (suc k) (p ∷ ps) a = (All-take _ k ps a.0, sorted_take k ps a.1)

pub lowest_first : (k : ℕ) (ps : List Pulse) → Sorted ps → AllByRecursion (λ p. AllByRecursion (λ q. p.place ≤ q.place) (drop k ps)) (take k ps)
lowest_first zero ps a = tt
lowest_first (suc k) [] a = tt
lowest_first (suc k) (p ∷ ps) a = (All-drop _ k ps a.0, lowest_first k ps a.1)

-- what a half holds of a join
pub half_append : (H h : ℕ) (ps qs : List Pulse) → half H h (ps ++ qs) ≡ half H h ps ++ half H h qs
unfolding half
half_append H h ps qs =
    ap (map (λ q. pulse (q.place % 2 ^ H) q.sign)) (filter-append (λ q. eqb (q.place / 2 ^ H) h) ps qs)
    ∙ map-append (λ q. pulse (q.place % 2 ^ H) q.sign) (filter (λ q. eqb (q.place / 2 ^ H) h) ps) (filter (λ q. eqb (q.place / 2 ^ H) h) qs)

pub half_up : (H h : ℕ) (ps : List Pulse) → On H ps → half H h (up (h * 2 ^ H) ps) ≡ ps
unfolding up
half_up H h [] o = half_none H h
half_up H h (p ∷ ps) o =
    let c : p.place + h * 2 ^ H ≡ h * 2 ^ H + p.place = omega arith in
    half_in H h (pulse (p.place + h * 2 ^ H) p.sign) (up (h * 2 ^ H) ps) (ap (λ z. z / 2 ^ H) c ∙ div-mul-add h (2 ^ H) p.place o.0)
    ∙ ap₂ (λ n zs. pulse n p.sign ∷ zs) (ap (λ z. z % 2 ^ H) c ∙ mod-mul-add h (2 ^ H) p.place o.0) (half_up H h ps o.1)

pub half_up_other : (H h g : ℕ) (ps : List Pulse) → (g ≡ h → ⊥) → On H ps → half H h (up (g * 2 ^ H) ps) ≡ []
unfolding up
half_up_other H h g [] n o = half_none H h
half_up_other H h g (p ∷ ps) n o =
    let c : p.place + g * 2 ^ H ≡ g * 2 ^ H + p.place = omega arith in
    half_out H h (pulse (p.place + g * 2 ^ H) p.sign) (up (g * 2 ^ H) ps) (λ e. n (sym (ap (λ z. z / 2 ^ H) c ∙ div-mul-add g (2 ^ H) p.place o.0) ∙ e))
    ∙ half_up_other H h g ps n o.1

-- of the others, half h has what was not taken from it
pub half_others : (H h k : ℕ) (ps : List Pulse) → h < 2 → half H h (others k H h ps) ≡ drop k (half H h ps)
unfolding others
half_others H h k ps b =
    half_append H h _ _
    ∙ ap₂ (λ y z. y ++ z) (half_up H h (drop k (half H h ps)) (All-drop _ k _ (on_half H h ps)))
    (half_up_other H h (1 - h) (half H (1 - h) ps) (λ e. omega arith) (on_half H (1 - h) ps))
    ∙ append-nil (drop k (half H h ps))

pub takes_lowest : (H h k : ℕ) (ps : List Pulse) → h < 2 → Sorted ps → Lowest Choice.house (take k (half H h ps)) (half H h (others k H h ps))
takes_lowest H h k ps b a =
    let P : List Pulse → Type 0 = λ z. AllByRecursion (λ p. AllByRecursion (λ q. p.place ≤ q.place) z) (take k (half H h ps)) in
    subst P (sym (half_others H h k ps b)) (lowest_first k (half H h ps) (sorted_half H h ps a))

pub takes_lower : (H h : ℕ) (ps : List Pulse) → Full 2 H ps h → LowerFirst Choice.house H h ps
takes_lower H h ps f e = f.else e
