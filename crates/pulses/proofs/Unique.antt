-- By the house's choices a lawful set has one index: that of the definition.
use Rattle.std.proofs.Common.{◌≡◌, ℕ, suc, ◌+◌, ◌-◌, ◌*◌, ◌/◌, ◌%◌, ◌^◌, ◌<◌, ◌≤◌, leb, List, [], ◌∷◌, ◌++◌, length, take, drop, sym, refl, ap, ◌∙◌, subst, ap₂, ⊎_elim, arith}
use Rattle.pulses.specs.declared.pulse.Sign.{Sign}
use Rattle.pulses.specs.declared.pulse.Sign.TheVariants.{Plus, Minus}
use Rattle.std.specs.List.{AllByRecursion}
use Rattle.std.proofs.lemmas.Bool.{cases_eq, cases_lt, le-leb, lt-leb, cond_both, cond-true, cond-false}
use Rattle.std.proofs.lemmas.Nat.{div-add-mod', div-mul-add}
use Rattle.std.proofs.lemmas.List.{length-append, take_at, append-nil, take-append-drop}
use Rattle.std.proofs.ByRecursion.{All-append}
use Rattle.pulses.specs.declared.pulse.Pulse.{Pulse}
use Rattle.pulses.specs.Pulses.{pulse, bit, tally, Same, Lawful, On, Sorted, up, half, Group, insert, sort, opposite}
use Rattle.pulses.specs.Rules.{Choice, Lowest, One, Two, Three, Close, Four, Five, Six}
use Rattle.pulses.specs.House.{one_house, two_places, two_rising, two_house, fuller, others, three_by, three_house, close_by, close_house, four_halves, four_house, five_by, five_house, six_halves, six_house}
use Rattle.pulses.proofs.Cuts.{zero_or_one}
use Rattle.pulses.proofs.Tallies.{up_by, hit_self, same_size, same_swap, same_up, same_sym, up_zero, tally_append, lawful_same, lawful_left, lawful_right, lawful_down, hit_apart, hit_up, hit_place}
use Rattle.pulses.proofs.Halves.{halves, parted, half_none, half_in, half_out, half_append, half_up, half_up_other, on_half, on_up, length_up, sorted_half, sorted_take, group_take, group_drop}
use Rattle.pulses.proofs.Houses.{one_houses, two_houses, group_size}
use Rattle.pulses.proofs.Canon.{same_sorted, same_sort, sorted_sort, sort_is}

-- what holds of every place, by tallies
all_tally : (P : ℕ → Type 0) (ps : List Pulse) → ((x : ℕ) (s : Sign) → 0 < tally ps x s → P x) → AllByRecursion (λ p. P p.place) ps
all_tally P [] f = tt
all_tally P (p ∷ ps) f =
    (f p.place p.sign (omega (arith, hit_self p.place p.sign)), all_tally P ps (λ x s h. f x s (omega arith)))

tally_all : (P : ℕ → Type 0) (ps : List Pulse) (x : ℕ) (s : Sign) → AllByRecursion (λ p. P p.place) ps → 0 < tally ps x s → P x
tally_all P [] x s a h = absurd (omega arith)
tally_all P (p ∷ ps) x s a h =
    ⊎_elim (λ e. subst P e a.0) (λ e. tally_all P ps x s a.1 (omega (arith, hit_apart p.place x p.sign s e))) (cases_eq p.place x)

pub all_same : (P : ℕ → Type 0) (ps qs : List Pulse) → Same ps qs → AllByRecursion (λ p. P p.place) qs → AllByRecursion (λ p. P p.place) ps
all_same P ps qs e a = all_tally P ps (λ x s h. tally_all P qs x s a (omega (arith, e x s)))

length_insert : (p : Pulse) (ps : List Pulse) → length (insert p ps) ≡ suc (length ps)
unfolding insert
length_insert p [] = refl
length_insert p (q ∷ qs) =
    cond_both (leb p.place q.place) (p ∷ q ∷ qs) (q ∷ insert p qs) (λ z. length z ≡ suc (suc (length qs))) (λ e. refl) (λ e. ap suc (length_insert p qs))

pub length_sort : (ps : List Pulse) → length (sort ps) ≡ length ps
unfolding sort
length_sort [] = refl
length_sort (p ∷ ps) = length_insert p (sort ps) ∙ ap suc (length_sort ps)

pub group_same : (M n : ℕ) (ps qs : List Pulse) → Same ps qs → Group M n qs → Group M n ps
group_same M n ps qs e g =
    let l = lawful_same qs ps (same_sym ps qs e) g.lawful in
    record { size = same_size ps qs e ∙ g.size; on = all_same (λ x. x < 2 ^ M) ps qs e g.on; lawful = l }

-- a half of the same set is the same set
tally_half : (H h : ℕ) (ps : List Pulse) (x : ℕ) (s : Sign) → x < 2 ^ H → tally (half H h ps) x s ≡ tally ps (x + h * 2 ^ H) s
tally_half H h [] x s l = ap (λ z. tally z x s) (half_none H h)
tally_half H h (p ∷ ps) x s l =
    ⊎_elim
    (λ e.
    let back : p.place % 2 ^ H + h * 2 ^ H ≡ p.place = omega (arith, div-add-mod' p.place (2 ^ H), ap (λ z. z * 2 ^ H) e) in
    omega (
      arith,
      ap (λ z. tally z x s) (half_in H h p ps e),
      tally_half H h ps x s l,
      hit_up (p.place % 2 ^ H) (h * 2 ^ H) x p.sign s,
      hit_place p (x + h * 2 ^ H) s (p.place % 2 ^ H + h * 2 ^ H) back,
    ))
    (λ e.
    let n : p.place ≡ x + h * 2 ^ H → ⊥ =
    λ f. e (ap (λ z. z / 2 ^ H) (let t : p.place ≡ h * 2 ^ H + x = omega arith in t) ∙ div-mul-add h (2 ^ H) x l) in
    omega (arith, ap (λ z. tally z x s) (half_out H h p ps e), tally_half H h ps x s l, hit_apart p.place (x + h * 2 ^ H) p.sign s n))
    (cases_eq (p.place / 2 ^ H) h)

half_past : (H h : ℕ) (ps : List Pulse) (x : ℕ) (s : Sign) → 2 ^ H ≤ x → tally (half H h ps) x s ≡ 0
half_past H h ps x s l =
    let n : 0 < tally (half H h ps) x s → ⊥ =
    λ k. let t : x < 2 ^ H = tally_all (λ z. z < 2 ^ H) (half H h ps) x s (on_half H h ps) k in omega arith in
    omega arith

pub same_half : (H h : ℕ) (ps qs : List Pulse) → Same ps qs → Same (half H h ps) (half H h qs)
same_half H h ps qs e x s =
    ⊎_elim (λ l. tally_half H h ps x s l ∙ e (x + h * 2 ^ H) s ∙ sym (tally_half H h qs x s l))
    (λ l. half_past H h ps x s l ∙ sym (half_past H h qs x s l)) (cases_lt x (2 ^ H))

pub sorted_join : (ps qs : List Pulse) → Sorted ps → Sorted qs → AllByRecursion (λ p. AllByRecursion (λ q. p.place ≤ q.place) qs) ps → Sorted (ps ++ qs)
sorted_join [] qs a b u = b
sorted_join (p ∷ ps) qs a b u = (All-append _ ps qs a.0 u.0, sorted_join ps qs a.1 b u.1)

lowest_same : (ps qs js ks : List Pulse) → Same ps js → Same qs ks → AllByRecursion (λ p. AllByRecursion (λ q. p.place ≤ q.place) ks) js
    → AllByRecursion (λ p. AllByRecursion (λ q. p.place ≤ q.place) qs) ps
lowest_same ps qs js ks e f u =
    all_same (λ x. AllByRecursion (λ q. x ≤ q.place) qs) ps js e
    (all_tally (λ x. AllByRecursion (λ q. x ≤ q.place) qs) js
    (λ x s h. all_same (λ y. x ≤ y) qs ks f (tally_all (λ y. AllByRecursion (λ q. y ≤ q.place) ks) js x s u h)))

-- the lowest k of a half are the group that the rules took
pub record Took (H h k : ℕ) (qs group rest : List Pulse) : Type 0 where
  pub has : k ≤ length (half H h qs)
  pub front : Same group (take k (half H h qs))
  pub back : Same rest (others k H h qs)

took : (H h k n : ℕ) (qs group rest : List Pulse) → h < 2 → Sorted qs → Group (suc H) n qs → Same qs (up (h * 2 ^ H) group ++ rest)
    → Group H k group → Lowest Choice.house group (half H h rest) → Took H h k qs group rest
took H h k n qs group rest b a g e gg low =
    let r = halves H h n qs b g in
    let part : Same (half H h qs) (group ++ half H h rest) =
    λ x s.
    same_half H h qs (up (h * 2 ^ H) group ++ rest) e x s
    ∙ ap (λ z. tally z x s) (half_append H h (up (h * 2 ^ H) group) rest ∙ ap (λ z. z ++ half H h rest) (half_up H h group gg.on)) in
    let l = sort group ++ sort (half H h rest) in
    let like : Same (half H h qs) l =
    λ x s.
    omega (
      arith,
      part x s,
      tally_append group (half H h rest) x s,
      tally_append (sort group) (sort (half H h rest)) x s,
      same_sort group x s,
      same_sort (half H h rest) x s,
    ) in
    let rising : Sorted l =
    sorted_join (sort group) (sort (half H h rest)) (sorted_sort group) (sorted_sort (half H h rest))
    (lowest_same (sort group) (sort (half H h rest)) group (half H h rest) (same_sort group) (same_sort (half H h rest)) low) in
    let is : half H h qs ≡ l = same_sorted (half H h qs) l r.here.lawful (sorted_half H h qs a) rising like in
    let size : length (sort group) ≡ k = length_sort group ∙ gg.size in
    let has : k ≤ length (half H h qs) = omega (arith, ap length is, length-append (sort group) (sort (half H h rest)), size) in
    let first : take k (half H h qs) ≡ sort group = ap (take k) is ∙ take_at (sort group) (sort (half H h rest)) k size in
    let front : Same group (take k (half H h qs)) = λ x s. sym (same_sort group x s) ∙ sym (ap (λ z. tally z x s) first) in
    let p = parted H h k n qs b has g in
    record {
      has = has;
      front = front;
      back = λ x s.
          omega (
            arith,
            p.same x s,
            e x s,
            tally_append (up (h * 2 ^ H) group) rest x s,
            tally_append (up (h * 2 ^ H) (take k (half H h qs))) (others k H h qs) x s,
            same_up (h * 2 ^ H) group (take k (half H h qs)) front x s,
          );
    }

-- sizes and places of what the rules join
sized : (M n : ℕ) (ps qs : List Pulse) → Lawful ps → Same ps qs → length qs ≡ n → On M qs → Group M n ps
sized M n ps qs l e k o = record { size = same_size ps qs e ∙ k; on = all_same (λ x. x < 2 ^ M) ps qs e o; lawful = l }

one_sized : {M : ℕ} {ps : List Pulse} {i : ℕ} → One M ps i → Lawful ps → Group M 1 ps
one_sized (One.one M p s ps h e) l = sized M 1 ps (pulse p s ∷ []) l e refl (h, tt)

two_sized : {M : ℕ} {ps : List Pulse} {i : ℕ} → Two M ps i → Lawful ps → Group M 2 ps
two_sized (Two.equal M a b s ps h k o e) l = sized M 2 ps (pulse a s ∷ pulse b s ∷ []) l e refl (h, (k, tt))
two_sized (Two.unequal M a b s ps h k o e) l = sized M 2 ps (pulse a s ∷ pulse b (opposite s) ∷ []) l e refl (h, (k, tt))

-- the two parts of a lawful join
module _ (ps js ks : List Pulse) (m : ℕ) (l : Lawful ps) (e : Same ps (up m js ++ ks)) where
  in_front : Lawful js
  in_front = lawful_down m js (lawful_left (up m js) ks (lawful_same ps (up m js ++ ks) e l))

  in_back : Lawful ks
  in_back = lawful_right (up m js) ks (lawful_same ps (up m js ++ ks) e l)

pub sort_same : (ps qs : List Pulse) → Lawful ps → Same ps qs → sort ps ≡ sort qs
sort_same ps qs l e =
    sym (sort_is (sort ps) qs (lawful_same ps (sort ps) (λ x s. sym (same_sort ps x s)) l) (sorted_sort ps) (λ x s. same_sort ps x s ∙ e x s))

one_canon : {M : ℕ} {ps : List Pulse} {i : ℕ} → One M ps i → Lawful ps → i ≡ one_house M (sort ps)
unfolding one_house
one_canon (One.one M p s ps h e) l =
    ap (one_house M) (sym (sort_is (pulse p s ∷ []) ps (lawful_same ps (pulse p s ∷ []) e l) (tt, tt) (λ x t. sym (e x t))))

house_equal : (M a b : ℕ) (s : Sign) → a ≤ b → b + a * 2 ^ M + bit s * 2 ^ (2 * M) ≡ two_house M (pulse a s ∷ pulse b s ∷ [])
unfolding two_house two_rising two_places
house_equal M a b Minus o = sym (cond-true (leb a b) _ _ (le-leb a b o))
house_equal M a b Plus o = sym (cond-true (leb a b) _ _ (le-leb a b o))

house_unequal : (M a b : ℕ) (s : Sign) → b < a → b + a * 2 ^ M + bit s * 2 ^ (2 * M) ≡ two_house M (pulse b (opposite s) ∷ pulse a s ∷ [])
unfolding two_house two_rising two_places
house_unequal M a b Minus o = sym (cond-true (leb b a) _ _ (le-leb b a (omega arith)))
house_unequal M a b Plus o = sym (cond-true (leb b a) _ _ (le-leb b a (omega arith)))

two_canon : {M : ℕ} {ps : List Pulse} {i : ℕ} → Two M ps i → Lawful ps → i ≡ two_house M (sort ps)
two_canon (Two.equal M a b s ps h k o e) l =
    let qs = pulse a s ∷ pulse b s ∷ [] in
    house_equal M a b s o ∙ ap (two_house M) (sym (sort_is qs ps (lawful_same ps qs e l) ((o, tt), (tt, tt)) (λ x t. sym (e x t))))
two_canon (Two.unequal M a b s ps h k o e) l =
    let qs = pulse b (opposite s) ∷ pulse a s ∷ [] in
    let f : Same ps qs = λ x t. omega (arith, e x t) in
    house_unequal M a b s o ∙ ap (two_house M) (sym (sort_is qs ps (lawful_same ps qs f l) ((omega arith, tt), (tt, tt)) (λ x t. sym (f x t))))

pub one_is : (M : ℕ) (ps qs : List Pulse) (i : ℕ) → One M ps i → Group M 1 qs → Same ps qs → i ≡ one_house M qs
one_is M ps qs i u g e =
    let l = lawful_same qs ps (same_sym ps qs e) g.lawful in
    one_canon u l ∙ ap (one_house M) (sort_same ps qs l e) ∙ sym (one_canon (one_houses M qs g) g.lawful)

pub two_is : (M : ℕ) (ps qs : List Pulse) (i : ℕ) → Two M ps i → Group M 2 qs → Same ps qs → i ≡ two_house M qs
two_is M ps qs i u g e =
    let l = lawful_same qs ps (same_sym ps qs e) g.lawful in
    two_canon u l ∙ ap (two_house M) (sort_same ps qs l e) ∙ sym (two_canon (two_houses M qs g) g.lawful)

fuller_is : (k H h : ℕ) (qs : List Pulse) → h < 2 → k ≤ length (half H h qs) → (h ≡ 1 → length (half H 0 qs) < k) → fuller k H qs ≡ h
unfolding fuller
fuller_is k H h qs b m o =
    ⊎_elim (λ e. cond-true (leb k (length (half H 0 qs))) 0 1 (le-leb k (length (half H 0 qs)) (omega (arith, ap (λ z. length (half H z qs)) e))) ∙ sym e)
    (λ e. cond-false (leb k (length (half H 0 qs))) 0 1 (lt-leb k (length (half H 0 qs)) (o e)) ∙ sym e) (zero_or_one h b)

few : (k H h n : ℕ) (qs : List Pulse) → Group (suc H) n qs → n < 2 * k → k ≤ length (half H h qs) → h ≡ 1 → length (half H 0 qs) < k
few k H h n qs g m o e =
    let r = halves H 0 n qs (omega arith) g in omega (arith, r.long, ap (λ z. length (half H z qs)) e)

pub three_is : {M : ℕ} {ps : List Pulse} {i : ℕ} → Three Choice.house M ps i → (qs : List Pulse) → Sorted qs → Group M 3 qs → Same ps qs → i ≡ three_house M qs
unfolding three_house three_by
three_is (Three.three H h i j ps pair third b e low u v) qs a g f =
    let d : Same qs (up (h * 2 ^ H) pair ++ third) = λ x s. sym (f x s) ∙ e x s in
    let t = took H h 2 3 qs pair third b a g d (two_sized u (in_front qs pair third (h * 2 ^ H) g.lawful d)) low in
    let p = parted H h 2 3 qs b t.has g in
    let w = fuller_is 2 H h qs b t.has (few 2 H h 3 qs g (omega arith) t.has) in
    ap₂ (λ y z. y + h * 2 ^ (2 * suc H - 1) + z * 2 ^ (2 * suc H)) (two_is H pair _ i u p.front t.front) (one_is (suc H) third _ j v p.rest t.back)
    ∙ ap (λ z. three_by H z qs) (sym w)

pub close_is : {M : ℕ} {ps : List Pulse} {i : ℕ} → Close Choice.house M ps i → (qs : List Pulse) → Sorted qs → Group M 4 qs → Same ps qs → i ≡ close_house M qs
unfolding close_house close_by
close_is (Close.close H h i j ps pair rest b e low first u v) qs a g f =
    let d : Same qs (up (h * 2 ^ H) pair ++ rest) = λ x s. sym (f x s) ∙ e x s in
    let n = two_sized u (in_front qs pair rest (h * 2 ^ H) g.lawful d) in
    let t = took H h 2 4 qs pair rest b a g d n low in
    let p = parted H h 2 4 qs b t.has g in
    let r = halves H 0 4 qs (omega arith) g in
    let w = fuller_is 2 H h qs b t.has
    (λ m. let q = same_size (half H 0 qs) (half H 0 ps) (same_half H 0 qs ps (same_sym ps qs f)) in omega (arith, first m, q)) in
    ap₂ (λ y z. y + h * 2 ^ (2 * suc H - 1) + z * 2 ^ (2 * suc H)) (two_is H pair _ i u p.front t.front) (two_is (suc H) rest _ j v p.rest t.back)
    ∙ ap (λ z. close_by H z qs) (sym w)

-- sizes, once more
joined_sized : (H h k n : ℕ) (ps js ks : List Pulse) → h < 2 → Lawful ps → Same ps (up (h * 2 ^ H) js ++ ks) → Group H k js → Group (suc H) n ks → Group (suc H) (k + n) ps
joined_sized H h k n ps js ks b l e g m =
    sized (suc H) (k + n) ps (up (h * 2 ^ H) js ++ ks) l e
    (omega (arith, length-append (up (h * 2 ^ H) js) ks, length_up (h * 2 ^ H) js, g.size, m.size))
    (All-append _ (up (h * 2 ^ H) js) ks (on_up H h js b g.on) m.on)

pub three_sized : {v : Choice} {M : ℕ} {ps : List Pulse} {i : ℕ} → Three v M ps i → Lawful ps → Group M 3 ps
three_sized (Three.three H h i j ps pair third b e _ u w) l =
    joined_sized H h 2 1 ps pair third b l e (two_sized u (in_front ps pair third (h * 2 ^ H) l e)) (one_sized w (in_back ps pair third (h * 2 ^ H) l e))

pub close_sized : {v : Choice} {M : ℕ} {ps : List Pulse} {i : ℕ} → Close v M ps i → Lawful ps → Group M 4 ps
close_sized (Close.close H h i j ps pair rest b e _ _ u w) l =
    joined_sized H h 2 2 ps pair rest b l e (two_sized u (in_front ps pair rest (h * 2 ^ H) l e)) (two_sized w (in_back ps pair rest (h * 2 ^ H) l e))

pub five_is : {M : ℕ} {ps : List Pulse} {i : ℕ} → Five Choice.house M ps i → (qs : List Pulse) → Sorted qs → Group M 5 qs → Same ps qs → i ≡ five_house M qs
unfolding five_house five_by
five_is (Five.five H h i j ps triple rest b e low u v) qs a g f =
    let d : Same qs (up (h * 2 ^ H) triple ++ rest) = λ x s. sym (f x s) ∙ e x s in
    let t = took H h 3 5 qs triple rest b a g d (three_sized u (in_front qs triple rest (h * 2 ^ H) g.lawful d)) low in
    let p = parted H h 3 5 qs b t.has g in
    let w = fuller_is 3 H h qs b t.has (few 3 H h 5 qs g (omega arith) t.has) in
    ap₂ (λ y z. h * 2 ^ (5 * suc H - 1) + y * 2 ^ (2 * suc H + 1) + z) (three_is u _ (sorted_take 3 _ (sorted_half H h qs a)) p.front t.front)
    (two_is (suc H) rest _ j v p.rest t.back)
    ∙ ap (λ z. five_by H z qs) (sym w)

-- what the halves of a join of two groups are
half_of : (H h o : ℕ) (qs js ks : List Pulse) → (o ≡ h → ⊥) → On H js → On H ks → Same qs (up (h * 2 ^ H) js ++ up (o * 2 ^ H) ks) → Same (half H h qs) js
half_of H h o qs js ks n a b e x s =
    same_half H h qs (up (h * 2 ^ H) js ++ up (o * 2 ^ H) ks) e x s
    ∙ ap (λ z. tally z x s)
    (half_append H h (up (h * 2 ^ H) js) (up (o * 2 ^ H) ks) ∙ ap₂ (λ y z. y ++ z) (half_up H h js a) (half_up_other H h o ks n b) ∙ append-nil js)

-- the form with no offset at half 0
at_zero : (H : ℕ) (qs low high : List Pulse) → Same qs (low ++ up (2 ^ H) high) → Same qs (up (0 * 2 ^ H) low ++ up (1 * 2 ^ H) high)
at_zero H qs low high e x s =
    omega (
      arith,
      e x s,
      tally_append low (up (2 ^ H) high) x s,
      tally_append (up (0 * 2 ^ H) low) (up (1 * 2 ^ H) high) x s,
      up_by (0 * 2 ^ H) 0 low (omega arith) x s,
      up_zero low x s,
      up_by (1 * 2 ^ H) (2 ^ H) high (omega arith) x s,
    )

-- the groups of a join, sorted: the halves of the sorted list
pub record TwoHalves (H h o m n : ℕ) (qs js ks : List Pulse) : Type 0 where
  pub here : Same js (half H h qs)
  pub there : Same ks (half H o qs)
  pub group_here : Group H m (half H h qs)
  pub group_there : Group H n (half H o qs)

two_halves : (H h o m n : ℕ) (qs js ks : List Pulse) → (h ≡ o → ⊥) → Group H m js → Group H n ks → Same qs (up (h * 2 ^ H) js ++ up (o * 2 ^ H) ks)
    → TwoHalves H h o m n qs js ks
two_halves H h o m n qs js ks d g k e =
    let a = half_of H h o qs js ks (λ z. d (sym z)) g.on k.on e in
    let b = half_of H o h qs ks js d k.on g.on (λ x s. e x s ∙ same_swap (up (h * 2 ^ H) js) (up (o * 2 ^ H) ks) x s) in
    record { here = λ x s. sym (a x s); there = λ x s. sym (b x s); group_here = group_same H m _ js a g; group_there = group_same H n _ ks b k }

-- the two groups of a lawful join are lawful
module _ (qs js ks : List Pulse) (m n : ℕ) (l : Lawful qs) (e : Same qs (up m js ++ up n ks)) where
  left_lawful : Lawful js
  left_lawful = lawful_down m js (lawful_left (up m js) (up n ks) (lawful_same qs (up m js ++ up n ks) e l))

  right_lawful : Lawful ks
  right_lawful = lawful_down n ks (lawful_right (up m js) (up n ks) (lawful_same qs (up m js ++ up n ks) e l))

four_by_size : (H n : ℕ) (qs : List Pulse) → length (half H 0 qs) ≡ n → four_house (suc H) qs ≡ four_halves H n (half H 0 qs) (half H 1 qs)
unfolding four_house
four_by_size H n qs e = ap (λ z. four_halves H z (half H 0 qs) (half H 1 qs)) e

pub four_is : {M : ℕ} {ps : List Pulse} {i : ℕ} → Four Choice.house M ps i → (qs : List Pulse) → Sorted qs → Group M 4 qs → Same ps qs → i ≡ four_house M qs
unfolding four_halves
four_is (Four.all_in H h i ps group b e u) qs a g f =
    let d : Same qs (up (h * 2 ^ H) group) = λ x s. sym (f x s) ∙ e x s in
    let l = lawful_down (h * 2 ^ H) group (lawful_same qs _ d g.lawful) in
    let k = close_sized u l in
    let here : Same (half H h qs) group =
    λ x s. same_half H h qs (up (h * 2 ^ H) group) d x s ∙ ap (λ z. tally z x s) (half_up H h group k.on) in
    let m = group_same H 4 (half H h qs) group here k in
    let r = halves H 0 4 qs (omega arith) g in
    let is : i ≡ close_house H (half H h qs) = close_is u (half H h qs) (sorted_half H h qs a) m (λ x s. sym (here x s)) in
    ⊎_elim
    (λ z.
    let long : length (half H 0 qs) ≡ 4 = ap (λ y. length (half H y qs)) (sym z) ∙ m.size in
    ap₂ (λ y w. 0 * 2 ^ (4 * suc H - 2) + (y * 2 ^ (4 * suc H - 3) + w)) z (is ∙ ap (λ y. close_house H (half H y qs)) z) ∙ sym (four_by_size H 4 qs long))
    (λ z.
    let long : length (half H 1 qs) ≡ 4 = ap (λ y. length (half H y qs)) (sym z) ∙ m.size in
    ap₂ (λ y w. 0 * 2 ^ (4 * suc H - 2) + (y * 2 ^ (4 * suc H - 3) + w)) z (is ∙ ap (λ y. close_house H (half H y qs)) z)
    ∙ sym (four_by_size H 0 qs (omega (arith, r.long, long))))
    (zero_or_one h b)
four_is (Four.one_three H i j ps low high e u v) qs a g f =
    let d = at_zero H qs low high (λ x s. sym (f x s) ∙ e x s) in
    let t = two_halves H 0 1 1 3 qs low high (λ z. omega arith) (one_sized u (left_lawful qs low high (0 * 2 ^ H) (1 * 2 ^ H) g.lawful d))
    (three_sized v (right_lawful qs low high (0 * 2 ^ H) (1 * 2 ^ H) g.lawful d)) d in
    ap₂ (λ y z. 1 * 2 ^ (4 * suc H - 2) + (y * 2 ^ (3 * suc H - 2) + z)) (one_is H low _ i u t.group_here t.here)
    (three_is v (half H 1 qs) (sorted_half H 1 qs a) t.group_there t.there)
    ∙ sym (four_by_size H 1 qs t.group_here.size)
four_is (Four.two_two H i j ps low high e u v) qs a g f =
    let d = at_zero H qs low high (λ x s. sym (f x s) ∙ e x s) in
    let t = two_halves H 0 1 2 2 qs low high (λ z. omega arith) (two_sized u (left_lawful qs low high (0 * 2 ^ H) (1 * 2 ^ H) g.lawful d))
    (two_sized v (right_lawful qs low high (0 * 2 ^ H) (1 * 2 ^ H) g.lawful d)) d in
    ap₂ (λ y z. 2 * 2 ^ (4 * suc H - 2) + (y * 2 ^ (2 * suc H - 1) + z)) (two_is H low _ i u t.group_here t.here) (two_is H high _ j v t.group_there t.there)
    ∙ sym (four_by_size H 2 qs t.group_here.size)
four_is (Four.three_one H i j ps low high e u v) qs a g f =
    let d = at_zero H qs low high (λ x s. sym (f x s) ∙ e x s) in
    let t = two_halves H 0 1 3 1 qs low high (λ z. omega arith) (three_sized u (left_lawful qs low high (0 * 2 ^ H) (1 * 2 ^ H) g.lawful d))
    (one_sized v (right_lawful qs low high (0 * 2 ^ H) (1 * 2 ^ H) g.lawful d)) d in
    ap₂ (λ y z. 3 * 2 ^ (4 * suc H - 2) + (y * 2 ^ suc H + z)) (three_is u (half H 0 qs) (sorted_half H 0 qs a) t.group_here t.here)
    (one_is H high _ j v t.group_there t.there)
    ∙ sym (four_by_size H 3 qs t.group_here.size)

-- both groups moved up by their halves
both_sized : (H h o k n : ℕ) (ps js ks : List Pulse) → h < 2 → o < 2 → Lawful ps → Same ps (up (h * 2 ^ H) js ++ up (o * 2 ^ H) ks) → Group H k js → Group H n ks
    → Group (suc H) (k + n) ps
both_sized H h o k n ps js ks b c l e g m =
    sized (suc H) (k + n) ps (up (h * 2 ^ H) js ++ up (o * 2 ^ H) ks) l e
    (omega (arith, length-append (up (h * 2 ^ H) js) (up (o * 2 ^ H) ks), length_up (h * 2 ^ H) js, length_up (o * 2 ^ H) ks, g.size, m.size))
    (All-append _ (up (h * 2 ^ H) js) (up (o * 2 ^ H) ks) (on_up H h js b g.on) (on_up H o ks c m.on))

pub four_sized : {v : Choice} {M : ℕ} {ps : List Pulse} {i : ℕ} → Four v M ps i → Lawful ps → Group M 4 ps
four_sized (Four.all_in H h i ps group b e u) l =
    let k = close_sized u (lawful_down (h * 2 ^ H) group (lawful_same ps _ e l)) in
    sized (suc H) 4 ps (up (h * 2 ^ H) group) l e (length_up (h * 2 ^ H) group ∙ k.size) (on_up H h group b k.on)
four_sized (Four.one_three H i j ps low high e u v) l =
    let d = at_zero H ps low high e in
    both_sized H 0 1 1 3 ps low high (omega arith) (omega arith) l d (one_sized u (left_lawful ps low high (0 * 2 ^ H) (1 * 2 ^ H) l d))
    (three_sized v (right_lawful ps low high (0 * 2 ^ H) (1 * 2 ^ H) l d))
four_sized (Four.two_two H i j ps low high e u v) l =
    let d = at_zero H ps low high e in
    both_sized H 0 1 2 2 ps low high (omega arith) (omega arith) l d (two_sized u (left_lawful ps low high (0 * 2 ^ H) (1 * 2 ^ H) l d))
    (two_sized v (right_lawful ps low high (0 * 2 ^ H) (1 * 2 ^ H) l d))
four_sized (Four.three_one H i j ps low high e u v) l =
    let d = at_zero H ps low high e in
    both_sized H 0 1 3 1 ps low high (omega arith) (omega arith) l d (three_sized u (left_lawful ps low high (0 * 2 ^ H) (1 * 2 ^ H) l d))
    (one_sized v (right_lawful ps low high (0 * 2 ^ H) (1 * 2 ^ H) l d))

pub five_sized : {v : Choice} {M : ℕ} {ps : List Pulse} {i : ℕ} → Five v M ps i → Lawful ps → Group M 5 ps
five_sized (Five.five H h i j ps triple rest b e _ u w) l =
    joined_sized H h 3 2 ps triple rest b l e (three_sized u (in_front ps triple rest (h * 2 ^ H) l e)) (two_sized w (in_back ps triple rest (h * 2 ^ H) l e))

six_by_size : (H h n : ℕ) (qs : List Pulse) → fuller 3 H qs ≡ h → length (half H (1 - h) qs) ≡ n
    → six_house (suc H) qs ≡ six_halves H n h (half H h qs) (half H (1 - h) qs)
unfolding six_house
six_by_size H h n qs w e =
    ap (λ z. six_halves H (length (half H (1 - z) qs)) z (half H z qs) (half H (1 - z) qs)) w ∙ ap (λ z. six_halves H z h (half H h qs) (half H (1 - h) qs)) e

-- the fuller half has more than three, and the other one n
uneven : (H h n : ℕ) (qs : List Pulse) → h < 2 → n < 3 → Group (suc H) 6 qs → length (half H (1 - h) qs) ≡ n → fuller 3 H qs ≡ h
uneven H h n qs b m g e =
    let r = halves H h 6 qs b g in
    fuller_is 3 H h qs b (omega (arith, r.long))
    (λ z. let t : 1 - h ≡ 0 = omega arith in omega (arith, ap (λ y. length (half H y qs)) t))

pub six_is : {M : ℕ} {ps : List Pulse} {i : ℕ} → Six Choice.house M ps i → (qs : List Pulse) → Sorted qs → Group M 6 qs → Same ps qs → i ≡ six_house M qs
unfolding six_halves
six_is (Six.none H h i j ps quint sixth b e low u v) qs a g f =
    let d : Same qs (up (h * 2 ^ H) quint ++ up (h * 2 ^ H) sixth) = λ x s. sym (f x s) ∙ e x s in
    let k = five_sized u (left_lawful qs quint sixth (h * 2 ^ H) (h * 2 ^ H) g.lawful d) in
    let m = one_sized v (right_lawful qs quint sixth (h * 2 ^ H) (h * 2 ^ H) g.lawful d) in
    let P : List Pulse → Type 0 = λ z. Lowest Choice.house quint z in
    let t = took H h 5 6 qs quint (up (h * 2 ^ H) sixth) b a g d k (subst P (sym (half_up H h sixth m.on)) low) in
    let r = halves H h 6 qs b g in
    let all : Same (half H h qs) (quint ++ sixth) =
    λ x s.
    same_half H h qs (up (h * 2 ^ H) quint ++ up (h * 2 ^ H) sixth) d x s
    ∙ ap (λ z. tally z x s)
    (half_append H h (up (h * 2 ^ H) quint) (up (h * 2 ^ H) sixth) ∙ ap₂ (λ y z. y ++ z) (half_up H h quint k.on) (half_up H h sixth m.on)) in
    let long : length (half H h qs) ≡ 6 =
    same_size (half H h qs) (quint ++ sixth) all ∙ omega (arith, length-append quint sixth, k.size, m.size) in
    let none : length (half H (1 - h) qs) ≡ 0 = omega (arith, r.long) in
    let full : Group H 6 (half H h qs) = group_size H _ 6 (half H h qs) long r.here in
    let last : Same sixth (drop 5 (half H h qs)) =
    λ x s.
    omega (
      arith,
      all x s,
      tally_append quint sixth x s,
      t.front x s,
      tally_append (take 5 (half H h qs)) (drop 5 (half H h qs)) x s,
      ap (λ z. tally z x s) (take-append-drop 5 (half H h qs)),
    ) in
    ap₂ (λ y z. 0 * 2 ^ (6 * suc H - 4) + (h * 2 ^ (6 * suc H - 5) + (y * 2 ^ suc H + z)))
    (five_is u _ (sorted_take 5 _ (sorted_half H h qs a)) (group_take H 5 6 (half H h qs) (omega arith) full) t.front)
    (one_is H sixth _ j v (group_drop H 5 6 (half H h qs) full) last)
    ∙ sym (six_by_size H h 0 qs (uneven H h 0 qs b (omega arith) g none) none)
six_is (Six.single H h i j ps quint sixth b e u v) qs a g f =
    let d : Same qs (up (h * 2 ^ H) quint ++ up ((1 - h) * 2 ^ H) sixth) = λ x s. sym (f x s) ∙ e x s in
    let t = two_halves H h (1 - h) 5 1 qs quint sixth (λ z. omega arith)
    (five_sized u (left_lawful qs quint sixth (h * 2 ^ H) ((1 - h) * 2 ^ H) g.lawful d))
    (one_sized v (right_lawful qs quint sixth (h * 2 ^ H) ((1 - h) * 2 ^ H) g.lawful d)) d in
    ap₂ (λ y z. 1 * 2 ^ (6 * suc H - 4) + (h * 2 ^ (6 * suc H - 5) + (y * 2 ^ suc H + z)))
    (five_is u _ (sorted_half H h qs a) t.group_here t.here) (one_is H sixth _ j v t.group_there t.there)
    ∙ sym (six_by_size H h 1 qs (uneven H h 1 qs b (omega arith) g t.group_there.size) t.group_there.size)
six_is (Six.double H h i j ps four pair b e u v) qs a g f =
    let d : Same qs (up (h * 2 ^ H) four ++ up ((1 - h) * 2 ^ H) pair) = λ x s. sym (f x s) ∙ e x s in
    let t = two_halves H h (1 - h) 4 2 qs four pair (λ z. omega arith)
    (four_sized u (left_lawful qs four pair (h * 2 ^ H) ((1 - h) * 2 ^ H) g.lawful d))
    (two_sized v (right_lawful qs four pair (h * 2 ^ H) ((1 - h) * 2 ^ H) g.lawful d)) d in
    ap₂ (λ y z. 2 * 2 ^ (6 * suc H - 4) + (h * 2 ^ (6 * suc H - 5) + (y * 2 ^ (2 * suc H - 1) + z)))
    (four_is u _ (sorted_half H h qs a) t.group_here t.here) (two_is H pair _ j v t.group_there t.there)
    ∙ sym (six_by_size H h 2 qs (uneven H h 2 qs b (omega arith) g t.group_there.size) t.group_there.size)
six_is (Six.triple H i j ps low high e u v) qs a g f =
    let d = at_zero H qs low high (λ x s. sym (f x s) ∙ e x s) in
    let t = two_halves H 0 1 3 3 qs low high (λ z. omega arith) (three_sized u (left_lawful qs low high (0 * 2 ^ H) (1 * 2 ^ H) g.lawful d))
    (three_sized v (right_lawful qs low high (0 * 2 ^ H) (1 * 2 ^ H) g.lawful d)) d in
    ap₂ (λ y z. 3 * 2 ^ (6 * suc H - 4) + (y * 2 ^ (3 * suc H - 2) + z)) (three_is u (half H 0 qs) (sorted_half H 0 qs a) t.group_here t.here)
    (three_is v (half H 1 qs) (sorted_half H 1 qs a) t.group_there t.there)
    ∙ sym (six_by_size H 0 3 qs
    (fuller_is 3 H 0 qs (omega arith) (omega (arith, t.group_here.size)) (λ z. absurd (omega arith))) t.group_there.size)
