-- The rules speak of sets, on the track; and what is read has as many pulses as it should.
use Rattle.std.proofs.Common.{◌≡◌, ℕ, zero, suc, ◌+◌, ◌-◌, ◌*◌, ◌^◌, ◌<◌, ◌≤◌, List, [], ◌∷◌, ◌++◌, length, sym, refl, ◌∙◌, subst, ap₂, pow-suc, arith}
use Rattle.std.proofs.lemmas.List.{length-append}
use Rattle.std.proofs.ByRecursion.{All-append, All-weaker}
use Rattle.pulses.specs.declared.pulse.Pulse.{Pulse}
use Rattle.pulses.specs.Pulses.{opposite, pulse, Same, On, up}
use Rattle.pulses.specs.Rules.{Choice, One, Two, Three, Close, Four, Five, Six, Index}
use Rattle.pulses.specs.Reading.{one_of, pair_of, two_of, three_of, close_of, four_by, four_of, five_of, six_uneven, six_by, six_of, pulses_of}
use Rattle.pulses.specs.Laws.{Fits}
use Rattle.pulses.proofs.Halves.{length_up, on_up}
use Rattle.pulses.proofs.Unique.{all_same}

-- each rule, of the same set
swap : (ps qs : List Pulse) → Same ps qs → (rs : List Pulse) → Same ps rs → Same qs rs
swap ps qs e rs f x s = sym (e x s) ∙ f x s

one_same : {M : ℕ} {ps : List Pulse} {i : ℕ} → One M ps i → (qs : List Pulse) → Same ps qs → One M qs i
one_same (One.one M p s ps h f) qs e = One.one M p s qs h (swap ps qs e (pulse p s ∷ []) f)

two_same : {M : ℕ} {ps : List Pulse} {i : ℕ} → Two M ps i → (qs : List Pulse) → Same ps qs → Two M qs i
two_same (Two.equal M a b s ps h k o f) qs e = Two.equal M a b s qs h k o (swap ps qs e (pulse a s ∷ pulse b s ∷ []) f)
two_same (Two.unequal M a b s ps h k o f) qs e = Two.unequal M a b s qs h k o (swap ps qs e (pulse a s ∷ pulse b (opposite s) ∷ []) f)

three_same : {v : Choice} {M : ℕ} {ps : List Pulse} {i : ℕ} → Three v M ps i → (qs : List Pulse) → Same ps qs → Three v M qs i
three_same (Three.three H h i j ps pair third b f l u w) qs e = Three.three H h i j qs pair third b (swap ps qs e _ f) l u w

four_same : {v : Choice} {M : ℕ} {ps : List Pulse} {i : ℕ} → Four v M ps i → (qs : List Pulse) → Same ps qs → Four v M qs i
four_same (Four.all_in H h i ps group b f u) qs e = Four.all_in H h i qs group b (swap ps qs e _ f) u
four_same (Four.one_three H i j ps low high f u w) qs e = Four.one_three H i j qs low high (swap ps qs e _ f) u w
four_same (Four.two_two H i j ps low high f u w) qs e = Four.two_two H i j qs low high (swap ps qs e _ f) u w
four_same (Four.three_one H i j ps low high f u w) qs e = Four.three_one H i j qs low high (swap ps qs e _ f) u w

five_same : {v : Choice} {M : ℕ} {ps : List Pulse} {i : ℕ} → Five v M ps i → (qs : List Pulse) → Same ps qs → Five v M qs i
five_same (Five.five H h i j ps triple others b f l u w) qs e = Five.five H h i j qs triple others b (swap ps qs e _ f) l u w

six_same : {v : Choice} {M : ℕ} {ps : List Pulse} {i : ℕ} → Six v M ps i → (qs : List Pulse) → Same ps qs → Six v M qs i
six_same (Six.none H h i j ps quint sixth b f l u w) qs e = Six.none H h i j qs quint sixth b (swap ps qs e _ f) l u w
six_same (Six.single H h i j ps quint sixth b f u w) qs e = Six.single H h i j qs quint sixth b (swap ps qs e _ f) u w
six_same (Six.double H h i j ps four pair b f u w) qs e = Six.double H h i j qs four pair b (swap ps qs e _ f) u w
six_same (Six.triple H i j ps low high f u w) qs e = Six.triple H i j qs low high (swap ps qs e _ f) u w

pub index_same : (v : Choice) (n M : ℕ) (ps qs : List Pulse) (i : ℕ) → Index v n M ps i → Same ps qs → Index v n M qs i
index_same v zero M ps qs i u e = absurd u
index_same v (suc zero) M ps qs i u e = one_same u qs e
index_same v (suc (suc zero)) M ps qs i u e = two_same u qs e
index_same v (suc (suc (suc zero))) M ps qs i u e = three_same u qs e
index_same v (suc (suc (suc (suc zero)))) M ps qs i u e = four_same u qs e
index_same v (suc (suc (suc (suc (suc zero))))) M ps qs i u e = five_same u qs e
index_same v (suc (suc (suc (suc (suc (suc zero)))))) M ps qs i u e = six_same u qs e
index_same v (suc (suc (suc (suc (suc (suc (suc n))))))) M ps qs i u e = absurd u

-- each rule, on the track
on_same : (M : ℕ) (ps qs : List Pulse) → Same ps qs → On M qs → On M ps
on_same M = all_same (λ x. x < 2 ^ M)

on_wider : (H : ℕ) (ps : List Pulse) → On H ps → On (suc H) ps
on_wider H = All-weaker (λ p. p.place < 2 ^ H) (λ p. p.place < 2 ^ suc H) (λ p l. omega (arith, pow-suc 2 H))

on_both : (H m n : ℕ) (js ks : List Pulse) → On (suc H) (up m js) → On (suc H) (up n ks) → On (suc H) (up m js ++ up n ks)
on_both H m n js ks a b = All-append _ (up m js) (up n ks) a b

on_lower : (H : ℕ) (low high : List Pulse) → On H low → On H high → On (suc H) (low ++ up (2 ^ H) high)
on_lower H low high a b =
    let P : ℕ → Type 0 = λ z. On (suc H) (up z high) in
    All-append _ low (up (2 ^ H) high) (on_wider H low a) (subst P (omega arith) (on_up H 1 high (omega arith) b))

one_on : {M : ℕ} {ps : List Pulse} {i : ℕ} → One M ps i → On M ps
one_on (One.one M p s ps h e) = on_same M ps (pulse p s ∷ []) e (h, tt)

two_on : {M : ℕ} {ps : List Pulse} {i : ℕ} → Two M ps i → On M ps
two_on (Two.equal M a b s ps h k o e) = on_same M ps (pulse a s ∷ pulse b s ∷ []) e (h, (k, tt))
two_on (Two.unequal M a b s ps h k o e) = on_same M ps (pulse a s ∷ pulse b (opposite s) ∷ []) e (h, (k, tt))

three_on : {v : Choice} {M : ℕ} {ps : List Pulse} {i : ℕ} → Three v M ps i → On M ps
three_on (Three.three H h i j ps pair third b e l u w) =
    on_same (suc H) ps (up (h * 2 ^ H) pair ++ third) e (All-append _ (up (h * 2 ^ H) pair) third (on_up H h pair b (two_on u)) (one_on w))

close_on : {v : Choice} {M : ℕ} {ps : List Pulse} {i : ℕ} → Close v M ps i → On M ps
close_on (Close.close H h i j ps pair others b e l f u w) =
    on_same (suc H) ps (up (h * 2 ^ H) pair ++ others) e (All-append _ (up (h * 2 ^ H) pair) others (on_up H h pair b (two_on u)) (two_on w))

four_on : {v : Choice} {M : ℕ} {ps : List Pulse} {i : ℕ} → Four v M ps i → On M ps
four_on (Four.all_in H h i ps group b e u) = on_same (suc H) ps (up (h * 2 ^ H) group) e (on_up H h group b (close_on u))
four_on (Four.one_three H i j ps low high e u w) = on_same (suc H) ps (low ++ up (2 ^ H) high) e (on_lower H low high (one_on u) (three_on w))
four_on (Four.two_two H i j ps low high e u w) = on_same (suc H) ps (low ++ up (2 ^ H) high) e (on_lower H low high (two_on u) (two_on w))
four_on (Four.three_one H i j ps low high e u w) = on_same (suc H) ps (low ++ up (2 ^ H) high) e (on_lower H low high (three_on u) (one_on w))

five_on : {v : Choice} {M : ℕ} {ps : List Pulse} {i : ℕ} → Five v M ps i → On M ps
five_on (Five.five H h i j ps triple others b e l u w) =
    on_same (suc H) ps (up (h * 2 ^ H) triple ++ others) e (All-append _ (up (h * 2 ^ H) triple) others (on_up H h triple b (three_on u)) (two_on w))

six_on : {v : Choice} {M : ℕ} {ps : List Pulse} {i : ℕ} → Six v M ps i → On M ps
six_on (Six.none H h i j ps quint sixth b e l u w) =
    on_same (suc H) ps (up (h * 2 ^ H) quint ++ up (h * 2 ^ H) sixth) e (on_both H _ _ quint sixth (on_up H h quint b (five_on u)) (on_up H h sixth b (one_on w)))
six_on (Six.single H h i j ps quint sixth b e u w) =
    on_same (suc H) ps (up (h * 2 ^ H) quint ++ up ((1 - h) * 2 ^ H) sixth) e
    (on_both H _ _ quint sixth (on_up H h quint b (five_on u)) (on_up H (1 - h) sixth (omega arith) (one_on w)))
six_on (Six.double H h i j ps four pair b e u w) =
    on_same (suc H) ps (up (h * 2 ^ H) four ++ up ((1 - h) * 2 ^ H) pair) e
    (on_both H _ _ four pair (on_up H h four b (four_on u)) (on_up H (1 - h) pair (omega arith) (two_on w)))
six_on (Six.triple H i j ps low high e u w) = on_same (suc H) ps (low ++ up (2 ^ H) high) e (on_lower H low high (three_on u) (three_on w))

pub index_on : (v : Choice) (n M : ℕ) (ps : List Pulse) (i : ℕ) → Index v n M ps i → On M ps
index_on v zero M ps i u = absurd u
index_on v (suc zero) M ps i u = one_on u
index_on v (suc (suc zero)) M ps i u = two_on u
index_on v (suc (suc (suc zero))) M ps i u = three_on u
index_on v (suc (suc (suc (suc zero)))) M ps i u = four_on u
index_on v (suc (suc (suc (suc (suc zero))))) M ps i u = five_on u
index_on v (suc (suc (suc (suc (suc (suc zero)))))) M ps i u = six_on u
index_on v (suc (suc (suc (suc (suc (suc (suc n))))))) M ps i u = absurd u

-- how many pulses are read
joined : (js ks : List Pulse) (a b : ℕ) → length js ≡ a → length ks ≡ b → length (js ++ ks) ≡ a + b
joined js ks a b e f = length-append js ks ∙ ap₂ (λ y z. y + z) e f

raised : (m a : ℕ) (ps : List Pulse) → length ps ≡ a → length (up m ps) ≡ a
raised m a ps e = length_up m ps ∙ e

one_size : (M i : ℕ) → length (one_of M i) ≡ 1
unfolding one_of
one_size M i = refl

two_size : (M i : ℕ) → length (two_of M i) ≡ 2
unfolding two_of pair_of
two_size M i = refl

three_size : (M i : ℕ) → 1 ≤ M → length (three_of M i) ≡ 3
unfolding three_of
three_size zero i w = absurd (omega arith)
three_size (suc H) i w = joined _ _ 2 1 (raised _ 2 _ (two_size H _)) (one_size (suc H) _)

close_size : (M i : ℕ) → 1 ≤ M → length (close_of M i) ≡ 4
unfolding close_of
close_size zero i w = absurd (omega arith)
close_size (suc H) i w = joined _ _ 2 2 (raised _ 2 _ (two_size H _)) (two_size (suc H) _)

four_by_size : (H c b : ℕ) → 1 ≤ H → length (four_by H c b) ≡ 4
unfolding four_by
four_by_size H zero b w = raised _ 4 _ (close_size H _ w)
four_by_size H (suc zero) b w = joined _ _ 1 3 (one_size H _) (raised _ 3 _ (three_size H _ w))
four_by_size H (suc (suc zero)) b w = joined _ _ 2 2 (two_size H _) (raised _ 2 _ (two_size H _))
four_by_size H (suc (suc (suc n))) b w = joined _ _ 3 1 (three_size H _ w) (raised _ 1 _ (one_size H _))

four_size : (M i : ℕ) → 2 ≤ M → length (four_of M i) ≡ 4
unfolding four_of
four_size zero i w = absurd (omega arith)
four_size (suc H) i w = four_by_size H _ _ (omega arith)

five_size : (M i : ℕ) → 2 ≤ M → length (five_of M i) ≡ 5
unfolding five_of
five_size zero i w = absurd (omega arith)
five_size (suc H) i w = joined _ _ 3 2 (raised _ 3 _ (three_size H _ (omega arith))) (two_size (suc H) _)

six_uneven_size : (H c h r : ℕ) → 2 ≤ H → length (six_uneven H c h r) ≡ 6
unfolding six_uneven
six_uneven_size H zero h r w = joined _ _ 5 1 (raised _ 5 _ (five_size H _ w)) (raised _ 1 _ (one_size H _))
six_uneven_size H (suc zero) h r w = joined _ _ 5 1 (raised _ 5 _ (five_size H _ w)) (raised _ 1 _ (one_size H _))
six_uneven_size H (suc (suc n)) h r w = joined _ _ 4 2 (raised _ 4 _ (four_size H _ w)) (raised _ 2 _ (two_size H _))

six_by_size : (H c b : ℕ) → 2 ≤ H → length (six_by H c b) ≡ 6
unfolding six_by
six_by_size H zero b w = six_uneven_size H 0 _ _ w
six_by_size H (suc zero) b w = six_uneven_size H 1 _ _ w
six_by_size H (suc (suc zero)) b w = six_uneven_size H 2 _ _ w
six_by_size H (suc (suc (suc n))) b w = joined _ _ 3 3 (three_size H _ (omega arith)) (raised _ 3 _ (three_size H _ (omega arith)))

six_size : (M i : ℕ) → 3 ≤ M → length (six_of M i) ≡ 6
unfolding six_of
six_size zero i w = absurd (omega arith)
six_size (suc H) i w = six_by_size H _ _ (omega arith)

pub read_size : (n M i : ℕ) → Fits n M → length (pulses_of n M i) ≡ n
read_size zero M i f = refl
read_size (suc zero) M i f = one_size M i
read_size (suc (suc zero)) M i f = two_size M i
read_size (suc (suc (suc zero))) M i f = three_size M i (omega (arith, f.wide))
read_size (suc (suc (suc (suc zero)))) M i f = four_size M i (omega (arith, f.wide))
read_size (suc (suc (suc (suc (suc zero))))) M i f = five_size M i (omega (arith, f.wide))
read_size (suc (suc (suc (suc (suc (suc zero)))))) M i f = six_size M i (omega (arith, f.wide))
read_size (suc (suc (suc (suc (suc (suc (suc n))))))) M i f = absurd (omega (arith, f.few))
