-- What a track takes: the answers of a track set, and the rows that hold one.
use Rattle.std.proofs.Common.{◌≡◌, ℕ, ◌+◌, ◌-◌, ◌^◌, ◌<◌, ◌≤◌, leb, ◌⊎◌, List, [], ◌∷◌, length, take, replicate, Ok, Err, Result, sym, refl, ap, ◌∙◌, subst, inl, inr, ⊎_elim, arith, length-append, pow_pos, MatchResult}
use lib.ListN.{length-replicate}
use Rattle.std.specs.List.{AllByRecursion}
use Rattle.std.proofs.lemmas.List.{ext_get_or, length-take, get_or-take, take_at, get_or_append_left, get_or-append_right}
use Rattle.std.proofs.ByRecursion.{All-get_or, All-from_get_or}
use Rattle.std.specs.Result.{IsErrAnd}
use Rattle.std.proofs.lemmas.Result.{err_from_is_err_and}
use Rattle.std.proofs.lemmas.Bool.{cases_eq, cases_lt, cases_Bool, cond_both, true≢false}
use Rattle.refusals.specs.declared.cause.Cause.{Cause}
use Rattle.refusals.specs.declared.cause.Cause.TheVariants.{WrongNumber, OffTrack, BothSigns}
use Rattle.refusals.specs.declared.refusal.Refusal.{Refusal}
use Rattle.refusals.specs.Spots.{because}
use Rattle.pulses.specs.declared.pulse.Pulse.{Pulse}
use Rattle.pulses.specs.Pulses.{Lawful, On, Sorted, Group, insert, sort}
use Rattle.pulses.specs.Sets.{on_track, one_signed, none, at, padded, map_ok, track_set, apart}
use Rattle.pulses.proofs.Tallies.{same_refl, same_sym, lawful_same}
use Rattle.pulses.proofs.Canon.{sort_is, same_sort, sorted_sort}
use Rattle.pulses.proofs.Unique.{length_sort}
use Rattle.pulses.proofs.Signs.{Steps, follows, tail, lawful_from_steps, steps_from_lawful}
use Rattle.pulses.proofs.Checked.{on_from_test, test_from_on, lawful_from_test, test_from_lawful, checked_ok, checked_off, checked_both, set_number, set_is}
use Rattle.frames.specs.Frames.{Unlawful}
use Rattle.frames.specs.Frames.Unlawful.{wrong_number, off_track, both_signs}
use Rattle.frames.proofs.Blanks.{replicate_at}

-- a set is taken, or a question fails
record Refused (n M : ℕ) (ps : List Pulse) : Type 0 where
  pub cause : Cause
  pub why : Unlawful n M ps cause
  pub answer : track_set n M ps ≡ Err (because cause)

record Accepted (n M : ℕ) (ps : List Pulse) : Type 0 where
  pub group : Group M n ps
  pub answer : track_set n M ps ≡ Ok (padded (sort ps))

asked : (n M : ℕ) (ps : List Pulse) → n ≤ 6 → Accepted n M ps ⊎ Refused n M ps
asked n M ps l =
    elim (cases_eq (length ps) n) [
      | inl e ↦ elim (cases_Bool (on_track M ps)) [
        | inl o ↦
            let on = on_from_test M ps o in
            elim (cases_Bool (one_signed ps)) [
              | inl u ↦
                  let la = lawful_from_test ps u in
                  inl (record { group = record { size = e; on = on; lawful = la }; answer = set_is n M ps e l ∙ ap (map_ok padded) (checked_ok M ps on la) })
              | inr u ↦
                  let no : Lawful ps → ⊥ = λ la. true≢false (sym (test_from_lawful ps la) ∙ u) in
                  inr (record { cause = BothSigns; why = both_signs e on no; answer = set_is n M ps e l ∙ ap (map_ok padded) (checked_both M ps on no) })
            ]
        | inr o ↦
            let no : On M ps → ⊥ = λ on. true≢false (sym (test_from_on M ps on) ∙ o) in
            inr (record { cause = OffTrack; why = off_track e no; answer = set_is n M ps e l ∙ ap (map_ok padded) (checked_off M ps no) })
      ]
      | inr ne ↦ inr (record { cause = WrongNumber; why = wrong_number ne; answer = set_number n M ps (λ e _. ne e) })
    ]

abbrev Answer : Type 0
Answer = Result (List Pulse) Refusal

ok_is : (x y : List Pulse) → ◌≡◌ {A = Answer} (Ok x) (Ok y) → x ≡ y
ok_is x y p = cc

err_is : (e d : Refusal) → ◌≡◌ {A = Answer} (Err e) (Err d) → e ≡ d
err_is e d p = cc

ok_err : (x : List Pulse) (e : Refusal) → ◌≡◌ {A = Answer} (Ok x) (Err e) → ⊥
ok_err x e p = let z : ◌≡◌ {A = ℕ} 0 1 = cc in absurd (omega arith)

pub taken_ok : (n M : ℕ) (ps row : List Pulse) → n ≤ 6 → ◌≡◌ {A = Answer} (Ok row) (track_set n M ps) → Group M n ps × (row ≡ padded (sort ps))
taken_ok n M ps row l e =
    ⊎_elim
    (λ a. (a.group, ok_is row (padded (sort ps)) (e ∙ a.answer)))
    (λ r. absurd (ok_err row (because r.cause) (e ∙ r.answer)))
    (asked n M ps l)

pub taken_err : (n M : ℕ) (ps : List Pulse) (r : Refusal) → n ≤ 6 → ◌≡◌ {A = Answer} (Err r) (track_set n M ps) → Unlawful n M ps r.cause
taken_err n M ps r l e =
    ⊎_elim
    (λ a. absurd (ok_err (padded (sort ps)) r (sym (e ∙ a.answer))))
    (λ u. let Q : Cause → Type 0 = λ c. Unlawful n M ps c in subst Q (sym (ap (λ x. x.cause) (err_is r (because u.cause) (e ∙ u.answer)))) u.why)
    (asked n M ps l)

-- what is told of a refusal leaves a set that is taken, and comes from a refusal
pub told_ok : (r q : Answer) (P : Refusal → Refusal → Type 0) (row : List Pulse) → MatchResult r (λ x. q ≡ Ok x) (λ e. IsErrAnd q (P e)) → q ≡ Ok row → Ok row ≡ r
told_ok (Ok x) q P row h w = sym w ∙ h
told_ok (Err e) q P row h w = let d = err_from_is_err_and q h in absurd (ok_err row d.0 (sym w ∙ d.1))

pub told_err : (r q : Answer) (P : Refusal → Refusal → Type 0) (d : Refusal) → MatchResult r (λ x. q ≡ Ok x) (λ e. IsErrAnd q (P e)) → q ≡ Err d
    → (e : Refusal) × (Err e ≡ r) × P e d
told_err (Ok x) q P d h w = absurd (ok_err x d (sym h ∙ w))
told_err (Err e) q P d h w =
    let f = err_from_is_err_and q h in
    let same : f.0 ≡ d = err_is f.0 d (sym f.1 ∙ w) in
    (e, refl, subst (P e) same f.2)

pub never_unlawful : (n M : ℕ) (ps : List Pulse) (c : Cause) → Group M n ps → Unlawful n M ps c → ⊥
never_unlawful n M ps _ g (wrong_number h) = h g.size
never_unlawful n M ps _ g (off_track _ h) = h g.on
never_unlawful n M ps _ g (both_signs _ _ h) = h g.lawful

-- a row of a lawful record
pub record LawfulRow (n M : ℕ) (xs : List Pulse) : Type 0 where
  pub few : n ≤ 6
  pub long : length xs ≡ 6
  pub on : (k : ℕ) → (at xs k).place < 2 ^ M
  pub rising : (k : ℕ) → k + 1 < n → (at xs k).place + apart (at xs k) (at xs (k + 1)) ≤ (at xs (k + 1)).place
  pub padded : (k : ℕ) → n ≤ k → at xs k ≡ none

padded_low : (ps : List Pulse) (k : ℕ) → k < length ps → at (padded ps) k ≡ at ps k
unfolding padded
padded_low ps k h = get_or_append_left ps _ none k h

padded_past : (ps : List Pulse) (k : ℕ) → length ps ≤ k → at (padded ps) k ≡ none
unfolding padded
padded_past ps k h = get_or-append_right ps _ (length ps) k none refl h ∙ replicate_at (6 - length ps) (k - length ps) none

padded_long : (ps : List Pulse) → length ps ≤ 6 → length (padded ps) ≡ 6
unfolding padded
padded_long ps h = length-append ps (replicate (6 - length ps) none) ∙ ap (λ n. length ps + n) (length-replicate (6 - length ps) none) ∙ omega arith

pub padded_front : (ps : List Pulse) (n : ℕ) → length ps ≡ n → take n (padded ps) ≡ ps
unfolding padded
padded_front ps n e = take_at ps _ n e

pub padded_row : (n M : ℕ) (ps : List Pulse) → n ≤ 6 → Group M n ps → Sorted ps → LawfulRow n M (padded ps)
padded_row n M ps l g so =
    let e : length ps ≡ n = g.size in
    record {
      few = l;
      long = padded_long ps (omega arith);
      on = λ k. ⊎_elim
          (λ h. rw (padded_low ps k h) (All-get_or (λ p. p.place < 2 ^ M) ps k none h g.on))
          (λ h. rw (padded_past ps k h) (pow_pos M))
          (cases_lt k (length ps));
      rising = λ k h. rw (padded_low ps k (omega arith), padded_low ps (k + 1) (omega arith)) (steps_from_lawful ps so g.lawful k (omega arith));
      padded = λ k h. padded_past ps k (omega arith);
    }

-- sorting keeps what holds of each
insert_all : (P : Pulse → Type 0) (p : Pulse) (ps : List Pulse) → P p → AllByRecursion P ps → AllByRecursion P (insert p ps)
unfolding insert
insert_all P p [] h a = (h, tt)
insert_all P p (q ∷ qs) h a =
    cond_both (leb p.place q.place) (p ∷ q ∷ qs) (q ∷ insert p qs) (λ z. AllByRecursion P z) (λ _. (h, a)) (λ _. (a.0, insert_all P p qs h a.1))

sort_all : (P : Pulse → Type 0) (ps : List Pulse) → AllByRecursion P ps → AllByRecursion P (sort ps)
unfolding sort
sort_all P [] a = tt
sort_all P (p ∷ ps) a = insert_all P p (sort ps) a.0 (sort_all P ps a.1)

-- the sorted list of a group is a group
pub sorted_group : (n M : ℕ) (ps : List Pulse) → Group M n ps → Group M n (sort ps)
sorted_group n M ps g = record {
  size = length_sort ps ∙ g.size;
  on = sort_all (λ p. p.place < 2 ^ M) ps g.on;
  lawful = lawful_same ps (sort ps) (same_sym (sort ps) ps (same_sort ps)) g.lawful;
}

-- the row of a set that is taken
pub taken_row : (n M : ℕ) (ps : List Pulse) → n ≤ 6 → Group M n ps → LawfulRow n M (padded (sort ps))
taken_row n M ps l g = padded_row n M (sort ps) l (sorted_group n M ps g) (sorted_sort ps)

-- and back: what a row's front is
weaker : (p : Pulse) (ps : List Pulse) → AllByRecursion (λ q. p.place + apart p q ≤ q.place) ps → AllByRecursion (λ q. p.place ≤ q.place) ps
weaker p [] us = tt
weaker p (q ∷ qs) us = (omega (arith, us.0), weaker p qs us.1)

sorted_from_steps : (ps : List Pulse) → Steps ps → Sorted ps
sorted_from_steps [] h = tt
sorted_from_steps (p ∷ ps) h = (weaker p ps (follows p ps h), sorted_from_steps ps (tail p ps h))

pub record Front (n M : ℕ) (xs : List Pulse) : Type 0 where
  pub group : Group M n (take n xs)
  pub sorted : Sorted (take n xs)
  pub row : xs ≡ padded (take n xs)

pub row_front : (n M : ℕ) (xs : List Pulse) → LawfulRow n M xs → Front n M xs
row_front n M xs r =
    let long : length (take n xs) ≡ n = simp length-take (omega (arith, r.few, r.long)) in
    let front : (k : ℕ) → k < n → at (take n xs) k ≡ at xs k = λ k h. get_or-take n xs k none h in
    let steps : Steps (take n xs) = λ k h. let h' : k + 1 < n = rw long at h in rw (front k (omega arith), front (k + 1) h') (r.rising k h') in
    record {
      group = record {
        size = long;
        on = All-from_get_or (λ p. p.place < 2 ^ M) (take n xs) none (λ k h. rw (front k (rw long at h)) (r.on k));
        lawful = lawful_from_steps (take n xs) steps;
      };
      sorted = sorted_from_steps (take n xs) steps;
      row = ext_get_or none xs (padded (take n xs)) (r.long ∙ sym (padded_long (take n xs) (omega (arith, r.few)))) (λ k _.
          ⊎_elim
          (λ h. sym (padded_low (take n xs) k (rw long h) ∙ front k h))
          (λ h. r.padded k h ∙ sym (padded_past (take n xs) k (rw long h)))
          (cases_lt k n));
    }

-- a sorted group sorts to itself
pub sort_again : (n M : ℕ) (ps : List Pulse) → Group M n ps → Sorted ps → sort ps ≡ ps
sort_again n M ps g so = sort_is ps ps g.lawful so (same_refl ps)
