-- What the answers of the index calls mean by the rules.
use Rattle.std.proofs.Common.{◌≡◌, ℕ, ◌+◌, ◌^◌, ◌<◌, ◌≤◌, Bool, true, false, cond, ◌&&◌, eqb, List, [], ◌∷◌, length, take, Option, Some, None, MatchOption, IfOk, Ok, Err, Result, sym, refl, ap, ◌∙◌, subst, ap₂, ⊎_elim, mod-eq_of_lt, arith}
use Rattle.std.proofs.lemmas.Bool.{eqb-true, eq-eqb, lt-ltb, le-ltb, cases_Bool, cases_lt, cond-true, cond-false}
use Rattle.std.proofs.lemmas.List.{take_at}
use Rattle.std.proofs.lemmas.Bool.Decides.{nat_tests}
use Rattle.std.proofs.lemmas.Option.{MatchOption-at_some, MatchOption-at_none}
use Rattle.refusals.specs.declared.cause.Cause.TheVariants.{OffTrack, BothSigns, WrongNumber, NoSuchIndex, NotHouseIndex}
use Rattle.refusals.specs.declared.refusal.Refusal.{Refusal}
use Rattle.refusals.specs.Spots.{because}
use Rattle.pulses.specs.declared.pulse.Pulse.{Pulse}
use Rattle.pulses.specs.declared.pulse.Sign.TheVariants.{Plus, Minus}
use Rattle.pulses.specs.declared.index.Reading.{Reading}
use Rattle.pulses.specs.declared.index.Used.{Used}
use Rattle.pulses.specs.declared.index.Reading.TheVariants.{Strict, Open}
use Rattle.pulses.specs.Pulses.{pulse, tally, Same, Lawful, On, Sorted, Group, EqualAmplitudes, up, sort}
use Rattle.pulses.specs.Rules.{Choice, Index, bits}
use Rattle.pulses.specs.Reading.{pulses_of}
use Rattle.pulses.specs.House.{house}
use Rattle.pulses.specs.Sets.{on_track, one_signed, checked, padded, map_ok, track_set}
use Rattle.pulses.specs.Within.{down}
use Rattle.pulses.specs.Laws.{Fits}
use Rattle.pulses.specs.Calls.{used, choice, write_index, accepts, kept, read_index, ReadsByTheRules, EveryNumberHasOneSet, StrictIsOpen, AcceptsExactlyWhatIsWritten, OnlyHouseIndex, GivesTheOnlyHouseIndex, WhateverTheSequence, IsReadAgain, AmplitudesTellTheSet}
use Rattle.pulses.proofs.Tallies.{same_refl, same_sym, lawful_same}
use Rattle.pulses.proofs.Canon.{same_sort, sorted_sort, sort_is, same_from_amplitudes}
use Rattle.pulses.proofs.Unique.{all_same, sort_same, group_same, length_sort}
use Rattle.pulses.proofs.Checked.{on_from_test, lawful_from_test, checked_ok, set_is}
use Rattle.pulses.proofs.Indices.{reading_is_right, every_number_reads, house_follows, house_alone, house_tells_apart}
use Rattle.pulses.proofs.Rules.{index_same, index_on, read_size}

-- the pairs of number and width that modes use
pub record InUse (n M : ℕ) : Type 0 where
  pub fits : Fits n M
  pub narrow : M ≤ 5
  pub few : n ≤ 6

pub in_use : (n M : ℕ) → used n M ≡ true → InUse n M
in_use n M h =
    record {
      fits = record { some = grind (arith, nat_tests); few = grind (arith, nat_tests); wide = grind (arith, nat_tests) };
      narrow = grind (arith, nat_tests);
      few = grind (arith, nat_tests);
    }

-- a pair that was asked for
pub in_use_so : (n M : ℕ) (o : Option Used) (t : Used) → o ≡ Some t → MatchOption o (used n M ≡ false) (λ u. (u.number ≡ n) × (u.width ≡ M))
    → (used n M ≡ true) × ((t.number ≡ n) × (t.width ≡ M))
in_use_so n M o t e h =
    let k = MatchOption-at_some (used n M ≡ false) (λ u. (u.number ≡ n) × (u.width ≡ M)) t e h in
    (sym (ap₂ used k.0 k.1) ∙ t.in_use, k)

pub not_in_use : (n M : ℕ) (o : Option Used) → o ≡ None → MatchOption o (used n M ≡ false) (λ u. (u.number ≡ n) × (u.width ≡ M)) → used n M ≡ false
not_in_use n M o e h = MatchOption-at_none (used n M ≡ false) (λ u. (u.number ≡ n) × (u.width ≡ M)) e h

-- an answer is accepted or refused, never both
pub never : {X : Type 0} (x : X) (e : Refusal) → ◌≡◌ {A = Result X Refusal} (Err e) (Ok x) → ⊥
never x e h = let z : ◌≡◌ {A = ℕ} 0 1 = cc in omega arith

pub ok_is : {X : Type 0} (x y : X) → ◌≡◌ {A = Result X Refusal} (Ok x) (Ok y) → x ≡ y
ok_is x y h = cc

-- what a checked set is
pub record Accepted (M : ℕ) (ps qs : List Pulse) : Type 0 where
  pub on : On M ps
  pub lawful : Lawful ps
  pub is : qs ≡ sort ps

checked_at : (M : ℕ) (ps : List Pulse) (a b : Bool) → on_track M ps ≡ a → one_signed ps ≡ b
    → checked M ps ≡ cond a (cond b (Ok (sort ps)) (Err (because BothSigns))) (Err (because OffTrack))
unfolding checked
checked_at M ps a b e f = rw (e, f)

pub accepted : (M : ℕ) (ps qs : List Pulse) → checked M ps ≡ Ok qs → Accepted M ps qs
accepted M ps qs h = by (on_track M ps) (one_signed ps) refl refl
  where
    by : (a b : Bool) → on_track M ps ≡ a → one_signed ps ≡ b → Accepted M ps qs
    by true true o s =
        record { on = on_from_test M ps o; lawful = lawful_from_test ps s; is = ok_is qs (sort ps) (sym h ∙ checked_at M ps true true o s) }
    by true false o s = absurd (never qs (because BothSigns) (sym (checked_at M ps true false o s) ∙ h))
    by false b o s = absurd (never qs (because OffTrack) (sym (checked_at M ps false b o s) ∙ h))

-- writing
pub write_is : (M : ℕ) (ps : List Pulse) → used (length ps) M ≡ true → write_index M ps ≡ map_ok (house (length ps) M) (checked M ps)
unfolding write_index
write_is M ps u = rw u

pub write_unused : (M : ℕ) (ps : List Pulse) → used (length ps) M ≡ false → write_index M ps ≡ Err (because WrongNumber)
unfolding write_index
write_unused M ps u = rw u

pub record Wrote (M : ℕ) (ps : List Pulse) (i : ℕ) : Type 0 where
  pub used_so : used (length ps) M ≡ true
  pub known : InUse (length ps) M
  pub group : Group M (length ps) ps
  pub is : i ≡ house (length ps) M (sort ps)

mapped : (f : List Pulse → ℕ) (r : Result (List Pulse) Refusal) (i : ℕ) → map_ok f r ≡ Ok i → (qs : List Pulse) × ((r ≡ Ok qs) × (i ≡ f qs))
mapped f (Ok qs) i h = (qs, (refl, sym (ok_is (f qs) i h)))
mapped f (Err e) i h = absurd (never i e h)

pub wrote : (M : ℕ) (ps : List Pulse) (i : ℕ) → write_index M ps ≡ Ok i → Wrote M ps i
wrote M ps i h =
    ⊎_elim
    (λ u.
    let r = mapped (house (length ps) M) (checked M ps) i (sym (write_is M ps u) ∙ h) in
    let a = accepted M ps r.0 r.1.0 in
    record {
      used_so = u;
      known = in_use (length ps) M u;
      group = record { size = refl; on = a.on; lawful = a.lawful };
      is = r.1.1 ∙ ap (house (length ps) M) a.is;
    })
    (λ u. absurd (never i (because WrongNumber) (sym (write_unused M ps u) ∙ h))) (cases_Bool (used (length ps) M))

pub writes : (M n : ℕ) (ps : List Pulse) → used n M ≡ true → Group M n ps → write_index M ps ≡ Ok (house n M (sort ps))
writes M n ps u g =
    let P : ℕ → Type 0 = λ z. used z M ≡ true → write_index M ps ≡ Ok (house z M (sort ps)) in
    subst P g.size (λ w. write_is M ps w ∙ ap (map_ok (house (length ps) M)) (checked_ok M ps g.on g.lawful)) u

-- a set in order is the same set
sort_group : (M n : ℕ) (ps : List Pulse) → Group M n ps → Group M n (sort ps)
sort_group M n ps g = group_same M n (sort ps) ps (same_sort ps) g

-- reading
pub read_is : (how : Reading) (n M i : ℕ) → used n M ≡ true → i < 2 ^ bits n M → read_index how n M i ≡ kept how n M i (checked M (pulses_of n M i))
unfolding read_index
read_is how n M i u l = rw (u, lt-ltb i (2 ^ bits n M) l)

pub read_unused : (how : Reading) (n M i : ℕ) → used n M ≡ false → read_index how n M i ≡ Err (because NoSuchIndex)
unfolding read_index
read_unused how n M i u = rw u

and_false : (b : Bool) → (b && false) ≡ false
and_false true = refl
and_false false = refl

pub read_past : (how : Reading) (n M i : ℕ) → 2 ^ bits n M ≤ i → read_index how n M i ≡ Err (because NoSuchIndex)
unfolding read_index
read_past how n M i l = rw (le-ltb i (2 ^ bits n M) l, and_false (used n M))

pub record WasRead (how : Reading) (n M i : ℕ) (ps : List Pulse) : Type 0 where
  pub used_so : used n M ≡ true
  pub below : i < 2 ^ bits n M
  pub lawful : Lawful (pulses_of n M i)
  pub is : ps ≡ sort (pulses_of n M i)
  pub checks : checked M (pulses_of n M i) ≡ Ok ps
  pub houses : how ≡ Strict → house n M ps ≡ i

kept_is : (how : Reading) (n M i : ℕ) (r : Result (List Pulse) Refusal) (ps : List Pulse) → kept how n M i r ≡ Ok ps → (r ≡ Ok ps) × (how ≡ Strict → house n M ps ≡ i)
kept_is how n M i (Err e) ps h = absurd (never ps e h)
kept_is how n M i (Ok qs) ps h =
    ⊎_elim
    (λ e.
    let f : Ok qs ≡ Ok ps = sym (cond-true (accepts how (house n M qs) i) (Ok qs) (Err (because NotHouseIndex)) e) ∙ h in
    (f, λ s. ap (house n M) (sym (ok_is qs ps f)) ∙ eqb-true (house n M qs) i (ap (λ z. accepts z (house n M qs) i) (sym s) ∙ e)))
    (λ e. absurd (never ps (because NotHouseIndex) (sym (cond-false (accepts how (house n M qs) i) (Ok qs) (Err (because NotHouseIndex)) e) ∙ h)))
    (cases_Bool (accepts how (house n M qs) i))

pub was_read : (how : Reading) (n M i : ℕ) (ps : List Pulse) → read_index how n M i ≡ Ok ps → WasRead how n M i ps
was_read how n M i ps h =
    ⊎_elim
    (λ u.
    ⊎_elim
    (λ l.
    let k = kept_is how n M i (checked M (pulses_of n M i)) ps (sym (read_is how n M i u l) ∙ h) in
    let a = accepted M (pulses_of n M i) ps k.0 in
    record { used_so = u; below = l; lawful = a.lawful; is = a.is; checks = k.0; houses = k.1 })
    (λ l. absurd (never ps (because NoSuchIndex) (sym (read_past how n M i l) ∙ h))) (cases_lt i (2 ^ bits n M)))
    (λ u. absurd (never ps (because NoSuchIndex) (sym (read_unused how n M i u) ∙ h))) (cases_Bool (used n M))

-- what is read is a group of its number, on its track
pub on_read : (n M i : ℕ) → used n M ≡ true → i < 2 ^ bits n M → On M (pulses_of n M i)
on_read n M i u l = index_on Choice.free n M (pulses_of n M i) i (every_number_reads n M i (in_use n M u).fits l)

pub read_group : (n M i : ℕ) → used n M ≡ true → i < 2 ^ bits n M → Lawful (pulses_of n M i) → Group M n (pulses_of n M i)
read_group n M i u l k = record { size = read_size n M i (in_use n M u).fits; on = on_read n M i u l; lawful = k }

pub reads : (how : Reading) (n M i : ℕ) → used n M ≡ true → i < 2 ^ bits n M → Lawful (pulses_of n M i)
    → (how ≡ Strict → house n M (sort (pulses_of n M i)) ≡ i) → read_index how n M i ≡ Ok (sort (pulses_of n M i))
reads how n M i u l k h =
    read_is how n M i u l ∙ ap (kept how n M i) (checked_ok M (pulses_of n M i) (on_read n M i u l) k) ∙ by how h
  where
    by : (how : Reading) → (how ≡ Strict → house n M (sort (pulses_of n M i)) ≡ i) → kept how n M i (Ok (sort (pulses_of n M i))) ≡ Ok (sort (pulses_of n M i))
    by Open h = refl
    by Strict h = cond-true (eqb (house n M (sort (pulses_of n M i))) i) (Ok (sort (pulses_of n M i))) (Err (because NotHouseIndex)) (eq-eqb (house n M (sort (pulses_of n M i))) i (h refl))

-- the laws of reading
pub reads_by_the_rules : (how : Reading) (n M i : ℕ) → ReadsByTheRules how n M i
reads_by_the_rules how n M i ps = record { forth = forth how; back = back how }
  where
    forth : (how : Reading) → read_index how n M i ≡ Ok ps → (used n M ≡ true) × (Index (choice how) n M ps i × (Lawful ps × Sorted ps))
    forth how h =
        let r = was_read how n M i ps h in
        let f = (in_use n M r.used_so).fits in
        let P : List Pulse → Type 0 = λ z. Group M n z × (Lawful z × (Sorted z × Same (pulses_of n M i) z)) in
        let g = sort_group M n (pulses_of n M i) (read_group n M i r.used_so r.below r.lawful) in
        let t : P ps = subst P (sym r.is) (g, (g.lawful, (sorted_sort (pulses_of n M i), same_sym _ _ (same_sort (pulses_of n M i))))) in
        (r.used_so, (by how r.houses t.0 t.1.1.0 t.1.1.1 f r.below, (t.1.0, t.1.1.0)))
      where
        by : (how : Reading) → (how ≡ Strict → house n M ps ≡ i) → Group M n ps → Sorted ps → Same (pulses_of n M i) ps → Fits n M → i < 2 ^ bits n M → Index (choice how) n M ps i
        by Open h g a e f l = index_same Choice.free n M (pulses_of n M i) ps i (every_number_reads n M i f l) e
        by Strict h g a e f l = let Q : ℕ → Type 0 = λ z. Index Choice.house n M ps z in subst Q (h refl) (house_follows n M ps f g a)

    back : (how : Reading) → (used n M ≡ true) × (Index (choice how) n M ps i × (Lawful ps × Sorted ps)) → read_index how n M i ≡ Ok ps
    back how (u, (x, (l, a))) =
        let r = reading_is_right (choice how) n M ps i x in
        let s : sort (pulses_of n M i) ≡ ps = sort_is ps (pulses_of n M i) l a r.1 in
        let k = lawful_same ps (pulses_of n M i) r.1 l in
        reads how n M i u r.0 k (by how x r.0 r.1 s k) ∙ ap Ok s
      where
        by : (how : Reading) → Index (choice how) n M ps i → i < 2 ^ bits n M → Same ps (pulses_of n M i) → sort (pulses_of n M i) ≡ ps → Lawful (pulses_of n M i)
            → how ≡ Strict → house n M (sort (pulses_of n M i)) ≡ i
        by Open x l e s k h = let z : ◌≡◌ {A = ℕ} 0 1 = cc in absurd (omega arith)
        by Strict x m e s k h =
            ap (house n M) s ∙ sym (house_alone n M ps ps i x a (group_same M n ps (pulses_of n M i) e (read_group n M i u m k)) (same_refl ps))

pub every_number_has_one_set : (n M i : ℕ) → EveryNumberHasOneSet n M i
every_number_has_one_set n M i u l =
    record {
      its_index = every_number_reads n M i (in_use n M u).fits l;
      no_other = λ ps x. (reading_is_right Choice.free n M ps i x).1;
    }

pub strict_is_open : (n M i : ℕ) → StrictIsOpen n M i
strict_is_open n M i ps h = let r = was_read Strict n M i ps h in read_is Open n M i r.used_so r.below ∙ ap (kept Open n M i) r.checks

-- the laws of writing
pub is_read_again : (M : ℕ) (ps : List Pulse) (i : ℕ) → write_index M ps ≡ Ok i → read_index Strict (length ps) M i ≡ Ok (sort ps)
is_read_again M ps i h =
    let w = wrote M ps i h in
    let n = length ps in
    let g = sort_group M n ps w.group in
    let a = sorted_sort ps in
    let x : Index Choice.house n M (sort ps) i = let Q : ℕ → Type 0 = λ z. Index Choice.house n M (sort ps) z in subst Q (sym w.is) (house_follows n M (sort ps) w.known.fits g a) in
    (reads_by_the_rules Strict n M i (sort ps)).back (w.used_so, (x, (g.lawful, a)))

pub whatever_the_sequence : (M : ℕ) (ps : List Pulse) → WhateverTheSequence M ps
whatever_the_sequence M ps qs i e h =
    let w = wrote M ps i h in
    let g = group_same M (length ps) qs ps (same_sym ps qs e) w.group in
    writes M (length ps) qs w.used_so g ∙ ap Ok (ap (house (length ps) M) (sym (sort_same ps qs w.group.lawful e)) ∙ sym w.is)

-- what holds of each accepted answer
when_made : {X : Type 0} (P : X → Type 0) (r : Result X Refusal) → ((x : X) → r ≡ Ok x → P x) → IfOk r P
when_made P (Ok x) h = h x refl
when_made P (Err e) h = tt

pub gives_the_only_house_index : (M : ℕ) (ps : List Pulse) → GivesTheOnlyHouseIndex M ps
gives_the_only_house_index M ps = when_made (OnlyHouseIndex M ps) (write_index M ps) only
  where
    only : (i : ℕ) → write_index M ps ≡ Ok i → OnlyHouseIndex M ps i
    only i h =
        let w = wrote M ps i h in
        let n = length ps in
        let g = sort_group M n ps w.group in
        let a = sorted_sort ps in
        let x = house_follows n M (sort ps) w.known.fits g a in
        let Q : ℕ → Type 0 = λ z. Index Choice.house n M ps z in
        record {
          its_index = subst Q (sym w.is) (index_same Choice.house n M (sort ps) ps (house n M (sort ps)) x (same_sort ps));
          no_other = λ j y. house_alone n M ps (sort ps) j y a g (same_sym (sort ps) ps (same_sort ps)) ∙ sym w.is;
        }

pub is_read_again_law : (M : ℕ) (ps : List Pulse) → IsReadAgain M ps
is_read_again_law M ps = when_made _ (write_index M ps) (λ i h. (is_read_again M ps i h, (same_sort ps, sorted_sort ps)))

equal_from_same : (ps qs : List Pulse) → Same ps qs → EqualAmplitudes ps qs
equal_from_same ps qs e x = omega (arith, e x Plus, e x Minus)

pub amplitudes_tell_the_set : (M : ℕ) (ps : List Pulse) → AmplitudesTellTheSet M ps
amplitudes_tell_the_set M ps qs i j l h k =
    let w = wrote M ps i h in
    let v = wrote M qs j k in
    let n = length ps in
    let g = w.group in
    let f : Group M n qs = record { size = l; on = v.group.on; lawful = v.group.lawful } in
    let jis : j ≡ house n M (sort qs) = v.is ∙ ap (λ z. house z M (sort qs)) l in
    let same : EqualAmplitudes ps qs → Same ps qs = same_from_amplitudes ps qs g.lawful f.lawful in (
      record {
        forth = λ e.
            let s = house_tells_apart n M (sort ps) (sort qs) w.known.fits (sort_group M n ps g) (sort_group M n qs f) (sorted_sort ps) (sorted_sort qs) (sym w.is ∙ e ∙ jis) in
            equal_from_same ps qs (λ x s'. sym (same_sort ps x s') ∙ ap (λ z. tally z x s') s ∙ same_sort qs x s');
        back = λ e. w.is ∙ ap (house n M) (sort_same ps qs g.lawful (same e)) ∙ sym jis;
      },
      same,
    )

pub accepts_exactly_what_is_written : (n M i : ℕ) → AcceptsExactlyWhatIsWritten n M i
accepts_exactly_what_is_written n M i =
    record {
      forth = λ (ps, h).
          let r = was_read Strict n M i ps h in
          let t = (reads_by_the_rules Strict n M i ps).forth h in
          let P : List Pulse → Type 0 = λ z. Group M n z in
          let g : Group M n ps = subst P (sym r.is) (sort_group M n (pulses_of n M i) (read_group n M i r.used_so r.below r.lawful)) in
          (ps, (g.size, writes M n ps r.used_so g ∙ ap Ok (ap (house n M) (sort_is ps ps g.lawful t.1.1.1 (same_refl ps)) ∙ r.houses refl)));
      back = λ (qs, (l, h)). (sort qs, subst (λ z. read_index Strict z M i ≡ Ok (sort qs)) l (is_read_again M qs i h));
    }

-- what the code hands on
pub down_on : (M : ℕ) (ps : List Pulse) → On M ps → down M ps ≡ ps
unfolding down
down_on M [] o = refl
down_on M (p ∷ ps) o = ap₂ (λ x qs. pulse x p.sign ∷ qs) (mod-eq_of_lt o.0) (down_on M ps o.1)

pub up_none : (ps : List Pulse) → up 0 ps ≡ ps
unfolding up
up_none [] = refl
up_none (p ∷ ps) = let e : p.place + 0 ≡ p.place = omega arith in ap₂ (λ x qs. pulse x p.sign ∷ qs) e (up_none ps)

-- the row of a set: its front is the set in order
pub record Rowed (n M : ℕ) (qs row : List Pulse) : Type 0 where
  pub checks : checked M qs ≡ Ok (sort qs)
  pub front : take n row ≡ sort qs
  pub front_down : down M (take n row) ≡ sort qs
  pub front_sorted : Sorted (down M (take n row))

unmapped : (f : List Pulse → List Pulse) (r : Result (List Pulse) Refusal) (e : Refusal) → map_ok f r ≡ Err e → r ≡ Err e
unmapped f (Ok x) e h = absurd (never (f x) e (sym h))
unmapped f (Err d) e h = h

mapped_to : (f : List Pulse → List Pulse) (r : Result (List Pulse) Refusal) (y : List Pulse) → map_ok f r ≡ Ok y → (x : List Pulse) × ((r ≡ Ok x) × (y ≡ f x))
mapped_to f (Ok x) y h = (x, (refl, sym (ok_is (f x) y h)))
mapped_to f (Err e) y h = absurd (never y e h)

pub unrowed : (n M : ℕ) (qs : List Pulse) (e : Refusal) → length qs ≡ n → n ≤ 6 → track_set n M qs ≡ Err e → checked M qs ≡ Err e
unrowed n M qs e l k h = unmapped padded (checked M qs) e (sym (set_is n M qs l k) ∙ h)

pub rowed : (n M : ℕ) (qs row : List Pulse) → length qs ≡ n → n ≤ 6 → track_set n M qs ≡ Ok row → Rowed n M qs row
unfolding padded
rowed n M qs row l k h =
    let r = mapped_to padded (checked M qs) row (sym (set_is n M qs l k) ∙ h) in
    let a = accepted M qs r.0 r.1.0 in
    let front : take n row ≡ sort qs =
    ap (take n) (r.1.1 ∙ ap padded a.is) ∙ take_at (sort qs) _ n (length_sort qs ∙ l) in
    let on : On M (sort qs) = all_same (λ x. x < 2 ^ M) (sort qs) qs (same_sort qs) a.on in
    let fd : down M (take n row) ≡ sort qs = ap (down M) front ∙ down_on M (sort qs) on in
    record { checks = r.1.0 ∙ ap Ok a.is; front = front; front_down = fd; front_sorted = subst Sorted (sym fd) (sorted_sort qs) }

-- the exits of writing and reading
pub write_refused : (M : ℕ) (ps : List Pulse) (e : Refusal) → used (length ps) M ≡ true → track_set (length ps) M ps ≡ Err e → write_index M ps ≡ Err e
write_refused M ps e u h =
    write_is M ps u ∙ ap (map_ok (house (length ps) M)) (unrowed (length ps) M ps e refl (in_use (length ps) M u).few h)

pub write_answers : (M : ℕ) (ps row : List Pulse) → used (length ps) M ≡ true → track_set (length ps) M ps ≡ Ok row
    → write_index M ps ≡ Ok (house (length ps) M (down M (take (length ps) row)))
write_answers M ps row u h =
    let r = rowed (length ps) M ps row refl (in_use (length ps) M u).few h in
    write_is M ps u ∙ ap (map_ok (house (length ps) M)) r.checks ∙ ap (λ z. Ok (house (length ps) M z)) (sym r.front_down)

module _ (how : Reading) (n M i : ℕ) (u : used n M ≡ true) (l : i < 2 ^ bits n M) where
  pub read_refused : (e : Refusal) → track_set n M (pulses_of n M i) ≡ Err e → read_index how n M i ≡ Err e
  read_refused e h =
      let k = in_use n M u in read_is how n M i u l ∙ ap (kept how n M i) (unrowed n M (pulses_of n M i) e (read_size n M i k.fits) k.few h)

  pub read_rowed : (row : List Pulse) → track_set n M (pulses_of n M i) ≡ Ok row → Rowed n M (pulses_of n M i) row
  read_rowed row h = let k = in_use n M u in rowed n M (pulses_of n M i) row (read_size n M i k.fits) k.few h

  read_at : (row : List Pulse) (b : Bool) → track_set n M (pulses_of n M i) ≡ Ok row → accepts how (house n M (down M (take n row))) i ≡ b
      → read_index how n M i ≡ cond b (Ok (take n row)) (Err (because NotHouseIndex))
  read_at row b h e =
      let r = read_rowed row h in
      read_is how n M i u l ∙ ap (kept how n M i) r.checks
      ∙ ap₂ (λ (c : Bool) (z : List Pulse). cond c (Ok z) (Err (because NotHouseIndex))) (ap (λ z. accepts how (house n M z) i) (sym r.front_down) ∙ e) (sym r.front)

  pub read_accepts : (row : List Pulse) → track_set n M (pulses_of n M i) ≡ Ok row → accepts how (house n M (down M (take n row))) i ≡ true → read_index how n M i ≡ Ok (take n row)
  read_accepts row h e = read_at row true h e

  pub read_other : (row : List Pulse) → track_set n M (pulses_of n M i) ≡ Ok row → accepts how (house n M (down M (take n row))) i ≡ false → read_index how n M i ≡ Err (because NotHouseIndex)
  read_other row h e = read_at row false h e

-- the laws that stand on the calls, for each of their exits
pub ruleset writing_laws = (gives_the_only_house_index, whatever_the_sequence, is_read_again_law)

pub ruleset reading_laws = (reads_by_the_rules, strict_is_open, accepts_exactly_what_is_written)
