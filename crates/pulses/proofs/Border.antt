-- The answers of the index calls at the border to C.
use Rattle.std.proofs.Common.{◌≡◌, ℕ, zero, suc, ◌+◌, ◌*◌, ◌/◌, ◌%◌, ◌^◌, ◌<◌, ◌≤◌, true, ltb, leb, ◌⊎◌, List, [], ◌∷◌, ◌++◌, map, length, get_or, take, drop, set, replicate, Ok, Err, Result, sym, refl, ap, ◌∙◌, subst, ap₂, inl, inr, ⊎_elim, append_assoc, arith, pow_mono}
use Rattle.std.proofs.lemmas.Nat.{div-mul-add, mod-mul-add}
use Rattle.std.proofs.lemmas.List.{length-map, length-take, take_more, drop_more, take_at, set_at, map-append}
use Rattle.std.proofs.ByRecursion.{All-weaker}
use Rattle.std.proofs.lemmas.Bool.{le-leb, lt-leb, leb-true, lt-ltb, le-ltb, cond-true, cond-false, cases_Bool, cases_lt}
use Rattle.std.proofs.lemmas.Bool.Decides.{nat_tests}
use Rattle.refusals.specs.declared.cause.Cause.TheVariants.{WrongNumber, BufferTooShort}
use Rattle.refusals.specs.declared.refusal.Refusal.{Refusal}
use Rattle.refusals.specs.Spots.{because}
use Rattle.pulses.specs.declared.pulse.Pulse.{Pulse}
use Rattle.pulses.specs.declared.pulse.Sign.{Sign}
use Rattle.pulses.specs.declared.pulse.Sign.TheVariants.{Plus, Minus}
use Rattle.pulses.specs.declared.index.Reading.{Reading}
use Rattle.pulses.specs.Pulses.{pulse, bit, On, sort}
use Rattle.pulses.specs.Rules.{bits}
use Rattle.pulses.specs.Reading.{sign_of, pulses_of}
use Rattle.pulses.specs.Sets.{none, at}
use Rattle.pulses.specs.Calls.{used, write_index, read_index, handed, filled}
use Rattle.pulses.specs.Octets.{octet_of, pulse_of, filled_octets, OctetTellsThePulse, OffEveryTrack}
use Rattle.pulses.proofs.Canon.{sorted_sort, same_sort}
use Rattle.pulses.proofs.Unique.{all_same, group_same, length_sort}
use Rattle.pulses.proofs.Indices.{round_trip}
use Rattle.pulses.proofs.CallLaws.{never, ok_is, in_use, wrote, write_unused, was_read, on_read}
use Rattle.pulses.proofs.Rules.{read_size}

-- octets and pulses
octet_back : (x : ℕ) (s : Sign) → x < 32 → pulse_of (x + 32 * bit s) ≡ pulse x s
octet_back x Plus l =
    let e : x + 32 * 0 ≡ 0 * 32 + x = omega arith in
    cond-true (ltb (x + 32 * 0) 64) _ _ (lt-ltb (x + 32 * 0) 64 (omega arith))
    ∙ ap₂ (λ y z. pulse y (sign_of z)) (ap (λ z. z % 32) e ∙ mod-mul-add 0 32 x l) (ap (λ z. z / 32) e ∙ div-mul-add 0 32 x l)
octet_back x Minus l =
    let e : x + 32 * 1 ≡ 1 * 32 + x = omega arith in
    cond-true (ltb (x + 32 * 1) 64) _ _ (lt-ltb (x + 32 * 1) 64 (omega arith))
    ∙ ap₂ (λ y z. pulse y (sign_of z)) (ap (λ z. z % 32) e ∙ mod-mul-add 1 32 x l) (ap (λ z. z / 32) e ∙ div-mul-add 1 32 x l)

pub octet_tells_the_pulse : OctetTellsThePulse
octet_tells_the_pulse p l = octet_back p.place p.sign l

pub off_every_track : OffEveryTrack
off_every_track o l = ap (λ (p : Pulse). p.place) (cond-false (ltb o 64) (pulse (o % 32) (sign_of (o / 32))) (pulse o Plus) (le-ltb o 64 l))

-- the number of pulses, and how large an index is
used_few : (n M : ℕ) → used n M ≡ true → n ≤ 6
used_few n M u = (in_use n M u).few

pub many_unused : (M : ℕ) (os : List ℕ) → 6 < length os → write_index M (map pulse_of os) ≡ Err (because WrongNumber)
many_unused M os l =
    write_unused M (map pulse_of os)
    (⊎_elim (λ u. let f = used_few (length (map pulse_of os)) M u in absurd (omega (arith, length-map os pulse_of))) (λ u. u) (cases_Bool (used (length (map pulse_of os)) M)))

used_width : (n M : ℕ) → used n M ≡ true → ((M ≡ 5) × (n ≡ 1)) ⊎ (M ≡ 4)
used_width n M u = ⊎_elim (λ l. inr (grind (arith, nat_tests))) (λ l. inl (grind (arith, nat_tests), grind (arith, nat_tests))) (cases_lt M 5)

bits_at_4 : (n : ℕ) → bits n 4 ≤ 22
bits_at_4 zero = omega arith
bits_at_4 (suc zero) = omega arith
bits_at_4 (suc (suc zero)) = omega arith
bits_at_4 (suc (suc (suc zero))) = omega arith
bits_at_4 (suc (suc (suc (suc zero)))) = omega arith
bits_at_4 (suc (suc (suc (suc (suc zero))))) = omega arith
bits_at_4 (suc (suc (suc (suc (suc (suc zero)))))) = omega arith
bits_at_4 (suc (suc (suc (suc (suc (suc (suc n))))))) = omega arith

bits_few : (n M : ℕ) → used n M ≡ true → bits n M ≤ 22
bits_few n M u =
    ⊎_elim (λ e. let P : ℕ → ℕ → Type 0 = λ a b. bits a b ≤ 22 in subst (λ a. P a M) (sym e.1) (subst (λ b. P 1 b) (sym e.0) (omega arith)))
    (λ e. let P : ℕ → Type 0 = λ b. bits n b ≤ 22 in subst P (sym e) (bits_at_4 n)) (used_width n M u)

pub index_small : (M : ℕ) (ps : List Pulse) (i : ℕ) → write_index M ps ≡ Ok i → i < 2 ^ 31
index_small M ps i h =
    let w = wrote M ps i h in
    let n = length ps in
    let g = group_same M n (sort ps) ps (same_sort ps) w.group in
    let t = (round_trip n M (sort ps) w.known.fits g (sorted_sort ps)).0 in
    let m : 2 ^ bits n M ≤ 2 ^ 22 = pow_mono (bits_few n M w.used_so) in
    omega (arith, w.is, t, m)

-- the buffer's question
pub handed_ok : (room k : ℕ) (r : Result (List Pulse) Refusal) → handed room r ≡ Ok k → (ps : List Pulse) × ((r ≡ Ok ps) × ((k ≡ length ps) × (length ps ≤ room)))
handed_ok room k (Ok ps) h =
    ⊎_elim
    (λ e. (ps, (refl, (sym (ok_is (length ps) k (sym (cond-true (leb (length ps) room) (Ok (length ps)) (Err (because BufferTooShort)) e) ∙ h)), leb-true (length ps) room e))))
    (λ e. absurd (never k (because BufferTooShort) (sym (cond-false (leb (length ps) room) (Ok (length ps)) (Err (because BufferTooShort)) e) ∙ h)))
    (cases_Bool (leb (length ps) room))
handed_ok room k (Err e) h = absurd (never k e h)

pub handed_err : (room : ℕ) (r : Result (List Pulse) Refusal) (e : Refusal) → handed room r ≡ Err e → ((ps : List Pulse) → r ≡ Ok ps → length ps ≤ room) → r ≡ Err e
handed_err room (Ok ps) e h f =
    absurd (never (length ps) e (sym (sym (cond-true (leb (length ps) room) (Ok (length ps)) (Err (because BufferTooShort)) (le-leb (length ps) room (f ps refl))) ∙ h)))
handed_err room (Err d) e h f = let z : d ≡ e = cc in ap Err z

pub record Fitting (ps : List Pulse) : Type 0 where
  pub few : length ps ≤ 6
  pub on : On 5 ps

on_five : (M : ℕ) (ps : List Pulse) → M ≤ 5 → On M ps → On 5 ps
on_five M ps l o = All-weaker (λ p. p.place < 2 ^ M) (λ p. p.place < 2 ^ 5) (λ p h. let m : 2 ^ M ≤ 2 ^ 5 = pow_mono l in omega arith) ps o

pub read_fits : (how : Reading) (n M i : ℕ) (ps : List Pulse) → read_index how n M i ≡ Ok ps → Fitting ps
read_fits how n M i ps h =
    let r = was_read how n M i ps h in
    let k = in_use n M r.used_so in
    let P : List Pulse → Type 0 = λ z. On 5 z in
    record {
      few = omega (arith, ap length r.is, length_sort (pulses_of n M i), read_size n M i k.fits, k.few);
      on = subst P (sym r.is)
          (on_five M (sort (pulses_of n M i)) k.narrow
          (all_same (λ x. x < 2 ^ M) (sort (pulses_of n M i)) (pulses_of n M i) (same_sort (pulses_of n M i)) (on_read n M i r.used_so r.below)));
    }

-- the octets of a list, one more at each turn
pub octets_more : (ps : List Pulse) (out os : List ℕ) (i o : ℕ) → i < length ps → length ps ≤ length out → os ≡ map octet_of (take i ps) ++ drop i out → o ≡ octet_of (at ps i)
    → set os i o ≡ map octet_of (take (i + 1) ps) ++ drop (i + 1) out
octets_more ps out os i o l k e h =
    let n : length (map octet_of (take i ps)) ≡ i = length-map (take i ps) octet_of ∙ omega (arith, length-take i ps) in
    ap₂ (λ y z. set y i z) (e ∙ ap (λ z. map octet_of (take i ps) ++ z) (drop_more out i 0 (omega arith))) h
    ∙ set_at (map octet_of (take i ps)) (get_or out i 0) (drop (i + 1) out) (octet_of (at ps i)) i n
    ∙ sym (append_assoc (map octet_of (take i ps)) (octet_of (at ps i) ∷ []) (drop (i + 1) out))
    ∙ ap (λ z. z ++ drop (i + 1) out) (sym (map-append octet_of (take i ps) (at ps i ∷ [])) ∙ ap (map octet_of) (sym (take_more ps i none l)))

pub filled_short : (ps : List Pulse) (out : List ℕ) → length out < length ps → filled_octets out (Ok ps) ≡ out
unfolding filled_octets
filled_short ps out l = cond-false (leb (length ps) (length out)) (map octet_of ps ++ drop (length ps) out) out (lt-leb (length ps) (length out) l)

pub filled_whole : (ps : List Pulse) (out : List ℕ) → length ps ≤ length out → filled_octets out (Ok ps) ≡ map octet_of ps ++ drop (length ps) out
unfolding filled_octets
filled_whole ps out l = cond-true (leb (length ps) (length out)) (map octet_of ps ++ drop (length ps) out) out (le-leb (length ps) (length out) l)

pub filled_not : (e : Refusal) (out : List ℕ) → filled_octets out (Err e) ≡ out
unfolding filled_octets
filled_not e out = refl

-- what a row of six holds after an accepted reading
pub record Front (how : Reading) (n M i k : ℕ) (row : List Pulse) : Type 0 where
  pub read : read_index how n M i ≡ Ok (take k row)
  pub few : length (take k row) ≤ 6
  pub on : On 5 (take k row)

pub front : (how : Reading) (n M i k : ℕ) (row : List Pulse) → handed 6 (read_index how n M i) ≡ Ok k → row ≡ filled (replicate 6 none) (read_index how n M i) → Front how n M i k row
front how n M i k row h e =
    let r = handed_ok 6 k (read_index how n M i) h in
    let ps = r.0 in
    let f = read_fits how n M i ps r.1.0 in
    let whole : row ≡ ps ++ drop (length ps) (replicate 6 none) =
    e ∙ ap (filled (replicate 6 none)) r.1.0
    ∙ cond-true (leb (length ps) 6) (ps ++ drop (length ps) (replicate 6 none)) (replicate 6 none) (le-leb (length ps) 6 f.few) in
    let t : take k row ≡ ps = ap (take k) whole ∙ take_at ps (drop (length ps) (replicate 6 none)) k (sym r.1.1.0) in
    let P : List Pulse → Type 0 = λ z. On 5 z in
    record { read = r.1.0 ∙ ap Ok (sym t); few = omega (arith, ap length t, f.few); on = subst P (sym t) f.on }
