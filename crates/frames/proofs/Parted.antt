-- The rows of a lawful record, and what one more row leaves of it.
use Rattle.std.proofs.Common.{◌≡◌, ℕ, ◌+◌, ◌*◌, ◌%◌, ◌^◌, ◌<◌, ◌≤◌, List, [], length, get_or, take, set, sym, ap, subst, ⊎_elim, arith, get_or-set_other, get_or-set_same}
use Rattle.std.proofs.lemmas.Bool.{cases_eq, cases_lt}
use Rattle.pulses.specs.declared.pulse.Pulse.{Pulse}
use Rattle.pulses.specs.Sets.{none, at, apart}
use Rattle.modes.specs.declared.mode.Mode.{Mode}
use Rattle.frames.specs.declared.frame.Frame.{Frame}
use Rattle.modes.specs.Modes.{row, pulses_in}
use Rattle.frames.specs.Lawful.{OnTrack, Rising, Padded, Long}
use Rattle.frames.specs.Frames.{count_of, row_of, track_width}
use Rattle.modes.proofs.Modes.{pulses_in_here, pulses_in_has, pulses_in_few}
use Rattle.frames.proofs.Taken.{LawfulRow, Front, row_front}

row_cases : (P : ℕ → List Pulse → Type 0) (rows : List (List Pulse)) (i j : ℕ) (xs : List Pulse) → i < length rows
    → P i xs → P j (get_or rows j []) → P j (get_or (set rows i xs) j [])
row_cases P rows i j xs l new old =
    ⊎_elim
    (λ e. let Q : ℕ → Type 0 = λ j. P j (get_or (set rows i xs) j []) in subst Q (sym e) (rw (get_or-set_same rows i xs [] l) new))
    (λ ne. rw (get_or-set_other rows i j xs [] ne) old)
    (cases_eq j i)

index_back : (m : Mode) (s t : ℕ) → s < 4 → t < 4 → get_or (row m).pulses ((4 * s + t) % 4) 0 ≡ pulses_in m s t
index_back m s t a b = let e : (4 * s + t) % 4 ≡ t = omega arith in rw e (sym (pulses_in_here m s t a))

pub on_set : (m : Mode) (s t : ℕ) (rows : List (List Pulse)) (xs : List Pulse) → 4 * s + t < length rows
    → LawfulRow (pulses_in m s t) (row m).places xs → OnTrack m rows → OnTrack m (set rows (4 * s + t) xs)
on_set m s t rows xs l h old i k = row_cases (λ i r. (at r k).place < 2 ^ (row m).places) rows (4 * s + t) i xs l (h.on k) (old i k)

pub rising_set : (m : Mode) (s t : ℕ) (rows : List (List Pulse)) (xs : List Pulse) → 4 * s + t < length rows → s < 4 → t < 4
    → LawfulRow (pulses_in m s t) (row m).places xs → Rising m rows → Rising m (set rows (4 * s + t) xs)
rising_set m s t rows xs l a b h old i k =
    row_cases (λ i r. k + 1 < get_or (row m).pulses (i % 4) 0 → (at r k).place + apart (at r k) (at r (k + 1)) ≤ (at r (k + 1)).place) rows (4 * s + t) i xs l
    (λ lt. h.rising k (rw (index_back m s t a b) at lt)) (old i k)

pub padded_set : (m : Mode) (s t : ℕ) (rows : List (List Pulse)) (xs : List Pulse) → 4 * s + t < length rows → s < 4 → t < 4
    → LawfulRow (pulses_in m s t) (row m).places xs → Padded m rows → Padded m (set rows (4 * s + t) xs)
padded_set m s t rows xs l a b h old i k =
    row_cases (λ i r. get_or (row m).pulses (i % 4) 0 ≤ k → at r k ≡ none) rows (4 * s + t) i xs l
    (λ le. h.padded k (rw (index_back m s t a b) at le)) (old i k)

pub long_set : (m : Mode) (s t : ℕ) (rows : List (List Pulse)) (xs : List Pulse) → 4 * s + t < length rows
    → LawfulRow (pulses_in m s t) (row m).places xs → Long rows → Long (set rows (4 * s + t) xs)
long_set m s t rows xs l h old i = row_cases (λ i r. i < 16 → length r ≡ 6) rows (4 * s + t) i xs l (λ _. h.long) (old i)

-- the other tracks are as they were
pub other_rows : (m : Mode) (s t s' t' : ℕ) (rows : List (List Pulse)) (xs : List Pulse) → s < 4 → t < 4 → (s' ≡ s → t' ≡ t → ⊥)
    → take (pulses_in m s' t') (get_or (set rows (4 * s + t) xs) (4 * s' + t') []) ≡ take (pulses_in m s' t') (get_or rows (4 * s' + t') [])
other_rows m s t s' t' rows xs a b ne =
    ⊎_elim
    (λ h. let hs = pulses_in_has m s' t' h in
    ap (take (pulses_in m s' t')) (get_or-set_other rows (4 * s + t) (4 * s' + t') xs [] (λ e. ne (omega arith) (omega arith))))
    (λ z. let e : pulses_in m s' t' ≡ 0 = omega arith in rw e)
    (cases_lt 0 (pulses_in m s' t'))

-- a record's rows are lawful
pub frame_row : (f : Frame) (s t : ℕ) → s < 4 → t < 4 → LawfulRow (count_of f s t) (track_width f) (row_of f s t)
frame_row f s t a b =
    let e = index_back f.mode s t a b in
    record {
      few = pulses_in_few f.mode s t;
      long = f.long (4 * s + t) (omega arith);
      on = λ k. f.on (4 * s + t) k;
      rising = λ k h. f.rising (4 * s + t) k (rw e h);
      padded = λ k h. f.padded (4 * s + t) k (rw e h);
    }

pub frame_front : (f : Frame) (s t : ℕ) → s < 4 → t < 4 → Front (count_of f s t) (track_width f) (row_of f s t)
frame_front f s t a b = row_front (count_of f s t) (track_width f) (row_of f s t) (frame_row f s t a b)
