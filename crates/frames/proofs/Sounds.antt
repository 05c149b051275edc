-- The steps of the loop that sums an amplitude, and what a sample is.
use Rattle.std.proofs.Common.{◌≡◌, ℕ, ◌+◌, ◌/◌, ◌%◌, ◌<◌, ◌≤◌, Bool, true, false, cond, eqb, List, [], ◌∷◌, ◌++◌, length, take, ℤ, pos, ◌+ℤ◌, ◌-ℤ◌, refl, ⊎_elim, arith, w8, SFits, to_z, of_z}
use Rattle.std.proofs.lemmas.List.{take_more}
use Rattle.std.proofs.lemmas.Int.{ints}
use Rattle.std.proofs.lemmas.Bool.Decides.{nat_tests}
use Rattle.std.proofs.lemmas.Bool.{cases_eq}
use Rattle.pulses.specs.declared.pulse.Pulse.{Pulse}
use Rattle.pulses.specs.declared.pulse.Sign.{Sign}
use Rattle.pulses.specs.declared.pulse.Sign.TheVariants.{Plus, Minus}
use Rattle.pulses.specs.Pulses.{alike, hit, tally}
use Rattle.pulses.specs.Sets.{none, at}
use Rattle.frames.specs.declared.frame.Frame.{Frame}
use Rattle.modes.specs.Modes.{row}
use Rattle.frames.specs.Frames.{pulses}
use Rattle.frames.specs.Sound.{signed, amplitude_at, sample_of, sample}

tally_push : (ps : List Pulse) (p : Pulse) (x : ℕ) (s : Sign) → tally (ps ++ p ∷ []) x s ≡ tally ps x s + hit p x s
tally_push [] p x s = omega arith
tally_push (q ∷ qs) p x s = omega (arith, tally_push qs p x s)

pub tally_more : (ps : List Pulse) (i x : ℕ) (s : Sign) → i < length ps → tally (take (i + 1) ps) x s ≡ tally (take i ps) x s + hit (at ps i) x s
tally_more ps i x s l = rw (take_more ps i none l) (tally_push (take i ps) (at ps i) x s)

abbrev one_if : Bool → ℕ
one_if b = cond b 1 0

hits : (p : Pulse) (x : ℕ) → p.place ≡ x → (hit p x Plus ≡ one_if (alike p.sign Plus)) × (hit p x Minus ≡ one_if (alike p.sign Minus))
unfolding hit
hits p x e = let t : eqb p.place x ≡ true = grind (arith, nat_tests) in rw t (refl, refl)

misses : (p : Pulse) (x : ℕ) → (p.place ≡ x → ⊥) → (hit p x Plus ≡ 0) × (hit p x Minus ≡ 0)
unfolding hit
misses p x e = let t : eqb p.place x ≡ false = grind (arith, nat_tests) in rw t (refl, refl)

sign_by : (m : Sign) (a b : ℕ) → pos (a + one_if (alike m Plus)) -ℤ pos (b + one_if (alike m Minus)) ≡ (pos a -ℤ pos b) +ℤ signed m
sign_by Minus a b = omega (arith, ints)
sign_by Plus a b = omega (arith, ints)

pub amplitude_hit : (ps : List Pulse) (i x : ℕ) → i < length ps → (at ps i).place ≡ x
    → amplitude_at (take (i + 1) ps) x ≡ amplitude_at (take i ps) x +ℤ signed (at ps i).sign
unfolding amplitude_at
amplitude_hit ps i x l e =
    let h = hits (at ps i) x e in
    rw (tally_more ps i x Plus l, tally_more ps i x Minus l, h.0, h.1) (sign_by (at ps i).sign _ _)

pub amplitude_miss : (ps : List Pulse) (i x : ℕ) → i < length ps → ((at ps i).place ≡ x → ⊥) → amplitude_at (take (i + 1) ps) x ≡ amplitude_at (take i ps) x
unfolding amplitude_at
amplitude_miss ps i x l e =
    let h = misses (at ps i) x e in
    rw (tally_more ps i x Plus l, tally_more ps i x Minus l, h.0, h.1) (omega (arith, ints))

one_sign : (m : Sign) → one_if (alike m Plus) + one_if (alike m Minus) ≡ 1
one_sign Minus = refl
one_sign Plus = refl

pub few_more : (ps : List Pulse) (i x : ℕ) → i < length ps → tally (take i ps) x Plus + tally (take i ps) x Minus ≤ i
    → tally (take (i + 1) ps) x Plus + tally (take (i + 1) ps) x Minus ≤ i + 1
few_more ps i x l h =
    ⊎_elim
    (λ e. let g = hits (at ps i) x e in omega (arith, tally_more ps i x Plus l, tally_more ps i x Minus l, one_sign (at ps i).sign))
    (λ e. let g = misses (at ps i) x e in omega (arith, tally_more ps i x Plus l, tally_more ps i x Minus l))
    (cases_eq (at ps i).place x)

pub sum_fits : (m : Sign) (sum z : ℤ) (a b n : ℕ) → sum ≡ pos a -ℤ pos b → a + b ≤ n → n ≤ 6 → z ≡ signed m
    → SFits w8 (sum +ℤ to_z w8 (of_z w8 z))
sum_fits Minus sum z a b n e h k f = omega (arith, ints)
sum_fits Plus sum z a b n e h k f = omega (arith, ints)

pub sum_is : (m : Sign) (sum z : ℤ) (a b n : ℕ) → sum ≡ pos a -ℤ pos b → a + b ≤ n → n ≤ 6 → z ≡ signed m
    → to_z w8 (of_z w8 (sum +ℤ to_z w8 (of_z w8 z))) ≡ (pos a -ℤ pos b) +ℤ signed m
sum_is Minus sum z a b n e h k f = omega (arith, ints)
sum_is Plus sum z a b n e h k f = omega (arith, ints)

pub sample_read : (f : Frame) (k m p : ℕ) (ps : List Pulse) → m ≡ (row f.mode).tracks → ps ≡ pulses f (k / 64) (k % 64 % m) → p ≡ k % 64 / m → amplitude_at ps p ≡ sample f k
unfolding sample_of
sample_read f k m p ps em e ep = rw (e, ep, em)
