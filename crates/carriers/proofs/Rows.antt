-- Putting a row of bits, bit by bit. Assumes nothing of the cells that are there.
use Rattle.std.proofs.Common.{◌≡◌, ℕ, zero, suc, ◌+◌, ◌-◌, ◌/◌, ◌%◌, ◌^◌, ◌<◌, ◌≤◌, cond, eqb, List, [], ◌∷◌, ◌++◌, length, sym, refl, ap, ◌∙◌, ap₂, append_assoc, arith, pow_mono}
use native.Mathlib.Nat.{div-eq_of_lt}
use lib.Pow.{field, mod-mod-pow}
use Rattle.std.proofs.lemmas.List.{append-nil, length_push}
use Rattle.carriers.specs.declared.bit.Bit.{Bit}
use Rattle.carriers.specs.declared.bit.Bit.TheVariants.{Zero, One}
use Rattle.carriers.specs.Bits.{bit_of}
use Rattle.carriers.specs.Cells.{Cell, bit}
use Rattle.carriers.specs.Fields.{bits_of}

pub bits_length : (w v : ℕ) → length (bits_of w v) ≡ w
bits_length zero v = refl
bits_length (suc w) v = ap suc (bits_length w v)

-- one bit of a number, and the rest
pub bits_step : (n v : ℕ) → 0 < n → bits_of n v ≡ bit (bit_of (v / 2 ^ (n - 1))) ∷ bits_of (n - 1) v
bits_step zero v h = absurd (omega arith)
bits_step (suc n) v h = let e : suc n - 1 ≡ n = omega arith in rw e

-- a put of it
pub bits_put : (cs ds : List Cell) (n v : ℕ) → 0 < n → ds ≡ cs ++ bit (bit_of (v / 2 ^ (n - 1))) ∷ [] → ds ++ bits_of (n - 1) v ≡ cs ++ bits_of n v
bits_put cs ds n v h e = rw (e, bits_step n v h) (append_assoc cs (bit (bit_of (v / 2 ^ (n - 1))) ∷ []) (bits_of (n - 1) v))

-- the same, as a loop needs it: what is left still has room, and gives the whole
pub row_more : (cs ds all : List Cell) (n v room : ℕ) (b : Bit) → 0 < n → b ≡ bit_of (v / 2 ^ (n - 1)) → ds ≡ cs ++ bit b ∷ [] → length cs + n ≤ room → cs ++ bits_of n v ≡ all → (length ds + (n - 1) ≤ room) × (ds ++ bits_of (n - 1) v ≡ all)
row_more cs ds all n v room b h is e fits whole =
    let longer : length ds ≡ length cs + 1 = ap length e ∙ length_push cs (bit b) in
    (omega arith, bits_put cs ds n v h (e ∙ ap (λ (x : Bit). cs ++ bit x ∷ []) is) ∙ whole)

-- at its end
pub row_done : (cs all : List Cell) (n v : ℕ) → n ≤ 0 → cs ++ bits_of n v ≡ all → cs ≡ all
row_done cs all zero v h e = sym (append-nil cs) ∙ e
row_done cs all (suc n) v h e = absurd (omega arith)

-- a number has zeros above its own bits
pub zero_above : (v w p : ℕ) → v < 2 ^ w → w ≤ p → bit_of (v / 2 ^ p) ≡ Zero
zero_above v w p small h = let m = pow_mono {i = w} {j = p} h in let less : v < 2 ^ p = omega arith in let none : v / 2 ^ p ≡ 0 = div-eq_of_lt less in rw none

-- a bit of a number is a bit of its lower part
low_bit : (v q j : ℕ) → bit_of (v % 2 ^ (j + (1 + q)) / 2 ^ q) ≡ bit_of (v / 2 ^ q)
low_bit v q j =
    ap (λ (n : ℕ). cond (eqb n 0) Zero One)
    (sym (field (v % 2 ^ (j + (1 + q))) 1 q) ∙ ap (λ (m : ℕ). m / 2 ^ q) (mod-mod-pow v j (1 + q)) ∙ field v 1 q)

-- the low bits of a number are those of its lower part
pub bits_low : (w k v : ℕ) → w ≤ k → bits_of w (v % 2 ^ k) ≡ bits_of w v
bits_low zero k v h = refl
bits_low (suc w) k v h =
    let e : k ≡ (k - suc w) + (1 + w) = omega arith in
    let here : bit_of (v % 2 ^ k / 2 ^ w) ≡ bit_of (v / 2 ^ w) = ap (λ n. bit_of (v % 2 ^ n / 2 ^ w)) e ∙ low_bit v w (k - suc w) in
    ap₂ (λ b (l : List Cell). bit b ∷ l) here (bits_low w k v (omega arith))
