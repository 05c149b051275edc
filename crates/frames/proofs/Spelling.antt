-- Numbers in bits and back, one slot after another.
use Rattle.std.proofs.Common.{◌≡◌, ℕ, zero, suc, ◌+◌, ◌*◌, ◌/◌, ◌%◌, ◌^◌, ◌<◌, List, [], ◌∷◌, ◌++◌, map, length, take, sym, refl, ap, ◌∙◌, ap₂, pow-suc, div-one, arith, length-append}
use native.Mathlib.Nat.{div-div-eq-div-mul, div-eq_of_lt}
use Rattle.std.specs.List.{AllByRecursion}
use Rattle.std.proofs.lemmas.List.{take_at, drop_at}
use Rattle.modes.specs.declared.plan.Slot.{Slot}
use Rattle.modes.specs.Plan.{total}
use Rattle.frames.specs.Bits.{bits_of, numeral, spell, read_slots}

pub bits_long : (w v : ℕ) → length (bits_of w v) ≡ w
bits_long zero v = refl
bits_long (suc w) v = ap suc (bits_long w v)

half : (v w : ℕ) → v / 2 ^ suc w ≡ v / 2 ^ w / 2
half v w = ap (λ k. v / k) (pow-suc 2 w) ∙ sym (div-div-eq-div-mul v (2 ^ w) 2)

numeral_bits : (w v : ℕ) → numeral (v / 2 ^ w) (bits_of w v) ≡ v
numeral_bits zero v = div-one v
numeral_bits (suc w) v =
    let e : 2 * (v / 2 ^ suc w) + v / 2 ^ w % 2 ≡ v / 2 ^ w = ap (λ k. 2 * k + v / 2 ^ w % 2) (half v w) ∙ omega arith in
    ap (λ a. numeral a (bits_of w v)) e ∙ numeral_bits w v

pub read_one : (w v : ℕ) (rest : List ℕ) → v < 2 ^ w → numeral 0 (take w (bits_of w v ++ rest)) ≡ v
read_one w v rest h =
    ap (numeral 0) (take_at (bits_of w v) rest w (bits_long w v))
    ∙ ap (λ a. numeral a (bits_of w v)) (sym (div-eq_of_lt h))
    ∙ numeral_bits w v

pub read_spelt : (g : Slot → ℕ) (ss : List Slot) → AllByRecursion (λ s. g s < 2 ^ s.width) ss → read_slots ss (spell ss (map g ss)) ≡ map g ss
read_spelt g [] h = refl
read_spelt g (s ∷ ss) h =
    ap₂ (λ v vs. v ∷ vs) (read_one s.width (g s) (spell ss (map g ss)) h.0)
    (ap (read_slots ss) (drop_at (bits_of s.width (g s)) (spell ss (map g ss)) s.width (bits_long s.width (g s))) ∙ read_spelt g ss h.1)

pub spell_long : (g : Slot → ℕ) (ss : List Slot) → length (spell ss (map g ss)) ≡ total ss
spell_long g [] = refl
spell_long g (s ∷ ss) =
    length-append (bits_of s.width (g s)) (spell ss (map g ss)) ∙ ap₂ (λ a b. a + b) (bits_long s.width (g s)) (spell_long g ss)
