use Rattle.std.proofs.Common.{◌≡◌, ℕ, ◌+◌, ◌*◌, ◌%◌, ◌^◌, ◌<◌, refl, arith, rules}
use Rattle.std.proofs.lemmas.Nat.{shl_whole, pow_below}
use Rattle.pulses.proofs.Cuts.{cut_below}
use Rattle.pulses.proofs.bits.Bits.above.Goals as goal

module _ (a i b k : ℕ) (h : a < 2 ^ i) (l : b < 2 ^ k) (r : i + k < 32) where
  whole : (a * 2 ^ k) % 2 ^ 32 ≡ a * 2 ^ k
  whole = shl_whole a i k 32 h (omega arith)

  small : (a * 2 ^ k) % 2 ^ 32 + b < 2 ^ (i + k)
  small = rw whole (cut_below i k (i + k) a b refl h l)

  fits : (a * 2 ^ k) % 2 ^ 32 + b < 2 ^ 32
  fits = omega (arith, small, pow_below (i + k) 32 r)

pub overflow_add-result : goal.overflow_add-result
overflow_add-result c = search (rules, fits)

pub invariant_of-result : goal.invariant_of-result
invariant_of-result c = search (rules, small)

pub returns : goal.returns
returns c = search (rules, whole)
