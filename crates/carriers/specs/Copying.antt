-- The cells of a carrier as octets in a buffer. Assumes Reading, Octets.
--   all_bits cs                accepted where every cell is a bit; else refused as the first that is not
--   octet_count cs             the octets that the cells take, the last perhaps in part
--   padded cs                  the cells, and zeros after them up to a whole octet
--   CopyRefused cs n e         with a buffer of n octets, e is what copying is refused with: a cell that is no bit comes before a buffer that is too short
--   Copied cs before r after   copying cs into a buffer that held before answers r and leaves after in it
--   CheckAnswers               every cell is a bit exactly where the cells are those of a list of bits; the first that is not decides
use Rattle.std.specs.Prelude.{◌≡◌, ℕ, ◌+◌, ◌-◌, ◌*◌, ◌/◌, ◌<◌, ◌≤◌, ◌⊎◌, List, [], ◌∷◌, ◌++◌, map, length, drop, replicate, Ok, Err, Result}
use Rattle.refusals.specs.declared.cause.Cause.TheVariants.{BufferTooShort}
use Rattle.refusals.specs.declared.refusal.Refusal.{Refusal}
use Rattle.refusals.specs.Spots.{because}
use Rattle.carriers.specs.declared.bit.Bit.{Bit}
use Rattle.carriers.specs.declared.bit.Bit.TheVariants.{Zero}
use Rattle.carriers.specs.Cells.{Cell, bit, table}
use Rattle.carriers.specs.Reading.{answer}
use Rattle.carriers.specs.FieldReading.{and_then}
use Rattle.carriers.specs.ReadingLaws.{Faulty}
use Rattle.carriers.specs.Octets.{octet_at}

abbrev pub all_bits : List Cell → Result Unit Refusal
all_bits [] = Ok tt
all_bits (x ∷ xs) = and_then (answer x) (λ _. all_bits xs)

abbrev pub octet_count : List Cell → ℕ
octet_count cs = (length cs + 7) / 8

unfoldable pub padded : List Cell → List Cell
padded cs = cs ++ replicate (8 * octet_count cs - length cs) (bit Zero)

abbrev pub CopyRefused : List Cell → ℕ → Refusal → Type 0
CopyRefused cs n e = (all_bits cs ≡ Err e) ⊎ ((all_bits cs ≡ Ok tt) × (n < octet_count cs) × (e ≡ because BufferTooShort))

abbrev pub Copied : List Cell → List ℕ → Result ℕ Refusal → List ℕ → Type 0
Copied cs before (Ok n) after = (all_bits cs ≡ Ok tt) × (n ≡ octet_count cs) × (n ≤ length before) × (table (octet_at after) (8 * n) ≡ padded cs) × (drop n after ≡ drop n before)
Copied cs before (Err e) after = CopyRefused cs (length before) e × (after ≡ before)

pub record CheckAnswers : Type 0 where
  pub bits : (cs : List Cell) → all_bits cs ≡ Ok tt → (bs : List Bit) × (cs ≡ map bit bs)
  pub accepted : (bs : List Bit) → all_bits (map bit bs) ≡ Ok tt
  pub fault : (cs : List Cell) (e : Refusal) → all_bits cs ≡ Err e → (k : ℕ) × (k < length cs) × Faulty cs 0 k e
  pub refused : (cs : List Cell) (k : ℕ) (e : Refusal) → k < length cs → Faulty cs 0 k e → all_bits cs ≡ Err e
