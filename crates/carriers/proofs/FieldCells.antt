-- Reading a row of cells, cell by cell. Assumes Tables, Spelt.
use Rattle.std.proofs.Common.{◌≡◌, ℕ, zero, suc, ◌+◌, ◌*◌, ◌%◌, ◌<◌, ◌≤◌, List, [], ◌∷◌, ◌++◌, length, Ok, Err, Result, sym, refl, ap, ◌∙◌, inl, inr, add-zero, mod-eq_of_lt, arith, pow_mono}
use Rattle.std.proofs.lemmas.Bool.{cases_lt}
use Rattle.refusals.specs.declared.refusal.Refusal.{Refusal}
use Rattle.carriers.specs.declared.bit.Bit.{Bit}
use Rattle.carriers.specs.Bits.{bit_value}
use Rattle.carriers.specs.Cells.{Cell}
use Rattle.carriers.specs.Reading.{cell_at}
use Rattle.carriers.specs.FieldReading.{and_then, read_bits, low32}
use Rattle.carriers.specs.ReadingLaws.{Faulty, CellAnswers, FieldAnswers, FieldRefusals}
use Rattle.carriers.proofs.Tables.{cell_at_in, cell_at_past}
use Rattle.carriers.proofs.Spelt.{by_cell, field_spelt, field_read}

-- a cell that is read stands within
pub cell_within : (cs : List Cell) (at : ℕ) (b : Bit) → Ok b ≡ cell_at cs at → at < length cs
cell_within cs at b e =
    elim (cases_lt at (length cs)) [
      | inl h ↦ h
      | inr h ↦ let p = cell_at_past cs at h in let z : ◌≡◌ {A = ℕ} 0 1 = cc in omega arith
    ]

-- what is read is still read once more cells follow
cell_longer : (cs xs : List Cell) (at : ℕ) (b : Bit) → cell_at cs at ≡ Ok b → cell_at (cs ++ xs) at ≡ Ok b
cell_longer [] xs at b e = let z : ◌≡◌ {A = ℕ} 0 1 = cc in absurd (omega arith)
cell_longer (x ∷ cs) xs zero b e = e
cell_longer (x ∷ cs) xs (suc at) b e = cell_longer cs xs at b e

pub read_longer : (cs xs : List Cell) (at w a v : ℕ) → read_bits cs at w a ≡ Ok v → read_bits (cs ++ xs) at w a ≡ Ok v
read_longer cs xs at zero a v e = e
read_longer cs xs at (suc w) a v e =
    let p = by_cell (cell_at cs at) (λ b. read_bits cs (at + 1) w (2 * a + bit_value b)) v e in
    ap (λ (r : Result Bit Refusal). and_then r (λ b. read_bits (cs ++ xs) (at + 1) w (2 * a + bit_value b))) (cell_longer cs xs at p.0 p.1)
    ∙ read_longer cs xs (at + 1) w (2 * a + bit_value p.0) v p.2

-- the low bits of what is read come from the low bits of what was read before
low_then : (r : Result Bit Refusal) (f g : Bit → Result ℕ Refusal) → ((b : Bit) → low32 (f b) ≡ low32 (g b)) → low32 (and_then r f) ≡ low32 (and_then r g)
low_then (Ok b) f g e = e b
low_then (Err x) f g e = refl

pub low_same : (cs : List Cell) (at w a c : ℕ) → a % 4294967296 ≡ c % 4294967296 → low32 (read_bits cs at w a) ≡ low32 (read_bits cs at w c)
low_same cs at zero a c e = ap {B = Result ℕ Refusal} Ok e
low_same cs at (suc w) a c e = low_then (cell_at cs at) _ _ (λ b. low_same cs (at + 1) w (2 * a + bit_value b) (2 * c + bit_value b) (omega arith))

-- the step of a loop that keeps the low 32 bits
pub low_more : (cs : List Cell) (at next n m v : ℕ) (b : Bit) → next ≡ at + 1 → n ≡ suc m → Ok b ≡ cell_at cs at → low32 (read_bits cs next m ((v * 2) % 4294967296 + bit_value b)) ≡ low32 (read_bits cs at n v)
low_more cs at next n m v b ahead left e =
    rw (ahead, left)
    (low_same cs (at + 1) m ((v * 2) % 4294967296 + bit_value b) (2 * v + bit_value b) (omega arith)
    ∙ ap low32 (ap (λ (r : Result Bit Refusal). and_then r (λ d. read_bits cs (at + 1) m (2 * v + bit_value d))) e))

-- a field of at most 32 cells is answered whole
whole_answer : (r : Result ℕ Refusal) → ((v : ℕ) → r ≡ Ok v → v < 4294967296) → low32 r ≡ r
whole_answer (Ok v) h = ap Ok (mod-eq_of_lt (h v refl))
whole_answer (Err e) h = refl

pub whole : (cs : List Cell) (at w : ℕ) → w ≤ 32 → low32 (read_bits cs at w 0) ≡ read_bits cs at w 0
whole cs at w h = whole_answer (read_bits cs at w 0) (λ v e. let p = field_spelt cs at w v e in let m = pow_mono {i = w} {j = 32} h in omega arith)

-- the first fault decides

fault_step : (cs : List Cell) (at w a : ℕ) (e : Refusal) (r : Result Bit Refusal) → cell_at cs at ≡ r → ((c : ℕ) → read_bits cs (at + 1) w c ≡ Err e → (k : ℕ) × (k < w) × Faulty cs (at + 1) k e) → and_then r (λ b. read_bits cs (at + 1) w (2 * a + bit_value b)) ≡ Err e → (k : ℕ) × (k < suc w) × Faulty cs at k e
fault_step cs at w a e (Err x) is next said = let z : x ≡ e = cc in (0, omega arith, (ap (cell_at cs) (add-zero at) ∙ is ∙ ap Err z, λ j l. absurd (omega arith)))
fault_step cs at w a e (Ok b) is next said =
    let p = next (2 * a + bit_value b) said in
    let place : (j : ℕ) → at + suc j ≡ at + 1 + j = λ j. omega arith in
    (suc p.0, omega (arith, p.1), (ap (cell_at cs) (place p.0) ∙ p.2.0, earlier p.0 p.2.1))
  where
    earlier : (k : ℕ) → ((j : ℕ) → j < k → (d : Bit) × (cell_at cs (at + 1 + j) ≡ Ok d)) → (j : ℕ) → j < suc k → (d : Bit) × (cell_at cs (at + j) ≡ Ok d)
    earlier k h zero l = (b, ap (cell_at cs) (add-zero at) ∙ is)
    earlier k h (suc j) l = let q = h j (omega arith) in (q.0, ap (cell_at cs) (let z : at + suc j ≡ at + 1 + j = omega arith in z) ∙ q.1)

pub fault_found : (cs : List Cell) (at w a : ℕ) (e : Refusal) → read_bits cs at w a ≡ Err e → (k : ℕ) × (k < w) × Faulty cs at k e
fault_found cs at zero a e said = let z : ◌≡◌ {A = ℕ} 0 1 = cc in absurd (omega arith)
fault_found cs at (suc w) a e said = fault_step cs at w a e (cell_at cs at) refl (λ c. fault_found cs (at + 1) w c e) said

pub fault_tells : (cs : List Cell) (at w a k : ℕ) (e : Refusal) → k < w → Faulty cs at k e → read_bits cs at w a ≡ Err e
fault_tells cs at zero a k e l f = absurd (omega arith)
fault_tells cs at (suc w) a zero e l f = ap (λ (r : Result Bit Refusal). and_then r (λ b. read_bits cs (at + 1) w (2 * a + bit_value b))) (ap (cell_at cs) (sym (add-zero at)) ∙ f.0)
fault_tells cs at (suc w) a (suc k) e l f =
    let place : (j : ℕ) → at + 1 + j ≡ at + suc j = λ j. omega arith in
    let first = f.1 0 (omega arith) in
    ap (λ (r : Result Bit Refusal). and_then r (λ b. read_bits cs (at + 1) w (2 * a + bit_value b))) (ap (cell_at cs) (sym (add-zero at)) ∙ first.1)
    ∙ fault_tells cs (at + 1) w (2 * a + bit_value first.0) k e (omega arith) (ap (cell_at cs) (place k) ∙ f.0, λ j m. let q = f.1 (suc j) (omega arith) in (q.0, ap (cell_at cs) (place j) ∙ q.1))

pub cell_answers : CellAnswers
cell_answers cs at d = (cell_at_past cs at, cell_at_in cs at d)

pub field_answers : FieldAnswers
field_answers cs at w v = (field_spelt cs at w v, λ s. field_read cs _ w v at s.0 s.1)

pub field_refusals : FieldRefusals
field_refusals cs at w e = (fault_found cs at w 0 e, λ k l f. fault_tells cs at w 0 k e l f)
