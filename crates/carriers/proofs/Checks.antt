-- Whether every cell is a bit, cell by cell. Assumes Tables, Spelt, FieldCells.
use Rattle.std.proofs.Common.{◌≡◌, ℕ, zero, suc, ◌+◌, ◌<◌, ◌≤◌, List, [], ◌∷◌, map, length, drop, Ok, Err, Result, sym, refl, ap, ◌∙◌, zero-add, add-one, arith, drop_of_length-le}
use Rattle.refusals.specs.declared.refusal.Refusal.{Refusal}
use Rattle.carriers.specs.declared.bit.Bit.{Bit}
use Rattle.carriers.specs.Cells.{Cell, bit}
use Rattle.carriers.specs.Reading.{answer, cell_at}
use Rattle.carriers.specs.FieldReading.{and_then, read_bits}
use Rattle.carriers.specs.ReadingLaws.{Faulty}
use Rattle.carriers.specs.Copying.{all_bits, CheckAnswers}
use Rattle.carriers.proofs.GoodCells.{good_cell}
use Rattle.carriers.proofs.Spelt.{by_cell, there_cell}
use Rattle.carriers.proofs.FieldCells.{fault_found}

-- the steps of a loop over all cells
pub check_more : (cs : List Cell) (at : ℕ) (b : Bit) → Ok b ≡ cell_at cs at → all_bits (drop at cs) ≡ all_bits (drop (at + 1) cs)
check_more cs at b e = ap all_bits (there_cell cs at b (sym e)) ∙ ap (λ n. all_bits (drop n cs)) (sym (add-one at))

pub check_stop : (cs : List Cell) (at : ℕ) (e : Refusal) → at < length cs → Err e ≡ cell_at cs at → all_bits (drop at cs) ≡ Err e
check_stop [] at e h is = absurd (omega arith)
check_stop (x ∷ cs) zero e h is = ap (λ (r : Result Bit Refusal). and_then r (λ _. all_bits cs)) (sym is)
check_stop (x ∷ cs) (suc at) e h is = check_stop cs at e (omega arith) is

pub check_all : (cs : List Cell) (at : ℕ) → length cs ≤ at → all_bits (drop at cs) ≡ Ok tt
check_all cs at h = ap all_bits (drop_of_length-le cs h)

-- where every cell is a bit, each is read
pub check_cell : (cs : List Cell) (i : ℕ) → all_bits cs ≡ Ok tt → i < length cs → (b : Bit) × (cell_at cs i ≡ Ok b)
check_cell [] i ok h = absurd (omega arith)
check_cell (x ∷ cs) zero ok h = let p = by_cell (answer x) (λ _. all_bits cs) tt ok in (p.0, p.1)
check_cell (x ∷ cs) (suc i) ok h = let p = by_cell (answer x) (λ _. all_bits cs) tt ok in check_cell cs i p.2 (omega arith)

-- so no field within is refused
pub check_field : (cs : List Cell) (at w : ℕ) (e : Refusal) → all_bits cs ≡ Ok tt → at + w ≤ length cs → Err e ≡ read_bits cs at w 0 → ⊥
check_field cs at w e ok h is =
    let f = fault_found cs at w 0 e (sym is) in
    let bad : cell_at cs (at + f.0) ≡ Err e = f.2.0 in
    let good = check_cell cs (at + f.0) ok (omega (arith, f.1)) in
    let same : cell_at cs (at + f.0) ≡ Ok good.0 = good.1 in
    let z : ◌≡◌ {A = ℕ} 0 1 = cc in
    omega arith

-- what the check answers, by the cells
all_bits_lem : (cs : List Cell) → all_bits cs ≡ Ok tt → (bs : List Bit) × (cs ≡ map bit bs)
all_bits_lem [] ok = ([], refl)
all_bits_lem (x ∷ cs) ok =
    let p = by_cell (answer x) (λ _. all_bits cs) tt ok in
    let q = all_bits_lem cs p.2 in
    (p.0 ∷ q.0, ap (λ (y : Cell). y ∷ cs) (good_cell x p.0 p.1) ∙ ap (λ (l : List Cell). bit p.0 ∷ l) q.1)

bits_accepted : (bs : List Bit) → all_bits (map bit bs) ≡ Ok tt
bits_accepted [] = refl
bits_accepted (b ∷ bs) = bits_accepted bs

first_step : (x : Cell) (cs : List Cell) (e : Refusal) (r : Result Bit Refusal) → answer x ≡ r → (all_bits cs ≡ Err e → (k : ℕ) × (k < length cs) × Faulty cs 0 k e) → and_then r (λ _. all_bits cs) ≡ Err e → (k : ℕ) × (k < suc (length cs)) × Faulty (x ∷ cs) 0 k e
first_step x cs e (Err d) is next said = let z : d ≡ e = cc in (0, omega arith, (is ∙ ap Err z, λ j l. absurd (omega arith)))
first_step x cs e (Ok b) is next said =
    let p = next said in
    (suc p.0, omega (arith, p.1), (ap (cell_at (x ∷ cs)) (zero-add (suc p.0)) ∙ ap (cell_at cs) (sym (zero-add p.0)) ∙ p.2.0, earlier p.0 p.2.1))
  where
    earlier : (k : ℕ) → ((j : ℕ) → j < k → (d : Bit) × (cell_at cs (0 + j) ≡ Ok d)) → (j : ℕ) → j < suc k → (d : Bit) × (cell_at (x ∷ cs) (0 + j) ≡ Ok d)
    earlier k h zero l = (b, is)
    earlier k h (suc j) l = let q = h j (omega arith) in (q.0, ap (cell_at (x ∷ cs)) (zero-add (suc j)) ∙ ap (cell_at cs) (sym (zero-add j)) ∙ q.1)

first_fault : (cs : List Cell) (e : Refusal) → all_bits cs ≡ Err e → (k : ℕ) × (k < length cs) × Faulty cs 0 k e
first_fault [] e said = let z : ◌≡◌ {A = ℕ} 0 1 = cc in absurd (omega arith)
first_fault (x ∷ cs) e said = first_step x cs e (answer x) refl (first_fault cs e) said

fault_first : (cs : List Cell) (k : ℕ) (e : Refusal) → k < length cs → Faulty cs 0 k e → all_bits cs ≡ Err e
fault_first [] k e l f = absurd (omega arith)
fault_first (x ∷ cs) zero e l f = ap (λ (r : Result Bit Refusal). and_then r (λ _. all_bits cs)) f.0
fault_first (x ∷ cs) (suc k) e l f =
    let first = f.1 0 (omega arith) in
    let on : (j : ℕ) → cell_at cs (0 + j) ≡ cell_at (x ∷ cs) (0 + suc j) = λ j. ap (cell_at cs) (zero-add j) ∙ sym (ap (cell_at (x ∷ cs)) (zero-add (suc j))) in
    ap (λ (r : Result Bit Refusal). and_then r (λ _. all_bits cs)) first.1
    ∙ fault_first cs k e (omega arith) (on k ∙ f.0, λ j m. let q = f.1 (suc j) (omega arith) in (q.0, on j ∙ q.1))

pub check_answers : CheckAnswers
check_answers = record { bits = all_bits_lem; accepted = bits_accepted; fault = first_fault; refused = fault_first }
