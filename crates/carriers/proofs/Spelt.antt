-- A row reads as a number exactly where it spells it. Assumes Rows.
use Rattle.std.proofs.Common.{◌≡◌, ℕ, zero, suc, ◌+◌, ◌*◌, ◌/◌, ◌%◌, ◌^◌, ◌<◌, ◌≤◌, List, [], ◌∷◌, ◌++◌, length, drop, Ok, Err, Result, sym, refl, ap, ◌∙◌, ap₂, add-zero, mod-lt, pow-suc, mul-zero, div-one, add-one, arith, length-append, length-drop, drop-drop, pow_pos}
use native.Mathlib.Nat.{div-div-eq-div-mul, div-eq_of_lt, div-add-mod}
use lib.Seq.{drop-append_seam}
use Rattle.carriers.specs.declared.bit.Bit.{Bit}
use Rattle.refusals.specs.declared.refusal.Refusal.{Refusal}
use Rattle.carriers.specs.Bits.{bit_of, bit_value}
use Rattle.carriers.specs.Cells.{Cell, bit}
use Rattle.carriers.specs.Reading.{answer, cell_at}
use Rattle.carriers.specs.Fields.{bits_of}
use Rattle.carriers.specs.FieldReading.{and_then, read_bits}
use Rattle.carriers.proofs.GoodCells.{good_cell}
use Rattle.carriers.proofs.BitValues.{value_below, bit_value_lem, bit_last}
pub use Rattle.carriers.proofs.Rows.{bits_length}

-- what stands after a part that is known
pub past : {X : Type 0} (cs xs rest : List X) (at : ℕ) → drop at cs ≡ xs ++ rest → drop (at + length xs) cs ≡ rest
past cs xs rest at e = sym (drop-drop (length xs) at cs) ∙ ap (drop (length xs)) e ∙ drop-append_seam xs rest

pub past_bits : (cs rest : List Cell) (at w v : ℕ) → drop at cs ≡ bits_of w v ++ rest → drop (at + w) cs ≡ rest
past_bits cs rest at w v e = rw (bits_length w v) at (past cs (bits_of w v) rest at e)

pub cell_there : (cs rest : List Cell) (at : ℕ) (x : Cell) → drop at cs ≡ x ∷ rest → cell_at cs at ≡ answer x
cell_there [] rest zero x e = let z : 0 ≡ suc (length rest) = ap length e in absurd (omega arith)
cell_there [] rest (suc at) x e = let z : 0 ≡ suc (length rest) = ap length e in absurd (omega arith)
cell_there (c ∷ cs) rest zero x e = ap answer (cc)
cell_there (c ∷ cs) rest (suc at) x e = cell_there cs rest at x e

pub there_cell : (cs : List Cell) (at : ℕ) (b : Bit) → cell_at cs at ≡ Ok b → drop at cs ≡ bit b ∷ drop (suc at) cs
there_cell [] at b e = let z : ◌≡◌ {A = ℕ} 0 1 = cc in absurd (omega arith)
there_cell (x ∷ cs) zero b e = ap (λ (y : Cell). y ∷ cs) (good_cell x b e)
there_cell (x ∷ cs) (suc at) b e = there_cell cs at b e

half : (v w : ℕ) → v / 2 ^ suc w ≡ v / 2 ^ w / 2
half v w = ap (λ k. v / k) (pow-suc 2 w) ∙ sym (div-div-eq-div-mul v (2 ^ w) 2)

below : (v w : ℕ) → v / 2 ^ w ≡ 0 → v < 2 ^ w
below v w e =
    let d : 2 ^ w * (v / 2 ^ w) + v % 2 ^ w ≡ v = div-add-mod v (2 ^ w) in
    let m : v % 2 ^ w < 2 ^ w = mod-lt v (pow_pos w) in
    let z : 2 ^ w * (v / 2 ^ w) ≡ 0 = ap (λ k. 2 ^ w * k) e ∙ mul-zero (2 ^ w) in
    omega arith

-- the cells that spell a number read as it
pub read_spelt : (cs rest : List Cell) (w v at : ℕ) → drop at cs ≡ bits_of w v ++ rest → read_bits cs at w (v / 2 ^ w) ≡ Ok v
read_spelt cs rest zero v at e = ap {B = Result ℕ Refusal} Ok (div-one v)
read_spelt cs rest (suc w) v at e =
    let f = λ (b : Bit). read_bits cs (at + 1) w (2 * (v / 2 ^ suc w) + bit_value b) in
    let next : drop (at + 1) cs ≡ bits_of w v ++ rest = past cs (bit (bit_of (v / 2 ^ w)) ∷ []) (bits_of w v ++ rest) at e in
    let same : 2 * (v / 2 ^ suc w) + bit_value (bit_of (v / 2 ^ w)) ≡ v / 2 ^ w = ap (λ k. 2 * k + bit_value (bit_of (v / 2 ^ w))) (half v w) ∙ bit_value_lem (v / 2 ^ w) in
    ap (λ (r : Result Bit Refusal). and_then r f) (cell_there cs (bits_of w v ++ rest) at (bit (bit_of (v / 2 ^ w))) e)
    ∙ ap (λ k. read_bits cs (at + 1) w k) same
    ∙ read_spelt cs rest w v (at + 1) next

-- a row that reads as a number spells it
abbrev Spells : List Cell → ℕ → ℕ → ℕ → ℕ → Type 0
Spells cs at w acc v = (v / 2 ^ w ≡ acc) × (drop at cs ≡ bits_of w v ++ drop (at + w) cs)

more : (cs : List Cell) (at w acc v : ℕ) (b : Bit) → cell_at cs at ≡ Ok b → Spells cs (at + 1) w (2 * acc + bit_value b) v → Spells cs at (suc w) acc v
more cs at w acc v b e p =
    let u = value_below b in
    let d : v / 2 ^ suc w ≡ acc = half v w ∙ omega (arith, p.0) in
    let last : bit_of (v / 2 ^ w) ≡ b = ap bit_of p.0 ∙ bit_last b acc in
    let on : drop (at + 1 + w) cs ≡ drop (at + suc w) cs = ap (λ k. drop k cs) (let z : at + 1 + w ≡ at + suc w = omega arith in z) in
    let tail : drop (suc at) cs ≡ bits_of w v ++ drop (at + suc w) cs = ap (λ k. drop k cs) (sym (add-one at)) ∙ p.1 ∙ ap (λ l. bits_of w v ++ l) on in
    (d, there_cell cs at b e ∙ ap₂ (λ (y : Bit) (l : List Cell). bit y ∷ l) (sym last) tail)

-- where the cell is a bit, the rest was read
pub by_cell : {A : Type 0} (r : Result Bit Refusal) (f : Bit → Result A Refusal) (v : A) → and_then r f ≡ Ok v → (b : Bit) × (r ≡ Ok b) × (f b ≡ Ok v)
by_cell (Ok b) f v e = (b, refl, e)
by_cell (Err x) f v e = let z : ◌≡◌ {A = ℕ} 0 1 = cc in absurd (omega arith)

pub spelt_read : (cs : List Cell) (at w acc v : ℕ) → read_bits cs at w acc ≡ Ok v → Spells cs at w acc v
spelt_read cs at zero acc v e = (let z : acc ≡ v = cc in div-one v ∙ sym z, ap (λ k. drop k cs) (sym (add-zero at)))
spelt_read cs at (suc w) acc v e =
    let p = by_cell (cell_at cs at) (λ b. read_bits cs (at + 1) w (2 * acc + bit_value b)) v e in
    more cs at w acc v p.0 p.1 (spelt_read cs (at + 1) w (2 * acc + bit_value p.0) v p.2)

-- for the fields of a message: what is read fits, and stands within
pub field_spelt : (cs : List Cell) (at w v : ℕ) → read_bits cs at w 0 ≡ Ok v → (v < 2 ^ w) × (drop at cs ≡ bits_of w v ++ drop (at + w) cs)
field_spelt cs at w v e = let p = spelt_read cs at w 0 v e in (below v w p.0, p.1)

pub field_within : (cs : List Cell) (at w v : ℕ) → at ≤ length cs → read_bits cs at w 0 ≡ Ok v → at + w ≤ length cs
field_within cs at w v h e =
    let p = ap length (spelt_read cs at w 0 v e).1 in
    let l = length-append (bits_of w v) (drop (at + w) cs) in
    let b = bits_length w v in
    let m = length-drop at cs in
    let n = length-drop (at + w) cs in
    omega arith

pub field_read : (cs rest : List Cell) (w v at : ℕ) → v < 2 ^ w → drop at cs ≡ bits_of w v ++ rest → read_bits cs at w 0 ≡ Ok v
field_read cs rest w v at h e = ap (λ k. read_bits cs at w k) (sym (div-eq_of_lt h)) ∙ read_spelt cs rest w v at e
