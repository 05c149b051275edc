-- Cells by a function of their place. Assumes nothing.
use Rattle.std.proofs.Common.{◌≡◌, ℕ, zero, suc, ◌+◌, ◌<◌, ◌≤◌, List, [], ◌∷◌, ◌++◌, length, get_or, take, Err, sym, refl, ap, ◌∙◌, append_assoc, append-nil, add-zero, arith}
use Rattle.std.proofs.lemmas.List.FromFn.{get_or-map-range_with_len, take-map-range_with_len, map-range_with_len_more}
use Rattle.std.proofs.lemmas.List.{same_lists}
use Rattle.refusals.specs.declared.cause.Cause.TheVariants.{CellMissing}
use Rattle.refusals.specs.Spots.{because}
use Rattle.carriers.specs.Cells.{Cell, table}
use Rattle.carriers.specs.Reading.{answer, cell_at}
pub use Rattle.carriers.specs.Cells.{table_length}

pub table_none : (f : ℕ → Cell) → table f 0 ≡ []
unfolding table
table_none f = refl

pub table_fresh : (f : ℕ → Cell) (n : ℕ) → n ≡ 0 → table f n ≡ []
table_fresh f n e = ap (table f) e ∙ table_none f

-- within the list, and past it
pub cell_at_in : (cs : List Cell) (i : ℕ) (d : Cell) → i < length cs → cell_at cs i ≡ answer (get_or cs i d)
cell_at_in [] i d h = absurd (omega arith)
cell_at_in (x ∷ xs) zero d h = refl
cell_at_in (x ∷ xs) (suc i) d h = cell_at_in xs i d (omega arith)

pub cell_at_past : (cs : List Cell) (i : ℕ) → length cs ≤ i → cell_at cs i ≡ Err (because CellMissing)
cell_at_past [] i h = refl
cell_at_past (x ∷ xs) zero h = absurd (omega arith)
cell_at_past (x ∷ xs) (suc i) h = cell_at_past xs i (omega arith)

pub table_in : (f : ℕ → Cell) (n i : ℕ) → i < n → cell_at (table f n) i ≡ answer (f i)
unfolding table
table_in f n i h = cell_at_in (table f n) i (f 0) (rw table_length h) ∙ ap answer (get_or-map-range_with_len f 0 n i i (f 0) h (omega arith))

pub table_past : (f : ℕ → Cell) (n i : ℕ) → n ≤ i → cell_at (table f n) i ≡ Err (because CellMissing)
table_past f n i h = cell_at_past (table f n) i (rw table_length h)

pub table_same : (f g : ℕ → Cell) (n : ℕ) → ((i : ℕ) → i < n → f i ≡ g i) → table f n ≡ table g n
unfolding table
table_same f g n e = same_lists (table f n) (table g n) (table_length f n ∙ sym (table_length g n)) (λ k d h. let l : k < n = rw table_length at h in get_or-map-range_with_len f 0 n k k d l (omega arith) ∙ e k l ∙ sym (get_or-map-range_with_len g 0 n k k d l (omega arith)))

-- one cell more, and the others kept
pub table_put : (f g : ℕ → Cell) (n : ℕ) (x : Cell) → ((i : ℕ) → i < n → g i ≡ f i) → g n ≡ x → table g (n + 1) ≡ table f n ++ x ∷ []
unfolding table
table_put f g n x e p = map-range_with_len_more g 0 n n (omega arith) ∙ ap (λ (l : List Cell). l ++ g n ∷ []) (table_same g f n e) ∙ ap (λ (y : Cell). table f n ++ y ∷ []) p

pub table_cut : (f : ℕ → Cell) (n k : ℕ) → k ≤ n → table f k ≡ take k (table f n)
unfolding table
table_cut f n k h = sym (take-map-range_with_len f 0 n k h)

-- a table in two parts
pub table_add : (f : ℕ → Cell) (n m : ℕ) → table f (n + m) ≡ table f n ++ table (λ k. f (n + k)) m
unfolding table
table_add f n zero = ap (table f) (add-zero n) ∙ sym (append-nil (table f n))
table_add f n (suc m) =
    let g : ℕ → Cell = λ k. f (n + k) in
    let e : n + suc m ≡ n + m + 1 = omega arith in
    let d : suc m ≡ m + 1 = omega arith in
    ap (table f) e
    ∙ map-range_with_len_more f 0 (n + m) (n + m) (omega arith)
    ∙ ap (λ (l : List Cell). l ++ f (n + m) ∷ []) (table_add f n m)
    ∙ append_assoc (table f n) (table g m) (f (n + m) ∷ [])
    ∙ ap (λ (l : List Cell). table f n ++ l) (sym (ap (table g) d ∙ map-range_with_len_more g 0 m m (omega arith)))
