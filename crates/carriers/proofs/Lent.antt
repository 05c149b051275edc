-- What a caller that lent its memory to a writer learns of it. Assumes Tables.
use Rattle.std.proofs.Common.{◌≡◌, ℕ, ◌≤◌, List, [], ◌++◌, length, Ok, Err, Result, sym, ap, ◌∙◌, arith}
use Rattle.refusals.specs.declared.refusal.Refusal.{Refusal}
use Rattle.carriers.specs.Cells.{Cell, table}
use Rattle.carriers.specs.Octets.{octet_at, octet_room}
use Rattle.carriers.specs.Memory.{room_of}
use Rattle.carriers.specs.Words.{word_at}
use Rattle.carriers.specs.Fields.{bits_of, PutBits}
use Rattle.carriers.specs.Alike.{Alike}
use Rattle.carriers.proofs.Tables.{table_length}
use Rattle.carriers.proofs.Rows.{bits_length}

-- a row that was put on no cells is all that the memory holds up to its length
pub lent_row : (f : ℕ → Cell) (k w v : ℕ) (cs : List Cell) → cs ≡ [] → table f k ≡ cs ++ bits_of w v → table f w ≡ bits_of w v
lent_row f k w v cs none e =
    let row : table f k ≡ bits_of w v = e ∙ ap (λ (l : List Cell). l ++ bits_of w v) none in
    let same : k ≡ w = sym (table_length f k) ∙ ap length row ∙ bits_length w v in
    rw same at row

-- the octets were written, and the words are asked
pub alike_end : (os ws m n x y : List ℕ) (a b v w ro rw : ℕ) (cs ds : List Cell) (r : Result Unit Refusal) → x ≡ m → y ≡ n → cs ≡ [] → ds ≡ [] → ro ≡ octet_room os → rw ≡ room_of 1 ws → w ≤ rw → PutBits cs ro v w (Ok tt) (table (octet_at m) a) → PutBits ds rw v w r (table (word_at n) b) → Alike v w os ws r x y
alike_end os ws m n x y a b v w ro rw cs ds (Ok _) ex ey nc nd eo ew fits put said =
    let lc : length cs ≡ 0 = ap length nc in
    let ld : length ds ≡ 0 = ap length nd in
    (omega (arith, put.0, said.0), ap (λ (l : List ℕ). table (octet_at l) w) ex ∙ lent_row (octet_at m) a w v cs nc put.1, ap (λ (l : List ℕ). table (word_at l) w) ey ∙ lent_row (word_at n) b w v ds nd said.1)
alike_end os ws m n x y a b v w ro rw cs ds (Err _) ex ey nc nd eo ew fits put said =
    let ld : length ds ≡ 0 = ap length nd in
    absurd (omega (arith, said.1))
