-- Runs of accepted puts. Assumes Rows, Spelt, FieldCells.
use Rattle.std.proofs.Common.{◌≡◌, ℕ, ◌+◌, ◌%◌, ◌^◌, List, [], ◌∷◌, ◌++◌, map, length, drop, IfOk, Ok, Err, Result, sym, ap, ◌∙◌, append_assoc, mod-lt, arith, length-append, pow_pos}
use lib.Seq.{drop-append_seam}
use Rattle.std.proofs.lemmas.List.{append-nil}
use Rattle.refusals.specs.declared.refusal.Refusal.{Refusal}
use Rattle.carriers.specs.declared.bit.Bit.{Bit}
use Rattle.carriers.specs.Cells.{Cell, bit}
use Rattle.carriers.specs.Fields.{bits_of, PutBits}
use Rattle.carriers.specs.FieldReading.{read_bits}
use Rattle.carriers.specs.WritingLaws.{BitsPut, no_bits, then_bit, SameBitsSameCells, Field, FieldsPut, no_fields, then_field, FieldsRead, FieldsReadBack}
use Rattle.carriers.proofs.Rows.{bits_length, bits_low}
use Rattle.carriers.proofs.Spelt.{field_read}
use Rattle.carriers.proofs.FieldCells.{read_longer}

-- the bits of a number at the end of the cells read as it, cut to their width
pub read_end : (cs : List Cell) (w v : ℕ) → read_bits (cs ++ bits_of w v) (length cs) w 0 ≡ Ok (v % 2 ^ w)
read_end cs w v =
    let same : drop (length cs) (cs ++ bits_of w v) ≡ bits_of w (v % 2 ^ w) ++ [] = drop-append_seam cs (bits_of w v) ∙ sym (bits_low w w v (omega arith)) ∙ sym (append-nil (bits_of w (v % 2 ^ w))) in
    field_read (cs ++ bits_of w v) [] w (v % 2 ^ w) (length cs) (mod-lt v (pow_pos w)) same

-- what was put is read back, and what could be read before still is
pub put_back : (before after : List Cell) (room v w : ℕ) (r : Result Unit Refusal) → PutBits before room v w r after → IfOk r (λ _. read_bits after (length before) w 0 ≡ Ok (v % 2 ^ w))
put_back before after room v w (Ok _) said = rw said.1 (read_end before w v)
put_back before after room v w (Err _) said = tt

pub put_kept : (before after : List Cell) (room v w : ℕ) (r : Result Unit Refusal) → PutBits before room v w r after → (at n x : ℕ) → read_bits before at n 0 ≡ Ok x → read_bits after at n 0 ≡ Ok x
put_kept before after room v w (Ok _) said at n x e = rw said.1 (read_longer before (bits_of w v) at n 0 x e)
put_kept before after room v w (Err _) said at n x e = rw said.2 e

bits_all : (room : ℕ) (before after : List Cell) (bs : List Bit) → BitsPut room before bs after → after ≡ before ++ map bit bs
bits_all room before after [] no_bits = sym (append-nil before)
bits_all room before after (b ∷ bs) (then_bit {mid = mid} p q) = bits_all room mid after bs q ∙ ap (λ (l : List Cell). l ++ map bit bs) p.1 ∙ append_assoc before (bit b ∷ []) (map bit bs)

pub same_bits_same_cells : SameBitsSameCells
same_bits_same_cells one other bs before here there p q =
    let h = bits_all one before here bs p in
    (h, h ∙ sym (bits_all other before there bs q))

-- fields that follow only make the cells longer
fields_grow : (room : ℕ) (before after : List Cell) (fs : List Field) → FieldsPut room before fs after → (xs : List Cell) × (after ≡ before ++ xs)
fields_grow room before after [] no_fields = ([], sym (append-nil before))
fields_grow room before after (f ∷ fs) (then_field {mid = mid} p q) =
    let rest = fields_grow room mid after fs q in
    (bits_of f.width f.value ++ rest.0, rest.1 ∙ ap (λ (l : List Cell). l ++ rest.0) p.1 ∙ append_assoc before (bits_of f.width f.value) rest.0)

pub fields_read_back : FieldsReadBack
fields_read_back room before after [] no_fields = tt
fields_read_back room before after (f ∷ fs) (then_field {mid = mid} p q) =
    let w : ℕ = f.width in
    let v : ℕ = f.value in
    let grown = fields_grow room mid after fs q in
    let here : read_bits mid (length before) w 0 ≡ Ok (v % 2 ^ w) = rw p.1 (read_end before w v) in
    let long : length mid ≡ length before + w = ap length p.1 ∙ length-append before (bits_of w v) ∙ ap (λ n. length before + n) (bits_length w v) in
    let rest : FieldsRead after (length mid) fs = fields_read_back room mid after fs q in
    (rw grown.1 (read_longer mid grown.0 (length before) w 0 (v % 2 ^ w) here), rw long at rest)
