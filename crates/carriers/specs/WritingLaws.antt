-- What a run of accepted puts comes to, on any carrier of any capacity. Assumes Writing, Fields, FieldReading.
--   BitsPut room before bs after     the bits bs, put one after the other and each accepted, lead from the cells before to those after
--   SameBitsSameCells                two carriers of whatever kind that held the same cells and were put the same bits hold the same cells again: those from before and then the bits
--   Field                            a number and the width that it is put with
--   FieldsPut room before fs after   the fields fs, put one after the other and each accepted, lead from the cells before to those after
--   FieldsRead cs at fs              from a place on, each field of fs reads as it was put: the number, cut to its width
--   FieldsReadBack                   fields that were put one after the other read back one after the other, from where the first was put
use Rattle.std.specs.Prelude.{◌≡◌, ℕ, ◌+◌, ◌%◌, ◌^◌, List, [], ◌∷◌, ◌++◌, map, length, Ok}
use Rattle.carriers.specs.declared.bit.Bit.{Bit}
use Rattle.carriers.specs.Cells.{Cell, bit}
use Rattle.carriers.specs.Writing.{Put}
use Rattle.carriers.specs.Fields.{PutBits}
use Rattle.carriers.specs.FieldReading.{read_bits}

pub data BitsPut (room : ℕ) : List Cell → List Bit → List Cell → Type 0 where
  no_bits : {cs : List Cell} → BitsPut room cs [] cs
  then_bit : {before mid after : List Cell} {b : Bit} {bs : List Bit} → Put before room b (Ok tt) mid → BitsPut room mid bs after → BitsPut room before (b ∷ bs) after

abbrev pub SameBitsSameCells : Type 0
SameBitsSameCells = (one other : ℕ) (bs : List Bit) (before here there : List Cell) → BitsPut one before bs here → BitsPut other before bs there → (here ≡ before ++ map bit bs) × (here ≡ there)

pub record Field : Type 0 where
  pub value : ℕ
  pub width : ℕ

pub data FieldsPut (room : ℕ) : List Cell → List Field → List Cell → Type 0 where
  no_fields : {cs : List Cell} → FieldsPut room cs [] cs
  then_field : {before mid after : List Cell} {f : Field} {fs : List Field} → PutBits before room f.value f.width (Ok tt) mid → FieldsPut room mid fs after → FieldsPut room before (f ∷ fs) after

abbrev pub FieldsRead : List Cell → ℕ → List Field → Type 0
FieldsRead cs at [] = Unit
FieldsRead cs at (f ∷ fs) = (read_bits cs at f.width 0 ≡ Ok (f.value % 2 ^ f.width)) × FieldsRead cs (at + f.width) fs

abbrev pub FieldsReadBack : Type 0
FieldsReadBack = (room : ℕ) (before after : List Cell) (fs : List Field) → FieldsPut room before fs after → FieldsRead after (length before) fs
