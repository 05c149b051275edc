-- Octets and words as units of memory: what the trait asks of them, and what the carriers on them are. Assumes Octets, Words, Memory.
use Rattle.std.specs.Prelude.{◌≡◌, ℕ, ◌*◌, ◌<◌, ◌≤◌, min, List, length, Ok, Err, refl}
use Rattle.std.proofs.Common.{◌≢◌, ap, ◌∙◌, arith, get_or-set_other, get_or-set_same}
use Rattle.refusals.specs.declared.refusal.Refusal.{Refusal}
use Rattle.carriers.specs.declared.bit.Bit.{Bit}
use Rattle.carriers.specs.declared.bit.Bit.TheVariants.{Zero, One}
use Rattle.carriers.specs.declared.memory.Reader.{Reader}
use Rattle.carriers.specs.declared.memory.Writer.{Writer}
use Rattle.carriers.specs.Cells.{bit, max_cells, table}
use Rattle.carriers.specs.Memory.{reader_cells, reader_bounded, writer_cells, writer_bounded, writer_room, writer_roomy}
use Rattle.carriers.specs.Octets.{octet_at, octet_reader_cells, octet_writer_cells, octet_writer_room, OctetsPut}
use Rattle.carriers.specs.Words.{word_cell, word_at, word_of, word_reader_cells, word_writer_cells, word_writer_room, WordsPut}

pub octets_refused : (os : List ℕ) (at : ℕ) (b : Bit) (e : Refusal) → OctetsPut os at b (Err e) os
octets_refused os at b e = refl

pub octets_here : (before after : List ℕ) (at : ℕ) (b : Bit) → at < 8 * length before → OctetsPut before at b (Ok tt) after → octet_at after at ≡ bit b
octets_here before after at b h put = put.1

pub octets_below : (before after : List ℕ) (at i : ℕ) (b : Bit) → OctetsPut before at b (Ok tt) after → i < at → octet_at after i ≡ octet_at before i
octets_below before after at i b put l = put.2 i (let ne : i ≢ at = omega arith in ne)

pub words_refused : (ws : List ℕ) (at : ℕ) (b : Bit) (e : Refusal) → WordsPut ws at b (Err e) ws
words_refused ws at b e = refl

word_back : (b : Bit) → word_cell (word_of b) ≡ bit b
word_back Zero = refl
word_back One = refl

pub words_here : (before after : List ℕ) (at : ℕ) (b : Bit) → at < 1 * length before → WordsPut before at b (Ok tt) after → word_at after at ≡ bit b
words_here before after at b h put = ap (λ (ws : List ℕ). word_at ws at) put ∙ ap word_cell (get_or-set_same before at (word_of b) 0 (omega arith)) ∙ word_back b

pub words_below : (before after : List ℕ) (at i : ℕ) (b : Bit) → WordsPut before at b (Ok tt) after → i < at → word_at after i ≡ word_at before i
words_below before after at i b put l =
    let ne : i ≢ at = omega arith in
    ap (λ (ws : List ℕ). word_at ws i) put ∙ ap word_cell (get_or-set_other before at i (word_of b) 0 ne)

-- the carriers on octets
pub octet_reader_is : (r : Reader ℕ) → reader_cells 8 octet_at r ≡ octet_reader_cells r
octet_reader_is r = refl

pub octet_writer_is : {m : _} (w : Writer ℕ m) → (writer_cells octet_at w ≡ octet_writer_cells w) × (writer_room 8 w ≡ octet_writer_room w)
octet_writer_is w = (refl, refl)

pub octet_reader_bounded : (r : Reader ℕ) → length (octet_reader_cells r) ≤ max_cells
octet_reader_bounded r = reader_bounded 8 octet_at r

pub octet_writer_bounded : {m : _} (w : Writer ℕ m) → length (octet_writer_cells w) ≤ max_cells
octet_writer_bounded w = writer_bounded octet_at w

pub octet_writer_roomy : {m : _} (w : Writer ℕ m) → octet_writer_room w ≤ max_cells
octet_writer_roomy w = writer_roomy 8 w

-- the carriers on words
pub word_reader_is : (r : Reader ℕ) → reader_cells 1 word_at r ≡ word_reader_cells r
word_reader_is r = let one : 1 * length r.memory.now ≡ length r.memory.now = omega arith in ap (λ (n : ℕ). table (word_at r.memory.now) (min max_cells n)) one

pub word_writer_is : {m : _} (w : Writer ℕ m) → (writer_cells word_at w ≡ word_writer_cells w) × (writer_room 1 w ≡ word_writer_room w)
word_writer_is w = (refl, omega arith)

pub word_reader_bounded : (r : Reader ℕ) → length (word_reader_cells r) ≤ max_cells
word_reader_bounded r = rw (word_reader_is r) at (reader_bounded 1 word_at r)

pub word_writer_bounded : {m : _} (w : Writer ℕ m) → length (word_writer_cells w) ≤ max_cells
word_writer_bounded w = writer_bounded word_at w

pub word_writer_roomy : {m : _} (w : Writer ℕ m) → word_writer_room w ≤ max_cells
word_writer_roomy w = rw ((word_writer_is w).1) at (writer_roomy 1 w)
