-- A record's frame stands in a message with house indices, and is read again; and what is read strictly is such a frame.
use Rattle.std.proofs.Common.{◌≡◌, ℕ, zero, suc, ◌+◌, ◌-◌, ◌/◌, ◌%◌, ◌^◌, ◌<◌, cond, eqb, List, [], ◌∷◌, ◌++◌, map, get_or, Ok, sym, refl, ap, ◌∙◌, subst, ap₂, ⊎_elim, mul_comm, arith}
use native.Mathlib.Nat.{div-add-mod}
use Rattle.std.specs.List.{AllByRecursion}
use Rattle.carriers.specs.declared.bit.Bit.{Bit}
use Rattle.carriers.specs.declared.bit.Bit.TheVariants.{Zero, One}
use Rattle.pulses.proofs.Cuts.{cut_high, cut_low}
use Rattle.std.proofs.lemmas.List.{map-append, get_or-map, get_or_append_left, get_or-append_right}
use Rattle.std.proofs.lemmas.Bool.{cases_lt}
use Rattle.carriers.specs.Bits.{bit_of}
use Rattle.carriers.specs.Cells.{Cell, bit}
use Rattle.carriers.specs.Fields.{bits_of}
use Rattle.pulses.specs.declared.pulse.Pulse.{Pulse}
use Rattle.pulses.specs.declared.index.Reading.TheVariants.{Strict}
use Rattle.pulses.specs.Pulses.{sort}
use Rattle.pulses.specs.House.{house}
use Rattle.pulses.specs.Reading.{pulses_of}
use Rattle.pulses.specs.Calls.{read_index}
use Rattle.pulses.proofs.CallLaws.{is_read_again, was_read}
use Rattle.modes.specs.declared.mode.Mode.{Mode}
use Rattle.modes.specs.declared.plan.Part.{Part}
use Rattle.modes.specs.declared.plan.Part.TheVariants.{Value, High, Low}
use Rattle.modes.specs.declared.plan.Slot.{Slot}
use Rattle.modes.specs.Modes.{number_of, row, pulses_in}
use Rattle.modes.specs.Plan.{low_bits, part_width, order, plan}
use Rattle.modes.proofs.Modes.{pulses_in_has}
use Rattle.frames.specs.declared.frame.Frame.{Frame}
use Rattle.frames.specs.Frames.{count_of, pulses, track_width}
use Rattle.frames.specs.Bits.{index, part_value, place_of, spell, frame_bits}
use Rattle.frames.specs.Bits.{bits_of as numeral_bits_of}
use Rattle.frames.proofs.Ordered.{voice, at_place, placed}
use Rattle.frames.proofs.Parted.{frame_front}
use Rattle.frames.proofs.Taken.{sort_again}
use Rattle.frames.proofs.Written.{part_fits, part_none}
use Rattle.frames.proofs.Houses.{house_written}
use Rattle.frames.proofs.Blanks.{replicate_at}
use Rattle.messages.specs.Messages.{Content, content, settled, joined, questioned, blank}
use Rattle.messages.specs.Contents.{held, index_in, Stands, Fine}
use Rattle.messages.specs.Written.{as_cells, frame_cells, body}
use Rattle.messages.proofs.Planned.{Away, plan_each}
use Rattle.messages.proofs.Placing.{spelt, Good}
use Rattle.messages.proofs.Building.{away_none, low_has, high_has}
use Rattle.messages.proofs.Accepted.{Sent, content_cells, body_of}

-- the frame of a record, as it stands in a message
abbrev pub sent_of : Frame → Content
sent_of f = content f.mode (map (part_value f) order ++ 0 ∷ [])

pub sent_held : (f : Frame) (p : Part) → held (sent_of f) p ≡ part_value f p
sent_held f p =
    ⊎_elim
    (λ l. get_or_append_left (map (part_value f) order) (0 ∷ []) 0 (place_of p) l.low ∙ get_or-map (part_value f) order (place_of p) voice 0 l.low ∙ ap (part_value f) l.there)
    (λ n. ap (λ k. get_or (map (part_value f) order ++ 0 ∷ []) k 0) n.past ∙ sym (part_none f p (n.none f.mode)))
    (placed p)

-- the house index of a track is read strictly
pub index_read : (f : Frame) (s t : ℕ) → 0 < count_of f s t → read_index Strict (count_of f s t) (track_width f) (index f s t) ≡ Ok (pulses f s t)
index_read f s t has =
    let l = pulses_in_has f.mode s t has in
    let g = frame_front f s t l.0 l.1 in
    let r = is_read_again (track_width f) (pulses f s t) (index f s t) (house_written f s t has) in
    let P : ℕ → Type 0 = λ k. read_index Strict k (track_width f) (index f s t) ≡ Ok (sort (pulses f s t)) in
    subst P g.group.size r ∙ ap Ok (sort_again (count_of f s t) (track_width f) (pulses f s t) g.group g.sorted)

cut_whole : (v w : ℕ) → joined (v / 2 ^ w) w (v % 2 ^ w) ≡ v
cut_whole v w = ap (λ k. k + v % 2 ^ w) (mul_comm (v / 2 ^ w) (2 ^ w)) ∙ div-add-mod v (2 ^ w)

asked : (f : Frame) (p : Part) → 0 < part_width f.mode p → questioned Strict f.mode (sent_of f).values p (part_width f.mode p) (held (sent_of f) p) ≡ Ok tt
unfolding questioned
asked f (Value x) has = refl
asked f (High s t) has = refl
asked f (Low s t) has =
    let i : joined (held (sent_of f) (High s t)) (low_bits f.mode s t) (held (sent_of f) (Low s t)) ≡ index f s t =
    ap₂ (λ h l. joined h (low_bits f.mode s t) l) (sent_held f (High s t)) (sent_held f (Low s t)) ∙ cut_whole (index f s t) (low_bits f.mode s t) in
    ap settled (ap (read_index Strict (count_of f s t) (track_width f)) i ∙ index_read f s t (low_has f.mode s t has))

good : (f : Frame) → AllByRecursion (Good Strict f.mode (sent_of f).values) (plan f.mode)
good f = plan_each f.mode (Good Strict f.mode (sent_of f).values) (λ p has. (rw (sent_held f p) (part_fits f p), asked f p has))

pub single : (k : ℕ) → ◌≡◌ {A = ℕ} (get_or (0 ∷ []) k 0) 0
single zero = refl
single (suc k) = refl

empty : (f : Frame) (q : ℕ) → Away q (plan f.mode) → get_or blank q 0 ≡ get_or (sent_of f).values q 0
empty f q a =
    replicate_at {X = ℕ} 57 q 0 ∙ sym (⊎_elim
    (λ l.
    let p = get_or order q voice in
    let e : place_of p ≡ q = at_place q l in
    let P : ℕ → Type 0 = λ k. Away k (plan f.mode) in
    let z = away_none f.mode p (subst P (sym e) a) in
    ap (λ k. get_or (sent_of f).values k 0) (sym e) ∙ sent_held f p ∙ part_none f p z)
    (λ l. get_or-append_right (map (part_value f) order) (0 ∷ []) 56 q 0 refl l ∙ single (q - 56))
    (cases_lt q 56))

pub sent : (f : Frame) → Sent Strict (sent_of f)
sent f = record { long = refl; good = good f; empty = empty f }

-- the bits of a frame as cells
bit_cell : (n : ℕ) → bit_of (n % 2) ≡ bit_of n
bit_cell n = ap (λ k. cond (eqb k 0) Zero One) (let z : n % 2 % 2 ≡ n % 2 = omega arith in z)

pub bits_cells : (w v : ℕ) → as_cells (numeral_bits_of w v) ≡ bits_of w v
bits_cells zero v = refl
bits_cells (suc w) v = ap₂ (λ (b : Bit) (l : List Cell). bit b ∷ l) (bit_cell (v / 2 ^ w)) (bits_cells w v)

pub spell_cells : (g : Part → ℕ) (us : List ℕ) (ss : List Slot) → ((p : Part) → get_or us (place_of p) 0 ≡ g p) → as_cells (spell ss (map (λ s. g s.part) ss)) ≡ spelt us ss
unfolding spelt
spell_cells g us [] h = refl
spell_cells g us (s ∷ ss) h =
    map-append (λ b. bit (bit_of b)) (numeral_bits_of s.width (g s.part)) (spell ss (map (λ s. g s.part) ss))
    ∙ ap₂ (λ (a b : List Cell). a ++ b) (bits_cells s.width (g s.part) ∙ ap (bits_of s.width) (sym (h s.part))) (spell_cells g us ss h)

-- the cells of a frame, by the values of its parts
pub cells_by_lem : (f : Frame) (b : Content) → f.mode ≡ b.mode → ((p : Part) → held b p ≡ part_value f p) → frame_cells f ≡ content_cells b
unfolding frame_bits
cells_by_lem f b em h =
    ap (λ l. bits_of 4 (number_of f.mode) ++ l) (spell_cells (part_value f) b.values (plan f.mode) h)
    ∙ ap (λ (m : Mode). bits_of 4 (number_of m) ++ spelt b.values (plan m)) em

pub sent_cells : (f : Frame) → frame_cells f ≡ content_cells (sent_of f)
sent_cells f = cells_by_lem f (sent_of f) refl (sent_held f)

pub sent_body : (fs : List Frame) → body fs ≡ body_of (map sent_of fs)
sent_body [] = refl
sent_body (f ∷ fs) = ap₂ (λ (a b : List Cell). a ++ b) (sent_cells f) (sent_body fs)

pub all_sent : (fs : List Frame) → AllByRecursion (Sent Strict) (map sent_of fs)
all_sent [] = tt
all_sent (f ∷ fs) = (sent f, all_sent fs)

-- the record that its frame stands for
pub sent_stands : (f : Frame) → Stands (sent_of f) f
unfolding sort
sent_stands f = record {
  mode = refl;
  fields = λ x. sym (sent_held f (Value x));
  tracks = λ s t. ⊎_elim
      (λ has.
      let i : index_in (sent_of f) s t ≡ index f s t =
      ap₂ (λ h l. joined h (low_bits f.mode s t) l) (sent_held f (High s t)) (sent_held f (Low s t)) ∙ cut_whole (index f s t) (low_bits f.mode s t) in
      (was_read Strict (count_of f s t) (track_width f) (index f s t) (pulses f s t) (index_read f s t has)).is
      ∙ ap (λ k. sort (pulses_of (count_of f s t) (track_width f) k)) (sym i))
      (λ no. let e : count_of f s t ≡ 0 = omega arith in rw e)
      (cases_lt 0 (count_of f s t));
}

-- what is read strictly is the frame of its record
index_is : (b : Content) (f : Frame) (s t : ℕ) → Stands b f → Fine Strict b → 0 < pulses_in b.mode s t → index f s t ≡ index_in b s t
unfolding index
index_is b f s t st fine has =
    let p = fine.tracks s t has in
    let n = pulses_in b.mode s t in
    let M = (row b.mode).places in
    let r = was_read Strict n M (index_in b s t) p.0 p.1 in
    ap₂ (λ (m : Mode) (ps : List Pulse). house (pulses_in m s t) (row m).places ps) st.mode (st.tracks s t ∙ sym r.is) ∙ r.houses refl

lacks : (b : Content) (f : Frame) (p : Part) → Stands b f → Fine Strict b → part_width b.mode p ≡ 0 → held b p ≡ part_value f p
lacks b f p st fine z =
    let h = rw z at (fine.fits p) in
    let e : held b p ≡ 0 = omega arith in
    e ∙ sym (part_none f p (ap (λ (m : Mode). part_width m p) st.mode ∙ z))

by_parts : (b : Content) (f : Frame) (p : Part) → Stands b f → Fine Strict b → 0 < part_width b.mode p → held b p ≡ part_value f p
by_parts b f (Value x) st fine has = sym (st.fields x)
by_parts b f (High s t) st fine has =
    let w = low_bits b.mode s t in
    let some : 0 < pulses_in b.mode s t = high_has b.mode s t has in
    sym (ap₂ (λ (i : ℕ) (m : Mode). i / 2 ^ low_bits m s t) (index_is b f s t st fine some) st.mode ∙ cut_high w (held b (Low s t)) (held b (High s t)) (fine.fits (Low s t)))
by_parts b f (Low s t) st fine has =
    let w = low_bits b.mode s t in
    let some : 0 < pulses_in b.mode s t = low_has b.mode s t has in
    sym (ap₂ (λ (i : ℕ) (m : Mode). i % 2 ^ low_bits m s t) (index_is b f s t st fine some) st.mode ∙ cut_low w (held b (Low s t)) (held b (High s t)) (fine.fits (Low s t)))

pub strict_parts : (b : Content) (f : Frame) → Stands b f → Fine Strict b → (p : Part) → held b p ≡ part_value f p
strict_parts b f st fine p =
    ⊎_elim
    (λ has. by_parts b f p st fine has)
    (λ no. lacks b f p st fine (omega arith))
    (cases_lt 0 (part_width b.mode p))

pub strict_cells : (b : Content) (f : Frame) → Stands b f → Fine Strict b → frame_cells f ≡ content_cells b
strict_cells b f st fine = cells_by_lem f b st.mode (strict_parts b f st fine)
