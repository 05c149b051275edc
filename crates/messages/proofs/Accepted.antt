-- What stands as a message is accepted.
use Rattle.std.proofs.Common.{◌≡◌, ℕ, zero, suc, ◌+◌, ◌-◌, ◌^◌, ◌<◌, ◌≤◌, List, [], ◌∷◌, ◌++◌, length, get_or, drop, set, Some, None, Ok, sym, refl, ap, ◌∙◌, subst, ap₂, ⊎_elim, add-zero, arith, length-append, length-drop, length-set, get_or-set_other, get_or-set_same, pow_pos}
use Rattle.std.specs.List.{AllByRecursion}
use Rattle.std.proofs.lemmas.List.{ext_get_or}
use Rattle.std.proofs.lemmas.Bool.{cases_eq, ne_eqb}
use Rattle.refusals.specs.declared.refusal.Spot.{Spot}
use Rattle.carriers.specs.Cells.{Cell}
use Rattle.carriers.specs.Fields.{bits_of}
use Rattle.carriers.proofs.Spelt.{field_read, past_bits, past, bits_length}
use Rattle.pulses.specs.declared.index.Reading.{Reading}
use Rattle.modes.specs.declared.mode.Mode.{Mode}
use Rattle.modes.specs.declared.plan.Slot.{Slot}
use Rattle.modes.specs.Modes.{number_of}
use Rattle.modes.specs.Plan.{plan, total}
use Rattle.frames.specs.Bits.{place_of}
use Rattle.messages.specs.Messages.{Content, bare, slot_spot, spotted, field, read_slot, read_slots, blank, filler, next_frame, read_from}
use Rattle.messages.specs.Asked.{begun}
use Rattle.messages.proofs.Steps.{slot_by, ending_fine}
use Rattle.messages.proofs.Planned.{Away, Rises, rises_head, rises_away, plan_rises}
use Rattle.messages.proofs.Placing.{spelt, Good, asked_same, append_assoc}
use Rattle.messages.proofs.Opened.{slots_cons, slots_nil}
use Rattle.messages.proofs.Turning.{turn_by, turn_end, turn_frame, turn_more, turn_over}
use Rattle.messages.proofs.Building.{number_back, number_low}

field_is : (cs rest : List Cell) (p : Spot) (at w v : ℕ) → v < 2 ^ w → drop at cs ≡ bits_of w v ++ rest → Ok v ≡ field cs p at w
unfolding field
field_is cs rest p at w v h e = sym (ap (spotted p) (field_read cs rest w v at h e))

abbrev Left : List Slot → List ℕ → List ℕ → Type 0
Left ss vs us = (q : ℕ) → Away q ss → get_or vs q 0 ≡ get_or us q 0

slots_accepted : (how : Reading) (cs rest : List Cell) (m : Mode) (n at : ℕ) (ss : List Slot) (vs us : List ℕ) (b : ℕ) → length vs ≡ 57 → length us ≡ 57 → Rises b ss → AllByRecursion (Good how m us) ss
    → Left ss vs us → drop at cs ≡ spelt us ss ++ rest → read_slots how cs m n at ss vs ≡ Ok us
unfolding spelt
slots_accepted how cs rest m n at [] vs us b lv lu r good left e =
    slots_nil how cs m n at vs ∙ ap Ok (ext_get_or {A = ℕ} 0 vs us (lv ∙ sym lu) (λ k h. left k tt))
slots_accepted how cs rest m n at (s ∷ ss) vs us b lv lu r good left e =
    let k = place_of s.part in
    let v = get_or us k 0 in
    let h = rises_head b s ss r in
    let g = good.0 in
    let e' : drop at cs ≡ bits_of s.width v ++ (spelt us ss ++ rest) = e ∙ append_assoc (bits_of s.width v) (spelt us ss) rest in
    let front : (j : ℕ) → j < k → get_or us j 0 ≡ get_or vs j 0 = λ j i. sym (left j ((λ z. omega arith), rises_away (suc k) j ss h.2 (omega arith))) in
    let one : read_slot how cs m n at s vs ≡ Ok v =
    sym (slot_by how cs m n at s vs (slot_spot n s at) v (Ok tt) refl (field_is cs (spelt us ss ++ rest) (slot_spot n s at) at s.width v g.0 e') (sym (asked_same how m vs us s.part s.width v h.1 front ∙ g.1))) in
    let next : Left ss (set vs k v) us = λ q a.
    ⊎_elim
    (λ i. let P : ℕ → Type 0 = λ z. get_or (set vs k v) z 0 ≡ get_or us z 0 in subst P (sym i) (get_or-set_same vs k v 0 (omega (arith, h.1, lv))))
    (λ ne. get_or-set_other vs k q v 0 ne ∙ left q ((λ z. ne (sym z)), a))
    (cases_eq q k) in
    slots_cons how cs m n at s ss vs v one
    ∙ slots_accepted how cs rest m n (at + s.width) ss (set vs k v) us (suc k) (length-set vs k v ∙ lv) lu h.2 good.1 next (past_bits cs (spelt us ss ++ rest) at s.width v e')

-- a frame as it stands in a message that is accepted
pub record Sent (how : Reading) (b : Content) : Type 0 where
  pub long : length b.values ≡ 57
  pub good : AllByRecursion (Good how b.mode b.values) (plan b.mode)
  pub empty : Left (plan b.mode) blank b.values

abbrev pub content_cells : Content → List Cell
content_cells b = bits_of 4 (number_of b.mode) ++ spelt b.values (plan b.mode)

abbrev pub body_of : List Content → List Cell
body_of [] = []
body_of (b ∷ bs) = content_cells b ++ body_of bs

pub spelt_length : (us : List ℕ) (ss : List Slot) → length (spelt us ss) ≡ total ss
unfolding spelt
spelt_length us [] = refl
spelt_length us (s ∷ ss) = length-append (bits_of s.width (get_or us (place_of s.part) 0)) (spelt us ss) ∙ ap₂ (λ x y. x + y) (bits_length s.width (get_or us (place_of s.part) 0)) (spelt_length us ss)

pub content_length : (b : Content) → length (content_cells b) ≡ 4 + total (plan b.mode)
content_length b = length-append (bits_of 4 (number_of b.mode)) (spelt b.values (plan b.mode)) ∙ ap₂ (λ x y. x + y) (bits_length 4 (number_of b.mode)) (spelt_length b.values (plan b.mode))

begun_mode : (left : ℕ) (m : Mode) → 0 < left → begun left (number_of m) ≡ Ok (Some m)
begun_mode left m l =
    rw (ne_eqb (number_of m) 15 (λ z. omega (arith, number_low m, z)), number_back m, ne_eqb left 0 (λ z. omega arith))

next_accepted : (how : Reading) (cs rest : List Cell) (left n at : ℕ) (b : Content) → Sent how b → 0 < left → drop at cs ≡ content_cells b ++ rest → Ok (Some b) ≡ next_frame how cs left n at
next_accepted how cs rest left n at b sent l e =
    let m = b.mode in
    let us = b.values in
    let v = number_of m in
    let low = number_low m in
    let e' : drop at cs ≡ bits_of 4 v ++ (spelt us (plan m) ++ rest) = e ∙ append_assoc (bits_of 4 v) (spelt us (plan m)) rest in
    let body = slots_accepted how cs rest m n (at + 4) (plan m) blank us 0 refl sent.long (plan_rises m) sent.good sent.empty (past_bits cs (spelt us (plan m) ++ rest) at 4 v e') in
    turn_frame how cs n at m (Ok us) (sym body)
    ∙ turn_by how cs left n at (bare n at) refl v (Ok (Some m)) (field_is cs (spelt us (plan m) ++ rest) (bare n at) at 4 v (omega (arith, low)) e') (sym (begun_mode left m l))

next_over : (how : Reading) (cs : List Cell) (left n at : ℕ) → drop at cs ≡ bits_of 4 15 ++ bits_of (filler (at + 4)) 0 → Ok None ≡ next_frame how cs left n at
next_over how cs left n at e =
    let fill = filler (at + 4) in
    let tail : drop (at + 4) cs ≡ bits_of fill 0 = past_bits cs (bits_of fill 0) at 4 15 e in
    let long : length cs - at ≡ 4 + fill = sym (length-drop at cs) ∙ ap length e ∙ length-append (bits_of 4 15) (bits_of fill 0) ∙ ap₂ (λ x y. x + y) (bits_length 4 15) (bits_length fill 0) in
    let zeros = field_is cs [] (bare n (at + 4)) (at + 4) fill 0 (pow_pos fill) (tail ∙ sym (nil_right (bits_of fill 0))) in
    let over = ending_fine cs n (at + 4) (bare n (at + 4)) 0 refl zeros refl (omega arith) in
    turn_end how cs n at (Ok tt) over ∙ turn_by how cs left n at (bare n at) refl 15 (Ok None) (field_is cs (bits_of fill 0) (bare n at) at 4 15 (omega arith) e) refl
  where
    nil_right : (xs : List Cell) → xs ++ [] ≡ xs
    nil_right [] = refl
    nil_right (x ∷ xs) = ap (λ l. x ∷ l) (nil_right xs)

abbrev pub tail_at : ℕ → List Cell
tail_at k = bits_of 4 15 ++ bits_of (filler (k + 4)) 0

pub from_accepted : (how : Reading) (cs : List Cell) (left at : ℕ) (before more : List Content) → AllByRecursion (Sent how) more → length more ≤ left
    → drop at cs ≡ body_of more ++ tail_at (at + length (body_of more)) → read_from how cs left at before ≡ Ok (before ++ more)
from_accepted how cs left at before [] sent l e =
    let e' : drop at cs ≡ tail_at at = e ∙ ap tail_at (add-zero at) in
    turn_over how cs left (length before) at before refl (next_over how cs left (length before) at e') ∙ ap Ok (sym (nil_right before))
  where
    nil_right : (xs : List Content) → xs ++ [] ≡ xs
    nil_right [] = refl
    nil_right (x ∷ xs) = ap (λ l. x ∷ l) (nil_right xs)
from_accepted how cs zero at before (b ∷ more) sent l e = absurd (omega arith)
from_accepted how cs (suc left) at before (b ∷ more) sent l e =
    let end = at + length (body_of (b ∷ more)) in
    let e' : drop at cs ≡ content_cells b ++ (body_of more ++ tail_at end) = e ∙ append_assoc (content_cells b) (body_of more) (tail_at end) in
    let at₂ = at + 4 + total (plan b.mode) in
    let len = content_length b in
    let both = length-append (content_cells b) (body_of more) in
    let here : at + length (content_cells b) ≡ at₂ = omega arith in
    let there : end ≡ at₂ + length (body_of more) = omega arith in
    let e'' : drop at₂ cs ≡ body_of more ++ tail_at (at₂ + length (body_of more)) = ap (λ k. drop k cs) (sym here) ∙ past cs (content_cells b) (body_of more ++ tail_at end) at e' ∙ ap (λ k. body_of more ++ tail_at k) there in
    turn_more how cs (suc left) left (length before) at before b refl refl (next_accepted how cs (body_of more ++ tail_at end) (suc left) (length before) at b sent.0 (omega arith) e')
    ∙ from_accepted how cs left at₂ (before ++ b ∷ []) more sent.1 (omega arith) e''
    ∙ ap Ok (append_assoc before (b ∷ []) more)
