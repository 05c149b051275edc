-- Reading by steps: one slot, the slots of a frame, what comes after 1111.
use Rattle.std.proofs.Common.{◌≡◌, ℕ, ◌+◌, Bool, true, false, ◌&&◌, eqb, ◌⊎◌, List, [], ◌∷◌, length, set, Ok, Err, Result, sym, refl, ap, ◌∙◌, inl, inr, add_assoc}
use Rattle.std.proofs.lemmas.Bool.{eq-eqb, ne_eqb, true≢false}
use Rattle.refusals.specs.declared.cause.Cause.TheVariants.{BadFill}
use Rattle.refusals.specs.declared.refusal.Spot.{Spot}
use Rattle.refusals.specs.declared.refusal.Refusal.{Refusal}
use Rattle.carriers.specs.Cells.{Cell}
use Rattle.pulses.specs.declared.index.Reading.{Reading}
use Rattle.modes.specs.declared.mode.Mode.{Mode}
use Rattle.modes.specs.declared.plan.Slot.{Slot}
use Rattle.modes.specs.Plan.{total}
use Rattle.frames.specs.Bits.{place_of}
use Rattle.messages.specs.Messages.{and_then, bare, slot_spot, spotted, field, questioned, read_slot, read_slots, filler, ending}

-- one slot
pub slot_stop : (how : Reading) (cs : List Cell) (m : Mode) (n at : ℕ) (s : Slot) (vs : List ℕ) (p : Spot) (x : Refusal) → p ≡ slot_spot n s at → Err x ≡ field cs p at s.width → Err x ≡ read_slot how cs m n at s vs
unfolding read_slot
slot_stop how cs m n at s vs p x e f =
    let g : field cs (slot_spot n s at) at s.width ≡ Err x = sym (f ∙ ap (λ (q : Spot). field cs q at s.width) e) in rw g

pub slot_by : (how : Reading) (cs : List Cell) (m : Mode) (n at : ℕ) (s : Slot) (vs : List ℕ) (p : Spot) (v : ℕ) (r : Result (Unit {0}) Refusal) → p ≡ slot_spot n s at → Ok v ≡ field cs p at s.width → r ≡ questioned how m vs s.part s.width v → and_then (spotted p r) (λ _. Ok v) ≡ read_slot how cs m n at s vs
unfolding read_slot
slot_by how cs m n at s vs p v r e f h =
    let g : field cs (slot_spot n s at) at s.width ≡ Ok v = sym (f ∙ ap (λ (q : Spot). field cs q at s.width) e) in rw (g, ← h, e)

-- the slots
module _ (how : Reading) (cs : List Cell) (m : Mode) (n p : ℕ) (ss rest : List Slot) (vs : List ℕ) (s : Slot) (e : ss ≡ s ∷ rest) where
  pub slots_stop : (x : Refusal) → Err x ≡ read_slot how cs m n p s vs → Err x ≡ read_slots how cs m n p ss vs
  unfolding read_slots
  slots_stop x f = let g : read_slot how cs m n p s vs ≡ Err x = sym f in rw e (rw g)

  pub slots_more : (v : ℕ) → Ok v ≡ read_slot how cs m n p s vs → read_slots how cs m n (p + s.width) rest (set vs (place_of s.part) v) ≡ read_slots how cs m n p ss vs
  unfolding read_slots
  slots_more v f = let g : read_slot how cs m n p s vs ≡ Ok v = sym f in rw e (rw g)

pub slots_end : (how : Reading) (cs : List Cell) (m : Mode) (n p : ℕ) (ss : List Slot) (vs : List ℕ) → ss ≡ [] → Ok vs ≡ read_slots how cs m n p ss vs
unfolding read_slots
slots_end how cs m n p ss vs e = rw e

pub total_more : (p : ℕ) (ss rest : List Slot) (s : Slot) → ss ≡ s ∷ rest → p + s.width + total rest ≡ p + total ss
total_more p ss rest s e = rw e (add_assoc p s.width (total rest))

-- what comes after 1111
pub ending_stop : (cs : List Cell) (n at : ℕ) (p : Spot) (x : Refusal) → p ≡ bare n at → Err x ≡ field cs p at (filler at) → Err x ≡ ending cs n at
unfolding ending
ending_stop cs n at p x e f = let g : field cs (bare n at) at (filler at) ≡ Err x = sym (f ∙ ap (λ (q : Spot). field cs q at (filler at)) e) in rw g

pub ending_fine : (cs : List Cell) (n at : ℕ) (p : Spot) (v : ℕ) → p ≡ bare n at → Ok v ≡ field cs p at (filler at) → v ≡ 0 → length cs ≡ at + filler at → Ok tt ≡ ending cs n at
unfolding ending
ending_fine cs n at p v e f z l =
    let g : field cs (bare n at) at (filler at) ≡ Ok v = sym (f ∙ ap (λ (q : Spot). field cs q at (filler at)) e) in
    rw (g, eq-eqb v 0 z, eq-eqb (length cs) (at + filler at) l)

and_not : (a b : Bool) → (a ≡ false) ⊎ (b ≡ false) → (a && b) ≡ false
and_not true b (inl e) = absurd (true≢false e)
and_not true b (inr e) = e
and_not false b e = refl

pub ending_bad : (cs : List Cell) (n at : ℕ) (p : Spot) (v : ℕ) → p ≡ bare n at → Ok v ≡ field cs p at (filler at) → (v ≡ 0 → ⊥) ⊎ (length cs ≡ at + filler at → ⊥) → Err (record { cause = BadFill; spot = p }) ≡ ending cs n at
unfolding ending
ending_bad cs n at p v e f h =
    let g : field cs (bare n at) at (filler at) ≡ Ok v = sym (f ∙ ap (λ (q : Spot). field cs q at (filler at)) e) in
    let b : (eqb v 0 && eqb (length cs) (at + filler at)) ≡ false = and_not _ _ (elim h [ inl a ↦ inl (ne_eqb v 0 a) | inr a ↦ inr (ne_eqb (length cs) (at + filler at) a) ]) in
    rw (g, b, e)
