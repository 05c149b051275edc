-- Where a refusal of reading was met: it tells a frame and a cell.
use Rattle.std.proofs.Common.{◌≡◌, ℕ, zero, suc, ◌+◌, cond, ◌&&◌, eqb, List, [], ◌∷◌, ◌++◌, length, set, Some, None, Ok, Err, Option, Result, sym, ap, ◌∙◌}
use Rattle.std.proofs.lemmas.Bool.{cond_both}
use Rattle.refusals.specs.declared.cause.Cause.{Cause}
use Rattle.refusals.specs.declared.cause.Cause.TheVariants.{BadFill}
use Rattle.refusals.specs.declared.refusal.Spot.{Spot}
use Rattle.refusals.specs.declared.refusal.Refusal.{Refusal}
use Rattle.refusals.specs.Spots.{nowhere}
use Rattle.carriers.specs.Cells.{Cell}
use Rattle.carriers.specs.FieldReading.{read_bits}
use Rattle.pulses.specs.declared.index.Reading.{Reading}
use Rattle.pulses.proofs.CallLaws.{never}
use Rattle.modes.specs.declared.mode.Mode.{Mode}
use Rattle.modes.specs.declared.plan.Slot.{Slot}
use Rattle.modes.specs.Fields.{part_spot}
use Rattle.modes.specs.Plan.{plan, total}
use Rattle.frames.specs.Bits.{place_of}
use Rattle.messages.proofs.Asked.{by_begun}
use Rattle.messages.specs.Messages.{Content, content, and_then, refuse, spot_at, bare, spotted, slot_spot, field, questioned, read_slot, read_slots, blank, filler, ending, next_frame, read_from}
use Rattle.messages.specs.Asked.{begun, turn}
use Rattle.messages.specs.Laws.{RefusalsTellWhere}
use Rattle.messages.proofs.Turning.{onward, by_turn}
use Rattle.messages.proofs.Mapped.{err_is}

abbrev Told : Refusal → Type 0
Told e = (n : ℕ) × (at : ℕ) × (e.spot.frame ≡ Some n) × (e.spot.cell ≡ Some at)

-- what may have been refused
then_told : {X Y : Type 0} (r : Result X Refusal) (f : X → Result Y Refusal) (e : Refusal)
    → (r ≡ Err e → Told e) → ((x : X) → f x ≡ Err e → Told e) → and_then r f ≡ Err e → Told e
then_told (Ok x) f e first rest h = rest x h
then_told {X} {Y} (Err d) f e first rest h = first (ap Err (err_is {X = Y} d e h))

spotted_told : {X : Type 0} (n at : ℕ) (p : Spot) (r : Result X Refusal) (e : Refusal) → spotted (spot_at n p at) r ≡ Err e → Told e
spotted_told n at p (Ok x) e h = absurd (never x e (sym h))
spotted_told {X} n at p (Err d) e h =
    let s = err_is {X = X} (record { cause = d.cause; spot = spot_at n p at }) e h in
    (n, at, ap (λ (x : Refusal). x.spot.frame) (sym s), ap (λ (x : Refusal). x.spot.cell) (sym s))

refuse_told : {X : Type 0} (n at : ℕ) (c : Cause) (e : Refusal) → refuse {X = X} c (bare n at) ≡ Err e → Told e
refuse_told {X} n at c e h =
    let s = err_is {X = X} (record { cause = c; spot = bare n at }) e h in
    (n, at, ap (λ (x : Refusal). x.spot.frame) (sym s), ap (λ (x : Refusal). x.spot.cell) (sym s))

field_told : (cs : List Cell) (n a at w : ℕ) (p : Spot) (e : Refusal) → field cs (spot_at n p a) at w ≡ Err e → Told e
unfolding field
field_told cs n a at w p e h = spotted_told n a p (read_bits cs at w 0) e h

slot_told : (how : Reading) (cs : List Cell) (m : Mode) (n at : ℕ) (s : Slot) (vs : List ℕ) (e : Refusal) → read_slot how cs m n at s vs ≡ Err e → Told e
unfolding read_slot
slot_told how cs m n at s vs e h =
    then_told (field cs (slot_spot n s at) at s.width) (λ v. and_then (spotted (slot_spot n s at) (questioned how m vs s.part s.width v)) (λ _. Ok v)) e
    (field_told cs n at at s.width (part_spot s.part) e)
    (λ v. then_told (spotted (slot_spot n s at) (questioned how m vs s.part s.width v)) (λ _. Ok v) e
    (spotted_told n at (part_spot s.part) (questioned how m vs s.part s.width v) e)
    (λ u g. absurd (never v e (sym g)))) h

slots_told : (how : Reading) (cs : List Cell) (m : Mode) (n at : ℕ) (ss : List Slot) (vs : List ℕ) (e : Refusal) → read_slots how cs m n at ss vs ≡ Err e → Told e
unfolding read_slots
slots_told how cs m n at [] vs e h = absurd (never vs e (sym h))
slots_told how cs m n at (s ∷ ss) vs e h =
    then_told (read_slot how cs m n at s vs) (λ v. read_slots how cs m n (at + s.width) ss (set vs (place_of s.part) v)) e
    (slot_told how cs m n at s vs e)
    (λ v g. slots_told how cs m n (at + s.width) ss (set vs (place_of s.part) v) e g) h

ending_told : (cs : List Cell) (n at : ℕ) (e : Refusal) → ending cs n at ≡ Err e → Told e
unfolding ending
ending_told cs n at e h =
    then_told (field cs (bare n at) at (filler at)) (λ v. cond (eqb v 0 && eqb (length cs) (at + filler at)) (Ok tt) (refuse BadFill (bare n at))) e
    (field_told cs n at at (filler at) nowhere e)
    (λ v. cond_both (eqb v 0 && eqb (length cs) (at + filler at)) (Ok tt) (refuse BadFill (bare n at)) (λ (r : Result (Unit {0}) Refusal). r ≡ Err e → Told e)
    (λ t g. absurd (never tt e (sym g)))
    (λ t g. refuse_told {X = Unit {0}} n at BadFill e g)) h

turn_told : (how : Reading) (cs : List Cell) (n at : ℕ) (k : Result (Option Mode) Cause) (e : Refusal) → turn how cs n at k ≡ Err e → Told e
unfolding turn
turn_told how cs n at (Ok None) e h =
    then_told (ending cs n (at + 4)) (λ _. Ok None) e (ending_told cs n (at + 4) e) (λ u g. absurd (never {X = Option Content} None e (sym g))) h
turn_told how cs n at (Err c) e h = refuse_told {X = Option Content} n at c e h
turn_told how cs n at (Ok (Some m)) e h =
    then_told (read_slots how cs m n (at + 4) (plan m) blank) (λ vs. Ok (Some (content m vs))) e (slots_told how cs m n (at + 4) (plan m) blank e) (λ vs g. absurd (never (Some (content m vs)) e (sym g))) h

next_told : (how : Reading) (cs : List Cell) (left n at : ℕ) (e : Refusal) → next_frame how cs left n at ≡ Err e → Told e
next_told how cs left n at e h =
    then_told (field cs (bare n at) at 4) (λ v. turn how cs n at (begun left v)) e
    (field_told cs n at at 4 nowhere e)
    (λ v. turn_told how cs n at (begun left v) e) (sym (by_begun how cs n at left) ∙ h)

from_told : (how : Reading) (cs : List Cell) (left at : ℕ) (before : List Content) (e : Refusal) → read_from how cs left at before ≡ Err e → Told e
from_told how cs zero at before e h =
    then_told (next_frame how cs 0 (length before) at) (onward how cs 0 at before) e (next_told how cs 0 (length before) at e) (λ o g. absurd (never before e (sym g))) (sym (by_turn how cs 0 at before) ∙ h)
from_told how cs (suc left) at before e h =
    then_told (next_frame how cs (suc left) (length before) at) (onward how cs (suc left) at before) e (next_told how cs (suc left) (length before) at e)
    (λ o. next o (λ f. from_told how cs left (at + 4 + total (plan f.mode)) (before ++ f ∷ []) e)) (sym (by_turn how cs (suc left) at before) ∙ h)
  where
    next : (o : Option Content) → ((f : Content) → read_from how cs left (at + 4 + total (plan f.mode)) (before ++ f ∷ []) ≡ Err e → Told e) → onward how cs (suc left) at before o ≡ Err e → Told e
    next None go g = absurd (never before e (sym g))
    next (Some f) go g = go f g

pub refusals_tell_where : RefusalsTellWhere
refusals_tell_where how cs e h = from_told how cs 512 0 [] e h
