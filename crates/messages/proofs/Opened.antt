-- What is accepted strictly is accepted openly.
use Rattle.std.proofs.Common.{◌≡◌, ℕ, zero, suc, ◌+◌, List, [], ◌∷◌, ◌++◌, length, get_or, set, Some, None, Ok, Err, Option, Result, sym, refl, ap, ◌∙◌}
use Rattle.refusals.specs.declared.cause.Cause.{Cause}
use Rattle.refusals.specs.declared.refusal.Refusal.{Refusal}
use Rattle.carriers.specs.Cells.{Cell}
use Rattle.carriers.specs.FieldReading.{read_bits}
use Rattle.pulses.specs.declared.index.Reading.{Reading}
use Rattle.pulses.specs.declared.index.Reading.TheVariants.{Strict, Open}
use Rattle.pulses.specs.Calls.{read_index}
use Rattle.pulses.proofs.CallLaws.{never, strict_is_open}
use Rattle.modes.specs.declared.mode.Mode.{Mode}
use Rattle.modes.specs.declared.plan.Part.{Part}
use Rattle.modes.specs.declared.plan.Part.TheVariants.{Value, High, Low}
use Rattle.modes.specs.declared.plan.Slot.{Slot}
use Rattle.modes.specs.Modes.{row, pulses_in}
use Rattle.modes.specs.Plan.{plan, total}
use Rattle.frames.specs.Bits.{place_of}
use Rattle.messages.proofs.Asked.{by_begun}
use Rattle.messages.specs.Messages.{Content, content, and_then, bare, spotted, slot_spot, settled, joined, field, questioned, read_slot, read_slots, blank, next_frame, read_from}
use Rattle.messages.specs.Asked.{begun, turn}
use Rattle.messages.specs.Laws.{StrictIsOpen}
use Rattle.messages.proofs.Steps.{slot_by}
use Rattle.messages.proofs.Placing.{settled_ok, slot_read, slots_head}
use Rattle.messages.proofs.Turning.{onward, by_turn}

-- an answer that stays
module _ {X : Type 0} (x : X) where
  then_on : {Y : Type 0} (r : Result Y Refusal) (f g : Y → Result X Refusal) → ((y : Y) → f y ≡ Ok x → g y ≡ Ok x) → and_then r f ≡ Ok x → and_then r g ≡ Ok x
  then_on (Ok y) f g h e = h y e
  then_on (Err d) f g h e = e

  then_first : {Y : Type 0} (r q : Result Y Refusal) (f : Y → Result X Refusal) → ((y : Y) → r ≡ Ok y → q ≡ Ok y) → and_then r f ≡ Ok x → and_then q f ≡ Ok x
  then_first (Ok y) q f h e = ap (λ (z : Result _ Refusal). and_then z f) (h y refl) ∙ e
  then_first (Err d) q f h e = absurd (never x d e)

asked_open : (m : Mode) (vs : List ℕ) (p : Part) (w v : ℕ) → questioned Strict m vs p w v ≡ Ok tt → questioned Open m vs p w v ≡ Ok tt
unfolding questioned
asked_open m vs (Value x) w v e = e
asked_open m vs (High s t) w v e = e
asked_open m vs (Low s t) w v e =
    let n = pulses_in m s t in
    let M = (row m).places in
    let i = joined (get_or vs (place_of (High s t)) 0) w v in
    let p = settled_ok (read_index Strict n M i) e in
    ap settled (strict_is_open n M i p.0 p.1)

field_of : (cs : List Cell) (n at v : ℕ) (s : Slot) → read_bits cs at s.width 0 ≡ Ok v → Ok v ≡ field cs (slot_spot n s at) at s.width
unfolding field
field_of cs n at v s e = sym (ap (spotted (slot_spot n s at)) e)

slot_open : (cs : List Cell) (m : Mode) (n at : ℕ) (s : Slot) (vs : List ℕ) (v : ℕ) → read_slot Strict cs m n at s vs ≡ Ok v → read_slot Open cs m n at s vs ≡ Ok v
slot_open cs m n at s vs v e =
    let p = slot_read Strict cs m n at s vs v e in
    sym (slot_by Open cs m n at s vs (slot_spot n s at) v (Ok tt) refl (field_of cs n at v s p.0) (sym (asked_open m vs s.part s.width v p.1)))

pub slots_cons : (how : Reading) (cs : List Cell) (m : Mode) (n at : ℕ) (s : Slot) (ss : List Slot) (vs : List ℕ) (v : ℕ) → read_slot how cs m n at s vs ≡ Ok v → read_slots how cs m n at (s ∷ ss) vs ≡ read_slots how cs m n (at + s.width) ss (set vs (place_of s.part) v)
unfolding read_slots
slots_cons how cs m n at s ss vs v e = rw e

pub slots_nil : (how : Reading) (cs : List Cell) (m : Mode) (n at : ℕ) (vs : List ℕ) → read_slots how cs m n at [] vs ≡ Ok vs
unfolding read_slots
slots_nil how cs m n at vs = refl

slots_open : (cs : List Cell) (m : Mode) (n at : ℕ) (ss : List Slot) (vs us : List ℕ) → read_slots Strict cs m n at ss vs ≡ Ok us → read_slots Open cs m n at ss vs ≡ Ok us
slots_open cs m n at [] vs us e = slots_nil Open cs m n at vs ∙ sym (slots_nil Strict cs m n at vs) ∙ e
slots_open cs m n at (s ∷ ss) vs us e =
    let p = slots_head Strict cs m n at s ss vs us e in
    slots_cons Open cs m n at s ss vs p.0 (slot_open cs m n at s vs p.0 p.1) ∙ slots_open cs m n (at + s.width) ss (set vs (place_of s.part) p.0) us p.2

turn_open : (cs : List Cell) (n at : ℕ) (k : Result (Option Mode) Cause) (o : Option Content) → turn Strict cs n at k ≡ Ok o → turn Open cs n at k ≡ Ok o
unfolding turn
turn_open cs n at (Ok None) o e = e
turn_open cs n at (Err c) o e = e
turn_open cs n at (Ok (Some m)) o e =
    then_first o (read_slots Strict cs m n (at + 4) (plan m) blank) (read_slots Open cs m n (at + 4) (plan m) blank) (λ vs. Ok (Some (content m vs))) (λ vs. slots_open cs m n (at + 4) (plan m) blank vs) e

next_open : (cs : List Cell) (left n at : ℕ) (o : Option Content) → next_frame Strict cs left n at ≡ Ok o → next_frame Open cs left n at ≡ Ok o
next_open cs left n at o e =
    by_begun Open cs n at left ∙ then_on o (field cs (bare n at) at 4) _ _ (λ v. turn_open cs n at (begun left v) o) (sym (by_begun Strict cs n at left) ∙ e)

from_open : (cs : List Cell) (left at : ℕ) (before bs : List Content) → read_from Strict cs left at before ≡ Ok bs → read_from Open cs left at before ≡ Ok bs
from_open cs zero at before bs e =
    by_turn Open cs 0 at before
    ∙ then_first bs (next_frame Strict cs 0 (length before) at) (next_frame Open cs 0 (length before) at) (λ _. Ok before) (next_open cs 0 (length before) at) (sym (by_turn Strict cs 0 at before) ∙ e)
from_open cs (suc left) at before bs e =
    by_turn Open cs (suc left) at before
    ∙ then_on bs (next_frame Open cs (suc left) (length before) at) (onward Strict cs (suc left) at before) (onward Open cs (suc left) at before)
    (λ o. next o (λ f. from_open cs left (at + 4 + total (plan f.mode)) (before ++ f ∷ []) bs))
    (then_first bs (next_frame Strict cs (suc left) (length before) at) (next_frame Open cs (suc left) (length before) at) (onward Strict cs (suc left) at before) (next_open cs (suc left) (length before) at) (sym (by_turn Strict cs (suc left) at before) ∙ e))
  where
    next : (o : Option Content)
        → ((f : Content) → read_from Strict cs left (at + 4 + total (plan f.mode)) (before ++ f ∷ []) ≡ Ok bs → read_from Open cs left (at + 4 + total (plan f.mode)) (before ++ f ∷ []) ≡ Ok bs)
        → onward Strict cs (suc left) at before o ≡ Ok bs → onward Open cs (suc left) at before o ≡ Ok bs
    next None go h = h
    next (Some f) go h = go f h

pub reads_open : StrictIsOpen
reads_open cs bs e = from_open cs 512 0 [] bs e
