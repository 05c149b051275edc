-- A turn of reading, by its ways, and the frames by turns.
use Rattle.std.proofs.Common.{◌≡◌, ℕ, zero, suc, ◌+◌, List, [], ◌∷◌, ◌++◌, length, Some, None, Ok, Err, Option, Result, sym, refl, ap, ◌∙◌}
use Rattle.refusals.specs.declared.cause.Cause.{Cause}
use Rattle.refusals.specs.declared.refusal.Spot.{Spot}
use Rattle.refusals.specs.declared.refusal.Refusal.{Refusal}
use Rattle.carriers.specs.Cells.{Cell}
use Rattle.pulses.specs.declared.index.Reading.{Reading}
use Rattle.modes.specs.declared.mode.Mode.{Mode}
use Rattle.modes.specs.Plan.{plan, total}
use Rattle.messages.proofs.Asked.{by_begun}
use Rattle.messages.specs.Messages.{Content, content, and_then, bare, field, ending, read_slots, blank, next_frame, by_next, read_from}
use Rattle.messages.specs.Asked.{begun, turn}

module _ (how : Reading) (cs : List Cell) (left n at : ℕ) (p : Spot) (e : p ≡ bare n at) where
  here : {r : Result ℕ Refusal} → r ≡ field cs p at 4 → field cs (bare n at) at 4 ≡ r
  here {r} f = sym (f ∙ ap (λ (q : Spot). field cs q at 4) e)

  pub turn_stop : (x : Refusal) → Err x ≡ field cs p at 4 → Err x ≡ next_frame how cs left n at
  turn_stop x f = ap (λ (r : Result ℕ Refusal). and_then r (λ v. turn how cs n at (begun left v))) (sym (here f)) ∙ sym (by_begun how cs n at left)

  pub turn_by : (v : ℕ) (k : Result (Option Mode) Cause) → Ok v ≡ field cs p at 4 → k ≡ begun left v → turn how cs n at k ≡ next_frame how cs left n at
  turn_by v k f h =
      ap (turn how cs n at) h
      ∙ ap (λ (r : Result ℕ Refusal). and_then r (λ v. turn how cs n at (begun left v))) (sym (here f))
      ∙ sym (by_begun how cs n at left)

-- a turn, by what the mode cells began
module _ (how : Reading) (cs : List Cell) (n at : ℕ) where
  pub turn_end : (r : Result (Unit {0}) Refusal) → r ≡ ending cs n (at + 4) → and_then r (λ _. Ok None) ≡ turn how cs n at (Ok None)
  unfolding turn
  turn_end r h = ap (λ (x : Result (Unit {0}) Refusal). and_then x (λ _. Ok None)) h

  pub turn_refuse : (c : Cause) (p : Spot) → p ≡ bare n at → Err (record { cause = c; spot = p }) ≡ turn how cs n at (Err c)
  unfolding turn
  turn_refuse c p e = ap (λ (q : Spot). Err (record { cause = c; spot = q })) e

  pub turn_frame : (m : Mode) (r : Result (List ℕ) Refusal) → r ≡ read_slots how cs m n (at + 4) (plan m) blank → and_then r (λ vs. Ok (Some (content m vs))) ≡ turn how cs n at (Ok (Some m))
  unfolding turn
  turn_frame m r h = ap (λ (x : Result (List ℕ) Refusal). and_then x (λ vs. Ok (Some (content m vs)))) h

-- the frames, by turns
abbrev pub onward : Reading → List Cell → ℕ → ℕ → List Content → Option Content → Result (List Content) Refusal
onward how cs zero at before = λ _. Ok before
onward how cs (suc left) at before = by_next before (λ f. read_from how cs left (at + 4 + total (plan f.mode)) (before ++ f ∷ []))

pub by_turn : (how : Reading) (cs : List Cell) (left at : ℕ) (before : List Content) → read_from how cs left at before ≡ and_then (next_frame how cs left (length before) at) (onward how cs left at before)
unfolding read_from
by_turn how cs zero at before = refl
by_turn how cs (suc left) at before = refl

onward_none : (how : Reading) (cs : List Cell) (left at : ℕ) (before : List Content) → onward how cs left at before None ≡ Ok before
onward_none how cs zero at before = refl
onward_none how cs (suc left) at before = refl

-- with what the code has
pub turn_over : (how : Reading) (cs : List Cell) (left n at : ℕ) (before : List Content) → length before ≡ n → Ok None ≡ next_frame how cs left n at → read_from how cs left at before ≡ Ok before
turn_over how cs left n at before l e = by_turn how cs left at before ∙ rw (l, ← e) (onward_none how cs left at before)

pub turn_refused : (how : Reading) (cs : List Cell) (left n at : ℕ) (before : List Content) (x : Refusal) → length before ≡ n → Err x ≡ next_frame how cs left n at → read_from how cs left at before ≡ Err x
turn_refused how cs left n at before x l e = by_turn how cs left at before ∙ rw (l, ← e)

pub turn_more : (how : Reading) (cs : List Cell) (left k n at : ℕ) (before : List Content) (f : Content) → left ≡ suc k → length before ≡ n → Ok (Some f) ≡ next_frame how cs left n at → read_from how cs left at before ≡ read_from how cs k (at + 4 + total (plan f.mode)) (before ++ f ∷ [])
turn_more how cs left k n at before f z l e = by_turn how cs left at before ∙ rw (l, ← e, z)
