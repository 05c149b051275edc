-- The questions of reading one by one: a track is asked where a part makes it whole, and a turn goes by what its mode cells begin.
use Rattle.std.proofs.Common.{◌≡◌, ℕ, ◌+◌, Bool, true, false, cond, List, Some, None, Ok, Err, Option, Result, refl, ◌==◌}
use Rattle.refusals.specs.declared.cause.Cause.TheVariants.{NoSuchMode, TooManyFrames}
use Rattle.refusals.specs.declared.refusal.Refusal.{Refusal}
use Rattle.carriers.specs.Cells.{Cell}
use Rattle.pulses.specs.declared.index.Reading.{Reading}
use Rattle.modes.specs.declared.mode.Mode.{Mode}
use Rattle.modes.specs.declared.plan.Part.{Part}
use Rattle.modes.specs.declared.plan.Part.TheVariants.{Value, High, Low}
use Rattle.modes.specs.Modes.{mode_of}
use Rattle.modes.specs.Plan.{plan}
use Rattle.messages.specs.Messages.{Content, content, and_then, refuse, bare, field, questioned, ending, read_slots, blank, if_mode, next_frame}
use Rattle.messages.specs.Asked.{completed, if_whole, track_asked, when_mode, begun, turn}

pub by_whole : (how : Reading) (m : Mode) (vs : List ℕ) (p : Part) (w v : ℕ) → questioned how m vs p w v ≡ if_whole (completed p) (track_asked how m vs w v)
unfolding questioned track_asked
by_whole how m vs (Value x) w v = refl
by_whole how m vs (High s t) w v = refl
by_whole how m vs (Low s t) w v = refl

module _ (how : Reading) (cs : List Cell) (n at : ℕ) where
  abbrev framed : Mode → Result (Option Content) Refusal
  framed m = and_then (read_slots how cs m n (at + 4) (plan m) blank) (λ vs. Ok (Some (content m vs)))

  by_tests : (last none : Bool) (o : Option Mode)
      → cond last (and_then (ending cs n (at + 4)) (λ _. Ok None)) (if_mode (refuse NoSuchMode (bare n at)) (λ m. cond none (refuse TooManyFrames (bare n at)) (framed m)) o)
      ≡ turn how cs n at (cond last (Ok None) (when_mode (Err NoSuchMode) (λ m. cond none (Err TooManyFrames) (Ok (Some m))) o))
  unfolding turn
  by_tests true none o = refl
  by_tests false none None = refl
  by_tests false true (Some m) = refl
  by_tests false false (Some m) = refl

  pub by_begun : (left : ℕ) → next_frame how cs left n at ≡ and_then (field cs (bare n at) at 4) (λ v. turn how cs n at (begun left v))
  unfolding next_frame
  by_begun left = λ i. and_then (field cs (bare n at) at 4) (λ v. by_tests (v == 15) (left == 0) (mode_of v) i)
