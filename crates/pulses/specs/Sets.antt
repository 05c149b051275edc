-- The pulses of one track as a call takes them: in any sequence, then questioned, then put in order. Assumes Pulses.
--   every f xs         f holds of each of xs
--   on_track M ps      every place is on the track of width M
--   one_signed ps      no place has both signs
--   checked M ps       ps in order, or the first question that they fail: on the track, no place with both signs
--   padded ps          a row of six: ps, and behind them plus pulses on place 0
--   follows p q        whether q may stand right behind p
--   InOrder ps row     the row of six is ps in order, padded
--   track_set n M ps   the row of a track of n pulses, or why not: the number of pulses, then as checked
use Rattle.std.specs.Prelude.{◌≡◌, ℕ, ◌-◌, ◌^◌, Bool, true, cond, ◌&&◌, ◌||◌, List, [], ◌∷◌, ◌++◌, length, take, drop, replicate, Ok, Err, Result, ◌==◌, nat_eq, nat_le, nat_lt, slice_index_or}
use Rattle.refusals.specs.declared.cause.Cause.TheVariants.{WrongNumber, OffTrack, BothSigns}
use Rattle.refusals.specs.declared.refusal.Refusal.{Refusal}
use Rattle.refusals.specs.Spots.{because}
use Rattle.pulses.specs.declared.pulse.Pulse.{Pulse}
use Rattle.pulses.specs.declared.pulse.Sign.TheVariants.{Plus}
use Rattle.pulses.specs.Pulses.{pulse, alike, opposite, tally, Same, Sorted, sort}

abbrev pub every : {X : Type 0} → (X → Bool) → List X → Bool
every f [] = true
every f (x ∷ xs) = f x && every f xs

unfoldable pub on_track : ℕ → List Pulse → Bool
on_track M ps = every (λ p. nat_lt p.place (2 ^ M)) ps

unfoldable pub one_signed : List Pulse → Bool
one_signed ps = every (λ p. nat_eq (tally ps p.place (opposite p.sign)) 0) ps

unfoldable pub checked : ℕ → List Pulse → Result (List Pulse) Refusal
checked M ps = cond (on_track M ps) (cond (one_signed ps) (Ok (sort ps)) (Err (because BothSigns))) (Err (because OffTrack))

abbrev pub none : Pulse
none = pulse 0 Plus

abbrev pub at : List Pulse → ℕ → Pulse
at ps k = slice_index_or ps k none

unfoldable pub padded : List Pulse → List Pulse
padded ps = ps ++ replicate (6 - length ps) none

abbrev pub map_ok : {X Y E : Type 0} → (X → Y) → Result X E → Result Y E
map_ok f (Ok x) = Ok (f x)
map_ok f (Err e) = Err e

unfoldable pub track_set : ℕ → ℕ → List Pulse → Result (List Pulse) Refusal
track_set n M ps = cond (length ps == n && nat_le n 6) (map_ok padded (checked M ps)) (Err (because WrongNumber))

-- how far a pulse has to stand above another: 1 where the signs differ
unfoldable pub apart : Pulse → Pulse → ℕ
apart p q = cond (alike p.sign q.sign) 0 1

-- at the same place only with the same sign
abbrev pub follows : Pulse → Pulse → Bool
follows p q = nat_lt p.place q.place || (p.place == q.place && alike p.sign q.sign)

-- a row put in order: the pulses ps in front, from the lowest place up, and behind them plus pulses on place 0
pub record InOrder (ps row : List Pulse) : Type 0 where
  pub size : length row ≡ 6
  pub rises : Sorted (take (length ps) row)
  pub same : Same (take (length ps) row) ps
  pub behind : drop (length ps) row ≡ replicate (6 - length ps) none
