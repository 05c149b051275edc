-- The question to a track: what the call that reads an index tells of it.
use Rattle.std.proofs.Common.{◌≡◌, ℕ, ◌≤◌, leb, List, length, get_or, Ok, Err, Result, refl, ap, ◌∙◌, arith}
use Rattle.std.proofs.lemmas.Bool.{cond-true, le-leb}
use Rattle.refusals.specs.declared.refusal.Refusal.{Refusal}
use Rattle.pulses.specs.declared.pulse.Pulse.{Pulse}
use Rattle.pulses.specs.declared.index.Reading.{Reading}
use Rattle.pulses.specs.Calls.{read_index, handed}
use Rattle.pulses.specs.Reading.{pulses_of}
use Rattle.pulses.proofs.CallLaws.{was_read, in_use}
use Rattle.pulses.proofs.Unique.{length_sort}
use Rattle.pulses.proofs.Rules.{read_size}
use Rattle.modes.specs.declared.mode.Mode.{Mode}
use Rattle.modes.specs.declared.plan.Part.TheVariants.{High}
use Rattle.modes.specs.Modes.{row, pulses_in}
use Rattle.frames.specs.Bits.{place_of}
use Rattle.messages.specs.Messages.{settled, joined}
use Rattle.messages.specs.Asked.{track_read, track_asked}

-- six pulses have room for every index
pub few : (how : Reading) (n M i : ℕ) (ps : List Pulse) → read_index how n M i ≡ Ok ps → length ps ≤ 6
few how n M i ps h =
    let r = was_read how n M i ps h in
    let u = in_use n M r.used_so in
    let l : length ps ≡ n = ap length r.is ∙ length_sort (pulses_of n M i) ∙ read_size n M i u.fits in
    omega (arith, u.few)

settles : (r : Result (List Pulse) Refusal) (k : ℕ) → Ok k ≡ handed 6 r → Ok tt ≡ settled r
settles (Ok ps) k e = refl
settles (Err x) k e = let z : ◌≡◌ {A = ℕ} 0 1 = cc in absurd (omega arith)

refuses : (r : Result (List Pulse) Refusal) (x : Refusal) → ((ps : List Pulse) → r ≡ Ok ps → length ps ≤ 6) → Err x ≡ handed 6 r → Err x ≡ settled r
refuses (Ok ps) x h e =
    let f = cond-true (leb (length ps) 6) (Ok (length ps)) _ (le-leb (length ps) 6 (h ps refl)) in
    let g : ◌≡◌ {A = Result ℕ Refusal} (Err x) (Ok (length ps)) = e ∙ f in
    let z : ◌≡◌ {A = ℕ} 0 1 = cc in absurd (omega arith)
refuses (Err y) x h e = let z : x ≡ y = cc in ap Err z

-- with what the code has
module _ (how : Reading) (m : Mode) (vs : List ℕ) (s t w v : ℕ) where
  pub asks_ok : (k : ℕ) → Ok k ≡ handed 6 (track_read how m vs w v s t) → Ok tt ≡ track_asked how m vs w v s t
  unfolding track_asked
  asks_ok k e = settles (track_read how m vs w v s t) k e

  pub asks_err : (x : Refusal) → Err x ≡ handed 6 (track_read how m vs w v s t) → Err x ≡ track_asked how m vs w v s t
  unfolding track_asked
  asks_err x e = refuses (track_read how m vs w v s t) x (few how (pulses_in m s t) (row m).places (joined (get_or vs (place_of (High s t)) 0) w v)) e
