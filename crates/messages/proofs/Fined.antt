-- A frame is fine as a fact and as tests.
use Rattle.std.proofs.Common.{◌≡◌, ℕ, List, Ok, Err, Result, IsTrue, is_ok, sym, refl, subst}
use Rattle.std.proofs.lemmas.Bool.{true≢false}
use Rattle.refusals.specs.declared.refusal.Refusal.{Refusal}
use Rattle.pulses.specs.declared.pulse.Pulse.{Pulse}
use Rattle.pulses.specs.declared.index.Reading.{Reading}
use Rattle.modes.specs.declared.mode.Mode.{Mode}
use Rattle.messages.specs.Messages.{content}
use Rattle.messages.specs.Contents.{Fine, IsFine}

answered : (r : Result (List Pulse) Refusal) → IsTrue (is_ok r) → (ps : List Pulse) × (r ≡ Ok ps)
answered (Ok ps) h = (ps, refl)
answered (Err e) h = absurd (true≢false (sym h))

pub fine_of : (how : Reading) (m : Mode) (vs : List ℕ) → IsFine how m vs → Fine how (content m vs)
fine_of how m vs f = record { fits = f.0; tracks = λ s t has. answered _ (f.1 s t has) }

pub is_fine : (how : Reading) (m : Mode) (vs : List ℕ) → Fine how (content m vs) → IsFine how m vs
is_fine how m vs f =
    (f.fits, λ s t has. let p = f.tracks s t has in subst (λ (r : Result (List Pulse) Refusal). IsTrue (is_ok r)) (sym p.1) refl)
