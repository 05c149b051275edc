-- What a field that was read fits, and where its cells are.
use Rattle.std.proofs.Common.{◌≡◌, ℕ, ◌+◌, ◌^◌, ◌<◌, ◌≤◌, List, length, IfOk, Ok, Err, Result, sym}
use Rattle.refusals.specs.declared.refusal.Spot.{Spot}
use Rattle.refusals.specs.declared.refusal.Refusal.{Refusal}
use Rattle.carriers.specs.Cells.{Cell}
use Rattle.carriers.specs.FieldReading.{read_bits}
use Rattle.carriers.proofs.Spelt.{field_spelt, field_within}
use Rattle.messages.specs.Messages.{spotted}
use Rattle.messages.proofs.Placing.{spotted_ok}

read_of : (cs : List Cell) (p : Spot) (at w v : ℕ) → Ok v ≡ spotted p (read_bits cs at w 0) → read_bits cs at w 0 ≡ Ok v
read_of cs p at w v e = spotted_ok p (read_bits cs at w 0) v (sym e)

pub field_fits : (cs : List Cell) (p : Spot) (at w : ℕ) (r : Result ℕ Refusal) → r ≡ spotted p (read_bits cs at w 0) → IfOk r (λ v. v < 2 ^ w)
field_fits cs p at w (Ok v) e = (field_spelt cs at w v (read_of cs p at w v e)).0
field_fits cs p at w (Err x) e = tt

pub field_inside : (cs : List Cell) (p : Spot) (at w : ℕ) (r : Result ℕ Refusal) → at ≤ length cs → r ≡ spotted p (read_bits cs at w 0) → IfOk r (λ v. at + w ≤ length cs)
field_inside cs p at w (Ok v) l e = field_within cs at w v l (read_of cs p at w v e)
field_inside cs p at w (Err x) l e = tt
