-- Pulses and answers at the border to C. Assumes Pulses, Calls.
--   octet_of p      a pulse as one octet: place + 32 * sign bit
--   pulse_of o      the pulse of an octet; from 64 on it stands on a place of no track
--   answer_of r     an answer as one number: what was accepted, or minus the number of the refusal
--   filled_octets   what stands in an octet buffer after reading
--   way_of strict   the way of reading that a flag asks for
use Rattle.std.specs.Prelude.{◌≡◌, ℕ, ◌+◌, ◌*◌, ◌/◌, ◌%◌, ◌<◌, ◌≤◌, Bool, cond, List, ◌++◌, map, length, drop, ℤ, pos, neg_ℤ, Ok, Err, Result, nat_le, nat_lt}
use Rattle.refusals.specs.declared.refusal.Refusal.{Refusal}
use Rattle.refusals.specs.Refusals.{number_of}
use Rattle.pulses.specs.declared.pulse.Pulse.{Pulse}
use Rattle.pulses.specs.declared.pulse.Sign.TheVariants.{Plus}
use Rattle.pulses.specs.declared.index.Reading.{Reading}
use Rattle.pulses.specs.declared.index.Reading.TheVariants.{Strict, Open}
use Rattle.pulses.specs.Pulses.{pulse, bit}
use Rattle.pulses.specs.Reading.{sign_of}

abbrev pub octet_of : Pulse → ℕ
octet_of p = p.place + 32 * bit p.sign

abbrev pub pulse_of : ℕ → Pulse
pulse_of o = cond (nat_lt o 64) (pulse (o % 32) (sign_of (o / 32))) (pulse o Plus)

abbrev pub answer_of : Result ℕ Refusal → ℤ
answer_of (Ok n) = pos n
answer_of (Err e) = neg_ℤ (pos (number_of e.cause))

unfoldable pub filled_octets : List ℕ → Result (List Pulse) Refusal → List ℕ
filled_octets out (Ok ps) = cond (nat_le (length ps) (length out)) (map octet_of ps ++ drop (length ps) out) out
filled_octets out (Err e) = out

abbrev pub way_of : Bool → Reading
way_of strict = cond strict Strict Open

-- the octet of a pulse on a track stands for that pulse, and for no other
abbrev pub OctetTellsThePulse : Type 0
OctetTellsThePulse = (p : Pulse) → p.place < 32 → pulse_of (octet_of p) ≡ p

-- an octet of 64 or more stands on no track
abbrev pub OffEveryTrack : Type 0
OffEveryTrack = (o : ℕ) → 64 ≤ o → (pulse_of o).place ≡ o
