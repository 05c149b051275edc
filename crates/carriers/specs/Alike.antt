-- One field in octets and in words alike. Assumes Fields, Octets, Words.
--   Alike v w os ws r os' ws'   writing the low w bits of v at the start of the octets os and of the words ws answers r and leaves os' and ws': both then begin with the same cells, those bits
use Rattle.std.specs.Prelude.{◌≡◌, ℕ, ◌<◌, ◌≤◌, min, List, Ok, Err, Result}
use Rattle.refusals.specs.declared.cause.Cause.TheVariants.{CarrierFull}
use Rattle.refusals.specs.declared.refusal.Refusal.{Refusal}
use Rattle.refusals.specs.Spots.{because}
use Rattle.carriers.specs.Cells.{table}
use Rattle.carriers.specs.Octets.{octet_at, octet_room}
use Rattle.carriers.specs.Words.{word_at, word_room}
use Rattle.carriers.specs.Fields.{bits_of}

abbrev pub Alike : ℕ → ℕ → List ℕ → List ℕ → Result Unit Refusal → List ℕ → List ℕ → Type 0
Alike v w os ws (Ok _) os' ws' = (w ≤ min (octet_room os) (word_room ws)) × (table (octet_at os') w ≡ bits_of w v) × (table (word_at ws') w ≡ bits_of w v)
Alike v w os ws (Err e) os' ws' = (e ≡ because CarrierFull) × (min (octet_room os) (word_room ws) < w) × (os' ≡ os) × (ws' ≡ ws)
