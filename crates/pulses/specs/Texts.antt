-- How signs and pulses are printed, as octets. Assumes Pulses.
--   sign_text s    + or -
--   pulse_text p   the sign of a pulse, and its place in decimal
use Rattle.std.specs.Prelude.{ℕ, List, [], ◌∷◌, ◌++◌, decimal}
use Rattle.pulses.specs.declared.pulse.Pulse.{Pulse}
use Rattle.pulses.specs.declared.pulse.Sign.{Sign}
use Rattle.pulses.specs.declared.pulse.Sign.TheVariants.{Plus, Minus}

-- + is 43, - is 45
abbrev pub sign_text : Sign → List ℕ
sign_text Plus = 43 ∷ []
sign_text Minus = 45 ∷ []

abbrev pub pulse_text : Pulse → List ℕ
pulse_text p = sign_text p.sign ++ decimal p.place
