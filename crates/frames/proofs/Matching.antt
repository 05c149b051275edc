-- What the comparison of signs, modes, pulses, values, rows of pulses and records decides.
use Rattle.std.proofs.Common.{◌≡◌, ℕ, Bool, List, Decides, sym, ap, subst, refl, nat_eq}
use Rattle.std.proofs.lemmas.Bool.Decides.{Decides-eqb, Decides-and, Decides-like}
use Rattle.std.proofs.lemmas.Slice.Eq.{slice_eq-Decides}
use Rattle.std.specs.Cmp.Lexicographic.{pointwise}
use denote.Enum.Bare.{sameb, same_true, true_same}
use Rattle.pulses.specs.declared.pulse.Pulse.{Pulse}
use Rattle.pulses.specs.declared.pulse.Sign.{Sign}
use Rattle.pulses.specs.contracts.pulse.Sign as sign
use Rattle.pulses.specs.contracts.pulse.PulsePartialEq.TheImpl as pulse
use Rattle.modes.specs.declared.mode.Mode.{Mode}
use Rattle.modes.specs.contracts.mode.Mode as mode
use Rattle.frames.specs.declared.frame.Frame.{Frame}
use Rattle.frames.specs.contracts.frame.FramePartialEq.TheImpl as frame
use Rattle.frames.specs.Bits.{frame_bits, Agree}
use Rattle.frames.proofs.Alike.{frame_same}
use Rattle.frames.proofs.Agreeing.{agree_decides, bits_decide}

signs_decide : (s t : Sign) → Decides (sameb sign.the_type s t) (s ≡ t)
signs_decide s t = (same_true sign.the_type tt s t, true_same sign.the_type s t)

modes_decide : (m n : Mode) → Decides (sameb mode.the_type m n) (m ≡ n)
modes_decide m n = (same_true mode.the_type tt m n, true_same mode.the_type m n)

pub pulses_decide : (p q : Pulse) → Decides ((pulse.eq-value).it p q) (p ≡ q)
pulses_decide p q =
    Decides-like _
    (λ e i. record { place = e.0 i; sign = e.1 i })
    (λ e. (ap (λ r. r.place) e, ap (λ r. r.sign) e))
    (Decides-and _ _ (Decides-eqb p.place q.place) (signs_decide p.sign q.sign))

pub values_decide : (xs ys : List ℕ) → Decides (pointwise nat_eq xs ys) (xs ≡ ys)
values_decide xs ys = slice_eq-Decides {E = nat_eq} Decides-eqb xs ys _ refl

row_decides : (xs ys : List Pulse) → Decides (pointwise (pulse.eq-value).it xs ys) (xs ≡ ys)
row_decides xs ys = slice_eq-Decides {E = (pulse.eq-value).it} pulses_decide xs ys _ refl

pub rows_decide : (xs ys : List (List Pulse)) → Decides (pointwise (pointwise (pulse.eq-value).it) xs ys) (xs ≡ ys)
rows_decide xs ys = slice_eq-Decides {E = pointwise (pulse.eq-value).it} row_decides xs ys _ refl

frames_decide : (f g : Frame) → Decides ((frame.eq-value).it f g) (f ≡ g)
frames_decide f g =
    Decides-like _
    (λ e. frame_same f g e.0 e.1.0 e.1.1)
    (λ e. (ap (λ r. r.mode) e, (ap (λ r. r.values) e, ap (λ r. r.tracks) e)))
    (Decides-and _ _ (modes_decide f.mode g.mode) (Decides-and _ _ (values_decide f.values g.values) (rows_decide f.tracks g.tracks)))

-- what `==` answers tells whether two records are one
pub same_records : (f g : Frame) (r : Bool) → r ≡ (frame.eq-value).it f g → Decides r (f ≡ g)
same_records f g r e = subst (λ b. Decides b (f ≡ g)) (sym e) (frames_decide f g)

pub same_agree : (f g : Frame) (r : Bool) → r ≡ (frame.eq-value).it f g → Decides r ((f.mode ≡ g.mode) × Agree f g)
same_agree f g r e = agree_decides f g r (same_records f g r e)

pub same_bits : (f g : Frame) (r : Bool) → r ≡ (frame.eq-value).it f g → Decides r ((f.mode ≡ g.mode) × (frame_bits f ≡ frame_bits g))
same_bits f g r e = bits_decide f g r (same_records f g r e)
