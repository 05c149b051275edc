-- The records of a message, one after the other.
use Rattle.std.proofs.Common.{◌≡◌, ℕ, List, [], ◌∷◌, ◌++◌, Ok, Err, vec_items, Option, Result, Vec, sym, refl, subst}
use Rattle.std.specs.declared.alloc.Global.{Global}
use Rattle.refusals.specs.declared.refusal.Refusal.{Refusal}
use Rattle.pulses.proofs.CallLaws.{never}
use Rattle.frames.specs.declared.frame.Frame.{Frame}
use Rattle.messages.specs.declared.error.ReadError.TheVariants.{Refused}
use Rattle.messages.specs.Messages.{Content}
use Rattle.messages.specs.Contents.{Stands, nth, Recorded, Returned}
use Rattle.messages.specs.Gathered.{Records, Gathered}

pub records_push : (bs : List Content) (fs : List Frame) (b : Content) (f : Frame) → Records bs fs → Stands b f → Records (bs ++ b ∷ []) (fs ++ f ∷ [])
records_push [] [] b f r s = (s, tt)
records_push [] (g ∷ fs) b f r s = absurd r
records_push (c ∷ bs) [] b f r s = absurd r
records_push (c ∷ bs) (g ∷ fs) b f r s = (r.0, records_push bs fs b f r.1 s)

pub all_gathered : (r : Result (List Content) Refusal) (bs : List Content) (v : Vec Frame Global) → r ≡ Ok bs → Records bs (vec_items v) → Gathered r (Ok v)
all_gathered r bs v e h = subst (λ (x : Result (List Content) Refusal). Gathered x (Ok v)) (sym e) h

pub none_gathered : (r : Result (List Content) Refusal) (x : Refusal) → r ≡ Err x → Gathered r (Err (Refused x))
none_gathered (Ok bs) x e = absurd (never bs x (sym e))
none_gathered (Err d) x e = cc

-- one of them
pub refused_returned : (r : Result (List Content) Refusal) (n : ℕ) (x : Refusal) → r ≡ Err x → Returned r n (Err x)
refused_returned r n x e = subst (λ (r : Result (List Content) Refusal). Returned r n (Err x)) (sym e) refl

pub returned : (r : Result (List Content) Refusal) (bs : List Content) (n : ℕ) (o : Option Content) (a : Result Frame Refusal) → r ≡ Ok bs → o ≡ nth bs n → Recorded o a → Returned r n a
returned r bs n o a e i s =
    subst (λ (r : Result (List Content) Refusal). Returned r n a) (sym e) (subst (λ (o : Option Content). Recorded o a) i s)
