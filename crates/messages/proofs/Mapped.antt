-- What comes of an answer whose refusal is told otherwise: an answer stays, and a refusal comes from one.
use Rattle.std.proofs.Common.{◌≡◌, Ok, Err, Result, MatchResult, refl, sym, ap, ◌∙◌, subst}
use Rattle.std.specs.Result.{IsErrAnd}
use Rattle.std.proofs.lemmas.Result.{err_from_is_err_and}
use Rattle.refusals.specs.declared.refusal.Refusal.{Refusal}
use Rattle.pulses.proofs.CallLaws.{never, ok_is}

pub err_is : {X : Type 0} (x y : Refusal) → ◌≡◌ {A = Result X Refusal} (Err x) (Err y) → x ≡ y
err_is x y e = cc

module _ {X E : Type 0} (q : Result X Refusal) (P : E → Refusal → Type 0) where
  pub mapped_ok : (r : Result X E) (x : X) → MatchResult r (λ x. q ≡ Ok x) (λ e. IsErrAnd q (P e)) → q ≡ Ok x → Ok x ≡ r
  mapped_ok (Ok y) x h w = ap Ok (ok_is x y (sym w ∙ h))
  mapped_ok (Err e) x h w = let d = err_from_is_err_and q h in absurd (never x d.0 (sym d.1 ∙ w))

  pub mapped_err : (r : Result X E) (d : Refusal) → MatchResult r (λ x. q ≡ Ok x) (λ e. IsErrAnd q (P e)) → q ≡ Err d → (e : E) × (Err e ≡ r) × P e d
  mapped_err (Ok x) d h w = absurd (never x d (sym w ∙ h))
  mapped_err (Err e) d h w =
      let f = err_from_is_err_and q h in
      (e, refl, subst (P e) (err_is f.0 d (sym f.1 ∙ w)) f.2)
