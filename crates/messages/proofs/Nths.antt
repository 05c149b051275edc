-- One frame more.
use Rattle.std.proofs.Common.{◌≡◌, ℕ, zero, suc, cond, eqb, List, [], ◌∷◌, ◌++◌, length, Some, sym, refl, ap, ◌∙◌, inl, inr, arith}
use Rattle.std.proofs.lemmas.Bool.{ne_eqb, eq-eqb, cases_eq}
use Rattle.messages.specs.Messages.{Content}
use Rattle.messages.specs.Contents.{nth}

same_next : (j k : ℕ) → eqb j k ≡ eqb (suc j) (suc k)
same_next j k =
    elim (cases_eq j k) [
      | inl e ↦ eq-eqb j k e ∙ sym (eq-eqb (suc j) (suc k) (ap suc e))
      | inr n ↦ ne_eqb j k n ∙ sym (ne_eqb (suc j) (suc k) (λ e. n (omega arith)))
    ]

pub nth_push : (fs : List Content) (f : Content) (k : ℕ) → nth (fs ++ f ∷ []) k ≡ cond (eqb (length fs) k) (Some f) (nth fs k)
nth_push [] f zero = refl
nth_push [] f (suc k) = sym (rw (ne_eqb 0 (suc k) (λ e. omega arith)))
nth_push (g ∷ fs) f zero = sym (rw (ne_eqb (suc (length fs)) 0 (λ e. omega arith)))
nth_push (g ∷ fs) f (suc k) = nth_push fs f k ∙ ap (λ b. cond b (Some f) (nth fs k)) (same_next (length fs) k)
