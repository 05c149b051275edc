-- Which subframe the short delays count from.
use Rattle.std.proofs.Common.{◌≡◌, ℕ, zero, suc, ◌+◌, ◌*◌, ◌<◌, cond, eqb, sym, refl, ap, ◌∙◌, ap₂, arith}
use Rattle.std.proofs.lemmas.Bool.{eq-eqb, ne_eqb}
use Rattle.modes.specs.declared.mode.Mode.{Mode}
use Rattle.frames.specs.declared.frame.Frame.{Frame}
use Rattle.modes.specs.declared.field.Field.TheVariants.{Delay}
use Rattle.frames.specs.Frames.{value, field_bits}
use Rattle.frames.specs.Delays.{long_delay, short_base, step, last_long, long_before, delay}
use Rattle.modes.proofs.Modes.{by_mode}

pub by_four : (P : ℕ → Type 0) → P 0 → P 1 → P 2 → P 3 → (s : ℕ) → s < 4 → P s
by_four P a b c d zero h = a
by_four P a b c d (suc zero) h = b
by_four P a b c d (suc (suc zero)) h = c
by_four P a b c d (suc (suc (suc zero))) h = d
by_four P a b c d (suc (suc (suc (suc s)))) h = absurd (omega arith)

pub last_long_lem : (s : ℕ) → s < 4 → (m : Mode) → long_before m s ≡ last_long m s
last_long_lem =
    by_four (λ s. (m : Mode) → long_before m s ≡ last_long m s)
    (by_mode (λ m. long_before m 0 ≡ last_long m 0) refl refl refl refl refl refl refl refl refl)
    (by_mode (λ m. long_before m 1 ≡ last_long m 1) refl refl refl refl refl refl refl refl refl)
    (by_mode (λ m. long_before m 2 ≡ last_long m 2) refl refl refl refl refl refl refl refl refl)
    (by_mode (λ m. long_before m 3 ≡ last_long m 3) refl refl refl refl refl refl refl refl refl)

-- the long delay of a subframe
abbrev long : Frame → ℕ → ℕ
long f l = long_delay (field_bits f (Delay l)) (value f (Delay l))

abbrev short : Frame → ℕ → ℕ → ℕ
short f q s = 4 * short_base q + step (field_bits f (Delay s)) * value f (Delay s)

by_test : (f : Frame) (s : ℕ) → delay f s ≡ cond (eqb (last_long f.mode s) s) (long f (last_long f.mode s)) (short f (long f (last_long f.mode s)) s)
unfolding delay
by_test f s = refl

long_is : (f : Frame) (s l b d q : ℕ) → l ≡ last_long f.mode s → b ≡ field_bits f (Delay l) → d ≡ value f (Delay l) → q ≡ long_delay b d → q ≡ long f (last_long f.mode s)
long_is f s l b d q el eb ed eq = eq ∙ ap₂ long_delay eb ed ∙ ap (long f) el

pub delay_long : (f : Frame) (s l b d q : ℕ) → l ≡ last_long f.mode s → b ≡ field_bits f (Delay l) → d ≡ value f (Delay l) → q ≡ long_delay b d → l ≡ s → q ≡ delay f s
delay_long f s l b d q el eb ed eq e =
    let m = last_long f.mode s in
    long_is f s l b d q el eb ed eq
    ∙ sym (ap (λ t. cond t (long f m) (short f (long f m) s)) (eq-eqb m s (sym el ∙ e)))
    ∙ sym (by_test f s)

pub delay_short : (f : Frame) (s l b d q base b' st d' : ℕ) → l ≡ last_long f.mode s → b ≡ field_bits f (Delay l) → d ≡ value f (Delay l) → q ≡ long_delay b d
    → (l ≡ s → ⊥) → base ≡ short_base q → b' ≡ field_bits f (Delay s) → st ≡ step b' → d' ≡ value f (Delay s) → 4 * base + st * d' ≡ delay f s
delay_short f s l b d q base b' st d' el eb ed eq ne e₁ e₂ e₃ e₄ =
    let m = last_long f.mode s in
    ap₂ (λ x y. 4 * x + y) (e₁ ∙ ap short_base (long_is f s l b d q el eb ed eq)) (ap₂ (λ x y. x * y) (e₃ ∙ ap step e₂) e₄)
    ∙ sym (ap (λ t. cond t (long f m) (short f (long f m) s)) (ne_eqb m s (λ e. ne (el ∙ e))))
    ∙ sym (by_test f s)
