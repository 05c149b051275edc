-- The text of lines, line by line.
use Rattle.std.proofs.Common.{◌≡◌, ℕ, suc, ◌+◌, ◌<◌, ◌≤◌, List, [], ◌∷◌, ◌++◌, length, get_or, take, sym, refl, ap, ◌∙◌, append_assoc, arith}
use Rattle.std.proofs.lemmas.List.{append-nil, take_more, take_all, length-take-le}
use Rattle.frames.specs.declared.frame.Frame.{Frame}
use Rattle.frames.specs.Delays.{delay}
use Rattle.frames.proofs.Lags.{by_four}
use Rattle.sheets.specs.declared.line.Line.{Line}
use Rattle.sheets.specs.declared.line.Line.TheVariants.{Delay, End}
use Rattle.sheets.specs.Lines.{line_text}
use Rattle.sheets.specs.Sheets.{text, frame_lines, delays_from, sheet_lines}

pub text_append : (ls ms : List Line) → text (ls ++ ms) ≡ text ls ++ text ms
text_append [] ms = refl
text_append (l ∷ ls) ms = ap (λ bs. (line_text l ++ 10 ∷ []) ++ bs) (text_append ls ms) ∙ sym (append_assoc (line_text l ++ 10 ∷ []) (text ls) (text ms))

-- one line more
line_more : (before bs : List ℕ) (ls : List Line) (k : ℕ) (l : Line) → k < length ls → get_or ls k l ≡ l → bs ≡ before ++ text (take k ls) → bs ++ text (l ∷ []) ≡ before ++ text (take (k + 1) ls)
line_more before bs ls k l h e b =
    ap (λ x. x ++ text (l ∷ [])) b
    ∙ append_assoc before (text (take k ls)) (text (l ∷ []))
    ∙ ap (λ x. before ++ x) (sym (text_append (take k ls) (l ∷ [])) ∙ ap text (ap (λ (y : Line). take k ls ++ y ∷ []) (sym e) ∙ sym (take_more ls k l h)))

-- the delays of a frame
frame_line : (n : ℕ) (f : Frame) (s : ℕ) → s < 4 → (d : Line) → get_or (frame_lines n f) s d ≡ Delay n s (get_or (delay f 0 ∷ delay f 1 ∷ delay f 2 ∷ delay f 3 ∷ []) s 0)
frame_line n f = by_four (λ s. (d : Line) → get_or (frame_lines n f) s d ≡ Delay n s (get_or (delay f 0 ∷ delay f 1 ∷ delay f 2 ∷ delay f 3 ∷ []) s 0)) (λ d. refl) (λ d. refl) (λ d. refl) (λ d. refl)

pub delays_more : (before bs : List ℕ) (n : ℕ) (f : Frame) (qs : List ℕ) (s : ℕ) → s < 4 → qs ≡ delay f 0 ∷ delay f 1 ∷ delay f 2 ∷ delay f 3 ∷ []
    → bs ≡ before ++ text (take s (frame_lines n f)) → bs ++ text (Delay n s (get_or qs s 0) ∷ []) ≡ before ++ text (take (s + 1) (frame_lines n f))
delays_more before bs n f qs s h e b =
    let l = Delay n s (get_or qs s 0) in
    line_more before bs (frame_lines n f) s l h (frame_line n f s h l ∙ ap (λ (xs : List ℕ). Delay n s (get_or xs s 0)) (sym e)) b

-- the delays of all frames
delays_push : (k : ℕ) (fs : List Frame) (f : Frame) → delays_from k (fs ++ f ∷ []) ≡ delays_from k fs ++ frame_lines (k + length fs) f
delays_push k [] f = append-nil (frame_lines k f) ∙ ap (λ n. frame_lines n f) (let z : k ≡ k + 0 = omega arith in z)
delays_push k (g ∷ fs) f =
    ap (λ (ls : List Line). frame_lines k g ++ ls) (delays_push (suc k) fs f ∙ ap (λ n. delays_from (suc k) fs ++ frame_lines n f) (let z : suc k + length fs ≡ k + suc (length fs) = omega arith in z))
    ∙ sym (append_assoc (frame_lines k g) (delays_from (suc k) fs) (frame_lines (k + suc (length fs)) f))

pub frames_more : (before bs : List ℕ) (fs : List Frame) (n : ℕ) (f : Frame) → n < length fs → f ≡ get_or fs n f
    → bs ≡ before ++ text (delays_from 0 (take n fs)) → bs ++ text (frame_lines n f) ≡ before ++ text (delays_from 0 (take (n + 1) fs))
frames_more before bs fs n f h e b =
    let l : 0 + length (take n fs) ≡ n = let m : n ≤ length fs = omega arith in omega (arith, length-take-le n fs m) in
    let lines : delays_from 0 (take n fs) ++ frame_lines n f ≡ delays_from 0 (take (n + 1) fs) =
    sym (ap (delays_from 0) (take_more fs n f h ∙ ap (λ (g : Frame). take n fs ++ g ∷ []) (sym e)) ∙ delays_push 0 (take n fs) f ∙ ap (λ k. delays_from 0 (take n fs) ++ frame_lines k f) l) in
    ap (λ x. x ++ text (frame_lines n f)) b
    ∙ append_assoc before (text (delays_from 0 (take n fs))) (text (frame_lines n f))
    ∙ ap (λ x. before ++ x) (sym (text_append (delays_from 0 (take n fs)) (frame_lines n f)) ∙ ap text lines)

pub frames_all : (before bs after : List ℕ) (fs : List Frame) (n : ℕ) → length fs ≤ n → bs ≡ before ++ text (delays_from 0 (take n fs))
    → after ≡ bs ++ text (End (length fs) ∷ []) → after ≡ before ++ text (sheet_lines fs)
frames_all before bs after fs n h b e =
    e
    ∙ ap (λ x. x ++ text (End (length fs) ∷ [])) (b ∙ ap (λ (gs : List Frame). before ++ text (delays_from 0 gs)) (take_all n fs h))
    ∙ append_assoc before (text (delays_from 0 fs)) (text (End (length fs) ∷ []))
    ∙ ap (λ x. before ++ x) (sym (text_append (delays_from 0 fs) (End (length fs) ∷ [])))
