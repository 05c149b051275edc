-- No accepted message is the beginning of a longer one: by the modes the same cells belong to the frames of both, and the fills are one.
use Rattle.std.proofs.Common.{◌≡◌, ℕ, ◌+◌, ◌<◌, List, [], ◌∷◌, ◌++◌, length, drop, sym, refl, ap, ◌∙◌, arith, length-append}
use Rattle.carriers.specs.Cells.{Cell}
use Rattle.carriers.specs.Fields.{bits_of}
use Rattle.carriers.proofs.Spelt.{field_read, past}
use Rattle.pulses.proofs.CallLaws.{ok_is}
use Rattle.modes.specs.declared.mode.Mode.{Mode}
use Rattle.modes.specs.Modes.{number_of}
use Rattle.modes.specs.Plan.{plan, total}
use Rattle.messages.specs.Messages.{Content, filler}
use Rattle.messages.specs.Laws.{NoBeginnings}
use Rattle.messages.proofs.Placing.{spelt, append_assoc}
use Rattle.messages.proofs.Building.{mode_told, number_low}
use Rattle.messages.proofs.Accepted.{content_cells, body_of, tail_at, content_length}
use Rattle.messages.proofs.Meant.{parsed}
use Rattle.messages.proofs.Turned.{none_left}

-- four cells tell their number
head_same : (v w : ℕ) (xs ys : List Cell) → v < 16 → w < 16 → bits_of 4 v ++ xs ≡ bits_of 4 w ++ ys → v ≡ w
head_same v w xs ys h k e =
    ok_is v w (sym (field_read (bits_of 4 v ++ xs) xs 4 v 0 h refl) ∙ field_read (bits_of 4 v ++ xs) ys 4 w 0 k e)

-- the cells of a frame and what follows, by its mode
front : (b : Content) (bs : List Content) (k : ℕ) (rest : List Cell) → (body_of (b ∷ bs) ++ tail_at k) ++ rest ≡ bits_of 4 (number_of b.mode) ++ (spelt b.values (plan b.mode) ++ ((body_of bs ++ tail_at k) ++ rest))
front b bs k rest =
    ap (λ l. l ++ rest) (append_assoc (content_cells b) (body_of bs) (tail_at k))
    ∙ append_assoc (content_cells b) (body_of bs ++ tail_at k) rest
    ∙ append_assoc (bits_of 4 (number_of b.mode)) (spelt b.values (plan b.mode)) ((body_of bs ++ tail_at k) ++ rest)

cancel : (xs ys us vs : List Cell) → length xs ≡ length ys → xs ++ us ≡ ys ++ vs → us ≡ vs
cancel xs ys us vs l e =
    sym (past (xs ++ us) xs us 0 refl) ∙ ap (λ n. drop (0 + n) (xs ++ us)) l ∙ past (xs ++ us) ys vs 0 e

unique : (k : ℕ) (bs ds : List Content) (rest : List Cell) → (body_of bs ++ tail_at (k + length (body_of bs))) ++ rest ≡ body_of ds ++ tail_at (k + length (body_of ds)) → rest ≡ []
unique k [] [] rest e =
    let l = ap length e in
    let m = length-append (tail_at (k + 0)) rest in
    none_left rest (omega arith)
unique k [] (d ∷ ds) rest e =
    let n = number_low d.mode in
    let f : bits_of 4 15 ++ (bits_of (filler (k + 0 + 4)) 0 ++ rest) ≡ bits_of 4 (number_of d.mode) ++ _ = sym (append_assoc (bits_of 4 15) (bits_of (filler (k + 0 + 4)) 0) rest) ∙ e ∙ sym (nil_right (body_of (d ∷ ds) ++ tail_at (k + length (body_of (d ∷ ds))))) ∙ front d ds (k + length (body_of (d ∷ ds))) [] in
    let z = head_same 15 (number_of d.mode) _ _ (omega arith) (omega arith) f in
    absurd (omega arith)
  where
    nil_right : (xs : List Cell) → xs ++ [] ≡ xs
    nil_right [] = refl
    nil_right (x ∷ xs) = ap (λ l. x ∷ l) (nil_right xs)
unique k (b ∷ bs) [] rest e =
    let n = number_low b.mode in
    let f = sym (front b bs (k + length (body_of (b ∷ bs))) rest) ∙ e in
    let z = head_same (number_of b.mode) 15 _ _ (omega arith) (omega arith) f in
    absurd (omega arith)
unique k (b ∷ bs) (d ∷ ds) rest e =
    let i = k + length (body_of (b ∷ bs)) in
    let j = k + length (body_of (d ∷ ds)) in
    let nb = number_low b.mode in
    let nd = number_low d.mode in
    let e' : bits_of 4 (number_of b.mode) ++ (spelt b.values (plan b.mode) ++ ((body_of bs ++ tail_at i) ++ rest)) ≡ bits_of 4 (number_of d.mode) ++ (spelt d.values (plan d.mode) ++ (body_of ds ++ tail_at j)) =
    sym (front b bs i rest) ∙ e ∙ append_assoc (content_cells d) (body_of ds) (tail_at j) ∙ append_assoc (bits_of 4 (number_of d.mode)) (spelt d.values (plan d.mode)) (body_of ds ++ tail_at j) in
    let z : number_of b.mode ≡ number_of d.mode = head_same (number_of b.mode) (number_of d.mode) _ _ (omega arith) (omega arith) e' in
    let same : b.mode ≡ d.mode = mode_told b.mode d.mode z in
    let l : length (content_cells b) ≡ length (content_cells d) = content_length b ∙ ap (λ (m : Mode). 4 + total (plan m)) same ∙ sym (content_length d) in
    let f : content_cells b ++ ((body_of bs ++ tail_at i) ++ rest) ≡ content_cells d ++ (body_of ds ++ tail_at j) =
    append_assoc (bits_of 4 (number_of b.mode)) (spelt b.values (plan b.mode)) ((body_of bs ++ tail_at i) ++ rest) ∙ e' ∙ sym (append_assoc (bits_of 4 (number_of d.mode)) (spelt d.values (plan d.mode)) (body_of ds ++ tail_at j)) in
    let c : (body_of bs ++ tail_at i) ++ rest ≡ body_of ds ++ tail_at j = cancel (content_cells b) (content_cells d) ((body_of bs ++ tail_at i) ++ rest) (body_of ds ++ tail_at j) l f in
    let lb = length-append (content_cells b) (body_of bs) in
    let ld = length-append (content_cells d) (body_of ds) in
    let n = length (content_cells b) in
    let ei : i ≡ k + n + length (body_of bs) = omega arith in
    let ej : j ≡ k + n + length (body_of ds) = omega arith in
    unique (k + n) bs ds rest (ap (λ x. (body_of bs ++ tail_at x) ++ rest) (sym ei) ∙ c ∙ ap (λ x. body_of ds ++ tail_at x) ej)

pub no_beginnings : NoBeginnings
no_beginnings how cs rest bs ds e f =
    let p = parsed how cs 512 0 [] bs e in
    let q = parsed how (cs ++ rest) 512 0 [] ds f in
    unique 0 p.more q.more rest (sym (ap (λ l. l ++ rest) p.cells) ∙ q.cells)
