-- The laws of reading: what strict reading accepts is a message, and what a message is read as.
use Rattle.std.proofs.Common.{◌≡◌, ℕ, zero, suc, ◌+◌, ◌≤◌, List, [], ◌∷◌, ◌++◌, map, length, drop, Some, None, Ok, Err, Option, Result, sym, refl, ap, ◌∙◌, subst, ap₂, add-zero, arith, length-append}
use Rattle.refusals.specs.declared.refusal.Refusal.{Refusal}
use Rattle.carriers.specs.Cells.{Cell}
use Rattle.carriers.specs.Fields.{bits_of}
use Rattle.pulses.specs.declared.index.Reading.{Reading}
use Rattle.pulses.specs.declared.index.Reading.TheVariants.{Strict}
use Rattle.pulses.proofs.CallLaws.{never, ok_is}
use Rattle.modes.specs.Modes.{number_of}
use Rattle.modes.specs.Plan.{plan, total}
use Rattle.frames.specs.declared.frame.Frame.{Frame}
use Rattle.frames.specs.Bits.{frame_bits}
use Rattle.frames.proofs.Agreeing.{equal_bits_agree}
use Rattle.messages.specs.Messages.{Content, next_frame, read_from, read_frames, counted}
use Rattle.messages.specs.Contents.{nth}
use Rattle.messages.specs.Contents.{Stands, Recorded, Returned}
use Rattle.messages.specs.Written.{as_cells, body, message}
use Rattle.messages.specs.Laws.{picked, ReturnsFrames, Alike, EqualMessagesAgree}
use Rattle.messages.proofs.Placing.{then_ok, spelt, append_assoc}
use Rattle.messages.proofs.Turning.{onward, by_turn}
use Rattle.messages.proofs.Turned.{Framed, Ended, Turned, turned}
use Rattle.messages.proofs.Standing.{stands_alone}
use Rattle.messages.proofs.Accepted.{content_cells, body_of, tail_at, content_length, from_accepted}
use Rattle.messages.proofs.Housed.{sent_of, sent_body, all_sent, sent_stands}

-- the cells of what was read
pub record Parsed (cs : List Cell) (left at : ℕ) (before bs : List Content) : Type 0 where
  pub more : List Content
  pub is : bs ≡ before ++ more
  pub few : length more ≤ left
  pub cells : drop at cs ≡ body_of more ++ tail_at (at + length (body_of more))

nil_right : {X : Type 0} (xs : List X) → xs ++ [] ≡ xs
nil_right [] = refl
nil_right (x ∷ xs) = ap (λ l. x ∷ l) (nil_right xs)

parsed_end : (cs : List Cell) (left at : ℕ) (before bs : List Content) → Ended cs at → before ≡ bs → Parsed cs left at before bs
parsed_end cs left at before bs t e = record { more = []; is = sym e ∙ sym (nil_right before); few = omega arith; cells = t.cells ∙ ap tail_at (sym (add-zero at)) }

parsed_more : (how : Reading) (cs : List Cell) (left at : ℕ) (before bs : List Content) (f : Content) → Framed how cs (suc left) at f
    → Parsed cs left (at + 4 + total (plan f.mode)) (before ++ f ∷ []) bs → Parsed cs (suc left) at before bs
parsed_more how cs left at before bs f t p =
    let at₂ = at + 4 + total (plan f.mode) in
    let more = p.more in
    let len = content_length f in
    let both = length-append (content_cells f) (body_of more) in
    let there : at₂ + length (body_of more) ≡ at + length (body_of (f ∷ more)) = omega arith in
    let tail : drop at₂ cs ≡ body_of more ++ tail_at (at + length (body_of (f ∷ more))) = p.cells ∙ ap (λ k. body_of more ++ tail_at k) there in
    record {
      more = f ∷ more;
      is = p.is ∙ append_assoc before (f ∷ []) more;
      few = omega (arith, p.few);
      cells = t.cells
          ∙ sym (append_assoc (bits_of 4 (number_of f.mode)) (spelt f.values (plan f.mode)) (drop at₂ cs))
          ∙ ap (λ l. content_cells f ++ l) tail
          ∙ sym (append_assoc (content_cells f) (body_of more) (tail_at (at + length (body_of (f ∷ more)))));
    }

pub parsed : (how : Reading) (cs : List Cell) (left at : ℕ) (before bs : List Content) → read_from how cs left at before ≡ Ok bs → Parsed cs left at before bs
unfolding Turned
parsed how cs zero at before bs e =
    let p = then_ok (next_frame how cs 0 (length before) at) (onward how cs 0 at before) bs (sym (by_turn how cs 0 at before) ∙ e) in
    last p.0 (turned how cs 0 (length before) at p.0 p.1) (ok_is before bs p.2)
  where
    last : (o : Option Content) → Turned how cs 0 at o → before ≡ bs → Parsed cs 0 at before bs
    last None t h = parsed_end cs 0 at before bs t h
    last (Some f) t h = absurd (omega (arith, t.few))
parsed how cs (suc left) at before bs e =
    let p = then_ok (next_frame how cs (suc left) (length before) at) (onward how cs (suc left) at before) bs (sym (by_turn how cs (suc left) at before) ∙ e) in
    next p.0 (turned how cs (suc left) (length before) at p.0 p.1) (λ f h. parsed how cs left (at + 4 + total (plan f.mode)) (before ++ f ∷ []) bs h) p.2
  where
    next : (o : Option Content) → Turned how cs (suc left) at o
        → ((f : Content) → read_from how cs left (at + 4 + total (plan f.mode)) (before ++ f ∷ []) ≡ Ok bs → Parsed cs left (at + 4 + total (plan f.mode)) (before ++ f ∷ []) bs)
        → onward how cs (suc left) at before o ≡ Ok bs → Parsed cs (suc left) at before bs
    next None t go h = parsed_end cs (suc left) at before bs t (ok_is before bs h)
    next (Some f) t go h = parsed_more how cs left at before bs f t (go f h)

pub counted_ok : (r : Result (List Content) Refusal) (n : ℕ) → counted r ≡ Ok n → (bs : List Content) × (r ≡ Ok bs) × (length bs ≡ n)
counted_ok (Ok bs) n e = (bs, refl, ok_is (length bs) n e)
counted_ok (Err d) n e = absurd (never n d e)

sent_count : (fs : List Frame) → length (map sent_of fs) ≡ length fs
sent_count [] = refl
sent_count (f ∷ fs) = ap suc (sent_count fs)

-- a message is read as its frames
pub message_read : (fs : List Frame) → length fs ≤ 512 → read_frames Strict (message fs) ≡ Ok (map sent_of fs)
unfolding message
message_read fs l =
    let e : body fs ++ tail_at (length (body fs)) ≡ body_of (map sent_of fs) ++ tail_at (0 + length (body_of (map sent_of fs))) =
    ap (λ (b : List Cell). b ++ tail_at (length b)) (sent_body fs) ∙ ap (λ k. body_of (map sent_of fs) ++ tail_at k) (let z : length (body_of (map sent_of fs)) ≡ 0 + length (body_of (map sent_of fs)) = omega arith in z) in
    from_accepted Strict (body fs ++ tail_at (length (body fs))) 512 0 [] (map sent_of fs) (all_sent fs) (omega (arith, sent_count fs)) e

-- a returned frame is the record
recorded : (fs : List Frame) (n : ℕ) (r : Result Frame Refusal) → Recorded (nth (map sent_of fs) n) r → r ≡ picked fs n
recorded [] n (Ok g) h = absurd h
recorded [] n (Err e) h = ap Err h
recorded (f ∷ fs) zero (Ok g) h = ap Ok (stands_alone (sent_of f) g f h (sent_stands f))
recorded (f ∷ fs) zero (Err e) h = absurd h
recorded (f ∷ fs) (suc n) r h = recorded fs n r h

pub returns_frames : ReturnsFrames
returns_frames fs n r l h = recorded fs n r (subst (λ (a : Result (List Content) Refusal). Returned a n r) (message_read fs l) h)

-- equal messages
same_frames : (fs gs : List Frame) → map sent_of fs ≡ map sent_of gs → Alike fs gs
same_frames [] [] e = tt
same_frames [] (g ∷ gs) e = let z : 0 ≡ suc (length (map sent_of gs)) = ap length e in absurd (omega arith)
same_frames (f ∷ fs) [] e = let z : suc (length (map sent_of fs)) ≡ 0 = ap length e in absurd (omega arith)
same_frames (f ∷ fs) (g ∷ gs) e =
    let h : sent_of f ≡ sent_of g = ap (head (sent_of f)) e in
    let t : map sent_of fs ≡ map sent_of gs = ap tail e in
    let same : f ≡ g = stands_alone (sent_of g) f g (subst (λ (b : Content). Stands b f) h (sent_stands f)) (sent_stands g) in
    (ap (λ (x : Frame). x.mode) same, (equal_bits_agree f g (ap (λ (x : Frame). x.mode) same)).0 (ap frame_bits same), same_frames fs gs t)
  where
    head : Content → List Content → Content
    head d [] = d
    head d (b ∷ bs) = b

    tail : List Content → List Content
    tail [] = []
    tail (b ∷ bs) = bs

alike_bodies : (fs gs : List Frame) → Alike fs gs → body fs ≡ body gs
alike_bodies [] [] a = refl
alike_bodies [] (g ∷ gs) a = absurd a
alike_bodies (f ∷ fs) [] a = absurd a
alike_bodies (f ∷ fs) (g ∷ gs) a =
    ap₂ (λ (x y : List Cell). x ++ y)
    (ap₂ (λ (k : ℕ) (l : List ℕ). bits_of 4 k ++ as_cells l) (ap number_of a.0) ((equal_bits_agree f g a.0).1 a.1))
    (alike_bodies fs gs a.2)

pub equal_messages_agree : EqualMessagesAgree
unfolding message
equal_messages_agree fs gs l k = (
  (λ e. same_frames fs gs (ok_is (map sent_of fs) (map sent_of gs) (sym (message_read fs l) ∙ ap (read_frames Strict) e ∙ message_read gs k))),
  (λ a. ap (λ (b : List Cell). b ++ tail_at (length b)) (alike_bodies fs gs a)),
)
