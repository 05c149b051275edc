-- What was read of a message: its cells, and that every frame is fine.
use Rattle.std.proofs.Common.{◌≡◌, ℕ, zero, suc, ◌+◌, ◌<◌, cond, ◌&&◌, eqb, List, [], ◌∷◌, ◌++◌, length, drop, Some, None, Ok, Err, Option, Result, sym, refl, ap, ◌∙◌, subst, ap₂, arith, length-drop}
use Rattle.std.specs.List.{AllByRecursion}
use Rattle.std.proofs.lemmas.Bool.{cond_both, eqb-true, eqb-false, and_parts}
use Rattle.refusals.specs.declared.cause.Cause.{Cause}
use Rattle.refusals.specs.declared.cause.Cause.TheVariants.{NoSuchMode, TooManyFrames, BadFill}
use Rattle.refusals.specs.declared.refusal.Refusal.{Refusal}
use Rattle.carriers.specs.Cells.{Cell}
use Rattle.carriers.specs.Fields.{bits_of}
use Rattle.carriers.specs.FieldReading.{read_bits}
use Rattle.carriers.proofs.Spelt.{field_spelt}
use Rattle.pulses.specs.declared.index.Reading.{Reading}
use Rattle.pulses.proofs.CallLaws.{never, ok_is}
use Rattle.modes.specs.declared.mode.Mode.{Mode}
use Rattle.modes.specs.Modes.{number_of, mode_of}
use Rattle.modes.specs.Plan.{plan, total}
use Rattle.messages.proofs.Asked.{by_begun}
use Rattle.messages.specs.Messages.{Content, content, refuse, bare, field, filler, ending, read_slots, blank, next_frame, read_from, read_frames}
use Rattle.messages.specs.Asked.{when_mode, begun, turn}
use Rattle.messages.specs.Contents.{Fine}
use Rattle.messages.proofs.Placing.{then_ok, spotted_ok, spelt, slots_read, frame_fine}
use Rattle.messages.proofs.Planned.{plan_rises}
use Rattle.messages.proofs.Turning.{onward, by_turn}

pub record Framed (how : Reading) (cs : List Cell) (left at : ℕ) (f : Content) : Type 0 where
  pub few : 0 < left
  pub cells : drop at cs ≡ bits_of 4 (number_of f.mode) ++ (spelt f.values (plan f.mode) ++ drop (at + 4 + total (plan f.mode)) cs)
  pub fine : Fine how f

pub record Ended (cs : List Cell) (at : ℕ) : Type 0 where
  pub cells : drop at cs ≡ bits_of 4 15 ++ bits_of (filler (at + 4)) 0

abbrev numbered : Option Mode → ℕ → ℕ
numbered None v = v
numbered (Some m) v = number_of m

number_of_lem : (v : ℕ) → numbered (mode_of v) v ≡ v
number_of_lem zero = refl
number_of_lem (suc zero) = refl
number_of_lem (suc (suc zero)) = refl
number_of_lem (suc (suc (suc zero))) = refl
number_of_lem (suc (suc (suc (suc zero)))) = refl
number_of_lem (suc (suc (suc (suc (suc zero))))) = refl
number_of_lem (suc (suc (suc (suc (suc (suc zero)))))) = refl
number_of_lem (suc (suc (suc (suc (suc (suc (suc zero))))))) = refl
number_of_lem (suc (suc (suc (suc (suc (suc (suc (suc zero)))))))) = refl
number_of_lem (suc (suc (suc (suc (suc (suc (suc (suc (suc v))))))))) = refl

pub mode_number : (v : ℕ) (m : Mode) → mode_of v ≡ Some m → v ≡ number_of m
mode_number v m e = sym (number_of_lem v) ∙ ap (λ (o : Option Mode). numbered o v) e

field_read_back : (cs : List Cell) (n at w v : ℕ) → field cs (bare n at) at w ≡ Ok v → read_bits cs at w 0 ≡ Ok v
unfolding field
field_read_back cs n at w v e = spotted_ok (bare n at) (read_bits cs at w 0) v e

pub none_left : {X : Type 0} (xs : List X) → length xs ≡ 0 → xs ≡ []
none_left [] e = refl
none_left (x ∷ xs) e = absurd (omega arith)

ended : (cs : List Cell) (n at : ℕ) (u : Unit {0}) → ending cs n at ≡ Ok u → drop at cs ≡ bits_of (filler at) 0
unfolding ending
ended cs n at u e =
    let p = then_ok (field cs (bare n at) at (filler at)) (λ v. cond (eqb v 0 && eqb (length cs) (at + filler at)) (Ok tt) (refuse BadFill (bare n at))) u e in
    let v = p.0 in
    let f = field_spelt cs at (filler at) v (field_read_back cs n at (filler at) v p.1) in
    cond_both (eqb v 0 && eqb (length cs) (at + filler at)) (Ok tt) (refuse BadFill (bare n at)) (λ (r : Result (Unit {0}) Refusal). r ≡ Ok u → drop at cs ≡ bits_of (filler at) 0)
    (λ t h.
    let q = and_parts (eqb v 0) (eqb (length cs) (at + filler at)) t in
    let z : v ≡ 0 = eqb-true v 0 q.0 in
    let l : length cs ≡ at + filler at = eqb-true (length cs) (at + filler at) q.1 in
    let rest : drop (at + filler at) cs ≡ [] = none_left (drop (at + filler at) cs) (length-drop (at + filler at) cs ∙ omega arith) in
    f.1 ∙ ap₂ (λ (x : ℕ) (xs : List Cell). bits_of (filler at) x ++ xs) z rest ∙ nil_right (bits_of (filler at) 0))
    (λ t h. absurd (never u _ h)) p.2
  where
    nil_right : (xs : List Cell) → xs ++ [] ≡ xs
    nil_right [] = refl
    nil_right (x ∷ xs) = ap (λ l. x ∷ l) (nil_right xs)

unfoldable pub Turned : Reading → List Cell → ℕ → ℕ → Option Content → Type 0
Turned how cs left at None = Ended cs at
Turned how cs left at (Some f) = Framed how cs left at f

-- what the number of the mode cells is, by what it begins
abbrev Means : ℕ → ℕ → Result (Option Mode) Cause → Type 0
Means left v (Ok None) = v ≡ 15
Means left v (Ok (Some m)) = (mode_of v ≡ Some m) × (0 < left)
Means left v (Err c) = Unit {0}

by_mode_means : (left v : ℕ) (o : Option Mode) → mode_of v ≡ o → Means left v (when_mode (Err NoSuchMode) (λ m. cond (eqb left 0) (Err TooManyFrames) (Ok (Some m))) o)
by_mode_means left v None e = tt
by_mode_means left v (Some m) e =
    cond_both (eqb left 0) (Err TooManyFrames) (Ok (Some m)) (Means left v) (λ t. tt) (λ t. (e, more left (eqb-false left 0 t)))
  where
    more : (k : ℕ) → (k ≡ 0 → ⊥) → 0 < k
    more zero h = absurd (h refl)
    more (suc k) h = omega arith

begun_means : (left v : ℕ) → Means left v (begun left v)
begun_means left v =
    cond_both (eqb v 15) (Ok None) (when_mode (Err NoSuchMode) (λ m. cond (eqb left 0) (Err TooManyFrames) (Ok (Some m))) (mode_of v)) (Means left v)
    (λ t. eqb-true v 15 t) (λ t. by_mode_means left v (mode_of v) refl)

turn_means : (how : Reading) (cs : List Cell) (left n at v : ℕ) (o : Option Content) (k : Result (Option Mode) Cause) → Means left v k → drop at cs ≡ bits_of 4 v ++ drop (at + 4) cs → turn how cs n at k ≡ Ok o → Turned how cs left at o
unfolding Turned turn
turn_means how cs left n at v o (Ok None) i f e =
    let q = then_ok (ending cs n (at + 4)) (λ _. Ok None) o e in
    let is : Ended cs at = record { cells = f ∙ ap₂ (λ (x : ℕ) (xs : List Cell). bits_of 4 x ++ xs) i (ended cs n (at + 4) q.0 q.1) } in
    subst (Turned how cs left at) (ok_is None o q.2) is
turn_means how cs left n at v o (Err c) i f e = absurd (never o _ e)
turn_means how cs left n at v o (Ok (Some m)) i f e =
    let p = then_ok (read_slots how cs m n (at + 4) (plan m) blank) (λ vs. Ok (Some (content m vs))) o e in
    let vs = p.0 in
    let w = slots_read how cs m n (at + 4) (plan m) blank vs 0 refl (plan_rises m) p.1 in
    let is : Framed how cs left at (content m vs) = record {
      few = i.1;
      cells = f ∙ ap₂ (λ (x : ℕ) (xs : List Cell). bits_of 4 x ++ xs) (mode_number v m i.0) w.cells;
      fine = frame_fine how cs m n (at + 4) vs p.1;
    } in
    subst (Turned how cs left at) (ok_is (Some (content m vs)) o p.2) is

pub turned : (how : Reading) (cs : List Cell) (left n at : ℕ) (o : Option Content) → next_frame how cs left n at ≡ Ok o → Turned how cs left at o
turned how cs left n at o e =
    let p = then_ok (field cs (bare n at) at 4) (λ v. turn how cs n at (begun left v)) o (sym (by_begun how cs n at left) ∙ e) in
    let v = p.0 in
    let f = field_spelt cs at 4 v (field_read_back cs n at 4 v p.1) in
    turn_means how cs left n at v o (begun left v) (begun_means left v) f.1 p.2

turned_fine : (how : Reading) (cs : List Cell) (left at : ℕ) (f : Content) → Turned how cs left at (Some f) → Fine how f
unfolding Turned
turned_fine how cs left at f t = t.fine

all_push : {X : Type 0} (P : X → Type 0) (xs : List X) (x : X) → AllByRecursion P xs → P x → AllByRecursion P (xs ++ x ∷ [])
all_push P [] x us u = (u, tt)
all_push P (y ∷ xs) x us u = (us.0, all_push P xs x us.1 u)

pub from_fine : (how : Reading) (cs : List Cell) (left at : ℕ) (before bs : List Content) → AllByRecursion (Fine how) before → read_from how cs left at before ≡ Ok bs → AllByRecursion (Fine how) bs
from_fine how cs zero at before bs us e =
    let p = then_ok (next_frame how cs 0 (length before) at) (onward how cs 0 at before) bs (sym (by_turn how cs 0 at before) ∙ e) in
    subst (AllByRecursion (Fine how)) (ok_is before bs p.2) us
from_fine how cs (suc left) at before bs us e =
    let p = then_ok (next_frame how cs (suc left) (length before) at) (onward how cs (suc left) at before) bs (sym (by_turn how cs (suc left) at before) ∙ e) in
    next p.0 (turned how cs (suc left) (length before) at p.0 p.1) (λ f us' h. from_fine how cs left (at + 4 + total (plan f.mode)) (before ++ f ∷ []) bs us' h) p.2
  where
    next : (o : Option Content) → Turned how cs (suc left) at o
        → ((f : Content) → AllByRecursion (Fine how) (before ++ f ∷ []) → read_from how cs left (at + 4 + total (plan f.mode)) (before ++ f ∷ []) ≡ Ok bs → AllByRecursion (Fine how) bs)
        → onward how cs (suc left) at before o ≡ Ok bs → AllByRecursion (Fine how) bs
    next None t go h = subst (AllByRecursion (Fine how)) (ok_is before bs h) us
    next (Some f) t go h = go f (all_push (Fine how) before f us (turned_fine how cs (suc left) at f t)) h

pub frames_fine : (how : Reading) (cs : List Cell) (bs : List Content) → read_frames how cs ≡ Ok bs → AllByRecursion (Fine how) bs
frames_fine how cs bs e = from_fine how cs 512 0 [] bs tt e
