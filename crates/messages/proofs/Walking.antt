-- A walk over the frames of a message: what it has read, and what is left.
use Rattle.std.proofs.Common.{◌≡◌, ◌+◌, ◌-◌, ◌<◌, ◌≤◌, ◌⊎◌, ⊎_elim, inl, inr, Result, List, [], ◌∷◌, ◌++◌, length, Some, None, Option, Ok, Err, sym, refl, ap, ◌∙◌, subst, arith}
use Rattle.std.proofs.lemmas.List.{length_push}
use Rattle.refusals.specs.declared.refusal.Refusal.{Refusal}
use Rattle.carriers.specs.Cells.{Cell}
use Rattle.pulses.specs.declared.index.Reading.{Reading}
use Rattle.modes.specs.Plan.{plan, total}
use Rattle.messages.specs.declared.body.Body.{Body}
use Rattle.messages.specs.Messages.{Content, read_from, read_frames}
use Rattle.messages.specs.Seen.{content_of}
use Rattle.messages.specs.Turn.{Stand, beginning, next_at, Walks}
use Rattle.messages.specs.Gathered.{Begins}
use Rattle.messages.proofs.Turning.{turn_over, turn_refused, turn_more}

-- the walk over the message of the cells cs has read the frames bs, and stands at o
pub record Walked (how : Reading) (cs : List Cell) (bs : List Content) (o : Option Stand) : Type 0 where
  pub at : Stand
  pub is : o ≡ Some at
  pub few : at.frame ≤ 512
  pub long : length bs ≡ at.frame
  pub left : read_from at.how at.cells (512 - at.frame) at.at bs ≡ read_frames how cs
  pub first : (at ≡ beginning how cs) ⊎ Begins how cs

pub walk_start : (how : Reading) (cs : List Cell) (o : Option Stand) → o ≡ Some (beginning how cs) → Walked how cs [] o
walk_start how cs o e = record { at = beginning how cs; is = e; few = omega arith; long = refl; left = refl; first = inl refl }

module _ (how : Reading) (cs : List Cell) (bs : List Content) (o t : Option Stand) (r : Result Body Refusal) (w : Walked how cs bs o) (m : Walks o (Some r) t) where
  walks : (q : Result Body Refusal) → r ≡ q → Walks (Some w.at) (Some q) t
  walks q e = subst (λ (q : Result Body Refusal). Walks (Some w.at) (Some q) t) e (subst (λ (o : Option Stand). Walks o (Some r) t) w.is m)

  -- a message whose first frame is accepted
  pub walk_begins : (b : Body) → r ≡ Ok b → Begins how cs
  walk_begins b e =
      let n : Ok (Some (content_of b)) ≡ next_at w.at = (walks (Ok b) e).0 in
      ⊎_elim (λ i. (content_of b, sym (subst (λ (s : Stand). Ok (Some (content_of b)) ≡ next_at s) i n))) (λ p. p) w.first

  pub walk_more : (b : Body) → r ≡ Ok b → Walked how cs (bs ++ content_of b ∷ []) t
  walk_more b e =
      let f = content_of b in
      let s = w.at in
      let m' = walks (Ok b) e in
      let less : s.frame < 512 = m'.1 in
      record {
        at = record s { frame = s.frame + 1; at = s.at + 4 + total (plan b.parts.mode) };
        is = m'.2;
        few = omega (arith, less);
        long = length_push bs f ∙ ap (λ k. k + 1) w.long;
        left = sym (turn_more s.how s.cells (512 - s.frame) (512 - (s.frame + 1)) s.frame s.at bs f (omega (arith, less)) w.long m'.0) ∙ w.left;
        first = inr (walk_begins b e);
      }

  pub walk_refused : (x : Refusal) → r ≡ Err x → read_frames how cs ≡ Err x
  walk_refused x e = let s = w.at in sym w.left ∙ turn_refused s.how s.cells (512 - s.frame) s.frame s.at bs x w.long (walks (Err x) e).0

pub walk_over : (how : Reading) (cs : List Cell) (bs : List Content) (o t : Option Stand) → Walked how cs bs o → Walks o None t → read_frames how cs ≡ Ok bs
walk_over how cs bs o t w m =
    let s = w.at in
    sym w.left ∙ turn_over s.how s.cells (512 - s.frame) s.frame s.at bs w.long (subst (λ (o : Option Stand). Walks o None t) w.is m).0
