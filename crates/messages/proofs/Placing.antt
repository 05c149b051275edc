-- What was read of a frame's slots: where they stand, that they fit, and that every track was accepted.
use Rattle.std.proofs.Common.{◌≡◌, ℕ, suc, ◌+◌, ◌-◌, ◌^◌, ◌<◌, List, [], ◌∷◌, ◌++◌, length, get_or, drop, set, Ok, Err, Result, sym, refl, ap, ◌∙◌, subst, ap₂, ⊎_elim, add-zero, add_assoc, arith, length-set, get_or-set_other, get_or-set_same, pow_pos}
use Rattle.std.specs.List.{AllByRecursion}
use Rattle.std.proofs.lemmas.Bool.{cases_lt, lt-ltb, le-ltb}
use Rattle.refusals.specs.declared.refusal.Spot.{Spot}
use Rattle.refusals.specs.declared.refusal.Refusal.{Refusal}
use Rattle.carriers.specs.Cells.{Cell}
use Rattle.carriers.specs.Fields.{bits_of}
use Rattle.carriers.specs.FieldReading.{read_bits}
use Rattle.carriers.proofs.Spelt.{field_spelt}
use Rattle.pulses.specs.declared.pulse.Pulse.{Pulse}
use Rattle.pulses.specs.declared.index.Reading.{Reading}
use Rattle.pulses.specs.Calls.{read_index}
use Rattle.pulses.proofs.CallLaws.{never, ok_is}
use Rattle.modes.specs.declared.mode.Mode.{Mode}
use Rattle.modes.specs.declared.plan.Part.{Part}
use Rattle.modes.specs.declared.plan.Part.TheVariants.{Value, High, Low}
use Rattle.modes.specs.declared.plan.Slot.{Slot}
use Rattle.modes.specs.Modes.{row, pulses_in}
use Rattle.pulses.specs.Rules.{bits}
use Rattle.modes.proofs.Modes.{by_mode, pulses_in_has, pulses_in_here}
use Rattle.frames.proofs.Lags.{by_four}
use Rattle.modes.specs.Plan.{low_bits, high_bits, part_width, plan, total}
use Rattle.frames.specs.Bits.{place_of}
use Rattle.frames.proofs.Blanks.{replicate_at}
use Rattle.messages.specs.Messages.{content, and_then, spotted, slot_spot, settled, joined, field, questioned, read_slot, read_slots, blank}
use Rattle.messages.specs.Contents.{Fine}
use Rattle.messages.proofs.Planned.{Away, Rises, rises_head, rises_away, plan_part, plan_away, plan_rises}

pub then_ok : {X Y : Type 0} (r : Result X Refusal) (f : X → Result Y Refusal) (y : Y) → and_then r f ≡ Ok y → (x : X) × (r ≡ Ok x) × (f x ≡ Ok y)
then_ok (Ok x) f y e = (x, refl, e)
then_ok (Err d) f y e = absurd (never y d e)

pub spotted_ok : {X : Type 0} (p : Spot) (r : Result X Refusal) (x : X) → spotted p r ≡ Ok x → r ≡ Ok x
spotted_ok p (Ok y) x e = e
spotted_ok p (Err d) x e = absurd (never x _ e)

pub slot_read : (how : Reading) (cs : List Cell) (m : Mode) (n at : ℕ) (s : Slot) (vs : List ℕ) (v : ℕ) → read_slot how cs m n at s vs ≡ Ok v
    → (read_bits cs at s.width 0 ≡ Ok v) × (questioned how m vs s.part s.width v ≡ Ok tt)
unfolding read_slot field
slot_read how cs m n at s vs v e =
    let p = then_ok (spotted (slot_spot n s at) (read_bits cs at s.width 0)) (λ v. and_then (spotted (slot_spot n s at) (questioned how m vs s.part s.width v)) (λ _. Ok v)) v e in
    let q = then_ok (spotted (slot_spot n s at) (questioned how m vs s.part s.width p.0)) (λ _. Ok p.0) v p.2 in
    let same : p.0 ≡ v = ok_is p.0 v q.2 in (
      spotted_ok (slot_spot n s at) (read_bits cs at s.width 0) p.0 p.1 ∙ ap Ok same,
      subst (λ z. questioned how m vs s.part s.width z ≡ Ok tt) same (spotted_ok (slot_spot n s at) (questioned how m vs s.part s.width p.0) q.0 q.1),
    )

pub slots_head : (how : Reading) (cs : List Cell) (m : Mode) (n at : ℕ) (s : Slot) (ss : List Slot) (vs us : List ℕ) → read_slots how cs m n at (s ∷ ss) vs ≡ Ok us
    → (v : ℕ) × (read_slot how cs m n at s vs ≡ Ok v) × (read_slots how cs m n (at + s.width) ss (set vs (place_of s.part) v) ≡ Ok us)
unfolding read_slots
slots_head how cs m n at s ss vs us e = then_ok (read_slot how cs m n at s vs) (λ v. read_slots how cs m n (at + s.width) ss (set vs (place_of s.part) v)) us e

slots_none : (how : Reading) (cs : List Cell) (m : Mode) (n at : ℕ) (vs us : List ℕ) → read_slots how cs m n at [] vs ≡ Ok us → vs ≡ us
unfolding read_slots
slots_none how cs m n at vs us e = ok_is vs us e

-- a place without a slot is left
pub kept_away : (how : Reading) (cs : List Cell) (m : Mode) (n at : ℕ) (ss : List Slot) (vs us : List ℕ) (q : ℕ) → read_slots how cs m n at ss vs ≡ Ok us → Away q ss → get_or us q 0 ≡ get_or vs q 0
kept_away how cs m n at [] vs us q e a = ap (λ (xs : List ℕ). get_or xs q 0) (sym (slots_none how cs m n at vs us e))
kept_away how cs m n at (s ∷ ss) vs us q e a =
    let p = slots_head how cs m n at s ss vs us e in
    kept_away how cs m n (at + s.width) ss (set vs (place_of s.part) p.0) us q p.2 a.1
    ∙ get_or-set_other vs (place_of s.part) q p.0 0 (λ i. a.0 (sym i))

-- the cells that the slots of a frame spell, by the values at their places
unfoldable pub spelt : List ℕ → List Slot → List Cell
spelt us [] = []
spelt us (s ∷ ss) = bits_of s.width (get_or us (place_of s.part) 0) ++ spelt us ss

-- each value fits, and no track is refused
abbrev pub Good : Reading → Mode → List ℕ → Slot → Type 0
Good how m us s =
    (get_or us (place_of s.part) 0 < 2 ^ s.width) × (questioned how m us s.part s.width (get_or us (place_of s.part) 0) ≡ Ok tt)

-- a high part stands before its low part
high_before : (s t : ℕ) → place_of (Low s t) < 56 → place_of (High s t) < place_of (Low s t)
high_before s t h =
    ⊎_elim
    (λ a. ⊎_elim
    (λ b. rw (lt-ltb t 4 a, lt-ltb s 4 b) (omega arith))
    (λ b. absurd (let g = rw (lt-ltb t 4 a, le-ltb s 4 b) at h in omega arith))
    (cases_lt s 4))
    (λ a. absurd (let g = rw (le-ltb t 4 a) at h in omega arith))
    (cases_lt t 4)

-- a question goes by the values of the track alone
pub asked_same : (how : Reading) (m : Mode) (vs us : List ℕ) (p : Part) (w v : ℕ) → place_of p < 56 → ((q : ℕ) → q < place_of p → get_or us q 0 ≡ get_or vs q 0) → questioned how m vs p w v ≡ questioned how m us p w v
unfolding questioned
asked_same how m vs us (Value x) w v l h = refl
asked_same how m vs us (High s t) w v l h = refl
asked_same how m vs us (Low s t) w v l h =
    ap (λ z. settled (read_index how (pulses_in m s t) (row m).places (joined z w v))) (sym (h (place_of (High s t)) (high_before s t l)))

pub record SlotsWereRead (how : Reading) (cs : List Cell) (m : Mode) (at : ℕ) (ss : List Slot) (us : List ℕ) : Type 0 where
  pub cells : drop at cs ≡ spelt us ss ++ drop (at + total ss) cs
  pub good : AllByRecursion (Good how m us) ss

pub append_assoc : {X : Type 0} (xs ys zs : List X) → (xs ++ ys) ++ zs ≡ xs ++ (ys ++ zs)
append_assoc [] ys zs = refl
append_assoc (x ∷ xs) ys zs = ap (λ l. x ∷ l) (append_assoc xs ys zs)

pub slots_read : (how : Reading) (cs : List Cell) (m : Mode) (n at : ℕ) (ss : List Slot) (vs us : List ℕ) (b : ℕ) → length vs ≡ 57 → Rises b ss → read_slots how cs m n at ss vs ≡ Ok us → SlotsWereRead how cs m at ss us
unfolding spelt
slots_read how cs m n at [] vs us b l r e = record { cells = ap (λ k. drop k cs) (sym (add-zero at)); good = tt }
slots_read how cs m n at (s ∷ ss) vs us b l r e =
    let k = place_of s.part in
    let h = rises_head b s ss r in
    let p = slots_head how cs m n at s ss vs us e in
    let v = p.0 in
    let q = slot_read how cs m n at s vs v p.1 in
    let f = field_spelt cs at s.width v q.0 in
    let below : (j : ℕ) → j < suc k → get_or us j 0 ≡ get_or (set vs k v) j 0 = λ j i. kept_away how cs m n (at + s.width) ss (set vs k v) us j p.2 (rises_away (suc k) j ss h.2 i) in
    let here : get_or us k 0 ≡ v = below k (omega arith) ∙ get_or-set_same vs k v 0 (omega (arith, h.1, l)) in
    let front : (j : ℕ) → j < k → get_or us j 0 ≡ get_or vs j 0 = λ j i. below j (omega arith) ∙ get_or-set_other vs k j v 0 (λ z. omega arith) in
    let more = slots_read how cs m n (at + s.width) ss (set vs k v) us (suc k) (length-set vs k v ∙ l) h.2 p.2 in
    record {
      cells = f.1
          ∙ ap₂ (λ z xs. bits_of s.width z ++ xs) (sym here) (more.cells ∙ ap (λ j. spelt us ss ++ drop j cs) (add_assoc at s.width (total ss)))
          ∙ sym (append_assoc (bits_of s.width (get_or us k 0)) (spelt us ss) (drop (at + (s.width + total ss)) cs));
      good = (
        (rw here f.0, rw here (sym (asked_same how m vs us s.part s.width v h.1 front) ∙ q.1)),
        more.good,
      );
    }

-- so a frame that was read is fine
pub settled_ok : (r : Result (List Pulse) Refusal) → settled r ≡ Ok tt → (ps : List Pulse) × (r ≡ Ok ps)
settled_ok (Ok ps) e = (ps, refl)
settled_ok (Err d) e = absurd (never tt d e)

low_by : (t : ℕ) → t < 4 → (m : Mode) → 0 < get_or (row m).pulses t 0 → 0 < bits (get_or (row m).pulses t 0) (row m).places - high_bits (bits (get_or (row m).pulses t 0) (row m).places)
low_by =
    by_four (λ t. (m : Mode) → 0 < get_or (row m).pulses t 0 → 0 < bits (get_or (row m).pulses t 0) (row m).places - high_bits (bits (get_or (row m).pulses t 0) (row m).places))
    (by_mode _ (λ h. omega arith) (λ h. omega arith) (λ h. omega arith) (λ h. omega arith) (λ h. omega arith) (λ h. omega arith) (λ h. omega arith) (λ h. omega arith) (λ h. omega arith))
    (by_mode _ (λ h. omega arith) (λ h. omega arith) (λ h. omega arith) (λ h. omega arith) (λ h. omega arith) (λ h. omega arith) (λ h. omega arith) (λ h. omega arith) (λ h. omega arith))
    (by_mode _ (λ h. h) (λ h. omega arith) (λ h. omega arith) (λ h. omega arith) (λ h. omega arith) (λ h. omega arith) (λ h. omega arith) (λ h. omega arith) (λ h. omega arith))
    (by_mode _ (λ h. h) (λ h. omega arith) (λ h. omega arith) (λ h. omega arith) (λ h. omega arith) (λ h. omega arith) (λ h. omega arith) (λ h. omega arith) (λ h. omega arith))

pub low_wide : (m : Mode) (s t : ℕ) → 0 < pulses_in m s t → 0 < part_width m (Low s t)
low_wide m s t h =
    let l = pulses_in_has m s t h in
    let e = pulses_in_here m s t l.0 in
    let g : 0 < get_or (row m).pulses t 0 = rw e at h in
    let P : ℕ → Type 0 = λ n. 0 < bits n (row m).places - high_bits (bits n (row m).places) in
    subst P (sym e) (low_by t l.1 m g)

asked_track : (how : Reading) (m : Mode) (us : List ℕ) (s t w v : ℕ) → questioned how m us (Low s t) w v ≡ Ok tt → (ps : List Pulse) × (read_index how (pulses_in m s t) (row m).places (joined (get_or us (place_of (High s t)) 0) w v) ≡ Ok ps)
unfolding questioned
asked_track how m us s t w v e = settled_ok (read_index how (pulses_in m s t) (row m).places (joined (get_or us (place_of (High s t)) 0) w v)) e

pub frame_fine : (how : Reading) (cs : List Cell) (m : Mode) (n at : ℕ) (us : List ℕ) → read_slots how cs m n at (plan m) blank ≡ Ok us → Fine how (content m us)
frame_fine how cs m n at us e =
    let w = slots_read how cs m n at (plan m) blank us 0 refl (plan_rises m) e in
    let P : Slot → Type 0 = Good how m us in
    record {
      fits = λ p. ⊎_elim
          (λ has. (plan_part m P p has w.good).0)
          (λ no. let z : part_width m p ≡ 0 = omega arith in
          rw (kept_away how cs m n at (plan m) blank us (place_of p) e (plan_away m p z) ∙ replicate_at {X = ℕ} 57 (place_of p) 0) (pow_pos (part_width m p)))
          (cases_lt 0 (part_width m p));
      tracks = λ s t has. asked_track how m us s t (low_bits m s t) (get_or us (place_of (Low s t)) 0) (plan_part m P (Low s t) (low_wide m s t has) w.good).1;
    }
