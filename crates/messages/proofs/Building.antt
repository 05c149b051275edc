-- Why setting what was read is never refused, and what it leaves; all parts are the record.
use Rattle.std.proofs.Common.{◌≡◌, ℕ, ◌-◌, ◌<◌, ◌≤◌, true, leb, List, [], ◌∷◌, ◌++◌, length, take, drop, Some, Ok, Err, Option, Result, sym, refl, ap, ◌∙◌, subst, ⊎_elim, arith, MatchResult}
use native.Mathlib.Nat.{sub-zero}
use Rattle.std.specs.List.{AllByRecursion, list_all}
use Rattle.std.proofs.lemmas.Bool.{leb-true, and_parts, cases_lt, cases_eq, cond-true, le-leb}
use Rattle.std.proofs.lemmas.List.{take_at}
use Rattle.refusals.specs.declared.refusal.Refusal.{Refusal}
use Rattle.pulses.specs.declared.pulse.Pulse.{Pulse}
use Rattle.pulses.specs.declared.index.Reading.{Reading}
use Rattle.pulses.specs.Calls.{read_index, handed, filled}
use Rattle.pulses.proofs.CallLaws.{was_read, never, ok_is}
use Rattle.modes.specs.declared.mode.Mode.{Mode}
use Rattle.modes.specs.declared.field.Field.{Field}
use Rattle.modes.specs.declared.plan.Part.{Part}
use Rattle.modes.specs.declared.plan.Part.TheVariants.{Value, High, Low}
use Rattle.modes.specs.declared.plan.Slot.{Slot}
use Rattle.modes.specs.Modes.{number_of, mode_of, row, pulses_in}
use Rattle.modes.specs.Fields.{width}
use Rattle.modes.specs.Plan.{part_width, plan, slot}
use Rattle.modes.proofs.Modes.{by_mode}
use Rattle.frames.specs.declared.frame.Frame.{Frame}
use Rattle.frames.specs.Frames.{value, field_bits, count_of, FieldSet, FieldRefused, FieldCopied, TrackCopied, TrackSet, TrackRefused}
use Rattle.frames.specs.Bits.{place_of}
use Rattle.frames.proofs.Copied.{value_fits, field_copied, track_copied}
use Rattle.frames.proofs.Alike.{frame_ext}
use Rattle.messages.specs.Messages.{Content, joined}
use Rattle.messages.specs.Contents.{held, index_in, set_in, Stands, Fine}
use Rattle.messages.specs.Asked.{track_read}
use Rattle.messages.specs.Building.{PartSame, Copied}
use Rattle.messages.proofs.Planned.{Away, plan_part, own_place}
use Rattle.messages.proofs.Questions.{few}
use Rattle.messages.proofs.Placing.{low_wide}

-- a copied field is a copied part, and so is a copied track
pub by_field : (f before after : Frame) (x : Field) → FieldCopied f before after x → Copied f before after (Value x)
by_field f before after x c = record { mode = c.mode; here = c.here; others = go }
  where
    go : (q : Part) → (q ≡ Value x → ⊥) → PartSame before f q → PartSame after f q
    go (Value y) ne h = c.others y (λ e. ne (ap Value e)) ∙ h
    go (High s t) ne h = tt
    go (Low s t) ne h = c.tracks s t ∙ h

pub by_track : (f before after : Frame) (s t : ℕ) → TrackCopied f before after s t → Copied f before after (Low s t)
by_track f before after s t c = record { mode = c.mode; here = c.here; others = go }
  where
    go : (q : Part) → (q ≡ Low s t → ⊥) → PartSame before f q → PartSame after f q
    go (Value y) ne h = c.fields y ∙ h
    go (High i j) ne h = tt
    go (Low i j) ne h = c.others i j (λ a b. ne (ap (λ k. Low k j) a ∙ ap (λ k. Low s k) b)) ∙ h

-- a field
pub field_put : {U : Type 0} (b : Content) (f to to' : Frame) (x : Field) (v : ℕ) (r : Result U Refusal) → Stands b f → to.mode ≡ b.mode → 0 < part_width b.mode (Value x)
    → v ≡ held b (Value x)
    → MatchResult r (λ _. FieldSet to to' x v) (λ e. FieldRefused to to' x v e) → Copied f to to' (Value x)
field_put b f to to' x v r st em has ev h =
    let em' : to.mode ≡ f.mode = em ∙ sym st.mode in
    let has' : 0 < field_bits f x = subst (λ (m : Mode). 0 < width m x) (sym st.mode) has in
    let ev' : v ≡ value f x = ev ∙ sym (st.fields x) in
    by_field f to to' x (field_copied f to to' x v r em' (has', ev') h)

-- a low part that a mode has is narrow
tested : (m : Mode) → list_all (λ s. leb s.width 16) (plan m) ≡ true
unfolding plan pulses_in
tested = by_mode (λ m. list_all (λ s. leb s.width 16) (plan m) ≡ true) refl refl refl refl refl refl refl refl refl

narrow_in : (ss : List Slot) → list_all (λ s. leb s.width 16) ss ≡ true → AllByRecursion (λ s. s.width ≤ 16) ss
narrow_in [] h = tt
narrow_in (s ∷ ss) h = let p = and_parts _ _ h in (leb-true s.width 16 p.0, narrow_in ss p.1)

pub low_narrow : (m : Mode) (s t : ℕ) → 0 < part_width m (Low s t) → part_width m (Low s t) ≤ 16
low_narrow m s t has = plan_part m (λ s. s.width ≤ 16) (Low s t) has (narrow_in (plan m) (tested m))

-- a track: its index is accepted
track_accepted : (how : Reading) (b : Content) (s t : ℕ) → Fine how b → 0 < pulses_in b.mode s t
    → read_index how (pulses_in b.mode s t) (row b.mode).places (index_in b s t) ≡ Ok (set_in b s t)
track_accepted how b s t fine has =
    let p = fine.tracks s t has in
    let r = was_read how (pulses_in b.mode s t) (row b.mode).places (index_in b s t) p.0 p.1 in
    p.1 ∙ ap Ok r.is

-- a part that has bits is of a track that has pulses
pub low_has : (m : Mode) (s t : ℕ) → 0 < part_width m (Low s t) → 0 < pulses_in m s t
low_has m s t h =
    ⊎_elim
    (λ has. has)
    (λ no. let e : pulses_in m s t ≡ 0 = omega arith in absurd (let g = rw e at h in omega arith))
    (cases_lt 0 (pulses_in m s t))

pub high_has : (m : Mode) (s t : ℕ) → 0 < part_width m (High s t) → 0 < pulses_in m s t
high_has m s t h =
    ⊎_elim
    (λ has. has)
    (λ no. let e : pulses_in m s t ≡ 0 = omega arith in absurd (let g = rw e at h in omega arith))
    (cases_lt 0 (pulses_in m s t))

given : (ps out : List Pulse) (k : ℕ) (r : Result (List Pulse) Refusal) (row : List Pulse) → r ≡ Ok ps → length ps ≤ 6 → length out ≡ 6 → Ok k ≡ handed 6 r → row ≡ filled out r → take (k - 0) row ≡ ps
given ps out k r row er few long a f =
    let e : k ≡ length ps = ok_is k (length ps) (a ∙ ap (handed 6) er ∙ cond-true (leb (length ps) 6) _ _ (le-leb (length ps) 6 few)) in
    let g : row ≡ ps ++ drop (length ps) out = f ∙ ap (filled out) er ∙ cond-true (leb (length ps) (length out)) _ _ (le-leb (length ps) (length out) (omega arith)) in
    rw (sub-zero k, e, g) (take_at ps (drop (length ps) out) (length ps) refl)

handed_never : (ps : List Pulse) (x : Refusal) (r : Result (List Pulse) Refusal) → r ≡ Ok ps → length ps ≤ 6 → Err x ≡ handed 6 r → ⊥
handed_never ps x r er few a = never (length ps) x (a ∙ ap (handed 6) er ∙ cond-true (leb (length ps) 6) _ _ (le-leb (length ps) 6 few))

module _ (how : Reading) (b : Content) (s t w l : ℕ) (fine : Fine how b) (has : 0 < w) (ew : w ≡ part_width b.mode (Low s t)) (el : l ≡ held b (Low s t)) where
  some : 0 < pulses_in b.mode s t
  some = low_has b.mode s t (omega (arith, has, ew))

  reads : track_read how b.mode b.values w l s t ≡ Ok (set_in b s t)
  reads = rw (el, ew) (track_accepted how b s t fine some)

  few_pulses : length (set_in b s t) ≤ 6
  few_pulses = few how (pulses_in b.mode s t) (row b.mode).places (joined (held b (High s t)) w l) (set_in b s t) reads

  pub never_refused : (x : Refusal) → Err x ≡ handed 6 (track_read how b.mode b.values w l s t) → ⊥
  never_refused x a = handed_never (set_in b s t) x (track_read how b.mode b.values w l s t) reads few_pulses a

  pub track_put : {U : Type 0} (f to to' : Frame) (k : ℕ) (out rows : List Pulse) (r : Result U Refusal) → Stands b f → to.mode ≡ b.mode → length out ≡ 6
      → Ok k ≡ handed 6 (track_read how b.mode b.values w l s t) → rows ≡ filled out (track_read how b.mode b.values w l s t)
      → MatchResult r (λ _. TrackSet to to' s t (take (k - 0) rows)) (λ e. TrackRefused to to' s t (take (k - 0) rows) e) → TrackCopied f to to' s t
  track_put f to to' k out rows r st em long a g h =
      let em' : to.mode ≡ f.mode = em ∙ sym st.mode in
      let has' : 0 < count_of f s t = subst (λ (m : Mode). 0 < pulses_in m s t) (sym st.mode) some in
      track_copied f to to' s t (take (k - 0) rows) r em' has' (given (set_in b s t) out k (track_read how b.mode b.values w l s t) rows reads few_pulses long a g ∙ sym (st.tracks s t)) h

pub away_none : (m : Mode) (p : Part) → Away (place_of p) (plan m) → part_width m p ≡ 0
away_none m p a =
    ⊎_elim
    (λ has. absurd (plan_part m (λ s. place_of s.part ≡ place_of p → ⊥) p has a refl))
    (λ no. omega arith)
    (cases_lt 0 (part_width m p))

-- two records of a mode have the same for what the mode lacks
none_same : (f g : Frame) (m : Mode) (p : Part) → f.mode ≡ m → g.mode ≡ m → part_width m p ≡ 0 → PartSame g f p
none_same f g m (Value x) ef eg z =
    let zf : field_bits f x ≡ 0 = ap (λ (m : Mode). width m x) ef ∙ z in
    let zg : field_bits g x ≡ 0 = ap (λ (m : Mode). width m x) eg ∙ z in
    let a = rw zf at (value_fits f x) in
    let c = rw zg at (value_fits g x) in
    omega arith
none_same f g m (High s t) ef eg z = tt
none_same f g m (Low s t) ef eg z =
    let n : pulses_in m s t ≡ 0 = ⊎_elim (λ has. absurd (omega (arith, low_wide m s t has, z))) (λ no. omega arith) (cases_lt 0 (pulses_in m s t)) in
    let zf : count_of f s t ≡ 0 = ap (λ (m : Mode). pulses_in m s t) ef ∙ n in
    let zg : count_of g s t ≡ 0 = ap (λ (m : Mode). pulses_in m s t) eg ∙ n in
    rw (zf, zg)

pub parts_start : (m : Mode) (f g : Frame) → f.mode ≡ m → g.mode ≡ m → (p : Part) → Away (place_of p) (plan m) → PartSame g f p
parts_start m f g ef eg p a = none_same f g m p ef eg (away_none m p a)

pub parts_more : (m : Mode) (ss rest : List Slot) (s : Slot) (f before after : Frame) → ss ≡ s ∷ rest → s ≡ slot m s.part → 1 ≤ s.width → Copied f before after s.part
    → ((p : Part) → Away (place_of p) ss → PartSame before f p) → (p : Part) → Away (place_of p) rest → PartSame after f p
parts_more m ss rest s f before after e es w c old p a =
    let wide : s.width ≡ part_width m s.part = ap (λ (s : Slot). s.width) es in
    ⊎_elim
    (λ i. let P : Part → Type 0 = PartSame after f in subst P (own_place m p s.part (omega (arith, w, wide)) i) c.here)
    (λ ne. c.others p (λ i. ne (sym (ap place_of i))) (old p (let P : List Slot → Type 0 = Away (place_of p) in subst P (sym e) (ne, a))))
    (cases_eq (place_of s.part) (place_of p))

pub parts_all : (ss : List Slot) (b : Content) (f g : Frame) → ss ≡ [] → Stands b f → g.mode ≡ f.mode
    → ((p : Part) → Away (place_of p) ss → PartSame g f p) → Stands b g
parts_all ss b f g e st em h =
    let all : (p : Part) → PartSame g f p = λ p. h p (let P : List Slot → Type 0 = Away (place_of p) in subst P (sym e) tt) in
    subst (Stands b) (sym (frame_ext g f em (λ x. all (Value x)) (λ s t. all (Low s t)))) st

-- the number of a mode tells it
pub number_back : (m : Mode) → mode_of (number_of m) ≡ Some m
number_back = by_mode (λ m. mode_of (number_of m) ≡ Some m) refl refl refl refl refl refl refl refl refl

some_is : (m n : Mode) → ◌≡◌ {A = Option Mode} (Some m) (Some n) → m ≡ n
some_is m n e = cc

pub mode_told : (m n : Mode) → number_of m ≡ number_of n → m ≡ n
mode_told m n e = some_is m n (sym (number_back m) ∙ ap mode_of e ∙ number_back n)

pub number_low : (m : Mode) → number_of m < 9
number_low = by_mode (λ m. number_of m < 9) (omega arith) (omega arith) (omega arith) (omega arith) (omega arith) (omega arith) (omega arith) (omega arith) (omega arith)
