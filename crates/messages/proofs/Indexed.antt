-- Reading by the index relation, strictly or openly: the cells of frames with any accepted indices of their sets.
use Rattle.std.proofs.Common.{◌≡◌, ℕ, ◌-◌, ◌^◌, ◌<◌, List, [], ◌∷◌, ◌++◌, map, get_or, Ok, sym, refl, ap, ◌∙◌, subst, ap₂, ⊎_elim, arith}
use Rattle.std.proofs.lemmas.List.{get_or-map, get_or_append_left, get_or-append_right}
use Rattle.std.proofs.lemmas.Bool.{cases_lt}
use Rattle.carriers.specs.Fields.{bits_of}
use Rattle.pulses.specs.declared.pulse.Pulse.{Pulse}
use Rattle.pulses.specs.declared.index.Reading.{Reading}
use Rattle.pulses.specs.Pulses.{sort}
use Rattle.pulses.specs.Reading.{pulses_of}
use Rattle.pulses.specs.Rules.{Index}
use Rattle.pulses.specs.Calls.{choice, read_index}
use Rattle.pulses.proofs.CallLaws.{was_read, reads_by_the_rules}
use Rattle.modes.specs.declared.mode.Mode.{Mode}
use Rattle.modes.specs.declared.plan.Part.{Part}
use Rattle.modes.specs.declared.plan.Part.TheVariants.{Value, High, Low}
use Rattle.modes.specs.Modes.{number_of, row, pulses_in}
use Rattle.modes.specs.Plan.{low_bits, part_width, order, plan}
use Rattle.modes.proofs.Modes.{pulses_in_has}
use Rattle.frames.specs.declared.frame.Frame.{Frame}
use Rattle.frames.specs.Frames.{count_of, pulses, track_width}
use Rattle.frames.specs.Bits.{place_of}
use Rattle.frames.proofs.Ordered.{voice, at_place, placed}
use Rattle.frames.proofs.Parted.{frame_front}
use Rattle.frames.proofs.Blanks.{replicate_at}
use Rattle.messages.specs.Messages.{Content, content, settled, joined, questioned, blank}
use Rattle.messages.specs.Contents.{held, index_in, Stands, Fine}
use Rattle.messages.specs.Indexed.{By, cells_by}
use Rattle.messages.proofs.Planned.{Away, plan_each}
use Rattle.messages.proofs.Placing.{spelt, Good}
use Rattle.messages.proofs.Building.{away_none, low_has}
use Rattle.messages.proofs.Standing.{record_of, stands}
use Rattle.messages.proofs.Accepted.{Sent, content_cells}
use Rattle.messages.proofs.Housed.{single, spell_cells}
use Rattle.frames.proofs.Houses.{used_in}

-- the frame with given values, as it stands in a message
abbrev pub sent_by : Frame → (Part → ℕ) → Content
sent_by f g = content f.mode (map g order ++ 0 ∷ [])

module _ (how : Reading) (f : Frame) (g : Part → ℕ) (by : By how f g) where
  lacking : (p : Part) → part_width f.mode p ≡ 0 → g p ≡ 0
  lacking p e = let h = rw e at (by.fits p) in omega arith

  by_held : (p : Part) → held (sent_by f g) p ≡ g p
  by_held p =
      ⊎_elim
      (λ l. get_or_append_left (map g order) (0 ∷ []) 0 (place_of p) l.low ∙ get_or-map g order (place_of p) voice 0 l.low ∙ ap g l.there)
      (λ n. ap (λ k. get_or (map g order ++ 0 ∷ []) k 0) n.past ∙ sym (lacking p (n.none f.mode)))
      (placed p)

  accepted : (s t : ℕ) → 0 < count_of f s t → read_index how (count_of f s t) (track_width f) (joined (g (High s t)) (low_bits f.mode s t) (g (Low s t))) ≡ Ok (pulses f s t)
  accepted s t has =
      let l = pulses_in_has f.mode s t has in
      let r = frame_front f s t l.0 l.1 in
      (reads_by_the_rules how (count_of f s t) (track_width f) (joined (g (High s t)) (low_bits f.mode s t) (g (Low s t))) (pulses f s t)).back
      (used_in f.mode s t has, (by.indices s t has, (r.group.lawful, r.sorted)))

  asked : (p : Part) → 0 < part_width f.mode p → questioned how f.mode (sent_by f g).values p (part_width f.mode p) (held (sent_by f g) p) ≡ Ok tt
  unfolding questioned
  asked (Value x) has = refl
  asked (High s t) has = refl
  asked (Low s t) has =
      ap settled (ap₂ (λ h l. read_index how (count_of f s t) (track_width f) (joined h (low_bits f.mode s t) l)) (by_held (High s t)) (by_held (Low s t)) ∙ accepted s t (low_has f.mode s t has))

  empty : (q : ℕ) → Away q (plan f.mode) → get_or blank q 0 ≡ get_or (sent_by f g).values q 0
  empty q a =
      replicate_at {X = ℕ} 57 q 0 ∙ sym (⊎_elim
      (λ l.
      let p = get_or order q voice in
      let e : place_of p ≡ q = at_place q l in
      let P : ℕ → Type 0 = λ k. Away k (plan f.mode) in
      let z = away_none f.mode p (subst P (sym e) a) in
      ap (λ k. get_or (sent_by f g).values k 0) (sym e) ∙ by_held p ∙ lacking p z)
      (λ l. get_or-append_right (map g order) (0 ∷ []) 56 q 0 refl l ∙ single (q - 56))
      (cases_lt q 56))

  pub sent_by_lem : Sent how (sent_by f g)
  sent_by_lem = record {
    long = refl;
    good = plan_each f.mode (Good how f.mode (sent_by f g).values) (λ p has. (rw (by_held p) (by.fits p), asked p has));
    empty = empty;
  }

  pub sent_cells : cells_by f g ≡ content_cells (sent_by f g)
  sent_cells = ap (λ l. bits_of 4 (number_of f.mode) ++ l) (spell_cells g (sent_by f g).values (plan f.mode) by_held)

  pub by_stands : Stands (sent_by f g) f
  unfolding sort
  by_stands = record {
    mode = refl;
    fields = λ x. sym (by_held (Value x) ∙ by.fields x);
    tracks = λ s t. ⊎_elim
        (λ has.
        let i = joined (g (High s t)) (low_bits f.mode s t) (g (Low s t)) in
        let e : index_in (sent_by f g) s t ≡ i = ap₂ (λ h l. joined h (low_bits f.mode s t) l) (by_held (High s t)) (by_held (Low s t)) in
        (was_read how (count_of f s t) (track_width f) i (pulses f s t) (accepted s t has)).is
        ∙ ap (λ k. sort (pulses_of (count_of f s t) (track_width f) k)) (sym e))
        (λ no. let e : count_of f s t ≡ 0 = omega arith in rw e)
        (cases_lt 0 (count_of f s t));
  }

-- and back
pub by_fine : (how : Reading) (b : Content) (fine : Fine how b) → By how (record_of how b fine) (held b)
by_fine how b fine =
    let f = record_of how b fine in
    let st : Stands b f = stands how b fine in
    record {
      fields = λ x. sym (st.fields x);
      fits = λ p. subst (λ (m : Mode). held b p < 2 ^ part_width m p) (sym st.mode) (fine.fits p);
      indices = λ s t has.
          let has' : 0 < pulses_in b.mode s t = subst (λ (m : Mode). 0 < pulses_in m s t) st.mode has in
          let n = pulses_in b.mode s t in
          let M = (row b.mode).places in
          let p = fine.tracks s t has' in
          let r = was_read how n M (index_in b s t) p.0 p.1 in
          let i = ((reads_by_the_rules how n M (index_in b s t) p.0).forth p.1).1.0 in
          let P : List Pulse → Type 0 = λ ps. Index (choice how) n M ps (index_in b s t) in
          let Q : Mode → Type 0 = λ m. Index (choice how) (pulses_in m s t) (row m).places (pulses f s t) (joined (held b (High s t)) (low_bits m s t) (held b (Low s t))) in
          subst Q (sym st.mode) (subst P (r.is ∙ sym (st.tracks s t)) i);
    }

pub fine_cells : (how : Reading) (b : Content) (fine : Fine how b) → cells_by (record_of how b fine) (held b) ≡ content_cells b
fine_cells how b fine =
    let f = record_of how b fine in
    let st : Stands b f = stands how b fine in
    ap (λ l. bits_of 4 (number_of f.mode) ++ l) (spell_cells (held b) b.values (plan f.mode) (λ p. refl))
    ∙ ap (λ (m : Mode). bits_of 4 (number_of m) ++ spelt b.values (plan m)) st.mode
