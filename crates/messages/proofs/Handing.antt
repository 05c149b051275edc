-- The frames that reading hands out: strictly those whose message the cells are, openly those whose cells they are by some indices.
use Rattle.std.proofs.Common.{◌≡◌, ℕ, suc, ◌+◌, ◌≤◌, List, [], ◌∷◌, ◌++◌, map, length, IfOk, Ok, Err, vec_items, Result, Vec, sym, refl, ap, ◌∙◌, subst, ap₂, arith}
use Rattle.std.specs.List.{AllByRecursion}
use Rattle.std.specs.declared.alloc.Global.{Global}
use Rattle.refusals.specs.declared.refusal.Refusal.{Refusal}
use Rattle.carriers.specs.Cells.{Cell}
use Rattle.pulses.specs.declared.index.Reading.{Reading}
use Rattle.pulses.specs.declared.index.Reading.TheVariants.{Strict}
use Rattle.frames.specs.declared.frame.Frame.{Frame}
use Rattle.messages.specs.declared.error.ReadError.{ReadError}
use Rattle.messages.specs.Messages.{Content, read_frames, counted}
use Rattle.messages.specs.Contents.{held, Fine}
use Rattle.messages.specs.Written.{body, message}
use Rattle.messages.specs.Indexed.{By, cells_by, Bodies, ReadsByIndices}
use Rattle.messages.specs.Indexed.Bodies.{none, more}
use Rattle.messages.specs.Laws.{ReadsMessages}
use Rattle.messages.specs.Gathered.{Records, HandsOut, HandsOutMessages, HandsOutByIndices, Gathered}
use Rattle.messages.proofs.Standing.{record_of, stands, stands_alone}
use Rattle.messages.proofs.Turned.{frames_fine}
use Rattle.messages.proofs.Accepted.{Sent, content_cells, body_of, tail_at, from_accepted}
use Rattle.messages.proofs.Housed.{sent_of, sent_stands, strict_cells}
use Rattle.messages.proofs.Meant.{parsed, counted_ok, message_read}
use Rattle.messages.proofs.Indexed.{sent_by, sent_by_lem, sent_cells, by_stands, by_fine, fine_cells}

-- what was gathered was handed out
pub handed : (how : Reading) (cs : List Cell) (r : Result (Vec Frame Global) ReadError) → Gathered (read_frames how cs) r → IfOk r (λ v. HandsOut how cs (vec_items v))
handed how cs (Err e) h = tt
handed how cs (Ok v) h = by (read_frames how cs) refl h
  where
    by : (a : Result (List Content) Refusal) → read_frames how cs ≡ a → Gathered a (Ok v) → HandsOut how cs (vec_items v)
    by (Ok bs) e g = (bs, e, g)
    by (Err d) e g = absurd g

records_count : (bs : List Content) (fs : List Frame) → Records bs fs → length fs ≡ length bs
records_count [] [] r = refl
records_count [] (f ∷ fs) r = absurd r
records_count (b ∷ bs) [] r = absurd r
records_count (b ∷ bs) (f ∷ fs) r = ap suc (records_count bs fs r.1)

-- the cells of what was read
cells_read : (how : Reading) (cs : List Cell) (bs : List Content) → read_frames how cs ≡ Ok bs → (length bs ≤ 512) × (cs ≡ body_of bs ++ tail_at (length (body_of bs)))
cells_read how cs bs e =
    let p = parsed how cs 512 0 [] bs e in
    let z : 0 + length (body_of bs) ≡ length (body_of bs) = omega arith in
    (omega (arith, ap length p.is, p.few), p.cells ∙ ap (λ l. body_of l ++ tail_at (0 + length (body_of l))) (sym p.is) ∙ ap (λ k. body_of bs ++ tail_at k) z)

-- strictly
strict_body : (bs : List Content) (fs : List Frame) → Records bs fs → AllByRecursion (Fine Strict) bs → body fs ≡ body_of bs
strict_body [] [] r us = refl
strict_body [] (f ∷ fs) r us = absurd r
strict_body (b ∷ bs) [] r us = absurd r
strict_body (b ∷ bs) (f ∷ fs) r us = ap₂ (λ (x y : List Cell). x ++ y) (strict_cells b f r.0 us.0) (strict_body bs fs r.1 us.1)

sent_records : (fs : List Frame) → Records (map sent_of fs) fs
sent_records [] = tt
sent_records (f ∷ fs) = (sent_stands f, sent_records fs)

pub hands_out_messages : HandsOutMessages
unfolding message
hands_out_messages cs fs = (
  (λ h.
      let bs = h.0 in
      let p = cells_read Strict cs bs h.1 in
      let e = strict_body bs fs h.2 (frames_fine Strict cs bs h.1) in
      (omega (arith, records_count bs fs h.2, p.0), p.1 ∙ ap (λ (b : List Cell). b ++ tail_at (length b)) (sym e))),
  (λ h. (map sent_of fs, ap (read_frames Strict) h.1 ∙ message_read fs h.0, sent_records fs)),
)

-- by indices
bodies_of : (how : Reading) (bs : List Content) (fs : List Frame) → Records bs fs → AllByRecursion (Fine how) bs → Bodies how fs (body_of bs)
bodies_of how [] [] r us = none
bodies_of how [] (f ∷ fs) r us = absurd r
bodies_of how (b ∷ bs) [] r us = absurd r
bodies_of how (b ∷ bs) (f ∷ fs) r us =
    let e : record_of how b us.0 ≡ f = stands_alone b (record_of how b us.0) f (stands how b us.0) r.0 in
    let by = subst (λ (g : Frame). By how g (held b)) e (by_fine how b us.0) in
    let c : cells_by f (held b) ≡ content_cells b = ap (λ (g : Frame). cells_by g (held b)) (sym e) ∙ fine_cells how b us.0 in
    subst (λ (l : List Cell). Bodies how (f ∷ fs) (l ++ body_of bs)) c (more f (held b) fs (body_of bs) by (bodies_of how bs fs r.1 us.1))

record Contents (how : Reading) (fs : List Frame) (cs : List Cell) : Type 0 where
  pub bodies : List Content
  pub sent : AllByRecursion (Sent how) bodies
  pub cells : cs ≡ body_of bodies
  pub records : Records bodies fs

contents : (how : Reading) (fs : List Frame) (cs : List Cell) → Bodies how fs cs → Contents how fs cs
contents how _ _ none = record { bodies = []; sent = tt; cells = refl; records = tt }
contents how _ _ (more f g fs cs by rest) =
    let c = contents how fs cs rest in
    record {
      bodies = sent_by f g ∷ c.bodies;
      sent = (sent_by_lem how f g by, c.sent);
      cells = ap₂ (λ (x y : List Cell). x ++ y) (sent_cells how f g by) c.cells;
      records = (by_stands how f g by, c.records);
    }

pub hands_out_by_indices : HandsOutByIndices
hands_out_by_indices how cs fs = (
  (λ h.
      let bs = h.0 in
      let p = cells_read how cs bs h.1 in
      (body_of bs, bodies_of how bs fs h.2 (frames_fine how cs bs h.1), omega (arith, records_count bs fs h.2, p.0), p.1)),
  (λ h.
      let c = contents how fs h.0 h.1 in
      let bs = c.bodies in
      let z : length (body_of bs) ≡ 0 + length (body_of bs) = omega arith in
      let e : cs ≡ body_of bs ++ tail_at (0 + length (body_of bs)) = h.3 ∙ ap (λ (b : List Cell). b ++ tail_at (length b)) c.cells ∙ ap (λ k. body_of bs ++ tail_at k) z in
      (bs, from_accepted how cs 512 0 [] bs c.sent (omega (arith, records_count bs fs c.records, h.2)) e, c.records)),
)

-- how many they are
records_of : (how : Reading) (bs : List Content) → AllByRecursion (Fine how) bs → (fs : List Frame) × Records bs fs
records_of how [] us = ([], tt)
records_of how (b ∷ bs) us =
    let r = records_of how bs us.1 in
    (record_of how b us.0 ∷ r.0, (stands how b us.0, r.1))

count_of : (how : Reading) (cs : List Cell) (fs : List Frame) (n : ℕ) → HandsOut how cs fs → length fs ≡ n → counted (read_frames how cs) ≡ Ok n
count_of how cs fs n h e = ap counted h.1 ∙ ap Ok (sym (records_count h.0 fs h.2) ∙ e)

handed_count : (how : Reading) (cs : List Cell) (n : ℕ) → counted (read_frames how cs) ≡ Ok n → (fs : List Frame) × HandsOut how cs fs × (length fs ≡ n)
handed_count how cs n e =
    let p = counted_ok (read_frames how cs) n e in
    let r = records_of how p.0 (frames_fine how cs p.0 p.1) in
    (r.0, (p.0, p.1, r.1), records_count p.0 r.0 r.1 ∙ p.2)

pub reads_messages : ReadsMessages
reads_messages cs n = (
  (λ e.
      let p = handed_count Strict cs n e in
      let q = (hands_out_messages cs p.0).0 p.1 in
      (p.0, q.0, q.1, p.2)),
  (λ h. count_of Strict cs h.0 n ((hands_out_messages cs h.0).1 (h.1, h.2)) h.3),
)

pub reads_by_indices : ReadsByIndices
reads_by_indices how cs n = (
  (λ e.
      let p = handed_count how cs n e in
      let q = (hands_out_by_indices how cs p.0).0 p.1 in
      (p.0, q.0, q.1, q.2, q.3, p.2)),
  (λ h. count_of how cs h.0 n ((hands_out_by_indices how cs h.0).1 (h.1, h.2, h.3, h.4)) h.5),
)
