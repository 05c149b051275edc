use Rattle.std.proofs.Common.{◌≡◌, sym, ap, ◌∙◌, subst}
use Rattle.modes.specs.declared.mode.Mode.{Mode}
use Rattle.modes.specs.declared.slots.Slots.{Slots}
use Rattle.modes.specs.Plan.{plan, slot}
use Rattle.modes.specs.Slots.{slots_left}
use Rattle.frames.specs.Bits.{place_of}
use Rattle.messages.specs.Seen.{content_of}
use Rattle.messages.specs.Contents.{Stands}
use Rattle.messages.proofs.Planned.{Away}
use Rattle.messages.proofs.Fined.{fine_of}
use Rattle.messages.proofs.Standing.{record_of, stands}
use Rattle.messages.proofs.Building.{parts_start, parts_more, parts_all}
use Rattle.messages.proofs.body.Body.record.Goals as goal

pub loop-slot-init : goal.loop-slot-init
loop-slot-init c =
    let m = c.args.self.now.parts.mode in
    let g = c.of-built.result in
    let em : g.mode ≡ m = c.of-built.ensures.mode in
    let same = c.into_iter-slot-iterator.ensures.into_iter_gives in
    let left : slots_left c.into_iter-slot-iterator.result ≡ plan m = ap slots_left same ∙ c.slots-slot-items.ensures.all in
    (ap (λ (s : Slots). s.mode) same ∙ c.slots-slot-items.ensures.mode, em, λ f st p a. parts_start m f g st.mode em p (subst (Away (place_of p)) left a))

pub loop-slot-preserved : goal.loop-slot-preserved
loop-slot-preserved c =
    let parts = c.args.self.now.parts in
    let l = c.loop-slot in
    let x = c.in-Some.slot in
    let s = c.in-Some.ensures.steps in
    let b = content_of c.args.self.now in
    let fine = fine_of parts.how parts.mode parts.values c.args.self.now.fine in
    let d = c.put_part.ensures (record_of parts.how b fine) (stands parts.how b fine) in (
      s.1 ∙ l.invariant.0,
      d.mode ∙ l.invariant.1,
      λ f st. parts_more parts.mode (slots_left l.slot-iterator) (slots_left c.next.new.self) x f l.built c.put_part.new.built s.0 (s.2 ∙ ap (λ (m : Mode). slot m x.part) l.invariant.0) s.3.0 (c.put_part.ensures f st) (l.invariant.2 f st),
    )

pub returns : goal.returns
returns c =
    let parts = c.args.self.now.parts in
    let l = c.loop-slot in
    let b = content_of c.args.self.now in
    let fine = fine_of parts.how parts.mode parts.values c.args.self.now.fine in
    let f = record_of parts.how b fine in
    let st : Stands b f = stands parts.how b fine in
    parts_all (slots_left l.slot-iterator) b f l.built c.in-None.ensures.steps.0 st (l.invariant.1 ∙ sym st.mode) (l.invariant.2 f st)
