use Rattle.std.proofs.Common.{◌≡◌, ◌+◌, ◌∙◌, subst, arith, rules}
use Rattle.std.specs.Iterator.Adapters.{map_source}
use Rattle.modes.specs.declared.field.Field.{Field}
use Rattle.modes.specs.Fields.{field_at}
use Rattle.frames.specs.Frames.{FieldCopied}
use Rattle.frames.proofs.Alike.{frame_ext}
use Rattle.frames.proofs.Rebuilding.{fields_more, fields_all, tracks_all}
use Rattle.frames.proofs.frame.Frame.rebuilt.Goals as goal

pub loop-field-preserved : goal.loop-field-preserved
loop-field-preserved c =
    let f = c.args.self.now in
    let l = c.loop-field in
    let s = c.in-Some.ensures.steps in
    let n = (map_source l.field-iterator).start in
    let field : c.in-Some.field ≡ field_at n = search rules in
    let next : (map_source c.next.new.self).start ≡ n + 1 = search rules in
    let P : Field → Type 0 = λ x. FieldCopied f l.made c.copy_field.new.to x in
    let copied = subst P field c.copy_field.ensures in (
      c.in-Some.ensures.goes.keeps,
      tt,
      copied.mode ∙ l.invariant.2,
      s.1.0 ∙ l.invariant.3,
      omega (arith, s.1, l.invariant.3),
      rw next (fields_more f l.made c.copy_field.new.to n (omega (arith, s.1, l.invariant.3)) copied l.invariant.5),
    )

pub loop-subframe-init : goal.loop-subframe-init
loop-subframe-init c =
    let l = c.loop-field in
    (l.invariant.2, fields_all c.args.self.now l.made (λ k h. l.invariant.5 k (omega (arith, c.in-None.ensures.steps.0, l.invariant.3))), λ s t h. absurd (omega arith))

pub returns : goal.returns
returns c =
    let f = c.args.self.now in
    let l = c.loop-subframe in
    frame_ext l.made f l.invariant.0 l.invariant.1 (tracks_all f l.made l.invariant.0 (λ s t h. l.invariant.2 s t (omega arith)))
