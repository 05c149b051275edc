-- What the code keeps of a message: a frame of it. Assumes Messages.
--   content_of b       what a body stands for
--   framed o           the same, where there is one
--   framed_of r        the same of an answer
use Rattle.std.specs.Prelude.{Some, None, Ok, Err, Option, Result}
use Rattle.refusals.specs.declared.refusal.Refusal.{Refusal}
use Rattle.messages.specs.declared.body.Body.{Body}
use Rattle.messages.specs.Messages.{Content, content}

abbrev pub content_of : Body → Content
content_of b = content b.parts.mode b.parts.values

abbrev pub framed : Option Body → Option Content
framed None = None
framed (Some b) = Some (content_of b)

abbrev pub framed_of : Result (Option Body) Refusal → Result (Option Content) Refusal
framed_of (Ok o) = Ok (framed o)
framed_of (Err e) = Err e
