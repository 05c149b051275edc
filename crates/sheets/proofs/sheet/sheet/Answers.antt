use Rattle.std.proofs.Common.{vec_items, string_bytes, ap, ◌∙◌}
use Rattle.sheets.proofs.Printing.{printed_delays, printed_refusal}
use Rattle.sheets.proofs.sheet.sheet.Goals as goal
use Rattle.sheets.proofs.sheet.sheet.Goals.{in-Ok+in_ok-add_frames-in-Ok, in-Err+in_ok-add_refusal-in-Err}

pub returns : goal.returns
returns g c =
    let cells = g.R.ReadCarrier.cells c.args.carrier.now in
    elim c.match-read_frames.branch [
      | in-Ok+in_ok-add_frames-in-Ok w ↦
          printed_delays cells (vec_items w.in-Ok.frames) w.deref.result.now (string_bytes c.new-text.result) (string_bytes c.match-read_frames.text) c.read_frames.ensures.hands_out_messages w.in-Ok.ensures.handed
          w.deref.ensures.value c.new-text.ensures.bytes (ap string_bytes w.text-is ∙ w.in_ok-add_frames-in-Ok.ensures)
      | in-Err+in_ok-add_refusal-in-Err w ↦
          printed_refusal cells w.in-Err.error (string_bytes c.new-text.result) (string_bytes c.match-read_frames.text) w.in-Err.ensures.answer c.new-text.ensures.bytes
          (let h = w.in_ok-add_refusal-in-Err.ensures in (h.0, h.1, ap string_bytes w.text-is ∙ h.2))
    ]
