-- `panel::answer` meets its contract.
use Rattle.base.proofs.Text.{put_within, put_part}
use Rattle.panel.proofs.Says.{turned}
use Rattle.panel.proofs.ByEvents.{known, known_kept, by_events_line, sound_at}
use Rattle.panel.proofs.answer.Goals as goal

pub slice_bounds-out-end : goal.slice_bounds-out-end
slice_bounds-out-end g c =
    let k = c.requires.1 in
    put_within (c.respond-n.ensures (known k) (known_kept k)).tells.put

pub slice_bounds-put-end : goal.slice_bounds-put-end
slice_bounds-put-end g c =
    let k = c.requires.1 in
    put_part (c.respond-n.ensures (known k) (known_kept k)).tells.put

pub returns : goal.returns
returns g c =
    let k = c.requires.1 in
    let respond = c.respond-n in
    record { led = λ s h. turned (respond.ensures s h); reached = by_events_line (λ s h. turned (respond.ensures s h)) k; sound = sound_at k }
