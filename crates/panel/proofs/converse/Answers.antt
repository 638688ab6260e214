-- `panel::converse` is safe: events always lead to what the console keeps.
use Rattle.panel.proofs.ByEvents.{by_events_start}
use Rattle.panel.proofs.converse.Goals as goal

pub listen-ended-requires : goal.listen-ended-requires
listen-ended-requires g c = by_events_start c.start-console.ensures
