use Rattle.agent.proofs.theorems.replies_are_explained.Goals as goal

pub returns : goal.returns
returns g c = record {
  entries = c.replies_are_entries.ensures;
  last = c.reply_is_entry.ensures;
  seen = c.answered_machines_are_seen.ensures;
  above = c.steps_stand_above.ensures;
  stay = c.opened_machines_stay.ensures;
  granted = c.seen_machines_are_granted.ensures;
}
