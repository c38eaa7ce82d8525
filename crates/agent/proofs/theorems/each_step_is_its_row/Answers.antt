use Rattle.machine.proofs.Changes.{changes_one}
use Rattle.machine.proofs.Confined.{steps_are_confined, steps_protect}
use Rattle.machine.proofs.Fuel.{fuel_counts}
use Rattle.machine.proofs.Granted.{entries_are_granted, replays_are_confined}
use Rattle.machine.proofs.Replaying.{waited_did}
use Rattle.machine.proofs.Stopping.{stopped_stays, stops_in_place, waits_in_place}
use Rattle.agent.proofs.StepRows.{steps_are_rows}
use Rattle.agent.proofs.theorems.each_step_is_its_row.Goals as goal

pub returns : goal.returns
returns g c = record {
  rows = steps_are_rows g.M.Memory.acts;
  waits = waits_in_place g.M.Memory.acts;
  waiting = waited_did g.M.Memory.acts g.met.M.Memory.promises;
  stops = stops_in_place g.M.Memory.acts;
  stopped = stopped_stays g.M.Memory.acts;
  fuel = fuel_counts g.M.Memory.acts;
  writes = changes_one;
  protects = steps_protect;
  confined = steps_are_confined;
  granted = entries_are_granted;
  alike = replays_are_confined;
}
