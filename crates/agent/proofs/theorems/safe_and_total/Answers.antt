use Rattle.memory.specs.MapMemory.{map_memory}
use Rattle.bpf_codec.proofs.Encodings.{none_begins_another, none_shared, no_fault_where_encoded}
use Rattle.loader.proofs.OneReason.{one_refusal, no_refusal_of_valid}
use Rattle.machine.proofs.Fuel.{fuel_bounds}
use Rattle.machine.proofs.OneWay.{map_steps_one_way}
use Rattle.machine.proofs.Wholeness.{starts_whole, stays_whole, map_always_steps}
use Rattle.agent.proofs.theorems.safe_and_total.Goals as goal

pub returns : goal.returns
returns c = record {
  apart = none_begins_another;
  unshared = none_shared;
  faults = no_fault_where_encoded;
  refusals = one_refusal;
  valid = no_refusal_of_valid;
  starts = starts_whole;
  stays = stays_whole map_memory;
  steps = map_always_steps;
  one_way = map_steps_one_way;
  fuel = fuel_bounds map_memory;
}
