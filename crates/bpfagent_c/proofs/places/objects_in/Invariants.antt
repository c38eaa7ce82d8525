use Rattle.std.proofs.Common.{◌≡◌, ◌≤◌}
use Rattle.arrayvec.specs.ArrayVec.{array_vec_len}
use Rattle.bpfagent_c.specs.Handing.{standing}
use Rattle.bpfagent_c.proofs.places.objects_in.Given as goal

abbrev pub invariant-loop-index : goal.invariant-loop-index
invariant-loop-index l = record {
  items : l.found.items ≡ standing l.place l.world.store.state l.index;
  room : array_vec_len l.found ≤ l.index;
}
