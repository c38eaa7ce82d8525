use Rattle.std.proofs.Common.{◌≡◌, ◌<◌, length, map, set}
use Rattle.object_store.specs.Bodies.{CountsHold, bytes_in, place_in, scopes_in, sent_in}
use Rattle.object_store.specs.Stores.{window_of}
use Rattle.object_store.proofs.scoping.close.Given as goal

abbrev pub invariant-loop-number : goal.invariant-loop-number
invariant-loop-number g l = record {
  machine : l.who < length l.windows;
  counts : CountsHold (map scopes_in l.bodies) l.windows;
  windows : l.windows ≡ set l.fn.windows l.who (window_of l.windows l.who);
  bytes : map bytes_in l.bodies ≡ map bytes_in l.fn.bodies;
  places : map place_in l.bodies ≡ map place_in l.fn.bodies;
  sent : map sent_in l.bodies ≡ map sent_in l.fn.bodies;
}

abbrev pub decreases-loop-number : goal.decreases-loop-number
decreases-loop-number g l = length (window_of l.windows l.who)
