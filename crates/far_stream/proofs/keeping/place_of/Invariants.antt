use Rattle.std.proofs.Common.{◌≡◌, ◌++◌, drop, take}
use Rattle.far_stream.specs.Server.{kept_under, without}
use Rattle.far_stream.proofs.keeping.place_of.Given as goal

abbrev pub invariant-loop-k : goal.invariant-loop-k
invariant-loop-k l =
    (l.place ≡ l.k-index) × (kept_under l.id l.kept ≡ kept_under l.id (drop l.k-index l.kept))
    × (without l.id l.kept ≡ take l.k-index l.kept ++ without l.id (drop l.k-index l.kept))
