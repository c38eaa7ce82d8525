use Rattle.std.proofs.Common.{◌≡◌, ◌*◌, length, take}
use Rattle.far_stream.specs.Deferring.{forget_frames}
use Rattle.far_stream.proofs.forgets.Forgets.frames.Given as goal

abbrev pub invariant-loop-id : goal.invariant-loop-id
invariant-loop-id l = (l.frames.items ≡ forget_frames (take l.id-index l.id-items)) × (length l.frames.items ≡ 13 * l.id-index)
