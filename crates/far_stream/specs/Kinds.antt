-- For private functions and proofs alone: the numbers of kinds and of status.
use Rattle.std.specs.Prelude.{◌≡◌, ◌<◌, ◌≤◌, ℕ}
use Rattle.far_stream.specs.Frames.{payload_limit, put_kind, get_kind, forget_kind, done, refused_id, no_room}
use Rattle.far_stream.specs.declared.frame.FrameKind.{FrameKind}
use Rattle.far_stream.specs.declared.frame.FrameKind.TheVariants.{Put, Get, Forget}
use Rattle.far_stream.specs.declared.frame.Status.{Status}
use Rattle.far_stream.specs.declared.frame.Status.TheVariants.{Done, RefusedId, NoRoom}

-- what is asked
abbrev pub kind_number : FrameKind → ℕ
kind_number Put = put_kind
kind_number Get = get_kind
kind_number Forget = forget_kind

-- the head of a request of this kind: its number, and how many bytes follow
abbrev pub Asks : FrameKind → ℕ → ℕ → Type 0
Asks Put number count = (number ≡ put_kind) × (0 < count) × (count ≤ payload_limit)
Asks Get number count = (number ≡ get_kind) × (count ≡ 0)
Asks Forget number count = (number ≡ forget_kind) × (count ≡ 0)

-- what is answered
abbrev pub status_number : Status → ℕ
status_number Done = done
status_number RefusedId = refused_id
status_number NoRoom = no_room
