-- For private functions and proofs alone: one request, when some of its bytes have come.
use Rattle.std.specs.Prelude.{◌≡◌, ◌<◌, ◌⊎◌, ⊤, ℕ, List, [], ◌++◌, length, Option, Result, Ok, Err}
use Rattle.std.specs.Io.KnownBytes.{Appends, Consumes, IsAtEnd}
use Rattle.streams.specs.Streams.{AppendsPart}
use Rattle.far_stream.specs.Sent.{Sent}
use Rattle.far_stream.specs.Server.Answer.{Done, RefusedId, NoRoom}
use Rattle.far_stream.specs.Server.Request.{Put, Forget}
use Rattle.far_stream.specs.Server.{Answer, id_of, request_frame, IsRequest, answer_frame, Serves}
use Rattle.far_stream.specs.Conversations.{Turn, IsMalformed, IsUnfinished}
use Rattle.far_stream.specs.declared.frame.Status.{Status}
use Rattle.far_stream.specs.declared.frame.Status.TheVariants as status
use Rattle.far_stream.specs.declared.fault.StreamFault.{StreamFault}
use Rattle.far_stream.specs.declared.fault.StreamFault.TheVariants.{Io, Damaged, Protocol}

-- the answer without bytes, by its status
abbrev pub status_answer : Status → Answer
status_answer status.Done = Done []
status_answer status.RefusedId = RefusedId
status_answer status.NoRoom = NoRoom

-- the rest of the request comes, and it is answered
abbrev pub TakesOn : {S : Type 0} → (S → Option (List ℕ)) → (S → Option (List ℕ)) → (Option (List ℕ) → Option (List ℕ) → List ℕ → Type 0) → List ℕ → S
    → List Sent → List Sent → S → Type 0
TakesOn {S} remaining contents told came old kept after new = (turn : Turn) × (rest : List ℕ) × (asked : S) × IsRequest turn.request
    × (request_frame turn.request ≡ came ++ rest)
    × Consumes (remaining old) (remaining asked) rest × Serves kept turn.request turn.answer after
    × told (contents asked) (contents new) (answer_frame (id_of turn.request) turn.answer)

-- the rest is no request, or the input ends within it
abbrev pub EndsWrongOn : {S : Type 0} → (S → Option (List ℕ)) → List ℕ → S → S → Type 0
EndsWrongOn remaining came old new = (rest : List ℕ) × Consumes (remaining old) (remaining new) rest
    × (IsMalformed (came ++ rest) ⊎ ((0 < length (came ++ rest)) × IsUnfinished (came ++ rest) × IsAtEnd (remaining new)))

-- the reader fails within the rest, or the writer within the answer
abbrev pub EndsFailingOn : {S : Type 0} → (S → Option (List ℕ)) → (S → Option (List ℕ)) → List ℕ → S → List Sent → S → Type 0
EndsFailingOn remaining contents came old kept new = ((rest : List ℕ) × Consumes (remaining old) (remaining new) rest × IsUnfinished (came ++ rest))
    ⊎ ((after : List Sent) × TakesOn remaining contents AppendsPart came old kept after new)

-- what becomes of a request of which these bytes have come
abbrev pub ServesOn : {S : Type 0} → (S → Option (List ℕ)) → (S → Option (List ℕ)) → List ℕ → S → List Sent → Result ⊤ StreamFault → List Sent → S → Type 0
ServesOn remaining contents came old kept (Ok answered) after new = TakesOn remaining contents Appends came old kept after new
ServesOn remaining contents came old kept (Err Protocol) after new = EndsWrongOn remaining came old new
ServesOn remaining contents came old kept (Err Io) after new = EndsFailingOn remaining contents came old kept new
ServesOn remaining contents came old kept (Err Damaged) after new = ⊥

-- the bytes of a put came, and this became of them
abbrev pub PutTaken : Option (List ℕ) → Option (List ℕ) → List Sent → ℕ → ℕ → Status → List Sent → Type 0
PutTaken before after kept id count status left = (bytes : List ℕ) × (length bytes ≡ count) × Consumes before after bytes
    × Serves kept (Put id bytes) (status_answer status) left

-- an id is kept no more
abbrev pub Forgotten : List Sent → ℕ → Status → List Sent → Type 0
Forgotten kept id status left = Serves kept (Forget id) (status_answer status) left
