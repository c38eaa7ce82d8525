-- A server: what it keeps, and how it answers.
use Rattle.std.specs.Prelude.{◌≡◌, ◌<◌, ◌≤◌, ℕ, ◌^◌, nat_eq, if◌then◌else◌, ◌⊎◌, List, [], ◌∷◌, ◌++◌, length, Option, None, Some, IsSome}
use Rattle.far_stream.specs.Frames.{head, frame, payload_limit, put_kind, get_kind, forget_kind, done, refused_id, no_room}
use Rattle.far_stream.specs.Refusals.{MemoryIsRefused}
use Rattle.far_stream.specs.Sent.{Sent}

-- what a client asks
pub data Request : Type 0 where
  Put : ℕ → List ℕ → Request
  Get : ℕ → Request
  Forget : ℕ → Request

-- what it is answered: it is done, with these bytes; the id is kept already, or isn't; there is no room
pub data Answer : Type 0 where
  Done : List ℕ → Answer
  RefusedId : Answer
  NoRoom : Answer

-- the id of a request
abbrev pub id_of : Request → ℕ
id_of (Put id bytes) = id
id_of (Get id) = id
id_of (Forget id) = id

-- a request as bytes
abbrev pub request_frame : Request → List ℕ
request_frame (Put id bytes) = frame put_kind id bytes
request_frame (Get id) = head get_kind id 0
request_frame (Forget id) = head forget_kind id 0

-- what is a request: ids have 64 bits, and a put carries bytes
abbrev pub IsRequest : Request → Type 0
IsRequest (Put id bytes) = (id < 2 ^ 64) × (0 < length bytes) × (length bytes ≤ payload_limit)
IsRequest (Get id) = id < 2 ^ 64
IsRequest (Forget id) = id < 2 ^ 64

-- an answer as bytes, to the request of this id
abbrev pub answer_frame : ℕ → Answer → List ℕ
answer_frame id (Done bytes) = frame done id bytes
answer_frame id RefusedId = head refused_id id 0
answer_frame id NoRoom = head no_room id 0

-- the bytes that are kept under an id
abbrev pub kept_under : ℕ → List Sent → Option (List ℕ)
kept_under id [] = None
kept_under id (sent ∷ kept) = if nat_eq sent.id id then Some sent.bytes else kept_under id kept

-- what is kept without this id
abbrev pub without : ℕ → List Sent → List Sent
without id [] = []
without id (sent ∷ kept) = if nat_eq sent.id id then kept else sent ∷ without id kept

-- how many ids are kept at most
abbrev pub kept_limit : ℕ
kept_limit = 1024

-- From what is kept, a request may have this answer and leave this kept. There is no room for a put where as many are kept as may be, or memory is refused.
abbrev pub Serves : List Sent → Request → Answer → List Sent → Type 0
Serves kept (Put id bytes) (Done []) after = (kept_under id kept ≡ None) × (length kept < kept_limit) × (after ≡ kept ++ record { id = id; bytes = bytes } ∷ [])
Serves kept (Put id bytes) RefusedId after = IsSome (kept_under id kept) × (after ≡ kept)
Serves kept (Put id bytes) NoRoom after = (kept_under id kept ≡ None) × (after ≡ kept) × ((kept_limit ≤ length kept) ⊎ MemoryIsRefused)
Serves kept (Get id) (Done bytes) after = (kept_under id kept ≡ Some bytes) × (after ≡ kept)
Serves kept (Get id) RefusedId after = (kept_under id kept ≡ None) × (after ≡ kept)
Serves kept (Forget id) (Done []) after = IsSome (kept_under id kept) × (after ≡ without id kept)
Serves kept (Forget id) RefusedId after = (kept_under id kept ≡ None) × (after ≡ kept)
-- no other answer is given
Serves kept (Put id bytes) (Done (byte ∷ more)) after = ⊥
Serves kept (Get id) NoRoom after = ⊥
Serves kept (Forget id) (Done (byte ∷ more)) after = ⊥
Serves kept (Forget id) NoRoom after = ⊥
