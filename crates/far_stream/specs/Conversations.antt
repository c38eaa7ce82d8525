-- A conversation of a server: requests come over a stream, and each is answered before the next is read.
use Rattle.std.specs.Prelude.{◌≡◌, ◌<◌, ◌≤◌, ◌⊎◌, ⊤, ℕ, ◌^◌, ◌-◌, List, [], ◌∷◌, ◌++◌, length, Option, Result, Ok, Err}
use Rattle.std.specs.Io.KnownBytes.{Appends, Consumes, IsAtEnd}
use Rattle.streams.specs.Streams.{AppendsPart}
use Rattle.far_stream.specs.Frames.{head, head_length, IsHead, payload_limit, put_kind, get_kind, forget_kind}
use Rattle.far_stream.specs.Sent.{Sent}
use Rattle.far_stream.specs.Server.{Request, Answer, id_of, request_frame, IsRequest, answer_frame, Serves}
use Rattle.far_stream.specs.declared.fault.StreamFault.{StreamFault}
use Rattle.far_stream.specs.declared.fault.StreamFault.TheVariants.{Io, Damaged, Protocol}

-- a request and its answer
pub record Turn : Type 0 where
  pub request : Request
  pub answer : Answer

-- The request came, whole, and had this answer; how the answer was written is `told`, over what the stream held before and holds after.
abbrev pub Takes : {S : Type 0} → (S → Option (List ℕ)) → (S → Option (List ℕ)) → (Option (List ℕ) → Option (List ℕ) → List ℕ → Type 0) → S → List Sent
    → Turn → List Sent → S → Type 0
Takes {S} remaining contents told old kept turn after new = (asked : S) × IsRequest turn.request
    × Consumes (remaining old) (remaining asked) (request_frame turn.request)
    × Serves kept turn.request turn.answer after × told (contents asked) (contents new) (answer_frame (id_of turn.request) turn.answer)

-- these turns, one after the other, each request answered before the next was read
abbrev pub TakesTurns : {S : Type 0} → (S → Option (List ℕ)) → (S → Option (List ℕ)) → S → List Sent → List Turn → List Sent → S → Type 0
TakesTurns remaining contents old kept [] after new = (after ≡ kept) × (new ≡ old)
TakesTurns {S} remaining contents old kept (turn ∷ turns) after new = (mid : List Sent) × (then : S)
    × Takes remaining contents Appends old kept turn mid then × TakesTurns remaining contents then mid turns after new

-- a head that a request may have
abbrev pub IsAsking : ℕ → ℕ → Type 0
IsAsking kind count = ((kind ≡ put_kind) × (0 < count) × (count ≤ payload_limit)) ⊎ (((kind ≡ get_kind) ⊎ (kind ≡ forget_kind)) × (count ≡ 0))

-- bytes that are the head of no request
abbrev pub IsMalformed : List ℕ → Type 0
IsMalformed bytes = (kind id count : ℕ) × IsHead kind id count × (IsAsking kind count → ⊥) × (bytes ≡ head kind id count)

-- bytes that are less than a request
abbrev pub IsUnfinished : List ℕ → Type 0
IsUnfinished bytes = (length bytes < head_length)
    ⊎ ((id count : ℕ) × (part : List ℕ) × (0 < count) × (count ≤ payload_limit) × (length part < count) × (bytes ≡ head put_kind id count ++ part))

-- the input ended before a request
abbrev pub EndsBetween : {S : Type 0} → (S → Option (List ℕ)) → S → S → Type 0
EndsBetween remaining old new = Consumes (remaining old) (remaining new) [] × IsAtEnd (remaining new)

-- what came is no request, or the input ended within one
abbrev pub EndsWrong : {S : Type 0} → (S → Option (List ℕ)) → S → S → Type 0
EndsWrong remaining old new = (bytes : List ℕ) × Consumes (remaining old) (remaining new) bytes
    × (IsMalformed bytes ⊎ ((0 < length bytes) × IsUnfinished bytes × IsAtEnd (remaining new)))

-- the reader failed before a request was whole, or the writer within an answer
abbrev pub EndsFailing : {S : Type 0} → (S → Option (List ℕ)) → (S → Option (List ℕ)) → S → List Sent → S → Type 0
EndsFailing remaining contents old kept new = ((bytes : List ℕ) × Consumes (remaining old) (remaining new) bytes × IsUnfinished bytes)
    ⊎ ((turn : Turn) × (after : List Sent) × Takes remaining contents AppendsPart old kept turn after new)

-- how many requests are answered at most
abbrev pub turn_limit : ℕ
turn_limit = 2 ^ 64 - 1

-- how a conversation ends, after so many turns
abbrev pub Ends : {S : Type 0} → (S → Option (List ℕ)) → (S → Option (List ℕ)) → ℕ → S → List Sent → Result ⊤ StreamFault → S → Type 0
Ends remaining contents turns old kept (Ok ended) new = EndsBetween remaining old new
Ends remaining contents turns old kept (Err Protocol) new = EndsWrong remaining old new
Ends remaining contents turns old kept (Err Io) new = EndsFailing remaining contents old kept new ⊎ ((turns ≡ turn_limit) × (new ≡ old))
Ends remaining contents turns old kept (Err Damaged) new = ⊥

-- A whole conversation, from a server that keeps nothing: requests with their answers, a run of the server, and then the end.
pub record Converses {S : Type 0} (remaining contents : S → Option (List ℕ)) (old : S) (result : Result ⊤ StreamFault) (new : S) : Type 0 where
  pub turns : List Turn
  pub kept : List Sent
  pub last : S
  pub so_far : TakesTurns remaining contents old [] turns kept last
  pub ends : Ends remaining contents (length turns) last kept result new
