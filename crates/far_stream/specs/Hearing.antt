-- What a request may be answered, by the bytes that come for it. `before` is what the reader had left, and `after` what it has left then.
use Rattle.std.specs.Prelude.{◌≡◌, ◌≢◌, ◌<◌, ◌≤◌, ◌⊎◌, ⊤, ℕ, List, ◌++◌, length, Option, Result, Ok, Err}
use Rattle.std.specs.Io.KnownBytes.{Consumes}
use Rattle.sha2.specs.Sha256.{sha256}
use Rattle.streams.specs.Streams.{ConsumesFewer}
use Rattle.far_store.specs.declared.fault.StoreFault.{StoreFault}
use Rattle.far_store.specs.declared.fault.StoreFault.TheVariants.{Io, Damaged, Protocol, Memory, Refused}
use Rattle.far_stream.specs.Frames.{head, frame, head_length, IsHead, payload_limit, done, refused_id, no_room}
use Rattle.far_stream.specs.Refusals.{MemoryIsRefused}
use Rattle.far_stream.specs.Sent.{Sent}

-- the result of a call, with what `view` shows of its value in place of the value
abbrev pub seen : {V A E : Type 0} → (V → A) → Result V E → Result A E
seen view (Ok value) = Ok (view value)
seen view (Err fault) = Err fault

-- a head that an answer to the request of this id may have, where so many bytes may come with it: only `done` comes with bytes
abbrev pub IsProper : ℕ → ℕ → ℕ → ℕ → ℕ → Type 0
IsProper id most status other count = (other ≡ id) × (status ≤ no_room) × (count ≤ most) × ((status ≡ done) ⊎ (count ≡ 0))

-- the server refused: the id, or for want of room
abbrev pub HearsRefusal : ℕ → Option (List ℕ) → Option (List ℕ) → Type 0
HearsRefusal id before after = Consumes before after (head refused_id id 0) ⊎ Consumes before after (head no_room id 0)

-- a head came that no answer to this request may have
abbrev pub HearsOther : ℕ → ℕ → Option (List ℕ) → Option (List ℕ) → Type 0
HearsOther id most before after = (status other count : ℕ) × IsHead status other count × (IsProper id most status other count → ⊥)
    × Consumes before after (head status other count)

-- what the head of an answer says, where so many bytes may come with it: how many do
abbrev pub HearsHead : ℕ → ℕ → Option (List ℕ) → Option (List ℕ) → Result ℕ StoreFault → Type 0
HearsHead id most before after (Ok count) = (count ≤ most) × Consumes before after (head done id count)
HearsHead id most before after (Err Refused) = HearsRefusal id before after
HearsHead id most before after (Err Protocol) = HearsOther id most before after
HearsHead id most before after (Err Io) = ConsumesFewer head_length before after
HearsHead id most before after (Err Damaged) = ⊥
HearsHead id most before after (Err Memory) = ⊥

-- what a put may answer
abbrev pub PutHears : ℕ → Option (List ℕ) → Option (List ℕ) → Result ⊤ StoreFault → Type 0
PutHears id before after (Ok kept) = Consumes before after (head done id 0)
PutHears id before after (Err Refused) = HearsRefusal id before after
PutHears id before after (Err Protocol) = HearsOther id 0 before after
PutHears id before after (Err Io) = ConsumesFewer head_length before after
PutHears id before after (Err Damaged) = ⊥
PutHears id before after (Err Memory) = ⊥

-- what a forget finds: whether the server had the id is no matter
abbrev pub ForgetHears : ℕ → Option (List ℕ) → Option (List ℕ) → Result ⊤ StoreFault → Type 0
ForgetHears id before after (Ok told) = Consumes before after (head done id 0) ⊎ HearsRefusal id before after
ForgetHears id before after (Err Protocol) = HearsOther id 0 before after
ForgetHears id before after (Err Io) = ConsumesFewer head_length before after
ForgetHears id before after (Err Refused) = ⊥
ForgetHears id before after (Err Damaged) = ⊥
ForgetHears id before after (Err Memory) = ⊥

-- the bytes aren't those that were put: their number differs, or their digest
abbrev pub IsDamaged : List ℕ → List ℕ → Type 0
IsDamaged sent bytes = (length bytes ≢ length sent) ⊎ (sha256 bytes ≢ sha256 sent)

-- What a get may answer: bytes of the length and the SHA-256 of those that were put; else why not. An answer is read to its
-- end, also where its bytes are dropped, unless the reader fails or ends before.
abbrev pub GetHears : Sent → Option (List ℕ) → Option (List ℕ) → Result (List ℕ) StoreFault → Type 0
GetHears sent before after (Ok bytes) = Consumes before after (frame done sent.id bytes) × (length bytes ≡ length sent.bytes)
    × (sha256 bytes ≡ sha256 sent.bytes)
GetHears sent before after (Err Damaged) = (bytes : List ℕ) × Consumes before after (frame done sent.id bytes)
    × (length bytes ≤ payload_limit) × IsDamaged sent.bytes bytes
GetHears sent before after (Err Memory) = (bytes : List ℕ) × Consumes before after (frame done sent.id bytes) × (length bytes ≡ length sent.bytes)
    × MemoryIsRefused
GetHears sent before after (Err Refused) = HearsRefusal sent.id before after
GetHears sent before after (Err Protocol) = HearsOther sent.id payload_limit before after
GetHears sent before after (Err Io) = ConsumesFewer head_length before after
    ⊎ ((count : ℕ) × (part : List ℕ) × (count ≤ payload_limit) × (length part < count) × Consumes before after (head done sent.id count ++ part))
