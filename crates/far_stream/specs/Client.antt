-- What the calls of a store at the other end of a stream do.
use Rattle.std.specs.Prelude.{◌≡◌, ◌<◌, ◌≤◌, ◌⊎◌, ⊤, ℕ, ◌+◌, ◌^◌, ◌-◌, List, length, Option, None, Some, Result, Ok, Err}
use Rattle.std.specs.Option.{MatchOption}
use Rattle.std.specs.Io.KnownBytes.{Appends}
use Rattle.streams.specs.Streams.{AppendsPart}
use Rattle.far_store.specs.Calls.{Call}
use Rattle.far_store.specs.Calls.Call.{Put, Get, Forget}
use Rattle.far_store.specs.Stores.{capped}
use Rattle.far_store.specs.declared.fault.StoreFault.{StoreFault}
use Rattle.far_store.specs.declared.fault.StoreFault.TheVariants.{Io, Damaged, Protocol, Memory, Refused}
use Rattle.far_stream.specs.Frames.{head, frame, payload_limit, put_kind, get_kind, forget_kind}
use Rattle.far_stream.specs.Refusals.{MemoryIsRefused}
use Rattle.far_stream.specs.Sent.{Sent}
use Rattle.far_stream.specs.Hearing.{PutHears, GetHears, ForgetHears}

-- A client: its end of the stream, how many puts it numbered, the fault that broke the stream, and how many faults there were.
pub record Client (S : Type 0) : Type 0 where
  pub stream : S
  pub puts : ℕ
  pub broken : Option StoreFault
  pub faults : ℕ

-- what the stream is broken by after a fault: Io and Protocol last
abbrev pub broken_by : Option StoreFault → StoreFault → Option StoreFault
broken_by before Io = Some Io
broken_by before Protocol = Some Protocol
broken_by before Damaged = before
broken_by before Memory = before
broken_by before Refused = before

-- what a put answered, without the parcel, or the bytes that came back
abbrev pub put_outcome : {P B : Type 0} → Result P (StoreFault × B) → Result ⊤ StoreFault
put_outcome (Ok parcel) = Ok tt
put_outcome (Err fault) = Err fault.0

-- each fault is counted, and what lasts is kept
abbrev pub Counts : {S A : Type 0} → Client S → Result A StoreFault → Client S → Type 0
Counts old (Ok answer) new = (new.broken ≡ old.broken) × (new.faults ≡ old.faults)
Counts old (Err fault) new = (new.broken ≡ broken_by old.broken fault) × (new.faults ≡ capped (old.faults + 1))

-- The request was written, all of it, and then this was heard; or the writer took the first of it and failed.
abbrev pub Talks : {S : Type 0} → (S → Option (List ℕ)) → (S → Option (List ℕ)) → S → List ℕ
    → (Option (List ℕ) → Option (List ℕ) → Type 0) → Type 0 → S → Type 0
Talks {S} remaining contents old request heard failed new =
    ((mid : S) × Appends (contents old) (contents mid) request × heard (remaining mid) (remaining new))
    ⊎ (failed × AppendsPart (contents old) (contents new) request)

-- On a stream that is broken a call answers what broke it, and nothing is written or read.
abbrev pub UnlessBroken : {S A : Type 0} → Client S → Result A StoreFault → Client S → Type 0 → Type 0
UnlessBroken old result new talks = MatchOption old.broken talks (λ fault. (result ≡ Err fault) × (new.stream ≡ old.stream) × (new.puts ≡ old.puts))

-- bytes that a frame can carry, and a number for them
abbrev pub IsSendable : ℕ → List ℕ → Type 0
IsSendable puts bytes = (0 < length bytes) × (length bytes ≤ payload_limit) × (puts < 2 ^ 64 - 1)

-- a put that writes nothing: no frame carries the bytes, all numbers are used up, or memory for the frame was refused
abbrev pub Unsent : {S : Type 0} → Client S → List ℕ → Result ⊤ StoreFault → Client S → Type 0
Unsent old bytes result new = (new.stream ≡ old.stream) × (new.puts ≡ old.puts)
    × (((IsSendable old.puts bytes → ⊥) × (result ≡ Err Refused)) ⊎ (IsSendable old.puts bytes × (result ≡ Err Memory) × MemoryIsRefused))

-- what a put writes and hears
abbrev pub AsksToPut : {S : Type 0} → (S → Option (List ℕ)) → (S → Option (List ℕ)) → Client S → List ℕ → Result ⊤ StoreFault → Client S → Type 0
AsksToPut remaining contents old bytes result new = UnlessBroken old result new (Unsent old bytes result new
    ⊎ (IsSendable old.puts bytes × (new.puts ≡ old.puts + 1)
    × Talks remaining contents old.stream (frame put_kind new.puts bytes) (λ before after. PutHears new.puts before after result) (result ≡ Err Io) new.stream))

-- what a get writes and hears
abbrev pub AsksToGet : {S : Type 0} → (S → Option (List ℕ)) → (S → Option (List ℕ)) → Client S → Sent → Result (List ℕ) StoreFault → Client S → Type 0
AsksToGet remaining contents old sent result new = UnlessBroken old result new ((new.puts ≡ old.puts)
    × Talks remaining contents old.stream (head get_kind sent.id 0) (λ before after. GetHears sent before after result) (result ≡ Err Io) new.stream)

-- what a forget writes and hears
abbrev pub AsksToForget : {S : Type 0} → (S → Option (List ℕ)) → (S → Option (List ℕ)) → Client S → ℕ → Result ⊤ StoreFault → Client S → Type 0
AsksToForget remaining contents old id found new = UnlessBroken old found new ((new.puts ≡ old.puts)
    × Talks remaining contents old.stream (head forget_kind id 0) (λ before after. ForgetHears id before after found) (found ≡ Err Io) new.stream)

-- what a put does
abbrev pub PutsOver : {S : Type 0} → (S → Option (List ℕ)) → (S → Option (List ℕ)) → Client S → List ℕ → Result ⊤ StoreFault → Client S → Type 0
PutsOver remaining contents old bytes result new = Counts old result new × AsksToPut remaining contents old bytes result new

-- what a get does
abbrev pub GetsOver : {S : Type 0} → (S → Option (List ℕ)) → (S → Option (List ℕ)) → Client S → Sent → Result (List ℕ) StoreFault → Client S → Type 0
GetsOver remaining contents old sent result new = Counts old result new × AsksToGet remaining contents old sent result new

-- what a forget does: what it finds is counted where it is a fault, and told in no other way
abbrev pub ForgetsOver : {S : Type 0} → (S → Option (List ℕ)) → (S → Option (List ℕ)) → Client S → ℕ → Client S → Type 0
ForgetsOver remaining contents old id new = (found : Result ⊤ StoreFault) × Counts old found new × AsksToForget remaining contents old id found new

-- what a call leaves of a client: a put, a get or a forget, under the number of its parcel
abbrev pub Called : {S : Type 0} → (S → Option (List ℕ)) → (S → Option (List ℕ)) → Client S → Call → Client S → Type 0
Called remaining contents old (Put bytes None) new = PutsOver remaining contents old bytes (Ok tt) new
Called remaining contents old (Put bytes (Some fault)) new = PutsOver remaining contents old bytes (Err fault) new
Called remaining contents old (Get bytes answer) new = (id : ℕ) × GetsOver remaining contents old (record { id = id; bytes = bytes }) answer new
Called remaining contents old (Forget bytes) new = (id : ℕ) × ForgetsOver remaining contents old id new
