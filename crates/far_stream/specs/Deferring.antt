-- A client that keeps forgets back, and sends them ahead of its next request.
use Rattle.std.specs.Prelude.{◌≡◌, ◌<◌, ◌≤◌, ◌⊎◌, ⊤, ℕ, ◌+◌, List, [], ◌∷◌, ◌++◌, length, Option, None, Some, Result, Ok, Err}
use Rattle.std.specs.Option.{MatchOption}
use Rattle.far_store.specs.Calls.{Call}
use Rattle.far_store.specs.Calls.Call.{Put, Get, Forget}
use Rattle.far_store.specs.declared.fault.StoreFault.{StoreFault}
use Rattle.far_store.specs.declared.fault.StoreFault.TheVariants.{Io}
use Rattle.far_stream.specs.Client.{Client, Counts, IsSendable, Talks, Unsent}
use Rattle.far_stream.specs.Frames.{head, frame, put_kind, get_kind, forget_kind}
use Rattle.far_stream.specs.Hearing.{PutHears, GetHears, ForgetHears}
use Rattle.far_stream.specs.Sent.{Sent}

-- A client, and the ids whose forgets it keeps back, oldest first.
pub record Deferring (S : Type 0) : Type 0 where
  pub client : Client S
  pub deferred : List ℕ

-- how many forgets are kept back at most
abbrev pub deferred_limit : ℕ
deferred_limit = 64

-- the forgets of these ids, one after the other
abbrev pub forget_frames : List ℕ → List ℕ
forget_frames [] = []
forget_frames (id ∷ ids) = head forget_kind id 0 ++ forget_frames ids

-- The answers to forgets of these ids, in order. The first that is a fault is the last that is heard.
abbrev pub ForgetsHear : List ℕ → Option (List ℕ) → Option (List ℕ) → Result ⊤ StoreFault → Type 0
ForgetsHear [] before after (Ok told) = after ≡ before
ForgetsHear [] before after (Err fault) = ⊥
ForgetsHear (id ∷ ids) before after result =
    ((mid : Option (List ℕ)) × ForgetHears id before mid (Ok tt) × ForgetsHear ids mid after result)
    ⊎ ((fault : StoreFault) × (result ≡ Err fault) × ForgetHears id before after (Err fault))

-- the answers to those forgets, and then that to a request; or the fault of a forget, which is then the request's too
abbrev pub HearsAfter : {A : Type 0} → List ℕ → (Option (List ℕ) → Option (List ℕ) → Result A StoreFault → Type 0) → Option (List ℕ) → Option (List ℕ)
    → Result A StoreFault → Type 0
HearsAfter ids hears before after result =
    ((mid : Option (List ℕ)) × ForgetsHear ids before mid (Ok tt) × hears mid after result)
    ⊎ ((fault : StoreFault) × (result ≡ Err fault) × ForgetsHear ids before after (Err fault))

-- The forgets that were kept back and a request are written as one, and their answers heard. None is kept back any more.
abbrev pub SendsAll : {S A : Type 0} → (S → Option (List ℕ)) → (S → Option (List ℕ)) → Deferring S → List ℕ
    → (Option (List ℕ) → Option (List ℕ) → Result A StoreFault → Type 0) → Result A StoreFault → Deferring S → Type 0
SendsAll remaining contents old request hears result new = (new.deferred ≡ [])
    × Talks remaining contents old.client.stream (forget_frames old.deferred ++ request) (λ before after. HearsAfter old.deferred hears before after result)
    (result ≡ Err Io) new.client.stream

-- On a stream that is broken a call answers what broke it, and nothing is written or read.
abbrev pub UnlessCut : {S A : Type 0} → Deferring S → Result A StoreFault → Deferring S → Type 0 → Type 0
UnlessCut old result new talks = MatchOption old.client.broken talks
    (λ fault. (result ≡ Err fault) × (new.client.stream ≡ old.client.stream) × (new.client.puts ≡ old.client.puts) × (new.deferred ≡ old.deferred))

-- what a put writes and hears
abbrev pub SendsPut : {S : Type 0} → (S → Option (List ℕ)) → (S → Option (List ℕ)) → Deferring S → List ℕ → Result ⊤ StoreFault → Deferring S → Type 0
SendsPut remaining contents old bytes result new = UnlessCut old result new ((Unsent old.client bytes result new.client × (new.deferred ≡ old.deferred))
    ⊎ (IsSendable old.client.puts bytes × (new.client.puts ≡ old.client.puts + 1)
    × SendsAll remaining contents old (frame put_kind new.client.puts bytes) (PutHears new.client.puts) result new))

-- what a get writes and hears
abbrev pub SendsGet : {S : Type 0} → (S → Option (List ℕ)) → (S → Option (List ℕ)) → Deferring S → Sent → Result (List ℕ) StoreFault → Deferring S → Type 0
SendsGet remaining contents old sent result new = UnlessCut old result new ((new.client.puts ≡ old.client.puts)
    × SendsAll remaining contents old (head get_kind sent.id 0) (GetHears sent) result new)

-- what a forget writes and hears that isn't kept back
abbrev pub SendsForget : {S : Type 0} → (S → Option (List ℕ)) → (S → Option (List ℕ)) → Deferring S → ℕ → Result ⊤ StoreFault → Deferring S → Type 0
SendsForget remaining contents old id found new = UnlessCut old found new ((new.client.puts ≡ old.client.puts)
    × SendsAll remaining contents old (head forget_kind id 0) (ForgetHears id) found new)

-- a forget that is kept back
abbrev pub KeepsBack : {S : Type 0} → Deferring S → ℕ → Deferring S → Type 0
KeepsBack old id new = (new.client ≡ old.client) × (new.deferred ≡ old.deferred ++ id ∷ [])

-- what a put does
abbrev pub PutsAfter : {S : Type 0} → (S → Option (List ℕ)) → (S → Option (List ℕ)) → Deferring S → List ℕ → Result ⊤ StoreFault → Deferring S → Type 0
PutsAfter remaining contents old bytes result new = Counts old.client result new.client × SendsPut remaining contents old bytes result new

-- what a get does
abbrev pub GetsAfter : {S : Type 0} → (S → Option (List ℕ)) → (S → Option (List ℕ)) → Deferring S → Sent → Result (List ℕ) StoreFault → Deferring S → Type 0
GetsAfter remaining contents old sent result new = Counts old.client result new.client × SendsGet remaining contents old sent result new

-- What a forget does: it is kept back while there is room and the stream is well. Otherwise it is sent, and what it finds is counted where it is a fault.
abbrev pub Defers : {S : Type 0} → (S → Option (List ℕ)) → (S → Option (List ℕ)) → Deferring S → ℕ → Deferring S → Type 0
Defers remaining contents old id new = ((old.client.broken ≡ None) × (length old.deferred < deferred_limit) × KeepsBack old id new)
    ⊎ ((old.client.broken ≡ None → deferred_limit ≤ length old.deferred)
    × ((found : Result ⊤ StoreFault) × Counts old.client found new.client × SendsForget remaining contents old id found new))

-- what a call leaves of such a client
abbrev pub CalledAfter : {S : Type 0} → (S → Option (List ℕ)) → (S → Option (List ℕ)) → Deferring S → Call → Deferring S → Type 0
CalledAfter remaining contents old (Put bytes None) new = PutsAfter remaining contents old bytes (Ok tt) new
CalledAfter remaining contents old (Put bytes (Some fault)) new = PutsAfter remaining contents old bytes (Err fault) new
CalledAfter remaining contents old (Get bytes answer) new = (id : ℕ) × GetsAfter remaining contents old (record { id = id; bytes = bytes }) answer new
CalledAfter remaining contents old (Forget bytes) new = (id : ℕ) × Defers remaining contents old id new
