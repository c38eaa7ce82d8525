-- One request: what came of it, and how it was answered.
use Rattle.std.proofs.Common.{◌≡◌, ◌≢◌, ℕ, ◌^◌, ◌<◌, ◌≤◌, List, [], ◌∷◌, ◌++◌, length, refl, sym, ap, subst, arith, inl, inr, append-nil, length-append, Option}
use Rattle.std.proofs.Common.{None, Some, Ok, Err, Result, OnOk, IfErr}
use Rattle.std.specs.Prelude.{⊤}
use Rattle.std.specs.Io.KnownBytes.{Appends, Consumes}
use Rattle.std.proofs.KnownBytes.{Consumes-trans}
use Rattle.streams.specs.Streams.{AppendsPart}
use Rattle.far_stream.specs.Frames.{head, payload_limit, put_kind, get_kind, forget_kind, done, IsHead}
use Rattle.far_stream.specs.Sent.{Sent}
use Rattle.far_stream.specs.Server.Request.{Put, Get, Forget}
use Rattle.far_stream.specs.Server.{Answer, Serves, answer_frame}
use Rattle.far_stream.specs.Conversations.{Turn, Takes, TakesTurns, Ends, IsAsking, IsUnfinished}
use Rattle.far_stream.specs.Serving.{PutTaken, ServesOn, TakesOn, status_answer}
use Rattle.far_stream.specs.Payloads.{CutsOff}
use Rattle.far_stream.specs.Faults.{of_cut}
use Rattle.far_stream.specs.Kinds.{status_number}
use Rattle.far_stream.specs.declared.fault.Cut.{Cut}
use Rattle.far_stream.specs.declared.fault.Cut.TheVariants.{Failed, Ended}
use Rattle.far_stream.specs.declared.frame.Status.{Status}
use Rattle.far_stream.specs.declared.frame.Status.TheVariants as status
use Rattle.far_stream.specs.declared.fault.StreamFault.{StreamFault}
use Rattle.far_stream.specs.declared.fault.StreamFault.TheVariants.{Io, Damaged, Protocol}
use Rattle.far_stream.proofs.Bytes.{length-head}

-- one more turn
pub turns_on : {S : Type 0} (remaining contents : S → Option (List ℕ)) (a b c : S) (k l m : List Sent) (turns : List Turn) (turn : Turn)
    → TakesTurns remaining contents a k turns l b → Takes remaining contents Appends b l turn m c → TakesTurns remaining contents a k (turns ++ turn ∷ []) m c
turns_on remaining contents a b c k l m [] turn none one = (
  m,
  c,
  subst (λ s. Takes remaining contents Appends s k turn m c) none.1 (subst (λ x. Takes remaining contents Appends b x turn m c) none.0 one),
  (refl, refl),
)
turns_on remaining contents a b c k l m (first ∷ turns) turn some one =
    (some.0, some.1, some.2, turns_on remaining contents some.1 b c some.0 l m turns turn some.3 one)

-- the first bytes of a request came, and then the rest
pub takes_from : {S : Type 0} (remaining contents : S → Option (List ℕ)) (told : Option (List ℕ) → Option (List ℕ) → List ℕ
    → Type 0) (o m n : S) (came : List ℕ) (kept after : List Sent)
    → Consumes (remaining o) (remaining m) came → TakesOn remaining contents told came m kept after n → TakesOn remaining contents told [] o kept after n
takes_from remaining contents told o m n came kept after ate t =
    (t.0, came ++ t.1, t.2, t.3, t.4, Consumes-trans _ _ _ came t.1 ate t.5, t.6, t.7)

pub serves_from : {S : Type 0} (remaining contents : S → Option (List ℕ)) (o m n : S) (came : List ℕ) (kept after : List Sent) (result : Result ⊤ StreamFault)
    → Consumes (remaining o) (remaining m) came → ServesOn remaining contents came m kept result after n → ServesOn remaining contents [] o kept result after n
serves_from remaining contents o m n came kept after (Ok answered) ate t = takes_from remaining contents Appends o m n came kept after ate t
serves_from remaining contents o m n came kept after (Err Protocol) ate t = (came ++ t.0, Consumes-trans _ _ _ came t.0 ate t.1, t.2)
serves_from remaining contents o m n came kept after (Err Io) ate (inl t) = inl (came ++ t.0, Consumes-trans _ _ _ came t.0 ate t.1, t.2)
serves_from remaining contents o m n came kept after (Err Io) ate (inr t) = inr (t.0, takes_from remaining contents AppendsPart o m n came kept t.0 ate t.1)
serves_from remaining contents o m n came kept after (Err Damaged) ate t = absurd t

-- the answer to a put, by its status, as bytes
pub answer_of_status : (id : ℕ) (s : Status) → head (status_number s) id 0 ≡ answer_frame id (status_answer s)
answer_of_status id status.Done = sym (append-nil (head done id 0))
answer_of_status id status.RefusedId = refl
answer_of_status id status.NoRoom = refl

-- the bytes of a put came, and its status is written
pub put_takes : {S : Type 0} (remaining contents : S → Option (List ℕ)) (told : Option (List ℕ) → Option (List ℕ) → List ℕ
    → Type 0) (o m n : S) (kept after : List Sent) (id count : ℕ) (s : Status)
    → id < 2 ^ 64 → 0 < count → count ≤ payload_limit → PutTaken (remaining o) (remaining m) kept id count s after
    → told (contents m) (contents n) (head (status_number s) id 0) → TakesOn remaining contents told (head put_kind id count) o kept after n
put_takes remaining contents told o m n kept after id count s fits some most taken wrote =
    let bytes = taken.0 in (
      record { request = Put id bytes; answer = status_answer s },
      bytes,
      m,
      (fits, omega (arith, taken.1), omega (arith, taken.1)),
      ap (λ k. head put_kind id k ++ bytes) taken.1,
      taken.2,
      taken.3,
      subst (λ f. told (contents m) (contents n) f) (answer_of_status id s) wrote,
    )

unfinished_put : (id count : ℕ) (part : List ℕ) → 0 < count → count ≤ payload_limit → length part < count → IsUnfinished (head put_kind id count ++ part)
unfinished_put id count part some most fewer = inr (id, count, part, some, most, fewer, refl)

-- the bytes of a put were cut off
pub put_cut : {S : Type 0} (remaining contents : S → Option (List ℕ)) (o n : S) (kept after : List Sent) (id count : ℕ) (cut : Cut)
    → 0 < count → count ≤ payload_limit → CutsOff cut count (remaining o) (remaining n)
    → ServesOn remaining contents (head put_kind id count) o kept (Err (of_cut cut)) after n
put_cut remaining contents o n kept after id count Failed some most c = inl (c.0, c.2, unfinished_put id count c.0 some most c.1)
put_cut remaining contents o n kept after id count Ended some most c = (
  c.0.0,
  c.0.2,
  inr (
    omega (arith, length-append (head put_kind id count) c.0.0, length-head put_kind id count),
    unfinished_put id count c.0.0 some most c.0.1,
    c.1,
  ),
)

-- an id that is kept is got
pub get_takes : {S : Type 0} (remaining contents : S → Option (List ℕ)) (told : Option (List ℕ) → Option (List ℕ) → List ℕ
    → Type 0) (o n : S) (kept : List Sent) (id : ℕ) (answer : Answer) (text : List ℕ)
    → id < 2 ^ 64 → Serves kept (Get id) answer kept → text ≡ answer_frame id answer
    → Consumes (remaining o) (remaining o) [] → told (contents o) (contents n) text → TakesOn remaining contents told (head get_kind id 0) o kept kept n
get_takes remaining contents told o n kept id answer text fits serves same none wrote = (
  record { request = Get id; answer = answer },
  [],
  o,
  fits,
  sym (append-nil (head get_kind id 0)),
  none,
  serves,
  subst (λ f. told (contents o) (contents n) f) same wrote,
)

pub forget_takes : {S : Type 0} (remaining contents : S → Option (List ℕ)) (told : Option (List ℕ) → Option (List ℕ) → List ℕ
    → Type 0) (o n : S) (kept after : List Sent) (id : ℕ) (answer : Answer) (text : List ℕ)
    → id < 2 ^ 64 → Serves kept (Forget id) answer after → text ≡ answer_frame id answer
    → Consumes (remaining o) (remaining o) [] → told (contents o) (contents n) text → TakesOn remaining contents told (head forget_kind id 0) o kept after n
forget_takes remaining contents told o n kept after id answer text fits serves same none wrote = (
  record { request = Forget id; answer = answer },
  [],
  o,
  fits,
  sym (append-nil (head forget_kind id 0)),
  none,
  serves,
  subst (λ f. told (contents o) (contents n) f) same wrote,
)

pub consumes_nothing : (known : Option (List ℕ)) → Consumes known known []
consumes_nothing None = tt
consumes_nothing (Some bytes) = refl

-- a head that no request may have
pub malformed : {S : Type 0} (remaining contents : S → Option (List ℕ)) (o : S) (kept after : List Sent) (kind id count : ℕ)
    → IsHead kind id count → (IsAsking kind count → ⊥) → ServesOn remaining contents (head kind id count) o kept (Err Protocol) after o
malformed remaining contents o kept after kind id count is wrong =
    ([], consumes_nothing (remaining o), inl (kind, id, count, is, wrong, append-nil (head kind id count)))

-- a request that came, whole
pub takes_whole : {S : Type 0} (remaining contents : S → Option (List ℕ)) (told : Option (List ℕ) → Option (List ℕ) → List ℕ
    → Type 0) (o n : S) (kept after : List Sent)
    → TakesOn remaining contents told [] o kept after n → (turn : Turn) × Takes remaining contents told o kept turn after n
takes_whole remaining contents told o n kept after t =
    (t.0, (t.2, t.3, subst (λ f. Consumes (remaining o) (remaining t.2) f) (sym t.4) t.5, t.6, t.7))

-- how a conversation ends where its last request isn't answered
pub ends_unanswered : {S : Type 0} (remaining contents : S → Option (List ℕ)) (turns : ℕ) (o n : S) (kept after : List Sent) (fault : StreamFault)
    → ServesOn remaining contents [] o kept (Err fault) after n → Ends remaining contents turns o kept (Err fault) n
ends_unanswered remaining contents turns o n kept after Protocol t = t
ends_unanswered remaining contents turns o n kept after Io (inl t) = inl (inl t)
ends_unanswered remaining contents turns o n kept after Io (inr t) =
    let whole = takes_whole remaining contents AppendsPart o n kept t.0 t.1 in inl (inr (whole.0, t.0, whole.1))
ends_unanswered remaining contents turns o n kept after Damaged t = absurd t

-- an answer was written, or a part of it
pub put_served : {S : Type 0} (remaining contents : S
    → Option (List ℕ)) (o m n : S) (kept after : List Sent) (id count : ℕ) (s : Status) (text : List ℕ) (result : Result ⊤ StreamFault)
    → id < 2 ^ 64 → 0 < count → count ≤ payload_limit → PutTaken (remaining o) (remaining m) kept id count s after → text ≡ head (status_number s) id 0
    → OnOk result (Appends (contents m) (contents n) text) → IfErr result (λ fault. (fault ≡ Io) × AppendsPart (contents m) (contents n) text)
    → ServesOn remaining contents (head put_kind id count) o kept result after n
put_served remaining contents o m n kept after id count s text (Ok done) fits some most taken is ok err =
    put_takes remaining contents Appends o m n kept after id count s fits some most taken (subst (λ f. Appends (contents m) (contents n) f) is ok)
put_served remaining contents o m n kept after id count s text (Err Io) fits some most taken is ok err =
    inr (
      after,
      put_takes remaining contents AppendsPart o m n kept after id count s fits some most taken
          (subst (λ f. AppendsPart (contents m) (contents n) f) is err.1),
    )
put_served remaining contents o m n kept after id count s text (Err Damaged) fits some most taken is ok err = absurd (let e : Damaged ≡ Io = err.0 in cc)
put_served remaining contents o m n kept after id count s text (Err Protocol) fits some most taken is ok err = absurd (let e : Protocol ≡ Io = err.0 in cc)

pub get_served : {S : Type 0} (remaining contents : S
    → Option (List ℕ)) (o n : S) (kept : List Sent) (id : ℕ) (answer : Answer) (text : List ℕ) (result : Result ⊤ StreamFault)
    → id < 2 ^ 64 → Serves kept (Get id) answer kept → text ≡ answer_frame id answer
    → OnOk result (Appends (contents o) (contents n) text) → IfErr result (λ fault. (fault ≡ Io) × AppendsPart (contents o) (contents n) text)
    → ServesOn remaining contents (head get_kind id 0) o kept result kept n
get_served remaining contents o n kept id answer text (Ok done) fits serves is ok err =
    get_takes remaining contents Appends o n kept id answer text fits serves is (consumes_nothing (remaining o)) ok
get_served remaining contents o n kept id answer text (Err Io) fits serves is ok err =
    inr (kept, get_takes remaining contents AppendsPart o n kept id answer text fits serves is (consumes_nothing (remaining o)) err.1)
get_served remaining contents o n kept id answer text (Err Damaged) fits serves is ok err = absurd (let e : Damaged ≡ Io = err.0 in cc)
get_served remaining contents o n kept id answer text (Err Protocol) fits serves is ok err = absurd (let e : Protocol ≡ Io = err.0 in cc)

pub forget_served : {S : Type 0} (remaining contents : S
    → Option (List ℕ)) (o n : S) (kept after : List Sent) (id : ℕ) (answer : Answer) (text : List ℕ) (result : Result ⊤ StreamFault)
    → id < 2 ^ 64 → Serves kept (Forget id) answer after → text ≡ answer_frame id answer
    → OnOk result (Appends (contents o) (contents n) text) → IfErr result (λ fault. (fault ≡ Io) × AppendsPart (contents o) (contents n) text)
    → ServesOn remaining contents (head forget_kind id 0) o kept result after n
forget_served remaining contents o n kept after id answer text (Ok done) fits serves is ok err =
    forget_takes remaining contents Appends o n kept after id answer text fits serves is (consumes_nothing (remaining o)) ok
forget_served remaining contents o n kept after id answer text (Err Io) fits serves is ok err =
    inr (after, forget_takes remaining contents AppendsPart o n kept after id answer text fits serves is (consumes_nothing (remaining o)) err.1)
forget_served remaining contents o n kept after id answer text (Err Damaged) fits serves is ok err = absurd (let e : Damaged ≡ Io = err.0 in cc)
forget_served remaining contents o n kept after id answer text (Err Protocol) fits serves is ok err = absurd (let e : Protocol ≡ Io = err.0 in cc)

-- what no request may have
pub no_put : (kind count : ℕ) → kind ≡ 1 → (0 < count → count ≤ payload_limit → ⊥) → IsAsking kind count → ⊥
no_put kind count is wrong (inl a) = wrong a.1 a.2
no_put kind count is wrong (inr a) = elim a.0 [ inl b ↦ omega (arith, is, b) | inr b ↦ omega (arith, is, b) ]

pub no_bytes : (kind count : ℕ) → kind ≢ 1 → count ≢ 0 → IsAsking kind count → ⊥
no_bytes kind count other some (inl a) = other a.0
no_bytes kind count other some (inr a) = some a.1

pub no_kind : (kind count : ℕ) → kind ≢ 1 → kind ≢ 2 → kind ≢ 3 → IsAsking kind count → ⊥
no_kind kind count one two three (inl a) = one a.0
no_kind kind count one two three (inr a) = elim a.0 [ inl b ↦ two b | inr b ↦ three b ]
