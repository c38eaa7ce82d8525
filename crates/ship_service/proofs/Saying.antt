-- Two texts, one after the other, of which a stream took all or the first part.
use Rattle.std.proofs.Common.{◌≡◌, ℕ, Bool, List, ◌++◌, Option, Some, None, Result, Ok, Err, sym, ap, ◌∙◌, subst, arith, inl, inr}
use Rattle.std.specs.Prelude.{⊤}
use Rattle.std.proofs.lemmas.List.{append_assoc, length-append}
use Rattle.std.proofs.KnownBytes.{Appends-trans}
use Rattle.std.specs.Io.KnownBytes.{Appends, Keeps}
use Rattle.streams.specs.Streams.{AppendsPart}
use Rattle.atomic_table.specs.Seated.{TableId}
use Rattle.machine.specs.MachineState.{MachineState}
use Rattle.workers.specs.Pools.{machines_of}
use Rattle.workers.specs.TableNames.{Passage}
use Rattle.world.specs.WorldState.{WorldState}
use Rattle.ship_service.specs.Opening.{opened_bytes}
use Rattle.listener.specs.Announcing.{listening_at}
use Rattle.ship_service.specs.Listening.{TellsEnd, TellsClosing, TellsClosingOf, SaysAs, SaysClosing}
use Rattle.ship_service.specs.declared.listening.ListenFault.{ListenFault}
use Rattle.ship_service.specs.declared.listening.ListenFault.TheVariants.{NotHere, Memory, Net, Write}

-- the first part of the first
pub part_of_first : (before after : Option (List ℕ)) (text more : List ℕ) → AppendsPart before after text → AppendsPart before after (text ++ more)
part_of_first before after text more (part, missing, is, some, appended) =
    (part, missing ++ more, ap (λ t. t ++ more) is ∙ append_assoc part missing more, rw (length-append missing more) (omega (arith, some)), appended)

-- all of the first, and the first part of the second
pub part_of_second : (before mid after : Option (List ℕ)) (text more : List ℕ) → Appends before mid text → AppendsPart mid after more
    → AppendsPart before after (text ++ more)
part_of_second before mid after text more first (part, missing, is, some, appended) =
    (text ++ part, missing, ap (λ t. text ++ t) is ∙ sym (append_assoc text part missing), some, Appends-trans before mid after text part first appended)

-- bytes that grew stay so where they are kept
appends_kept : (before mid after : Option (List ℕ)) (text : List ℕ) → Appends before mid text → Keeps mid after → Appends before after text
appends_kept None mid after text p q = tt
appends_kept (Some x) None after text p q = absurd p
appends_kept (Some x) (Some y) None text p q = absurd q
appends_kept (Some x) (Some y) (Some z) text p q = q ∙ p

-- what is said when the service closes comes after the line of the door
pub says_after : (tells : List ℕ → Type 0) (name : List ℕ) (before mid after : Option (List ℕ)) (r : Result ⊤ ListenFault)
    → Appends before mid (listening_at name) → SaysClosing tells mid after r → SaysAs tells name before after r
says_after tells name before mid after (Ok ended) first said = (said.0, said.1, Appends-trans before mid after (listening_at name) said.0 first said.2)
says_after tells name before mid after (Err (NotHere n)) first said = absurd said
says_after tells name before mid after (Err Memory) first said = inr (appends_kept before mid after (listening_at name) first said)
says_after tells name before mid after (Err Net) first said = absurd said
says_after tells name before mid after (Err Write) first said =
    inr (said.0, said.1, part_of_second before mid after (listening_at name) said.0 first said.2)

-- a text that tells one thing tells what follows of it
pub says_more : (tells more : List ℕ → Type 0) (name : List ℕ) (before after : Option (List ℕ)) (r : Result ⊤ ListenFault)
    → ((text : List ℕ) → tells text → more text) → SaysAs tells name before after r → SaysAs more name before after r
says_more tells more name before after (Ok ended) f said = (said.0, f said.0 said.1, said.2)
says_more tells more name before after (Err (NotHere n)) f said = said
says_more tells more name before after (Err Memory) f said = said
says_more tells more name before after (Err Net) f said = said
says_more tells more name before after (Err Write) f (inl part) = inl part
says_more tells more name before after (Err Write) f (inr (text, h, part)) = inr (text, f text h, part)

-- what is said of a door is said of its name
pub said_at : (tells : List ℕ → Type 0) (name named : List ℕ) (before after : Option (List ℕ)) (r : Result ⊤ ListenFault) → named ≡ name
    → SaysAs tells named before after r → SaysAs tells name before after r
said_at tells name named before after r is said = subst (λ n. SaysAs tells n before after r) is said

-- what began with the bytes and machines of a world began with that world
pub tells_of_world : (X : Type 0) (returns : Bool) (table : TableId) (opening : List (List ℕ)) (starts : List MachineState) (passed : Passage → Bool)
    (world : WorldState) → opening ≡ opened_bytes world → starts ≡ machines_of world.machines → (text : List ℕ)
    → TellsClosing X returns table opening starts passed text → TellsClosingOf X returns world text
tells_of_world X returns table opening starts passed world o m text h = (
  table,
  subst (λ (b : List (List ℕ)). TellsEnd X returns table b (machines_of world.machines) text) o
      (subst (λ (s : List MachineState). TellsEnd X returns table opening s text) m h.0),
)
