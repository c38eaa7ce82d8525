-- What `serve` leaves, from what the commands of the input left, and over which far store.
use Rattle.std.proofs.Common.{◌≡◌, ◌&&◌, ◌∙◌, ℕ, Bor, Bool, false, true, List, is_some, option_map, Option, None, Some, IfSome, Result, Ok, Err, ap, refl, subst, sym, inl, inr}
use Rattle.std.proofs.KnownBytes.{Keeps-refl}
use Rattle.std.specs.Prelude.{⊤}
use Rattle.std.specs.declared.net.tcp.TcpStream.{TcpStream}
use Rattle.far_stream.specs.Deferring.{Deferring}
use Rattle.far_stream.specs.declared.buffered.Buffered.{Buffered}
use Rattle.world.specs.WorldState.{WorldState, world_start}
use Rattle.console.specs.Agent.{agent}
use Rattle.console.specs.Conversations.{AnswersAll}
use Rattle.ship_service.specs.Listening.{FindsHere, SaysAs, TellsClosingOf}
use Rattle.ship_service.specs.declared.listening.ListenFault.{ListenFault}
use Rattle.agent.specs.ServeLeaves.{IsAddress, IsDoorName, LeavesBy, ServeLeaves, ServesOver, Unconnected}
use Rattle.agent.specs.declared.arguments.Serving.{Serving}
use Rattle.agent.specs.declared.servers.serving.ServeFault.{ServeFault}
use Rattle.agent.specs.declared.servers.serving.ServeFault.TheVariants.{Bind, Doors, Listen}

module _ (X : Type 0) (returns : Bool) (budget : ℕ) (unix before mid : Option (List ℕ)) (world : WorldState) where
  -- the port or the file can't be had
  pub unbound : (unread o : Option (List ℕ)) → IfSome o (λ input. AnswersAll agent (world_start budget 0) input before mid world)
      → IfSome o (λ input. ServesOver X returns budget unix input before mid unread (Err Bind))
  unbound unread None h = tt
  unbound unread (Some input) h = (world, h)

  -- the service ended otherwise than with its connections
  pub failed : (fault : ListenFault) (name : List ℕ) (after unread o : Option (List ℕ))
      → IfSome o (λ input. AnswersAll agent (world_start budget 0) input before mid world) → IsDoorName unix name
      → SaysAs (TellsClosingOf X returns world) name mid after (Err fault) → FindsHere world.store.places (Err fault)
      → IfSome o (λ input. ServesOver X returns budget unix input before after unread (Err (Listen fault)))
  failed fault name after unread None h door says here = tt
  failed fault name after unread (Some input) h door says here = (world, mid, h, (name, door, says, here))

  -- all connections ended
  pub done : (end : ⊤) (name : List ℕ) (after unread o : Option (List ℕ))
      → IfSome o (λ input. AnswersAll agent (world_start budget 0) input before mid world) → IsDoorName unix name
      → SaysAs (TellsClosingOf X returns world) name mid after (Ok end) → FindsHere world.store.places (Ok end)
      → IfSome o (λ input. ServesOver X returns budget unix input before after unread (Ok end))
  done end name after unread None h door says here = tt
  done end name after unread (Some input) h door says here = (world, mid, h, (name, door, says, here))

module _ (budget : ℕ) (unix before after unread : Option (List ℕ)) where
  -- over a far store of the process's own
  pub at_home : (far : Option (Bor (List ℕ))) (outcome : Result ⊤ ServeFault) (o : Option (List ℕ)) → far ≡ None
      → IfSome o (λ input. ServesOver ℕ true budget unix input before after unread outcome)
      → IfSome o (λ input. LeavesBy false budget (option_map (λ (text : Bor (List ℕ)). text.now) far) unix input before after unread outcome)
  at_home far outcome None none h = tt
  at_home far outcome (Some input) none h = rw none h

  -- over a far server that was connected to
  pub at_server : (far : Option (Bor (List ℕ))) (text : Bor (List ℕ)) (outcome : Result ⊤ ServeFault) (o : Option (List ℕ))
      → far ≡ Some text → IsAddress text.now
      → IfSome o (λ input. ServesOver (Deferring (Buffered TcpStream)) false budget unix input before after unread outcome)
      → IfSome o (λ input. LeavesBy false budget (option_map (λ (text : Bor (List ℕ)). text.now) far) unix input before after unread outcome)
  at_server far text outcome None some is h = tt
  at_server far text outcome (Some input) some is h = rw some (inl (is, h))

-- without its far server it leaves all streams as they were
pub unserved : (budget : ℕ) (unix before : Option (List ℕ)) (far : Option (Bor (List ℕ))) (text : Bor (List ℕ)) (fault : ServeFault) (o : Option (List ℕ))
    → far ≡ Some text → Unconnected text.now fault
    → IfSome o (λ input. LeavesBy false budget (option_map (λ (text : Bor (List ℕ)). text.now) far) unix input before before o (Err fault))
unserved budget unix before far text fault None some why = tt
unserved budget unix before far text fault (Some input) some why = rw some (inr (why, Keeps-refl before, refl))

-- ---- one door or two

some_text : (unix : Option (Bor (List ℕ))) → is_some (option_map (λ (text : Bor (List ℕ)). text.now) unix) ≡ is_some unix
some_text None = refl
some_text (Some text) = refl

module _ (serving : Serving) (far : Option (List ℕ)) (unix : Option (Bor (List ℕ))) where
  is_so : (b : Bool) → (serving.has_port && is_some unix) ≡ b
      → b ≡ (serving.has_port && is_some (option_map (λ (text : Bor (List ℕ)). text.now) unix))
  is_so b is = sym (ap (λ s. serving.has_port && s) (some_text unix) ∙ is)

  -- a port and a socket file are asked for
  pub twofold : (before o : Option (List ℕ)) → (serving.has_port && is_some unix) ≡ true
      → IfSome o (λ input. ServeLeaves serving far (option_map (λ (text : Bor (List ℕ)). text.now) unix) input before before o (Err Doors))
  twofold before None is = tt
  twofold before (Some input) is = subst (λ (b : Bool). LeavesBy b serving.budget far (option_map (λ (text : Bor (List ℕ)). text.now) unix)
      input before before (Some input) (Err Doors)) (is_so true is) (refl, Keeps-refl before, refl)

  -- one of them is, or none
  pub single : (before after unread o : Option (List ℕ)) (outcome : Result ⊤ ServeFault) → (serving.has_port && is_some unix) ≡ false
      → IfSome o (λ input. LeavesBy false serving.budget far (option_map (λ (text : Bor (List ℕ)). text.now) unix) input before after unread outcome)
      → IfSome o (λ input. ServeLeaves serving far (option_map (λ (text : Bor (List ℕ)). text.now) unix) input before after unread outcome)
  single before after unread None outcome is h = tt
  single before after unread (Some input) outcome is h =
      subst (λ (b : Bool). LeavesBy b serving.budget far (option_map (λ (text : Bor (List ℕ)). text.now) unix) input before after unread outcome)
      (is_so false is) h
