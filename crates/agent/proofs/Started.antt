-- A conversation from the start, with a console that holds nothing.
use Rattle.std.proofs.Common.{◌≡◌, ◌++◌, ℕ, List, Option, None, Some, IfSome, Result, Err, subst}
use Rattle.std.specs.Prelude.{⊤}
use Rattle.std.specs.Result.{IsErrOf}
use Rattle.world.specs.WorldState.{WorldState, world_start}
use Rattle.console.specs.Agent.{agent}
use Rattle.console.specs.Held.{Held, held_bytes, nothing_held}
use Rattle.console.specs.Conversations.{AnswersAll, StopsReading, StopsWriting}
use Rattle.console.specs.declared.fault.DriveFault.{DriveFault}
use Rattle.console.specs.declared.fault.DriveFault.TheVariants.{Read, Write}
use Rattle.agent.specs.Failures.{failure_of_drive}
use Rattle.agent.specs.RunLeaves.{RunLeaves}

module _ (P : WorldState → List ℕ → Type 0) (old start : WorldState) (held : Held) (same : old ≡ start) (none : held ≡ nothing_held) where
  started : (o : Option (List ℕ)) → IfSome o (λ input. P old (held_bytes held ++ input)) → IfSome o (λ input. P start input)
  started None h = tt
  started (Some input) h = subst (λ (k : Held). P start (held_bytes k ++ input)) none (subst (λ (s : WorldState). P s (held_bytes held ++ input)) same h)

module _ (old start end : WorldState) (before after : Option (List ℕ)) (held : Held) (same : old ≡ start)
    (none : held ≡ nothing_held) (o : Option (List ℕ)) where
  pub answered : IfSome o (λ input. AnswersAll agent old (held_bytes held ++ input) before after end)
      → IfSome o (λ input. AnswersAll agent start input before after end)
  answered h = started (λ s input. AnswersAll agent s input before after end) old start held same none o h

  stops_reading : (kept : Held) (unread : Option (List ℕ))
      → IfSome o (λ input. StopsReading agent old (held_bytes held ++ input) before after end kept unread)
      → IfSome o (λ input. (e : WorldState) × (k : Held) × StopsReading agent start input before after e k unread)
  stops_reading kept unread h = ending o (started (λ s input. StopsReading agent s input before after end kept unread) old start held same none o h)
    where
      ending : (p : Option (List ℕ)) → IfSome p (λ input. StopsReading agent start input before after end kept unread)
          → IfSome p (λ input. (e : WorldState) × (k : Held) × StopsReading agent start input before after e k unread)
      ending None h = tt
      ending (Some input) h = (end, kept, h)

  stops_writing : (unread : Option (List ℕ)) → IfSome o (λ input. StopsWriting agent old (held_bytes held ++ input) before after end unread)
      → IfSome o (λ input. (e : WorldState) × StopsWriting agent start input before after e unread)
  stops_writing unread h = ending o (started (λ s input. StopsWriting agent s input before after end unread) old start held same none o h)
    where
      ending : (p : Option (List ℕ)) → IfSome p (λ input. StopsWriting agent start input before after end unread)
          → IfSome p (λ input. (e : WorldState) × StopsWriting agent start input before after e unread)
      ending None h = tt
      ending (Some input) h = (end, h)

-- a stream failed
pub stops : (budget : ℕ) (old end : WorldState) (before after unread o : Option (List ℕ)) (held kept : Held) (ended : DriveFault) (r : Result ⊤ DriveFault)
    → old ≡ world_start budget 0 → held ≡ nothing_held → r ≡ Err ended
    → (IsErrOf r Read → IfSome o (λ input. StopsReading agent old (held_bytes held ++ input) before after end kept unread))
    → (IsErrOf r Write → IfSome o (λ input. StopsWriting agent old (held_bytes held ++ input) before after end unread))
    → IfSome o (λ input. RunLeaves budget input before after unread (Err (failure_of_drive ended)))
stops budget old end before after unread o held kept Read r same none was reads writes =
    stops_reading old (world_start budget 0) end before after held same none o kept unread (reads was)
stops budget old end before after unread o held kept Write r same none was reads writes =
    stops_writing old (world_start budget 0) end before after held same none o unread (writes was)

-- the end of a conversation is some state
pub ended : (start end : WorldState) (before after : Option (List ℕ)) (o : Option (List ℕ)) → IfSome o (λ input. AnswersAll agent start input before after end)
    → IfSome o (λ input. (e : WorldState) × AnswersAll agent start input before after e)
ended start end before after None h = tt
ended start end before after (Some input) h = (end, h)
