-- What `store` leaves in its streams.
use Rattle.std.specs.Prelude.{◌≡◌, ℕ, ⊤, List, [], ◌∷◌, ◌++◌, Option, Result, Ok, Err}
use Rattle.std.specs.Io.KnownBytes.{Keeps}
use Rattle.streams.specs.Streams.{AppendsSome}
use Rattle.far_server.specs.Announced.{AnnouncesAs}
use Rattle.far_server.specs.Texts.{server_fault_name}
use Rattle.far_server.specs.Told.{Tells}
use Rattle.far_server.specs.declared.fault.ServerFault.{ServerFault}
use Rattle.agent.specs.Failures.{status_number}
use Rattle.agent.specs.declared.failure.ExitStatus.TheVariants.{Done, Failed}

-- Standard error, which was as before, and the status: nothing more and Done, or the fault's line, as much of it as that stream takes, and Failed.
abbrev pub ReportsServer : Option (List ℕ) → Option (List ℕ) → Result ⊤ ServerFault → ℕ → Type 0
ReportsServer before after (Ok ended) number = Keeps before after × (number ≡ status_number Done)
ReportsServer before after (Err fault) number = AppendsSome before after (server_fault_name fault ++ 10 ∷ []) × (number ≡ status_number Failed)

-- The streams and the status for one outcome of the server. The output has the line of the port, as far as the outcome allows.
-- Standard error has the lines about clients, and after them the line of a fault that ended the server. The status is Failed after such a fault.
pub record StoreLeaves (port : ℕ) (out_before out_after before after : Option (List ℕ)) (number : ℕ) : Type 0 where
  pub outcome : Result ⊤ ServerFault
  pub between : Option (List ℕ)
  pub announced : AnnouncesAs port out_before out_after outcome
  pub told : Tells before between
  pub reported : ReportsServer between after outcome number
