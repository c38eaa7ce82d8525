-- What is told of clients.
use Rattle.std.specs.Prelude.{◌≡◌, ⊤, ℕ, List, [], ◌∷◌, Option, Result, Ok, Err}
use Rattle.std.specs.Io.KnownBytes.{Keeps}
use Rattle.streams.specs.Streams.{AppendsSome}
use Rattle.far_stream.specs.declared.fault.StreamFault.{StreamFault}
use Rattle.far_server.specs.Texts.{client_line}

-- How the conversation of the client of this number ended.
pub record End : Type 0 where
  pub client : ℕ
  pub outcome : Result ⊤ StreamFault

-- Of a client that ended so: nothing, where it went well, else its line with that fault, of which the stream took all or the first part.
abbrev pub TellsEnd : ℕ → Result ⊤ StreamFault → Option (List ℕ) → Option (List ℕ) → Type 0
TellsEnd client (Ok ended) before after = Keeps before after
TellsEnd client (Err fault) before after = AppendsSome before after (client_line client fault)

-- of these ends, one after the other
abbrev pub TellsEnds : List End → Option (List ℕ) → Option (List ℕ) → Type 0
TellsEnds [] before after = after ≡ before
TellsEnds (end ∷ ends) before after = (mid : Option (List ℕ)) × TellsEnd end.client end.outcome before mid × TellsEnds ends mid after

-- of some clients, in the order in which they ended
abbrev pub Tells : Option (List ℕ) → Option (List ℕ) → Type 0
Tells before after = (ends : List End) × TellsEnds ends before after
