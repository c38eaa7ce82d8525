-- What is said when the server begins.
use Rattle.std.specs.Prelude.{◌≡◌, ◌≢◌, ◌⊎◌, ⊤, ℕ, List, Option, Result, Ok, Err}
use Rattle.std.specs.Io.KnownBytes.{Appends, Keeps}
use Rattle.streams.specs.Streams.{AppendsPart}
use Rattle.listener.specs.Announcing.{listening_line}
use Rattle.far_server.specs.declared.fault.ServerFault.{ServerFault}
use Rattle.far_server.specs.declared.fault.ServerFault.TheVariants.{Net, Read, Write, NoMemory}

-- the line of the port that was asked for, or of any where 0 was
abbrev pub Announces : ℕ → (List ℕ → Type 0) → Type 0
Announces asked told = (port : ℕ) × (asked ≢ 0 → port ≡ asked) × told (listening_line port)

-- What is left in the output when the server has ended so: the line, once it listens; a part of it where the output failed; nothing before.
abbrev pub AnnouncesAs : ℕ → Option (List ℕ) → Option (List ℕ) → Result ⊤ ServerFault → Type 0
AnnouncesAs asked before after (Ok ended) = Announces asked (Appends before after)
AnnouncesAs asked before after (Err Read) = Announces asked (Appends before after)
AnnouncesAs asked before after (Err Write) = Announces asked (AppendsPart before after)
AnnouncesAs asked before after (Err Net) = Keeps before after ⊎ Announces asked (Appends before after)
AnnouncesAs asked before after (Err NoMemory) = Keeps before after
