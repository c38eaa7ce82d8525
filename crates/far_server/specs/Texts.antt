-- What the server says.
use Rattle.std.specs.Prelude.{ℕ, List, [], ◌∷◌, ◌++◌, codes, decimal}
use Rattle.far_stream.specs.declared.fault.StreamFault.{StreamFault}
use Rattle.far_stream.specs.declared.fault.StreamFault.TheVariants.{Io, Damaged, Protocol}
use Rattle.far_server.specs.declared.fault.ServerFault.{ServerFault}
use Rattle.far_server.specs.declared.fault.ServerFault.TheVariants.{Net, Read, Write, NoMemory}

-- why a client was given up
abbrev pub fault_name : StreamFault → List ℕ
fault_name Io = codes "stream fault"
fault_name Damaged = codes "damaged bytes"
fault_name Protocol = codes "protocol fault"

-- the line that says why the client of this number was given up
abbrev pub client_line : ℕ → StreamFault → List ℕ
client_line number fault = codes "client " ++ decimal number ++ codes ": " ++ fault_name fault ++ 10 ∷ []

-- what is said of a server that ended otherwise than with its input
abbrev pub server_fault_name : ServerFault → List ℕ
server_fault_name Net = codes "net fault"
server_fault_name Read = codes "read fault"
server_fault_name Write = codes "write fault"
server_fault_name NoMemory = codes "no memory"
