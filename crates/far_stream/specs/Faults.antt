-- Faults of a stream.
use Rattle.std.specs.Prelude.{ℕ}
use Rattle.far_stream.specs.declared.fault.Cut.{Cut}
use Rattle.far_stream.specs.declared.fault.Cut.TheVariants.{Failed, Ended}
use Rattle.far_stream.specs.declared.fault.StreamFault.{StreamFault}
use Rattle.far_stream.specs.declared.fault.StreamFault.TheVariants.{Io, Damaged, Protocol}

-- faults by number
abbrev pub stream_fault_number : StreamFault → ℕ
stream_fault_number Io = 1
stream_fault_number Damaged = 2
stream_fault_number Protocol = 3

-- what a server answers where a frame is cut off
abbrev pub of_cut : Cut → StreamFault
of_cut Failed = Io
of_cut Ended = Protocol
