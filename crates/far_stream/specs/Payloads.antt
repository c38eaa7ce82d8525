-- For private functions and proofs alone: frames that end too early.
use Rattle.std.specs.Prelude.{ℕ, ◌<◌, List, length, Option}
use Rattle.std.specs.Io.KnownBytes.{Consumes, IsAtEnd}
use Rattle.streams.specs.Streams.{ConsumesCounted, ConsumesFewer}
use Rattle.far_stream.specs.Frames.{head_length}
use Rattle.far_stream.specs.Refusals.{MemoryIsRefused}
use Rattle.far_stream.specs.declared.fault.Cut.{Cut}
use Rattle.far_stream.specs.declared.fault.Cut.TheVariants.{Failed, Ended}
use Rattle.far_stream.specs.declared.fault.PayloadFault.{PayloadFault}
use Rattle.far_stream.specs.declared.fault.PayloadFault.TheVariants.{CutOff, NoMemory}

-- fewer bytes came than were due: the reader failed, or its input ended
abbrev pub CutsOff : Cut → ℕ → Option (List ℕ) → Option (List ℕ) → Type 0
CutsOff Failed due before after = ConsumesFewer due before after
CutsOff Ended due before after = ConsumesFewer due before after × IsAtEnd after

-- the same of the head of a frame: where the input ended, it wasn't before the first byte
abbrev pub CutsOffWithin : Cut → Option (List ℕ) → Option (List ℕ) → Type 0
CutsOffWithin Failed before after = ConsumesFewer head_length before after
CutsOffWithin Ended before after = (bytes : List ℕ) × (0 < length bytes) × (length bytes < head_length) × Consumes before after bytes × IsAtEnd after

-- a payload didn't come, or came and found no memory
abbrev pub LosesPayload : PayloadFault → ℕ → Option (List ℕ) → Option (List ℕ) → Type 0
LosesPayload (CutOff cut) due before after = CutsOff cut due before after
LosesPayload NoMemory due before after = ConsumesCounted due before after × MemoryIsRefused
