-- What streams hold afterwards.
use Rattle.std.specs.Prelude.{◌≡◌, ℕ, ◌<◌, ◌≤◌, List, ◌++◌, Option, length}
use Rattle.std.specs.Io.KnownBytes.{Appends, Consumes}

-- a stream took these bytes, or the first of them and then failed
abbrev pub AppendsSome : Option (List ℕ) → Option (List ℕ) → List ℕ → Type 0
AppendsSome before after bytes = (part missing : List ℕ) × (bytes ≡ part ++ missing) × Appends before after part

-- a stream took the first of these bytes, and not all of them
abbrev pub AppendsPart : Option (List ℕ) → Option (List ℕ) → List ℕ → Type 0
AppendsPart before after bytes = (part missing : List ℕ) × (bytes ≡ part ++ missing) × (0 < length missing) × Appends before after part

-- at most so many bytes were read
abbrev pub ConsumesAtMost : ℕ → Option (List ℕ) → Option (List ℕ) → Type 0
ConsumesAtMost most before after = (bytes : List ℕ) × (length bytes ≤ most) × Consumes before after bytes

-- so many bytes were read
abbrev pub ConsumesCounted : ℕ → Option (List ℕ) → Option (List ℕ) → Type 0
ConsumesCounted count before after = (bytes : List ℕ) × (length bytes ≡ count) × Consumes before after bytes

-- fewer bytes than these were read
abbrev pub ConsumesFewer : ℕ → Option (List ℕ) → Option (List ℕ) → Type 0
ConsumesFewer count before after = (bytes : List ℕ) × (length bytes < count) × Consumes before after bytes
