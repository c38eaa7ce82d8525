-- Replies that are written together.
use Rattle.std.specs.Prelude.{◌≡◌, ◌⊎◌, ℕ, ◌<◌, List, [], ◌++◌, length, Option, Some}
use Rattle.std.specs.Io.KnownBytes.{Appends, append_known}
use Rattle.console.specs.Lines.{IsLine, cut_of}
use Rattle.console.specs.Conversations.{Protocol, Exchange}

-- the bytes that a writer holds, and after them those that are kept for it
abbrev pub kept_after : Option (List ℕ) → List ℕ → Option (List ℕ)
kept_after written kept = append_known written kept

-- a writer took some bytes
abbrev pub grows : Option (List ℕ) → Option (List ℕ) → Type 0
grows before after = (bytes : List ℕ) × Appends before after bytes

-- Of the bytes that were kept a writer took the first, and the others are still kept.
abbrev pub Sends : List ℕ → Option (List ℕ) → Option (List ℕ) → List ℕ → Type 0
Sends old before after new = (bytes : List ℕ) × (old ≡ bytes ++ new) × Appends before after bytes

-- A write failed. The commands of all lines that were heard are done, up to what is left of the piece that was read. The bytes
-- written are a beginning of their replies, and of `cut` after them where the input has ended, and not all of that. Else the reader
-- still has what comes after that piece.
pub record StopsShort (p : Protocol) (old : p.State) (input before : List ℕ) (after : Option (List ℕ)) (new : p.State)
    (unread : Option (List ℕ)) : Type 0 where
  pub heard : List ℕ
  pub more : List ℕ
  pub replies : List ℕ
  pub rest : List ℕ
  pub last : List ℕ
  pub wrote : List ℕ
  pub missing : List ℕ
  pub parts : input ≡ heard ++ more
  pub so_far : Exchange p old heard replies new rest
  pub ends : ((last ≡ []) × (unread ≡ Some more)) ⊎ ((more ≡ []) × IsLine rest × (last ≡ cut_of rest))
  pub due : replies ++ last ≡ wrote ++ missing
  pub misses : 0 < length missing
  pub appended : after ≡ Some (before ++ wrote)
