-- What a console holds of the line that is coming.
use Rattle.std.specs.Prelude.{◌≡◌, ℕ, ◌+◌, Bool, true, false, List, [], ◌∷◌, ◌++◌, length, take, ◌⊎◌}
use Rattle.console.specs.Lines.{IsLine, ended, line_limit}

-- what is kept of a line: all of it, or so much that it is seen to be too long
abbrev pub clip : List ℕ → List ℕ
clip line = take (line_limit + 1) line

-- what is kept of the line that is coming, and whether its end has come
pub record Held : Type 0 where
  pub line : List ℕ
  pub waits : Bool

-- a line that begins
abbrev pub nothing_held : Held
nothing_held = record { line = []; waits = false }

-- the line goes on
abbrev pub open_line : List ℕ → Held
open_line line = record { line = clip line; waits = false }

-- the line's end has come
abbrev pub whole_line : List ℕ → Held
whole_line line = record { line = clip line; waits = true }

-- what was heard of a line: all of it with its end, where that has come
abbrev pub bytes_so_far : List ℕ → Bool → List ℕ
bytes_so_far line true = ended line
bytes_so_far line false = line

-- the bytes that stand for what is held
abbrev pub held_bytes : Held → List ℕ
held_bytes held = bytes_so_far held.line held.waits

-- a console whose line was as old has taken n of these bytes: all of them, or those up to and with the first LF
abbrev pub TakesBytes : List ℕ → List ℕ → ℕ → Held → Type 0
TakesBytes line bytes n new =
    (IsLine bytes × (n ≡ length bytes) × (new ≡ open_line (line ++ bytes)))
    ⊎ ((piece more : List ℕ) × (bytes ≡ piece ++ 10 ∷ more) × IsLine piece × (n ≡ length piece + 1) × (new ≡ whole_line (line ++ piece)))
