-- One line of a text.
use Rattle.std.specs.Prelude.{ℕ, zero, suc, List, [], ◌∷◌, Option, Some, None}

-- the line of this number, counted from 0, if there is one
abbrev pub numbered : ℕ → List (List ℕ) → Option (List ℕ)
numbered k [] = None
numbered zero (line ∷ lines) = Some line
numbered (suc k) (line ∷ lines) = numbered k lines
