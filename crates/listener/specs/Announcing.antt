-- What is said when a port is listened on.
use Rattle.std.specs.Prelude.{ℕ, List, [], ◌∷◌, ◌++◌, codes, decimal}

-- the line that says where is listened: at a port, in decimal, or at the path of a socket file
abbrev pub listening_at : List ℕ → List ℕ
listening_at name = codes "listening " ++ name ++ 10 ∷ []

-- the line that says which port is listened on
abbrev pub listening_line : ℕ → List ℕ
listening_line port = listening_at (decimal port)
