-- Lines of bytes, ended by LF.
use Rattle.std.specs.Prelude.{◌≢◌, ℕ, List, [], ◌∷◌, ◌++◌, All, codes}

-- no byte of it is LF
abbrev pub IsLine : List ℕ → Type 0
IsLine bytes = All (λ b. b ≢ 10) bytes

-- a line with its end
abbrev pub ended : List ℕ → List ℕ
ended line = line ++ 10 ∷ []

-- the longest line that can spell a command (this project's choice)
abbrev pub line_limit : ℕ
line_limit = 70000

-- the answer to a line that spells no command
abbrev pub bad_text : List ℕ
bad_text = codes "bad"

-- the answer to a line that spells a command with bytes, where reading them is out of memory
abbrev pub nomem_text : List ℕ
nomem_text = codes "nomem"

-- what is written for the bytes after the last line end, where the input ends
abbrev pub cut_of : List ℕ → List ℕ
cut_of [] = []
cut_of (b ∷ bytes) = ended (codes "cut")
