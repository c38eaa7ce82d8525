-- The window of a machine: the numbers of the objects that it reached last, the oldest first. That there are at most four
-- and that the oldest goes first is this project's choice.
use Rattle.std.specs.List.{list_any}
use Rattle.std.specs.Prelude.{◌≡◌, ℕ, ◌+◌, ◌≤◌, nat_eq, nat_le, Bool, false, cond, List, [], ◌∷◌, ◌++◌, length, Option, Some, None}

-- whether a number is in it
abbrev pub holds : ℕ → List ℕ → Bool
holds n w = list_any (nat_eq n) w

-- no number is there twice
abbrev pub AreDistinct : List ℕ → Type 0
AreDistinct [] = Unit {0}
AreDistinct (x ∷ xs) = (holds x xs ≡ false) × AreDistinct xs

-- how many numbers a window holds at most
abbrev pub window_limit : ℕ
window_limit = 4

-- at most four distinct numbers
pub record IsWindow (w : List ℕ) : Type 0 where
  pub distinct : AreDistinct w
  pub room : length w ≤ window_limit

-- a fifth number pushes out the oldest
abbrev pub without_oldest : List ℕ → List ℕ
without_oldest [] = []
without_oldest (x ∷ xs) = cond (nat_le window_limit (length (x ∷ xs))) xs (x ∷ xs)

-- the oldest number of a full window, which a fifth pushes out
abbrev pub oldest_out : List ℕ → Option ℕ
oldest_out [] = None
oldest_out (x ∷ xs) = cond (nat_le window_limit (length (x ∷ xs))) (Some x) None

-- the window after a number is noted
abbrev pub noted : ℕ → List ℕ → List ℕ
noted n w = cond (holds n w) w (without_oldest w ++ n ∷ [])

-- the number that leaves the window when n is noted, if one does
abbrev pub pushed_out : ℕ → List ℕ → Option ℕ
pushed_out n w = cond (holds n w) None (oldest_out w)

-- ---- how many

-- Machines are numbered from 1 to this (this project's choice). A window stands at 0 too, which is no machine's.
abbrev pub machine_limit : ℕ
machine_limit = 48

-- how many windows there are: those of the machines, and that at 0
abbrev pub window_count : ℕ
window_count = machine_limit + 1
