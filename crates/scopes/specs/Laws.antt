-- What the rule of windows promises.
use Rattle.std.specs.Prelude.{◌≡◌, ◌≢◌, ℕ, true, false, List, Some, None}
use Rattle.scopes.specs.Windows.{IsWindow, holds, noted, pushed_out}

-- A number that was noted is held, and noting it again changes nothing.
abbrev pub NotingAgainChangesNothing : Type 0
NotingAgainChangesNothing = (n : ℕ) (w : List ℕ) → IsWindow w
    → (holds n (noted n w) ≡ true) × (noted n (noted n w) ≡ noted n w) × (pushed_out n (noted n w) ≡ None)

-- What is pushed out was held and is held no more; any other number that was held still is.
abbrev pub NotingKeepsTheNewest : Type 0
NotingKeepsTheNewest = (n m : ℕ) (w : List ℕ) → IsWindow w → pushed_out n w ≡ Some m
    → (holds m w ≡ true) × (holds m (noted n w) ≡ false) × ((k : ℕ) → k ≢ m → holds k w ≡ true → holds k (noted n w) ≡ true)

-- At most four distinct numbers.
abbrev pub WindowsStayWindows : Type 0
WindowsStayWindows = (n : ℕ) (w : List ℕ) → IsWindow w → IsWindow (noted n w)
