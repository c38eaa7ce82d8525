-- Legal histories, apart from any table and any thread.
use Rattle.std.specs.Prelude.{◌≡◌, ℕ, ◌<◌, List, length}
use Rattle.memory.specs.Objects.{bytes_of}
use Rattle.shared_objects.specs.History.{Has, Rises, fold, Answers}
use Rattle.shared_objects.specs.One.{InOrder, Runs, entries_by, entries_on}
use Rattle.shared_objects.specs.declared.view.SharedEntry.{SharedEntry}

-- A history of objects that had these bytes is legal: along each actor and along each object stamps are distinct, and the
-- entries of each object, by rising stamps, were given what their deeds give from its bytes on. A history is a set of entries,
-- here as the list that has them by stamp, then actor.
pub record Legal (opening : List (List ℕ)) (history : List SharedEntry) : Type 0 where
  pub ordered : InOrder history
  -- there are entries of the objects alone
  pub near : (e : SharedEntry) → Has history e → e.object < length opening
  pub actors : (actor : ℕ) → Rises 0 (entries_by actor history)
  pub objects : (n : ℕ) → n < length opening → Rises 0 (entries_on n history)
  pub answers : (n : ℕ) → n < length opening → Answers (bytes_of opening n) (entries_on n history)

-- the bytes of an object after all its entries
abbrev pub fold_of : List (List ℕ) → List SharedEntry → ℕ → List ℕ
fold_of opening history n = fold (bytes_of opening n) (entries_on n history)

-- The history is one run: each entry, in turn, was given what its deed gives, and the objects are left with their folds.
pub record IsOneRun (opening : List (List ℕ)) (history : List SharedEntry) : Type 0 where
  pub ends : List (List ℕ)
  pub long : length ends ≡ length opening
  pub runs : Runs opening history ends
  pub folds : (n : ℕ) → n < length opening → bytes_of ends n ≡ fold_of opening history n
