-- What a seat does by its calls, one after the other, and that what it learnt of stands before what it does afterwards.
use Rattle.std.specs.Prelude.{◌≡◌, ℕ, ◌≤◌, max, List, [], ◌∷◌, ◌++◌, Result}
use Rattle.memory.specs.declared.access.Op.{Op}
use Rattle.memory.specs.declared.access.Reach.{Reach}
use Rattle.memory.specs.Deeds.{given_by}
use Rattle.memory.specs.Objects.{bytes_of}
use Rattle.shared_objects.specs.History.{Has, fold}
use Rattle.shared_objects.specs.Kinds.{shut}
use Rattle.shared_objects.specs.One.{Before, entries_on}
use Rattle.shared_objects.specs.Touches.{Touches, PutsRange, GetsRange}
use Rattle.shared_objects.specs.declared.errors.Denied.{Denied}
use Rattle.shared_objects.specs.declared.errors.GetError.{GetError}
use Rattle.shared_objects.specs.declared.view.SharedEntry.{SharedEntry}
use Rattle.shared_objects.specs.declared.view.View.{View}

-- A call of an actor's seat, with its answer: `learn`, `touch`, `put`, `get` or `close_scopes`.
pub data Call : Type 0 where
  Learn : ℕ → Call
  Touch : ℕ → Op → Reach → Call
  Put : ℕ → ℕ → List ℕ → Result Unit Denied → Call
  Get : ℕ → ℕ → ℕ → Result (List ℕ) GetError → Call
  CloseScopes : Call

-- what the call ensures of the seat's view and stamp, before and after
abbrev pub Did : Call → View → ℕ → View → ℕ → Type 0
Did (Learn x) v a w b = (w ≡ v) × (b ≡ max a x)
Did (Touch n op r) v a w b = Touches v a n op r w b
Did (Put n offset bytes r) v a w b = PutsRange v a n offset bytes r w b
Did (Get n offset count r) v a w b = GetsRange v a n offset count r w b
Did CloseScopes v a w b = (w ≡ shut v) × (b ≡ a)

-- what these calls ensure, one after the other
abbrev pub DidAll : List Call → View → ℕ → View → ℕ → Type 0
DidAll [] v a w b = (w ≡ v) × (b ≡ a)
DidAll (c ∷ cs) v a w b = (u : View) × ((m : ℕ) × (Did c v a u m × DidAll cs u m w b))

-- In this history of objects that had these bytes, the entry stands after each one of at most this stamp. It was given what its
-- deed gives on the bytes that the earlier entries of its object leave, each one of at most this stamp among them.
pub record StandsAfter (opening : List (List ℕ)) (history : List SharedEntry) (x : ℕ) (e : SharedEntry) : Type 0 where
  pub before : (f : SharedEntry) → Has history f → f.stamp ≤ x → Before f e
  -- the entries of its object
  pub earlier : List SharedEntry
  pub later : List SharedEntry
  pub on : entries_on e.object history ≡ earlier ++ e ∷ later
  pub seen : (f : SharedEntry) → Has history f → f.object ≡ e.object → f.stamp ≤ x → Has earlier f
  pub given_is : e.given ≡ given_by e.deed (fold (bytes_of opening e.object) earlier)
