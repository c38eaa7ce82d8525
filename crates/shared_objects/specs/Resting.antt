-- For private functions and proofs alone: a seat between two calls.
use Rattle.std.specs.Prelude.{◌≡◌, ℕ, ◌<◌, true, List, [], ◌∷◌, None}
use Rattle.scopes.specs.Windows.{holds}
use Rattle.shared_objects.specs.Kinds.{Sat}
use Rattle.shared_objects.specs.declared.body.Body.{Body}

-- The actor's seat has no slot and no turn, counts at nothing that it found away, and neither made nor took in another.
abbrev pub Rests : Sat → Type 0
Rests m = (m.1 ≡ []) × (m.0.turn ≡ None) × (m.0.live ≡ true) × (m.0.made ≡ 0) × (m.0.gathered ≡ []) × (m.0.passing ≡ []) × (m.0.out ≡ [])

-- Each number that the window holds is below this one.
abbrev pub AllBelow : ℕ → List ℕ → Type 0
AllBelow count window = (k : ℕ) → holds k window ≡ true → k < count

-- The seat has the body of the object alone, of which P holds.
abbrev pub HoldsBody : Sat → ℕ → (Body → Type 0) → Type 0
HoldsBody m n P = (body : Body) × (m.1 ≡ (n, body) ∷ []) × P body
