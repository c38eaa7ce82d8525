-- Connections that nobody came to, or one client did.
use Rattle.std.proofs.Common.{◌≡◌, ℕ, ◌+◌, List, [], ◌∷◌, length, map, All, ap, subst, ◌∙◌, arith, inl}
use Rattle.std.proofs.lemmas.List.Elements.{All-nil, All-cons, All-head, All-rest, All-map, All-weaker}
use Rattle.std.specs.Prelude.{Bool}
use Rattle.atomic_table.specs.Seated.{TableId}
use Rattle.shared_objects.specs.declared.seats.ActorSeat.{ActorSeat}
use Rattle.workers.specs.TableNames.{Passage}
use Rattle.ship_service.specs.Conversed.{IsUnused, HadOneClient}
use Rattle.ship_service.specs.Opening.{AreFreshSeats}

module _ (table : TableId) (returns : Bool) (opening : List (List ℕ)) where
  -- seats that a table has just made are unused
  pub fresh_are_unused : {X : Type 0} (seat : X → ActorSeat) (actor : ℕ) (xs : List X) → AreFreshSeats table returns opening actor (map seat xs)
      → All (λ x. IsUnused table returns opening (seat x)) xs
  fresh_are_unused seat actor [] h = All-nil (λ x. IsUnused table returns opening (seat x))
  fresh_are_unused seat actor (x ∷ xs) h =
      All-cons (λ x'. IsUnused table returns opening (seat x')) x xs (actor, h.0) (fresh_are_unused seat (actor + 1) xs h.1)

  -- the first of those that are left, and the others
  pub unused_step : {X : Type 0} (seat : X → ActorSeat) (x : X) (xs all : List X) → all ≡ x ∷ xs → All (λ y. IsUnused table returns opening (seat y)) all
      → IsUnused table returns opening (seat x) × All (λ y. IsUnused table returns opening (seat y)) xs × (length all ≡ length xs + 1)
  unused_step {X} seat x xs all e h = let P : X → Type 0 = λ y. IsUnused table returns opening (seat y) in
      (All-head P x xs (subst (All P) e h), All-rest P x xs all e h, ap length e ∙ omega arith)

  module _ (passed : Passage → Bool) where
    -- to a connection that is unused nobody came
    pub unused_had_none : {X : Type 0} (seat : X → ActorSeat) (xs : List X) → All (λ x. IsUnused table returns opening (seat x)) xs
        → All (λ x. HadOneClient table returns opening passed (seat x)) xs
    unused_had_none seat xs h = All-weaker (λ x. IsUnused table returns opening (seat x)) (λ x. HadOneClient table returns opening passed (seat x)) (λ x u. ∣ inl u ∣₁) xs h

    -- what holds of connections holds of their seats
    pub seats_had_clients : {X : Type 0} (seat : X → ActorSeat) (xs : List X) → All (λ x. HadOneClient table returns opening passed (seat x)) xs
        → All (HadOneClient table returns opening passed) (map seat xs)
    seats_had_clients seat xs h = All-map (HadOneClient table returns opening passed) seat xs h
