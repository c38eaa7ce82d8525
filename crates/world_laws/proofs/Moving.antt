-- Moves change where an object is, and nothing else.
use Rattle.std.proofs.Common.{◌≡◌, ◌≢◌, ℕ, refl, sym, ap, subst}
use Rattle.std.proofs.lemmas.List.{get_or-set_other}
use Rattle.placement.specs.declared.places.Place.{Place}
use Rattle.placement.specs.declared.places.Place.TheVariants.{Here}
use Rattle.object_store.specs.Stores.{StoreState, place_of, with_place}
use Rattle.world.specs.declared.replies.Reply.{Reply}
use Rattle.world.specs.WorldState.{WorldState}
use Rattle.world_laws.specs.Moves.{MovesChangeNoByte}
use Rattle.world_laws.proofs.StoreCalls.{Move, Refused, Moves}
use Rattle.world_laws.proofs.Sorts.{as_move}

record StoreMoves (old : StoreState) (n : ℕ) (new : StoreState) : Type 0 where
  same : new ≡ record old { places = new.places; faults = new.faults }
  others : (k : ℕ) → k ≢ n → place_of new.places k ≡ place_of old.places k

moved : (old : StoreState) (n faults : ℕ) (p : Place) → StoreMoves old n (record (with_place old n p) { faults = faults })
moved old n faults p = record { same = refl; others = λ k d. get_or-set_other old.places n k p Here d }

store_moves : (old new : StoreState) (n : ℕ) (r : Reply) → Move old n r new → StoreMoves old n new
store_moves old new n r (Refused q e) = subst (λ (s : StoreState). StoreMoves old n s) (sym e) (record { same = refl; others = λ k d. refl })
store_moves old new n r (Moves a b faults m e) = subst (λ (s : StoreState). StoreMoves old n s) (sym e) (moved old n faults b)

pub moves_change_no_byte : MovesChangeNoByte
moves_change_no_byte old new n k r h =
    let a = as_move old new n k r h in
    let m = store_moves old.store new.store n r a.move in
    record { machines = ap (λ (w : WorldState). w.machines) a.changed; store = m.same; others = m.others }
