-- What is proved of each move, and of freeing: what it does to the store, its replies as the first need that isn't met, and
-- that it looks neither at the count of faults nor at the bytes of another object.
use Rattle.std.proofs.Common.{◌≡◌, ◌≢◌, ℕ, ◌<◌, ◌≤◌, ◌+◌, Bool, true, false, List, [], ◌∷◌, length, inl, inr, refl, ap, sym, ◌∙◌, subst, arith}
use Rattle.memory.specs.Objects.{IsLive, bytes_of, with_bytes}
use Rattle.memory.proofs.Accesses.{set_commutes}
use Rattle.object_store.specs.Stores.{StoreState, HasRisen, HasRoom, IsScoped, StandsAt, near_bytes, near_length, place_of, with_place}
use Rattle.object_store.specs.Calls.{RefusesMove, Frees, BeginsLeave, EndsLeave, BeginsReturn, EndsReturn}
use Rattle.placement.specs.declared.places.Place.{Place}
use Rattle.placement.specs.declared.places.Place.TheVariants as place
use Rattle.placement.specs.declared.places.Moved.{Moved}
use Rattle.placement.specs.declared.places.Moved.TheVariants as moved
use Rattle.debugger.specs.Refusals.{Decides}
use Rattle.world.specs.declared.replies.Reply.{Reply}
use Rattle.world.specs.declared.replies.Reply.TheVariants as reply
use Rattle.world.specs.declared.world.moving.Move.{Move as MoveKind}
use Rattle.world.specs.declared.world.moving.Move.TheVariants as move
use Rattle.world.specs.Moves.{Moves as MovesSo, place_past, place_before}
use Rattle.world_laws.specs.Replies.{is_settled}
use Rattle.world_laws.proofs.Blinded.{Leaves, Suits, blind, leaves_objects, leaves_same, leaves_set, near_same, other}
use Rattle.world_laws.proofs.StoreCalls.{Move, Refused, Moves}

-- ---- what it does to the store

abbrev pub is_faulty : Moved → Bool
is_faulty (moved.Fault f) = true
is_faulty _ = false

refused : (at : Place) (old new : StoreState) (n : ℕ) (m : Moved) (kind : MoveKind) → RefusesMove at old n m new → Move old n (reply.Moved n kind m) new
refused at old new n moved.NoObject kind h = Refused refl h.1
refused at old new n (moved.Misplaced q) kind h = Refused refl h.2
refused at old new n _ kind h = absurd h

-- it keeps the budget
abbrev Fits : Place → Place → StoreState → ℕ → Type 0
Fits «from» to old n = near_bytes old.objects old.places ≤ old.budget
    → near_bytes old.objects old.places + near_length to (bytes_of old.objects n) ≤ old.budget + near_length «from» (bytes_of old.objects n)

done : (kind : MoveKind) («from» : Place) (old new : StoreState) (n faults : ℕ) → StandsAt «from» old n → Fits «from» (place_past kind) old n
    → («from» ≡ place.Here → IsScoped old n → ⊥) → new ≡ record (with_place old n (place_past kind)) { faults = faults }
    → Move old n (reply.Moved n kind moved.Done) new
done kind «from» old new n faults stands fits unscoped e = Moves «from» (place_past kind) faults
    (record {
      stands = stands;
      fits = fits;
      unscoped = unscoped;
      done = refl;
      replied = λ k p. refl;
      is_unmade = refl;
      fault = λ k p tells. absurd tells;
    }) e

failed : (kind : MoveKind) («from» : Place) (old new : StoreState) (n : ℕ) (m : Moved) → is_faulty m ≡ true → StandsAt «from» old n
    → Fits «from» (place_before kind) old n → («from» ≡ place.Here → ⊥) → HasRisen old.faults new.faults
    → new ≡ record (with_place old n (place_before kind)) { faults = new.faults } → Move old n (reply.Moved n kind m) new
failed kind «from» old new n (moved.Fault f) is stands fits away risen e = Moves «from» (place_before kind) new.faults
    (record {
      stands = stands;
      fits = fits;
      unscoped = λ here scoped. away here;
      done = refl;
      replied = λ k p. refl;
      is_unmade = refl;
      fault = λ k p tells. (risen, sym tells.0, tells.1);
    }) e
failed kind «from» old new n _ is stands fits away risen e = absurd (cc)

begun_leave : (old new : StoreState) (n : ℕ) (m : Moved) → BeginsLeave old n m new → Move old n (reply.Moved n move.Leave m) new
begun_leave old new n moved.Done h = done move.Leave place.Here old new n old.faults h.0 (λ g. omega (arith, g)) (λ e. h.1) h.2
begun_leave old new n moved.Scoped h = Refused refl h.2
begun_leave old new n m h = refused place.Here old new n m move.Leave h

ended_leave : (old new : StoreState) (n : ℕ) (m : Moved) → EndsLeave old n m new → Move old n (reply.Moved n move.Left m) new
ended_leave old new n moved.Done h = done move.Left place.Leaving old new n new.faults h.0 (λ g. omega (arith, g)) (λ e. absurd (cc)) h.2
ended_leave old new n (moved.Fault f) h = failed move.Left place.Leaving old new n (moved.Fault f) refl h.0 (λ g. omega (arith, g)) (λ e. absurd (cc)) h.1 h.2
ended_leave old new n m h = refused place.Leaving old new n m move.Left h

begun_return : (old new : StoreState) (n : ℕ) (m : Moved) → BeginsReturn old n m new → Move old n (reply.Moved n move.Return m) new
begun_return old new n moved.Done h =
    done move.Return place.Far old new n old.faults h.0 (λ g. omega (arith, h.1)) (λ e. absurd (cc)) h.2
begun_return old new n moved.NoRoom h = Refused refl h.2
begun_return old new n m h = refused place.Far old new n m move.Return h

ended_return : (old new : StoreState) (n : ℕ) (m : Moved) → EndsReturn true old n m new → Move old n (reply.Moved n move.Returned m) new
ended_return old new n moved.Done h =
    done move.Returned place.Returning old new n old.faults h.0 (λ g. omega (arith, g)) (λ e. absurd (cc)) h.1
ended_return old new n (moved.Fault f) h =
    failed move.Returned place.Returning old new n (moved.Fault f) refl h.0 (λ g. omega (arith, g)) (λ e. absurd (cc)) h.1 h.2
ended_return old new n m h = refused place.Returning old new n m move.Returned h

pub store_move : (k : MoveKind) (old new : StoreState) (n : ℕ) (m : Moved) → MovesSo k old n m new
    → Move old n (reply.Moved n k m) new
store_move move.Leave old new n m h = begun_leave old new n m h
store_move move.Left old new n m h = ended_leave old new n m h
store_move move.Return old new n m h = begun_return old new n m h
store_move move.Returned old new n m h = ended_return old new n m h

-- ---- which reply it has

-- a settled reply comes of no fault
abbrev pub Settles : (Moved → Reply) → Type 0
Settles reply_with = (m : Moved) → is_settled (reply_with m) ≡ true → is_faulty m ≡ false

pub freed_settles : (n : ℕ) → Settles (reply.Freed n)
freed_settles n (moved.Fault f) e = absurd (cc)
freed_settles n _ e = refl

pub moved_settles : (n : ℕ) (k : MoveKind) → Settles (reply.Moved n k)
moved_settles n k (moved.Fault f) e = absurd (cc)
moved_settles n k _ e = refl

-- a move of an object from a place
abbrev pub MoveNeeds : Place → StoreState → ℕ → Moved → Type 0
MoveNeeds from old n moved.NoObject = IsLive old.objects n
MoveNeeds from old n (moved.Misplaced p) = place_of old.places n ≡ from
MoveNeeds from old n moved.Scoped = IsScoped old n → ⊥
MoveNeeds from old n moved.NoRoom = HasRoom old (length (bytes_of old.objects n))
MoveNeeds from old n _ = Unit {0}

-- how it may be refused, before it is tested for more
abbrev pub move_refusals : StoreState → ℕ → List Moved → List Moved
move_refusals old n more = moved.NoObject ∷ moved.Misplaced (place_of old.places n) ∷ more

abbrev pub MoveDecides : Place → List Moved → StoreState → ℕ → Moved → Type 0
MoveDecides from more old n m = Decides (MoveNeeds from old n) (move_refusals old n more) moved.Done m

refused_first : (from : Place) (more : List Moved) (old s : StoreState) (n : ℕ) (m : Moved) → RefusesMove from old n m s → MoveDecides from more old n m
refused_first from more old s n moved.NoObject g = inl (g.0, refl)
refused_first from more old s n (moved.Misplaced p) g = inr (g.0.0, inl ((λ e. g.1 (sym g.0.1 ∙ e)), ap moved.Misplaced (sym g.0.1)))
refused_first from more old s n _ g = absurd g

refused_leads : (from : Place) (old s t : StoreState) (n : ℕ) (m : Moved) → RefusesMove from old n m s → RefusesMove from old n m t → s ≡ t
refused_leads from old s t n moved.NoObject g h = g.1 ∙ sym h.1
refused_leads from old s t n (moved.Misplaced p) g h = g.2 ∙ sym h.2
refused_leads from old s t n _ g h = absurd g

abbrev pub StoreMoves : Type 1
StoreMoves = StoreState → ℕ → Moved → StoreState → Type 0

abbrev pub MoveFirsts : StoreMoves → Place → List Moved → Type 0
MoveFirsts moves from more = (old s : StoreState) (n : ℕ) (m : Moved) → moves old n m s → is_faulty m ≡ false → MoveDecides from more old n m

abbrev pub MoveLeads : StoreMoves → Type 0
MoveLeads moves = (old s t : StoreState) (n : ℕ) (m : Moved) → moves old n m s → moves old n m t → s.faults ≡ t.faults → is_faulty m ≡ false → s ≡ t

pub frees_first : MoveFirsts Frees place.Here (moved.Scoped ∷ [])
frees_first old s n moved.Done g p = inr (g.0.0, inr (g.0.1, inr (g.1, refl)))
frees_first old s n moved.Scoped g p = inr (g.0.0, inr (g.0.1, inl ((λ k. k g.1), refl)))
frees_first old s n m g p = refused_first place.Here (moved.Scoped ∷ []) old s n m g

pub frees_leads : MoveLeads Frees
frees_leads old s t n moved.Done g h f p = g.3 ∙ ap (λ k. record old { objects = with_bytes old.objects n []; faults = k }) f ∙ sym h.3
frees_leads old s t n moved.Scoped g h f p = g.2 ∙ sym h.2
frees_leads old s t n m g h f p = refused_leads place.Here old s t n m g h

leave_first : MoveFirsts BeginsLeave place.Here (moved.Scoped ∷ [])
leave_first old s n moved.Done g p = inr (g.0.0, inr (g.0.1, inr (g.1, refl)))
leave_first old s n moved.Scoped g p = inr (g.0.0, inr (g.0.1, inl ((λ k. k g.1), refl)))
leave_first old s n m g p = refused_first place.Here (moved.Scoped ∷ []) old s n m g

leave_leads : MoveLeads BeginsLeave
leave_leads old s t n moved.Done g h f p = g.2 ∙ sym h.2
leave_leads old s t n moved.Scoped g h f p = g.2 ∙ sym h.2
leave_leads old s t n m g h f p = refused_leads place.Here old s t n m g h

left_first : MoveFirsts EndsLeave place.Leaving []
left_first old s n moved.Done g p = inr (g.0.0, inr (g.0.1, refl))
left_first old s n (moved.Fault x) g p = absurd (cc)
left_first old s n m g p = refused_first place.Leaving [] old s n m g

left_leads : MoveLeads EndsLeave
left_leads old s t n moved.Done g h f p = g.2 ∙ ap (λ k. record (with_place old n place.Far) { faults = k }) f ∙ sym h.2
left_leads old s t n (moved.Fault x) g h f p = absurd (cc)
left_leads old s t n m g h f p = refused_leads place.Leaving old s t n m g h

return_first : MoveFirsts BeginsReturn place.Far (moved.NoRoom ∷ [])
return_first old s n moved.Done g p = inr (g.0.0, inr (g.0.1, inr (g.1, refl)))
return_first old s n moved.NoRoom g p = inr (g.0.0, inr (g.0.1, inl (g.1, refl)))
return_first old s n m g p = refused_first place.Far (moved.NoRoom ∷ []) old s n m g

return_leads : MoveLeads BeginsReturn
return_leads old s t n moved.Done g h f p = g.2 ∙ sym h.2
return_leads old s t n moved.NoRoom g h f p = g.2 ∙ sym h.2
return_leads old s t n m g h f p = refused_leads place.Far old s t n m g h

returned_first : MoveFirsts (EndsReturn true) place.Returning []
returned_first old s n moved.Done g p = inr (g.0.0, inr (g.0.1, refl))
returned_first old s n (moved.Fault x) g p = absurd (cc)
returned_first old s n m g p = refused_first place.Returning [] old s n m g

returned_leads : MoveLeads (EndsReturn true)
returned_leads old s t n moved.Done g h f p = g.1 ∙ sym h.1
returned_leads old s t n (moved.Fault x) g h f p = absurd (cc)
returned_leads old s t n m g h f p = refused_leads place.Returning old s t n m g h

-- from where it is moved, how else it may be refused, and that these decide
pub record DecidedSo (k : MoveKind) : Type 0 where
  pub start : Place
  pub more : List Moved
  pub first : MoveFirsts (MovesSo k) start more
  pub leads : MoveLeads (MovesSo k)

pub decided_so : (k : MoveKind) → DecidedSo k
decided_so move.Leave = record { start = place.Here; more = moved.Scoped ∷ []; first = leave_first; leads = leave_leads }
decided_so move.Left = record { start = place.Leaving; more = []; first = left_first; leads = left_leads }
decided_so move.Return = record { start = place.Far; more = moved.NoRoom ∷ []; first = return_first; leads = return_leads }
decided_so move.Returned = record { start = place.Returning; more = []; first = returned_first; leads = returned_leads }

-- ---- faults

-- the store but for the count of faults
abbrev pub cleared : StoreState → StoreState
cleared s = record s { faults = 0 }

abbrev pub Clears : (StoreState → ℕ → Moved → StoreState → Type 0) → Type 0
Clears moves = (old new : StoreState) (n : ℕ) (m : Moved) → moves old n m new → is_faulty m ≡ false → moves (cleared old) n m (cleared new)

pub frees_clears : Clears Frees
frees_clears old new n m h t = grind arith

pub clears : (k : MoveKind) → Clears (MovesSo k)
clears k old new n m h t = grind arith

-- ---- the bytes of another object

module _ (n : ℕ) (b : List ℕ) (k : ℕ) (h : k ≢ n) where
  stands : (s : StoreState) (p : Place) → StandsAt p s k → StandsAt p (blind n b s) k
  stands s p g = (subst (λ (y : List ℕ). 0 < length y) (sym (other s.objects n k b h)) g.0, g.1)

  refused_blind : (p : Place) (old new : StoreState) (m : Moved) → RefusesMove p old k m new
      → RefusesMove p (blind n b old) k m (blind n b new) × Leaves n old new
  refused_blind p old new moved.NoObject g =
      (((λ l. g.0 (subst (λ (y : List ℕ). 0 < length y) (other old.objects n k b h) l)), ap (blind n b) g.1), leaves_same n old new g.1)
  refused_blind p old new (moved.Misplaced q) g = ((stands old q g.0, g.1, ap (blind n b) g.2), leaves_same n old new g.2)
  refused_blind p old new _ g = absurd g

  pub frees_blind : (old new : StoreState) (m : Moved) → Suits n b old → Frees old k m new → Frees (blind n b old) k m (blind n b new) × Leaves n old new
  frees_blind old new moved.Scoped f g = ((stands old place.Here g.0, g.1, ap (blind n b) g.2), leaves_same n old new g.2)
  frees_blind old new moved.Done f g = (
    (
      stands old place.Here g.0,
      g.1,
      g.2,
      ap (blind n b) g.3
          ∙ ap (λ (os : List (List ℕ)). record old { objects = os; faults = new.faults }) (set_commutes old.objects k n [] b h),
    ),
    leaves_set n old new k [] h (ap (λ (s : StoreState). s.objects) g.3),
  )
  frees_blind old new m f g = refused_blind place.Here old new m g

  leave_blind : (old new : StoreState) (m : Moved) → Suits n b old → BeginsLeave old k m new
      → BeginsLeave (blind n b old) k m (blind n b new) × Leaves n old new
  leave_blind old new moved.Scoped f g = ((stands old place.Here g.0, g.1, ap (blind n b) g.2), leaves_same n old new g.2)
  leave_blind old new moved.Done f g = ((stands old place.Here g.0, g.1, ap (blind n b) g.2), leaves_objects n old new (ap (λ (s : StoreState). s.objects) g.2))
  leave_blind old new m f g = refused_blind place.Here old new m g

  left_blind : (old new : StoreState) (m : Moved) → Suits n b old → EndsLeave old k m new → EndsLeave (blind n b old) k m (blind n b new) × Leaves n old new
  left_blind old new (moved.Fault e) f g =
      ((stands old place.Leaving g.0, g.1, ap (blind n b) g.2), leaves_objects n old new (ap (λ (s : StoreState). s.objects) g.2))
  left_blind old new moved.Done f g = (
    (stands old place.Leaving g.0, g.1, ap (blind n b) g.2),
    leaves_objects n old new (ap (λ (s : StoreState). s.objects) g.2),
  )
  left_blind old new m f g = refused_blind place.Leaving old new m g

  return_blind : (old new : StoreState) (m : Moved) → Suits n b old → BeginsReturn old k m new
      → BeginsReturn (blind n b old) k m (blind n b new) × Leaves n old new
  return_blind old new moved.NoRoom f g =
      let x = near_same old.objects old.places n b f.long in
      let y = ap length (other old.objects n k b h) in
      ((stands old place.Far g.0, (λ r. g.1 (omega (arith, x, y, r))), ap (blind n b) g.2), leaves_same n old new g.2)
  return_blind old new moved.Done f g =
      let x = near_same old.objects old.places n b f.long in
      let y = ap length (other old.objects n k b h) in
      ((stands old place.Far g.0, omega (arith, x, y, g.1), ap (blind n b) g.2), leaves_objects n old new (ap (λ (s : StoreState). s.objects) g.2))
  return_blind old new m f g = refused_blind place.Far old new m g

  returned_blind : (old new : StoreState) (m : Moved) → Suits n b old → EndsReturn true old k m new
      → EndsReturn true (blind n b old) k m (blind n b new) × Leaves n old new
  returned_blind old new (moved.Fault e) f g =
      ((stands old place.Returning g.0, g.1, ap (blind n b) g.2), leaves_objects n old new (ap (λ (s : StoreState). s.objects) g.2))
  returned_blind old new moved.Done f g =
      ((stands old place.Returning g.0, ap (blind n b) g.1), leaves_objects n old new (ap (λ (s : StoreState). s.objects) g.1))
  returned_blind old new m f g = refused_blind place.Returning old new m g

  pub moves_blind : (kind : MoveKind) (old new : StoreState) (m : Moved) → Suits n b old → MovesSo kind old k m new
      → MovesSo kind (blind n b old) k m (blind n b new) × Leaves n old new
  moves_blind move.Leave old new m f g = leave_blind old new m f g
  moves_blind move.Left old new m f g = left_blind old new m f g
  moves_blind move.Return old new m f g = return_blind old new m f g
  moves_blind move.Returned old new m f g = returned_blind old new m f g
