-- What a fault of the far store changes.
use Rattle.std.proofs.Common.{◌≡◌, ℕ, true, sym, ap, subst, ◌∙◌, arith}
use Rattle.placement.specs.declared.places.Place.{Place}
use Rattle.object_store.specs.Stores.{StoreState, with_place, HasRisen}
use Rattle.world.specs.declared.replies.Reply.{Reply}
use Rattle.world.specs.declared.events.Event.{Event}
use Rattle.world.specs.WorldState.{WorldState}
use Rattle.world_laws.specs.Replies.{FaultsChangeOnePlace, TellsFault}
use Rattle.world_laws.proofs.StoreCalls.{StoreCall, Grown, Filled, Placed, is_placing}
use Rattle.world_laws.proofs.Sorts.{Sort, Stays, Stores, Ships, Tunes, Pauses, Walks, off, sort_of}

-- the store after a fault at object n, which is told to be at p
abbrev Falls : StoreState → ℕ → Place → StoreState → Type 0
Falls old n p new = HasRisen old.faults new.faults × (new ≡ record (with_place old n p) { faults = new.faults })

faults_place : (n : ℕ) (p : Place) (r : Reply) → TellsFault n p r → is_placing r ≡ true
faults_place n p r t = grind arith

falls : (old new : StoreState) (n : ℕ) (p : Place) (r : Reply) → TellsFault n p r → StoreCall old r new → Falls old n p new
falls old new n p r q (Grown count room t e) = absurd (subst (λ (x : Reply). TellsFault n p x) t q)
falls old new n p r q (Filled k bytes faults c l z e) = off (is_placing r) c (faults_place n p r q)
falls old new n p r q (Placed k a b faults m e) =
    let f = m.fault n p q in
    let count : new.faults ≡ faults = ap (λ (s : StoreState). s.faults) e in
    let same : new ≡ record (with_place old k b) { faults = new.faults } = e ∙ ap (λ (i : ℕ). record (with_place old k b) { faults = i }) (sym count) in
    (subst (λ (i : ℕ). HasRisen old.faults i) (sym count) f.0, rw (f.1, f.2) same)

by_sort : (old new : WorldState) (c : Event) (n : ℕ) (p : Place) (r : Reply) → TellsFault n p r → Sort old c r new
    → HasRisen old.store.faults new.store.faults × (new ≡ record old { store = record (with_place old.store n p) { faults = new.store.faults } })
by_sort old new c n p r t (Stores k s e) =
    let f = falls old.store new.store n p r t s in (f.0, e ∙ ap (λ (x : StoreState). record old { store = x }) f.1)
by_sort old new c n p r t (Stays q m e) = off (is_placing r) q (faults_place n p r t)
by_sort old new c n p r t (Ships d k q m a e) = off (is_placing r) q (faults_place n p r t)
by_sort old new c n p r t (Tunes m k q s e) = off (is_placing r) q (faults_place n p r t)
by_sort old new c n p r t (Pauses m k q s e) = off (is_placing r) q (faults_place n p r t)
by_sort old new c n p r t (Walks m way k q h) = off (is_placing r) q (faults_place n p r t)

pub faults_keep : FaultsChangeOnePlace
faults_keep old new c n p r t h = by_sort old new c n p r t (sort_of old new c r h)
