-- What the mover knows after one object went there and back, and its parcels.
use Rattle.std.proofs.Common.{◌≡◌, true, false, ℕ, zero, suc, ◌<◌, ◌≢◌, List, [], ◌∷◌, ◌++◌, length, map, set, get_or, sym, refl, ap, ◌∙◌, subst, arith}
use Rattle.std.proofs.Common.{length-set, get_or-set_other, get_or-set_same, Some, None}
use Rattle.std.proofs.lemmas.List.{set-set, set-get_or, get_or-map, map-set, length-map}
use Rattle.std.specs.Prelude.{Bool, Option, slice_index_or}
use mathlib.Core.Logic.{dite}
use native.Mathlib.Decide.{ℕ_discrete}
use Rattle.far_store.specs.Stores.{parcel_bytes}
use Rattle.memory.specs.Objects.{bytes_of}
use Rattle.shared_objects.specs.Kinds.{placed, sent, called}
use Rattle.shared_objects.specs.Phases.{IsObject}
use Rattle.shared_objects.specs.Rule.{place_of}
use Rattle.shared_objects.specs.declared.view.Whereabouts.{Whereabouts}
use Rattle.shared_objects.specs.declared.view.Whereabouts.TheVariants.{Here, Moving, Far}
use Rattle.shared_objects.specs.declared.view.View.{View}
use Rattle.shared_objects.specs.declared.seats.MoverSeat.{MoverSeat}
use Rattle.placement.specs.declared.places.Moved.TheVariants.{NoObject}
use Rattle.workers.specs.declared.job.Direction.{Direction}
use Rattle.workers.specs.declared.job.Direction.TheVariants.{Leave, Return}
use Rattle.workers.specs.Moves.{KeepsParcel, KeepsParcels, MovesOne}

-- ---- places

pub object_inside : (opening : List (List ℕ)) (n : ℕ) → IsObject opening n → n < length opening
object_inside [] n h = absurd (omega arith)
object_inside (x ∷ xs) zero h = omega arith
object_inside (x ∷ xs) (suc n) h = omega (arith, object_inside xs n h)

pub inside : (v : View) (n : ℕ) → IsObject v.opening n → length v.out ≡ length v.opening → n < length v.out
inside v n o e = omega (arith, object_inside v.opening n o)

pub now_here : (v : View) (n : ℕ) (p : Whereabouts) → n < length v.out → place_of (placed n p v) n ≡ p
now_here v n p wide = get_or-set_same v.out n p Here wide

now_else : (v : View) (n : ℕ) (p : Whereabouts) (m : ℕ) → m ≢ n → place_of (placed n p v) m ≡ place_of v m
now_else v n p m ne = get_or-set_other v.out n m p Here ne

twice : (v : View) (n : ℕ) (p q : Whereabouts) → placed n q (placed n p v) ≡ placed n q v
twice v n p q = ap (λ l. record v { out = l }) (set-set v.out n p q)

back : (v : View) (n : ℕ) (p : Whereabouts) → place_of v n ≡ p → placed n p v ≡ v
back v n p e = ap (λ l. record v { out = l }) (ap (set v.out n) (sym e) ∙ set-get_or v.out n Here)

-- taken, and sent
pub went : (v : View) (n : ℕ) (bytes : List ℕ) → n < length v.out
    → placed n (sent (place_of (placed n (Moving bytes) v) n)) (placed n (Moving bytes) v) ≡ placed n (Far bytes) v
went v n bytes wide = ap (λ p. placed n (sent p) (placed n (Moving bytes) v)) (now_here v n (Moving bytes) wide) ∙ twice v n (Moving bytes) (Far bytes)

-- taken, and put home
pub stayed : (v : View) (n : ℕ) (bytes : List ℕ) → place_of v n ≡ Here → placed n Here (placed n (Moving bytes) v) ≡ v
stayed v n bytes e = twice v n (Moving bytes) Here ∙ back v n Here e

-- called, and put home
pub came : (v : View) (n : ℕ) → placed n Here (placed n (called (place_of v n)) v) ≡ placed n Here v
came v n = twice v n (called (place_of v n)) Here

-- called, and sent again
pub kept_away : (v : View) (n : ℕ) (bytes : List ℕ) → n < length v.out → place_of v n ≡ Far bytes
    → placed n (sent (place_of (placed n (called (place_of v n)) v) n)) (placed n (called (place_of v n)) v) ≡ v
kept_away v n bytes wide e = ap (λ p. placed n (sent p) (placed n (called (place_of v n)) v)) (now_here v n (called (place_of v n)) wide)
    ∙ twice v n (called (place_of v n)) (sent (called (place_of v n))) ∙ ap (λ p. placed n (sent (called p)) v) e ∙ back v n (Far bytes) e

-- ---- parcels

-- where no parcel is kept the object is here
pub none_here : (opening : List ℕ) (p : Whereabouts) → KeepsParcel opening p None → p ≡ Here
none_here opening Here k = refl
none_here opening (Moving b) k = absurd k
none_here opening (Far b) k = absurd (cc)

-- where one is kept it is far
pub some_far : (opening : List ℕ) (p : Whereabouts) (bytes : List ℕ) → KeepsParcel opening p (Some bytes) → (p ≡ Far bytes) × (length bytes ≡ length opening)
some_far opening Here bytes k = absurd (cc)
some_far opening (Moving b) bytes k = absurd k
some_far opening (Far b) bytes k = (cc, cc)

module _ (v : View) (n : ℕ) (parcels : List (Option (List ℕ))) (wide : n < length v.out) (long : length v.out ≡ length v.opening)
    (keeps : KeepsParcels v parcels) where
  -- one object is in another place, and its parcel is another one
  moved : (p : Whereabouts) (parcel : Option (List ℕ)) → KeepsParcel (bytes_of v.opening n) p parcel → KeepsParcels (placed n p v) (set parcels n parcel)
  moved p parcel k = (
    length-set parcels n parcel ∙ keeps.0,
    λ m. dite (ℕ_discrete m n)
        (λ here.
        let there = ap (place_of (placed n p v)) here ∙ now_here v n p wide in
        let kept = ap (λ i. slice_index_or (set parcels n parcel) i None) here ∙ get_or-set_same parcels n parcel None (omega (arith, wide, long, keeps.0)) in
        let one = subst (λ (q : Option (List ℕ)). KeepsParcel (bytes_of v.opening n) p q) (sym kept) k in
        let two = subst (λ (q : Whereabouts). KeepsParcel (bytes_of v.opening n) q (slice_index_or (set parcels n parcel) m None)) (sym there) one in
        subst (λ (o : List ℕ). KeepsParcel o (place_of (placed n p v) m) (slice_index_or (set parcels n parcel) m None))
        (ap (bytes_of v.opening) (sym here)) two)
        (λ ne.
        subst (λ (q : Whereabouts). KeepsParcel (bytes_of v.opening m) q (slice_index_or (set parcels n parcel) m None)) (sym (now_else v n p m ne))
        (subst (λ (q : Option (List ℕ)). KeepsParcel (bytes_of v.opening m) (place_of v m) q) (sym (get_or-set_other parcels n m parcel None ne)) (keeps.1 m))),
  )

  -- it went, and its parcel is kept
  pub keeps_far : (bytes : List ℕ) → length bytes ≡ length (bytes_of v.opening n) → KeepsParcels (placed n (Far bytes) v) (set parcels n (Some bytes))
  keeps_far bytes as_long = moved (Far bytes) (Some bytes) (refl, as_long)

  -- it came, and none is kept
  pub keeps_here : KeepsParcels (placed n Here v) (set parcels n None)
  keeps_here = moved Here None refl

-- ---- a mover that has done nothing

-- no parcel is kept
abbrev pub NoParcels : {P : Type 0} → (P → List ℕ) → List (Option P) → Type 0
NoParcels bytes_in parcels = (n : ℕ) → slice_index_or (map (parcel_bytes bytes_in) parcels) n None ≡ None

pub none_more : {P : Type 0} (bytes_in : P → List ℕ) (parcels : List (Option P)) → NoParcels bytes_in parcels → NoParcels bytes_in (parcels ++ None ∷ [])
none_more bytes_in [] h zero = refl
none_more bytes_in [] h (suc n) = refl
none_more bytes_in (x ∷ xs) h zero = h zero
none_more bytes_in (x ∷ xs) h (suc n) = none_more bytes_in xs (λ m. h (suc m)) n

all_here : (opening : List (List ℕ)) (n : ℕ) → slice_index_or (map (λ _. Here) opening) n Here ≡ Here
all_here [] n = refl
all_here (x ∷ xs) zero = refl
all_here (x ∷ xs) (suc n) = all_here xs n

pub keeps_none : (v : View) (parcels : List (Option (List ℕ))) → v.out ≡ map (λ _. Here) v.opening → length parcels ≡ length v.opening
    → ((n : ℕ) → slice_index_or parcels n None ≡ None) → KeepsParcels v parcels
keeps_none v parcels here long none = (
  long,
  λ n.
      let there : place_of v n ≡ Here = ap (λ (l : List Whereabouts). slice_index_or l n Here) here ∙ all_here v.opening n in
      subst (λ (q : Whereabouts). KeepsParcel (bytes_of v.opening n) q (slice_index_or parcels n None)) (sym there) (none n),
)

-- ---- the parcels themselves

-- the place tells whether a parcel is kept, and of which bytes
pub parcel_at : {P : Type 0} (bytes_in : P → List ℕ) (items : List (Option P)) (n : ℕ) (d x : Option P) → n < length items → get_or items n d ≡ x
    → slice_index_or (map (parcel_bytes bytes_in) items) n None ≡ parcel_bytes bytes_in x
parcel_at bytes_in items n d x h e = get_or-map (parcel_bytes bytes_in) items n d None h ∙ ap (parcel_bytes bytes_in) e

module _ {P : Type 0} (bytes_in : P → List ℕ) (v : View) (n : ℕ) (items : List (Option P)) (wide : n < length v.out)
    (long : length v.out ≡ length v.opening) (keeps : KeepsParcels v (map (parcel_bytes bytes_in) items)) where
  -- it went, and its parcel is kept
  pub kept_far : (parcel : P) → length (bytes_in parcel) ≡ length (bytes_of v.opening n)
      → KeepsParcels (placed n (Far (bytes_in parcel)) v) (map (parcel_bytes bytes_in) (set items n (Some parcel)))
  kept_far parcel as_long = subst (λ (l : List (Option (List ℕ))). KeepsParcels (placed n (Far (bytes_in parcel)) v) l)
      (sym (map-set (parcel_bytes bytes_in) items n (Some parcel)))
      (keeps_far v n (map (parcel_bytes bytes_in) items) wide long keeps (bytes_in parcel) as_long)

  -- it came, and none is kept
  pub kept_here : KeepsParcels (placed n Here v) (map (parcel_bytes bytes_in) (set items n None))
  kept_here = subst (λ (l : List (Option (List ℕ))). KeepsParcels (placed n Here v) l) (sym (map-set (parcel_bytes bytes_in) items n None))
      (keeps_here v n (map (parcel_bytes bytes_in) items) wide long keeps)

  at_n : IsObject v.opening n → n < length items
  at_n o = omega (arith, object_inside v.opening n o, keeps.0, length-map items (parcel_bytes bytes_in))

  -- the parcel that is found there is that of the object, which is far
  pub found : (d : Option P) (parcel : P) → IsObject v.opening n → d ≡ get_or items n d → Some parcel ≡ d
      → (place_of v n ≡ Far (bytes_in parcel)) × (length (bytes_in parcel) ≡ length (bytes_of v.opening n))
  found d parcel o is some = some_far (bytes_of v.opening n) (place_of v n) (bytes_in parcel)
      (subst (λ (q : Option (List ℕ)). KeepsParcel (bytes_of v.opening n) (place_of v n) q)
      (parcel_at bytes_in items n d (Some parcel) (at_n o) (sym is ∙ sym some)) (keeps.1 n))

  -- where none is found the object is here
  pub lacks : (d : Option P) → IsObject v.opening n → d ≡ get_or items n d → d ≡ None → place_of v n ≡ Here
  lacks d o is none = none_here (bytes_of v.opening n) (place_of v n)
      (subst (λ (q : Option (List ℕ)). KeepsParcel (bytes_of v.opening n) (place_of v n) q)
      (parcel_at bytes_in items n d None (at_n o) (sym is ∙ none)) (keeps.1 n))

-- an object of the opening of which a parcel is kept is far, and the parcel stands for its bytes
pub found_far : {P : Type 0} {opening : List (List ℕ)} (bytes_in : P → List ℕ) (seat : MoverSeat) (n : ℕ) (items : List (Option P)) (d : Option P) (parcel : P)
    → seat.seat.me.0.opening ≡ opening → IsObject opening n → KeepsParcels seat.seat.me.0 (map (parcel_bytes bytes_in) items)
    → d ≡ get_or items n d → Some parcel ≡ d
    → IsObject seat.seat.me.0.opening n × (place_of seat.seat.me.0 n ≡ Far (bytes_in parcel))
    × (length (bytes_in parcel) ≡ length (bytes_of seat.seat.me.0.opening n))
found_far bytes_in seat n items d parcel same object keeps is some =
    let v : View = seat.seat.me.0 in
    let o = subst (λ x. IsObject x n) (sym same) object in
    let far = found bytes_in v n items (inside v n o seat.wide) seat.wide keeps d parcel o is some in
    (o, far.0, far.1)

-- ---- requests

-- no object of this number
pub none_moved : (direction : Direction) (v : View) (n : ℕ) → (IsObject v.opening n → ⊥) → MovesOne direction v n NoObject v
none_moved Leave v n h = (h, refl)
none_moved Return v n h = (h, refl)

-- a Boolean that cannot be true is false
pub false_or : (b : Bool) → (b ≡ true → ⊥) → b ≡ false
false_or true h = absurd (h refl)
false_or false h = refl
