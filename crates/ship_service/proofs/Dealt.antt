-- The seats of a table are dealt out: to the machines, to the connections, and to the mover.
use Rattle.std.proofs.Common.{◌≡◌, ℕ, zero, suc, ◌+◌, List, [], ◌∷◌, ◌++◌, length, map, take, drop, replicate, All, None, refl, sym, ap, ◌∙◌, subst, arith}
use Rattle.std.proofs.Common.{append_assoc}
use Rattle.std.proofs.lemmas.List.{map-append, take-append-drop}
use Rattle.std.proofs.lemmas.List.Elements.{All-head, All-tail, All-weaker, All-drop}
use Rattle.std.specs.Prelude.{Bool, Option, slice_index_or}
use mathlib.Core.Option.{some}
use lib.ListN.{get_elem?}
use Rattle.atomic_table.specs.Seated.{TableId}
use Rattle.atomic_table.proofs.Lists.{at_longer}
use Rattle.shared_objects.specs.Kinds.{dealer, newcomer}
use Rattle.shared_objects.specs.Opened.{AreFresh, seated}
use Rattle.shared_objects.specs.Tables.{IsActorOf}
use Rattle.shared_objects.specs.declared.seats.ActorSeat.{ActorSeat}
use Rattle.shared_objects.specs.declared.table.SharedTable.{SharedTable}
use Rattle.shared_objects.specs.declared.view.Whereabouts.TheVariants.{Here}
use Rattle.shared_objects.specs.declared.view.View.{View}
use Rattle.memory.specs.Objects.{bytes_of}
use Rattle.workers.specs.Cells.{IsSeatOf, IsTableOf}
use Rattle.workers.specs.Moves.{KeepsParcel, KeepsParcels, MoverState}
use Rattle.ship_service.specs.Opening.{AreFreshSeats, first_view, first_mover, seat_count}

-- ---- one after the other

-- what was made of each that came, and what is left, are all: so it is after one more
pub one_more : {X Y : Type 0} (f : X → Y) (xs : List X) (x : X) (left rest all : List Y) → map f xs ++ left ≡ all → left ≡ f x ∷ rest
    → map f (xs ++ x ∷ []) ++ rest ≡ all
one_more f xs x left rest all e h =
    ap (λ l. l ++ rest) (map-append f xs (x ∷ [])) ∙ append_assoc (map f xs) (f x ∷ []) rest ∙ ap (λ l. map f xs ++ l) (sym h) ∙ e

-- ---- seats

abbrev FreshFrom : Bool → List (List ℕ) → ℕ → List ActorSeat → Type 0
FreshFrom returns opening k seats = (j : ℕ) (a : ActorSeat) → get_elem? seats j ≡ some a
    → (a.seat.me.0 ≡ newcomer (seated (k + j) (dealer returns opening))) × (a.stamp ≡ 0)

fresh_from : (shared : SharedTable) (table : TableId) (returns : Bool) (opening : List (List ℕ)) (k : ℕ) (seats : List ActorSeat)
    → IsTableOf table opening shared → FreshFrom returns opening k seats
    → All (IsActorOf shared) seats → AreFreshSeats table returns opening (k + 1) seats
fresh_from shared table returns opening k [] t f a = tt
fresh_from shared table returns opening k (s ∷ ss) t f a =
    let own = All-head (IsActorOf shared) s ss a in
    let here : 1 + (k + 0) ≡ k + 1 = omega arith in
    let first = f 0 s refl in
    let next : FreshFrom returns opening (k + 1) ss = λ j b e. let same : k + suc j ≡ k + 1 + j = omega arith in
    subst (λ i. (b.seat.me.0 ≡ newcomer (seated i (dealer returns opening))) × (b.stamp ≡ 0)) same (f (suc j) b e) in (
      record { table_is = own.0 ∙ t.0; view_is = subst (λ i. s.seat.me.0 ≡ first_view returns opening i) here first.0; stamp_is = first.1 },
      fresh_from shared table returns opening (k + 1) ss t next (All-tail (IsActorOf shared) s ss a),
    )

later : (table : TableId) (returns : Bool) (opening : List (List ℕ)) (actor n : ℕ) (seats : List ActorSeat)
    → AreFreshSeats table returns opening actor seats → AreFreshSeats table returns opening (actor + n) (drop n seats)
later table returns opening actor zero seats h = let same : actor ≡ actor + 0 = omega arith in subst (λ i. AreFreshSeats table returns opening i seats) same h
later table returns opening actor (suc n) [] h = tt
later table returns opening actor (suc n) (s ∷ ss) h = let same : actor + 1 + n ≡ actor + suc n = omega arith in
    subst (λ i. AreFreshSeats table returns opening i (drop n ss)) same (later table returns opening (actor + 1) n ss h.1)

-- the seats of a table that come after the first n
pub last_seats : (shared : SharedTable) (table : TableId) (returns : Bool) (opening : List (List ℕ)) (n : ℕ) (seats : List ActorSeat)
    → IsTableOf table opening shared → AreFresh (dealer returns opening) seats
    → All (IsActorOf shared) seats → AreFreshSeats table returns opening (n + 1) (drop n seats)
last_seats shared table returns opening n seats t f a =
    let fresh : FreshFrom returns opening 0 seats = λ j b e. let same : j ≡ 0 + j = omega arith in
    subst (λ i. (b.seat.me.0 ≡ newcomer (seated i (dealer returns opening))) × (b.stamp ≡ 0)) same (f j b e) in
    let same : 1 + n ≡ n + 1 = omega arith in
    subst (λ i. AreFreshSeats table returns opening i (drop n seats)) same
    (later table returns opening 1 n seats (fresh_from shared table returns opening 0 seats t fresh a))

-- the first n
pub first_seats : (v : View) (n : ℕ) (seats : List ActorSeat) → AreFresh v seats → AreFresh v (take n seats)
first_seats v n seats h k a e = h k a (subst (λ l. get_elem? l k ≡ some a) (take-append-drop n seats) (at_longer (take n seats) (drop n seats) k a e))

-- all but the first n are of the table's name
pub own_seats : (shared : SharedTable) (table : TableId) (opening : List (List ℕ)) (n : ℕ) (seats : List ActorSeat) → IsTableOf table opening shared
    → All (IsActorOf shared) seats → All (IsSeatOf table opening) (drop n seats)
own_seats shared table opening n seats t a =
    All-weaker (IsActorOf shared) (IsSeatOf table opening) (λ s h. (h.0 ∙ t.0, h.1 ∙ t.1)) (drop n seats) (All-drop (IsActorOf shared) n seats a)

-- ---- the mover

all_here : (opening : List (List ℕ)) (n : ℕ) → slice_index_or (map (λ (_ : List ℕ). Here) opening) n Here ≡ Here
all_here [] n = refl
all_here (x ∷ xs) zero = refl
all_here (x ∷ xs) (suc n) = all_here xs n

all_none : {X : Type 0} (parcels : List (Option X)) (count : ℕ) → length parcels ≡ count → ((n : ℕ) → slice_index_or parcels n None ≡ None)
    → parcels ≡ replicate count None
all_none [] zero e h = refl
all_none [] (suc count) e h = absurd (omega (arith, e))
all_none (p ∷ ps) zero e h = absurd (omega (arith, e))
all_none (p ∷ ps) (suc count) e h = let rest = all_none ps count (omega (arith, e)) (λ n. h (suc n)) in λ i. h 0 i ∷ rest i

-- a mover whose objects are all here keeps no parcel
pub mover_begins : {X : Type 0} (returns : Bool) (opening : List (List ℕ)) (store : X) (m : MoverState X)
    → m.view ≡ seated seat_count (dealer returns opening) → m.store ≡ store → m.last ≡ 0 → KeepsParcels m.view m.parcels
    → m ≡ first_mover returns opening store
mover_begins {X} returns opening store m v s l h =
    let k : KeepsParcels (seated seat_count (dealer returns opening)) m.parcels = subst (λ w. KeepsParcels w m.parcels) v h in
    let none : (n : ℕ) → slice_index_or m.parcels n None ≡ None =
    λ n. subst (λ p. KeepsParcel (bytes_of opening n) p (slice_index_or m.parcels n None)) (all_here opening n) (k.1 n) in
    let p : m.parcels ≡ replicate (length opening) None = all_none m.parcels (length opening) k.0 none in
    λ i. record { view = v i; store = s i; parcels = p i; last = l i }
