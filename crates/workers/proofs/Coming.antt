-- Seats and machines that come one after the other.
use Rattle.std.proofs.Common.{◌≡◌, ℕ, zero, suc, ◌+◌, ◌-◌, List, [], ◌∷◌, length, drop, All, Some, None, refl, sym, ap, ◌∙◌, subst, arith}
use Rattle.std.proofs.lemmas.List.Elements.{All-head, All-tail}
use Rattle.std.specs.Prelude.{Option, slice_get, IfSome, IfNone, Bool}
use Rattle.std.specs.declared.alloc.Global.{Global}
use Rattle.std.specs.declared.vec.IntoIter.{IntoIter}
use Rattle.std.specs.Vec.Iter.{into_iter_items, into_iter_steps}
use Rattle.atomic_table.specs.Seated.{TableId}
use mathlib.Core.Option.{some}
use lib.ListN.{get_elem?}
use Rattle.shared_objects.specs.Kinds.{dealer, newcomer}
use Rattle.shared_objects.specs.Opened.{AreFresh, seated}
use Rattle.shared_objects.specs.Tables.{IsActorOf}
use Rattle.shared_objects.specs.declared.seats.ActorSeat.{ActorSeat}
use Rattle.shared_objects.specs.declared.table.SharedTable.{SharedTable}
use Rattle.shared_objects.specs.declared.view.View.{View}
use Rattle.machine.specs.MachineState.{MachineState}
use Rattle.debugger.specs.declared.debuggee.Debuggee.{Debuggee}
use Rattle.workers.specs.Cells.{IsTableOf, opened_as}
use Rattle.workers.specs.Pools.{IsNewSeat, AreSeats, machines_of, machine_of}

-- ---- what an iterator gives

none_left : {X : Type 0} (xs : List X) → length xs ≡ 0 → xs ≡ []
none_left [] e = refl
none_left (x ∷ xs) e = absurd (omega (arith, e))

-- it gives the first of what is left, or nothing is left
pub first_left : {X : Type 0} (s t : IntoIter X Global) (P : X → List X → Type 0) (Q : Type 0) (r : Option X) → into_iter_steps s r t
    → ((x : X) (xs : List X) → into_iter_items s ≡ x ∷ xs → P x xs) → (into_iter_items s ≡ [] → Q) → IfSome r (λ x. P x (into_iter_items t)) × IfNone r Q
first_left s t P Q (Some x) h f g = (f x (into_iter_items t) h.0, tt)
first_left s t P Q None h f g = (tt, g (none_left (into_iter_items s) (sym s.rest.ok.0 ∙ h.0)))

-- ---- seats

pub seats_step : (table : TableId) (opening : List (List ℕ)) (number : ℕ) (s : ActorSeat) (ss : List ActorSeat) (all : List ActorSeat) → all ≡ s ∷ ss
    → AreSeats table opening number all
    → IsNewSeat table opening number s × AreSeats table opening (number + 1) ss × (length all ≡ length ss + 1)
seats_step table opening number s ss all e h =
    let k : AreSeats table opening number (s ∷ ss) = subst (AreSeats table opening number) e h in (k.0, k.1, ap length e ∙ omega arith)

abbrev Fresh : List (List ℕ) → Bool → ℕ → List ActorSeat → Type 0
Fresh opening returns k actors = (j : ℕ) (a : ActorSeat) → get_elem? actors j ≡ some a → a.seat.me.0 ≡ newcomer (seated (k + j) (dealer returns opening))

fresh_seats : (shared : SharedTable) (table : TableId) (opening : List (List ℕ)) (returns : Bool) (k : ℕ) (actors : List ActorSeat)
    → IsTableOf table opening shared → Fresh opening returns k actors
    → All (IsActorOf shared) actors → AreSeats table opening (k + 1) actors
fresh_seats shared table opening returns k [] t f a = tt
fresh_seats shared table opening returns k (s ∷ ss) t f a =
    let own = All-head (IsActorOf shared) s ss a in
    let none : k + 0 ≡ k = omega arith in
    let view : s.seat.me.0 ≡ newcomer (seated k (dealer returns opening)) =
    subst (λ i. s.seat.me.0 ≡ newcomer (seated i (dealer returns opening))) none (f 0 s refl) in
    let actor : s.seat.me.0.actor ≡ k + 1 = ap (λ (v : View). v.actor) view ∙ omega arith in
    let next : Fresh opening returns (k + 1) ss =
    λ j b e. subst (λ i. b.seat.me.0 ≡ newcomer (seated i (dealer returns opening))) (omega arith) (f (suc j) b e) in (
      ((own.0 ∙ t.0, own.1 ∙ t.1), actor, ap (λ (v : View). v.entries) view),
      fresh_seats shared table opening returns (k + 1) ss t next (All-tail (IsActorOf shared) s ss a),
    )

-- the seats that a table is opened with
pub opened_seats : (shared : SharedTable) (table : TableId) (opening : List (List ℕ)) (returns : Bool) (actors : List ActorSeat)
    → IsTableOf table opening shared → AreFresh (dealer returns opening) actors
    → All (IsActorOf shared) actors → AreSeats table opening 1 actors
opened_seats shared table opening returns actors t f a =
    fresh_seats shared table opening returns 0 actors t (λ j b e. let none : j ≡ 0 + j = omega arith in
    subst (λ i. b.seat.me.0 ≡ newcomer (seated i (dealer returns opening))) none (f j b e).0) a

-- ---- machines

head_at : (starts : List MachineState) (k : ℕ) (m : MachineState) (ms : List MachineState) → m ∷ ms ≡ drop k starts
    → (slice_get starts k ≡ Some m) × (ms ≡ drop (suc k) starts)
head_at [] zero m ms e = absurd (cc)
head_at [] (suc k) m ms e = absurd (cc)
head_at (s ∷ ss) zero m ms e = (cc, cc)
head_at (s ∷ ss) (suc k) m ms e = head_at ss k m ms e

none_at : (starts : List MachineState) (k : ℕ) → [] ≡ drop k starts → (slice_get starts k ≡ None) × ([] ≡ drop (suc k) starts)
none_at [] zero e = (refl, refl)
none_at [] (suc k) e = (refl, refl)
none_at (s ∷ ss) zero e = absurd (cc)
none_at (s ∷ ss) (suc k) e = none_at ss k e

-- the next machine is that of the next number
pub machines_step : (starts : List MachineState) (before : ℕ) (s t : IntoIter Debuggee Global) (r : Option Debuggee) → into_iter_steps s r t
    → machines_of (into_iter_items s) ≡ drop before starts
    → (opened_as starts (before + 1) ≡ machine_of r) × (machines_of (into_iter_items t) ≡ drop (before + 1) starts)
machines_step starts before s t (Some d) h e =
    let k = head_at starts before d.machine (machines_of (into_iter_items t)) (ap machines_of (sym h.0) ∙ e) in
    let here : before + 1 - 1 ≡ before = omega arith in let next : before + 1 ≡ suc before = omega arith in
    (ap (slice_get starts) here ∙ k.0, k.1 ∙ ap (λ i. drop i starts) (sym next))
machines_step starts before s t None h e =
    let empty = none_left (into_iter_items s) (sym s.rest.ok.0 ∙ h.0) in let after = none_left (into_iter_items t) (sym t.rest.ok.0 ∙ h.1) in
    let k = none_at starts before (ap machines_of (sym empty) ∙ e) in
    let here : before + 1 - 1 ≡ before = omega arith in let next : before + 1 ≡ suc before = omega arith in
    (ap (slice_get starts) here ∙ k.0, ap machines_of after ∙ (k.1 ∙ ap (λ i. drop i starts) (sym next)))
