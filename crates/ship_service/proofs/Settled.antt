-- What the parts of a service leave when it closes.
use Rattle.std.proofs.Common.{◌≡◌, ℕ, zero, suc, ◌<◌, Bool, List, [], ◌∷◌, ◌++◌, length, map, get_or, All, Some, refl, sym, ap, ◌∙◌, append_assoc, subst}
use Rattle.std.proofs.Common.{None, arith}
use Rattle.std.proofs.lemmas.List.{map-append}
use Rattle.std.proofs.lemmas.List.Elements.{All-nil, All-cons, All-weaker}
use Rattle.std.specs.Prelude.{Option, slice_get, slice_index_or}
use mathlib.Core.Option.{some, some-injective, some-ne-none}
use lib.ListN.{get_elem?}
use Rattle.atomic_table.specs.Seated.{TableId}
use Rattle.far_store.specs.Stores.{parcel_bytes}
use Rattle.machine.specs.MachineState.{MachineState}
use Rattle.memory.specs.Objects.{bytes_of}
use Rattle.scopes.specs.Windows.{machine_limit}
use Rattle.shared_objects.specs.Ends.{Shows, Closes}
use Rattle.shared_objects.specs.History.{Has}
use Rattle.shared_objects.specs.One.{entries_by}
use Rattle.shared_objects.specs.Parts.{part_of}
use Rattle.shared_objects.specs.Rule.{place_of}
use Rattle.shared_objects.specs.Tables.{IsActorOf}
use Rattle.shared_objects.specs.declared.closing.ObjectEnd.{ObjectEnd}
use Rattle.shared_objects.specs.declared.closing.ObjectEnd.TheVariants as shown
use Rattle.shared_objects.specs.declared.seats.ActorSeat.{ActorSeat}
use Rattle.shared_objects.specs.declared.table.SharedTable.{SharedTable}
use Rattle.shared_objects.specs.declared.view.SharedEntry.{SharedEntry}
use Rattle.shared_objects.specs.declared.view.Part.{Part}
use Rattle.shared_objects.specs.declared.view.Whereabouts.{Whereabouts}
use Rattle.shared_objects.specs.declared.view.Whereabouts.TheVariants.{Here, Moving, Far}
use Rattle.workers.specs.Cells.{IsSeatOf, IsTableOf, seat_state, RunningState, IsReplayed, FitsCell}
use Rattle.workers.specs.Closing.{WasCell, WereCells}
use Rattle.workers.specs.Moves.{MoverState, KeepsParcel, KeepsParcels}
use Rattle.workers.specs.declared.closing.ClosedCell.{ClosedCell}
use Rattle.ship_service.specs.Closing.{ClosedState, AreLengths, EndsAs, Settles, ReplaysShare, MachinesReplayTheList}
use Rattle.ship_service.specs.Closing.EndsAs.{AtHome, Away}

-- ---- seats

-- one seat more is handed back
pub mapped_more : {A B : Type 0} (f : A → B) (first xs all : List B) (ys : List A) (y : A) (x : B) → xs ≡ first ++ map f ys → all ≡ xs ++ x ∷ [] → x ≡ f y
    → all ≡ first ++ map f (ys ++ y ∷ [])
mapped_more f first xs all ys y x e a is =
    a ∙ ap (λ l. l ++ x ∷ []) e ∙ append_assoc first (map f ys) (x ∷ []) ∙ ap (λ z. first ++ (map f ys ++ z ∷ [])) is
    ∙ ap (λ l. first ++ l) (sym (map-append f ys (y ∷ [])))

-- the seats of cells are of their table
pub cell_seats : (table : TableId) (opening : List (List ℕ)) (starts : List MachineState) (ss : List ActorSeat) (cs : List ClosedCell)
    → WereCells table opening starts ss cs → All (IsSeatOf table opening) ss
cell_seats table opening starts [] [] h = All-nil (IsSeatOf table opening)
cell_seats table opening starts [] (c ∷ cs) h = absurd h
cell_seats table opening starts (s ∷ ss) [] h = absurd h
cell_seats table opening starts (s ∷ ss) (c ∷ cs) h = All-cons (IsSeatOf table opening) s ss h.0.seat_of (cell_seats table opening starts ss cs h.1)

-- and so actors of it
pub actors : (table : TableId) (opening : List (List ℕ)) (shared : SharedTable) (ss : List ActorSeat) → IsTableOf table opening shared
    → All (IsSeatOf table opening) ss → All (IsActorOf shared) ss
actors table opening shared ss t h = All-weaker (IsSeatOf table opening) (IsActorOf shared) (λ s k. (k.0 ∙ sym t.0, k.1 ∙ sym t.1)) ss h

-- ---- objects

-- there is an element in that place
there : {A : Type 0} (xs : List A) (n : ℕ) → n < length xs → (x : A) × (get_elem? xs n ≡ some x) × (slice_get xs n ≡ Some x)
there [] n lt = absurd (omega arith)
there (x ∷ xs) zero lt = (x, refl, refl)
there (x ∷ xs) (suc n) lt = there xs n (omega arith)

-- how an object closes, by its parcel and what is shown of it
ends_as : (opening bytes : List ℕ) (p : Whereabouts) (e : ObjectEnd) (parcel : Option (List ℕ)) → KeepsParcel opening p parcel
    → Shows p bytes e → EndsAs p bytes e parcel
ends_as opening bytes Here (shown.Here found) parcel k s = AtHome refl found refl s k
ends_as opening bytes Here shown.Out parcel k s = absurd s
ends_as opening bytes (Moving was) e parcel k s = absurd k
ends_as opening bytes (Far was) (shown.Here found) parcel k s = absurd s
ends_as opening bytes (Far was) shown.Out parcel k s = Away (ap (λ (b : List ℕ). Far b) s) refl (k.0 ∙ ap (λ (b : List ℕ). Some b) s)

-- the parcel that is kept stands for its bytes
pub stands : {P : Type 0} (bytes_in : P → List ℕ) (ps : List (Option P)) (n : ℕ) (d : Option P) (p : P) → n < length ps → d ≡ get_or ps n d → d ≡ Some p
    → slice_index_or (map (parcel_bytes bytes_in) ps) n None ≡ Some (bytes_in p)
stands bytes_in [] n d p lt e f = absurd (omega arith)
stands bytes_in (q ∷ ps) zero d p lt e f = ap (parcel_bytes bytes_in) (sym e ∙ f)
stands bytes_in (q ∷ ps) (suc n) d p lt e f = stands bytes_in ps n d p (omega arith) e f

-- ---- all of it

pub settles : {X : Type 0} (returns : Bool) (table : TableId) (opening : List (List ℕ)) (starts : List MachineState) (mover : MoverState X)
    (seats connections : List ActorSeat) (c : ClosedState X)
    → length seats ≡ machine_limit → WereCells table opening starts seats c.cells
    → Closes returns opening mover.view (map part_of (seats ++ connections)) c.objects → KeepsParcels mover.view c.parcels → mover.view.opening ≡ opening
    → AreLengths opening c.lengths → c.store ≡ mover.store
    → Settles returns table opening starts mover connections c
settles returns table opening starts mover seats connections c all cells closes keeps known lengths store = record {
  seats = seats;
  all = all;
  machines = cells;
  ends = closes.ends;
  numbers = record { ends_are = closes.long.1; lengths_are = lengths.0; objects_are = closes.long.0; parcels_are = keeps.0 ∙ ap length known };
  objects = λ n lt. let e = there c.objects n (omega (arith, lt, closes.long.0)) in record {
    long = closes.lengths n lt;
    length_is = lengths.1 n lt;
    shown = e.0;
    shown_is = e.2;
    ends_as = ends_as (bytes_of mover.view.opening n) (bytes_of closes.ends n) (place_of mover.view n) e.0 (slice_index_or c.parcels n None)
        (keeps.1 n) (closes.shows n e.0 e.1);
  };
  list = closes.list;
  store = store;
}

-- ---- machines

-- a cell that is left was apart from the seat in its place
seat_at : (table : TableId) (opening : List (List ℕ)) (starts : List MachineState) (ss : List ActorSeat) (cs : List ClosedCell) (k : ℕ) (c : ClosedCell)
    → WereCells table opening starts ss cs → get_elem? cs k ≡ some c
    → (s : ActorSeat) × (get_elem? ss k ≡ some s) × WasCell table opening starts s c
seat_at table opening starts [] [] k c h e = absurd (some-ne-none c (sym e))
seat_at table opening starts [] (d ∷ cs) k c h e = absurd h
seat_at table opening starts (s ∷ ss) [] k c h e = absurd h
seat_at table opening starts (s ∷ ss) (d ∷ cs) zero c h e = (s, refl, subst (WasCell table opening starts s) (some-injective d c e) h.0)
seat_at table opening starts (s ∷ ss) (d ∷ cs) (suc k) c h e = seat_at table opening starts ss cs k c h.1 e

-- its part is one of all
part_there : (ss others : List ActorSeat) (k : ℕ) (s : ActorSeat) → get_elem? ss k ≡ some s → get_elem? (map part_of (ss ++ others)) k ≡ some (part_of s)
part_there [] others k s e = absurd (some-ne-none s (sym e))
part_there (x ∷ ss) others zero s e = ap (λ y. some (part_of y)) (some-injective x s e)
part_there (x ∷ ss) others (suc k) s e = part_there ss others k s e

share : (opening : List (List ℕ)) (starts : List MachineState) (parts : List Part) (one : List SharedEntry) (number : ℕ) (s : ActorSeat)
    (running : Option RunningState) (r : RunningState) → Has parts (part_of s) → s.seat.me.0.actor ≡ number
    → entries_by number one ≡ s.seat.me.0.entries → running ≡ Some r → FitsCell opening starts number (seat_state s) running
    → ReplaysShare opening starts parts one number r
share opening starts parts one number s running r there actor own e fits =
    let k : IsReplayed opening starts number (seat_state s) r = subst (FitsCell opening starts number (seat_state s)) e fits in record {
      share = part_of s;
      there = there;
      actor = actor;
      entries = own;
      start = k.start;
      started = k.started;
      replay = k.replay;
    }

pub machines_replay : (X : Type 0) (returns : Bool) (table : TableId) (opening : List (List ℕ)) (starts : List MachineState)
    → MachinesReplayTheList X returns table opening starts
machines_replay X returns table opening starts mover connections closed s c r has e =
    let a = seat_at table opening starts s.seats closed.cells has.0 c s.machines has.1 in let seat = a.0 in
    let there : Has (map part_of (s.seats ++ connections)) (part_of seat) = (has.0, part_there s.seats connections has.0 seat a.1) in
    share opening starts (map part_of (s.seats ++ connections)) s.list.one c.number seat c.running r there a.2.actor_is
    (ap (λ n. entries_by n s.list.one) (sym a.2.actor_is) ∙ s.list.own (part_of seat) there) e a.2.fits
