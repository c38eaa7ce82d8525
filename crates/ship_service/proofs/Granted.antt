-- Machines do to objects only what they were granted, and an object that nobody wrote keeps its bytes.
use Rattle.std.proofs.Common.{◌≡◌, ℕ, zero, suc, nat_eq, Bool, true, false, List, [], ◌∷◌, ◌++◌, map, set, Option, Some, None, refl, sym, ap, ◌∙◌, subst, arith}
use Rattle.std.proofs.Common.{⊎_elim}
use Rattle.std.proofs.lemmas.Bool.Decides.{nat_tests}
use Rattle.atomic_table.specs.Seated.{TableId}
use Rattle.memory.specs.declared.access.Action.{Action}
use Rattle.memory.specs.declared.access.Action.TheVariants as action
use Rattle.memory.specs.declared.deeds.Deed.{Deed}
use Rattle.memory.specs.declared.deeds.Deed.TheVariants.{Accesses, Reads, Writes}
use Rattle.memory.specs.Access.{after}
use Rattle.memory.specs.Deeds.{left_by}
use Rattle.memory.specs.Objects.{bytes_of}
use Rattle.shared_objects.specs.History.{Has}
use Rattle.shared_objects.specs.One.{Runs, objects_after}
use Rattle.shared_objects.specs.Parts.{part_of}
use Rattle.shared_objects.specs.SeatMemories.{own_entry}
use Rattle.shared_objects.specs.declared.seats.ActorSeat.{ActorSeat}
use Rattle.shared_objects.specs.declared.view.Part.{Part}
use Rattle.shared_objects.specs.declared.view.SharedEntry.{SharedEntry}
use Rattle.shared_objects.proofs.One.{empty, has_cons, first, later}
use Rattle.shared_objects.proofs.Sorting.{has_either}
use Rattle.machine.specs.Granted.{WasGranted, may_write}
use Rattle.machine.specs.Grants.{GrantState, is_granted, is_writing}
use Rattle.machine.specs.MachineState.{MachineState}
use Rattle.workers.specs.Cells.{RunningState, lengths_of, FitsCell, seat_state}
use Rattle.workers.specs.Closing.{WereCells}
use Rattle.workers.specs.declared.closing.ClosedCell.{ClosedCell}
use Rattle.workers.proofs.Granted.{share_granted, replayed_granted}
use Rattle.ship_service.specs.Granted.{SeenMachinesAreGranted, SharesAreGranted, UnwrittenObjectsStay}

pub seen_granted : (opening : List (List ℕ)) (starts : List MachineState) → SeenMachinesAreGranted opening starts
seen_granted opening starts number stamp seat r h e at = replayed_granted opening starts number seat r h.replayed e at

pub shares_granted : (opening : List (List ℕ)) (starts : List MachineState) → SharesAreGranted opening starts
shares_granted opening starts parts one number r h e at =
    share_granted (lengths_of opening) _ h.start h.share.entries r.debuggee.machine h.replay e (subst (λ (l : List SharedEntry). Has l e) h.entries at)

-- ---- one entry

loads_keep : (a : Action) (offset : ℕ) (bytes : List ℕ) → is_writing a ≡ false → after (record { offset = offset; action = a }) bytes ≡ bytes
loads_keep (action.Load size) offset bytes e = refl
loads_keep (action.Store size value) offset bytes e = absurd (cc)
loads_keep (action.Atomic width op src r0) offset bytes e = absurd (cc)

reads_keep : (d : Deed) (bytes : List ℕ) → may_write d ≡ false → left_by d bytes ≡ bytes
reads_keep (Accesses op) bytes e = loads_keep op.action op.offset bytes e
reads_keep (Reads offset count) bytes e = refl
reads_keep (Writes offset new) bytes e = absurd (cc)

set_same : (os : List (List ℕ)) (n : ℕ) → bytes_of (set os n (bytes_of os n)) n ≡ bytes_of os n
set_same [] n = refl
set_same (o ∷ os) zero = refl
set_same (o ∷ os) (suc n) = set_same os n

set_other : (os : List (List ℕ)) (n k : ℕ) (x : List ℕ) → (k ≡ n → ⊥) → bytes_of (set os k x) n ≡ bytes_of os n
set_other [] n k x h = refl
set_other (o ∷ os) zero zero x h = absurd (h refl)
set_other (o ∷ os) zero (suc k) x h = refl
set_other (o ∷ os) (suc n) zero x h = refl
set_other (o ∷ os) (suc n) (suc k) x h = set_other os n k x (λ e. h (ap suc e))

entry_keeps : (os : List (List ℕ)) (e : SharedEntry) (n : ℕ) → (e.object ≡ n → may_write e.deed ≡ false)
    → bytes_of (objects_after os e) n ≡ bytes_of os n
entry_keeps os e n quiet = elim (nat_eq e.object n) as (λ b. nat_eq e.object n ≡ b → bytes_of (objects_after os e) n ≡ bytes_of os n) [
  | true ↦ λ q. let same : e.object ≡ n = grind (arith, nat_tests) in
      subst (λ k. bytes_of (set os k (left_by e.deed (bytes_of os k))) n ≡ bytes_of os n) (sym same)
      (ap (λ (x : List ℕ). bytes_of (set os n x) n) (reads_keep e.deed (bytes_of os n) (quiet same)) ∙ set_same os n)
  | false ↦ λ q. set_other os n e.object (left_by e.deed (bytes_of os e.object)) (grind (arith, nat_tests))
] refl

run_keeps : (os : List (List ℕ)) (es : List SharedEntry) (ends : List (List ℕ)) (n : ℕ)
    → ((e : SharedEntry) → Has es e → e.object ≡ n → may_write e.deed ≡ false) → Runs os es ends → bytes_of ends n ≡ bytes_of os n
run_keeps os [] ends n quiet h = ap (λ (x : List (List ℕ)). bytes_of x n) (sym h)
run_keeps os (e ∷ es) ends n quiet h =
    run_keeps (objects_after os e) es ends n (λ f at. quiet f (later e f es at)) h.1 ∙ entry_keeps os e n (quiet e (first e es))

-- ---- the parts of a closed table

not_granted : (g : GrantState) (w : Bool) (n : ℕ) → is_granted g w n ≡ true → is_granted g true n ≡ false → w ≡ false
not_granted g true n e f = let k : true ≡ false = sym e ∙ f in absurd (cc)
not_granted g false n e f = refl

-- an entry that was granted doesn't write what may not be written
granted_quiet : (lengths : ℕ → ℕ) (g : GrantState) (e : SharedEntry) (n : ℕ) → WasGranted lengths g (own_entry e) → is_granted g true n ≡ false → e.object ≡ n
    → may_write e.deed ≡ false
granted_quiet lengths g e n w free at =
    ap may_write w.deed_is ∙ not_granted g (is_writing w.op.action) n (subst (λ k. is_granted g (is_writing w.op.action) k ≡ true) at w.granted) free

cell_quiet : (opening : List (List ℕ)) (starts : List MachineState) (number n : ℕ) (s : ActorSeat) (running : Option RunningState)
    → FitsCell opening starts number (seat_state s) running
    → ((r : RunningState) → running ≡ Some r → is_granted r.debuggee.machine.grants true n ≡ false)
    → (e : SharedEntry) → Has s.seat.me.0.entries e → e.object ≡ n → may_write e.deed ≡ false
cell_quiet opening starts number n s None fits free e at is = absurd (empty e (subst (λ (l : List SharedEntry). Has l e) fits.1 at))
cell_quiet opening starts number n s (Some r) fits free e at is =
    granted_quiet (lengths_of opening) r.debuggee.machine.grants e n (replayed_granted opening starts number (seat_state s) r fits e at) (free r refl) is

cells_quiet : (table : TableId) (opening : List (List ℕ)) (starts : List MachineState) (n : ℕ) (ss : List ActorSeat) (cs : List ClosedCell)
    → WereCells table opening starts ss cs
    → ((c : ClosedCell) (r : RunningState) → Has cs c → c.running ≡ Some r → is_granted r.debuggee.machine.grants true n ≡ false)
    → (s : ActorSeat) (e : SharedEntry) → Has ss s → Has s.seat.me.0.entries e → e.object ≡ n → may_write e.deed ≡ false
cells_quiet table opening starts n [] cs h free s e there at is = absurd (empty s there)
cells_quiet table opening starts n (x ∷ ss) [] h free s e there at is = absurd h
cells_quiet table opening starts n (x ∷ ss) (c ∷ cs) h free s e there at is = ⊎_elim
    (λ (q : x ≡ s). cell_quiet opening starts c.number n x c.running h.0.fits (λ r k. free c r (first c cs) k) e
    (subst (λ (y : ActorSeat). Has y.seat.me.0.entries e) (sym q) at) is)
    (λ (q : Has ss s). cells_quiet table opening starts n ss cs h.1 (λ d r k. free d r (later c d cs k)) s e q at is) (has_cons x s ss there)

-- a part is that of a seat
seat_of : (ss : List ActorSeat) (p : Part) → Has (map part_of ss) p → (s : ActorSeat) × Has ss s × (p ≡ part_of s)
seat_of [] p h = absurd (empty p h)
seat_of (x ∷ ss) p h = ⊎_elim
    (λ (q : part_of x ≡ p). (x, first x ss, sym q))
    (λ (q : Has (map part_of ss) p). let r = seat_of ss p q in (r.0, later x r.0 ss r.1, r.2)) (has_cons (part_of x) p (map part_of ss) h)

pub unwritten_stay : (X : Type 0) (returns : Bool) (table : TableId) (opening : List (List ℕ)) (starts : List MachineState)
    → UnwrittenObjectsStay X returns table opening starts
unwritten_stay X returns table opening starts mover connections state s gives n u =
    run_keeps opening s.list.one s.ends n (λ e at is.
    let p = s.list.only e at in
    let seat = seat_of (s.seats ++ connections) p.0 p.1 in
    let has = subst (λ (x : Part). Has x.entries e) seat.2 p.2 in
    ⊎_elim (λ (q : Has s.seats seat.0). cells_quiet table opening starts n s.seats state.cells s.machines u.machines seat.0 e q has is)
    (λ (q : Has connections seat.0). u.puts seat.0 e q has is) (has_either s.seats connections seat.0 seat.1)) (s.list.runs gives)
