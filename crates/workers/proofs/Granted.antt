-- What a machine did under its lock was granted to it.
use Rattle.std.proofs.Common.{◌≡◌, ℕ, zero, suc, Bool, List, [], ◌∷◌, All, map, sym, subst}
use Rattle.std.proofs.lemmas.List.Elements.{All-head, All-tail}
use mathlib.Core.Option.{some-injective, some-ne-none}
use Rattle.memory.specs.declared.deeds.Entry.{Entry}
use Rattle.shared_objects.specs.History.{Has}
use Rattle.shared_objects.specs.SeatMemories.{own_entry}
use Rattle.shared_objects.specs.declared.view.SharedEntry.{SharedEntry}
use Rattle.machine.specs.Granted.{WasGranted}
use Rattle.machine.specs.Grants.{GrantState}
use Rattle.machine.specs.MachineState.{MachineState}
use Rattle.machine.specs.Replay.{IsReplay}
use Rattle.machine.proofs.Granted.{entries_are_granted}
use Rattle.workers.specs.Cells.{SeatState, RunningState, lengths_of, IsReplayed}

own_has : (P : Entry → Type 0) (es : List SharedEntry) (e : SharedEntry) → All P (map own_entry es) → Has es e → P (own_entry e)
own_has P [] e h at = absurd (some-ne-none e (sym at.1))
own_has P (x ∷ xs) e h (zero, is) =
    subst (λ (y : SharedEntry). P (own_entry y)) (some-injective x e is) (All-head P (own_entry x) (map own_entry xs) h)
own_has P (x ∷ xs) e h (suc k, is) = own_has P xs e (All-tail P (own_entry x) (map own_entry xs) h) (k, is)

-- the entries of a seat of which the machine is the replay
pub share_granted : (lengths : ℕ → ℕ) (worn : ℕ → Bool) (start : MachineState) (es : List SharedEntry) (m : MachineState)
    → IsReplay lengths worn start (map own_entry es) m → (e : SharedEntry) → Has es e → WasGranted lengths m.grants (own_entry e)
share_granted lengths worn start es m r e at =
    let h = entries_are_granted lengths worn start (map own_entry es) m r in
    subst (λ (g : GrantState). WasGranted lengths g (own_entry e)) (sym h.0) (own_has (WasGranted lengths start.grants) es e h.1 at)

pub replayed_granted : (opening : List (List ℕ)) (starts : List MachineState) (number : ℕ) (seat : SeatState) (r : RunningState)
    → IsReplayed opening starts number seat r → (e : SharedEntry) → Has seat.view.entries e
    → WasGranted (lengths_of opening) r.debuggee.machine.grants (own_entry e)
replayed_granted opening starts number seat r h e at = share_granted (lengths_of opening) _ h.start seat.view.entries r.debuggee.machine h.replay e at
