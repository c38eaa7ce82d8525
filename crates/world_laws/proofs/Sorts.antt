-- What an answer does: each is of one of six sorts. This file alone goes through the commands; the laws of runs go through
-- the sorts.
use Rattle.std.proofs.Common.{◌≡◌, ℕ, Bool, true, false, cond, List, [], ◌∷◌, ◌++◌, Some, None, inl, inr, refl, sym, ap, ◌∙◌, subst, arith}
use Rattle.memory.specs.Objects.{bytes_of}
use Rattle.memory.specs.Access.{replaced}
use Rattle.memory.proofs.Lengths.{length-replaced}
use Rattle.placement.specs.declared.places.Moved.{Moved}
use Rattle.placement.specs.declared.places.Moved.TheVariants as moved
use Rattle.object_store.specs.Stores.{StoreState, store_memory}
use Rattle.object_store.specs.Calls.{Frees}
use Rattle.machine.specs.declared.state.Stop.{Stop}
use Rattle.debugger.specs.DebugState.{DebugState, has_break, has_watch, watch_at}
use Rattle.debugger.specs.Changes.{change_of}
use Rattle.debugger.specs.Pausing.{with_pause}
use Rattle.debugger.specs.Debuggees.{DebugsMachine, debuggee_start, holds_back}
use Rattle.debugger.specs.declared.start.Start.{Start}
use Rattle.debugger.specs.declared.commands.Way.{Way}
use Rattle.debugger.specs.declared.commands.Way.TheVariants as way
use Rattle.debugger.specs.declared.commands.MachineCommand.{MachineCommand}
use Rattle.debugger.specs.declared.commands.MachineCommand.TheVariants.{Step, Show, Debug}
use Rattle.debugger.specs.declared.commands.DebugCommand.{DebugCommand}
use Rattle.debugger.specs.declared.commands.DebugCommand.TheVariants as debug
use Rattle.debugger.specs.declared.replies.Debugged.{Debugged}
use Rattle.debugger.specs.declared.replies.Debugged.TheVariants as debugged
use Rattle.debugger.specs.declared.debuggee.Debuggee.{Debuggee}
use Rattle.world.specs.declared.replies.Reply.{Reply}
use Rattle.world.specs.declared.replies.Reply.TheVariants as reply
use Rattle.world.specs.declared.events.Event.{Event}
use Rattle.world.specs.declared.events.Event.TheVariants.{Make, Ship, Object, Machine}
use Rattle.world.specs.declared.events.ObjectCommand.{ObjectCommand}
use Rattle.world.specs.declared.events.ObjectCommand.TheVariants.{Free, Put, Get, Move as Moving}
use Rattle.world.specs.declared.world.moving.Move.{Move as MoveKind}
use Rattle.world.specs.WorldState.{WorldState, machine_at, with_machine}
use Rattle.world.specs.Machines.{AnswersMachine, Misses, Finds}
use Rattle.world.specs.Answers.{Answers, AnswersMove}
use Rattle.world.specs.Moves.{Moves as MovesSo}
use Rattle.world_laws.specs.Replies.{is_refusal, shipped_codes, code_of}
use Rattle.world.proofs.Numbered.{with_same}
use Rattle.world_laws.proofs.Answered.{Steps, Halts, StepAnswer, NoMachine, Pause, TableRow, parted}
use Rattle.world_laws.proofs.StoreCalls.{StoreCall, Grown, Filled, Placed, Move, Refused, Moves, is_placing}
use Rattle.world_laws.proofs.EachMove.{store_move}

-- ---- what laws of runs read off a command and its reply

pub record Marks : Type 0 where
  pub refused : Bool
  pub codes : List (List ℕ)

abbrev pub marks_of : Event → Reply → Marks
marks_of c r = record { refused = is_refusal r; codes = shipped_codes (c ∷ []) (r ∷ []) }

abbrev pub plain_marks : Bool → Marks
plain_marks b = record { refused = b; codes = [] }

abbrev pub ship_marks : List ℕ → Marks
ship_marks code = record { refused = false; codes = code ∷ [] }

-- what doesn't fit together
pub off : {P : Type 0} (b : Bool) → b ≡ false → b ≡ true → P
off b f t = absurd (cc)

-- ---- the sorts

-- The debug state of machine m changes. A machine that is stopped isn't paused by it.
pub record Sets (old : List Debuggee) (m : ℕ) (new : List Debuggee) : Type 0 where
  pub debuggee : Debuggee
  pub found : machine_at old m ≡ Some debuggee
  pub debugger : DebugState
  pub calm : (s : Stop) → debuggee.machine.stop ≡ Some s → debuggee.debugger.paused ≡ false → debugger.paused ≡ false
  pub changed : new ≡ with_machine old m (record debuggee { debugger = debugger })

pub data Sort (old : WorldState) (c : Event) (r : Reply) (new : WorldState) : Type 0 where
  -- nothing changes: something is shown, or the command is refused
  Stays : is_placing r ≡ false → shipped_codes (c ∷ []) (r ∷ []) ≡ [] → new ≡ old → Sort old c r new
  -- an object is made, written, freed or moved
  Stores : marks_of c r ≡ plain_marks false → StoreCall old.store r new.store → new ≡ record old { store = new.store } → Sort old c r new
  -- a machine is added
  Ships : (d : Debuggee) → marks_of c r ≡ ship_marks (code_of d) → is_placing r ≡ false → d.machine.stop ≡ None → new.machines ≡ old.machines ++ d ∷ []
      → new ≡ record old { machines = new.machines } → Sort old c r new
  -- a debugging command changes a debug state
  Tunes : (m : ℕ) → marks_of c r ≡ plain_marks false → is_placing r ≡ false → Sets old.machines m new.machines
      → new ≡ record old { machines = new.machines } → Sort old c r new
  -- a machine is paused in place of a step
  Pauses : (m : ℕ) → marks_of c r ≡ plain_marks false → is_placing r ≡ false → Sets old.machines m new.machines
      → new ≡ record old { machines = new.machines } → Sort old c r new
  -- a machine makes a step
  Walks : (m : ℕ) (way : Way) → marks_of c r ≡ plain_marks false → is_placing r ≡ false
      → Steps (store_memory m) way old.machines old.store m r new.machines new.store → Sort old c r new

-- ---- parts of a state

abbrev world : List Debuggee → StoreState → WorldState
world ms s = record { machines = ms; store = s }

in_store : (old new : WorldState) → new.store ≡ old.store → new ≡ record old { store = new.store } → new ≡ old
in_store old new e h = h ∙ ap (λ s. world old.machines s) e

pub both : (old new : WorldState) → new.machines ≡ old.machines → new.store ≡ old.store → new ≡ old
both old new e f = ap (λ ms. world ms new.store) e ∙ ap (λ s. world old.machines s) f

-- ---- objects

made : (old new : WorldState) (size : ℕ) (r : Reply) → Answers old (Make size) r new → Sort old (Make size) r new
made old new size (reply.Made n) h = Stores refl (Grown size h.0.1 (ap reply.Made h.0.2) h.0.3) h.1
made old new size reply.Full h = Stays refl refl (in_store old new h.0.1 h.1)
made old new size reply.NoRoom h = Stays refl refl (in_store old new h.0.2 h.1)
made old new size reply.NoMemory h = Stays refl refl (in_store old new h.0.2 h.1)
made old new size _ h = absurd h

put : (old new : WorldState) (n offset : ℕ) (bytes : List ℕ) (r : Reply) → Answers old (Object n (Put offset bytes)) r new
    → Sort old (Object n (Put offset bytes)) r new
put old new n offset bytes reply.Done h =
    let l = length-replaced offset bytes (bytes_of old.store.objects n) h.0.0.1 in
    Stores refl (Filled n (replaced offset bytes (bytes_of old.store.objects n)) old.store.faults refl h.0.0.0 (omega arith) h.0.2) h.1
put old new n offset bytes reply.Outside h = Stays refl refl (in_store old new h.0.1 h.1)
put old new n offset bytes (reply.Away k) h = Stays refl refl (in_store old new h.1.0.2 h.1.1)
put old new n offset bytes _ h = absurd h

get : (old new : WorldState) (n offset size : ℕ) (r : Reply) → Answers old (Object n (Get offset size)) r new → Sort old (Object n (Get offset size)) r new
get old new n offset size (reply.Bytes shown) h = Stays refl refl h.1
get old new n offset size reply.Outside h = Stays refl refl h.1
get old new n offset size (reply.Away k) h = Stays refl refl h.1
get old new n offset size reply.NoMemory h = Stays refl refl h.1
get old new n offset size _ h = absurd h.0

freed : (old new : WorldState) (n : ℕ) (m : Moved) → Frees old.store n m new.store → new ≡ record old { store = new.store }
    → Sort old (Object n Free) (reply.Freed n m) new
freed old new n moved.Done h e = Stores refl (Filled n [] new.store.faults refl h.0.0 (omega arith) h.3) e
freed old new n moved.Scoped h e = Stays refl refl (in_store old new h.2 e)
freed old new n moved.NoObject h e = Stays refl refl (in_store old new h.1 e)
freed old new n (moved.Misplaced p) h e = Stays refl refl (in_store old new h.2 e)
freed old new n _ h e = absurd h

-- a move of object n, or its end
pub record MoveAnswer (old : WorldState) (n : ℕ) (r : Reply) (new : WorldState) : Type 0 where
  pub move : Move old.store n r new.store
  pub changed : new ≡ record old { store = new.store }

by_move : (moves : StoreState → ℕ → Moved → StoreState → Type 0) (reply_with : Moved → Reply) (old new : WorldState) (n : ℕ) (r : Reply)
    → ((m : Moved) → moves old.store n m new.store → Move old.store n (reply_with m) new.store)
    → AnswersMove moves reply_with old n r new → MoveAnswer old n r new
by_move moves reply_with old new n r f h = record {
  move = subst (λ (x : Reply). Move old.store n x new.store) (sym h.replied) (f h.moved h.move);
  changed = h.changed;
}

pub as_move : (old new : WorldState) (n : ℕ) (k : MoveKind) (r : Reply) → Answers old (Object n (Moving k)) r new → MoveAnswer old n r new
as_move old new n k r h = by_move (MovesSo k) (reply.Moved n k) old new n r (λ m g. store_move k old.store new.store n m g) h

moved_sort : (old new : WorldState) (c : Event) (n : ℕ) (r : Reply) → marks_of c r ≡ plain_marks (is_refusal r) → new ≡ record old { store = new.store }
    → Move old.store n r new.store → Sort old c r new
moved_sort old new c n r k h (Refused q e) = Stays q (ap (λ (m : Marks). m.codes) k) (in_store old new e h)
moved_sort old new c n r k h (Moves a b faults m e) = Stores (k ∙ ap plain_marks m.done) (Placed n a b faults m e) h

moves : (old new : WorldState) (n : ℕ) (k : MoveKind) (r : Reply) → Answers old (Object n (Moving k)) r new → Sort old (Object n (Moving k)) r new
moves old new n k r h = let a = as_move old new n k r h in moved_sort old new (Object n (Moving k)) n r refl a.changed a.move

objects : (old new : WorldState) (n : ℕ) (c : ObjectCommand) (r : Reply) → Answers old (Object n c) r new → Sort old (Object n c) r new
objects old new n Free r h = subst (λ (x : Reply). Sort old (Object n Free) x new) (sym h.replied) (freed old new n h.moved h.move h.changed)
objects old new n (Put offset bytes) r h = put old new n offset bytes r h
objects old new n (Get offset size) r h = get old new n offset size r h
objects old new n (Moving k) r h = moves old new n k r h

-- ---- shipping

with_machines : (old new : WorldState) → new.store ≡ old.store → new ≡ record old { machines = new.machines }
with_machines old new e = ap (λ s. world new.machines s) e

ships : (old new : WorldState) (start : Start) (code : List ℕ) (r : Reply) → Answers old (Ship start code) r new → Sort old (Ship start code) r new
ships old new start code reply.Full h = Stays refl refl (both old new h.0.1 h.1)
ships old new start code (reply.Refused e) h = Stays refl refl (both old new h.0.3 h.1)
ships old new start code reply.NoMemory h = Stays refl refl (both old new h.0.2 h.1)
ships old new start code (reply.Shipped m) h = Ships (debuggee_start m code start) refl refl refl h.0.3 (with_machines old new h.1)
ships old new start code _ h = absurd h.0

-- ---- steps

unheld : {P : Type 0} (w : Way) (d : Debuggee) (s : Stop) → holds_back w d ≡ true → d.machine.stop ≡ Some s → P
unheld way.Step d s h e = let g = rw e at h in absurd (cc)
unheld way.One d s h e = absurd (cc)

misses : (old new : WorldState) (m : ℕ) (c : MachineCommand) (r : Reply) → Misses old.machines old.store m r new.machines new.store
    → Sort old (Machine m c) r new
misses old new m c r h = Stays (ap is_placing h.replied) refl (both old new h.unchanged h.same)

halts : (w : Way) (old new : WorldState) (m : ℕ) (c : MachineCommand) (r : Reply) → Halts w old.machines old.store m r new.machines new.store
    → Sort old (Machine m c) r new
halts w old new m c r h =
    Pauses m (ap (λ (x : Reply). plain_marks (is_refusal x)) h.replied) (ap is_placing h.replied) (record {
      debuggee = h.debuggee;
      found = h.found;
      debugger = with_pause h.slot h.debuggee.debugger;
      calm = λ s e u. unheld w h.debuggee s h.held e;
      changed = h.changed;
    }) (with_machines old new h.same)

walks : (w : Way) (old new : WorldState) (m : ℕ) (c : MachineCommand) (r : Reply)
    → Steps (store_memory m) w old.machines old.store m r new.machines new.store → Sort old (Machine m c) r new
walks w old new m c r h =
    Walks m w (ap (λ (x : Reply). plain_marks (is_refusal x)) h.replied) (ap is_placing h.replied) h

steps : (w : Way) (old new : WorldState) (m : ℕ) (c : MachineCommand) (r : Reply)
    → StepAnswer (store_memory m) w old.machines old.store m r new.machines new.store → Sort old (Machine m c) r new
steps w old new m c r (NoMachine h) = misses old new m c r h
steps w old new m c r (Pause h) = halts w old new m c r h
steps w old new m c r (TableRow h) = walks w old new m c r h

-- ---- showing

-- a machine that is as it was
pub as_it_was : (old : List Debuggee) (m : ℕ) (d e : Debuggee) (new : List Debuggee) → machine_at old m ≡ Some d
    → new ≡ with_machine old m e → e ≡ d → new ≡ old
as_it_was old m d e new f c s = c ∙ ap (λ (x : Debuggee). with_machine old m x) s ∙ with_same old m d f

-- ---- debugging

either : (b : Bool) (d e : DebugState) → d.paused ≡ false → e.paused ≡ false → (cond b d e).paused ≡ false
either true d e g h = g
either false d e g h = h

-- what is done leaves a machine unpaused that was so
unpaused : (c : DebugCommand) (d : DebugState) → d.paused ≡ false → (change_of c d).paused ≡ false
unpaused (debug.Break slot) d u = either (has_break slot d) d (record d { breakpoints = d.breakpoints ++ slot ∷ [] }) u u
unpaused (debug.Watch address size) d u = either (has_watch (watch_at address size) d) d (record d { watches = d.watches ++ watch_at address size ∷ [] }) u u
unpaused (debug.Unbreak slot) d u = u
unpaused (debug.Unwatch address size) d u = u
unpaused _ d u = refl

debugs : (old new : WorldState) (m : ℕ) (c : DebugCommand) (r : Reply) (d e : Debuggee) (replied : Debugged) → machine_at old.machines m ≡ Some d
    → new.machines ≡ with_machine old.machines m e
    → r ≡ reply.Debugged replied → DebugsMachine c d replied e → new.store ≡ old.store → Sort old (Machine m (Debug c)) r new
debugs old new m c r d e debugged.Done f s t h k =
    Tunes m (ap (λ (x : Reply). plain_marks (is_refusal x)) t) (ap is_placing t) (record {
      debuggee = d;
      found = f;
      debugger = e.debugger;
      calm = λ stop g u. ap (λ (x : DebugState). x.paused) h.0.1 ∙ unpaused c d.debugger u;
      changed = s ∙ ap (λ (x : Debuggee). with_machine old.machines m x) h.1;
    }) (with_machines old new k)
debugs old new m c r d e replied f s t h k =
    let same : e ≡ d = h.1 ∙ ap (λ (x : DebugState). record d { debugger = x }) h.0.1 in
    Stays (ap is_placing t) refl (both old new (as_it_was old.machines m d e new.machines f s same) k)

-- ---- all commands

machines : (old new : WorldState) (m : ℕ) (c : MachineCommand) (r : Reply) → Finds (store_memory m) old.machines old.store m c r new.machines new.store
    → Sort old (Machine m c) r new
machines old new m (Step w) r h = steps w old new m (Step w) r (parted (store_memory m) w old.machines old.store m r new.machines new.store (inr h))
machines old new m (Show c) r h = Stays (ap is_placing h.answers.1) refl
    (both old new (as_it_was old.machines m h.debuggee h.became new.machines h.found h.changed h.answers.3) h.answers.4)
machines old new m (Debug c) r h = debugs old new m c r h.debuggee h.became h.answers.0 h.found h.changed h.answers.1 h.answers.2 h.answers.3

by_number : (old new : WorldState) (m : ℕ) (c : MachineCommand) (r : Reply)
    → AnswersMachine (store_memory m) old.machines old.store m c r new.machines new.store → Sort old (Machine m c) r new
by_number old new m c r (inl h) = misses old new m c r h
by_number old new m c r (inr h) = machines old new m c r h

pub sort_of : (old new : WorldState) (c : Event) (r : Reply) → Answers old c r new → Sort old c r new
sort_of old new (Make size) r h = made old new size r h
sort_of old new (Ship start code) r h = ships old new start code r h
sort_of old new (Object n c) r h = objects old new n c r h
sort_of old new (Machine m c) r h = by_number old new m c r h
