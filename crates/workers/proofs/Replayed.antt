-- A machine stays the replay of its seat's entries, and keeps what it started as.
use Rattle.std.proofs.Common.{◌≡◌, ℕ, zero, suc, nat_eq, Bool, true, false, ◌||◌, List, [], ◌∷◌, length, map, Option, Some, None, refl, sym, ap, ◌∙◌, subst}
use Rattle.std.proofs.Common.{arith, inl, inr, ◌⊎◌}
use Rattle.std.proofs.lemmas.Bool.Decides.{nat_tests}
use mathlib.Core.Option.{some, some-injective, some-ne-none}
use Rattle.memory.specs.declared.access.Op.{Op}
use Rattle.memory.specs.declared.access.Reach.{Reach}
use Rattle.memory.specs.declared.access.Reach.TheVariants as reach
use Rattle.memory.specs.declared.deeds.Entry.{Entry}
use Rattle.memory.specs.Objects.{bytes_of}
use Rattle.shared_objects.specs.History.{Has}
use Rattle.shared_objects.specs.SeatMemories.{own_entry}
use Rattle.shared_objects.specs.Promised.{seat_promises}
use Rattle.shared_objects.specs.Touches.{Touches}
use Rattle.shared_objects.specs.declared.view.Mark.{Mark}
use Rattle.shared_objects.specs.declared.view.Mark.TheVariants.{Away, Busy, Worn}
use Rattle.shared_objects.specs.declared.view.SharedEntry.{SharedEntry}
use Rattle.shared_objects.specs.declared.view.View.{View}
use Rattle.loader.specs.ValidCode.{ValidCode}
use Rattle.machine.specs.Grants.{GrantState}
use Rattle.machine.specs.declared.state.Stepped.{Stepped}
use Rattle.machine.specs.MachineState.{MachineState, IsWholeMachine, granted_start}
use Rattle.machine.specs.TableStep.{TableStep}
use Rattle.machine.specs.Carrying.{Carries}
use Rattle.machine.specs.Replay.{recorded_memory, Replays, StopsThere, IsReplay, ReplaysOn}
use Rattle.machine.proofs.Carried.{step_carries}
use Rattle.machine.proofs.Confined.{keeps}
use Rattle.machine.proofs.Replaying.{stays_replay, starts_as_replay}
use Rattle.machine.proofs.Wholeness.{stays_whole}
use Rattle.debugger.specs.declared.commands.Way.{Way}
use Rattle.debugger.specs.declared.replies.StepReply.{StepReply}
use Rattle.debugger.specs.declared.replies.StepReply.TheVariants as step_reply
use Rattle.debugger.specs.declared.debuggee.Debuggee.{Debuggee}
use Rattle.debugger.specs.Debuggees.{Walks, AnswersStep, debuggee_start}
use Rattle.debugger.specs.declared.start.Start.{Start}
use Rattle.workers.specs.declared.running.Shipment.{Shipment}
use Rattle.workers.specs.Cells.{SeatState, seat_acts, RunningState, shipped_as, opened_as, StartedAs, lengths_of, is_worn_mark, is_marked_worn, IsReplayed}

-- ---- marks

or_right : (a b : Bool) → b ≡ true → (a || b) ≡ true
or_right true b e = refl
or_right false b e = e

same_number : (n : ℕ) (b : Bool) → (nat_eq n n || b) ≡ true
same_number n b = grind (arith, nat_tests)

-- a mark that stands there is found
pub marked : (marks : List Mark) (n found : ℕ) → Has marks (Worn n found) → is_marked_worn marks n ≡ true
marked [] n found h = absurd (some-ne-none (Worn n found) (sym h.1))
marked (m ∷ ms) n found (zero, e) = subst (λ (x : Mark). (is_worn_mark n x || is_marked_worn ms n) ≡ true) (sym (some-injective m (Worn n found) e))
    (same_number n (is_marked_worn ms n))
marked (m ∷ ms) n found (suc k, e) = or_right (is_worn_mark n m) (is_marked_worn ms n) (marked ms n found (k, e))

-- ---- more may be worn

module _ (lengths : ℕ → ℕ) (worn other : ℕ → Bool) (more : (n : ℕ) → worn n ≡ true → other n ≡ true) where
  reached_more : (before after : List Entry) (n : ℕ) (op : Op) (r : Reach) → (recorded_memory lengths worn).reaches before n op r after
      → (recorded_memory lengths other).reaches before n op r after
  reached_more before after n op reach.Outside h = h
  reached_more before after n op (reach.Done x) h = h
  reached_more before after n op reach.Worn h = (h.0, more n h.1, h.2)
  reached_more before after n op _ h = absurd h

  carries_more : Carries true (recorded_memory lengths worn) (recorded_memory lengths other) (λ (es : List Entry). es) (λ (es : List Entry). Unit {0})
  carries_more = record {
    reached = λ before after n op r i _ h. (reached_more before after n op r h, tt);
    closed = λ before after i h. (h, tt);
    measured = λ before n. refl;
  }

  replays_more : (k : ℕ) (start : MachineState) (es : List Entry) (m : MachineState) → Replays lengths worn k start es m → Replays lengths other k start es m
  replays_more zero start es m h = h
  replays_more (suc k) start es m (mid, earlier, h, a) = (
    mid,
    earlier,
    replays_more k start earlier mid h,
    record {
      answer = a.answer;
      step = (step_carries true (recorded_memory lengths worn) (recorded_memory lengths other) (λ (l : List Entry). l) (λ (l : List Entry). Unit {0})
          carries_more mid m earlier es a.answer tt refl a.step).0;
      paid = a.paid;
    },
  )

  stops_more : (reached : MachineState) (es : List Entry) (m : MachineState) → (m ≡ reached) ⊎ StopsThere lengths worn reached es m
      → (m ≡ reached) ⊎ StopsThere lengths other reached es m
  stops_more reached es m (inl e) = inl e
  stops_more reached es m (inr s) = inr (record {
    stop = s.stop;
    other = s.other;
    step = (step_carries true (recorded_memory lengths worn) (recorded_memory lengths other) (λ (l : List Entry). l) (λ (l : List Entry). Unit {0})
        carries_more reached m es es _ tt refl s.step).0;
  })

  pub replay_more : (start : MachineState) (es : List Entry) (m : MachineState) → IsReplay lengths worn start es m → IsReplay lengths other start es m
  replay_more start es m r = record {
    reached = r.reached;
    steps = r.steps;
    fuel = r.fuel;
    replays = replays_more r.steps start es r.reached r.replays;
    stops = stops_more r.reached es m r.stops;
  }

-- ---- after a step

cases : {P : Type 0} (a b : Bool) → (a || b) ≡ true → (a ≡ true → P) → (b ≡ true → P) → P
cases true b e f g = f refl
cases false b e f g = g e

number_is : (m : Mark) (n : ℕ) → is_worn_mark n m ≡ true → (found : ℕ) × (m ≡ Worn n found)
number_is (Worn k found) n e = let same : k ≡ n = grind (arith, nat_tests) in (found, ap (λ x. Worn x found) same)
number_is (Away k) n e = absurd (cc)
number_is (Busy k) n e = absurd (cc)

-- where a mark is found, it stands there
pub marked_at : (marks : List Mark) (n : ℕ) → is_marked_worn marks n ≡ true → (found : ℕ) × Has marks (Worn n found)
marked_at [] n e = absurd (cc)
marked_at (m ∷ ms) n e = cases (is_worn_mark n m) (is_marked_worn ms n) e
    (λ f. let k = number_is m n f in (k.0, (0, ap some k.1)))
    (λ f. let k = marked_at ms n f in (k.0, (suc k.1.0, k.1.1)))

-- a step over a seat leaves the machine the replay of the seat's entries
step_replays : (opening : List (List ℕ)) (start old new : MachineState) (before after : SeatState) (a : Stepped) → before.view.opening ≡ opening
    → IsReplay (lengths_of opening) (is_marked_worn before.view.marks) start (map own_entry before.view.entries) old
    → TableStep seat_acts old before a new after
    → IsReplay (lengths_of opening) (is_marked_worn after.view.marks) start (map own_entry after.view.entries) new
step_replays opening start old new before after a same r t =
    let es : List Entry = map own_entry before.view.entries in
    let long : (n : ℕ) → seat_acts.length_of before n ≡ lengths_of opening n = λ n. ap (λ (o : List (List ℕ)). length (bytes_of o n)) same in
    let p = seat_promises {S = ℕ} (λ (s : SeatState). s.view) (λ (s : SeatState). s.stamp) (λ (s : SeatState). 0) (λ (s : SeatState). 0) in
    let wide = replay_more (lengths_of opening) (is_marked_worn before.view.marks) (λ n. true) (λ n e. refl) start es old r in
    let first : ReplaysOn seat_acts (lengths_of opening) (λ n. true) start es before new after =
    stays_replay seat_acts p (lengths_of opening) (λ n. true) start old new es before after a long (λ n w. refl) wide t in
    let more : (n : ℕ) → is_marked_worn before.view.marks n ≡ true
    → is_marked_worn after.view.marks n ≡ true = λ n e. let w = first.did.worn n (marked_at before.view.marks n e) in marked after.view.marks n w.0 w.1 in
    let last : ReplaysOn seat_acts (lengths_of opening) (is_marked_worn after.view.marks) start es before new after =
    stays_replay seat_acts p (lengths_of opening) (is_marked_worn after.view.marks) start old new es before after a long
    (λ n w. marked after.view.marks n w.0 w.1)
    (replay_more (lengths_of opening) (is_marked_worn before.view.marks) (is_marked_worn after.view.marks) more start es old r) t in
    subst (λ (l : List Entry). IsReplay (lengths_of opening) (is_marked_worn after.view.marks) start l new) (sym last.did.adds) last.replay

walk_replays : (opening : List (List ℕ)) (start : MachineState) (way : Way) (old new : Debuggee) (before after : SeatState) (reply : StepReply)
    → before.view.opening ≡ opening
    → IsReplay (lengths_of opening) (is_marked_worn before.view.marks) start (map own_entry before.view.entries) old.machine
    → Walks seat_acts way old before reply new after
    → IsReplay (lengths_of opening) (is_marked_worn after.view.marks) start (map own_entry after.view.entries) new.machine
walk_replays opening start way old new before after reply same r h =
    subst (λ (d : Debuggee). IsReplay (lengths_of opening) (is_marked_worn after.view.marks) start (map own_entry after.view.entries) d.machine) (sym h.changed)
    (step_replays opening start old.machine h.machine before after h.answer same r h.step)

pub answer_replays : (opening : List (List ℕ)) (start : MachineState) (way : Way) (old new : Debuggee) (before after : SeatState) (reply : StepReply)
    → before.view.opening ≡ opening
    → IsReplay (lengths_of opening) (is_marked_worn before.view.marks) start (map own_entry before.view.entries) old.machine
    → AnswersStep seat_acts way old before reply new after
    → IsReplay (lengths_of opening) (is_marked_worn after.view.marks) start (map own_entry after.view.entries) new.machine
answer_replays opening start way old new before after (step_reply.Paused slot) same r h =
    subst (λ (s : SeatState). IsReplay (lengths_of opening) (is_marked_worn s.view.marks) start (map own_entry s.view.entries) new.machine) (sym h.same)
    (subst (λ (d : Debuggee). IsReplay (lengths_of opening) (is_marked_worn before.view.marks) start (map own_entry before.view.entries) d.machine)
    (sym h.changed) r)
answer_replays opening start way old new before after reply same r h = walk_replays opening start way old new before after reply same r h

-- a cell's machine stays the replay, from the same start
pub stays_replayed : (opening : List (List ℕ)) (starts : List MachineState) (number : ℕ) (way : Way) (old new : RunningState) (before after : SeatState)
    (reply : StepReply) → before.view.opening ≡ opening
    → AnswersStep seat_acts way old.debuggee before reply new.debuggee after → new.shipped ≡ old.shipped → IsReplayed opening starts number before old
    → IsReplayed opening starts number after new
stays_replayed opening starts number way old new before after reply same h kept r = record {
  start = r.start;
  started = subst (λ (s : Option MachineState). StartedAs starts number s r.start) (sym kept) r.started;
  replay = answer_replays opening r.start way old.debuggee new.debuggee before after reply same r.replay h;
}

-- ---- what it started as stays

pub shipped_stays : (m n : MachineState) (b : Option Shipment) → n.number ≡ m.number → n.code ≡ m.code → n.grants ≡ m.grants → shipped_as n b ≡ shipped_as m b
shipped_stays m n None e f g = refl
shipped_stays m n (Some b) e f g =
    ap (λ x. Some (granted_start x n.code b.fuel b.arguments n.grants)) e
    ∙ (ap (λ (x : List ℕ). Some (granted_start m.number x b.fuel b.arguments n.grants)) f
    ∙ ap (λ (x : GrantState). Some (granted_start m.number m.code b.fuel b.arguments x)) g)

walk_keeps : (way : Way) (old new : Debuggee) (before after : SeatState) (reply : StepReply) (b : Option Shipment) → IsWholeMachine old.machine
    → Walks seat_acts way old before reply new after
    → shipped_as new.machine b ≡ shipped_as old.machine b
walk_keeps way old new before after reply b whole h =
    let w = stays_whole seat_acts old.machine h.machine before after h.answer whole h.step in
    ap (λ (d : Debuggee). shipped_as d.machine b) h.changed
    ∙ shipped_stays old.machine h.machine b w.1 w.0 (keeps seat_acts old.machine h.machine before after h.answer h.step)

pub answer_keeps : (way : Way) (old new : Debuggee) (before after : SeatState) (reply : StepReply) (b : Option Shipment) → IsWholeMachine old.machine
    → AnswersStep seat_acts way old before reply new after
    → shipped_as new.machine b ≡ shipped_as old.machine b
answer_keeps way old new before after (step_reply.Paused slot) b whole h = ap (λ (d : Debuggee). shipped_as d.machine b) h.changed
answer_keeps way old new before after reply b whole h = walk_keeps way old new before after reply b whole h

-- a machine without entries is the replay at its start
pub fresh_replayed : (opening : List (List ℕ)) (starts : List MachineState) (number : ℕ) (seat : SeatState) (r : RunningState) → seat.view.entries ≡ []
    → StartedAs starts number r.shipped r.debuggee.machine
    → IsReplayed opening starts number seat r
fresh_replayed opening starts number seat r none started = record {
  start = r.debuggee.machine;
  started = started;
  replay = subst (λ (l : List SharedEntry).
      IsReplay (lengths_of opening) (is_marked_worn seat.view.marks) r.debuggee.machine (map own_entry l) r.debuggee.machine) (sym none)
      (starts_as_replay (lengths_of opening) (is_marked_worn seat.view.marks) r.debuggee.machine);
}

-- and a machine that is shipped is one
pub shipped_replayed : (opening : List (List ℕ)) (starts : List MachineState) (number : ℕ) (seat : SeatState) (r : RunningState) (code : List ℕ) (s : Start)
    → ValidCode code → length s.arguments ≡ 5
    → r ≡ record { debuggee = debuggee_start number code s; shipped = Some (granted_start number code s.fuel s.arguments s.grants) }
    → seat.view.entries ≡ [] → opened_as starts number ≡ None
    → IsReplayed opening starts number seat r
shipped_replayed opening starts number seat r code s valid five e none free =
    subst (λ (x : RunningState). IsReplayed opening starts number seat x) (sym e)
    (fresh_replayed opening starts number seat (record {
      debuggee = debuggee_start number code s;
      shipped = Some (granted_start number code s.fuel s.arguments s.grants);
    }) none
    (free, refl, record { code = code; fuel = s.fuel; arguments = s.arguments; grants = s.grants; valid = valid; five = five; start_is = refl }))

-- ---- the actor stays

touch_actor : (v : View) (before n : ℕ) (op : Op) (r : Reach) (w : View) (stamp : ℕ) → Touches v before n op r w stamp → w.actor ≡ v.actor
touch_actor v before n op (reach.Done x) w stamp h = ap (λ (u : View). u.actor) h.view_is
touch_actor v before n op reach.Away w stamp h = ap (λ (u : View). u.actor) h.2
touch_actor v before n op reach.Busy w stamp h = ap (λ (u : View). u.actor) h.2
touch_actor v before n op reach.Outside w stamp h = ap (λ (u : View). u.actor) h.2
touch_actor v before n op reach.Worn w stamp h = ap (λ (u : View). u.actor) h.2.2

actor_carries : (actor : ℕ) → Carries true seat_acts seat_acts (λ (s : SeatState). s) (λ (s : SeatState). s.view.actor ≡ actor)
actor_carries actor = record {
  reached = λ before after n op r i _ h. (h, touch_actor before.view before.stamp n op r after.view after.stamp h.0 ∙ i);
  closed = λ before after i h. (h, ap (λ (u : View). u.actor) h.0 ∙ i);
  measured = λ before n. refl;
}

walk_actor : (way : Way) (old new : Debuggee) (before after : SeatState) (reply : StepReply) → Walks seat_acts way old before reply new after
    → after.view.actor ≡ before.view.actor
walk_actor way old new before after reply h =
    (step_carries true seat_acts seat_acts (λ (s : SeatState). s) (λ (s : SeatState). s.view.actor ≡ before.view.actor) (actor_carries before.view.actor)
    old.machine h.machine before after h.answer refl refl h.step).1

pub answer_actor : (way : Way) (old new : Debuggee) (before after : SeatState) (reply : StepReply) → AnswersStep seat_acts way old before reply new after
    → after.view.actor ≡ before.view.actor
answer_actor way old new before after (step_reply.Paused slot) h = ap (λ (s : SeatState). s.view.actor) h.same
answer_actor way old new before after reply h = walk_actor way old new before after reply h

-- a machine that was there when the table was opened is one too
pub opened_replayed : (opening : List (List ℕ)) (starts : List MachineState) (number : ℕ) (seat : SeatState) (r : RunningState) (d : Debuggee)
    → r ≡ record { debuggee = d; shipped = None } → seat.view.entries ≡ [] → opened_as starts number ≡ Some d.machine → IsReplayed opening starts number seat r
opened_replayed opening starts number seat r d e none named =
    subst (λ (x : RunningState). IsReplayed opening starts number seat x) (sym e)
    (fresh_replayed opening starts number seat (record { debuggee = d; shipped = None }) none named)
