-- The replies are the answers of the entries that are added.
use Rattle.std.proofs.Common.{◌≡◌, ◌⊎◌, Result, Ok, Err, ℕ, zero, suc, ◌≤◌, max, Bool, true, false, List, [], ◌∷◌, ◌++◌, map, refl, sym, ap, ◌∙◌, append_assoc, append-nil, subst, arith, inl, inr}
use Rattle.std.proofs.lemmas.List.{map-append}
use Rattle.std.proofs.Math.Nat.{le-max_left}
use Rattle.memory.specs.declared.deeds.Entry.{Entry as OwnEntry}
use Rattle.memory.specs.declared.deeds.Deed.{Deed}
use Rattle.memory.specs.declared.deeds.Deed.TheVariants.{Reads, Writes}
use Rattle.memory.specs.declared.deeds.Given.{Given}
use Rattle.memory.specs.declared.deeds.Given.TheVariants.{Bytes, Nothing}
use Rattle.shared_objects.specs.History.{entry}
use Rattle.shared_objects.specs.SeatMemories.{own_entry}
use Rattle.shared_objects.specs.Touches.{PutsRange, GetsRange, Does}
use Rattle.shared_objects.specs.declared.errors.Denied.{Denied}
use Rattle.shared_objects.specs.declared.errors.Denied.TheVariants as denied
use Rattle.shared_objects.specs.declared.errors.GetError.{GetError}
use Rattle.shared_objects.specs.declared.errors.GetError.TheVariants as get_error
use Rattle.shared_objects.specs.declared.view.SharedEntry.{SharedEntry}
use Rattle.shared_objects.specs.declared.view.View.{View}
use Rattle.machine.specs.MachineState.{MachineState}
use Rattle.debugger.specs.declared.commands.MachineCommand.{MachineCommand}
use Rattle.workers.specs.Cells.{SeatState}
use Rattle.workers.specs.TableNames.{Passage}
use Rattle.world.specs.Run.{Runs}
use Rattle.world.specs.declared.events.Event.{Event}
use Rattle.world.specs.declared.events.Event.TheVariants as event
use Rattle.world.specs.declared.events.ObjectCommand.{ObjectCommand}
use Rattle.world.specs.declared.events.ObjectCommand.TheVariants as object
use Rattle.world.specs.declared.world.moving.Move.TheVariants as move
use Rattle.console.specs.Conversations.{turn_commands, turn_replies}
use Rattle.ship_service.specs.declared.replies.ServiceReply.{ServiceReply}
use Rattle.ship_service.specs.declared.replies.ServiceReply.TheVariants.{Busy}
use Rattle.ship_service.specs.Ranges.{reply_to_put, reply_to_get, PutsOnce, GetsOnce, FoundBusy, InTries}
use Rattle.ship_service.specs.Lent.{AnswersLent, resumes}
use Rattle.ship_service.specs.Served.{GoesOn, Serves, ServesObject, ServesMachine, ServesTurn, TakesTurns, service}
use Rattle.ship_service.specs.Telling.{added, RiseTo, TellsEntries, RepliesAreEntries, ReplyIsEntry}

-- what a command adds
record Tells (old : SeatState) (whats : List OwnEntry) (new : SeatState) : Type 0 where
  more : List SharedEntry
  entries : new.view.entries ≡ old.view.entries ++ more
  tells : map own_entry more ≡ whats
  stamps : RiseTo old.view.actor old.stamp more new.stamp
  actor : new.view.actor ≡ old.view.actor

-- ---- one command

nothing : (old new : SeatState) → new.view.entries ≡ old.view.entries → old.stamp ≤ new.stamp → new.view.actor ≡ old.view.actor → Tells old [] new
nothing old new e s a = record { more = []; entries = e ∙ sym (append-nil old.view.entries); tells = refl; stamps = s; actor = a }

same : (old new : SeatState) → new ≡ old → Tells old [] new
same old new e = nothing old new (ap (λ (s : SeatState). s.view.entries) e) (let k = ap (λ (s : SeatState). s.stamp) e in
    omega (arith, k)) (ap (λ (s : SeatState). s.view.actor) e)

learnt : (old new : SeatState) (stamp : ℕ) → new ≡ record old { stamp = max old.stamp stamp } → Tells old [] new
learnt old new stamp e =
    nothing old new (ap (λ (s : SeatState). s.view.entries) e)
    (let k = ap (λ (s : SeatState). s.stamp) e in let l = le-max_left old.stamp stamp in omega (arith, k, l)) (ap (λ (s : SeatState). s.view.actor) e)

-- the view is another, but its entries and its actor
unmoved : (old new : SeatState) (v : View) → new.stamp ≡ old.stamp → new.view ≡ v → v.entries ≡ old.view.entries → v.actor ≡ old.view.actor → Tells old [] new
unmoved old new v s e entries actor = nothing old new (ap (λ (u : View). u.entries) e ∙ entries) (omega (arith, s)) (ap (λ (u : View). u.actor) e ∙ actor)

one : (old new : SeatState) (n : ℕ) (deed : Deed) (given : Given) → Does old.view old.stamp n deed given new.view new.stamp
    → Tells old (record { number = n; deed = deed; given = given } ∷ []) new
one old new n deed given h = let l = le-max_left old.stamp h.found in record {
  more = entry old.view.actor new.stamp h.found n deed given ∷ [];
  entries = ap (λ (u : View). u.entries) h.view_is;
  tells = refl;
  stamps = (refl, omega (arith, h.stamp_is, l), omega arith);
  actor = ap (λ (u : View). u.actor) h.view_is;
}

put_adds : (old new : SeatState) (n offset : ℕ) (bytes : List ℕ) (r : Result Unit Denied) → PutsRange old.view old.stamp n offset bytes r new.view new.stamp
    → Tells old (added (event.Object n (object.Put offset bytes)) (reply_to_put n r)) new
put_adds old new n offset bytes (Ok u) h = one old new n (Writes offset bytes) Nothing h
put_adds old new n offset bytes (Err denied.Outside) h = unmoved old new _ h.1 h.2 refl refl
put_adds old new n offset bytes (Err denied.Away) h = unmoved old new _ h.1 h.2 refl refl
put_adds old new n offset bytes (Err denied.Busy) h = unmoved old new _ h.1 h.2 refl refl
put_adds old new n offset bytes (Err denied.Worn) h = unmoved old new _ h.1 h.2.2 refl refl

get_adds : (old new : SeatState) (n offset size : ℕ) (r : Result (List ℕ) GetError) → GetsRange old.view old.stamp n offset size r new.view new.stamp
    → Tells old (added (event.Object n (object.Get offset size)) (reply_to_get n r)) new
get_adds old new n offset size (Ok bytes) h = one old new n (Reads offset size) (Bytes bytes) h
get_adds old new n offset size (Err (get_error.Denied denied.Outside)) h = unmoved old new _ h.1 h.2 refl refl
get_adds old new n offset size (Err (get_error.Denied denied.Away)) h = unmoved old new _ h.1 h.2 refl refl
get_adds old new n offset size (Err (get_error.Denied denied.Busy)) h = unmoved old new _ h.1 h.2 refl refl
get_adds old new n offset size (Err (get_error.Denied denied.Worn)) h = unmoved old new _ h.1 h.2.2 refl refl
get_adds old new n offset size (Err get_error.Memory) h = unmoved old new _ h.1 h.2 refl refl

put_once_tells : (old new : SeatState) (n offset : ℕ) (bytes : List ℕ) (reply : ServiceReply) → PutsOnce n offset bytes old reply new
    → Tells old (added (event.Object n (object.Put offset bytes)) reply) new
put_once_tells old new n offset bytes reply h =
    subst (λ r. Tells old (added (event.Object n (object.Put offset bytes)) r) new) (sym h.reply_is) (put_adds old new n offset bytes h.outcome h.puts)

get_once_tells : (old new : SeatState) (n offset size : ℕ) (reply : ServiceReply) → GetsOnce n offset size old reply new
    → Tells old (added (event.Object n (object.Get offset size)) reply) new
get_once_tells old new n offset size reply h =
    subst (λ r. Tells old (added (event.Object n (object.Get offset size)) r) new) (sym h.reply_is) (get_adds old new n offset size h.outcome h.gets)

-- ---- tries

rise_from : (actor low mid high : ℕ) (es : List SharedEntry) → low ≤ mid → RiseTo actor mid es high → RiseTo actor low es high
rise_from actor low mid high [] h r = omega (arith, h, r)
rise_from actor low mid high (e ∷ es) h r = let k = r.1 in (r.0, omega (arith, h, k), r.2)

rise_join : (actor low mid high : ℕ) (es fs : List SharedEntry) → RiseTo actor low es mid → RiseTo actor mid fs high → RiseTo actor low (es ++ fs) high
rise_join actor low mid high [] fs r s = rise_from actor low mid high fs r s
rise_join actor low mid high (e ∷ es) fs r s = (r.0, r.1, rise_join actor e.stamp mid high es fs r.2 s)

-- one that adds nothing, and then another
after : (old mid new : SeatState) (whats : List OwnEntry) → Tells old [] mid → Tells mid whats new → Tells old whats new
after old mid new whats t u = record {
  more = t.more ++ u.more;
  entries = u.entries ∙ ap (λ l. l ++ u.more) t.entries ∙ append_assoc old.view.entries t.more u.more;
  tells = map-append own_entry t.more u.more ∙ ap (λ l. l ++ map own_entry u.more) t.tells ∙ u.tells;
  stamps = rise_join old.view.actor old.stamp mid.stamp new.stamp t.more u.more t.stamps (subst (λ a. RiseTo a mid.stamp u.more new.stamp) t.actor u.stamps);
  actor = u.actor ∙ t.actor;
}

-- tries that are answered `busy` add nothing
busy_tells : (once : SeatState → ServiceReply → SeatState → Type 0) (n : ℕ) → ((s t : SeatState) → once s (Busy n) t → Tells s [] t)
    → (k : ℕ) (old new : SeatState) → FoundBusy once n k old new → Tells old [] new
busy_tells once n adds zero old new h = same old new h
busy_tells once n adds (suc k) old new h = after old h.0 new [] (busy_tells once n adds k old h.0 h.1) (adds h.0 new h.2)

put_tells : (old new : SeatState) (n offset : ℕ) (bytes : List ℕ) (reply : ServiceReply) → InTries (PutsOnce n offset bytes) n old reply new
    → Tells old (added (event.Object n (object.Put offset bytes)) reply) new
put_tells old new n offset bytes reply h = after old h.mid new (added (event.Object n (object.Put offset bytes)) reply)
    (busy_tells (PutsOnce n offset bytes) n (λ s t b. put_once_tells s t n offset bytes (Busy n) b) h.tries old h.mid h.busy)
    (put_once_tells h.mid new n offset bytes reply h.last)

get_tells : (old new : SeatState) (n offset size : ℕ) (reply : ServiceReply) → InTries (GetsOnce n offset size) n old reply new
    → Tells old (added (event.Object n (object.Get offset size)) reply) new
get_tells old new n offset size reply h = after old h.mid new (added (event.Object n (object.Get offset size)) reply)
    (busy_tells (GetsOnce n offset size) n (λ s t b. get_once_tells s t n offset size (Busy n) b) h.tries old h.mid h.busy)
    (get_once_tells h.mid new n offset size reply h.last)

-- ---- commands

object_tells : (old new : SeatState) (n : ℕ) (c : ObjectCommand) (reply : ServiceReply) → ServesObject old n c reply new
    → Tells old (added (event.Object n c) reply) new
object_tells old new n (object.Put offset bytes) reply h = put_tells old new n offset bytes reply h
object_tells old new n (object.Get offset size) reply h = get_tells old new n offset size reply h
object_tells old new n object.Free reply h = same old new h.1
object_tells old new n (object.Move move.Leave) reply h = same old new h.1
object_tells old new n (object.Move move.Return) reply h = same old new h.1
object_tells old new n (object.Move m) reply h = same old new h.1

-- a machine's turns add nothing to the connection's seat
turns_tell : (opening : List (List ℕ)) (starts : List MachineState) (passed : Passage → Bool) (m n : ℕ) (old new : SeatState)
    → TakesTurns opening starts passed m n old new → Tells old [] new
turns_tell opening starts passed m zero old new h = same old new h
turns_tell opening starts passed m (suc n) old new h =
    after old h.0 new [] (turns_tell opening starts passed m n old h.0 h.1) (learnt h.0 new _ h.2.1.learns)

machine_tells : (opening : List (List ℕ)) (starts : List MachineState) (passed : Passage → Bool) (old new : SeatState) (m : ℕ) (c : MachineCommand)
    (reply : ServiceReply)
    → ServesMachine opening starts passed old m c reply new → Tells old [] new
machine_tells opening starts passed old new m c reply (inl h) = same old new h.2
machine_tells opening starts passed old new m c reply (inr h) = goes h.goes_on where
  lent_tells : AnswersLent c old h.before m h.said h.answered h.left → Tells old [] h.answered
  lent_tells (inl t) = same old h.answered t.same
  lent_tells (inr t) = learnt old h.answered _ t.learns

  goes : ((resumes c h.said ≡ true) × GoesOn opening starts passed m h.answered h.after new)
      ⊎ ((resumes c h.said ≡ false) × (new ≡ h.answered) × (h.after ≡ h.left))
      → Tells old [] new
  goes (inl g) = after old h.answered new [] (lent_tells h.answers)
      (after h.answered g.1.mid new [] (turns_tell opening starts passed m g.1.turns h.answered g.1.mid g.1.taken) (learnt g.1.mid new _ g.1.last.learns))
  goes (inr g) = subst (λ (s : SeatState). Tells old [] s) (sym g.1) (lent_tells h.answers)

serves_tells : (opening : List (List ℕ)) (starts : List MachineState) (passed : Passage → Bool) (old new : SeatState) (c : Event) (reply : ServiceReply)
    → Serves opening starts passed old c reply new → Tells old (added c reply) new
serves_tells opening starts passed old new (event.Make size) reply h = same old new h.1
serves_tells opening starts passed old new (event.Ship start code) reply h = same old new h.1
serves_tells opening starts passed old new (event.Object n c) reply h = object_tells old new n c reply h
serves_tells opening starts passed old new (event.Machine m c) reply h = machine_tells opening starts passed old new m c reply h

-- ---- one after the other

turn_tells : (opening : List (List ℕ)) (starts : List MachineState) (passed : Passage → Bool) (old new : SeatState) (c : Event) (reply : ServiceReply)
    → ServesTurn opening starts passed old c reply new → Tells old (added c reply) new
turn_tells opening starts passed old new c reply h = subst (λ (s : SeatState). Tells old (added c reply) s) (sym h.2) (
    let t = serves_tells opening starts passed old h.0 c reply h.1 in
    record { more = t.more; entries = t.entries; tells = t.tells; stamps = t.stamps; actor = t.actor })

runs_tell : (opening : List (List ℕ)) (starts : List MachineState) (passed : Passage → Bool) (old new : SeatState) (cs : List Event) (rs : List ServiceReply)
    → Runs (ServesTurn opening starts passed) old cs rs new → TellsEntries old cs rs new
runs_tell opening starts passed old new [] [] h =
    let t = same old new h in
    record { more = t.more; entries = t.entries; tells = t.tells; stamps = t.stamps; actor = t.actor }
runs_tell opening starts passed old new (c ∷ cs) (r ∷ rs) h =
    let mid = h.0 in
    let t = turn_tells opening starts passed old mid c r h.1 in
    let u = runs_tell opening starts passed mid new cs rs h.2 in
    record {
      more = t.more ++ u.more;
      entries = u.entries ∙ ap (λ l. l ++ u.more) t.entries ∙ append_assoc old.view.entries t.more u.more;
      tells = map-append own_entry t.more u.more ∙ ap (λ l. l ++ map own_entry u.more) t.tells ∙ ap (λ l. added c r ++ l) u.tells;
      stamps = rise_join old.view.actor old.stamp mid.stamp new.stamp t.more u.more t.stamps
          (subst (λ a. RiseTo a mid.stamp u.more new.stamp) t.actor u.stamps);
      actor = u.actor ∙ t.actor;
    }
runs_tell opening starts passed old new [] (r ∷ rs) h = absurd h
runs_tell opening starts passed old new (c ∷ cs) [] h = absurd h

pub replies_are_entries : (opening : List (List ℕ)) (starts : List MachineState) (passed : Passage → Bool) → RepliesAreEntries opening starts passed
replies_are_entries opening starts passed old new input output rest e = runs_tell opening starts passed old new _ _ e.run

pub reply_is_entry : (opening : List (List ℕ)) (starts : List MachineState) (passed : Passage → Bool) → ReplyIsEntry opening starts passed
reply_is_entry opening starts passed old new line bytes a =
    let cs = turn_commands (service opening starts passed) a.0 in
    let rs = turn_replies (service opening starts passed) a.0 in
    runs_tell opening starts passed old new cs rs
    (subst (λ l. Runs (ServesTurn opening starts passed) old cs l new) (append-nil rs)
    (subst (λ l. Runs (ServesTurn opening starts passed) old l (rs ++ []) new) (append-nil cs) a.3))
