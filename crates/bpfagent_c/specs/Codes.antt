-- Replies, places and stops as the numbers that the header names.
use Rattle.std.specs.Prelude.{ℕ, nat_eq, cond, Option, Some, None}
use Rattle.placement.specs.declared.places.Place.{Place}
use Rattle.placement.specs.declared.places.Place.TheVariants as place
use Rattle.placement.specs.declared.places.Moved.{Moved}
use Rattle.placement.specs.declared.places.Moved.TheVariants as moved
use Rattle.far_store.specs.declared.fault.StoreFault.{StoreFault}
use Rattle.far_store.specs.declared.fault.StoreFault.TheVariants.{Damaged}
use Rattle.loader.specs.declared.loading.Why.{Why}
use Rattle.loader.specs.declared.loading.Why.TheVariants as why
use Rattle.asm_grammar.specs.declared.why.Why.{Why as WrongText}
use Rattle.asm_grammar.specs.declared.why.Why.TheVariants as wrong_text
use Rattle.machine.specs.Stops.{stop_number}
use Rattle.debugger.specs.declared.shown.State.{State}
use Rattle.debugger.specs.declared.shown.State.TheVariants as state
use Rattle.debugger.specs.declared.replies.StepReply.{StepReply}
use Rattle.debugger.specs.declared.replies.StepReply.TheVariants as step_reply
use Rattle.debugger.specs.declared.show.ShowReply.TheVariants as show_reply
use Rattle.debugger.specs.declared.replies.Debugged.TheVariants as debugged
use Rattle.world.specs.declared.replies.Reply.{Reply}
use Rattle.world.specs.declared.replies.Reply.TheVariants as reply
use Rattle.world.specs.Moves.{place_before}
use Rattle.bpfagent_c.specs.declared.numbers.TheConstants.{OK, RAN, HIT, WAITING, PAUSED, STOPPED, NOMEM, FULL, NOROOM, OUTSIDE, AWAY}
use Rattle.bpfagent_c.specs.declared.numbers.TheConstants.{IS_HERE, IS_LEAVING, IS_FAR, IS_RETURNING, SCOPED, FAULT_HERE, FAULT_FAR, NOSLOT, NOWATCH}
use Rattle.bpfagent_c.specs.declared.numbers.TheConstants.{NOTPAUSED, REFUSED, NONE, DAMAGED, NOAGENT}
use Rattle.bpfagent_c.specs.declared.numbers.TheConstants.{GOES_ON, RUNNING, IS_PAUSED, IS_STOPPED, HERE, LEAVING, FAR, RETURNING}

-- the object is in this place, where the command can't be done
abbrev pub code_of_place : Place → ℕ
code_of_place place.Here = IS_HERE
code_of_place place.Leaving = IS_LEAVING
code_of_place place.Far = IS_FAR
code_of_place place.Returning = IS_RETURNING

-- the far store failed, and the object is in this place again
abbrev pub code_of_fault : Place → ℕ
code_of_fault place.Here = FAULT_HERE
code_of_fault _ = FAULT_FAR

-- the number of what a step was answered, where there may be no such machine
abbrev pub code_of_step : Option StepReply → ℕ
code_of_step (Some (step_reply.Ran slot)) = RAN
code_of_step (Some (step_reply.Hit slot)) = HIT
code_of_step (Some (step_reply.Waiting n)) = WAITING
code_of_step (Some (step_reply.Paused slot)) = PAUSED
code_of_step (Some (step_reply.Stopped s)) = STOPPED
code_of_step None = NONE

-- the number of what came of a move, or of freeing, after which the object is back in a place where the far store fails
abbrev pub code_of_moved : Place → Moved → ℕ
code_of_moved back moved.Done = OK
code_of_moved back moved.NoObject = NONE
code_of_moved back (moved.Misplaced p) = code_of_place p
code_of_moved back moved.Scoped = SCOPED
code_of_moved back moved.NoRoom = NOROOM
code_of_moved back (moved.Fault f) = code_of_fault back

-- the number of a reply
abbrev pub code_of_reply : Reply → ℕ
code_of_reply (reply.Freed n m) = code_of_moved place.Here m
code_of_reply (reply.Moved n kind m) = code_of_moved (place_before kind) m
code_of_reply (reply.Stepped m replied) = code_of_step (Some replied)
code_of_reply (reply.Shown m show_reply.Outside) = OUTSIDE
code_of_reply (reply.Shown m show_reply.NoSlot) = NOSLOT
code_of_reply (reply.Shown m show_reply.NoMemory) = NOMEM
code_of_reply (reply.Debugged debugged.NoSlot) = NOSLOT
code_of_reply (reply.Debugged debugged.Outside) = OUTSIDE
code_of_reply (reply.Debugged debugged.Full) = FULL
code_of_reply (reply.Debugged debugged.NoWatch) = NOWATCH
code_of_reply (reply.Debugged debugged.NotPaused) = NOTPAUSED
code_of_reply reply.NoMemory = NOMEM
code_of_reply reply.Full = FULL
code_of_reply reply.NoRoom = NOROOM
code_of_reply reply.Outside = OUTSIDE
code_of_reply (reply.Away n) = AWAY
code_of_reply (reply.Refused e) = REFUSED
code_of_reply reply.Missing = NONE
code_of_reply _ = OK

-- the number of what a call answers: that of the reply, or that there is no agent
abbrev pub code_of : Option Reply → ℕ
code_of None = NOAGENT
code_of (Some r) = code_of_reply r

-- the number of what a run ended with, where all of its steps may have run
abbrev pub code_of_end : Option StepReply → ℕ
code_of_end None = RAN
code_of_end (Some replied) = code_of_step (Some replied)

-- whether a machine goes on, as a number
abbrev pub code_of_state : State → ℕ
code_of_state state.Running = RUNNING
code_of_state state.Paused = IS_PAUSED
code_of_state (state.Stopped s) = IS_STOPPED

-- the number of the stop of a machine that is stopped, or that another one goes on
abbrev pub stop_of_state : State → ℕ
stop_of_state (state.Stopped s) = stop_number s
stop_of_state _ = GOES_ON

-- bytes didn't come back: they are others, or the far store failed
abbrev pub code_of_lost : StoreFault → ℕ
code_of_lost Damaged = DAMAGED
code_of_lost _ = FAULT_FAR

-- the number of what was answered where the bytes of an object came back
abbrev pub code_of_back : Moved → ℕ
code_of_back (moved.Fault f) = code_of_lost f
code_of_back m = code_of_moved place.Far m

-- a place as a number
abbrev pub number_of_place : Place → ℕ
number_of_place place.Here = HERE
number_of_place place.Leaving = LEAVING
number_of_place place.Far = FAR
number_of_place place.Returning = RETURNING

-- the place of a number
abbrev pub place_numbered : ℕ → Option Place
place_numbered n = cond (nat_eq n HERE) (Some place.Here) (cond (nat_eq n LEAVING) (Some place.Leaving) (cond (nat_eq n FAR) (Some place.Far)
    (cond (nat_eq n RETURNING) (Some place.Returning) None)))

-- the number for code that is refused for this reason
abbrev pub code_of_why : Why → ℕ
code_of_why why.Memory = NOMEM
code_of_why _ = REFUSED

-- the number for a text that is refused for this reason
abbrev pub code_of_text : WrongText → ℕ
code_of_text wrong_text.Memory = NOMEM
code_of_text _ = REFUSED
