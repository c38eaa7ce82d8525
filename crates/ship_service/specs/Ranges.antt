-- Commands on objects: what they are answered, and what they do to the connection's seat.
use Rattle.std.specs.Prelude.{◌≡◌, ◌≤◌, ℕ, zero, suc, true, List, Vec, Result, Ok, Err}
use Rattle.shared_objects.specs.Phases.{IsObject}
use Rattle.shared_objects.specs.Touches.{PutsRange, GetsRange}
use Rattle.shared_objects.specs.declared.errors.Denied.{Denied}
use Rattle.shared_objects.specs.declared.errors.Denied.TheVariants as denied
use Rattle.shared_objects.specs.declared.errors.GetError.{GetError}
use Rattle.shared_objects.specs.declared.errors.GetError.TheVariants as get_error
use Rattle.workers.specs.Cells.{SeatState}
use Rattle.world.specs.declared.replies.Reply.TheVariants as answer
use Rattle.ship_service.specs.declared.replies.ServiceReply.{ServiceReply}
use Rattle.ship_service.specs.declared.replies.ServiceReply.TheVariants.{Plain, Busy, Worn, Asked}
use Rattle.ship_service.specs.Replies.{is_busy}

-- ---- ranges

-- what is answered where an access of object n is denied
abbrev pub reply_to_denied : ℕ → Denied → ServiceReply
reply_to_denied n denied.Outside = Plain answer.Outside
reply_to_denied n denied.Away = Plain (answer.Away n)
reply_to_denied n denied.Busy = Busy n
reply_to_denied n denied.Worn = Worn

-- what is answered where bytes were to be written into object n
abbrev pub reply_to_put : ℕ → Result Unit Denied → ServiceReply
reply_to_put n (Ok u) = Plain answer.Done
reply_to_put n (Err why) = reply_to_denied n why

-- what is answered where bytes of object n were to be read
abbrev pub reply_to_get : ℕ → Result (List ℕ) GetError → ServiceReply
reply_to_get n (Ok bytes) = Plain (answer.Bytes bytes)
reply_to_get n (Err (get_error.Denied why)) = reply_to_denied n why
reply_to_get n (Err get_error.Memory) = Plain answer.NoMemory

-- the same of bytes in memory
abbrev pub reply_of_get : {Z : Type 0} → ℕ → Result (Vec ℕ Z) GetError → ServiceReply
reply_of_get n (Ok bytes) = reply_to_get n (Ok bytes.items)
reply_of_get n (Err why) = reply_to_get n (Err why)

-- One try to put: the reply is what the table did with these bytes at the seat.
pub record PutsOnce (n offset : ℕ) (bytes : List ℕ) (old : SeatState) (reply : ServiceReply) (new : SeatState) : Type 0 where
  pub outcome : Result Unit Denied
  pub reply_is : reply ≡ reply_to_put n outcome
  pub puts : PutsRange old.view old.stamp n offset bytes outcome new.view new.stamp

-- One try to get: the reply is what the table did with this range at the seat.
pub record GetsOnce (n offset size : ℕ) (old : SeatState) (reply : ServiceReply) (new : SeatState) : Type 0 where
  pub outcome : Result (List ℕ) GetError
  pub reply_is : reply ≡ reply_to_get n outcome
  pub gets : GetsRange old.view old.stamp n offset size outcome new.view new.stamp

-- ---- tries

-- a range that was found busy is tried again so often at most
abbrev pub retry_limit : ℕ
retry_limit = 64

-- So many tries at object n, one after the other, were each answered `busy`: each left its mark, and nothing else was done.
abbrev pub FoundBusy : (SeatState → ServiceReply → SeatState → Type 0) → ℕ → ℕ → SeatState → SeatState → Type 0
FoundBusy once n zero old new = new ≡ old
FoundBusy once n (suc k) old new = (mid : SeatState) × FoundBusy once n k old mid × once mid (Busy n) new

-- After tries that were answered `busy` the reply is that of one more. It is `busy` only after all of them.
pub record InTries (once : SeatState → ServiceReply → SeatState → Type 0) (n : ℕ) (old : SeatState) (reply : ServiceReply) (new : SeatState) : Type 0 where
  pub tries : ℕ
  pub mid : SeatState
  pub busy : FoundBusy once n tries old mid
  pub last : once mid reply new
  pub few : tries ≤ retry_limit
  pub all : is_busy reply ≡ true → tries ≡ retry_limit

-- ---- moves

-- `leave` and `return` ask the mover for object n, unless its queue is full, or there is no such object
abbrev pub AsksMover : List (List ℕ) → ℕ → ServiceReply → Type 0
AsksMover opening n (Asked k) = (k ≡ n) × IsObject opening n
AsksMover opening n (Plain answer.Full) = IsObject opening n
AsksMover opening n (Plain answer.Missing) = IsObject opening n → ⊥
AsksMover opening n _ = ⊥
