-- Ranges that are tried again.
use Rattle.std.proofs.Common.{◌≡◌, ℕ, suc, ◌+◌, ◌≤◌, List, Vec, Result, Ok, Err, true, false, refl, sym, ap, ◌∙◌, subst, arith}
use Rattle.std.specs.Prelude.{IfOk, IfErr}
use Rattle.shared_objects.specs.Touches.{GetsRange}
use Rattle.shared_objects.specs.declared.errors.Denied.{Denied}
use Rattle.shared_objects.specs.declared.errors.Denied.TheVariants as denied
use Rattle.shared_objects.specs.declared.errors.GetError.{GetError}
use Rattle.shared_objects.specs.declared.errors.GetError.TheVariants as get_error
use Rattle.workers.specs.Cells.{SeatState}
use Rattle.ship_service.specs.declared.replies.ServiceReply.{ServiceReply}
use Rattle.ship_service.specs.declared.replies.ServiceReply.TheVariants.{Busy}
use Rattle.ship_service.specs.Replies.{is_busy}
use Rattle.ship_service.specs.Ranges.{reply_to_denied, reply_to_put, reply_to_get, reply_of_get, PutsOnce, GetsOnce, FoundBusy, InTries, retry_limit}

-- a reply that is `busy` and one that isn't are never equal
unlike : (reply other : ServiceReply) → reply ≡ other → is_busy reply ≡ true → is_busy other ≡ false → ⊥
unlike reply other e b f = let g : true ≡ false = sym b ∙ ap is_busy e ∙ f in absurd (cc)

denied_busy : (n : ℕ) (reply : ServiceReply) (why : Denied) → reply ≡ reply_to_denied n why → is_busy reply ≡ true → reply ≡ Busy n
denied_busy n reply denied.Outside e b = absurd (unlike reply _ e b refl)
denied_busy n reply denied.Away e b = absurd (unlike reply _ e b refl)
denied_busy n reply denied.Busy e b = e
denied_busy n reply denied.Worn e b = absurd (unlike reply _ e b refl)

put_busy : (n : ℕ) (reply : ServiceReply) (r : Result Unit Denied) → reply ≡ reply_to_put n r → is_busy reply ≡ true → reply ≡ Busy n
put_busy n reply (Ok u) e b = absurd (unlike reply _ e b refl)
put_busy n reply (Err why) e b = denied_busy n reply why e b

get_busy : (n : ℕ) (reply : ServiceReply) (r : Result (List ℕ) GetError) → reply ≡ reply_to_get n r → is_busy reply ≡ true → reply ≡ Busy n
get_busy n reply (Ok bytes) e b = absurd (unlike reply _ e b refl)
get_busy n reply (Err (get_error.Denied why)) e b = denied_busy n reply why e b
get_busy n reply (Err get_error.Memory) e b = absurd (unlike reply _ e b refl)

-- what came of one try to get
pub got_once : {Z : Type 0} {n offset size : ℕ} {old new : SeatState} (r : Result (Vec ℕ Z) GetError)
    → IfOk r (λ v. GetsRange old.view old.stamp n offset size (Ok v.items) new.view new.stamp)
    → IfErr r (λ why. GetsRange old.view old.stamp n offset size (Err why) new.view new.stamp) → GetsOnce n offset size old (reply_of_get n r) new
got_once (Ok v) h k = record { outcome = Ok v.items; reply_is = refl; gets = h }
got_once (Err why) h k = record { outcome = Err why; reply_is = refl; gets = k }

-- one try more that was answered `busy`
one_more : (once : SeatState → ServiceReply → SeatState → Type 0) (n k : ℕ) (old mid new : SeatState) → FoundBusy once n k old mid → once mid (Busy n) new
    → FoundBusy once n (k + 1) old new
one_more once n k old mid new h t = let e : k + 1 ≡ suc k = omega arith in subst (λ j. FoundBusy once n j old new) (sym e) (mid, h, t)

pub put_again : (n offset : ℕ) (bytes : List ℕ) (k : ℕ) (old mid new : SeatState) (reply : ServiceReply) → is_busy reply ≡ true
    → FoundBusy (PutsOnce n offset bytes) n k old mid → PutsOnce n offset bytes mid reply new
    → FoundBusy (PutsOnce n offset bytes) n (k + 1) old new
put_again n offset bytes k old mid new reply b h t = one_more (PutsOnce n offset bytes) n k old mid new h
    (subst (λ r. PutsOnce n offset bytes mid r new) (put_busy n reply t.outcome t.reply_is b) t)

pub get_again : (n offset size k : ℕ) (old mid new : SeatState) (reply : ServiceReply) → is_busy reply ≡ true
    → FoundBusy (GetsOnce n offset size) n k old mid → GetsOnce n offset size mid reply new
    → FoundBusy (GetsOnce n offset size) n (k + 1) old new
get_again n offset size k old mid new reply b h t = one_more (GetsOnce n offset size) n k old mid new h
    (subst (λ r. GetsOnce n offset size mid r new) (get_busy n reply t.outcome t.reply_is b) t)

-- the last try is answered otherwise
pub tried : (once : SeatState → ServiceReply → SeatState → Type 0) (n k : ℕ) (old mid new : SeatState) (reply : ServiceReply)
    → FoundBusy once n k old mid → once mid reply new → is_busy reply ≡ false → k ≤ retry_limit → InTries once n old reply new
tried once n k old mid new reply h t b few =
    record { tries = k; mid = mid; busy = h; last = t; few = few; all = λ e. let f : true ≡ false = sym e ∙ b in absurd (cc) }

-- it is the last of all
pub tried_all : (once : SeatState → ServiceReply → SeatState → Type 0) (n k : ℕ) (old mid new : SeatState) (reply : ServiceReply)
    → FoundBusy once n k old mid → once mid reply new → k ≡ retry_limit → InTries once n old reply new
tried_all once n k old mid new reply h t e = record { tries = k; mid = mid; busy = h; last = t; few = omega (arith, e); all = λ b. e }
