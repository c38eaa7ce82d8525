-- The text of each reply of the service, without its line end.
use Rattle.std.specs.Prelude.{ℕ, Bool, true, false, List, ◌++◌, codes}
use Rattle.console.specs.Replies.{reply_text, number_text, IsShort}
use Rattle.ship_service.specs.declared.replies.ServiceReply.{ServiceReply}
use Rattle.ship_service.specs.declared.replies.ServiceReply.TheVariants.{Plain, Busy, Worn, Asked, Unserved}

-- the text of a reply
abbrev pub service_text : ServiceReply → List ℕ
service_text (Plain r) = reply_text r
service_text (Busy n) = codes "busy" ++ number_text n
service_text Worn = codes "worn"
service_text (Asked n) = codes "asked" ++ number_text n
service_text Unserved = codes "unserved"

-- a reply has at most so many bytes to show
abbrev pub IsShortReply : ServiceReply → Type 0
IsShortReply (Plain r) = IsShort r
IsShortReply _ = Unit {0}

-- another had its turn on the object
abbrev pub is_busy : ServiceReply → Bool
is_busy (Busy n) = true
is_busy _ = false
