-- Where an object is, read off the replies.
use Rattle.std.specs.Prelude.{ℕ, nat_eq, cond, List, [], ◌∷◌}
use Rattle.placement.specs.declared.places.Place.{Place}
use Rattle.placement.specs.declared.places.Place.TheVariants as place
use Rattle.world.specs.declared.replies.Reply.{Reply}
use Rattle.placement.specs.declared.places.Moved.TheVariants as moved
use Rattle.world.specs.declared.replies.Reply.TheVariants.{Made, Moved}
use Rattle.world.specs.Moves.{place_before, place_past}

-- where object n is after a reply, if its place was p
abbrev pub placed : ℕ → Place → Reply → Place
placed n p (Made k) = cond (nat_eq k n) place.Here p
placed n p (Moved k m moved.Done) = cond (nat_eq k n) (place_past m) p
placed n p (Moved k m (moved.Fault f)) = cond (nat_eq k n) (place_before m) p
placed n p _ = p

-- the same after these replies, one after the other
abbrev pub place_from : ℕ → Place → List Reply → Place
place_from n p [] = p
place_from n p (r ∷ rs) = place_from n (placed n p r) rs

-- where object n is after these replies: the last one that tells it decides
abbrev pub place_after : ℕ → List Reply → Place
place_after n rs = place_from n place.Here rs
