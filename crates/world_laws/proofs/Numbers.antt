-- The numbers of objects.
use Rattle.std.proofs.Common.{◌≡◌, ℕ, suc, false, List, [], ◌∷◌, ◌++◌, length, replicate, sym, ap, ◌∙◌, subst, arith, length-append, length-set, refl}
use Rattle.placement.specs.declared.places.Place.TheVariants.{Here}
use Rattle.object_store.specs.Stores.{StoreState}
use Rattle.world.specs.declared.replies.Reply.{Reply}
use Rattle.world.specs.declared.replies.Reply.TheVariants.{Made}
use Rattle.world.specs.Run.{Runs}
use Rattle.world.specs.declared.events.Event.{Event}
use Rattle.world.specs.WorldState.{WorldState, world_start}
use Rattle.world.specs.Answers.{Answers}
use Rattle.world_laws.specs.Replies.{made_numbers, counted_from, NumbersCountUp}
use Rattle.world_laws.proofs.StoreCalls.{Grown, Filled, Placed, is_made, unmade}
use Rattle.world_laws.proofs.StoreChanges.{StoreChange, Unchanged, Called, Walked, store_changes}
use Rattle.world_laws.proofs.Placed.{step_count}

abbrev count : StoreState → ℕ
count s = length s.objects

-- the numbers in the replies count up from this one
abbrev CountsFrom : ℕ → List Reply → Type 0
CountsFrom n replies = made_numbers replies ≡ counted_from n (length (made_numbers replies))

-- what a reply adds
abbrev Adds : StoreState → Reply → StoreState → Type 0
Adds old r new = (replies : List Reply) → CountsFrom (count new) replies → CountsFrom (count old) (r ∷ replies)

other : (r : Reply) (replies : List Reply) → is_made r ≡ false → made_numbers (r ∷ replies) ≡ made_numbers replies
other (Made n) replies t = absurd (cc)
other _ replies t = refl

same_count : (old new : StoreState) (r : Reply) → is_made r ≡ false → count new ≡ count old → Adds old r new
same_count old new r i e replies h = rw (other r replies i) (subst (λ n. CountsFrom n replies) e h)

made : (old new : StoreState) (size : ℕ) → new ≡ record old { objects = old.objects ++ replicate size 0 ∷ []; places = old.places ++ Here ∷ [] }
    → Adds old (Made (count old)) new
made old new size e replies h =
    let more : count new ≡ suc (count old) = ap count e ∙ length-append old.objects _ ∙ omega arith in
    ap (λ (l : List ℕ). count old ∷ l) (subst (λ k. CountsFrom k replies) more h)

adds : (old new : StoreState) (r : Reply) → StoreChange old r new → Adds old r new
adds old new r (Unchanged q e) = same_count old new r (unmade r q) (ap count e)
adds old new r (Called (Grown size room t e)) = subst (λ (x : Reply). Adds old x new) (sym t) (made old new size e)
adds old new r (Called (Filled n bytes faults q l z e)) = same_count old new r (unmade r q) (ap count e ∙ length-set old.objects n bytes)
adds old new r (Called (Placed n a b faults m e)) = same_count old new r m.is_unmade (ap count e)
adds old new r (Walked m before after a q t) = same_count old new r (unmade r q) (step_count m before after old new a t)

counts : (old new : WorldState) (cs : List Event) (rs : List Reply) → Runs Answers old cs rs new → CountsFrom (count old.store) rs
counts old new [] [] h = refl
counts old new (c ∷ cs) (r ∷ rs) h = adds old.store h.0.store r (store_changes old h.0 c r h.1) rs (counts h.0 new cs rs h.2)
counts old new [] (r ∷ rs) h = absurd h
counts old new (c ∷ cs) [] h = absurd h

pub numbers_count_up : NumbersCountUp
numbers_count_up b f cs rs new h = counts (world_start b f) new cs rs h
