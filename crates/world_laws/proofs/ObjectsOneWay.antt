-- Commands on objects have one answer: for each, its replies as the first need that isn't met, and what each leaves.
use Rattle.std.proofs.Common.{◌≡◌, ℕ, true, List, [], ◌∷◌, length, inl, inr, refl, ap, sym, subst, ◌∙◌}
use Rattle.memory.specs.Objects.{IsFull, HasRange, range_of}
use Rattle.object_store.specs.Stores.{StoreState, HasRoom, place_of}
use Rattle.object_store.specs.Calls.{Frees}
use Rattle.placement.specs.declared.places.Place.{Place}
use Rattle.placement.specs.declared.places.Place.TheVariants as place
use Rattle.placement.specs.declared.places.Moved.{Moved}
use Rattle.placement.specs.declared.places.Moved.TheVariants as moved
use Rattle.debugger.specs.Refusals.{Decides}
use Rattle.world.specs.declared.replies.Reply.{Reply}
use Rattle.world.specs.declared.replies.Reply.TheVariants.{Made, Done, Bytes, NoMemory, Full, NoRoom, Outside, Away}
use Rattle.world.specs.declared.replies.Reply.TheVariants as reply
use Rattle.world.specs.declared.events.ObjectCommand.{ObjectCommand}
use Rattle.world.specs.declared.events.ObjectCommand.TheVariants.{Free, Put, Get, Move}
use Rattle.world.specs.declared.world.moving.Move.{Move as MoveKind}
use Rattle.world.specs.WorldState.{WorldState}
use Rattle.world.specs.Answers.{AnswersMake, AnswersPut, AnswersGet, AnswersMove, AnswersObject}
use Rattle.world.specs.Moves.{Moves}
use Rattle.world_laws.specs.Replies.{is_settled}
use Rattle.world_laws.proofs.Deciding.{decides_once}
use Rattle.world_laws.proofs.EachMove.{StoreMoves, MoveNeeds, MoveFirsts, MoveLeads, move_refusals, Settles, freed_settles, moved_settles, frees_first, frees_leads, decided_so}

-- two answers to one command are the same, where they leave as many faults
abbrev pub OneWay : (WorldState → Reply → WorldState → Type 0) → Type 0
OneWay answers = (old new other : WorldState) (a b : Reply) → answers old a new → answers old b other → new.store.faults ≡ other.store.faults
    → is_settled a ≡ true → is_settled b ≡ true → (a ≡ b) × (new ≡ other)

-- an answer is the first need that isn't met
abbrev Firsts : (WorldState → Reply → WorldState → Type 0) → (WorldState → Reply → Type 0) → (WorldState → List Reply) → (WorldState → Reply) → Type 0
Firsts answers Needs refusals done = (old new : WorldState) (r : Reply) → answers old r new → is_settled r ≡ true
    → Decides (Needs old) (refusals old) (done old) r

-- an answer leads to one state
abbrev Leads : (WorldState → Reply → WorldState → Type 0) → Type 0
Leads answers = (old new other : WorldState) (r : Reply) → answers old r new → answers old r other → new ≡ other

decided : (answers : WorldState → Reply → WorldState → Type 0) (Needs : WorldState → Reply → Type 0) (refusals : WorldState
    → List Reply) (done : WorldState → Reply)
    → Firsts answers Needs refusals done → Leads answers → OneWay answers
decided answers Needs refusals done first leads old new other a b g h f p q =
    let e = decides_once (Needs old) (refusals old) (done old) a b (first old new a g p) (first old other b h q) in
    (e, leads old new other b (subst (λ (x : Reply). answers old x new) e g) h)

same_stores : (old new other : WorldState) → new.store ≡ other.store → new ≡ record old { store = new.store }
    → other ≡ record old { store = other.store } → new ≡ other
same_stores old new other e g h = g ∙ ap (λ (s : StoreState). record old { store = s }) e ∙ sym h

-- ---- making, writing and reading

abbrev MakeNeeds : ℕ → WorldState → Reply → Type 0
MakeNeeds z old Full = IsFull old.store.objects → ⊥
MakeNeeds z old NoRoom = HasRoom old.store z
MakeNeeds z old _ = Unit {0}

make_first : (z : ℕ) → Firsts (λ old r new. AnswersMake old z r new) (MakeNeeds z) (λ old. Full ∷ NoRoom ∷ []) (λ old. Made (length old.store.objects))
make_first z old new Full g p = inl ((λ n. n g.0.0), refl)
make_first z old new NoRoom g p = inr (g.0.0, inl (g.0.1, refl))
make_first z old new (Made n) g p = inr (g.0.0, inr (g.0.1, ap Made g.0.2))
make_first z old new NoMemory g p = absurd (cc)
make_first z old new _ g p = absurd g

make_leads : (z : ℕ) → Leads (λ old r new. AnswersMake old z r new)
make_leads z old new other Full g h = same_stores old new other (g.0.1 ∙ sym h.0.1) g.1 h.1
make_leads z old new other NoRoom g h = same_stores old new other (g.0.2 ∙ sym h.0.2) g.1 h.1
make_leads z old new other NoMemory g h = same_stores old new other (g.0.2 ∙ sym h.0.2) g.1 h.1
make_leads z old new other (Made n) g h = same_stores old new other (g.0.3 ∙ sym h.0.3) g.1 h.1
make_leads z old new other _ g h = absurd g

pub make : (z : ℕ) → OneWay (λ old a new. AnswersMake old z a new)
make z = decided (λ old r new. AnswersMake old z r new) (MakeNeeds z) (λ old. Full ∷ NoRoom
    ∷ []) (λ old. Made (length old.store.objects)) (make_first z) (make_leads z)

-- the range is in the object, which is here
abbrev RangeNeeds : ℕ → ℕ → ℕ → WorldState → Reply → Type 0
RangeNeeds n o z old Outside = HasRange old.store.objects n o z
RangeNeeds n o z old (Away k) = place_of old.store.places n ≡ place.Here
RangeNeeds n o z old _ = Unit {0}

put_first : (n o : ℕ) (bytes : List ℕ) → Firsts (λ old r new. AnswersPut old n o bytes r new) (RangeNeeds n o (length bytes)) (λ old. Outside ∷ Away n
    ∷ []) (λ old. Done)
put_first n o bytes old new Outside g p = inl (g.0.0, refl)
put_first n o bytes old new (Away k) g p = inr (g.1.0.0, inl (g.1.0.1, ap Away g.0))
put_first n o bytes old new Done g p = inr (g.0.0, inr (g.0.1, refl))
put_first n o bytes old new _ g p = absurd g

put_leads : (n o : ℕ) (bytes : List ℕ) → Leads (λ old r new. AnswersPut old n o bytes r new)
put_leads n o bytes old new other Outside g h = same_stores old new other (g.0.1 ∙ sym h.0.1) g.1 h.1
put_leads n o bytes old new other (Away k) g h = same_stores old new other (g.1.0.2 ∙ sym h.1.0.2) g.1.1 h.1.1
put_leads n o bytes old new other Done g h = same_stores old new other (g.0.2 ∙ sym h.0.2) g.1 h.1
put_leads n o bytes old new other _ g h = absurd g

put : (n o : ℕ) (bytes : List ℕ) → OneWay (λ old a new. AnswersPut old n o bytes a new)
put n o bytes = decided (λ old r new. AnswersPut old n o bytes r new) (RangeNeeds n o (length bytes)) (λ old. Outside ∷ Away n
    ∷ []) (λ old. Done) (put_first n o bytes) (put_leads n o bytes)

-- a get is answered, and the world stays as it is
abbrev GetsAndKeeps : ℕ → ℕ → ℕ → WorldState → Reply → WorldState → Type 0
GetsAndKeeps n o z old r new = AnswersGet old.store n o z r × (new ≡ old)

get_first : (n o z : ℕ) → Firsts (GetsAndKeeps n o z) (RangeNeeds n o z) (λ old. Outside ∷ Away n ∷ []) (λ old. Bytes (range_of old.store.objects n o z))
get_first n o z old new Outside g p = inl (g.0, refl)
get_first n o z old new (Away k) g p = inr (g.0.1.0, inl (g.0.1.1, ap Away g.0.0))
get_first n o z old new (Bytes x) g p = inr (g.0.0, inr (g.0.1, ap Bytes g.0.2))
get_first n o z old new NoMemory g p = absurd (cc)
get_first n o z old new _ g p = absurd g.0

get : (n o z : ℕ) → OneWay (GetsAndKeeps n o z)
get n o z = decided (GetsAndKeeps n o z) (RangeNeeds n o z) (λ old. Outside ∷ Away n
    ∷ []) (λ old. Bytes (range_of old.store.objects n o z)) (get_first n o z) (λ old new other r g h. g.1 ∙ sym h.1)

-- ---- moves

moved_once : (moves : StoreMoves) (from : Place) (more : List Moved) → MoveFirsts moves from more → MoveLeads moves → (reply_with : Moved → Reply)
    → Settles reply_with → (n : ℕ) → OneWay (λ old a new. AnswersMove moves reply_with old n a new)
moved_once moves from more first leads reply_with settles n old new other a b g h f p q =
    let x = settles g.moved (sym (ap is_settled g.replied) ∙ p) in
    let y = settles h.moved (sym (ap is_settled h.replied) ∙ q) in
    let e = decides_once (MoveNeeds from old.store n) (move_refusals old.store n more) moved.Done g.moved h.moved
    (first old.store new.store n g.moved g.move x) (first old.store other.store n h.moved h.move y) in
    let s = leads old.store new.store other.store n h.moved (subst (λ (m : Moved). moves old.store n m new.store) e g.move) h.move f y in
    (g.replied ∙ ap reply_with e ∙ sym h.replied, same_stores old new other s g.changed h.changed)

moving : (m : MoveKind) (n : ℕ) → OneWay (λ old a new. AnswersMove (Moves m) (reply.Moved n m) old n a new)
moving m n = let o = decided_so m in moved_once (Moves m) o.start o.more o.first o.leads (reply.Moved n m) (moved_settles n m) n

-- ---- all commands on objects

pub object : (n : ℕ) (c : ObjectCommand) → OneWay (λ old a new. AnswersObject old n c a new)
object n Free = moved_once Frees place.Here (moved.Scoped ∷ []) frees_first frees_leads (reply.Freed n) (freed_settles n) n
object n (Put offset bytes) = put n offset bytes
object n (Get offset size) = get n offset size
object n (Move m) = moving m n
