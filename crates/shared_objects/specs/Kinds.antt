-- The kinds of step, by what each tells: of the step, the seat before, the word found and the seat after. There are nine:
-- open scope, close scope, take turn, give turn, begin leave, end leave, begin return, end return and cool.
use Rattle.std.specs.Prelude.{◌≡◌, ◌≢◌, ℕ, ◌+◌, ◌-◌, ◌^◌, Bool, true, nat_eq, ◌/◌, ◌%◌, List, [], ◌∷◌, ◌++◌, length, map, slice_set, ◌==◌, if◌then◌else◌, Some}
use Rattle.std.specs.Prelude.{None}
use Rattle.atomic_table.specs.Table.{Me, Step, State, rest}
use mathlib.Core.Option.{some}
use lib.ListN.{get_elem?}
use Rattle.std.specs.Prelude.{slice_index}
use Rattle.memory.specs.Objects.{bytes_of}
use Rattle.memory.specs.declared.deeds.Deed.TheVariants.{Reads}
use Rattle.memory.specs.declared.deeds.Given.TheVariants.{Nothing}
use Rattle.scopes.specs.Windows.{noted}
use Rattle.shared_objects.specs.Rule.{place_of, word_of, spent, Kept}
use Rattle.shared_objects.specs.declared.body.Body.{Body}
use Rattle.shared_objects.specs.declared.view.SharedEntry.{SharedEntry}
use Rattle.shared_objects.specs.declared.view.Turn.{Turn}
use Rattle.shared_objects.specs.declared.view.Mark.{Mark}
use Rattle.shared_objects.specs.declared.view.Mark.TheVariants.{Away, Busy, Worn}
use Rattle.shared_objects.specs.declared.view.Whereabouts.{Whereabouts}
use Rattle.shared_objects.specs.declared.view.Whereabouts.TheVariants.{Here, Moving, Far}
use Rattle.shared_objects.specs.declared.view.Part.{Part}
use Rattle.shared_objects.specs.declared.view.Cooling.{Cooling}
use Rattle.shared_objects.specs.declared.view.View.{View}

-- a seat: its view, and the bodies that it has, each with its object
abbrev pub Sat : Type 0
Sat = Me Body View

-- what a seat knows
abbrev pub view_of : Sat → View
view_of seat = seat.0

-- the seat with another view, and the bodies that it had
abbrev pub seat_keeping : View → Sat → Sat
seat_keeping view seat = (view, seat.1)

-- the seat with another view, and with one body more
abbrev pub seat_taking : View → ℕ → Body → Sat → Sat
seat_taking view object body seat = (view, (object, body) ∷ seat.1)

-- the seat with another view, and without its first body
abbrev pub seat_giving : View → Sat → Sat
seat_giving view seat = (view, rest seat.1)

-- what a step tells
abbrev pub Play : Type 1
Play = Step Body → Sat → ℕ → Sat → Type 0

-- the object whose word it is
abbrev pub object_at : ℕ → ℕ
object_at word = word / 16

-- a turn on an object
abbrev pub turn : ℕ → ℕ → List ℕ → Turn
turn object stamp bytes = record { object = object; stamp = stamp; bytes = bytes }

-- the list without the first n that stands in it
abbrev pub without : ℕ → List ℕ → List ℕ
without n [] = []
without n (x ∷ xs) = if x == n then xs else x ∷ without n xs

-- ---- views

-- the first seat of a table: it has done nothing, each object is here, and none was cooled
abbrev pub dealer : Bool → List (List ℕ) → View
dealer returns opening = record spent { made = 1; alive = 1; live = true; opening = opening; returns = returns; out = map (λ _. Here) opening }

-- the first seat made one more
abbrev pub dealt : View → View
dealt v = record v { made = v.made + 1; alive = v.alive + 1 }

-- the seat that the first one makes next: its actor is the number of seats before it. It has done nothing either.
abbrev pub newcomer : View → View
newcomer v = record spent { live = true; actor = v.made; opening = v.opening; returns = v.returns }

-- what an actor did
abbrev pub part : ℕ → List SharedEntry → List Mark → Part
part actor entries marks = record { actor = actor; entries = entries; marks = marks }

-- the first seat takes these in
abbrev pub gathers_all : View → List Part → View
gathers_all v parts = record v { alive = v.alive - length parts; gathered = v.gathered ++ parts }

-- the first seat takes another in
abbrev pub gathers : View → View → View
gathers v w = record v { alive = v.alive - 1; gathered = v.gathered ++ part w.actor w.entries w.marks ∷ [] }

-- the object n is open, found here
abbrev pub with_scope : ℕ → View → View
with_scope n v = record v { scopes = v.scopes ++ n ∷ [] }

-- it is open no more
abbrev pub without_scope : ℕ → View → View
without_scope n v = record v { scopes = without n v.scopes }

-- the object n is counted, found away
abbrev pub with_pass : ℕ → View → View
with_pass n v = record v { passing = v.passing ++ n ∷ []; marks = v.marks ++ Away n ∷ [] }

-- it is counted no more
abbrev pub without_pass : ℕ → View → View
without_pass n v = record v { passing = without n v.passing }

-- the open objects are the window, in which n was noted
abbrev pub looking : ℕ → View → View
looking n v = record v { scopes = noted n v.scopes }

-- no object is open
abbrev pub shut : View → View
shut v = record v { scopes = [] }

-- one mark more
abbrev pub marked : Mark → View → View
marked m v = record v { marks = v.marks ++ m ∷ [] }

-- the seat has the turn
abbrev pub holding : ℕ → ℕ → List ℕ → View → View
holding n stamp bytes v = record v { turn = Some (turn n stamp bytes) }

-- the turn ends with one entry more
abbrev pub recorded : SharedEntry → View → View
recorded e v = record v { turn = None; entries = v.entries ++ e ∷ [] }

-- the turn ends without an entry, since the stamps have run out
abbrev pub worn_out : ℕ → ℕ → View → View
worn_out n found v = record v { turn = None; marks = v.marks ++ Worn n found ∷ [] }

-- the object n is in this place
abbrev pub placed : ℕ → Whereabouts → View → View
placed n p v = record v { out = slice_set v.out n p }

-- a cooling of the object n, which was hot then, or not
abbrev pub cooling : ℕ → Bool → Cooling
cooling n hot = record { object = n; hot = hot }

-- the object n was cooled once more, and was hot then, or not
abbrev pub with_cooling : ℕ → Bool → View → View
with_cooling n hot v = record v { coolings = v.coolings ++ cooling n hot ∷ [] }

-- what is on its way is far
abbrev pub sent : Whereabouts → Whereabouts
sent Here = Here
sent (Moving bytes) = Far bytes
sent (Far bytes) = Far bytes

-- what is far is on its way
abbrev pub called : Whereabouts → Whereabouts
called Here = Here
called (Moving bytes) = Moving bytes
called (Far bytes) = Moving bytes

-- ---- kinds

-- open scope: the object is open where it was found here, else counted
abbrev pub opens_scope : Play
opens_scope st before found after = (found % 4 ≡ 0 → after ≡ seat_keeping (with_scope (object_at st.word) (view_of before)) before)
    × (found % 4 ≢ 0 → after ≡ seat_keeping (with_pass (object_at st.word) (view_of before)) before)

-- close scope, of an object that is open
abbrev pub closes_scope : Play
closes_scope st before found after = after ≡ seat_keeping (without_scope (object_at st.word) (view_of before)) before

-- close scope, of an object that was found away
abbrev pub leaves_pass : Play
leaves_pass st before found after = after ≡ seat_keeping (without_pass (object_at st.word) (view_of before)) before

-- the body is as long as the opening bytes of the object
abbrev pub IsBodyOf : ℕ → Sat → Body → Type 0
IsBodyOf object seat body = length body.bytes.items ≡ length (bytes_of (view_of seat).opening object)

-- the seat has the turn with the body
abbrev pub Took : ℕ → ℕ → Sat → Sat → Type 0
Took object found before after = (body : Body)
    × (after ≡ seat_taking (holding object (found / 65536) body.bytes.items (view_of before)) object body before) × IsBodyOf object before body

-- take turn: the marks of a turn and of heat are set, and the seat has the turn where nobody had it
abbrev pub takes_turn : Play
takes_turn st before found after = (st.first ≡ 12) × (found / 4 % 2 ≡ 0 → Took (object_at st.word) found before after)
    × (found / 4 % 2 ≡ 1 → after ≡ seat_keeping (marked (Busy (object_at st.word)) (view_of before)) before)

-- give turn, with an entry
abbrev pub gives_turn : SharedEntry → Play
gives_turn e st before found after = after ≡ seat_giving (recorded e (view_of before)) before

-- give turn, without an entry: the mark of a turn alone is cleared, and the seat's mark says which stamp it had found
abbrev pub gives_up_turn : Play
gives_up_turn st before found after = (st.first ≡ 4)
    × ((t : Turn) × ((view_of before).turn ≡ Some t) × (after ≡ seat_giving (worn_out t.object t.stamp (view_of before)) before))

-- the mover has the body, and the object is on its way
abbrev pub Lifted : ℕ → Sat → Sat → Type 0
Lifted object before after = (body : Body)
    × (after ≡ seat_taking (placed object (Moving body.bytes.items) (view_of before)) object body before) × IsBodyOf object before body

-- begin leave: the word that is put has the stamp of the one expected, and the object on its way. Where another was found nothing
-- changed
abbrev pub begins_leave : Play
begins_leave st before found after = (st.second ≡ st.first - st.first % 65536 + 1) × (found ≡ st.first → Lifted (object_at st.word) before after) × (found ≢ st.first → after ≡ before)

-- end leave: what was on its way is far, and its slot is at home
abbrev pub ends_leave : Play
ends_leave st before found after = after
    ≡ seat_giving (placed (object_at st.word) (sent (place_of (view_of before) (object_at st.word))) (view_of before)) before

-- begin return: what was far is on its way, and its slot is with the mover
abbrev pub begins_return : Play
begins_return st before found after = (body : Body)
    × (after ≡ seat_taking (placed (object_at st.word) (called (place_of (view_of before) (object_at st.word))) (view_of before))
    (object_at st.word) body before)

-- end return: the object is here, and its slot is at home
abbrev pub ends_return : Play
ends_return st before found after = after ≡ seat_giving (placed (object_at st.word) Here (view_of before)) before

-- cool: the mark of heat is cleared, and the mover knows whether it was set
abbrev pub cools : Play
cools st before found after = (st.first ≡ 2 ^ 64 - 9)
    × (after ≡ seat_keeping (with_cooling (object_at st.word) (nat_eq (found / 8 % 2) 1) (view_of before)) before)

-- ---- a look, which is no step

-- There was a moment at which the whole of a table that was opened so kept the rule, this seat had this view, and the word of
-- the object was this number.
abbrev pub Witness : Bool → List (List ℕ) → View → ℕ → ℕ → Type 0
Witness returns opening v n word = (s : State Body View)
    × ((id : ℕ) × Kept returns opening s × (get_elem? s.views id ≡ some v) × (slice_index s.words (word_of n) ≡ word))

-- a look changes nothing
abbrev pub looks : Bool → List (List ℕ) → Play
looks returns opening st before found after = (st.first ≡ 0) × (after ≡ before) × Witness returns opening (view_of before) (object_at st.word) found

-- an entry that none has
abbrev pub no_entry : SharedEntry
no_entry = record { actor = 0; stamp = 0; found = 0; object = 0; deed = Reads 0 0; given = Nothing }
