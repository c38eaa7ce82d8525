-- The rule of the table: what its words, bodies and views have to do with one another, between any two steps.
use Rattle.std.specs.Prelude.{◌≡◌, ◌≢◌, ◌⊎◌, Bool, true, false, ℕ, ◌+◌, ◌*◌, ◌^◌, ◌<◌, ◌≤◌, List, [], ◌∷◌, length, slice_index, slice_index_or, cond, ◌==◌}
use Rattle.std.specs.Prelude.{Option, Some, None}
use mathlib.Core.Option.{some, none}
use mathlib.Core.Option as maybe
use lib.ListN.{get_elem?}
use Rattle.atomic_table.specs.Table.{State}
use Rattle.memory.specs.Objects.{bytes_of}
use Rattle.pointer_word.specs.Words.{packed}
use Rattle.scopes.specs.Windows.{window_limit}
use Rattle.shared_objects.specs.History.{Has, Rises, Chained, AllInside, top, fold, Answers}
use Rattle.shared_objects.specs.declared.body.Body.{Body}
use Rattle.shared_objects.specs.declared.view.SharedEntry.{SharedEntry}
use Rattle.shared_objects.specs.declared.view.Mark.{Mark}
use Rattle.shared_objects.specs.declared.view.Mark.TheVariants.{Away, Busy, Worn}
use Rattle.shared_objects.specs.declared.view.Turn.{Turn}
use Rattle.shared_objects.specs.declared.view.Part.{Part}
use Rattle.shared_objects.specs.declared.view.Cooling.{Cooling}
use Rattle.shared_objects.specs.declared.view.Whereabouts.{Whereabouts}
use Rattle.shared_objects.specs.declared.view.Whereabouts.TheVariants.{Here, Moving, Far}
use Rattle.shared_objects.specs.declared.view.View.{View}

-- ---- counts

-- the numbers that f gives, added up
abbrev pub total : {A : Type 0} → (A → ℕ) → List A → ℕ
total f [] = 0
total f (x ∷ xs) = f x + total f xs

-- 1 where the numbers are the same
abbrev pub same : ℕ → ℕ → ℕ
same x n = cond (x == n) 1 0

-- how often n stands in the list
abbrev pub times : ℕ → List ℕ → ℕ
times n [] = 0
times n (x ∷ xs) = same x n + times n xs

-- 1 where it is the turn of the object n
abbrev pub turns_on : ℕ → Option Turn → ℕ
turns_on n None = 0
turns_on n (Some t) = same t.object n

-- 1 where the seat holds the turn of the object n
abbrev pub has_turn : ℕ → View → ℕ
has_turn n v = turns_on n v.turn

-- 1 where the seat has the object n open, found here
abbrev pub has_open : ℕ → View → ℕ
has_open n v = times n v.scopes

-- 1 where the seat counts at n, found away
abbrev pub has_pass : ℕ → View → ℕ
has_pass n v = times n v.passing

-- where the object n is for the seat
abbrev pub place_of : View → ℕ → Whereabouts
place_of v n = slice_index_or v.out n Here

-- 1 where it is on its way
abbrev pub is_moving : Whereabouts → ℕ
is_moving Here = 0
is_moving (Moving bytes) = 1
is_moving (Far bytes) = 0

-- 1 where it is far
abbrev pub is_far : Whereabouts → ℕ
is_far Here = 0
is_far (Moving bytes) = 0
is_far (Far bytes) = 1

-- the bytes that were taken
abbrev pub bytes_taken : Whereabouts → Option (List ℕ)
bytes_taken Here = None
bytes_taken (Moving bytes) = Some bytes
bytes_taken (Far bytes) = Some bytes

-- 1 where the seat has the object n on its way
abbrev pub has_moving : ℕ → View → ℕ
has_moving n v = is_moving (place_of v n)

-- 1 where the seat has the object n far
abbrev pub has_far : ℕ → View → ℕ
has_far n v = is_far (place_of v n)

-- 1 where the entry is of the object n
abbrev pub entry_on : ℕ → SharedEntry → ℕ
entry_on n e = same e.object n

-- 1 where the mark is that the turn of the object n was asked for, and ended without an entry or was another's
abbrev pub mark_on : ℕ → Mark → ℕ
mark_on n (Away k) = 0
mark_on n (Busy k) = same k n
mark_on n (Worn k found) = same k n

-- how often the turn of the object n was asked for and is not held any more, by these entries and marks
abbrev pub touches_in : ℕ → List SharedEntry → List Mark → ℕ
touches_in n entries marks = total (entry_on n) entries + total (mark_on n) marks

-- the same, of a seat that was taken in
abbrev pub part_touches : ℕ → Part → ℕ
part_touches n p = touches_in n p.entries p.marks

-- how often the seat, and those that it took in, asked for the turn of the object n
abbrev pub has_touched : ℕ → View → ℕ
has_touched n v = has_turn n v + touches_in n v.entries v.marks + total (part_touches n) v.gathered

-- 1 where the object n was cooled, and was hot
abbrev pub cooled_on : ℕ → Cooling → ℕ
cooled_on n c = cond c.hot (same c.object n) 0

-- how often the seat cooled the object n and found it hot
abbrev pub has_cooled : ℕ → View → ℕ
has_cooled n v = total (cooled_on n) v.coolings

-- 1 where the seat was not taken in
abbrev pub is_live : View → ℕ
is_live v = cond v.live 1 0

-- a seat that was taken in
abbrev pub spent : View
spent = record {
  made = 0;
  alive = 0;
  live = false;
  gathered = [];
  actor = 0;
  opening = [];
  returns = false;
  scopes = [];
  passing = [];
  turn = None;
  entries = [];
  marks = [];
  out = [];
  coolings = [];
}

-- how many seats have the turn of an object, have it open, pass by, have it on its way, and have it far; how often its turn was
-- asked for, and how often it was cooled and found hot
pub record Tally : Type 0 where
  pub turns : ℕ
  pub opens : ℕ
  pub passes : ℕ
  pub moving : ℕ
  pub far : ℕ
  pub touched : ℕ
  pub cooled : ℕ

-- the object n, as all seats have it
abbrev pub tally : ℕ → List View → Tally
tally n vs = record {
  turns = total (has_turn n) vs;
  opens = total (has_open n) vs;
  passes = total (has_pass n) vs;
  moving = total (has_moving n) vs;
  far = total (has_far n) vs;
  touched = total (has_touched n) vs;
  cooled = total (has_cooled n) vs;
}

-- ---- the rule

-- An entry of one of these parts.
abbrev pub HasPart : List Part → SharedEntry → Type 0
HasPart parts e = (p : Part) × Has parts p × Has p.entries e

-- The seat has the entry, or took it in.
abbrev pub Written : View → SharedEntry → Type 0
Written v e = Has v.entries e ⊎ HasPart v.gathered e

-- The bytes are as long as the opening ones; and where far stores give back what was put, they are the fold of the entries.
abbrev pub Stands : Bool → List ℕ → List SharedEntry → List ℕ → Type 0
Stands returns opening log bytes = (length bytes ≡ length opening) × (returns ≡ true → bytes ≡ fold opening log)

-- how many actors a table may have
abbrev pub actor_limit : ℕ
actor_limit = 56

-- how many seats: one of each actor, and the mover's
abbrev pub seat_limit : ℕ
seat_limit = actor_limit + 1

-- the word of the object n, so that the words of two objects never share a cache line
abbrev pub word_of : ℕ → ℕ
word_of n = n * 16

-- Where the body of an object is: its opening bytes, what all seats have of it, its slot, and its entries.
pub data SlotFits (returns : Bool) (opening : List ℕ) (t : Tally) (home : maybe.Option (maybe.Option Body)) (log : List SharedEntry) : Type 0 where
  -- the object is here with no turn held: the body is at home
  AtHome : t.moving + t.far + t.turns ≡ 0 → (body : Body) → home ≡ some (some body) → Stands returns opening log body.bytes.items
      → SlotFits returns opening t home log
  -- its turn is held, or it is on its way: a seat has the slot
  Lent : 0 < t.moving + t.turns → home ≡ some none → SlotFits returns opening t home log
  -- it is far: some body is at home, which stands for nothing
  Idle : 0 < t.far → (body : Body) → home ≡ some (some body) → SlotFits returns opening t home log

-- One object: its opening bytes, what all seats have of it, its word, its slot, and its entries.
pub record Fits (returns : Bool) (opening : List ℕ) (t : Tally) (word : ℕ) (home : maybe.Option (maybe.Option Body)) (log : List SharedEntry) : Type 0 where
  -- 1 where it was used since it was cooled last
  pub hot : ℕ
  -- the place's number is 1 where a seat has the object on its way, and 2 where one has it far
  pub word_is : word ≡ packed (t.moving + 2 * t.far) t.turns hot (t.opens + t.passes) (top 0 log)
  pub one_hot : hot ≤ 1
  -- it is hot, and was found hot, at most once for each time that its turn was asked for
  pub heat : hot + t.cooled ≤ t.touched
  pub one_turn : t.turns ≤ 1
  pub one_out : t.moving + t.far ≤ 1
  -- an object that is open, or hot, or whose turn is held, is here
  pub here : 0 < t.moving + t.far → t.opens + t.turns + hot ≡ 0
  pub small : top 0 log < 2 ^ 48
  pub chained : Chained 0 log
  pub inside : AllInside (length opening) log
  pub answers : returns ≡ true → Answers opening log
  pub slot : SlotFits returns opening t home log

-- The turn that a seat holds has the latest stamp and bytes, and at most four scopes are open meanwhile.
abbrev pub TurnFits : Bool → List (List ℕ) → (ℕ → List SharedEntry) → List ℕ → Turn → Type 0
TurnFits returns opening logs scopes t = (t.stamp ≡ top 0 (logs t.object)) × Stands returns (bytes_of opening t.object) (logs t.object) t.bytes
    × (length scopes ≤ window_limit)

-- The stamp that a worn turn found stands in the object's entries, or below.
abbrev pub MarkFits : (ℕ → List SharedEntry) → Mark → Type 0
MarkFits logs (Away n) = Unit {0}
MarkFits logs (Busy n) = Unit {0}
MarkFits logs (Worn n found) = found ≤ top 0 (logs n)

-- One seat: what it has done is in the objects' entries, and what it holds or has out is the latest.
pub record Knows (returns : Bool) (opening : List (List ℕ)) (logs : ℕ → List SharedEntry) (id : ℕ) (v : View) : Type 0 where
  pub actor : v.live ≡ true → v.actor ≡ id
  pub opening_is : v.live ≡ true → v.opening ≡ opening
  pub returns_is : v.live ≡ true → v.returns ≡ returns
  pub idle : v.live ≡ false → v ≡ spent
  -- the first seat made the others, and opens nothing
  pub first : id ≡ 0 → (0 < v.made) × (v.scopes ≡ []) × (v.passing ≡ [])
  -- and takes them in
  pub alone : id ≢ 0 → v.gathered ≡ []
  pub opens_once : (n : ℕ) → has_open n v + has_pass n v ≤ 1
  pub turn : (t : Turn) → v.turn ≡ Some t → TurnFits returns opening logs v.scopes t
  pub out : (n : ℕ) (bytes : List ℕ) → bytes_taken (place_of v n) ≡ Some bytes → Stands returns (bytes_of opening n) (logs n) bytes
  pub entries : (e : SharedEntry) → Has v.entries e → (e.actor ≡ id) × Has (logs e.object) e
  pub marks : (m : Mark) → Has v.marks m → MarkFits logs m
  pub rises : Rises 0 v.entries

-- What a seat that was taken in had done is in the objects' entries, and its seat is spent.
pub record PartFits (logs : ℕ → List SharedEntry) (views : List View) (p : Part) : Type 0 where
  pub rises : Rises 0 p.entries
  pub entries : (e : SharedEntry) → Has p.entries e → (e.actor ≡ p.actor) × Has (logs e.object) e
  pub marks : (m : Mark) → Has p.marks m → MarkFits logs m
  pub gone : get_elem? views p.actor ≡ some spent

-- The objects: each has its word, its slot and its entries.
pub record ObjectsFit (returns : Bool) (opening : List (List ℕ)) (s : State Body View) (logs : ℕ → List SharedEntry) : Type 0 where
  pub words : length s.words ≡ word_of (length opening)
  pub slots : length s.homes ≡ length opening
  pub fits : (n : ℕ) → n < length opening → Fits returns (bytes_of opening n) (tally n s.views) (slice_index s.words (word_of n)) (get_elem? s.homes n) (logs n)
  -- there are entries of the objects alone
  pub nowhere : (n : ℕ) → length opening ≤ n → logs n ≡ []

-- The seats: each knows what it has done, and the first made the others and takes them in.
pub record SeatsFit (returns : Bool) (opening : List (List ℕ)) (s : State Body View) (logs : ℕ → List SharedEntry) : Type 0 where
  pub few : length s.views ≤ seat_limit
  pub knows : (id : ℕ) (v : View) → get_elem? s.views id ≡ some v → Knows returns opening logs id v
  -- the first seat made the others
  pub dealer : (id : ℕ) (v : View) → get_elem? s.views id ≡ some v → 0 < v.made → (id ≡ 0) × (v.made ≡ length s.views) × (v.alive ≡ total is_live s.views)
  -- what it has taken in
  pub parts : (id : ℕ) (v : View) → get_elem? s.views id ≡ some v → (p : Part) → Has v.gathered p → PartFits logs s.views p
  -- no two parts are of one actor
  pub apart : (id : ℕ) (v : View) → get_elem? s.views id ≡ some v → (j k : ℕ) (p q : Part) → get_elem? v.gathered j ≡ some p
      → get_elem? v.gathered k ≡ some q → p.actor ≡ q.actor → j ≡ k

-- The whole table.
pub record Kept (returns : Bool) (opening : List (List ℕ)) (s : State Body View) : Type 0 where
  -- the entries of each object, by rising stamps
  pub logs : ℕ → List SharedEntry
  pub objects : ObjectsFit returns opening s logs
  pub seats : SeatsFit returns opening s logs
  -- they are entries of the seats
  pub whole : (n : ℕ) (e : SharedEntry) → Has (logs n) e → (e.object ≡ n) × ((id : ℕ) × (v : View) × (get_elem? s.views id ≡ some v) × Written v e)
