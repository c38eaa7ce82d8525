-- The word of an object, and what each call changes in it. The words are this project's choice, after AIFM's pointers.
use Rattle.std.specs.Prelude.{ℕ, ◌+◌, ◌-◌, ◌*◌, ◌<◌, ◌^◌, nat_lt, nat_le, nat_eq, ◌&&◌, not, Bool, true, false, cond, Option, Some, None}
use Rattle.pointer_word.specs.declared.word.WordPlace.{WordPlace}
use Rattle.pointer_word.specs.declared.word.WordPlace.TheVariants.{Local, Moving, Far}

-- what the word of an object says: its place, two marks and two counts
pub record WordRecord : Type 0 where
  -- where the object is
  pub place : WordPlace
  -- an actor has its turn
  pub turn : Bool
  -- it was used lately
  pub hot : Bool
  -- how many scopes are open on it
  pub count : ℕ
  -- of the last entry of its history
  pub stamp : ℕ

-- the two bits of each place; 3 is none
abbrev pub place_number : WordPlace → ℕ
place_number Local = 0
place_number Moving = 1
place_number Far = 2

-- a mark by number
abbrev pub bit : Bool → ℕ
bit true = 1
bit false = 0

-- a word as a number, by the numbers of its place, its turn and its heat, by its count and its stamp
abbrev pub packed : ℕ → ℕ → ℕ → ℕ → ℕ → ℕ
packed place turn hot count stamp = place + 4 * turn + 8 * hot + 256 * count + 65536 * stamp

-- the word as a number
abbrev pub word_number : WordRecord → ℕ
word_number w = packed (place_number w.place) (bit w.turn) (bit w.hot) w.count w.stamp

-- the greatest stamp
abbrev pub stamp_limit : ℕ
stamp_limit = 2 ^ 48 - 1

-- the counts are those that the word has room for
abbrev pub HasFields : WordRecord → Type 0
HasFields w = (w.count < 256) × (w.stamp < 2 ^ 48)

-- the word of a new object
abbrev pub new_word : WordRecord
new_word = record { place = Local; turn = false; hot = false; count = 0; stamp = 0 }

-- whether the place is local: the object is here
abbrev pub is_local : WordPlace → Bool
is_local Local = true
is_local _ = false

-- whether the object is moving, one way or the other
abbrev pub is_moving : WordPlace → Bool
is_moving Moving = true
is_moving _ = false

-- whether the object is far
abbrev pub is_far : WordPlace → Bool
is_far Far = true
is_far _ = false

-- the changed word, where the call applies
abbrev pub where_it_applies : Bool → WordRecord → Option WordRecord
where_it_applies applies w = cond applies (Some w) None

-- a scope is opened, where the count has room
abbrev pub opened : WordRecord → Option WordRecord
opened w = where_it_applies (nat_lt w.count 255) (record w { count = w.count + 1 })

-- a scope is closed, where one is open
abbrev pub closed : WordRecord → Option WordRecord
closed w = where_it_applies (nat_lt 0 w.count) (record w { count = w.count - 1 })

-- an actor takes the turn, where the object is here and nobody has it; the object is hot then
abbrev pub turn_taken : WordRecord → Option WordRecord
turn_taken w = where_it_applies (is_local w.place && not w.turn) (record w { turn = true; hot = true })

-- the turn is given back, with a stamp that is no less
abbrev pub turn_given : WordRecord → ℕ → Option WordRecord
turn_given w s = where_it_applies (w.turn && nat_le w.stamp s && nat_le s stamp_limit) (record w { turn = false; stamp = s })

-- the object is not hot, whatever it was
abbrev pub cooled : WordRecord → WordRecord
cooled w = record w { hot = false }

-- the object begins to leave, where no scope is open and nobody has the turn; it is not hot then
abbrev pub leaving : WordRecord → Option WordRecord
leaving w = where_it_applies (is_local w.place && nat_eq w.count 0 && not w.turn) (record w { place = Moving; hot = false })

-- a move ends, and the object is far
abbrev pub gone_far : WordRecord → Option WordRecord
gone_far w = where_it_applies (is_moving w.place) (record w { place = Far })

-- the object begins to return
abbrev pub returning : WordRecord → Option WordRecord
returning w = where_it_applies (is_far w.place) (record w { place = Moving })

-- a move ends, and the object is here
abbrev pub home : WordRecord → Option WordRecord
home w = where_it_applies (is_moving w.place) (record w { place = Local })
