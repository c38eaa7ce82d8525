-- What the rule and the one list say, apart from any call.
use Rattle.std.specs.Prelude.{◌≡◌, Bool, true, ℕ, ◌+◌, ◌*◌, ◌/◌, ◌%◌, ◌<◌, ◌≤◌, List, ◌∷◌, ◌++◌, length, slice_index, Some}
use mathlib.Core.Option.{some}
use lib.ListN.{get_elem?}
use Rattle.atomic_table.specs.Table.{State}
use Rattle.memory.specs.Objects.{bytes_of}
use Rattle.pointer_word.specs.Words.{WordRecord, HasFields, place_number, bit, word_number}
use Rattle.pointer_word.specs.declared.word.WordPlace.TheVariants.{Local}
use Rattle.shared_objects.specs.History.{Has, top}
use Rattle.shared_objects.specs.Legal.{Legal, IsOneRun, fold_of}
use Rattle.shared_objects.specs.Learnt.{Call, DidAll, StandsAfter}
use Rattle.shared_objects.specs.Learnt.Call.{Learn}
use Rattle.shared_objects.specs.One.{OneList, Runs, sorted, all_entries, entries_on}
use Rattle.shared_objects.specs.Rule.{actor_limit, total, has_open, has_pass, place_of, bytes_taken, word_of, Tally, tally, Written, Kept}
use Rattle.shared_objects.specs.declared.body.Body.{Body}
use Rattle.shared_objects.specs.declared.view.SharedEntry.{SharedEntry}
use Rattle.shared_objects.specs.declared.view.Part.{Part}
use Rattle.shared_objects.specs.declared.view.View.{View}

-- ---- words

-- At most as many seats as there may be actors count at an object, so that no count reaches into the stamp.
abbrev pub CountsStayFew : Type 0
CountsStayFew = (returns : Bool) (opening : List (List ℕ)) (s : State Body View) → Kept returns opening s → (n : ℕ)
    → total (has_open n) s.views + total (has_pass n) s.views ≤ actor_limit

-- What the word of an object says is what all seats have of it: its place is where the mover has it, its turn is taken exactly
-- where one seat holds it, its count is that of the seats that have it open or pass by, and its stamp is the last of its
-- entries. An object that is open, or hot, or whose turn is taken, is here. It is hot, and was cooled and found hot, at most
-- once for each time that a seat asked for its turn.
pub record ShowsSeats (t : Tally) (log : List SharedEntry) (w : WordRecord) : Type 0 where
  pub place : place_number w.place ≡ t.moving + 2 * t.far
  pub turn : bit w.turn ≡ t.turns
  pub count : w.count ≡ t.opens + t.passes
  pub stamp : w.stamp ≡ top 0 log
  pub here : 0 < t.opens + t.turns + bit w.hot → w.place ≡ Local
  pub heat : bit w.hot + t.cooled ≤ t.touched

-- The word of each object is that of a record that shows what all seats have of it.
abbrev pub WordsShowSeats : Type 0
WordsShowSeats = (returns : Bool) (opening : List (List ℕ)) (s : State Body View) (k : Kept returns opening s) (n : ℕ) → n < length opening
    → (w : WordRecord) × HasFields w × ShowsSeats (tally n s.views) (k.logs n) w × (slice_index s.words (word_of n) ≡ word_number w)

-- ---- histories

-- A legal history is one run of all its entries by stamp, then actor.
abbrev pub LegalHistoriesRun : Type 0
LegalHistoriesRun = (opening : List (List ℕ)) (history : List SharedEntry) → Legal opening history → IsOneRun opening history

-- A seat wrote the entry, or took in one that did.
abbrev pub IsWrittenIn : State Body View → SharedEntry → Type 0
IsWrittenIn s e = (id : ℕ) × (v : View) × (get_elem? s.views id ≡ some v) × Written v e

-- The bytes are as long as those that the object was opened with; and where far stores give back what was put, they are its
-- fold.
abbrev pub IsLeft : Bool → List (List ℕ) → List SharedEntry → ℕ → List ℕ → Type 0
IsLeft returns opening history n bytes = (length bytes ≡ length (bytes_of opening n)) × (returns ≡ true → bytes ≡ fold_of opening history n)

-- Between any two steps all entries of all seats are one history, the stamp of a word is that of its object's last entry, and
-- a body that is here with no turn taken, or the bytes of one that is out, have the object's length. Where far stores give back
-- what was put, the history is legal, and these bytes are the object's fold.
pub record HasHistory (returns : Bool) (opening : List (List ℕ)) (s : State Body View) : Type 0 where
  pub history : List SharedEntry
  pub only : (e : SharedEntry) → Has history e → IsWrittenIn s e
  pub all : (e : SharedEntry) → IsWrittenIn s e → Has history e
  pub stamps : (n : ℕ) → n < length opening → slice_index s.words (word_of n) / 65536 ≡ top 0 (entries_on n history)
  pub legal : returns ≡ true → Legal opening history
  pub here : (n : ℕ) → n < length opening → slice_index s.words (word_of n) % 8 ≡ 0
      → (body : Body) × (get_elem? s.homes n ≡ some (some body)) × IsLeft returns opening history n body.bytes.items
  pub out : (id n : ℕ) (v : View) (bytes : List ℕ) → get_elem? s.views id ≡ some v → n < length opening → bytes_taken (place_of v n) ≡ Some bytes
      → IsLeft returns opening history n bytes

-- Between any two steps there is such a history.
abbrev pub TablesHaveHistories : Type 0
TablesHaveHistories = (returns : Bool) (opening : List (List ℕ)) (s : State Body View) → Kept returns opening s → HasHistory returns opening s

-- The one list of a closed table is a legal history, where far stores give back what was put.
abbrev pub OneListsAreLegal : Type 0
OneListsAreLegal = (opening : List (List ℕ)) (parts : List Part) (ends : List (List ℕ)) → (l : OneList true opening parts ends) → Legal opening l.one

-- The one list is that of all parts, sorted by stamp, then actor; so, where far stores give back what was put, these entries run
-- from the opening bytes to the bytes that the table closes with.
abbrev pub SortedEntriesRun : Type 0
SortedEntriesRun = (returns : Bool) (opening : List (List ℕ)) (parts : List Part) (ends : List (List ℕ)) → (l : OneList returns opening parts ends)
    → (l.one ≡ sorted (all_entries parts)) × (returns ≡ true → Runs opening (sorted (all_entries parts)) ends)

-- ---- what was learnt

-- A stamp that is at least a seat's last one is at least that of each of its entries. So `learn` of what `stamp` says of a seat is
-- to learn of all that this seat has done.
abbrev pub StampsCover : Type 0
StampsCover = (returns : Bool) (opening : List (List ℕ)) (s : State Body View) → Kept returns opening s → (id : ℕ) (v : View)
    → get_elem? s.views id ≡ some v → (x : ℕ) → top 0 v.entries ≤ x → (e : SharedEntry) → Has v.entries e → e.stamp ≤ x

-- A seat learns of a stamp, and makes any calls after that. Its entries stay, and each that it adds stands, in every legal
-- history, after all entries of at most that stamp, and was given what its deed gives after them.
abbrev pub LearntStandsBefore : Type 0
LearntStandsBefore = (v w : View) (a b x : ℕ) (calls : List Call) → DidAll (Learn x ∷ calls) v a w b → (added : List SharedEntry)
    × ((w.entries ≡ v.entries ++ added)
    × ((opening : List (List ℕ)) (history : List SharedEntry) → Legal opening history → (e : SharedEntry) → Has added e → Has history e
    → StandsAfter opening history x e))
