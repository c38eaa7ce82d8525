-- What a name says of its table.
use Rattle.std.specs.Prelude.{◌≡◌, ◌≤◌, ℕ, Bool, true, List, [], Option}
use Rattle.atomic_table.specs.Seated.{TableId}
use Rattle.shared_objects.specs.declared.seats.ActorSeat.{ActorSeat}
use Rattle.shared_objects.specs.declared.view.View.{View}
use Rattle.workers.specs.Cells.{CellState}

-- what a name stands for until a call picks its table
abbrev pub no_table : TableId
no_table = record { words = 0; slots = 0; views_name = 0; atom = 0; block = 0; offset = 0; slot_names = [] }

-- What passes at the locks of cells, in the mover's thread, and in conversations.
pub data Passage : Type 0 where
  -- the cell of this number was lent with a machine in it
  Machine : ℕ → Passage
  -- a lock lent this
  Lends : CellState → Passage
  -- a lock was left with this
  Leaves : CellState → Passage
  -- the mover's loop began when its seat knew this, and ended when it knew that
  Ran : View → View → Passage
  -- A conversation that read these bytes, where they were known beforehand, began when its seat was the one, and ended when it was the
  -- other. Of a network's stream no bytes are known.
  Conversed : Option (List ℕ) → ActorSeat → ActorSeat → Passage

-- Each passage came to pass. A call that opens a table picks this for the table's name, and tells nobody who serves: so who
-- says that one did has it from the lock, from the loop, or from the end of the conversation.
abbrev pub each_passed : Passage → Bool
each_passed p = true

-- The cells of the numbers from 1 to n were each lent with a machine in it.
abbrev pub AreLent : (Passage → Bool) → ℕ → Type 0
AreLent passed n = (m : ℕ) → 1 ≤ m → m ≤ n → passed (Machine m) ≡ true
