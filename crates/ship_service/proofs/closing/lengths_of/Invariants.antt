use Rattle.std.proofs.Common.{◌≡◌, ℕ, ◌<◌, length}
use Rattle.std.specs.Prelude.{slice_index_or}
use Rattle.memory.specs.Objects.{bytes_of}
use Rattle.shared_objects.specs.Tables.{table_opening}
use Rattle.ship_service.proofs.closing.lengths_of.Given as goal

abbrev pub invariant-loop-number : goal.invariant-loop-number
invariant-loop-number l = (length l.lengths.items ≡ l.number)
    × ((n : ℕ) → n < l.number → slice_index_or l.lengths.items n 0 ≡ length (bytes_of (table_opening l.table) n))
