use Rattle.std.proofs.Common.{◌≡◌, ◌-◌, List, length}
use Rattle.isa_table.specs.declared.instr.Instr.{Instr}
use Rattle.loader.specs.Entries.{all_entries, instrs}
use Rattle.loader.proofs.CheckedEntries.{IsWalked}
use Rattle.loader.proofs.checks.first_complaint.Given as goal

abbrev pub invariant-instrs : goal.invariant-instrs
invariant-instrs l = (code : List Instr) → instrs l.entries ≡ all_entries code → IsWalked (instrs l.entries) l.slot code

abbrev pub decreases-instrs : goal.decreases-instrs
decreases-instrs l = length l.entries - l.slot
