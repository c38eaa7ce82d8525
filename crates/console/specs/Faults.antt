-- The numbers of faults.
use Rattle.std.specs.Prelude.{ℕ}
use Rattle.console.specs.declared.fault.LineFault.{LineFault}
use Rattle.console.specs.declared.fault.LineFault.TheVariants as line
use Rattle.console.specs.declared.fault.DriveFault.{DriveFault}
use Rattle.console.specs.declared.fault.DriveFault.TheVariants as drive

-- why a line has no command, by number
abbrev pub line_fault_number : LineFault → ℕ
line_fault_number line.Bad = 1
line_fault_number line.NoMemory = 2

-- which stream failed, by number
abbrev pub drive_fault_number : DriveFault → ℕ
drive_fault_number drive.Read = 1
drive_fault_number drive.Write = 2
