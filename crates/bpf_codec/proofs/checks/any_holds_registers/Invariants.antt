use Rattle.std.proofs.Common.{◌≡◌, drop}
use Rattle.bpf_codec.specs.Decoding.{have_registers}
use Rattle.bpf_codec.proofs.checks.any_holds_registers.Given as goal

abbrev pub invariant-loop-row : goal.invariant-loop-row
invariant-loop-row l = have_registers l.f (drop l.row-index l.rows) ≡ have_registers l.f l.rows
