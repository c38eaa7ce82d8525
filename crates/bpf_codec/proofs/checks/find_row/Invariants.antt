use Rattle.std.proofs.Common.{◌≡◌, drop}
use Rattle.bpf_codec.specs.Decoding.{row_for}
use Rattle.bpf_codec.proofs.checks.find_row.Given as goal

abbrev pub invariant-loop-row : goal.invariant-loop-row
invariant-loop-row l = row_for l.f (drop l.row-index l.rows) ≡ row_for l.f l.rows
