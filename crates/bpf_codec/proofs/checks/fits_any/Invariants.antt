use Rattle.std.proofs.Common.{◌≡◌, drop}
use Rattle.std.specs.List.{list_any}
use Rattle.bpf_codec.specs.Faults.{is_of}
use Rattle.bpf_codec.proofs.checks.fits_any.Given as goal

abbrev pub invariant-loop-layout : goal.invariant-loop-layout
invariant-loop-layout l = list_any (is_of l.f) (drop l.layout-index l.layouts) ≡ list_any (is_of l.f) l.layouts
