use Rattle.std.proofs.Common.{arith, drop, ◌*◌}
use Rattle.bpf_codec.proofs.Encodings.{found_at, only_at, fault_at}
use Rattle.bpf_codec.proofs.reading.decode_one.Goals as goal

pub returns-clause-found : goal.returns-clause-found
returns-clause-found c = found_at c.args.code.now _ _ (λ k. omega (arith, c.type_inv.code k)) c.read_one.ensures

pub returns-clause-only : goal.returns-clause-only
returns-clause-only c = only_at (drop (8 * c.args.slot) c.args.code.now) _ c.read_one.ensures

pub returns-clause-fault : goal.returns-clause-fault
returns-clause-fault c = fault_at c.args.code.now _ _ (λ k. omega (arith, c.type_inv.code k)) c.read_one.ensures
