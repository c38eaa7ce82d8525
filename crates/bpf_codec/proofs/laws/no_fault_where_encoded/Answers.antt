use Rattle.bpf_codec.proofs.Encodings.{no_fault_where_encoded}
use Rattle.bpf_codec.proofs.laws.no_fault_where_encoded.Goals as goal

pub returns : goal.returns
returns c = no_fault_where_encoded
