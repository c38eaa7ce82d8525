use Rattle.bpf_codec.proofs.Encodings.{none_shared}
use Rattle.bpf_codec.proofs.laws.none_shared.Goals as goal

pub returns : goal.returns
returns c = none_shared
