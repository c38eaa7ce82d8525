use Rattle.bpf_codec.proofs.Encodings.{none_begins_another}
use Rattle.bpf_codec.proofs.laws.none_begins_another.Goals as goal

pub returns : goal.returns
returns c = none_begins_another
