use Rattle.std.proofs.Common.{rules}
use Rattle.far_stream.proofs.Bytes.{head_read}
use Rattle.far_stream.proofs.frame.Head.of.Goals as goal

pub returns : goal.returns
returns c = rw (c.read_u64.ensures, c.read_u32.ensures) (head_read c.args.bytes.now (search rules) (search rules))
