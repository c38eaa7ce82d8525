use Rattle.std.proofs.Common.{rules}
use Rattle.loader.proofs.Encoded.{take_padded}
use Rattle.loader.proofs.writing.put_encoding.Goals as goal

pub returns : goal.returns
returns c = let first = take_padded c.args.i.now in search rules
