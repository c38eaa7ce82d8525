use Rattle.std.proofs.Common.{rules, ◌≡◌, None, inl}
use Rattle.std.specs.Io.KnownBytes.{Appends}
use Rattle.far_stream.specs.Frames.{head, forget_kind}
use Rattle.far_stream.proofs.Calling.{calls_on}
use Rattle.far_stream.proofs.client.StreamStore.ask_to_forget.Goals as goal

pub returns-clause-asked : goal.returns-clause-asked
returns-clause-asked g c =
    let none : c.args.self.now.broken ≡ None = search rules in
    let puts : c.self.inside.puts ≡ c.args.self.now.puts = search rules in
    let wrote : Appends (g.S.Write.contents c.args.self.now.stream) (g.S.Write.contents c.put_all.new.writer) (head forget_kind c.args.id 0) = search rules in
    calls_on c.args.self.now _ (record {
      stream = c.read_forgotten.new.reader;
      puts = c.self.inside.puts;
      broken = c.self.inside.broken;
      faults = c.self.inside.faults;
    }) _ none (puts, inl (c.put_all.new.writer, wrote, c.read_forgotten.ensures))
