-- Want of memory.
use Rattle.std.specs.Prelude.{⊤}

-- Memory is refused: an allocation failed, or a bound on what is kept was met. No clause can say of an allocator when it refuses. So the name is opaque,
-- and `src/room.rt` alone opens it, right around the calls that ask for memory: nothing else can answer that there is none.
unfoldable pub MemoryIsRefused : Type 0
MemoryIsRefused = ⊤
