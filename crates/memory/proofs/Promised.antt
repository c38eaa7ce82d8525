-- What is done to a memory, one after the other, and that the map of objects keeps the promises of memories.
use Rattle.std.proofs.Common.{ℕ, List, [], ◌∷◌, ◌++◌, refl, sym, ap, ◌∙◌, subst, append-nil, append_assoc}
use Rattle.memory.specs.declared.access.Op.{Op}
use Rattle.memory.specs.declared.access.Reach.{Reach}
use Rattle.memory.specs.declared.access.Reach.TheVariants.{Done, Away, Busy, Outside, Worn}
use Rattle.memory.specs.declared.deeds.Given.TheVariants.{Number}
use Rattle.memory.specs.Objects.{DoesAll, bytes_of}
use Rattle.memory.specs.declared.deeds.Entry.{Entry}
use Rattle.memory.specs.Memories.Known.{AllBytes, OwnEntries}
use Rattle.memory.specs.Memories.{Memories, Known, Adds, Did, Promises, KeepsPromises, entries_added}
use Rattle.memory.specs.MapMemory.{map_memory, map_reaches}
use Rattle.memory.proofs.Accesses.{lengths}

-- ---- nothing, and one after the other

all_done : (old mid new : List (List ℕ)) (es fs : List Entry) → DoesAll old es mid → DoesAll mid fs new → DoesAll old (es ++ fs) new
all_done old mid new [] fs p q = subst (λ (o : List (List ℕ)). DoesAll o fs new) p q
all_done old mid new (e ∷ es) fs p q = (p.0, p.1, all_done p.0 mid new es fs p.2 q)

adds_nothing : (k : Known) → Adds k [] k
adds_nothing (AllBytes objects) = refl
adds_nothing (OwnEntries es) = sym (append-nil es)

adds_then : (a b c : Known) (es fs : List Entry) → Adds a es b → Adds b fs c → Adds a (es ++ fs) c
adds_then (AllBytes old) (AllBytes mid) (AllBytes new) es fs p q = all_done old mid new es fs p q
adds_then (OwnEntries old) (OwnEntries mid) (OwnEntries new) es fs p q = q ∙ ap (λ (l : List Entry). l ++ fs) p ∙ append_assoc old es fs
adds_then (AllBytes old) (OwnEntries mid) c es fs p q = absurd p
adds_then (OwnEntries old) (AllBytes mid) c es fs p q = absurd p
adds_then (AllBytes old) (AllBytes mid) (OwnEntries new) es fs p q = absurd q
adds_then (OwnEntries old) (OwnEntries mid) (AllBytes new) es fs p q = absurd q

pub did_nothing : {M : Type 0} (mem : Memories M) (m : M) → Did mem m [] m
did_nothing mem m = record { adds = adds_nothing (mem.knows m); lengths = λ n. refl; worn = λ n w. w }

pub did_then : {M : Type 0} (mem : Memories M) (a b c : M) (es fs : List Entry) → Did mem a es b → Did mem b fs c → Did mem a (es ++ fs) c
did_then mem a b c es fs p q = record {
  adds = adds_then (mem.knows a) (mem.knows b) (mem.knows c) es fs p.adds q.adds;
  lengths = λ n. q.lengths n ∙ p.lengths n;
  worn = λ n w. q.worn n (p.worn n w);
}

-- ---- the map

-- an access is its entry
pub map_adds : (old new : List (List ℕ)) (n : ℕ) (op : Op) (r : Reach) → map_reaches old n op r new → DoesAll old (entries_added n op r) new
map_adds old new n op Outside h = h.1
map_adds old new n op (Done x) h = (new, record { inside = h.0; gives = ap (λ y. Number y) h.1; leaves = h.2 }, refl)
map_adds old new n op Away h = absurd h
map_adds old new n op Busy h = absurd h
map_adds old new n op Worn h = absurd h

map_answers : (old new : List (List ℕ)) (n : ℕ) (op : Op) (r : Reach) → map_reaches old n op r new
    → Promises (map_memory.length_of old n) op r (map_memory.is_worn new n)
map_answers old new n op Outside h = h.0
map_answers old new n op (Done x) h = (h.0, (bytes_of old n, refl, h.1))
map_answers old new n op Away h = absurd h
map_answers old new n op Busy h = absurd h
map_answers old new n op Worn h = absurd h

pub map_promises : KeepsPromises map_memory
map_promises = record {
  answers = map_answers;
  reaches = λ old new n op r h. record { adds = map_adds old new n op r h; lengths = λ k. lengths old new n k op r h; worn = λ k w. w };
  closes = λ old new e. record { adds = e; lengths = λ k. ap (λ (o : List (List ℕ)). map_memory.length_of o k) e; worn = λ k w. w };
  lengths = λ m n. refl;
}
