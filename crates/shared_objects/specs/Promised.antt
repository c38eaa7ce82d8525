-- A seat keeps the promises of memories.
use Rattle.std.proofs.Common.{◌≡◌, ℕ, List, [], ◌∷◌, ◌++◌, length, map, refl, sym, ap, ◌∙◌, subst}
use Rattle.atomic_table.proofs.Lists.{at_longer, at_last}
use Rattle.memory.specs.declared.access.Op.{Op}
use Rattle.memory.specs.declared.access.Reach.{Reach}
use Rattle.memory.specs.declared.access.Reach.TheVariants.{Done, Away, Busy, Outside, Worn}
use Rattle.memory.specs.declared.deeds.Deed.TheVariants.{Accesses}
use Rattle.memory.specs.declared.deeds.Given.TheVariants.{Number}
use Rattle.memory.specs.declared.deeds.Entry.{Entry as OwnEntry}
use Rattle.memory.specs.Access.{answer}
use Rattle.memory.specs.Memories.{Promises, KeepsPromises, entries_added}
use Rattle.memory.specs.Objects.{bytes_of}
use Rattle.shared_objects.specs.History.{Has, entry}
use Rattle.shared_objects.specs.Touches.{Touches}
use Rattle.shared_objects.specs.SeatMemories.{seat_memory, own_entry}
use Rattle.shared_objects.specs.declared.view.SharedEntry.{SharedEntry}
use Rattle.shared_objects.specs.declared.view.Mark.{Mark}
use Rattle.shared_objects.specs.declared.view.Mark.TheVariants as marks
use Rattle.shared_objects.specs.declared.view.View.{View}

-- entries of two lists, one after the other
map_own : (xs ys : List SharedEntry) → map own_entry (xs ++ ys) ≡ map own_entry xs ++ map own_entry ys
map_own [] ys = refl
map_own (x ∷ xs) ys = ap (λ l. own_entry x ∷ l) (map_own xs ys)

-- nothing more
append_none : (xs : List OwnEntry) → xs ++ [] ≡ xs
append_none [] = refl
append_none (x ∷ xs) = ap (λ l. x ∷ l) (append_none xs)

-- answers that are equal are of equal numbers
number_is : (x y : ℕ) → Number x ≡ Number y → x ≡ y
number_is x y e = cc

-- a mark stays
has_more : (xs : List Mark) (new m : Mark) → Has xs m → Has (xs ++ new ∷ []) m
has_more xs new m h = (h.0, at_longer xs (new ∷ []) h.0 m h.1)

-- what an access is answered is as memories promise
seat_answers : (v : View) (before n : ℕ) (op : Op) (r : Reach) (w : View) (stamp : ℕ) → Touches v before n op r w stamp
    → Promises (length (bytes_of v.opening n)) op r ((found : ℕ) × Has w.marks (marks.Worn n found))
seat_answers v before n op (Done x) w stamp h = (h.inside, (h.bytes, h.long, number_is x (answer op h.bytes) h.given_is))
seat_answers v before n op Away w stamp h = h.0
seat_answers v before n op Busy w stamp h = h.0
seat_answers v before n op Outside w stamp h = h.0
seat_answers v before n op Worn w stamp h = let t = h.2 in
    (h.0, (t.0, subst (λ (u : View). Has u.marks (marks.Worn n t.0)) (sym t.2) (length v.marks, at_last v.marks (marks.Worn n t.0) (length v.marks) refl)))

-- what it adds to the seat's own entries; lengths and marks stay
seat_adds : (v : View) (before n : ℕ) (op : Op) (r : Reach) (w : View) (stamp : ℕ) → Touches v before n op r w stamp
    → (map own_entry w.entries ≡ map own_entry v.entries ++ entries_added n op r) × (w.opening ≡ v.opening) × ((m : Mark) → Has v.marks m → Has w.marks m)
seat_adds v before n op (Done x) w stamp h = let is = h.view_is in let e : SharedEntry = entry v.actor stamp h.found n (Accesses op) (Number x) in (
  ap (λ (u : View). map own_entry u.entries) is ∙ map_own v.entries (e ∷ []),
  ap (λ (u : View). u.opening) is,
  λ m has. subst (λ (u : View). Has u.marks m) (sym is) has,
)
seat_adds v before n op Away w stamp h = let is = h.2 in (
  ap (λ (u : View). map own_entry u.entries) is ∙ sym (append_none (map own_entry v.entries)),
  ap (λ (u : View). u.opening) is,
  λ m has. subst (λ (u : View). Has u.marks m) (sym is) (has_more v.marks (marks.Away n) m has),
)
seat_adds v before n op Busy w stamp h = let is = h.2 in (
  ap (λ (u : View). map own_entry u.entries) is ∙ sym (append_none (map own_entry v.entries)),
  ap (λ (u : View). u.opening) is,
  λ m has. subst (λ (u : View). Has u.marks m) (sym is) (has_more v.marks (marks.Busy n) m has),
)
seat_adds v before n op Outside w stamp h = let is = h.2 in (
  ap (λ (u : View). map own_entry u.entries) is ∙ sym (append_none (map own_entry v.entries)),
  ap (λ (u : View). u.opening) is,
  λ m has. subst (λ (u : View). Has u.marks m) (sym is) has,
)
seat_adds v before n op Worn w stamp h = let t = h.2 in let is = t.2 in (
  ap (λ (u : View). map own_entry u.entries) is ∙ sym (append_none (map own_entry v.entries)),
  ap (λ (u : View). u.opening) is,
  λ m has. subst (λ (u : View). Has u.marks m) (sym is) (has_more v.marks (marks.Worn n t.0) m has),
)

-- a seat keeps the promises of memories
pub seat_promises : {M S : Type 0} (view : M → View) (stamp loan : M → ℕ) (table : M → S) → KeepsPromises (seat_memory view stamp loan table)
seat_promises {M} {S} view stamp loan table = record {
  answers = λ old new n op r h. seat_answers (view old) (stamp old) n op r (view new) (stamp new) h.0;
  reaches = λ old new n op r h. let t = seat_adds (view old) (stamp old) n op r (view new) (stamp new) h.0 in record {
    adds = t.0;
    lengths = λ k. ap (λ (o : List (List ℕ)). length (bytes_of o k)) t.1;
    worn = λ k m. (m.0, t.2 (marks.Worn k m.0) m.1);
  };
  closes = λ old new h. record {
    adds = ap (λ (u : View). map own_entry u.entries) h.0 ∙ sym (append_none (map own_entry (view old).entries));
    lengths = λ k. ap (λ (u : View). length (bytes_of u.opening k)) h.0;
    worn = λ k m. (m.0, subst (λ (u : View). Has u.marks (marks.Worn k m.0)) (sym h.0) m.1);
  };
  lengths = λ m n. tt;
}
