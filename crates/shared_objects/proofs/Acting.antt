-- A seat after a call of its actor.
use Rattle.std.proofs.Common.{◌≡◌, Ok, Err, ℕ, ◌+◌, ◌<◌, ◌≤◌, List, [], ◌∷◌, length, sym, refl, ap, ◌∙◌, subst, arith, None, zero, map, suc, ◌++◌, take, drop}
use Rattle.std.proofs.Common.{length-take, length-drop}
use Rattle.std.proofs.lemmas.List.{length-map}
use Rattle.atomic_table.specs.Table.{rest}
use Rattle.isa_table.specs.declared.instr.Size.{Size}
use Rattle.isa_table.specs.declared.instr.Size.TheVariants as size
use Rattle.isa_table.specs.Table.{size_bytes}
use Rattle.memory.specs.declared.access.Op.{Op}
use Rattle.memory.specs.Access.{size_of, count_of, part}
use Rattle.shared_objects.specs.declared.body.Body.{Body}
use Rattle.memory.specs.Objects.{bytes_of}
use Rattle.shared_objects.specs.Kinds.{Sat, shut, recorded}
use Rattle.scopes.specs.Windows.{noted}
use Rattle.shared_objects.specs.History.{top, entry}
use Rattle.memory.specs.declared.deeds.Deed.{Deed}
use Rattle.memory.specs.declared.deeds.Given.{Given}
use Rattle.memory.specs.Deeds.{EndsInside, given_by, left_by}
use Rattle.shared_objects.specs.Beginnings.{Begins}
use Rattle.shared_objects.specs.declared.errors.Denied.{Denied}
use Rattle.shared_objects.specs.declared.errors.Denied.TheVariants as denied
use Rattle.shared_objects.specs.declared.view.SharedEntry.{SharedEntry}
use Rattle.shared_objects.proofs.Logs.{top-snoc}
use Rattle.shared_objects.specs.Resting.{Rests, AllBelow, HoldsBody}
use Rattle.shared_objects.proofs.Noted.{below_noted}
use Rattle.shared_objects.specs.Tables.{table_opening, IsActorOf}
use Rattle.shared_objects.specs.declared.seats.ActorSeat.{ActorSeat}
use Rattle.shared_objects.specs.declared.table.SharedTable.{SharedTable}
use Rattle.shared_objects.specs.declared.view.View.{View}

pub rests_after : (old new : Sat) (w : View) → Rests old → new ≡ (w, []) → w.turn ≡ None → w.live ≡ old.0.live → w.made ≡ old.0.made
    → w.gathered ≡ old.0.gathered → w.passing ≡ old.0.passing → w.out ≡ old.0.out → Rests new
rests_after old new w r is t a b c d e = subst Rests (sym is) (refl, t, a ∙ r.2, b ∙ r.3, c ∙ r.4, d ∙ r.5, e ∙ r.6)

some_bytes : (s : Size) → 0 < size_bytes s
some_bytes size.Byte = omega arith
some_bytes size.Half = omega arith
some_bytes size.Word = omega arith
some_bytes size.Double = omega arith

-- an access reaches a byte at least
pub reaches_some : (op : Op) → 0 < count_of op
reaches_some op = some_bytes (size_of op.action)

pub none_above : (os : List (List ℕ)) (n : ℕ) → length os ≤ n → bytes_of os n ≡ []
none_above [] n h = refl
none_above (x ∷ xs) zero h = absurd (omega arith)
none_above (x ∷ xs) (suc n) h = none_above xs n (omega arith)

-- an actor's seat, with its window and its stamp, between two calls
abbrev ActorFits : Sat → List ℕ → ℕ → Type 0
ActorFits m window stamp = record {
  rests : Rests m;
  opens : m.0.scopes ≡ window;
  near : AllBelow (length m.0.opening) window;
  stamped : top 0 m.0.entries ≤ stamp;
}

-- a seat after a call that noted an object
noted_seat : (old new : Sat) (w : View) (window after : List ℕ) (n stamp : ℕ) → Rests old → old.0.scopes ≡ window → AllBelow (length old.0.opening) window
    → new ≡ (w, []) → after ≡ noted n window
    → w.scopes ≡ noted n old.0.scopes → w.turn ≡ None → w.live ≡ old.0.live → w.made ≡ old.0.made → w.gathered ≡ old.0.gathered → w.passing ≡ old.0.passing
    → w.out ≡ old.0.out → w.opening ≡ old.0.opening
    → n < length old.0.opening → top 0 w.entries ≤ stamp
    → ActorFits new after stamp
noted_seat old new w window after n stamp r opens near is then scopes t a b c d e opening lt low = record {
  rests = rests_after old new w r is t a b c d e;
  opens = ap (λ (m : Sat). m.0.scopes) is ∙ scopes ∙ ap (noted n) opens ∙ sym then;
  near = subst (λ (m : Sat). AllBelow (length m.0.opening) after) (sym is)
      (subst (λ (o : List (List ℕ)). AllBelow (length o) after) (sym opening)
      (subst (AllBelow (length old.0.opening)) (sym then) (below_noted (length old.0.opening) n window near lt)));
  stamped = subst (λ (m : Sat). top 0 m.0.entries ≤ stamp) (sym is) low;
}

-- an object of the table is one of its opening
opened_at : (lengths : List ℕ) (key opening : List (List ℕ)) (n : ℕ) → lengths ≡ map length key → opening ≡ key → n < length lengths → n < length opening
opened_at lengths key opening n sizes same lt = omega (arith, ap length sizes, length-map key length, ap length same)

-- a call of an actor of the table on one of its objects, by how far it came
module _ (shared : SharedTable) (a : ActorSeat) (of : IsActorOf shared a) (n : ℕ) (near : n < length shared.lengths.items) where
  lt : n < length a.seat.me.0.opening
  lt = opened_at shared.lengths.items (table_opening shared) a.seat.me.0.opening n shared.sizes of.1 near

  -- it was denied
  pub denied_seat : (new : Sat) (after : List ℕ) (why : Denied) → Begins a.seat.me.0 a.window a.stamp n (Err why) new after → ActorFits new after a.stamp
  denied_seat new after denied.Outside b = absurd b
  denied_seat new after denied.Away b = record {
    rests = rests_after a.seat.me new _ a.rests b.0 a.rests.1 refl refl refl refl refl;
    opens = ap (λ (m : Sat). m.0.scopes) b.0 ∙ a.opens ∙ sym b.1;
    near = subst (λ (m : Sat). AllBelow (length m.0.opening) after) (sym b.0) (subst (AllBelow (length a.seat.me.0.opening)) (sym b.1) a.near);
    stamped = subst (λ (m : Sat). top 0 m.0.entries ≤ a.stamp) (sym b.0) a.stamped;
  }
  denied_seat new after denied.Busy b =
      noted_seat a.seat.me new _ a.window after n a.stamp a.rests a.opens a.near b.0 b.1 refl a.rests.1 refl refl refl refl refl refl lt a.stamped
  denied_seat new after denied.Worn b =
      noted_seat a.seat.me new _ a.window after n a.stamp a.rests a.opens a.near b.0.2 b.1 refl refl refl refl refl refl refl refl lt a.stamped

-- it had the turn, and there is one entry more
pub done_seat : {new : Sat} {after : List ℕ} (deed : Deed) (given : Given) (shared : SharedTable) (a : ActorSeat) (of : IsActorOf shared a) (n : ℕ)
    (near : n < length shared.lengths.items) (found stamp : ℕ) (m : Sat) (v : View)
    → Begins a.seat.me.0 a.window a.stamp n (Ok (record { found = found; stamp = stamp })) m after
    → v ≡ m.0 → new ≡ (recorded (entry v.actor stamp found n deed given) v, []) → ActorFits new after stamp
done_seat {new} {after} deed given shared a of n near found stamp m v b same is =
    let told = is ∙ ap (λ (u : View). (recorded (entry u.actor stamp found n deed given) u, [])) (same ∙ b.2.2.0) in
    noted_seat a.seat.me new _ a.window after n stamp a.rests a.opens a.near told b.3 refl refl refl refl refl refl refl refl (lt shared a of n near)
    (omega (arith, top-snoc 0 a.seat.me.0.entries (entry a.seat.me.0.actor stamp found n deed given)))

-- the body that a seat has is its first
pub first_held : (m : Sat) (n : ℕ) (P : Body → Type 0) → HoldsBody m n P → (body : Body) × (m.1 ≡ (n, body) ∷ rest m.1)
first_held m n P h = (h.0, h.1 ∙ ap (λ l. (n, h.0) ∷ rest l) (sym h.1))

-- a body that a seat has alone is alone also where it is another
pub still_alone : (m : Sat) (n : ℕ) (P : Body → Type 0) → HoldsBody m n P → (body : Body) → (n, body) ∷ rest m.1 ≡ (n, body) ∷ []
still_alone m n P h body = ap (λ l. (n, body) ∷ rest l) h.1

-- what is known of an entry's deed and answer is known of an equal entry
pub told_by : (m : Sat) (n : ℕ) (bytes : List ℕ) (e f : SharedEntry) → e ≡ f → EndsInside f.deed (length bytes) → f.given ≡ given_by f.deed bytes
    → HoldsBody m n (λ body. body.bytes.items ≡ left_by f.deed bytes)
    → EndsInside e.deed (length bytes) × (e.given ≡ given_by e.deed bytes) × HoldsBody m n (λ body. body.bytes.items ≡ left_by e.deed bytes)
told_by m n bytes e f is inside given held =
    let Fit : SharedEntry → Type 0 = λ x. EndsInside x.deed (length bytes) × (x.given ≡ given_by x.deed bytes)
    × HoldsBody m n (λ body. body.bytes.items ≡ left_by x.deed bytes) in
    subst Fit (sym is) (inside, given, held)

-- all of a vector is written over
pub take_whole : (new old : List ℕ) → length new ≡ length old → take (length new) (new ++ drop (length new) old) ≡ new
take_whole [] [] e = refl
take_whole [] (y ∷ ys) e = absurd (omega (arith, e))
take_whole (x ∷ xs) [] e = absurd (omega (arith, e))
take_whole (x ∷ xs) (y ∷ ys) e = ap (λ l. x ∷ l) (take_whole xs ys (omega (arith, e)))

pub part_long : (offset count : ℕ) (bytes : List ℕ) → offset + count ≤ length bytes → length (part offset count bytes) ≡ count
part_long offset count bytes h = omega (arith, length-take count (drop offset bytes), length-drop offset bytes)

abbrev first_body : List (ℕ × Body) → Body → Body
first_body [] d = d
first_body (p ∷ ps) d = p.1

-- the first slot has one body
pub same_body : (n : ℕ) (x y : Body) (r s : List (ℕ × Body)) → (n, x) ∷ r ≡ (n, y) ∷ s → x ≡ y
same_body n x y r s e = ap (λ l. first_body l x) e

-- a view with no scope open
pub shut_is : (v : View) → v.scopes ≡ [] → v ≡ shut v
shut_is v e = ap (λ (s : List ℕ). record v { scopes = s }) e
