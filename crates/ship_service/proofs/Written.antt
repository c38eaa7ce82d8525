-- Lines that are written one after the other.
use Rattle.std.proofs.Common.{◌≡◌, ℕ, zero, suc, ◌+◌, ◌<◌, List, [], ◌∷◌, ◌++◌, length, take, flat_map, get_or, Some, None, Ok, Err, sym, ap, ◌∙◌, append_assoc}
use Rattle.std.proofs.Common.{append-nil, length-append, subst, arith}
use Rattle.std.specs.Prelude.{Option, Result, OnErr}
use Rattle.std.specs.Io.KnownBytes.{Appends}
use Rattle.streams.specs.Streams.{AppendsPart}
use Rattle.workers.specs.declared.closing.ClosedCell.{ClosedCell}
use Rattle.ship_service.specs.Closing.{ClosedState, live_object}
use Rattle.ship_service.specs.ClosingLines.{object_line, object_lines, cell_line}

-- ---- what a writer takes

-- one text after the other
pub joined : (a b c : Option (List ℕ)) (xs ys : List ℕ) → Appends a b xs → Appends b c ys → Appends a c (xs ++ ys)
joined None b c xs ys h k = tt
joined (Some x) None c xs ys h k = absurd h
joined (Some x) (Some y) None xs ys h k = absurd k
joined (Some x) (Some y) (Some z) xs ys h k = k ∙ ap (λ l. l ++ ys) h ∙ append_assoc x xs ys

-- all of the one, and the first of the other
pub part_after : (a b c : Option (List ℕ)) (xs ys : List ℕ) → Appends a b xs → AppendsPart b c ys → AppendsPart a c (xs ++ ys)
part_after a b c xs ys h (part, missing, is, some, wrote) =
    (xs ++ part, missing, ap (λ l. xs ++ l) is ∙ sym (append_assoc xs part missing), some, joined a b c xs part h wrote)

-- the first of a text is that of a longer one
pub part_before : (a b : Option (List ℕ)) (xs ys : List ℕ) → AppendsPart a b xs → AppendsPart a b (xs ++ ys)
part_before a b xs ys (part, missing, is, some, wrote) =
    (part, missing ++ ys, ap (λ l. l ++ ys) is ∙ append_assoc part missing ys, omega (arith, some, length-append missing ys), wrote)

-- ---- objects

module _ {X : Type 0} (closed : ClosedState X) where
  -- the lines of more objects begin with those of fewer
  more_lines : (k n m : ℕ) → m ≡ k + n → (rest : List ℕ) × (object_lines closed m ≡ object_lines closed n ++ rest)
  more_lines zero n m e = let same : m ≡ n = omega (arith, e) in ([], ap (object_lines closed) same ∙ sym (append-nil (object_lines closed n)))
  more_lines (suc k) n zero e = absurd (omega (arith, e))
  more_lines (suc k) n (suc m) e = let r = more_lines k n m (omega (arith, e)) in (
    r.0 ++ object_line m (live_object closed m),
    ap (λ l. l ++ object_line m (live_object closed m)) r.1 ∙ append_assoc (object_lines closed n) r.0 (object_line m (live_object closed m)),
  )

  -- the line of one of them failed
  pub objects_part : (a b c : Option (List ℕ)) (k n m : ℕ) → m ≡ k + (n + 1) → Appends a b (object_lines closed n)
      → AppendsPart b c (object_line n (live_object closed n)) → AppendsPart a c (object_lines closed m)
  objects_part a b c k n m e h p = let next : n + 1 ≡ suc n = omega arith in let r = more_lines k (suc n) m (omega (arith, e)) in
      subst (AppendsPart a c) (sym r.1) (part_before a c (object_lines closed (suc n)) r.0
      (part_after a b c (object_lines closed n) (object_line n (live_object closed n)) h p))

-- ---- machines

-- the lines of cells, around that of one
around : (cs : List ClosedCell) (i : ℕ) (c : ClosedCell) → i < length cs → c ≡ get_or cs i c
    → (rest : List ℕ) × (flat_map cell_line cs ≡ (flat_map cell_line (take i cs) ++ cell_line c) ++ rest)
around [] i c lt e = absurd (omega arith)
around (d ∷ cs) zero c lt e = (flat_map cell_line cs, ap (λ x. cell_line x ++ flat_map cell_line cs) (sym e))
around (d ∷ cs) (suc i) c lt e = let r = around cs i c (omega arith) e in (
  r.0,
  ap (λ l. cell_line d ++ l) r.1 ∙ sym (append_assoc (cell_line d) (flat_map cell_line (take i cs) ++ cell_line c) r.0)
      ∙ ap (λ l. l ++ r.0) (sym (append_assoc (cell_line d) (flat_map cell_line (take i cs)) (cell_line c))),
)

-- one line more
one_line : (cs : List ClosedCell) (i : ℕ) (c : ClosedCell) → i < length cs → c ≡ get_or cs i c
    → flat_map cell_line (take (suc i) cs) ≡ flat_map cell_line (take i cs) ++ cell_line c
one_line [] i c lt e = absurd (omega arith)
one_line (d ∷ cs) zero c lt e = append-nil (cell_line d) ∙ ap cell_line (sym e)
one_line (d ∷ cs) (suc i) c lt e = ap (λ l. cell_line d ++ l) (one_line cs i c (omega arith) e)
    ∙ sym (append_assoc (cell_line d) (flat_map cell_line (take i cs)) (cell_line c))

-- the line of one more was written
pub one_machine : (a b c : Option (List ℕ)) (cs : List ClosedCell) (i : ℕ) (cell : ClosedCell) → i < length cs → cell ≡ get_or cs i cell
    → Appends a b (flat_map cell_line (take i cs)) → Appends b c (cell_line cell)
    → Appends a c (flat_map cell_line (take (i + 1) cs))
one_machine a b c cs i cell lt e h k = let next : i + 1 ≡ suc i = omega arith in
    subst (λ j. Appends a c (flat_map cell_line (take j cs))) (sym next)
    (subst (Appends a c) (sym (one_line cs i cell lt e)) (joined a b c (flat_map cell_line (take i cs)) (cell_line cell) h k))

-- the line of one of them failed
pub machines_part : (a b c : Option (List ℕ)) (cs : List ClosedCell) (i : ℕ) (cell : ClosedCell) → i < length cs → cell ≡ get_or cs i cell
    → Appends a b (flat_map cell_line (take i cs)) → AppendsPart b c (cell_line cell)
    → AppendsPart a c (flat_map cell_line cs)
machines_part a b c cs i cell lt e h p = let r = around cs i cell lt e in
    subst (AppendsPart a c) (sym r.1) (part_before a c (flat_map cell_line (take i cs)
    ++ cell_line cell) r.0 (part_after a b c (flat_map cell_line (take i cs)) (cell_line cell) h p))

-- ---- calls that fail

-- what holds anyhow holds at an error
pub even_so : {T E : Type 0} (r : Result T E) (P : Type 0) → P → OnErr r P
even_so (Ok x) P p = tt
even_so (Err e) P p = p

-- the same text by another name
pub renamed : {T E : Type 0} (r : Result T E) (a b : Option (List ℕ)) (xs ys : List ℕ) → xs ≡ ys → OnErr r (AppendsPart a b xs) → OnErr r (AppendsPart a b ys)
renamed r a b xs ys e h = subst (λ (l : List ℕ). OnErr r (AppendsPart a b l)) e h

-- the second of two texts failed
pub second_failed : {T E : Type 0} (r : Result T E) (a b c : Option (List ℕ)) (xs ys : List ℕ) → Appends a b xs → OnErr r (AppendsPart b c ys)
    → OnErr r (AppendsPart a c (xs ++ ys))
second_failed (Ok x) a b c xs ys h k = tt
second_failed (Err e) a b c xs ys h k = part_after a b c xs ys h k
