-- Tokens at the front of what is left of a line.
use Rattle.std.proofs.Common.{◌≡◌, ℕ, ◌+◌, ◌-◌, ◌<◌, ◌≤◌, zero, suc, Bool, true, false, cond, List, [], ◌∷◌, length, take, drop, get_or, refl, sym, ap, ◌∙◌}
use Rattle.std.proofs.Common.{subst, length-drop, arith}
use Rattle.std.proofs.Math.Logic.{∥∥₁_map}
use Rattle.std.proofs.lemmas.List.{at_drop_more, at_drop_all, take_rest, drop-drop, nil_from_length}
use Rattle.asm_text.specs.Places.{IsPlace, next_end, part_length}
use Rattle.asm_text.specs.Tokens.{run, tokens, tokens_past, is_blank, begins_comment, comment_of, word_length, lexeme_of, next_start}

-- one more byte of the class
pub run_more : (p : ℕ → Bool) (xs : List ℕ) (i : ℕ) → i < length xs → p (get_or xs i 0) ≡ true → run p (drop i xs) ≡ suc (run p (drop (i + 1) xs))
run_more p xs i h e = at_drop_more (run p) xs i 0 h ∙ ap (λ b. cond b (suc (run p (drop (i + 1) xs))) 0) e

pub run_ends : (p : ℕ → Bool) (xs : List ℕ) (i : ℕ) → i < length xs → p (get_or xs i 0) ≡ false → run p (drop i xs) ≡ 0
run_ends p xs i h e = at_drop_more (run p) xs i 0 h ∙ ap (λ b. cond b (suc (run p (drop (i + 1) xs))) 0) e

pub run_all : (p : ℕ → Bool) (xs : List ℕ) (i : ℕ) → length xs ≤ i → run p (drop i xs) ≡ 0
run_all p xs i h = at_drop_all (run p) xs i h

-- what is inside a token is passed over
pub tokens_after : (n : ℕ) (xs : List ℕ) → tokens_past n xs ≡ tokens (drop n xs)
tokens_after zero xs = refl
tokens_after (suc n) [] = refl
tokens_after (suc n) (x ∷ xs) = tokens_after n xs

-- blanks are passed over
blank_at : (x : ℕ) (xs : List ℕ) (b : Bool) → is_blank x ≡ b → tokens xs ≡ tokens (drop (run is_blank xs) xs)
    → tokens (x ∷ xs) ≡ tokens (drop (run is_blank (x ∷ xs)) (x ∷ xs))
blank_at x xs true e h = rw e h
blank_at x xs false e h = ap (λ b. tokens (drop (cond b (suc (run is_blank xs)) 0) (x ∷ xs))) (sym e)

pub tokens_blank : (xs : List ℕ) → tokens xs ≡ tokens (drop (run is_blank xs) xs)
tokens_blank [] = refl
tokens_blank (x ∷ xs) = blank_at x xs (is_blank x) refl (tokens_blank xs)

-- what stands after blanks is no blank
after_run_at : (p : ℕ → Bool) (y : ℕ) (xs : List ℕ) (b : Bool) → p y ≡ b → ((x : ℕ) (ys : List ℕ) → drop (run p xs) xs ≡ x ∷ ys → p x ≡ false)
    → (x : ℕ) (ys : List ℕ) → drop (run p (y ∷ xs)) (y ∷ xs) ≡ x ∷ ys → p x ≡ false
after_run_at p y xs true e h x ys d = h x ys (rw e at d)
after_run_at p y xs false e h x ys d = let k : y ∷ xs ≡ x ∷ ys = (rw e at d) in let s : y ≡ x = cc k in rw (← s) e

pub after_run : (p : ℕ → Bool) (xs : List ℕ) (x : ℕ) (ys : List ℕ) → drop (run p xs) xs ≡ x ∷ ys → p x ≡ false
after_run p [] x ys d = absurd (let k : [] ≡ x ∷ ys = d in cc)
after_run p (y ∷ xs) x ys d = after_run_at p y xs (p y) refl (λ x ys h. after_run p xs x ys h) x ys d

-- a token at the front
pub tokens_next : (xs rest : List ℕ) (x : ℕ) (ys : List ℕ) (n : ℕ) → rest ≡ drop (run is_blank xs) xs → rest ≡ x ∷ ys → begins_comment x ≡ false
    → n ≡ word_length rest → 0 < n
    → tokens xs ≡ lexeme_of (take n rest) ∷ tokens (drop n rest)
tokens_next xs rest x ys n d e c w p =
    let b : is_blank x ≡ false = after_run is_blank xs x ys (sym d ∙ e) in
    let f : n ≡ suc (n - 1) = omega arith in
    let t : tokens (x ∷ ys) ≡ lexeme_of (take (word_length (x ∷ ys)) (x ∷ ys)) ∷ tokens_past (word_length (x ∷ ys) - 1) ys = rw (b, c) refl in
    let g : n ≡ word_length (x ∷ ys) = w ∙ ap word_length e in
    tokens_blank xs ∙ ap tokens (sym d ∙ e) ∙ t
    ∙ ap (λ k. lexeme_of (take k (x ∷ ys)) ∷ tokens_past (k - 1) ys) (sym g)
    ∙ ap (λ l. lexeme_of (take n (x ∷ ys)) ∷ l) (tokens_after (n - 1) ys ∙ ap (λ k. tokens (drop k (x ∷ ys))) (sym f))
    ∙ ap (λ l. lexeme_of (take n l) ∷ tokens (drop n l)) (sym e)

-- a comment at the front
pub tokens_comment : (xs rest : List ℕ) (x : ℕ) (ys : List ℕ) → rest ≡ drop (run is_blank xs) xs → rest ≡ x ∷ ys
    → begins_comment x ≡ true → tokens xs ≡ comment_of ys
tokens_comment xs rest x ys d e c =
    let b : is_blank x ≡ false = after_run is_blank xs x ys (sym d ∙ e) in
    let t : tokens (x ∷ ys) ≡ comment_of ys = rw (b, c) refl in
    tokens_blank xs ∙ ap tokens (sym d ∙ e) ∙ t

-- nothing but blanks
pub tokens_none : (xs rest : List ℕ) → rest ≡ drop (run is_blank xs) xs → rest ≡ [] → tokens xs ≡ []
tokens_none xs rest d e = tokens_blank xs ∙ ap tokens (sym d ∙ e)

-- a list that isn't empty
pub first_of_list : (xs : List ℕ) → 0 < length xs → xs ≡ get_or xs 0 0 ∷ drop 1 xs
first_of_list [] h = absurd (omega arith)
first_of_list (x ∷ xs) h = refl

-- where a token begins, as the code reads it
pub start_is : (line : List ℕ) (at spaces : ℕ) → spaces ≡ run is_blank (take (length line - at) (drop at line)) → at + spaces ≡ next_start at line
start_is line at spaces e = ap (λ k. at + k) (e ∙ ap (run is_blank) (take_rest line at))

-- after the token that comes next at a place is a place
pub place_next : (line : List ℕ) (at end : ℕ) → IsPlace line at → end ≡ next_end at line → IsPlace line end
place_next line at end h e = ∥∥₁_map h (λ p. (suc p.0, e ∙ ap (λ k. next_end k line) p.1))

part_comment : (xs : List ℕ) → begins_comment (get_or xs 0 0) ≡ true → part_length xs ≡ length xs
part_comment [] e = refl
part_comment (x ∷ ys) e = rw e refl

part_word : (xs : List ℕ) → 0 < length xs → begins_comment (get_or xs 0 0) ≡ false → part_length xs ≡ word_length xs
part_word [] h e = absurd (omega arith)
part_word (x ∷ ys) h e = rw e refl

-- ---- the same of a line that is read from a place on, where `spaces` bytes are blank
module _ (line : List ℕ) (at spaces : ℕ) (blank : spaces ≡ run is_blank (take (length line - at) (drop at line))) where
  rest_is : take (length line - (at + spaces)) (drop (at + spaces) line) ≡ drop (run is_blank (drop at line)) (drop at line)
  rest_is = take_rest line (at + spaces) ∙ sym (drop-drop spaces at line) ∙ ap (λ k. drop k (drop at line)) (blank ∙ ap (run is_blank) (take_rest line at))

  pub left_none : length (take (length line - (at + spaces)) (drop (at + spaces) line)) ≡ 0 → tokens (drop at line) ≡ []
  left_none e = tokens_none (drop at line) _ rest_is (nil_from_length _ e)

  pub left_comment : 0 < length (take (length line - (at + spaces)) (drop (at + spaces) line))
      → begins_comment (get_or (take (length line - (at + spaces)) (drop (at + spaces) line)) 0 0) ≡ true
      → tokens (drop at line) ≡ comment_of (take (length (take (length line - (at + spaces)) (drop (at + spaces) line)) - 1)
      (drop 1 (take (length line - (at + spaces)) (drop (at + spaces) line))))
  left_comment h e = tokens_comment (drop at line) _ _ _ rest_is (first_of_list _ h) e
      ∙ ap comment_of (sym (take_rest (take (length line - (at + spaces)) (drop (at + spaces) line)) 1))

  pub left_next : (n : ℕ) → 0 < length (take (length line - (at + spaces)) (drop (at + spaces) line))
      → begins_comment (get_or (take (length line - (at + spaces)) (drop (at + spaces) line)) 0 0) ≡ false
      → n ≡ word_length (take (length line - (at + spaces)) (drop (at + spaces) line)) → 0 < n
      → tokens (drop at line) ≡ lexeme_of (take n (take (length line - (at + spaces)) (drop (at + spaces) line))) ∷ tokens (drop (at + spaces + n) line)
  left_next n h e w p =
      tokens_next (drop at line) _ _ _ n rest_is (first_of_list _ h) e w p
      ∙ ap (λ l. lexeme_of (take n (take (length line - (at + spaces)) (drop (at + spaces) line))) ∷ tokens l) (ap (drop n) (take_rest line (at + spaces))
      ∙ drop-drop n (at + spaces) line)

  pub ends_comment : 0 < length (take (length line - (at + spaces)) (drop (at + spaces) line))
      → begins_comment (get_or (take (length line - (at + spaces)) (drop (at + spaces) line)) 0 0) ≡ true → length line ≡ next_end at line
  ends_comment h e =
      let r = take_rest line (at + spaces) in
      let p = part_comment (drop (at + spaces) line) (subst (λ l. begins_comment (get_or l 0 0) ≡ true) r e) in
      let some : 0 < length (drop (at + spaces) line) = subst (λ l. 0 < length l) r h in
      let all : length line ≡ at + spaces + part_length (drop (at + spaces) line) = omega (arith, p, some, length-drop (at + spaces) line) in
      all ∙ ap (λ k. k + part_length (drop k line)) (start_is line at spaces blank)

  pub ends_next : (n : ℕ) → 0 < length (take (length line - (at + spaces)) (drop (at + spaces) line))
      → begins_comment (get_or (take (length line - (at + spaces)) (drop (at + spaces) line)) 0 0) ≡ false
      → n ≡ word_length (take (length line - (at + spaces)) (drop (at + spaces) line)) → at + spaces + n ≡ next_end at line
  ends_next n h e w =
      let r = take_rest line (at + spaces) in
      let p = part_word (drop (at + spaces) line) (subst (λ l. 0 < length l) r h) (subst (λ l. begins_comment (get_or l 0 0) ≡ false) r e) in
      ap (λ m. at + spaces + m) (w ∙ ap word_length r ∙ sym p) ∙ ap (λ k. k + part_length (drop k line)) (start_is line at spaces blank)
