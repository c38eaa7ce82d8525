-- Parcels by their ids.
use Rattle.std.proofs.Common.{◌≡◌, ◌<◌, ℕ, suc, List, [], ◌∷◌, ◌++◌, length, drop, get_or, ap, ◌∙◌, sym, refl, None, Some, Option, IfSome, IsSome, is_some}
use Rattle.std.proofs.Common.{true, false, nat_eq, if◌then◌else◌}
use Rattle.std.proofs.Math.Seq.{drop-cons}
use Rattle.std.proofs.lemmas.List.{drop_at}
use Rattle.far_stream.specs.Frames.{frame, head, done}
use Rattle.far_stream.specs.Sent.{Sent}
use Rattle.far_stream.specs.Server.{kept_under, without}
use Rattle.far_stream.proofs.Bytes.{length-head}

-- the answer to a get, as it is kept
pub payload_of_answer : (answer payload : List ℕ) (id count : ℕ) → answer ≡ head done id count ++ payload → drop 13 answer ≡ payload
payload_of_answer answer payload id count is = ap (drop 13) is ∙ drop_at (head done id count) payload 13 (length-head done id count)

pub answer_is_frame : (answer payload : List ℕ) (id count : ℕ) → answer ≡ head done id count ++ payload → length payload ≡ count
    → answer ≡ frame done id (drop 13 answer)
answer_is_frame answer payload id count is len =
    is ∙ ap (λ n. head done id n ++ payload) (sym len) ∙ ap (λ p. frame done id p) (sym (payload_of_answer answer payload id count is))

-- the first of the parcels has the id
pub under_first : (id : ℕ) (sent : Sent) (kept : List Sent) → nat_eq sent.id id ≡ true → kept_under id (sent ∷ kept) ≡ Some sent.bytes
under_first id sent kept is = ap (λ b. if b then Some sent.bytes else kept_under id kept) is

pub without_first : (id : ℕ) (sent : Sent) (kept : List Sent) → nat_eq sent.id id ≡ true → without id (sent ∷ kept) ≡ kept
without_first id sent kept is = ap (λ b. if b then kept else (sent ∷ without id kept)) is

-- the parcel at a place is the first of those from there on
split_at : (place : ℕ) (sent : Sent) (kept : List Sent) → place < length kept → sent ≡ get_or kept place sent → drop place kept ≡ sent ∷ drop (suc place) kept
split_at place sent kept within is = drop-cons kept place sent within ∙ ap (λ k. k ∷ drop (suc place) kept) (sym is)

pub under_at : (id place : ℕ) (sent : Sent) (kept : List Sent) → place < length kept → sent ≡ get_or kept place sent → nat_eq sent.id id ≡ true
    → kept_under id (drop place kept) ≡ Some sent.bytes
under_at id place sent kept within is same = ap (kept_under id) (split_at place sent kept within is) ∙ under_first id sent (drop (suc place) kept) same

pub without_at : (id place : ℕ) (sent : Sent) (kept : List Sent) → place < length kept → sent ≡ get_or kept place sent → nat_eq sent.id id ≡ true
    → without id (drop place kept) ≡ drop (suc place) kept
without_at id place sent kept within is same = ap (without id) (split_at place sent kept within is) ∙ without_first id sent (drop (suc place) kept) same

-- the first of the parcels hasn't
pub under_later : (id : ℕ) (sent : Sent) (kept : List Sent) → nat_eq sent.id id ≡ false → kept_under id (sent ∷ kept) ≡ kept_under id kept
under_later id sent kept is = ap (λ b. if b then Some sent.bytes else kept_under id kept) is

pub without_later : (id : ℕ) (sent : Sent) (kept : List Sent) → nat_eq sent.id id ≡ false → without id (sent ∷ kept) ≡ sent ∷ without id kept
without_later id sent kept is = ap (λ b. if b then kept else (sent ∷ without id kept)) is

-- what has a place is kept
pub kept_there : (place : Option ℕ) (id : ℕ) (kept : List Sent) → is_some place ≡ true
    → IfSome place (λ n. (k : Sent) → kept_under id kept ≡ Some (get_or kept n k).bytes) → IsSome (kept_under id kept)
kept_there None id kept some there = absurd (cc)
kept_there (Some n) id kept some there = rw (there (record { id = 0; bytes = [] })) refl
