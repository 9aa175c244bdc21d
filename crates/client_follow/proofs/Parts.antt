-- Parts of a list, one after the other.
use Rattle.std.proofs.Common.{◌≡◌, ℕ, ◌≤◌, List, ◌++◌, take, drop, length, true, false, eqb, nat_le, sym, ap, ◌∙◌, arith, ⊎_elim, true≢false}
use Rattle.std.proofs.lemmas.Bool.{cases_Bool}
use Rattle.std.proofs.lemmas.Bool.Decides.{Decides-eqb, nat_tests}
use Rattle.std.proofs.lemmas.List.{append_assoc, length-take-le, take-append-drop, take_all}
use Rattle.std.proofs.Math.Seq.{take-append_seam}
use Rattle.client_cache.specs.declared.limits.TheConstants.{MAX_RESULTS}
use Rattle.client_follow.specs.Laws.{LastPagesComplete, PagesFollow}
use Rattle.client_follow.specs.Lists.{IsBeginning, part_from}

whole_of : (list so_far : List ℕ) → IsBeginning list so_far → list ≡ so_far ++ drop (length so_far) list
whole_of list so_far begins =
    sym (take-append-drop (length so_far) list) ∙ ap (λ xs. xs ++ drop (length so_far) list) (sym begins)

follow : (m : ℕ) (list so_far : List ℕ) → IsBeginning list so_far → IsBeginning list (so_far ++ part_from list m (length so_far))
follow m list so_far begins =
    let rest = drop (length so_far) list in
    let now = so_far ++ take m rest in
    let split : list ≡ now ++ drop m rest =
    whole_of list so_far begins ∙ (ap (λ xs. so_far ++ xs) (sym (take-append-drop m rest)) ∙ sym (append_assoc so_far (take m rest) (drop m rest))) in
    sym (ap (take (length now)) split ∙ take-append_seam now (drop m rest))

pub pages_follow : PagesFollow
pages_follow list so_far begins = follow MAX_RESULTS list so_far begins

all_there : (m : ℕ) (xs : List ℕ) → eqb (length (take m xs)) m ≡ false → take m xs ≡ xs
all_there m xs short =
    ⊎_elim
    (λ (t : nat_le (length xs) m ≡ true). let few : length xs ≤ m = let test = t in grind (arith, nat_tests) in take_all m xs few)
    (λ (f : nat_le (length xs) m ≡ false).
    let many : m ≤ length xs = let test = f in grind (arith, nat_tests) in
    absurd (true≢false (sym ((Decides-eqb (length (take m xs)) m).1 (length-take-le m xs many)) ∙ short)))
    (cases_Bool (nat_le (length xs) m))

complete : (m : ℕ) (list so_far : List ℕ) → IsBeginning list so_far → eqb (length (part_from list m (length so_far))) m ≡ false
    → so_far ++ part_from list m (length so_far) ≡ list
complete m list so_far begins short =
    ap (λ xs. so_far ++ xs) (all_there m (drop (length so_far) list) short) ∙ sym (whole_of list so_far begins)

pub last_pages_complete : LastPagesComplete
last_pages_complete list so_far begins short = complete MAX_RESULTS list so_far begins short
