-- The members of a response in the order of their names, and how much of a list decides its part.
use Rattle.std.proofs.Common.{◌≡◌, ℕ, zero, suc, ◌+◌, ◌<◌, ◌≤◌, ℤ, pos, Bool, true, false, if◌then◌else◌, List, [], ◌∷◌, ◌++◌, take, drop, length, codes, Option, Some, None, refl, sym, ap, subst, ◌∙◌, arith, IfSome}
use Rattle.jm_base.specs.Ids.{state_text}
use Rattle.jm_base.specs.declared.identifiers.Kind.{Kind}
use Rattle.jm_json.specs.Tree.{boolean, text, list, trees_of}
use Rattle.mail_counts.specs.Views.{count_tree}
use Rattle.query_engine.specs.Replies.{Decides, plain_members, with_limit, with_total}
use Rattle.method_args.specs.Ids.{id_trees}
use Rattle.query_engine.specs.Responses.{limit_members, response_members, total_members}
use Rattle.query_engine.specs.Windows.{part, from_position, greatest_count, limit_of, part_from, start_by, limit_in_response, window_at, window_of, window_within}
use Rattle.query_engine.specs.declared.frame.Frame.{Frame}
use Rattle.query_engine.specs.declared.frame.Shown.{Shown}

members_at : (kind : Kind) (account : List ℕ) (state : ℕ) (shown : Shown) (limit : Option ℕ) (counted : Bool) (total : ℕ)
    → with_total counted total (with_limit limit (plain_members kind account state shown))
    ≡ ((codes "accountId", text account)
    ∷ (codes "canCalculateChanges", boolean true)
    ∷ (codes "ids", list (trees_of (id_trees kind shown.ids)))
    ∷ (limit_members limit ++ (codes "position", count_tree shown.position) ∷ (codes "queryState", text (state_text state)) ∷ total_members counted total))
members_at kind account state shown None false total = refl
members_at kind account state shown None true total = refl
members_at kind account state shown (Some limit) false total = refl
members_at kind account state shown (Some limit) true total = refl

pub members_are : (kind : Kind) (account : List ℕ) (state : ℕ) (shown : Shown) (counted : Bool) (total : ℕ)
    → with_total counted total (with_limit shown.limit (plain_members kind account state shown)) ≡ response_members kind account state shown counted total
members_are kind account state shown counted total = members_at kind account state shown shown.limit counted total

-- ---- how many numbers decide a part

take_twice : {X : Type 0} (k : ℕ) (ys : List X) → take k (take k ys) ≡ take k ys
take_twice zero ys = refl
take_twice (suc k) [] = refl
take_twice (suc k) (y ∷ ys) = ap (λ zs. y ∷ zs) (take_twice k ys)

sum_suc : (n m : ℕ) → suc n + m ≡ suc (n + m)
sum_suc n m = omega arith

drop_take : {X : Type 0} (n m : ℕ) (xs : List X) → take m (drop n (take (n + m) xs)) ≡ take m (drop n xs)
drop_take zero m xs = ap (λ k. take m (take k xs)) (omega arith) ∙ take_twice m xs
drop_take (suc n) m [] = ap (λ k. take m (drop (suc n) (take k []))) (sum_suc n m) ∙ refl
drop_take (suc n) m (x ∷ xs) = ap (λ k. take m (drop (suc n) (take k (x ∷ xs)))) (sum_suc n m) ∙ drop_take n m xs

-- all numbers do
pub all_decide : (f : Frame) → Decides f None
all_decide f kind numbers = refl

-- none is needed where the limit is below 0
pub none_decide : (f : Frame) → limit_of f.limit ≡ None → Decides f (Some 0)
none_decide f bad kind numbers = ap (window_within kind (take 0 numbers) f) bad ∙ sym (ap (window_within kind numbers f) bad)

-- from a position on, those up to the end of the part do
pub some_decide : (f : Frame) (position : ℕ) (limit : Option ℕ) → f.anchor ≡ None → f.position ≡ pos position → limit_of f.limit ≡ Some limit
    → Decides f (Some (position + greatest_count limit))
some_decide f position limit anchor start given kind numbers =
    by (take (position + greatest_count limit) numbers)
    ∙ (ap (λ ids. part (record { position = position; ids = ids; limit = limit_in_response limit })) (drop_take position (greatest_count limit) numbers) ∙ sym (by numbers))
  where
    by : (ns : List ℕ) → window_of kind ns f ≡ part (part_from ns limit position)
    by ns =
        ap (window_within kind ns f) given
        ∙ ap (window_at ns limit) (ap (start_by kind ns f) anchor ∙ ap (λ z. Some (from_position (length ns) z)) start)

pub sum_decides : (f : Frame) (position : ℕ) (limit : Option ℕ) (sum : Option ℕ) → f.anchor ≡ None → f.position ≡ pos position → limit_of f.limit ≡ Some limit
    → IfSome sum (λ s. s ≡ position + greatest_count limit) → Decides f sum
sum_decides f position limit None anchor start given is = all_decide f
sum_decides f position limit (Some s) anchor start given is = subst (λ n. Decides f (Some n)) (sym is) (some_decide f position limit anchor start given)
