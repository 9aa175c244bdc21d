-- What is fetched is what is delivered, and the keywords of an original are kept.
use Rattle.std.proofs.Common.{◌≡◌, ℕ, Bool, true, false, not, cond, ◌&&◌, ◌||◌, nat_le, List, [], ◌∷◌, ◌++◌, map, Option, Some, None, option_and_then, option_map, unwrap_or, refl, sym, ap, ◌∙◌, append_assoc, append-nil, arith}
use Rattle.std.specs.List.{AllByRecursion, list_all}
use Rattle.std.specs.List.Sorted.{IsStrictlySortedBy}
use Rattle.std.specs.Ordering.{match_ordering, nat_cmp, is_eq, ordering_reverse}
use Rattle.std.specs.declared.cmp.Ordering.TheVariants.{Less, Greater}
use Rattle.std.specs.Cmp.Lexicographic.{slice_cmp, nat_list_cmp_total}
use Rattle.std.specs.Char.{to_ascii_lowercase}
use Rattle.std.specs.Str.{bytes_eq, str_to_ascii_lowercase}
use Rattle.std.proofs.lemmas.Bool.{and_parts, leb-false, true≢false}
use Rattle.std.proofs.lemmas.Str.Ascii.{lowercase_is}
use Rattle.std.proofs.lemmas.Map.Text.{is_eq-slice_cmp}
use Rattle.std.proofs.lemmas.Slice.Eq.{bytes_eq-Decides}
use Rattle.jm_json.specs.Tree.{Tree, boolean}
use Rattle.jm_json.specs.Order.{put}
use Rattle.jm_json.proofs.Lists.{pairs_of-fields_of}
use Rattle.mail_counts.specs.Forms.{is_kept_out, is_keyword, is_keyword_byte}
use Rattle.mail_counts.specs.Touched.{sorted_once}
use Rattle.mail_counts.proofs.Sorted.{sorted_once-is}
use Rattle.mail_records.specs.Commits.{TextsRise}
use Rattle.mail_records.specs.declared.records.Email.{Email}
use Rattle.mail_view.specs.Objects.{put_all}
use Rattle.mail_view.specs.View.{keywords_tree}
use Rattle.method_args.specs.Arguments.{is_null}
use Rattle.set_parts.specs.Names.{keyword_meant, meanings, only_if, set_in}
use Rattle.set_parts.proofs.Parts.{all_push}
use Rattle.mail_copies.specs.Carried.{carried_keywords, deliveries, kept_keyword}
use Rattle.copy_calls.specs.Fetches.{delivery_from, item_of, messages_of}

-- ---- deliveries

deliver_null : (t : Tree) (ts : List Tree) (bs : List (List ℕ)) → is_null t ≡ true → deliveries (t ∷ ts) bs ≡ None ∷ deliveries ts bs
deliver_null t ts [] e = refl
deliver_null t ts (b ∷ bs) e = ap (λ c. cond c (None ∷ deliveries ts (b ∷ bs)) (Some (record { item = t; bytes = b }) ∷ deliveries ts bs)) e

pub delivered : (blobs : List (List ℕ)) (os : List (Option Email)) → deliveries (map item_of os) (messages_of blobs os) ≡ map (delivery_from blobs) os
delivered blobs [] = refl
delivered blobs (None ∷ os) = deliver_null (item_of None) (map item_of os) (messages_of blobs os) refl ∙ ap (λ ds. None ∷ ds) (delivered blobs os)
delivered blobs (Some e ∷ os) = ap (λ ds. delivery_from blobs (Some e) ∷ ds) (delivered blobs os)

-- ---- keywords

not_second : (a b : Bool) → not (a || b) ≡ true → b ≡ false
not_second true b e = absurd (true≢false (sym e))
not_second false true e = absurd (true≢false (sym e))
not_second false false e = refl

lower_byte : (x : ℕ) → is_keyword_byte x ≡ true → to_ascii_lowercase x ≡ x
lower_byte x e = step (nat_le 65 x) (nat_le x 90) refl refl (not_second _ (nat_le 65 x && nat_le x 90) (and_parts (nat_le 33 x && nat_le x 126) (not (is_kept_out x)) e).1)
  where
    step : (a b : Bool) → nat_le 65 x ≡ a → nat_le x 90 ≡ b → (a && b) ≡ false → to_ascii_lowercase x ≡ x
    step false b p q f = let less = leb-false 65 x p in (lowercase_is x).1 (omega (arith, less))
    step true false p q f = let more = leb-false x 90 q in (lowercase_is x).2 (omega (arith, more))
    step true true p q f = absurd (true≢false f)

lower_bytes : (k : List ℕ) → list_all is_keyword_byte k ≡ true → str_to_ascii_lowercase k ≡ k
lower_bytes [] e = refl
lower_bytes (x ∷ k) e =
    let both = and_parts (is_keyword_byte x) (list_all is_keyword_byte k) e in
    ap (λ y. y ∷ str_to_ascii_lowercase k) (lower_byte x both.0) ∙ ap (λ ys. x ∷ ys) (lower_bytes k both.1)

kept_is : (k : List ℕ) → is_keyword k ≡ true → kept_keyword k ≡ Some k
kept_is k e =
    let all = and_parts _ (list_all is_keyword_byte k) e in
    let meant : keyword_meant k ≡ Some k = ap (only_if is_keyword) (lower_bytes k all.1) ∙ ap (λ b. cond b (Some k) None) e in
    ap (option_and_then (only_if (bytes_eq k))) meant ∙ ap (λ b. cond b (Some k) None) ((bytes_eq-Decides k k).1 refl)

abbrev true_at : List ℕ → List ℕ × Tree
true_at k = (k, boolean true)

all_kept : (ks : List (List ℕ)) → AllByRecursion (λ k. is_keyword k ≡ true) ks → meanings kept_keyword (map true_at ks) ≡ Some ks
all_kept [] all = refl
all_kept (k ∷ ks) all =
    ap (λ o. option_and_then (λ x. option_map (λ xs. x ∷ xs) (meanings kept_keyword (map true_at ks))) o) (kept_is k all.0)
    ∙ ap (option_map (λ xs. k ∷ xs)) (all_kept ks all.1)

abbrev Pairs : Type 0
Pairs = List (List ℕ × Tree)

greater : (k j : List ℕ) → slice_cmp nat_cmp j k ≡ Less → slice_cmp nat_cmp k j ≡ Greater
greater k j e = nat_list_cmp_total.antisymm k j ∙ ap ordering_reverse e

put_last : (ms : Pairs) (k : List ℕ) (t : Tree) → AllByRecursion (λ (m : List ℕ × Tree). slice_cmp nat_cmp m.0 k ≡ Less) ms → put k t ms ≡ ms ++ (k, t) ∷ []
put_last [] k t all = refl
put_last (m ∷ ms) k t all =
    ap (λ r. match_ordering r ((k, t) ∷ m ∷ ms) ((k, t) ∷ ms) (m ∷ put k t ms)) (greater k m.0 all.0)
    ∙ ap (λ xs. m ∷ xs) (put_last ms k t all.1)

put_rising : (ks : List (List ℕ)) (acc : Pairs) → IsStrictlySortedBy (slice_cmp nat_cmp) ks → AllByRecursion (λ j. AllByRecursion (λ (m : List ℕ × Tree). slice_cmp nat_cmp m.0 j ≡ Less) acc) ks
    → put_all (map true_at ks) acc ≡ acc ++ map true_at ks
unfolding IsStrictlySortedBy
put_rising [] acc rise all = sym (append-nil acc)
put_rising (k ∷ ks) acc rise all =
    ap (put_all (map true_at ks)) (put_last acc k (boolean true) all.0)
    ∙ (put_rising ks (acc ++ true_at k ∷ []) rise.1
    (both ks rise.0 all.1)
    ∙ append_assoc acc (true_at k ∷ []) (map true_at ks))
  where
    both : (js : List (List ℕ)) → AllByRecursion (λ j. slice_cmp nat_cmp k j ≡ Less) js → AllByRecursion (λ j. AllByRecursion (λ (m : List ℕ × Tree). slice_cmp nat_cmp m.0 j ≡ Less) acc) js
        → AllByRecursion (λ j. AllByRecursion (λ (m : List ℕ × Tree). slice_cmp nat_cmp m.0 j ≡ Less) (acc ++ true_at k ∷ [])) js
    both [] low alls = tt
    both (j ∷ js) low alls = (all_push (λ (m : List ℕ × Tree). slice_cmp nat_cmp m.0 j ≡ Less) acc (true_at k) alls.0 low.0, both js low.1 alls.1)

none_before : (ks : List (List ℕ)) → AllByRecursion (λ j. AllByRecursion (λ (m : List ℕ × Tree). slice_cmp nat_cmp m.0 j ≡ Less) []) ks
none_before [] = tt
none_before (k ∷ ks) = (tt, none_before ks)

same_text : (a b : List ℕ) → is_eq (slice_cmp nat_cmp a b) ≡ true → a ≡ b
same_text a b e = (bytes_eq-Decides a b).0 (sym (is_eq-slice_cmp a b) ∙ e)

pub keywords_kept : (e : Email) → AllByRecursion (λ k. is_keyword k ≡ true) e.keywords → TextsRise e.keywords → carried_keywords (item_of (Some e)) ≡ e.keywords
keywords_kept e all rise =
    let ks = e.keywords in
    let members : put_all (map true_at ks) [] ≡ map true_at ks = put_rising ks [] rise (none_before ks) in
    let named : set_in kept_keyword (keywords_tree e) ≡ Some ks =
    ap (meanings kept_keyword) (pairs_of-fields_of (put_all (map true_at ks) []) ∙ members) ∙ all_kept ks all in
    ap (λ (o : Option (List (List ℕ))). unwrap_or (option_map (sorted_once (slice_cmp nat_cmp)) o) []) named
    ∙ sym (sorted_once-is nat_list_cmp_total same_text ks ks rise (λ k. refl))
