-- What a server writes is read as what it was.
use Rattle.std.proofs.Common.{◌≡◌, ◌==◌, ℕ, ◌<◌, ◌≤◌, List, [], ◌∷◌, ◌++◌, length, Bool, true, false, not, ◌||◌, nat_le, nat_lt, bytes_eq, min, Option, Some, None, is_some, option_and_then, option_map, arith, refl, ap, ap₂, ◌∙◌, codes}
use Rattle.std.specs.List.{AllByRecursion}
use Rattle.std.proofs.lemmas.Bool.Decides.{Decides-eqb, Decides-ltb, nat_tests}
use Rattle.std.proofs.lemmas.List.{length-map}
use Rattle.std.proofs.lemmas.Slice.Eq.{bytes_eq-Decides}
use Rattle.jm_base.specs.Ids.{IsState, id_text, state_text}
use Rattle.jm_base.specs.declared.identifiers.AddedItem.{AddedItem}
use Rattle.jm_base.specs.declared.identifiers.Kind.{Kind}
use Rattle.jm_base.specs.declared.identifiers.Kind.TheVariants.{Mailbox as OfMailbox, Email as OfEmail, Thread as OfThread}
use Rattle.jm_base.specs.declared.limits.TheConstants.{MAX_JSON_INTEGER}
use Rattle.jm_json.specs.Tree.{Tree, list, text, trees_of}
use Rattle.jm_json.specs.Find.{as_list, find}
use Rattle.jm_json.proofs.Lists.{list_of-trees_of, pairs_of-fields_of}
use Rattle.method_args.specs.Added.{added_from, added_in, item_by}
use Rattle.method_args.specs.Arguments.{as_count, passes}
use Rattle.method_args.specs.Ids.{id_trees, state_in}
use Rattle.method_args.specs.Places.{added_places, at_name, ids_places, member_places, place_unless}
use Rattle.method_args.specs.WrittenIds.{AreIds}
use Rattle.method_args.proofs.IdTexts.{id_reads, ids_read_back, states_read_back}
use Rattle.method_args.proofs.NoPlaces.{all_added_without_places, ids_without_places}
use Rattle.mail_counts.specs.Views.{count_tree}
use Rattle.change_calls.specs.Responses.{page_members, properties_members, properties_tree}
use Rattle.change_calls.specs.declared.page.ChangePage.{ChangePage}
use Rattle.query_engine.specs.Responses.{limit_members, response_members, total_members}
use Rattle.query_changes.specs.Responses.{added_trees, delta_members}
use Rattle.reply_readers.specs.Deltas.{delta_member_places, delta_of_members, delta_with}
use Rattle.reply_readers.specs.Members.{flag_of, has_count, has_state, has_text, state_of}
use Rattle.reply_readers.specs.Pages.{are_properties, has_new_state, has_properties, is_new_state, page_member_places, page_of_members, page_with}
use Rattle.reply_readers.specs.ReadBack.{CanBeItem, CanBePage, DeltasReadBack, PagesReadBack, ResultsReadBack}
use Rattle.reply_readers.specs.Results.{has_few, is_short, results_member_places, results_of_members, results_with}

-- ---- values

same_text : (s : List ℕ) → bytes_eq s s ≡ true
same_text s = (bytes_eq-Decides s s).1 refl

same_number : (n : ℕ) → (n == n) ≡ true
same_number n = (Decides-eqb n n).1 refl

no_id_places : (kind : Kind) (p numbers : List ℕ) → AreIds kind numbers → ids_places kind p (list (trees_of (id_trees kind numbers))) ≡ []
no_id_places kind p numbers are = (ids_without_places kind p (list (trees_of (id_trees kind numbers)))).0 (ap is_some (ids_read_back kind numbers are))

old_state : (since : ℕ) → IsState since → passes (λ n. n == since) (state_in (text (state_text since))) ≡ true
old_state since is = ap (passes (λ n. n == since)) (states_read_back since is) ∙ same_number since

count_reads : (n : ℕ) → n ≤ MAX_JSON_INTEGER → as_count (count_tree n) ≡ Some n
count_reads n small = let least : min n MAX_JSON_INTEGER ≡ n = grind (arith, nat_tests) in ap Some least

-- ---- pages

rising : (since : ℕ) (more : Bool) (state : ℕ) → (more ≡ true → since < state) → (not more || nat_lt since state) ≡ true
rising since false state rises = refl
rising since true state rises = (Decides-ltb since state).1 (rises refl)

properties_are : (counts : Bool) → are_properties (Some (properties_tree counts)) ≡ true
properties_are false = refl
properties_are true = refl

properties_there : (kind : Kind) (account since : List ℕ) (page : ChangePage) → has_properties kind (page_members kind account since page ++ properties_members kind page.counts_only) ≡ true
properties_there OfMailbox account since page = properties_are page.counts_only
properties_there OfEmail account since page = refl
properties_there OfThread account since page = refl

no_page_places : (x y z w v : List ℕ) (a m n o r : Bool) (c d u : List (List ℕ)) → a ≡ true → c ≡ [] → d ≡ [] → u ≡ [] → m ≡ true → n ≡ true → o ≡ true → r ≡ true
    → place_unless a x ++ c ++ d ++ u ++ (place_unless m y ++ place_unless n z ++ place_unless o w ++ place_unless r v) ≡ []
no_page_places x y z w v a m n o r c d u ea ec ed eu em en eo er = rw (ea, ec, ed, eu, em, en, eo, er) refl

page_read : (c d u : Option (List ℕ)) (m : Option Bool) (s : Option ℕ) (xs ys zs : List ℕ) (more : Bool) (state : ℕ) → c ≡ Some xs → d ≡ Some ys → u ≡ Some zs → m ≡ Some more → s ≡ Some state
    → option_and_then (λ created. option_and_then (λ destroyed. option_and_then (λ updated. option_and_then (λ more. option_map (page_with created destroyed updated more) s) m) u) d) c
    ≡ Some (page_with xs ys zs more state)
page_read c d u m s xs ys zs more state ec ed eu em es = rw (ec, ed, eu, em, es) refl

page_formed : (kind : Kind) (account p : List ℕ) (since : ℕ) (page : ChangePage) → CanBePage kind since page
    → page_member_places kind account since p (page_members kind account (state_text since) page ++ properties_members kind page.counts_only) ≡ []
page_formed kind account p since page can =
    let ms : List (List ℕ × Tree) = page_members kind account (state_text since) page ++ properties_members kind page.counts_only in
    no_page_places (at_name p (codes "accountId")) (at_name p (codes "hasMoreChanges")) (at_name p (codes "newState")) (at_name p (codes "oldState")) (at_name p (codes "updatedProperties"))
    (has_text (codes "accountId") account ms) (is_some (flag_of (codes "hasMoreChanges") ms)) (has_new_state since ms) (has_state (codes "oldState") since ms) (has_properties kind ms)
    (member_places (ids_places kind) p (codes "created") ms) (member_places (ids_places kind) p (codes "destroyed") ms) (member_places (ids_places kind) p (codes "updated") ms)
    (same_text account)
    (no_id_places kind (at_name p (codes "created")) page.created can.created)
    (no_id_places kind (at_name p (codes "destroyed")) page.destroyed can.destroyed)
    (no_id_places kind (at_name p (codes "updated")) page.updated can.updated)
    refl
    (ap (is_new_state since (Some page.more)) (states_read_back page.new_state can.new_state) ∙ rising since page.more page.new_state can.rises)
    (old_state since can.old_state)
    (properties_there kind account (state_text since) page)

page_said : (kind : Kind) (account : List ℕ) (since : ℕ) (page : ChangePage) → CanBePage kind since page
    → page_of_members kind (page_members kind account (state_text since) page ++ properties_members kind page.counts_only)
    ≡ Some (page_with page.created page.destroyed page.updated page.more page.new_state)
page_said kind account since page can =
    page_read _ _ _ _ _ page.created page.destroyed page.updated page.more page.new_state
    (ids_read_back kind page.created can.created) (ids_read_back kind page.destroyed can.destroyed) (ids_read_back kind page.updated can.updated)
    refl (states_read_back page.new_state can.new_state)

pub pages_read_back : PagesReadBack
pages_read_back kind account p since page can =
    let ms : List (List ℕ × Tree) = page_members kind account (state_text since) page ++ properties_members kind page.counts_only in (
      ap (page_member_places kind account since p) (pairs_of-fields_of ms) ∙ page_formed kind account p since page can,
      ap (page_of_members kind) (pairs_of-fields_of ms) ∙ page_said kind account since page can,
    )

-- ---- changes of a query's results

item_reads : (n i : Option ℕ) (item : AddedItem) → n ≡ Some item.number → i ≡ Some item.index → item_by n i ≡ Some item
item_reads n i item en ei = rw (en, ei) refl

added_reads : (kind : Kind) (items : List AddedItem) → AllByRecursion (CanBeItem kind) items → added_from kind (added_trees kind items) ≡ Some items
added_reads kind [] all = refl
added_reads kind (i ∷ is) all =
    ap₂ (λ (o : Option AddedItem) (os : Option (List AddedItem)). option_and_then (λ x. option_map (λ xs. x ∷ xs) os) o)
    (item_reads _ _ i (id_reads kind (id_text (record { kind = kind; number = i.number })) (record { kind = kind; number = i.number }) all.0.number refl refl) (count_reads i.index all.0.index))
    (added_reads kind is all.1)

all_added : (kind : Kind) (items : List AddedItem) → AllByRecursion (CanBeItem kind) items → added_in kind (list (trees_of (added_trees kind items))) ≡ Some items
all_added kind items all = ap (added_from kind) (list_of-trees_of (added_trees kind items)) ∙ added_reads kind items all

no_added_places : (kind : Kind) (p : List ℕ) (items : List AddedItem) → AllByRecursion (CanBeItem kind) items → added_places kind p (list (trees_of (added_trees kind items))) ≡ []
no_added_places kind p items all = (all_added_without_places kind p (list (trees_of (added_trees kind items)))).0 (ap is_some (all_added kind items all))

no_delta_places : (x y z : List ℕ) (a n o : Bool) (c d : List (List ℕ)) → a ≡ true → c ≡ [] → n ≡ true → o ≡ true → d ≡ []
    → place_unless a x ++ c ++ place_unless n y ++ place_unless o z ++ d ≡ []
no_delta_places x y z a n o c d ea ec en eo ed = rw (ea, ec, en, eo, ed) refl

delta_read : (a : Option (List AddedItem)) (r : Option (List ℕ)) (s : Option ℕ) (xs : List AddedItem) (ys : List ℕ) (state : ℕ) → a ≡ Some xs → r ≡ Some ys → s ≡ Some state
    → option_and_then (λ added. option_and_then (λ removed. option_map (delta_with added removed) s) r) a ≡ Some (delta_with xs ys state)
delta_read a r s xs ys state ea er es = rw (ea, er, es) refl

pub deltas_read_back : DeltasReadBack
deltas_read_back kind account p since counted delta can =
    let ms : List (List ℕ × Tree) = delta_members kind account (state_text since) delta ++ total_members counted delta.total in (
      ap (delta_member_places kind account since p) (pairs_of-fields_of ms)
          ∙ no_delta_places (at_name p (codes "accountId")) (at_name p (codes "newQueryState")) (at_name p (codes "oldQueryState"))
          (has_text (codes "accountId") account ms) (is_some (state_of (codes "newQueryState") ms)) (has_state (codes "oldQueryState") since ms)
          (member_places (added_places kind) p (codes "added") ms) (member_places (ids_places kind) p (codes "removed") ms)
          (same_text account)
          (no_added_places kind (at_name p (codes "added")) delta.added can.added)
          (ap is_some (states_read_back delta.new_state can.new_state))
          (old_state since can.old_state)
          (no_id_places kind (at_name p (codes "removed")) delta.removed can.removed),
      ap (delta_of_members kind) (pairs_of-fields_of ms)
          ∙ delta_read _ _ _ delta.added delta.removed delta.new_state (all_added kind delta.added can.added) (ids_read_back kind delta.removed can.removed) (states_read_back delta.new_state can.new_state),
    )

-- ---- results of a query

no_result_places : (x y z v w : List ℕ) (a f l n s : Bool) (c : List (List ℕ)) → a ≡ true → f ≡ true → l ≡ true → c ≡ [] → n ≡ true → s ≡ true
    → place_unless a x ++ place_unless f y ++ place_unless l z ++ c ++ place_unless n v ++ place_unless s w ≡ []
no_result_places x y z v w a f l n s c ea ef el ec en es = rw (ea, ef, el, ec, en, es) refl

results_read : (i : Option (List ℕ)) (s : Option ℕ) (xs : List ℕ) (state : ℕ) → i ≡ Some xs → s ≡ Some state → option_and_then (λ ids. option_map (results_with ids) s) i ≡ Some (results_with xs state)
results_read i s xs state ei es = rw (ei, es) refl

has_position : (l : Option ℕ) (n : ℕ) (rest : List (List ℕ × Tree)) → n ≤ MAX_JSON_INTEGER
    → passes (λ m. m == n) (option_and_then as_count (find (codes "position") (limit_members l ++ (codes "position", count_tree n) ∷ rest))) ≡ true
has_position None n rest small = ap (passes (λ m. m == n)) (count_reads n small) ∙ same_number n
has_position (Some limit) n rest small = ap (passes (λ m. m == n)) (count_reads n small) ∙ same_number n

has_query_state : (l : Option ℕ) (t : Tree) (n : ℕ) (rest : List (List ℕ × Tree)) → IsState n
    → option_and_then state_in (find (codes "queryState") (limit_members l ++ (codes "position", t) ∷ (codes "queryState", text (state_text n)) ∷ rest)) ≡ Some n
has_query_state None t n rest is = states_read_back n is
has_query_state (Some limit) t n rest is = states_read_back n is

few_there : (kind : Kind) (numbers : List ℕ) (limit : ℕ) → length numbers ≤ limit → is_short limit (as_list (list (trees_of (id_trees kind numbers)))) ≡ true
few_there kind numbers limit few =
    ap (λ ts. is_short limit (Some ts)) (list_of-trees_of (id_trees kind numbers))
    ∙ (ap (λ n. nat_le n limit) (length-map numbers (λ n. text (id_text (record { kind = kind; number = n })))) ∙ (let small = few in grind (arith, nat_tests)))

pub results_read_back : ResultsReadBack
results_read_back kind account p state limit shown counted total can =
    let ms : List (List ℕ × Tree) = response_members kind account state shown counted total in (
      ap (results_member_places kind account shown.position limit p) (pairs_of-fields_of ms)
          ∙ no_result_places (at_name p (codes "accountId")) (at_name p (codes "canCalculateChanges")) (at_name p (codes "ids")) (at_name p (codes "position")) (at_name p (codes "queryState"))
          (has_text (codes "accountId") account ms) (is_some (flag_of (codes "canCalculateChanges") ms)) (has_few (codes "ids") limit ms) (has_count (codes "position") shown.position ms) (is_some (state_of (codes "queryState") ms))
          (member_places (ids_places kind) p (codes "ids") ms)
          (same_text account) refl (few_there kind shown.ids limit can.few)
          (no_id_places kind (at_name p (codes "ids")) shown.ids can.ids)
          (has_position shown.limit shown.position _ can.position)
          (ap is_some (has_query_state shown.limit (count_tree shown.position) state _ can.query_state)),
      ap (results_of_members kind) (pairs_of-fields_of ms)
          ∙ results_read _ _ shown.ids state (ids_read_back kind shown.ids can.ids) (has_query_state shown.limit (count_tree shown.position) state _ can.query_state),
    )
