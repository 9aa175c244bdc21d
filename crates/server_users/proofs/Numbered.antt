-- In a configuration without bad places the number of each account is the index of its identifier.
use Rattle.std.proofs.Common.{◌≡◌, ℕ, suc, ◌+◌, ◌<◌, cond, ltb, List, [], ◌∷◌, ◌++◌, length, get_or, map, Bool, true, false, not, ◌||◌, ◌&&◌, Option, Some, None, unwrap_or, is_some, codes, bytes_eq, if◌then◌else◌, refl, sym, ap, ◌∙◌, subst, arith}
use Rattle.std.specs.List.{list_any, position, position_or_len, AllByRecursion}
use Rattle.std.proofs.lemmas.Bool.Decides.{nat_tests}
use Rattle.std.proofs.lemmas.List.Quantifiers.{position-Some}
use Rattle.std.proofs.lemmas.Slice.Eq.{bytes_eq-Decides}
use Rattle.jm_json.specs.Tree.{Tree}
use Rattle.jm_json.specs.Find.{as_object}
use Rattle.server_users.specs.Values.{text_at, items_at}
use Rattle.server_users.specs.Configuration.{is_account_id, is_among, id_in, number_of, account_in, user_in, account_ids, account_trees, user_trees, configuration_in, IsNumbered, AreNumbered}
use Rattle.server_users.specs.BadPlaces.{bad_if, bad_places, document_places, users_places, user_places, user_members, list_places, accounts_places, account_places, account_members, account_pointer, is_good_id}
use Rattle.server_users.specs.declared.users.User.{User}

-- ---- no places

no_item : {A : Type 0} (x : A) (xs : List A) → x ∷ xs ≡ [] → ⊥
no_item x xs e = absurd (cc)

none_first : {A : Type 0} (xs ys : List A) → xs ++ ys ≡ [] → xs ≡ []
none_first [] ys e = refl
none_first (x ∷ xs) ys e = absurd (no_item x (xs ++ ys) e)

none_second : {A : Type 0} (xs ys : List A) → xs ++ ys ≡ [] → ys ≡ []
none_second [] ys e = e
none_second (x ∷ xs) ys e = absurd (no_item x (xs ++ ys) e)

none_if : (b : Bool) (xs : List (List ℕ)) (p : List ℕ) → (if b then xs else p ∷ []) ≡ [] → xs ≡ []
none_if true xs p e = e
none_if false xs p e = absurd (no_item p [] e)

not_bad : (b : Bool) (p : List ℕ) → bad_if (not b) p ≡ [] → b ≡ true
not_bad true p e = refl
not_bad false p e = absurd (no_item p [] e)

-- ---- the index of an identifier

false_is : {A : Type 0} → false ≡ true → A
false_is e = absurd (cc)

below_at : (b : Bool) (n m : ℕ) (any : Bool) → (b || any) ≡ true → (any ≡ true → n < m) → cond (not b) (1 + n) 0 < suc m
below_at true n m any e go = omega arith
below_at false n m any e go = let h : n < m = go e in omega arith

below : {A : Type 0} (p : A → Bool) (xs : List A) → list_any p xs ≡ true → position_or_len p xs < length xs
below p [] e = false_is e
below p (x ∷ xs) e = below_at (p x) (position_or_len p xs) (length xs) (list_any p xs) e (below p xs)

some_if : (a b : ℕ) → a < b → cond (ltb a b) (Some a) None ≡ Some a
some_if a b h = grind (arith, nat_tests)

number_is : (ids : List (List ℕ)) (id : List ℕ) → is_among ids id ≡ true → (number_of ids id < length ids) × (get_or ids (number_of ids id) [] ≡ id)
number_is ids id e =
    let p : List ℕ → Bool = λ other. bytes_eq other id in
    let at : position p ids ≡ Some (position_or_len p ids) = some_if (position_or_len p ids) (length ids) (below p ids e) in
    let found = position-Some p ids (position_or_len p ids) [] at in
    let same : number_of ids id ≡ position_or_len p ids = ap (λ o. unwrap_or o 0) at in (
      subst (λ n. n < length ids) (sym same) found.0,
      ap (λ n. get_or ids n []) same ∙ (bytes_eq-Decides (get_or ids (position_or_len p ids) []) id).0 found.1,
    )

-- ---- accounts and users

and_last : (a b c : Bool) → (a && b && c) ≡ true → c ≡ true
and_last true true c e = e
and_last true false c e = false_is e
and_last false true c e = false_is e
and_last false false c e = false_is e

good_is_among : (ids : List (List ℕ)) (repeated : Bool) (o : Option (List ℕ)) → is_good_id ids repeated o ≡ true → is_among ids (unwrap_or o []) ≡ true
good_is_among ids repeated None e = false_is e
good_is_among ids repeated (Some id) e = and_last (is_account_id id) (not repeated) (is_among ids id) e

account_numbered : (ids : List (List ℕ)) (user index : ℕ) (repeated : Bool) (t : Tree) → account_places ids user index repeated t ≡ [] → IsNumbered ids (account_in ids t)
account_numbered ids user index repeated t e =
    let members : account_members ids user index repeated t ≡ [] = none_if (is_some (as_object t)) (account_members ids user index repeated t) (account_pointer user index) e in
    let good = not_bad (is_good_id ids repeated (text_at (codes "id") t)) (account_pointer user index ++ codes "/id") (none_first _ _ members) in
    number_is ids (id_in t) (good_is_among ids repeated (text_at (codes "id") t) good)

accounts_numbered : (ids : List (List ℕ)) (user : ℕ) (before : List (List ℕ)) (ts : List Tree) → accounts_places ids user before ts ≡ []
    → AllByRecursion (IsNumbered ids) (map (account_in ids) ts)
accounts_numbered ids user before [] e = tt
accounts_numbered ids user before (t ∷ ts) e = (
  account_numbered ids user (length before) (is_among before (id_in t)) t (none_first _ _ e),
  accounts_numbered ids user (before ++ id_in t ∷ []) ts (none_second (account_places ids user (length before) (is_among before (id_in t)) t) _ e),
)

list_numbered : (ids : List (List ℕ)) (user : ℕ) (o : Option (List Tree)) → list_places ids user o ≡ []
    → AllByRecursion (IsNumbered ids) (map (account_in ids) (unwrap_or o []))
list_numbered ids user None e = absurd (no_item _ _ e)
list_numbered ids user (Some ts) e = accounts_numbered ids user [] ts e

user_numbered : (ids : List (List ℕ)) (index : ℕ) (name token : Bool) (t : Tree) → user_places ids index name token t ≡ []
    → AllByRecursion (IsNumbered ids) (map (account_in ids) (account_trees t))
user_numbered ids index name token t e =
    let members : user_members ids index name token t ≡ [] = none_if (is_some (as_object t)) (user_members ids index name token t) _ e in
    list_numbered ids index (items_at (codes "accounts") t) (none_first (list_places ids index (items_at (codes "accounts") t)) _ members)

users_numbered : (ids : List (List ℕ)) (before us : List Tree) → users_places ids before us ≡ []
    → AllByRecursion (λ (u : User). AllByRecursion (IsNumbered ids) u.accounts) (map (user_in ids) us)
users_numbered ids before [] e = tt
users_numbered ids before (t ∷ ts) e =
    (user_numbered ids (length before) _ _ t (none_first _ _ e), users_numbered ids (before ++ t ∷ []) ts (none_second _ _ e))

document_numbered : (ids : List (List ℕ)) (o : Option (List Tree)) → document_places ids o ≡ []
    → AllByRecursion (λ (u : User). AllByRecursion (IsNumbered ids) u.accounts) (map (user_in ids) (unwrap_or o []))
document_numbered ids None e = absurd (no_item _ _ e)
document_numbered ids (Some users) e = users_numbered ids [] users (none_second _ _ e)

all_numbered : (t : Tree) → bad_places t ≡ [] → AreNumbered (configuration_in t)
all_numbered t e = document_numbered (account_ids t) (items_at (codes "users") t) (none_if (is_some (as_object t)) _ _ e)

-- the users that were built of a configuration without bad places
pub numbered : (t : Tree) (users : List User) (ids : List (List ℕ)) → bad_places t ≡ [] → ids ≡ account_ids t → users ≡ map (user_in ids) (user_trees t)
    → AreNumbered (record { users = users; account_ids = ids })
numbered t users ids good e built =
    subst (λ us. AreNumbered (record { users = us; account_ids = ids })) (sym built)
    (subst (λ i. AreNumbered (record { users = map (user_in i) (user_trees t); account_ids = i })) (sym e) (all_numbered t good))
