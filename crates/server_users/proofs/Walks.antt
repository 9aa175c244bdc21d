-- Loops over accounts and over users: what came before an item, and what its places add.
use Rattle.std.proofs.Common.{◌≡◌, ℕ, ◌+◌, List, [], ◌∷◌, ◌++◌, length, Bool, true, false, ◌||◌, Option, bytes_eq, codes, refl, sym, ap, ap₂, ◌∙◌, length-append}
use Rattle.std.proofs.lemmas.List.{map-append}
use Rattle.std.proofs.lemmas.List.Folds.{list_any-append}
use Rattle.jm_json.specs.Tree.{Tree}
use Rattle.server_users.specs.Values.{text_or_empty}
use Rattle.server_users.specs.Configuration.{is_among, id_in}
use Rattle.server_users.specs.BadPlaces.{account_places, accounts_places, user_places, users_places, names_in, tokens_in}
use Rattle.jm_json.specs.LeastPlaces.{least_from}
use Rattle.jm_json.proofs.Least.{least_on}

-- a set that has each of some texts, after one more
or_false : (b : Bool) → (b || false) ≡ b
or_false true = refl
or_false false = refl

among_more : (before : List (List ℕ)) (s q : List ℕ) → is_among (before ++ s ∷ []) q ≡ (is_among before q || bytes_eq s q)
among_more before s q =
    list_any-append (λ (other : List ℕ). bytes_eq other q) before (s ∷ []) ∙ ap (λ b. is_among before q || b) (or_false (bytes_eq s q))

seen_more : (old new : List ℕ → Bool) (before : List (List ℕ)) (s : List ℕ) → ((q : List ℕ) → old q ≡ is_among before q)
    → ((q : List ℕ) → new q ≡ (old q || bytes_eq s q)) → (q : List ℕ) → new q ≡ is_among (before ++ s ∷ []) q
seen_more old new before s was now q = now q ∙ ap (λ b. b || bytes_eq s q) (was q) ∙ sym (among_more before s q)

length_more : {A : Type 0} (before : List A) (x : A) (n : ℕ) → length before ≡ n → length (before ++ x ∷ []) ≡ n + 1
length_more before x n e = length-append before (x ∷ []) ∙ ap (λ k. k + 1) e

-- ---- accounts

pub record AccountWalk (ids : List (List ℕ)) (user : ℕ) (total : Option (List ℕ)) (seen : List ℕ → Bool) (index : ℕ) (least : Option (List ℕ)) (rest : List Tree) : Type 0 where
  pub before : List (List ℕ)
  pub count : length before ≡ index
  pub seen_is : (q : List ℕ) → seen q ≡ is_among before q
  pub same : least_from least (accounts_places ids user before rest) ≡ total

pub accounts_begin : (ids : List (List ℕ)) (user : ℕ) (seen : List ℕ → Bool) (least : Option (List ℕ)) (ts : List Tree) → ((q : List ℕ) → seen q ≡ false)
    → AccountWalk ids user (least_from least (accounts_places ids user [] ts)) seen 0 least ts
accounts_begin ids user seen least ts none = record { before = []; count = refl; seen_is = none; same = refl }

pub accounts_step : (ids : List (List ℕ)) (user : ℕ) (total : Option (List ℕ)) (seen seen' : List ℕ → Bool) (index : ℕ) (least least' : Option (List ℕ)) (rest rest' : List Tree) (t : Tree) (repeated : Bool)
    → AccountWalk ids user total seen index least rest → rest ≡ t ∷ rest' → repeated ≡ seen (id_in t)
    → least' ≡ least_from least (account_places ids user index repeated t) → ((q : List ℕ) → seen' q ≡ (seen q || bytes_eq (id_in t) q))
    → AccountWalk ids user total seen' (index + 1) least' rest'
accounts_step ids user total seen seen' index least least' rest rest' t repeated w e r l s =
    let places : account_places ids user (length w.before) (is_among w.before (id_in t)) t ≡ account_places ids user index repeated t =
    ap₂ (λ (i : ℕ) (b : Bool). account_places ids user i b t) w.count (sym (w.seen_is (id_in t)) ∙ sym r) in
    record {
      before = w.before ++ id_in t ∷ [];
      count = length_more w.before (id_in t) index w.count;
      seen_is = seen_more seen seen' w.before (id_in t) w.seen_is s;
      same =
          ap (λ o. least_from o (accounts_places ids user (w.before ++ id_in t ∷ []) rest')) (l ∙ ap (least_from least) (sym places))
          ∙ (sym (least_on least (account_places ids user (length w.before) (is_among w.before (id_in t)) t) (accounts_places ids user (w.before ++ id_in t ∷ []) rest'))
          ∙ (ap (λ ts. least_from least (accounts_places ids user w.before ts)) (sym e) ∙ w.same));
    }

pub accounts_end : (ids : List (List ℕ)) (user : ℕ) (total : Option (List ℕ)) (seen : List ℕ → Bool) (index : ℕ) (least : Option (List ℕ)) (rest : List Tree)
    → AccountWalk ids user total seen index least rest → rest ≡ [] → least ≡ total
accounts_end ids user total seen index least rest w e = ap (λ ts. least_from least (accounts_places ids user w.before ts)) (sym e) ∙ w.same

-- ---- users

abbrev pub name_in : Tree → List ℕ
name_in t = text_or_empty (codes "name") t

abbrev pub token_in : Tree → List ℕ
token_in t = text_or_empty (codes "token") t

pub record UserWalk (ids : List (List ℕ)) (total : Option (List ℕ)) (names tokens : List ℕ → Bool) (index : ℕ) (least : Option (List ℕ)) (rest : List Tree) : Type 0 where
  pub before : List Tree
  pub count : length before ≡ index
  pub names_are : (q : List ℕ) → names q ≡ is_among (names_in before) q
  pub tokens_are : (q : List ℕ) → tokens q ≡ is_among (tokens_in before) q
  pub same : least_from least (users_places ids before rest) ≡ total

pub users_begin : (ids : List (List ℕ)) (names tokens : List ℕ → Bool) (least : Option (List ℕ)) (ts : List Tree) → ((q : List ℕ) → names q ≡ false) → ((q : List ℕ) → tokens q ≡ false)
    → UserWalk ids (least_from least (users_places ids [] ts)) names tokens 0 least ts
users_begin ids names tokens least ts none no_token = record { before = []; count = refl; names_are = none; tokens_are = no_token; same = refl }

pub users_step : (ids : List (List ℕ)) (total : Option (List ℕ)) (names names' tokens tokens' : List ℕ → Bool) (index : ℕ) (least least' : Option (List ℕ)) (rest rest' : List Tree) (t : Tree) (name token : Bool)
    → UserWalk ids total names tokens index least rest → rest ≡ t ∷ rest' → name ≡ names (name_in t) → token ≡ tokens (token_in t)
    → least' ≡ least_from least (user_places ids index name token t)
    → ((q : List ℕ) → names' q ≡ (names q || bytes_eq (name_in t) q)) → ((q : List ℕ) → tokens' q ≡ (tokens q || bytes_eq (token_in t) q))
    → UserWalk ids total names' tokens' (index + 1) least' rest'
users_step ids total names names' tokens tokens' index least least' rest rest' t name token w e n k l ns ks =
    let at : user_places ids (length w.before) (is_among (names_in w.before) (name_in t)) (is_among (tokens_in w.before) (token_in t)) t ≡ user_places ids index name token t =
    ap (λ i. user_places ids i (is_among (names_in w.before) (name_in t)) (is_among (tokens_in w.before) (token_in t)) t) w.count
    ∙ ap₂ (λ (a b : Bool). user_places ids index a b t) (sym (w.names_are (name_in t)) ∙ sym n) (sym (w.tokens_are (token_in t)) ∙ sym k) in
    record {
      before = w.before ++ t ∷ [];
      count = length_more w.before t index w.count;
      names_are = λ q. seen_more names names' (names_in w.before) (name_in t) w.names_are ns q ∙ ap (λ xs. is_among xs q) (sym (map-append name_in w.before (t ∷ [])));
      tokens_are = λ q. seen_more tokens tokens' (tokens_in w.before) (token_in t) w.tokens_are ks q ∙ ap (λ xs. is_among xs q) (sym (map-append token_in w.before (t ∷ [])));
      same =
          ap (λ o. least_from o (users_places ids (w.before ++ t ∷ []) rest')) (l ∙ ap (least_from least) (sym at))
          ∙ (sym (least_on least (user_places ids (length w.before) (is_among (names_in w.before) (name_in t)) (is_among (tokens_in w.before) (token_in t)) t) (users_places ids (w.before ++ t ∷ []) rest'))
          ∙ (ap (λ ts. least_from least (users_places ids w.before ts)) (sym e) ∙ w.same));
    }

pub users_end : (ids : List (List ℕ)) (total : Option (List ℕ)) (names tokens : List ℕ → Bool) (index : ℕ) (least : Option (List ℕ)) (rest : List Tree)
    → UserWalk ids total names tokens index least rest → rest ≡ [] → least ≡ total
users_end ids total names tokens index least rest w e = ap (λ ts. least_from least (users_places ids w.before ts)) (sym e) ∙ w.same
