-- The tree of a cache says the cache.
use Rattle.std.proofs.Common.{◌≡◌, ℕ, List, [], ◌∷◌, map, Option, Some, None, Result, Ok, Err, IfOk, ◌≤◌, refl, ap, ap₂, sym, subst, ◌∙◌, unwrap_or}
use Rattle.std.specs.List.{AllByRecursion}
use Rattle.serde_json.specs.Data.{depth}
use Rattle.serde_json.specs.Read.{max_depth}
use Rattle.jm_base.specs.declared.identifiers.Kind.TheVariants.{Email as OfEmail}
use Rattle.jm_json.specs.Find.{as_text}
use Rattle.jm_json.specs.Integers.{first_invalid}
use Rattle.jm_json.specs.JsonValues.{data_of}
use Rattle.jm_json.specs.Reading.{reading_of, whole}
use Rattle.jm_json.specs.Tree.{Tree}
use Rattle.jm_json.proofs.Lists.{list_of-trees_of, pairs_of-fields_of}
use Rattle.method_args.specs.Ids.{state_in}
use Rattle.method_args.proofs.IdTexts.{ids_read_back, states_read_back}
use Rattle.client_cache.specs.Caches.{Cached, KindView, ListView, cache_tree, kind_tree, list_tree, state_tree, text_or_null}
use Rattle.client_cache.specs.CacheForms.{cache_places}
use Rattle.client_cache.specs.CacheReading.{IsTextOf, ListFits, NumbersFit, StateFits, cache_in, kind_of_members, list_in, members_of_tree}
use Rattle.client_cache.proofs.Objects.{same_cached}

state_again : (s : Option ℕ) → StateFits s → state_in (state_tree s) ≡ s
state_again None fits = refl
state_again (Some n) fits = states_read_back n fits

account_again : (a : Option (List ℕ)) → as_text (text_or_null a) ≡ a
account_again None = refl
account_again (Some s) = refl

abbrev kind_with : List (List ℕ × Tree) → Option ℕ → KindView
kind_with records state = record { records = records; state = state }

kind_again : (k : KindView) → StateFits k.state → kind_of_members (members_of_tree (kind_tree k)) ≡ k
kind_again k fits = ap (λ r. kind_with r (state_in (state_tree k.state))) (pairs_of-fields_of k.records) ∙ ap (kind_with k.records) (state_again k.state fits)

abbrev list_with : ListView → List ℕ → Option ℕ → ListView
list_with l ids state = record { name = l.name; filter = l.filter; sort = l.sort; collapse = l.collapse; ids = ids; state = state }

list_again : (l : ListView) → ListFits l → list_in (list_tree l) ≡ l
list_again l fits =
    ap (λ o. list_with l (unwrap_or o []) (state_in (state_tree l.state))) (ids_read_back OfEmail l.ids fits.ids)
    ∙ ap (list_with l l.ids) (state_again l.state fits.state)

lists_again : (ls : List ListView) → AllByRecursion ListFits ls → map list_in (map list_tree ls) ≡ ls
lists_again [] fit = refl
lists_again (l ∷ ls) fit = ap₂ (λ (k : ListView) (ks : List ListView). k ∷ ks) (list_again l fit.0) (lists_again ls fit.1)

pub says : (c : Cached) → NumbersFit c → cache_in (cache_tree c) ≡ c
says c fit =
    same_cached _ _ _ _ _ _ _ _ _ _ (account_again c.account)
    (kind_again c.mailboxes fit.mailboxes) (kind_again c.emails fit.emails) (kind_again c.threads fit.threads)
    (ap (map list_in) (list_of-trees_of (map list_tree c.lists)) ∙ lists_again c.lists fit.lists)

pub written : (b : List ℕ) (c : Cached) → NumbersFit c → cache_places (cache_tree c) ≡ [] → reading_of b ≡ whole (cache_tree c) → IsTextOf b c
written b c fit form read = record { tree = cache_tree c; read = read; form = form; says = sym (says c fit) }

read_at : (b : List ℕ) (t : Tree) (c : Cached) → t ≡ cache_tree c → (depth (data_of t) ≤ max_depth → first_invalid (data_of t) ≡ None → reading_of b ≡ whole t)
    → depth (data_of (cache_tree c)) ≤ max_depth → first_invalid (data_of (cache_tree c)) ≡ None → reading_of b ≡ whole (cache_tree c)
read_at b t c same back = subst (λ u. depth (data_of u) ≤ max_depth → first_invalid (data_of u) ≡ None → reading_of b ≡ whole u) same back

pub reads_back : {E : Type 0} (r : Result (List ℕ) E) (t : Tree) (c : Cached) → t ≡ cache_tree c → IfOk r (λ b. depth (data_of t) ≤ max_depth → first_invalid (data_of t) ≡ None → reading_of b ≡ whole t)
    → IfOk r (λ b. NumbersFit c → cache_places (cache_tree c) ≡ [] → depth (data_of (cache_tree c)) ≤ max_depth → first_invalid (data_of (cache_tree c)) ≡ None → IsTextOf b c)
reads_back (Ok b) t c same back = λ fit form deep whole. written b c fit form (read_at b t c same back deep whole)
reads_back (Err e) t c same back = tt
