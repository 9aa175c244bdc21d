-- What is written of a request is read back as it.
use Rattle.std.proofs.Common.{◌≡◌, ℕ, List, [], ◌∷◌, map, codes, Some, option_map, option_and_then, refl, ap, ◌∙◌}
use Rattle.serde_json.specs.Data.{Data, object, string, no_members, member, put}
use Rattle.serde_json.specs.Read.{of_members}
use Rattle.serde_json.specs.Written.{members_outline}
use Rattle.jm_json.specs.Call.{Call}
use Rattle.jm_json.specs.JsonValues.{data_of, items_of}
use Rattle.jm_json.specs.Requests.{calls_tree, texts_tree, request_tree}
use Rattle.jm_json.specs.RoundTrips.{IsReadBack, AreReadBack}
use Rattle.jm_json.specs.Tree.{text, trees_of}
use Rattle.jm_json.proofs.Writings.{item_back, array_back}

texts_back : (ss : List (List ℕ)) → AreReadBack (items_of (trees_of (map text ss)))
texts_back [] = refl
texts_back (s ∷ ss) = item_back (string s) (items_of (trees_of (map text ss))) refl (texts_back ss)

-- the second of two members, whose key comes after the first
second_back : (d e : Data) → IsReadBack e
    → of_members (members_outline (member (codes "using") e no_members)) (member (codes "methodCalls") d no_members) ≡ Some (member (codes "methodCalls") d (member (codes "using") e no_members))
second_back d e h = ap (option_and_then (λ x. Some (put (codes "using") x (member (codes "methodCalls") d no_members)))) h

pub request_back : (using : List (List ℕ)) (calls : List Call) → IsReadBack (data_of (calls_tree calls)) → IsReadBack (data_of (request_tree using calls))
request_back using calls h =
    let d = data_of (calls_tree calls) in
    let e = data_of (texts_tree using) in
    let last = members_outline (member (codes "using") e no_members) in
    ap (λ o. option_map object (option_and_then (λ x. of_members last (put (codes "methodCalls") x no_members)) o)) h
    ∙ ap (option_map object) (second_back d e (array_back (items_of (trees_of (map text using))) (texts_back using)))
