-- What is left of the records that were asked for, and the places of others.
use Rattle.std.proofs.Common.{◌≡◌, ◌==◌, ℕ, List, [], length, Bool, true, Option, Some, None, Result, Ok, Err, IfOk, option_and_then, sym, ap, ◌∙◌, codes}
use Rattle.std.proofs.lemmas.List.{append_assoc}
use Rattle.jm_base.specs.declared.identifiers.Kind.{Kind}
use Rattle.jm_json.specs.Find.{as_object}
use Rattle.jm_json.specs.LeastPlaces.{least_from}
use Rattle.jm_json.specs.Tree.{Tree}
use Rattle.jm_json.proofs.Least.{least_three}
use Rattle.method_args.specs.Ids.{id_in}
use Rattle.method_args.specs.Places.{at_name, place_unless, places_in}
use Rattle.reply_readers.specs.Objects.{both_places, is_left, items_of, left_after_both, left_after_items, left_after_list, list_places, not_found_places, object_number, object_places, record_number}

in_object : (kind : Kind) (p left : List ℕ) (o : Option (List (List ℕ × Tree))) → is_left left (option_and_then (record_number kind) o) ≡ true
    → places_in (λ ms. place_unless (is_left left (record_number kind ms)) (at_name p (codes "id"))) p o ≡ []
in_object kind p left None e = absurd (let wrong = e in cc)
in_object kind p left (Some ms) e = ap (λ b. place_unless b (at_name p (codes "id"))) e

-- a value of a record that is left has no place
pub object_without_places : (kind : Kind) (p left : List ℕ) (t : Tree) → is_left left (object_number kind t) ≡ true → object_places kind p left t ≡ []
object_without_places kind p left t e = in_object kind p left (as_object t) e

-- the least place in both lists
both_least : (kind : Kind) (p : List ℕ) (ms : List (List ℕ × Tree)) (l a b c : Option (List ℕ)) (asked first second third : List ℕ) (all : Bool)
    → first ≡ asked
    → a ≡ least_from l (list_places kind first p ms) → second ≡ left_after_list kind first ms
    → b ≡ least_from a (not_found_places kind second p ms) → third ≡ left_after_items (id_in kind) second (items_of (codes "notFound") ms)
    → all ≡ (length third == 0) → c ≡ least_from b (place_unless all (at_name p (codes "list")))
    → c ≡ least_from l (both_places kind asked p ms)
both_least kind p ms l a b c asked first second third all copied in_list left in_unknown over empty missing =
    let then : second ≡ left_after_list kind asked ms = left ∙ ap (λ x. left_after_list kind x ms) copied in
    let last : third ≡ left_after_both kind asked ms = over ∙ ap (λ x. left_after_items (id_in kind) x (items_of (codes "notFound") ms)) then in
    let inner : List (List ℕ) = place_unless (length (left_after_both kind asked ms) == 0) (at_name p (codes "list")) in
    least_three l a b c (list_places kind asked p ms) (not_found_places kind (left_after_list kind asked ms) p ms) inner
    (in_list ∙ ap (λ x. least_from l (list_places kind x p ms)) copied)
    (in_unknown ∙ ap (λ x. least_from a (not_found_places kind x p ms)) then)
    (missing ∙ ap (λ t. least_from b (place_unless t (at_name p (codes "list")))) (empty ∙ ap (λ x. length x == 0) last))
    ∙ ap (least_from l) (sym (append_assoc (list_places kind asked p ms) (not_found_places kind (left_after_list kind asked ms) p ms) inner))

pub both_chosen : {E : Type 0} (r : Result (Option (List ℕ)) E) (kind : Kind) (p : List ℕ) (ms : List (List ℕ × Tree)) (l a b : Option (List ℕ)) (asked first second third : List ℕ) (all : Bool)
    → first ≡ asked
    → a ≡ least_from l (list_places kind first p ms) → second ≡ left_after_list kind first ms
    → b ≡ least_from a (not_found_places kind second p ms) → third ≡ left_after_items (id_in kind) second (items_of (codes "notFound") ms)
    → all ≡ (length third == 0) → IfOk r (λ c. c ≡ least_from b (place_unless all (at_name p (codes "list"))))
    → IfOk r (λ c. c ≡ least_from l (both_places kind asked p ms))
both_chosen (Ok c) kind p ms l a b asked first second third all copied in_list left in_unknown over empty missing =
    both_least kind p ms l a b c asked first second third all copied in_list left in_unknown over empty missing
both_chosen (Err e) kind p ms l a b asked first second third all copied in_list left in_unknown over empty missing = tt
