-- A value is read if and only if there is no place in it that is not of its form.
use Rattle.std.proofs.Common.{◌≡◌, ℕ, ◌+◌, List, [], ◌∷◌, ◌++◌, Bool, true, false, Option, Some, None, is_some, option_and_then, option_map, refl, sym, ap, ap₂, ◌∙◌, codes}
use Rattle.std.specs.Prelude.{◌↔◌}
use Rattle.jm_base.specs.declared.identifiers.Kind.{Kind}
use Rattle.jm_json.specs.Find.{as_list, as_object}
use Rattle.jm_json.specs.Tree.{Tree}
use Rattle.method_args.specs.Added.{added_from, added_index, added_item_in, added_number, item_by, item_of_members}
use Rattle.method_args.specs.Ids.{id_in, ids_from}
use Rattle.method_args.specs.Places.{added_item_places, added_member_places, at_index, at_name, id_places, item_places, list_places, place_unless, places_in}
use Rattle.method_args.specs.ReadValues.{AddedAreReadWithoutPlaces, IdsAreReadWithoutPlaces}

-- ---- one value

place_of_none : (b : Bool) (p : List ℕ) → (b ≡ true) ↔ (place_unless b p ≡ [])
place_of_none true p = (λ e. refl, λ e. refl)
place_of_none false p = (λ e. absurd (let wrong = e in cc), λ e. absurd (let wrong = e in cc))

no_items : {A : Type 0} (xs ys : List A) → xs ++ ys ≡ [] → (xs ≡ []) × (ys ≡ [])
no_items [] ys e = (refl, e)
no_items (x ∷ xs) ys e = absurd (let wrong = e in cc)

both_there : (n i : Option ℕ) → is_some (item_by n i) ≡ true → (is_some n ≡ true) × (is_some i ≡ true)
both_there None i e = absurd (let wrong = e in cc)
both_there (Some n) None e = absurd (let wrong = e in cc)
both_there (Some n) (Some i) e = (refl, refl)

from_both : (n i : Option ℕ) → is_some n ≡ true → is_some i ≡ true → is_some (item_by n i) ≡ true
from_both None i e f = absurd (let wrong = e in cc)
from_both (Some n) None e f = absurd (let wrong = f in cc)
from_both (Some n) (Some i) e f = refl

added_members : (kind : Kind) (p : List ℕ) (ms : List (List ℕ × Tree)) → (is_some (item_of_members kind ms) ≡ true) ↔ (added_member_places kind p ms ≡ [])
added_members kind p ms = (
  λ e. let k = both_there (added_number kind ms) (added_index ms) e in
      ap₂ (λ (a b : Bool). place_unless a (at_name p (codes "id")) ++ place_unless b (at_name p (codes "index"))) k.0 k.1,
  λ e. let k = no_items (place_unless (is_some (added_number kind ms)) (at_name p (codes "id"))) (place_unless (is_some (added_index ms)) (at_name p (codes "index"))) e in
      from_both (added_number kind ms) (added_index ms) ((place_of_none (is_some (added_number kind ms)) (at_name p (codes "id"))).1 k.0) ((place_of_none (is_some (added_index ms)) (at_name p (codes "index"))).1 k.1),
)

-- what is read of a part, if it is there
part_read : {A B : Type 0} (read : A → Option B) (places : A → List (List ℕ)) → ((x : A) → (is_some (read x) ≡ true) ↔ (places x ≡ []))
    → (p : List ℕ) (o : Option A) → (is_some (option_and_then read o) ≡ true) ↔ (places_in places p o ≡ [])
part_read read places same p None = (λ e. absurd (let wrong = e in cc), λ e. absurd (let wrong = e in cc))
part_read read places same p (Some x) = same x

added_item : (kind : Kind) (p : List ℕ) (t : Tree) → (is_some (added_item_in kind t) ≡ true) ↔ (added_item_places kind p t ≡ [])
added_item kind p t = part_read (item_of_members kind) (added_member_places kind p) (added_members kind p) p (as_object t)

pub added_without_places : (kind : Kind) (pointer : List ℕ) (t : Tree) → is_some (added_item_in kind t) ≡ true → added_item_places kind pointer t ≡ []
added_without_places kind pointer t e = (added_item kind pointer t).0 e

-- ---- lists

first_read : {A : Type 0} (o : Option A) (os : Option (List A)) → is_some (option_and_then (λ x. option_map (λ xs. x ∷ xs) os) o) ≡ true → (is_some o ≡ true) × (is_some os ≡ true)
first_read None os e = absurd (let wrong = e in cc)
first_read (Some x) None e = absurd (let wrong = e in cc)
first_read (Some x) (Some xs) e = (refl, refl)

all_read : {A : Type 0} (o : Option A) (os : Option (List A)) → is_some o ≡ true → is_some os ≡ true → is_some (option_and_then (λ x. option_map (λ xs. x ∷ xs) os) o) ≡ true
all_read None os e f = absurd (let wrong = e in cc)
all_read (Some x) None e f = absurd (let wrong = f in cc)
all_read (Some x) (Some xs) e f = refl

-- a list that is read item by item
record Reads {A : Type 0} (one : Tree → Option A) (all : List Tree → Option (List A)) (places : List ℕ → Tree → List (List ℕ)) : Type 0 where
  item : (p : List ℕ) (t : Tree) → (is_some (one t) ≡ true) ↔ (places p t ≡ [])
  none : is_some (all []) ≡ true
  more : (t : Tree) (ts : List Tree) → all (t ∷ ts) ≡ option_and_then (λ x. option_map (λ xs. x ∷ xs) (all ts)) (one t)

items_read : {A : Type 0} (one : Tree → Option A) (all : List Tree → Option (List A)) (places : List ℕ → Tree → List (List ℕ)) → Reads one all places
    → (p : List ℕ) (i : ℕ) (ts : List Tree) → (is_some (all ts) ≡ true) ↔ (item_places places p i ts ≡ [])
items_read one all places r p i [] = (λ e. refl, λ e. r.none)
items_read one all places r p i (t ∷ ts) = (
  λ e. let k = first_read (one t) (all ts) (ap is_some (sym (r.more t ts)) ∙ e) in
      ap₂ (λ (a b : List (List ℕ)). a ++ b) ((r.item (at_index p i) t).0 k.0) ((items_read one all places r p (i + 1) ts).0 k.1),
  λ e. let k = no_items (places (at_index p i) t) (item_places places p (i + 1) ts) e in
      ap is_some (r.more t ts) ∙ all_read (one t) (all ts) ((r.item (at_index p i) t).1 k.0) ((items_read one all places r p (i + 1) ts).1 k.1),
)

list_read : {A : Type 0} (one : Tree → Option A) (all : List Tree → Option (List A)) (places : List ℕ → Tree → List (List ℕ)) → Reads one all places
    → (p : List ℕ) (t : Tree) → (is_some (option_and_then all (as_list t)) ≡ true) ↔ (list_places places p t ≡ [])
list_read one all places r p t = part_read all (item_places places p 0) (items_read one all places r p 0) p (as_list t)

pub ids_without_places : IdsAreReadWithoutPlaces
ids_without_places kind p t =
    list_read (id_in kind) (ids_from kind) (id_places kind) (record { item = λ q u. place_of_none (is_some (id_in kind u)) q; none = refl; more = λ u us. refl }) p t

pub all_added_without_places : AddedAreReadWithoutPlaces
all_added_without_places kind p t =
    list_read (added_item_in kind) (added_from kind) (added_item_places kind) (record { item = added_item kind; none = refl; more = λ u us. refl }) p t
