-- Objects and identifiers of the records that were asked, each once, are read as what they were.
use Rattle.std.proofs.Common.{◌≡◌, ◌==◌, ℕ, ◌+◌, List, [], ◌∷◌, ◌++◌, filter, length, Bool, true, false, not, ◌&&◌, ◌||◌, cond, Option, Some, is_some, option_and_then, option_map, true≢false, refl, sym, ap, ap₂, ◌∙◌, codes}
use Rattle.std.proofs.lemmas.Bool.Decides.{Decides-eqb}
use Rattle.std.proofs.lemmas.Slice.Eq.{bytes_eq-Decides}
use Rattle.jm_base.specs.Ids.{id_text}
use Rattle.jm_base.specs.Splices.{has}
use Rattle.jm_base.specs.declared.identifiers.Kind.{Kind}
use Rattle.jm_json.specs.Tree.{Tree}
use Rattle.jm_json.proofs.Lists.{list_of-trees_of}
use Rattle.method_args.specs.Ids.{id_in, id_trees}
use Rattle.method_args.specs.Places.{at_index, at_name, place_unless, places_in}
use Rattle.method_args.specs.WrittenIds.{AreIds}
use Rattle.method_args.proofs.IdTexts.{id_reads, ids_read_back, states_read_back}
use Rattle.reply_readers.specs.Objects.{is_left, left_after, left_after_all, left_after_items, object_number, objects_from, objects_places, objects_with, unknown_places}
use Rattle.reply_readers.specs.ObjectsBack.{AreAsked, AreNumbered, IsDistinct, ObjectsReadBack, numbered}
use Rattle.reply_readers.proofs.LeftRecords.{object_without_places}

-- ---- tests

false_unless : (b : Bool) → (b ≡ true → ⊥) → b ≡ false
false_unless false never = refl
false_unless true never = absurd (never refl)

and_true : (a : Bool) → a ≡ (a && true)
and_true true = refl
and_true false = refl

or_first : (a b : Bool) → a ≡ true → (a || b) ≡ true
or_first true b e = refl
or_first false b e = absurd (true≢false (sym e))

or_second : (a b : Bool) → b ≡ true → (a || b) ≡ true
or_second true b e = refl
or_second false b e = e

both : (a b : Bool) → a ≡ true → b ≡ false → (a && not b) ≡ true
both true false e f = refl
both true true e f = absurd (true≢false f)
both false b e f = absurd (true≢false (sym e))

and_not : (a b c : Bool) → ((a && not b) && not c) ≡ (a && not (b || c))
and_not true true c = refl
and_not true false c = refl
and_not false b c = refl

nothing_left : (t a : Bool) → (((t || a) && not t) && not a) ≡ false
nothing_left true true = refl
nothing_left true false = refl
nothing_left false true = refl
nothing_left false false = refl

-- ---- what is left

step_same : (b h r : Bool) → r ≡ (h && not b) → r ≡ ((b || h) && not b)
step_same true true r e = e
step_same true false r e = e
step_same false h r e = e

step_other : (a b h r : Bool) → (a ≡ true → b ≡ false) → r ≡ (h && not b) → (a || r) ≡ ((a || h) && not b)
step_other true true h r apart e = absurd (true≢false (apart refl))
step_other true false h r apart e = refl
step_other false b h r apart e = e

same_test : (m n k : ℕ) → (m == n) ≡ true → (n == k) ≡ (m == k)
same_test m n k e = ap (λ x. x == k) (sym ((Decides-eqb m n).0 e))

apart_test : (m n k : ℕ) → (m == n) ≡ false → (m == k) ≡ true → (n == k) ≡ false
apart_test m n k e f =
    false_unless (n == k) (λ g. true≢false (sym ((Decides-eqb m n).1 ((Decides-eqb m k).0 f ∙ sym ((Decides-eqb n k).0 g))) ∙ e))

filter_step : (c : Bool) (m n k : ℕ) (ms rest : List ℕ) → (m == n) ≡ c → has rest k ≡ (has ms k && not (n == k))
    → has (cond (not c) (m ∷ rest) rest) k ≡ ((m == k || has ms k) && not (n == k))
filter_step true m n k ms rest e h =
    step_same (n == k) (has ms k) (has rest k) h ∙ ap (λ b. (b || has ms k) && not (n == k)) (same_test m n k e)
filter_step false m n k ms rest e h = step_other (m == k) (n == k) (has ms k) (has rest k) (apart_test m n k e) h

filter_has : (left : List ℕ) (n k : ℕ) → has (filter (λ m. not (m == n)) left) k ≡ (has left k && not (n == k))
filter_has [] n k = refl
filter_has (m ∷ ms) n k = filter_step (m == n) m n k ms (filter (λ x. not (x == n)) ms) refl (filter_has ms n k)

after_has : (number : Tree → Option ℕ) (t : Tree) (n k : ℕ) (left : List ℕ) → number t ≡ Some n → has (left_after left (number t)) k ≡ (has left k && not (n == k))
after_has number t n k left is = ap (λ o. has (left_after left o) k) is ∙ filter_has left n k

left_has : (number : Tree → Option ℕ) (ns : List ℕ) (ts : List Tree) (left : List ℕ) (k : ℕ) → AreNumbered number ns ts
    → has (left_after_all number left ts) k ≡ (has left k && not (has ns k))
left_has number [] [] left k are = and_true (has left k)
left_has number [] (t ∷ ts) left k are = elim are [ ]
left_has number (n ∷ ns) [] left k are = elim are [ ]
left_has number (n ∷ ns) (t ∷ ts) left k are =
    left_has number ns ts (left_after left (number t)) k are.1
    ∙ (ap (λ b. b && not (has ns k)) (after_has number t n k left are.0) ∙ and_not (has left k) (n == k) (has ns k))

-- ---- no places

has_itself : (n : ℕ) (ns : List ℕ) → has (n ∷ ns) n ≡ true
has_itself n ns = or_first (n == n) (has ns n) ((Decides-eqb n n).1 refl)

-- what the rest has is still left after the first
still_left : (number : Tree → Option ℕ) (t : Tree) (n : ℕ) (ns left : List ℕ) → number t ≡ Some n → has ns n ≡ false → ((k : ℕ) → has (n ∷ ns) k ≡ true → has left k ≡ true)
    → (k : ℕ) → has ns k ≡ true → has (left_after left (number t)) k ≡ true
still_left number t n ns left is once inside k there =
    after_has number t n k left is
    ∙ both (has left k) (n == k) (inside k (or_second (n == k) (has ns k) there))
    (false_unless (n == k) (λ e. true≢false (sym there ∙ (ap (has ns) (sym ((Decides-eqb n k).0 e)) ∙ once))))

objects_free : (kind : Kind) (p : List ℕ) (i : ℕ) (left ns : List ℕ) (ts : List Tree) → AreNumbered (object_number kind) ns ts → IsDistinct ns
    → ((k : ℕ) → has ns k ≡ true → has left k ≡ true) → objects_places kind p i left ts ≡ []
objects_free kind p i left [] [] are once inside = refl
objects_free kind p i left [] (t ∷ ts) are once inside = elim are [ ]
objects_free kind p i left (n ∷ ns) [] are once inside = elim are [ ]
objects_free kind p i left (n ∷ ns) (t ∷ ts) are once inside =
    ap₂ (λ (a b : List (List ℕ)). a ++ b)
    (object_without_places kind (at_index p i) left t (ap (is_left left) are.0 ∙ inside n (has_itself n ns)))
    (objects_free kind p (i + 1) (left_after left (object_number kind t)) ns ts are.1 once.1 (still_left (object_number kind) t n ns left are.0 once.0 inside))

unknown_free : (kind : Kind) (p : List ℕ) (i : ℕ) (left ns : List ℕ) (ts : List Tree) → AreNumbered (id_in kind) ns ts → IsDistinct ns
    → ((k : ℕ) → has ns k ≡ true → has left k ≡ true) → unknown_places kind p i left ts ≡ []
unknown_free kind p i left [] [] are once inside = refl
unknown_free kind p i left [] (t ∷ ts) are once inside = elim are [ ]
unknown_free kind p i left (n ∷ ns) [] are once inside = elim are [ ]
unknown_free kind p i left (n ∷ ns) (t ∷ ts) are once inside =
    ap₂ (λ (b : Bool) (a : List (List ℕ)). place_unless b (at_index p i) ++ a)
    (ap (is_left left) are.0 ∙ inside n (has_itself n ns))
    (unknown_free kind p (i + 1) (left_after left (id_in kind t)) ns ts are.1 once.1 (still_left (id_in kind) t n ns left are.0 once.0 inside))

-- ---- both lists

ids_are : (kind : Kind) (ns : List ℕ) → AreIds kind ns → AreNumbered (id_in kind) ns (id_trees kind ns)
ids_are kind [] are = tt
ids_are kind (n ∷ ns) are =
    (id_reads kind (id_text (record { kind = kind; number = n })) (record { kind = kind; number = n }) are.0 refl refl, ids_are kind ns are.1)

no_numbers : (xs : List ℕ) → ((k : ℕ) → has xs k ≡ false) → xs ≡ []
no_numbers [] none = refl
no_numbers (x ∷ xs) none = absurd (true≢false (sym (has_itself x xs) ∙ none x))

abbrev both_by : Kind → List ℕ → List ℕ → Option (List Tree) → Option (List Tree) → List (List ℕ)
both_by kind asked p o u =
    places_in (objects_places kind (at_name p (codes "list")) 0 asked) (at_name p (codes "list")) o
    ++ places_in (unknown_places kind (at_name p (codes "notFound")) 0 (left_after_items (object_number kind) asked o)) (at_name p (codes "notFound")) u
    ++ place_unless (length (left_after_items (id_in kind) (left_after_items (object_number kind) asked o) u) == 0) (at_name p (codes "list"))

first_left : (kind : Kind) (asked there absent : List ℕ) (objects : List Tree) → AreAsked kind asked there absent objects
    → (k : ℕ) → has (left_after_all (object_number kind) asked objects) k ≡ ((has there k || has absent k) && not (has there k))
first_left kind asked there absent objects are k =
    left_has (object_number kind) there objects asked k are.are_of ∙ ap (λ b. b && not (has there k)) (are.together k)

absent_left : (kind : Kind) (asked there absent : List ℕ) (objects : List Tree) → AreAsked kind asked there absent objects
    → (k : ℕ) → has absent k ≡ true → has (left_after_all (object_number kind) asked objects) k ≡ true
absent_left kind asked there absent objects are k e =
    first_left kind asked there absent objects are k
    ∙ both (has there k || has absent k) (has there k) (or_second (has there k) (has absent k) e) (false_unless (has there k) (λ f. true≢false (sym e ∙ are.apart k f)))

none_left : (kind : Kind) (asked there absent : List ℕ) (objects : List Tree) → AreAsked kind asked there absent objects
    → left_after_all (id_in kind) (left_after_all (object_number kind) asked objects) (id_trees kind absent) ≡ []
none_left kind asked there absent objects are =
    no_numbers _ (λ k.
    left_has (id_in kind) absent (id_trees kind absent) (left_after_all (object_number kind) asked objects) k (ids_are kind absent are.ids)
    ∙ (ap (λ b. b && not (has absent k)) (first_left kind asked there absent objects are k) ∙ nothing_left (has there k) (has absent k)))

three_free : (x : List ℕ) (l : Bool) (a b : List (List ℕ)) → a ≡ [] → b ≡ [] → l ≡ true → a ++ b ++ place_unless l x ≡ []
three_free x l a b ea eb el = rw (ea, eb, el) refl

both_free : (kind : Kind) (p asked there absent : List ℕ) (objects : List Tree) → AreAsked kind asked there absent objects → both_by kind asked p (Some objects) (Some (id_trees kind absent)) ≡ []
both_free kind p asked there absent objects are =
    three_free (at_name p (codes "list")) _ _ _
    (objects_free kind (at_name p (codes "list")) 0 asked there objects are.are_of are.there_once (λ k e. are.together k ∙ or_first (has there k) (has absent k) e))
    (unknown_free kind (at_name p (codes "notFound")) 0 (left_after_all (object_number kind) asked objects) absent (id_trees kind absent) (ids_are kind absent are.ids) are.absent_once (absent_left kind asked there absent objects are))
    (ap (λ xs. length xs == 0) (none_left kind asked there absent objects are))

-- ---- the response

objects_read : (kind : Kind) (ns : List ℕ) (ts : List Tree) → AreNumbered (object_number kind) ns ts → objects_from kind ts ≡ Some (numbered ns ts)
objects_read kind [] [] are = refl
objects_read kind [] (t ∷ ts) are = elim are [ ]
objects_read kind (n ∷ ns) [] are = elim are [ ]
objects_read kind (n ∷ ns) (t ∷ ts) are =
    ap₂ (λ (o : Option (ℕ × Tree)) (os : Option (List (ℕ × Tree))). option_and_then (λ x. option_map (λ xs. x ∷ xs) os) o)
    (ap (option_map (λ m. (m, t))) are.0) (objects_read kind ns ts are.1)

all_free : (x y : List ℕ) (a s : Bool) (b : List (List ℕ)) → a ≡ true → b ≡ [] → s ≡ true → place_unless a x ++ b ++ place_unless s y ≡ []
all_free x y a s b ea eb es = rw (ea, eb, es) refl

three_read : (o : Option (List (ℕ × Tree))) (u : Option (List ℕ)) (s : Option ℕ) (xs : List (ℕ × Tree)) (ys : List ℕ) (state : ℕ) → o ≡ Some xs → u ≡ Some ys → s ≡ Some state
    → option_and_then (λ objects. option_and_then (λ unknown. option_map (objects_with objects unknown) s) u) o ≡ Some (objects_with xs ys state)
three_read o u s xs ys state eo eu es = rw (eo, eu, es) refl

pub objects_read_back : ObjectsReadBack
objects_read_back kind account p asked there absent objects state are is = (
  all_free (at_name p (codes "accountId")) (at_name p (codes "state")) _ _ _
      ((bytes_eq-Decides account account).1 refl)
      (ap₂ (both_by kind asked p) (ap Some (list_of-trees_of objects)) (ap Some (list_of-trees_of (id_trees kind absent))) ∙ both_free kind p asked there absent objects are)
      (ap is_some (states_read_back state is)),
  three_read _ _ _ (numbered there objects) absent state
      (ap (objects_from kind) (list_of-trees_of objects) ∙ objects_read kind there objects are.are_of)
      (ids_read_back kind absent are.ids) (states_read_back state is),
)
