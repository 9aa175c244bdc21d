-- Steps of a patch along a path.
use Rattle.std.proofs.Common.{◌≡◌, ℕ, ◌+◌, ◌<◌, ◌≤◌, List, [], ◌∷◌, ◌++◌, length, take, drop, get_or, Bool, true, false, cond, ◌==◌, Option, Some, None, is_some, option_map, refl, sym, ap, ◌∙◌, arith, take_all, length-drop, append_assoc}
use Rattle.std.proofs.lemmas.Bool.{ne_eqb}
use Rattle.std.proofs.lemmas.List.{take_more, drop_more}
use Rattle.jm_json.specs.Tree.{Tree, object, fields_of}
use Rattle.jm_json.specs.Find.{find}
use Rattle.jm_json.specs.Pointer.{onto, cut, name_of}
use Rattle.jm_json.specs.Patch.{found_and, member_named, is_placed, set_member, at_member, changed}
use Rattle.jm_json.proofs.Lists.{pairs_of-fields_of}

pub mapped_some : (x : ℕ) (o : Option (List ℕ)) → is_some (option_map (λ k. x ∷ k) o) ≡ is_some o
mapped_some x None = refl
mapped_some x (Some k) = refl

pub mapped_twice : (xs : List ℕ) (x : ℕ) (o : Option (List ℕ)) → option_map (λ k. xs ++ k) (option_map (λ k. x ∷ k) o) ≡ option_map (λ k. (xs ++ x ∷ []) ++ k) o
mapped_twice xs x None = refl
mapped_twice xs x (Some k) = ap Some (sym (append_assoc xs (x ∷ []) k))

pub mapped_nil : (o : Option (List ℕ)) → o ≡ option_map (λ k. [] ++ k) o
mapped_nil None = refl
mapped_nil (Some k) = refl

-- a byte that is not escaped, in a part that begins with its name
pub plain_step : (part : List ℕ) (i : ℕ) → i < length part → (get_or part i 0 ≡ 126 → ⊥) → (get_or part i 0 ≡ 47 → ⊥) → name_of part ≡ option_map (λ k. take i part ++ k) (name_of (drop i part))
    → name_of part ≡ option_map (λ k. take (i + 1) part ++ k) (name_of (drop (i + 1) part))
plain_step part i h tilde slash before =
    let x = get_or part i 0 in
    let rest = drop (i + 1) part in
    let here : drop i part ≡ x ∷ rest = drop_more part i 0 h in
    let name : name_of (x ∷ rest) ≡ option_map (λ k. x ∷ k) (name_of rest) = rw (ne_eqb x 126 tilde, ne_eqb x 47 slash) refl in
    before ∙ ap (λ s. option_map (λ k. take i part ++ k) (name_of s)) here ∙ ap (option_map (λ k. take i part ++ k)) name
    ∙ mapped_twice (take i part) x (name_of rest) ∙ ap (λ xs. option_map (λ k. xs ++ k) (name_of rest)) (sym (take_more part i 0 h))

-- there is a first part
onto_shape : (x : ℕ) (ps : List (List ℕ)) → (q : List ℕ) × (qs : List (List ℕ)) × (onto x ps ≡ q ∷ qs)
onto_shape x [] = (x ∷ [], [], refl)
onto_shape x (p ∷ ps) = (x ∷ p, ps, refl)

shape_at : (b : Bool) (x : ℕ) (xs : List ℕ) → (q : List ℕ) × (qs : List (List ℕ)) × (cond b ([] ∷ cut xs) (onto x (cut xs)) ≡ q ∷ qs)
shape_at true x xs = ([], cut xs, refl)
shape_at false x xs = onto_shape x (cut xs)

cut_shape : (xs : List ℕ) → (q : List ℕ) × (qs : List (List ℕ)) × (cut xs ≡ q ∷ qs)
cut_shape [] = ([], [], refl)
cut_shape (x ∷ xs) = shape_at (x == 47) x xs

pub placed_step : (p s : List ℕ) (t : Tree) → is_placed (p ∷ cut s) t ≡ found_and (is_placed (cut s)) (member_named p t)
placed_step p s t = let h = cut_shape s in rw h.2 refl

pub not_placed : (p s : List ℕ) (t : Tree) → member_named p t ≡ None → is_placed (p ∷ cut s) t ≡ false
not_placed p s t none = placed_step p s t ∙ ap (found_and (is_placed (cut s))) none

change_last : (p k : List ℕ) (v : Tree) (ms r : List (List ℕ × Tree)) → name_of p ≡ Some k → r ≡ set_member k v ms → object (fields_of r) ≡ changed (p ∷ []) v (object (fields_of ms))
change_last p k v ms r e f = rw (e, pairs_of-fields_of ms, f) refl

change_inner : (p s k : List ℕ) (v : Tree) (ms r : List (List ℕ × Tree)) → name_of p ≡ Some k → r ≡ at_member k (changed (cut s) v) (find k ms) ms
    → object (fields_of r) ≡ changed (p ∷ cut s) v (object (fields_of ms))
change_inner p s k v ms r e f = let h = cut_shape s in rw (f, h.2, e, pairs_of-fields_of ms) refl

unnamed_at : (ps : List (List ℕ)) (p : List ℕ) (v : Tree) (ms : List (List ℕ × Tree)) → name_of p ≡ None → object (fields_of ms) ≡ changed (p ∷ ps) v (object (fields_of ms))
unnamed_at [] p v ms e = rw (e, pairs_of-fields_of ms) refl
unnamed_at (q ∷ ps) p v ms e = rw (e, pairs_of-fields_of ms) refl

-- the parts of a path that ends its first part at n
abbrev pub IsCut : List ℕ → ℕ → Type 0
IsCut path n = (n ≤ length path) × (n ≡ length path → cut path ≡ path ∷ []) × (n < length path → cut path ≡ take n path ∷ cut (drop 1 (drop n path)))

from_at : (path more : List ℕ) (n : ℕ) (k : List ℕ) (v : Tree) (ms r : List (List ℕ × Tree)) → drop n path ≡ more → IsCut path n → name_of (take n path) ≡ Some k
    → (length more ≡ 0 → r ≡ set_member k v ms) → (0 < length more → r ≡ at_member k (changed (cut (drop 1 more)) v) (find k ms) ms)
    → object (fields_of r) ≡ changed (cut path) v (object (fields_of ms))
from_at path [] n k v ms r e is name last inner =
    let end : n ≡ length path = omega (arith, length-drop n path, ap length e, is.0) in
    let whole : take n path ≡ path = take_all n path (omega arith) in
    change_last (take n path) k v ms r name (last refl) ∙ ap (λ ps. changed ps v (object (fields_of ms))) (ap (λ p. p ∷ []) whole ∙ sym (is.1 end))
from_at path (x ∷ more) n k v ms r e is name last inner =
    let before : n < length path = omega (arith, length-drop n path, ap length e, is.0) in
    change_inner (take n path) more k v ms r name (inner (omega arith))
    ∙ ap (λ ps. changed ps v (object (fields_of ms))) (ap (λ s. take n path ∷ cut (drop 1 s)) (sym e) ∙ sym (is.2 before))

pub changed_from : (path : List ℕ) (n : ℕ) (k : List ℕ) (v : Tree) (ms r : List (List ℕ × Tree)) → IsCut path n → name_of (take n path) ≡ Some k
    → (length (drop n path) ≡ 0 → r ≡ set_member k v ms) → (0 < length (drop n path) → r ≡ at_member k (changed (cut (drop 1 (drop n path))) v) (find k ms) ms)
    → object (fields_of r) ≡ changed (cut path) v (object (fields_of ms))
changed_from path n k v ms r is name last inner = from_at path (drop n path) n k v ms r refl is name last inner

none_at : (path more : List ℕ) (n : ℕ) (v : Tree) (ms : List (List ℕ × Tree)) → drop n path ≡ more → IsCut path n → name_of (take n path) ≡ None → object (fields_of ms) ≡ changed (cut path) v (object (fields_of ms))
none_at path [] n v ms e is none =
    let end : n ≡ length path = omega (arith, length-drop n path, ap length e, is.0) in
    let whole : take n path ≡ path = take_all n path (omega arith) in
    unnamed_at [] (take n path) v ms none ∙ ap (λ ps. changed ps v (object (fields_of ms))) (ap (λ p. p ∷ []) whole ∙ sym (is.1 end))
none_at path (x ∷ more) n v ms e is none =
    let before : n < length path = omega (arith, length-drop n path, ap length e, is.0) in
    unnamed_at (cut (drop 1 (drop n path))) (take n path) v ms none ∙ ap (λ ps. changed ps v (object (fields_of ms))) (sym (is.2 before))

pub changed_none : (path : List ℕ) (n : ℕ) (v : Tree) (ms : List (List ℕ × Tree)) → IsCut path n → name_of (take n path) ≡ None → object (fields_of ms) ≡ changed (cut path) v (object (fields_of ms))
changed_none path n v ms is none = none_at path (drop n path) n v ms refl is none
