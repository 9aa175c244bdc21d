-- Steps along a path, and marks of names.
use Rattle.std.proofs.Common.{◌≡◌, ◌≢◌, ℕ, ◌<◌, ◌≤◌, ◌==◌, List, [], ◌∷◌, length, take, drop, Bool, true, false, cond, Option, Some, None, MatchOption, option_map, option_and_then, refl, sym, ap, ◌∙◌, arith, eqb-true, take_all, length-drop}
use Rattle.std.specs.Prelude.{bytes_eq}
use Rattle.std.specs.Borrow.{Bor}
use Rattle.jm_json.specs.Tree.{Tree, null, boolean, number, text, list, object, trees_of}
use Rattle.jm_json.specs.Find.{as_list, list_of}
use Rattle.jm_json.specs.Pointer.{cut, child}
use Rattle.result_refs.specs.References.{gathered, step, is_marked}
use Rattle.result_refs.specs.Parts.{later_parts}
use Rattle.result_refs.specs.Costs.{step_bytes, child_bytes}

pub step_plain : (p : List ℕ) (f : Tree → Option Tree) (t : Tree) → as_list t ≡ None → step p f t ≡ option_and_then f (child p t)
step_plain p f null e = refl
step_plain p f (boolean b) e = refl
step_plain p f (number z) e = refl
step_plain p f (text s) e = refl
step_plain p f (list ts) e = absurd (cc)
step_plain p f (object fs) e = refl

pub step_list : (p : List ℕ) (f : Tree → Option Tree) (t : Tree) (ts : List Tree) → as_list t ≡ Some ts
    → step p f t ≡ cond (bytes_eq p (42 ∷ [])) (option_map (λ rs. list (trees_of rs)) (gathered f ts)) (option_and_then f (child p t))
step_list p f null ts e = absurd (cc)
step_list p f (boolean b) ts e = absurd (cc)
step_list p f (number z) ts e = absurd (cc)
step_list p f (text s) ts e = absurd (cc)
step_list p f (list us) ts e =
    let same : list_of us ≡ ts = cc in
    ap (λ vs. cond (bytes_eq p (42 ∷ [])) (option_map (λ rs. list (trees_of rs)) (gathered f vs)) (option_and_then f (child p (list us)))) same
step_list p f (object fs) ts e = absurd (cc)

pub step_bytes_plain : (p : List ℕ) (f : Tree → ℕ) (t : Tree) → as_list t ≡ None → step_bytes p f t ≡ child_bytes p f t
step_bytes_plain p f null e = refl
step_bytes_plain p f (boolean b) e = refl
step_bytes_plain p f (number z) e = refl
step_bytes_plain p f (text s) e = refl
step_bytes_plain p f (list ts) e = absurd (cc)
step_bytes_plain p f (object fs) e = refl

parts_at : (path more : List ℕ) (n : ℕ) → drop n path ≡ more → n ≤ length path → (n ≡ length path → cut path ≡ path ∷ [])
    → (n < length path → cut path ≡ take n path ∷ cut (drop 1 (drop n path))) → cut path ≡ take n path ∷ later_parts more
parts_at path [] n e within last some =
    let end : n ≡ length path = omega (arith, length-drop n path, ap length e) in
    last end ∙ ap (λ p. p ∷ []) (sym (take_all n path (omega arith)))
parts_at path (x ∷ more) n e within last some =
    let before : n < length path = omega (arith, length-drop n path, ap length e) in
    some before ∙ ap (λ s. take n path ∷ cut (drop 1 s)) e

pub parts_cut : (path : List ℕ) (n : ℕ) → n ≤ length path → (n ≡ length path → cut path ≡ path ∷ [])
    → (n < length path → cut path ≡ take n path ∷ cut (drop 1 (drop n path))) → cut path ≡ take n path ∷ later_parts (drop n path)
parts_cut path n within last some = parts_at path (drop n path) n refl within last some

never_true : (b : Bool) → (b ≡ true → ⊥) → b ≡ false
never_true true h = absurd (h refl)
never_true false h = refl

not_marked : (bs : List ℕ) → ((rest : List ℕ) → bs ≢ 35 ∷ rest) → is_marked bs ≡ false
not_marked [] h = refl
not_marked (x ∷ xs) h = never_true (x == 35) (λ e. h xs (ap (λ y. y ∷ xs) (eqb-true x 35 e)))

pub mark_taken : (r : Option (Bor (List ℕ))) (bs : List ℕ) → MatchOption r ((rest : List ℕ) → bs ≢ 35 ∷ rest) (λ x. bs ≡ 35 ∷ x.now)
    → MatchOption r (is_marked bs ≡ false) (λ n. (is_marked bs ≡ true) × (n.now ≡ drop 1 bs))
mark_taken None bs h = not_marked bs h
mark_taken (Some x) bs h = (ap is_marked h, ap (drop 1) (sym h))
