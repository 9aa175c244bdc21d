-- A pointer with a part more names what the part names in what the pointer names.
use Rattle.std.proofs.Common.{◌≡◌, ◌<◌, ℕ, ◌==◌, ◌^◌, List, [], ◌∷◌, ◌++◌, Bool, true, false, cond, Option, Some, None, option_and_then, decimal, refl, ap, ◌∙◌, arith, ne_eqb}
use Rattle.std.specs.Char.{digit_value}
use Rattle.std.specs.Str.Parse.{AllDigits}
use Rattle.std.proofs.lemmas.Fmt.{decimal_is_IsNumeral}
use Rattle.jm_json.specs.Tree.{Tree, object, Fields}
use Rattle.jm_json.specs.Find.{find, pairs_of}
use Rattle.jm_json.specs.Integers.{pointer_part}
use Rattle.jm_json.specs.Pointer.{onto, cut, child, followed, pointed}
use Rattle.jm_json.proofs.Parts.{name_back}

-- ---- parts

abbrev IsOnePart : List ℕ → Type 0
IsOnePart q = cut q ≡ q ∷ []

byte_at : (a b : Bool) (x : ℕ) (s : List ℕ) → (x == 126) ≡ a → (x == 47) ≡ b → IsOnePart s
    → IsOnePart (cond a (126 ∷ 48 ∷ []) (cond b (126 ∷ 49 ∷ []) (x ∷ [])) ++ s)
byte_at true b x s e f one = ap (λ ps. onto 126 (onto 48 ps)) one
byte_at false true x s e f one = ap (λ ps. onto 126 (onto 49 ps)) one
byte_at false false x s e f one = rw f (ap (onto x) one)

pub name_is_one : (k : List ℕ) → IsOnePart (pointer_part k)
name_is_one [] = refl
name_is_one (x ∷ k) = byte_at _ _ x (pointer_part k) refl refl (name_is_one k)

digits_are_one : (ds : List ℕ) → AllDigits 10 ds → IsOnePart ds
digits_are_one [] h = refl
digits_are_one (d ∷ ds) h =
    let other : d ≡ 47 → ⊥ = λ e. let digit : digit_value d < 10 = h.0 in let is : d ≡ 47 = e in grind arith in
    rw (ne_eqb d 47 other) (ap (onto d) (digits_are_one ds h.1))

pub index_is_one : (i : ℕ) → i < 2 ^ 64 → IsOnePart (decimal i)
index_is_one i fits = digits_are_one (decimal i) (decimal_is_IsNumeral i fits).0.1

-- ---- a path with a part more

abbrev HasFirst : List (List ℕ) → Type 0
HasFirst ps = (q : List ℕ) × (qs : List (List ℕ)) × (ps ≡ q ∷ qs)

onto_first : (x : ℕ) (ps : List (List ℕ)) → HasFirst (onto x ps)
onto_first x [] = (x ∷ [], [], refl)
onto_first x (p ∷ ps) = (x ∷ p, ps, refl)

first_at : (b : Bool) (x : ℕ) (ps : List (List ℕ)) → HasFirst (cond b ([] ∷ ps) (onto x ps))
first_at true x ps = ([], ps, refl)
first_at false x ps = onto_first x ps

-- a path has at least one part
pub first_part : (xs : List ℕ) → HasFirst (cut xs)
first_part [] = ([], [], refl)
first_part (x ∷ xs) = first_at (x == 47) x (cut xs)

onto_more : (x : ℕ) (ps : List (List ℕ)) (q : List ℕ) → HasFirst ps → onto x (ps ++ q ∷ []) ≡ onto x ps ++ q ∷ []
onto_more x [] q h = absurd (no_first h.2)
  where
    no_first : {p : List ℕ} {ps : List (List ℕ)} → [] ≡ p ∷ ps → ⊥
    no_first e = cc
onto_more x (p ∷ ps) q h = refl

cut_at : (b : Bool) (x : ℕ) (xs q : List ℕ) → cut (xs ++ 47 ∷ q) ≡ cut xs ++ q ∷ []
    → cond b ([] ∷ cut (xs ++ 47 ∷ q)) (onto x (cut (xs ++ 47 ∷ q))) ≡ cond b ([] ∷ cut xs) (onto x (cut xs)) ++ q ∷ []
cut_at true x xs q e = ap (λ (ps : List (List ℕ)). [] ∷ ps) e
cut_at false x xs q e = ap (onto x) e ∙ onto_more x (cut xs) q (first_part xs)

cut_after : (xs q : List ℕ) → IsOnePart q → cut (xs ++ 47 ∷ q) ≡ cut xs ++ q ∷ []
cut_after [] q one = ap (λ (ps : List (List ℕ)). [] ∷ ps) one
cut_after (x ∷ xs) q one = cut_at (x == 47) x xs q (cut_after xs q one)

-- ---- what it names

to_the_end : (o : Option Tree) → option_and_then (followed []) o ≡ o
to_the_end None = refl
to_the_end (Some t) = refl

on_found : (f g : Tree → Option Tree) (q : List ℕ) → ((t : Tree) → f t ≡ option_and_then (child q) (g t)) → (o : Option Tree)
    → option_and_then f o ≡ option_and_then (child q) (option_and_then g o)
on_found f g q h None = refl
on_found f g q h (Some t) = h t

followed_after : (ps : List (List ℕ)) (q : List ℕ) (t : Tree) → followed (ps ++ q ∷ []) t ≡ option_and_then (child q) (followed ps t)
followed_after [] q t = to_the_end (child q t)
followed_after (p ∷ ps) q t = on_found (followed (ps ++ q ∷ [])) (followed ps) q (λ u. followed_after ps q u) (child p t)

pointed_at : (b : Bool) (path q : List ℕ) (t : Tree) → IsOnePart q
    → cond b (followed (cut (path ++ 47 ∷ q)) t) None ≡ option_and_then (child q) (cond b (followed (cut path) t) None)
pointed_at true path q t one = ap (λ ps. followed ps t) (cut_after path q one) ∙ followed_after (cut path) q t
pointed_at false path q t one = refl

pub pointed_after : (path q : List ℕ) (t : Tree) → IsOnePart q → pointed (path ++ 47 ∷ q) t ≡ option_and_then (child q) (pointed path t)
pointed_after [] q t one = ap (λ ps. followed ps t) one ∙ to_the_end (child q t)
pointed_after (x ∷ path) q t one = pointed_at (x == 47) path q t one

pub member_is : (k : List ℕ) (fs : Fields) → child (pointer_part k) (object fs) ≡ find k (pairs_of fs)
member_is k fs = ap (λ o. option_and_then (λ l. find l (pairs_of fs)) o) (name_back k)
