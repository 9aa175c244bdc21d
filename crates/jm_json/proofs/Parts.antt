-- Parts of paths, and the names and indexes that they are.
use Rattle.std.proofs.Common.{◌≡◌, ◌≢◌, ℕ, zero, suc, ◌+◌, ◌<◌, ◌≤◌, ◌==◌, ◌^◌, ◌&&◌, List, [], ◌∷◌, ◌++◌, Bool, true, false, cond, length, take, drop, get_or, Option, Some, None, option_map, option_and_then, decimal, refl, sym, ap, ◌∙◌, arith, ne_eqb, eqb-true, true≢false, Result, Ok, Err}
use Rattle.std.specs.Str.{bytes_eq}
use Rattle.std.proofs.lemmas.Slice.Eq.{bytes_eq-Decides}
use Rattle.std.proofs.lemmas.Fmt.{decimal_injective}
use Rattle.jm_json.specs.Tree.{Tree}
use Rattle.jm_json.specs.Find.{find}
use Rattle.jm_json.specs.Integers.{pointer_part}
use Rattle.jm_json.specs.Pointer.{onto, cut, unescaped, name_of, item_named, stripped}

abbrev pub HasNoSlash : List ℕ → ℕ → Type 0
HasNoSlash xs i = (k : ℕ) → k < i → get_or xs k 0 ≢ 47

pub cut_last : (xs : List ℕ) → HasNoSlash xs (length xs) → cut xs ≡ xs ∷ []
cut_last [] h = refl
cut_last (x ∷ xs) h = rw (ne_eqb x 47 (h 0 (omega arith))) (ap (onto x) (cut_last xs (λ k less. h (suc k) (omega arith))))

pub cut_more : (xs : List ℕ) (i : ℕ) → i < length xs → get_or xs i 0 ≡ 47 → HasNoSlash xs i → cut xs ≡ take i xs ∷ cut (drop 1 (drop i xs))
cut_more [] i within e h = absurd (omega arith)
cut_more (x ∷ xs) zero within e h = rw e refl
cut_more (x ∷ xs) (suc i) within e h =
    rw (ne_eqb x 47 (h 0 (omega arith))) (ap (onto x) (cut_more xs i (omega arith) e (λ k less. h (suc k) (omega arith))))

-- ---- a part as the written form of a name

abbrev pub on_rest : List ℕ → Option (List ℕ) → Bool
on_rest ys None = false
on_rest ys (Some rest) = bytes_eq ys rest

first_then : (b r : Bool) (ys : List ℕ) (o : Option (List ℕ)) → r ≡ on_rest ys o → (b && r) ≡ on_rest ys (cond b o None)
first_then true r ys o h = h
first_then false r ys o h = refl

pub stripped_eq : (xs ys s : List ℕ) → bytes_eq (xs ++ ys) s ≡ on_rest ys (stripped xs s)
stripped_eq [] ys s = refl
stripped_eq (x ∷ xs) ys [] = refl
stripped_eq (x ∷ xs) ys (y ∷ s) = first_then (x == y) _ ys (stripped xs s) (stripped_eq xs ys s)

name_at : (a b : Bool) (x : ℕ) (s k : List ℕ) → (x == 126) ≡ a → (x == 47) ≡ b → name_of s ≡ Some k
    → name_of (cond a (126 ∷ 48 ∷ []) (cond b (126 ∷ 49 ∷ []) (x ∷ [])) ++ s) ≡ Some (x ∷ k)
name_at true b x s k e f h = rw h (ap (λ y. Some (y ∷ k)) (sym (eqb-true x 126 e)))
name_at false true x s k e f h = rw h (ap (λ y. Some (y ∷ k)) (sym (eqb-true x 47 f)))
name_at false false x s k e f h = rw (e, f, h) refl

-- a name that is written is read back
pub name_back : (k : List ℕ) → name_of (pointer_part k) ≡ Some k
name_back [] = refl
name_back (x ∷ k) = name_at _ _ x (pointer_part k) k refl refl (name_back k)

mapped : (x : ℕ) (o : Option (List ℕ)) (k : List ℕ) → option_map (λ l. x ∷ l) o ≡ Some k → (l : List ℕ) × (o ≡ Some l) × (k ≡ x ∷ l)
mapped x None k e = absurd (cc)
mapped x (Some l) k e = (l, refl, cc)

-- what a name was read from is what it is written as
abbrev IsBack : List ℕ → Type 0
IsBack p = (k : List ℕ) → unescaped false p ≡ Some k → pointer_part k ≡ p

abbrev IsTildeBack : List ℕ → Type 0
IsTildeBack p = (k : List ℕ) → unescaped true p ≡ Some k → pointer_part k ≡ 126 ∷ p

part_at : (a b : Bool) (x : ℕ) (p k : List ℕ) → (x == 126) ≡ a → (x == 47) ≡ b → IsBack p → IsTildeBack p
    → cond a (unescaped true p) (cond b None (option_map (λ l. x ∷ l) (unescaped false p))) ≡ Some k → pointer_part k ≡ x ∷ p
part_at true b x p k e f plain tilde h = rw (eqb-true x 126 e) (tilde k h)
part_at false true x p k e f plain tilde h = absurd (cc)
part_at false false x p k e f plain tilde h =
    let m = mapped x (unescaped false p) k h in
    rw (m.2, e, f) (ap (λ s. x ∷ s) (plain m.0 m.1))

tilde_at : (a b : Bool) (x : ℕ) (p k : List ℕ) → (x == 48) ≡ a → (x == 49) ≡ b → IsBack p
    → cond a (option_map (λ l. 126 ∷ l) (unescaped false p)) (cond b (option_map (λ l. 47 ∷ l) (unescaped false p)) None) ≡ Some k → pointer_part k ≡ 126 ∷ x ∷ p
tilde_at true b x p k e f plain h =
    let m = mapped 126 (unescaped false p) k h in
    rw (m.2, eqb-true x 48 e) (ap (λ s. 126 ∷ 48 ∷ s) (plain m.0 m.1))
tilde_at false true x p k e f plain h =
    let m = mapped 47 (unescaped false p) k h in
    rw (m.2, eqb-true x 49 f) (ap (λ s. 126 ∷ 49 ∷ s) (plain m.0 m.1))
tilde_at false false x p k e f plain h = absurd (cc)

mutual
  part_back : (p : List ℕ) → IsBack p
  part_back [] k e = let none : k ≡ [] = cc in ap pointer_part none
  part_back (x ∷ p) k e = part_at _ _ x p k refl refl (part_back p) (tilde_back p) e

  tilde_back : (p : List ℕ) → IsTildeBack p
  tilde_back [] k e = absurd (cc)
  tilde_back (x ∷ p) k e = tilde_at _ _ x p k refl refl (part_back p) e

pub named : (p k : List ℕ) → bytes_eq (pointer_part k) p ≡ true → name_of p ≡ Some k
named p k e = ap name_of (sym ((bytes_eq-Decides (pointer_part k) p).0 e)) ∙ name_back k

pub not_named : (p k : List ℕ) → bytes_eq (pointer_part k) p ≡ false → name_of p ≢ Some k
not_named p k e same = true≢false (sym ((bytes_eq-Decides (pointer_part k) p).1 (part_back p k same)) ∙ e)

-- ---- a member by its part

never_true : (b : Bool) → (b ≡ true → ⊥) → b ≡ false
never_true true h = absurd (h refl)
never_true false h = refl

pub unequal : (xs ys : List ℕ) → xs ≢ ys → bytes_eq xs ys ≡ false
unequal xs ys h = never_true (bytes_eq xs ys) (λ e. h ((bytes_eq-Decides xs ys).0 e))

abbrev pub find_part : List ℕ → List (List ℕ × Tree) → Option Tree
find_part p ms = option_and_then (λ k. find k ms) (name_of p)

pub found_none : (p : List ℕ) → find_part p [] ≡ None
found_none p = none_in (name_of p)
  where
    none_in : (o : Option (List ℕ)) → option_and_then (λ k. find k []) o ≡ None
    none_in None = refl
    none_in (Some k) = refl

pub found_here : (p : List ℕ) (m : List ℕ × Tree) (ms : List (List ℕ × Tree)) → bytes_eq (pointer_part m.0) p ≡ true → find_part p (m ∷ ms) ≡ Some m.1
found_here p m ms e = rw (named p m.0 e, (bytes_eq-Decides m.0 m.0).1 refl) refl

passed_at : (o : Option (List ℕ)) (m : List ℕ × Tree) (ms : List (List ℕ × Tree)) → o ≢ Some m.0 → option_and_then (λ k. find k (m ∷ ms)) o ≡ option_and_then (λ k. find k ms) o
passed_at None m ms h = refl
passed_at (Some k) m ms h = rw (unequal m.0 k (λ e. h (ap Some (sym e)))) refl

pub found_later : (p : List ℕ) (m : List ℕ × Tree) (ms : List (List ℕ × Tree)) → bytes_eq (pointer_part m.0) p ≡ false → find_part p (m ∷ ms) ≡ find_part p ms
found_later p m ms e = passed_at (name_of p) m ms (not_named p m.0 e)

-- ---- an item by its index

pub item_absent : (i : ℕ) (p : List ℕ) (ts : List Tree) → i + length ts ≤ 2 ^ 64 → ((n : ℕ) → n < 2 ^ 64 → decimal n ≢ p) → item_named i p ts ≡ None
item_absent i p [] fits h = refl
item_absent i p (t ∷ ts) fits h = rw (unequal (decimal i) p (h i (omega arith))) (item_absent (i + 1) p ts (omega arith) h)

other_index : (i j : ℕ) (p : List ℕ) → i < 2 ^ 64 → j < 2 ^ 64 → i < j → decimal j ≡ p → decimal i ≢ p
other_index i j p small large less e same = let never : i ≡ j = decimal_injective i j small large (same ∙ sym e) in omega arith

pub item_present : (i n : ℕ) (p : List ℕ) (ts : List Tree) (d : Tree) → i + length ts ≤ 2 ^ 64 → decimal (i + n) ≡ p → n < length ts → item_named i p ts ≡ Some (get_or ts n d)
item_present i n p [] d fits e within = absurd (omega arith)
item_present i zero p (t ∷ ts) d fits e within =
    let here : i ≡ i + 0 = omega arith in
    rw ((bytes_eq-Decides (decimal i) p).1 (ap decimal here ∙ e)) refl
item_present i (suc n) p (t ∷ ts) d fits e within =
    let next : i + 1 + n ≡ i + suc n = omega arith in
    rw (unequal (decimal i) p (other_index i (i + suc n) p (omega arith) (omega arith) (omega arith) e))
    (item_present (i + 1) n p ts d (omega arith) (ap decimal next ∙ e) (omega arith))

pub item_past : (i n : ℕ) (p : List ℕ) (ts : List Tree) → i + n < 2 ^ 64 → decimal (i + n) ≡ p → length ts ≤ n → item_named i p ts ≡ None
item_past i n p [] fits e past = refl
item_past i zero p (t ∷ ts) fits e past = absurd (omega arith)
item_past i (suc n) p (t ∷ ts) fits e past =
    let next : i + 1 + n ≡ i + suc n = omega arith in
    rw (unequal (decimal i) p (other_index i (i + suc n) p (omega arith) (omega arith) (omega arith) e))
    (item_past (i + 1) n p ts (omega arith) (ap decimal next ∙ e) (omega arith))

pub not_read : {E : Type 0} (r : Result ℕ E) (e : E) (n : ℕ) → r ≡ Err e → r ≡ Ok n → ⊥
not_read r e n f g = cc

pub read_same : {E : Type 0} (r : Result ℕ E) (m n : ℕ) → r ≡ Ok m → r ≡ Ok n → m ≡ n
read_same r m n f g = cc
