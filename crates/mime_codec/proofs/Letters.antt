-- How many letters are before the first equals sign, and four letters in a row.
use Rattle.std.proofs.Common.{◌≡◌, ℕ, zero, suc, ◌+◌, ◌<◌, ◌≤◌, Bool, true, false, cond, eqb, ◌||◌, List, [], ◌∷◌, Option, Some, None, length, get_or, take, drop, refl, sym, ap, ◌∙◌, arith}
use Rattle.std.specs.List.{count_by}
use Rattle.std.proofs.lemmas.Bool.{eqb-true, false≢true}
use Rattle.std.proofs.lemmas.List.Sums.{sum_by-cons}
use Rattle.mime_codec.specs.Quoted.{is_between}
use Rattle.mime_codec.specs.Base64.{letter, is_letter, with_letter, letters}

abbrev weight : ℕ → ℕ
weight b = cond (is_letter b) 1 0

count_cons : (b : ℕ) (bs : List ℕ) → count_by is_letter (b ∷ bs) ≡ weight b + count_by is_letter bs
count_cons b bs = sum_by-cons weight b bs

-- a character is of the alphabet if it has a value there
abbrev chosen : Bool → Bool → Bool → Bool → Bool → ℕ → ℕ → ℕ → ℕ → ℕ → Option ℕ
chosen p q r s t u v w x y = cond p (Some u) (cond q (Some v) (cond r (Some w) (cond s (Some x) (cond t (Some y) None))))

chosen_weight : (p q r s t : Bool) (u v w x y : ℕ) (later : List ℕ)
    → length (with_letter (chosen p q r s t u v w x y) later) ≡ cond (p || q || r || s || t) 1 0 + length later
chosen_weight true q r s t u v w x y later = omega arith
chosen_weight false true r s t u v w x y later = omega arith
chosen_weight false false true s t u v w x y later = omega arith
chosen_weight false false false true t u v w x y later = omega arith
chosen_weight false false false false true u v w x y later = omega arith
chosen_weight false false false false false u v w x y later = omega arith

letter_weight : (b : ℕ) (later : List ℕ) → length (with_letter (letter b) later) ≡ weight b + length later
letter_weight b later =
    chosen_weight (is_between 65 90 b) (is_between 97 122 b) (is_between 48 57 b) (eqb b 43) (eqb b 47) _ _ _ _ _ later

abbrev letters_by : Bool → ℕ → List ℕ → ℕ
letters_by v b bs = length (cond v [] (with_letter (letter b) (letters bs)))

past : (b : ℕ) (bs cs : List ℕ) → eqb b 61 ≡ false → length (letters bs) ≡ count_by is_letter cs → length (letters (b ∷ bs)) ≡ count_by is_letter (b ∷ cs)
past b bs cs other later =
    ap (λ v. letters_by v b bs) other ∙ letter_weight b (letters bs) ∙ ap (λ k. weight b + k) later ∙ sym (count_cons b cs)

pub count_before : (bytes : List ℕ) (i : ℕ) → i < length bytes → ((k : ℕ) → k < i → eqb (get_or bytes k 0) 61 ≡ false) → eqb (get_or bytes i 0) 61 ≡ true
    → length (letters bytes) ≡ count_by is_letter (take i bytes)
count_before [] i inside none here = absurd (omega arith)
count_before (b ∷ bs) zero inside none here = ap (λ v. letters_by v b bs) here
count_before (b ∷ bs) (suc i) inside none here =
    past b bs (take i bs) (none 0 (omega arith)) (count_before bs i (omega arith) (λ k low. none (suc k) (omega arith)) here)

pub count_all : (bytes : List ℕ) → ((k : ℕ) → k < length bytes → eqb (get_or bytes k 0) 61 ≡ false) → length (letters bytes) ≡ count_by is_letter bytes
count_all [] none = refl
count_all (b ∷ bs) none = past b bs bs (none 0 (omega arith)) (count_all bs (λ k low. none (suc k) (omega arith)))

-- an equals sign is no letter
abbrev is_there : Option ℕ → Bool
is_there None = false
is_there (Some w) = true

none_some : (w : ℕ) → None ≡ Some w → ⊥
none_some w e = false≢true (ap is_there e)

not_equals : (b w : ℕ) → letter b ≡ Some w → (v : Bool) → eqb b 61 ≡ v → v ≡ false
not_equals b w is true e = absurd (none_some w (sym (ap letter (eqb-true b 61 e)) ∙ is))
not_equals b w is false e = refl

pub one_letter : (b w : ℕ) (bs : List ℕ) → letter b ≡ Some w → letters (b ∷ bs) ≡ w ∷ letters bs
one_letter b w bs is =
    ap (λ v. cond v [] (with_letter (letter b) (letters bs))) (not_equals b w is (eqb b 61) refl) ∙ ap (λ o. with_letter o (letters bs)) is

pub four_letters : (text : List ℕ) (w x y z : ℕ) → 4 ≤ length text
    → letter (get_or text 0 0) ≡ Some w → letter (get_or text 1 0) ≡ Some x → letter (get_or text 2 0) ≡ Some y → letter (get_or text 3 0) ≡ Some z
    → letters text ≡ w ∷ x ∷ y ∷ z ∷ letters (drop 4 text)
four_letters [] w x y z long p q r s = absurd (omega arith)
four_letters (a ∷ []) w x y z long p q r s = absurd (omega arith)
four_letters (a ∷ b ∷ []) w x y z long p q r s = absurd (omega arith)
four_letters (a ∷ b ∷ c ∷ []) w x y z long p q r s = absurd (omega arith)
four_letters (a ∷ b ∷ c ∷ d ∷ rest) w x y z long p q r s =
    one_letter a w (b ∷ c ∷ d ∷ rest) p ∙ ap (λ t. w ∷ t) (one_letter b x (c ∷ d ∷ rest) q
    ∙ ap (λ t. x ∷ t) (one_letter c y (d ∷ rest) r ∙ ap (λ t. y ∷ t) (one_letter d z rest s)))
