-- What is written as a type is read as one.
use Rattle.std.proofs.Common.{◌≡◌, ℕ, suc, ◌<◌, Bool, true, false, cond, eqb, ◌&&◌, List, [], ◌∷◌, ◌++◌, length, take, drop, Option, None, Some, refl, sym, ap, ◌∙◌, inl, inr, arith, IsTrue}
use Rattle.std.specs.List.{prefix_len, list_all}
use Rattle.std.proofs.lemmas.Bool.{cases_eq, ne_eqb, true≢false}
use Rattle.std.proofs.lemmas.List.{take_at, drop_at}
use Rattle.mime_lines.specs.FieldOffsets.{lowered}
use Rattle.mime_type.specs.Characters.{is_token, is_bare}
use Rattle.mime_type.specs.Grammar.{◌>>=◌, after_blanks, after_mark, run_at, quoted_from, quoted_text, value_at, Pair, param_at, gives, turn_of, slot_at, turn_at, Params, onto_params, by_turn, params_in, params_of, if_whole, type_at}
use Rattle.mime_type.specs.TypeText.{IsToken, written, meant}
use Rattle.mime_type.proofs.Quotes.{quoted_back}
use Rattle.mime_type.proofs.Utf8.{with_value, after_equals, after_name, with_sub, after_slash, after_main, at_main}

pub both_true : (p q : Bool) → IsTrue (p && q) → (p ≡ true) × IsTrue q
both_true true q h = (refl, h)
both_true false q h = absurd (true≢false (sym h))

-- a character of a token is none of these
pub other : (x y : ℕ) → is_token x ≡ true → is_token y ≡ false → eqb x y ≡ false
other x y h k = elim (cases_eq x y) as (λ _. eqb x y ≡ false) [
  | inl e ↦ absurd (true≢false (sym h ∙ ap is_token e ∙ k))
  | inr n ↦ ne_eqb x y n
]

pub class_len : (class : ℕ → Bool) (t : List ℕ) (y : ℕ) (ys : List ℕ) → IsTrue (list_all class t) → class y ≡ false → prefix_len class (t ++ y ∷ ys) ≡ length t
class_len class [] y ys h k = rw k refl
class_len class (x ∷ xs) y ys h k =
    let both = both_true (class x) (list_all class xs) h in
    let more : prefix_len class (xs ++ y ∷ ys) ≡ length xs = class_len class xs y ys both.1 k in
    rw both.0 (omega (arith, more))

-- a run of a class is read up to what is of another
pub run_class : (class : ℕ → Bool) (t : List ℕ) (y : ℕ) (ys : List ℕ) → 0 < length t → IsTrue (list_all class t) → class y ≡ false
    → run_at class (t ++ y ∷ ys) ≡ Some (t, y ∷ ys)
run_class class t y ys any each k =
    let size = class_len class t y ys each k in
    let some : eqb (length t) 0 ≡ false = ne_eqb (length t) 0 (λ z. omega (arith, z, any)) in
    let out : ℕ → Option (List ℕ × List ℕ) = λ n. cond (eqb n 0) None (Some (take n (t ++ y ∷ ys), drop n (t ++ y ∷ ys))) in
    let pair : List ℕ → List ℕ → Option (List ℕ × List ℕ) = λ a b. Some (a, b) in
    ap out size
    ∙ ap (λ v. cond v None (Some (take (length t) (t ++ y ∷ ys), drop (length t) (t ++ y ∷ ys)))) some
    ∙ ap (λ a. pair a (drop (length t) (t ++ y ∷ ys))) (take_at t (y ∷ ys) (length t) refl)
    ∙ ap (pair t) (drop_at t (y ∷ ys) (length t) refl)

pub run_token : (t : List ℕ) (y : ℕ) (ys : List ℕ) → IsToken t → is_token y ≡ false → run_at is_token (t ++ y ∷ ys) ≡ Some (t, y ∷ ys)
run_token t y ys h k = run_class is_token t y ys h.some h.each k

pub not_quote : (b : ℕ) → is_bare b ≡ true → eqb b 34 ≡ false
not_quote b h = elim (cases_eq b 34) as (λ _. eqb b 34 ≡ false) [ inl e ↦ absurd (true≢false (sym h ∙ ap is_bare e)) | inr n ↦ ne_eqb b 34 n ]

-- a value without quote marks is read up to the semicolon
pub bare_back : (text rest : List ℕ) → 0 < length text → IsTrue (list_all is_bare text) → value_at (text ++ 59 ∷ rest) ≡ Some (text, 59 ∷ rest)
bare_back [] rest any each = absurd (omega (arith, any))
bare_back (b ∷ bs) rest any each =
    ap (λ v. cond v (quoted_from false (bs ++ 59 ∷ rest)) (run_at is_bare (b ∷ (bs ++ 59 ∷ rest)))) (not_quote b (both_true (is_bare b) (list_all is_bare bs) each).0)
    ∙ run_class is_bare (b ∷ bs) 59 rest any each refl

pub gap_token : (t rest : List ℕ) → IsToken t → after_blanks (t ++ rest) ≡ Some (t ++ rest)
gap_token [] rest h = absurd (omega (arith, h.some))
gap_token (x ∷ xs) rest h =
    let token : is_token x ≡ true = (both_true (is_token x) (list_all is_token xs) h.each).0 in
    rw (other x 32 token refl, other x 9 token refl, other x 40 token refl) refl

pub mark_slash : (t rest : List ℕ) → IsToken t → after_mark 47 (47 ∷ (t ++ rest)) ≡ Some (t ++ rest)
unfolding after_mark
mark_slash t rest h = gap_token t rest h

mark_equals : (rest : List ℕ) → after_mark 61 (61 ∷ 34 ∷ rest) ≡ Some (34 ∷ rest)
unfolding after_mark
mark_equals rest = refl

abbrev quoted_end : List ℕ → List ℕ
quoted_end value = 34 ∷ (quoted_text value ++ 34 ∷ [])

abbrev param : List ℕ → List ℕ → Pair
param name value = record { name = lowered name; value = value }

param_back : (name value : List ℕ) → IsToken name → param_at (name ++ 61 ∷ quoted_end value) ≡ Some (param name value, [])
unfolding param_at
param_back name value h =
    ap (λ o. o >>= after_name) (run_token name 61 (quoted_end value) h refl)
    ∙ ap (λ o. o >>= after_equals name) (mark_equals (quoted_text value ++ 34 ∷ []))
    ∙ ap (λ o. o >>= with_value name) (quoted_back value [])

abbrev tail : List ℕ → List ℕ → List ℕ
tail name value = 59 ∷ 32 ∷ (name ++ 61 ∷ quoted_end value)

slot_back : (name value : List ℕ) → IsToken name → slot_at (Some (name ++ 61 ∷ quoted_end value)) ≡ gives (param name value) []
slot_back [] value h = absurd (omega (arith, h.some))
slot_back (x ∷ xs) value h =
    let token : is_token x ≡ true = (both_true (is_token x) (list_all is_token xs) h.each).0 in
    rw (other x 59 token refl) (ap turn_of (param_back (x ∷ xs) value h))

turn_back : (name value : List ℕ) → IsToken name → turn_at (tail name value) ≡ gives (param name value) []
turn_back name value h = ap slot_at (gap_token name (61 ∷ quoted_end value) h) ∙ slot_back name value h

abbrev all_of : List Pair → Params
all_of found = record { found = found; whole = true }

params_end : (n : ℕ) → params_in (suc n) [] ≡ all_of []
unfolding params_in
params_end n = refl

params_back : (name value : List ℕ) → IsToken name → params_of (tail name value) ≡ all_of (param name value ∷ [])
unfolding params_in
params_back name value h =
    ap (λ u. by_turn u (params_in (length (tail name value)))) (turn_back name value h)
    ∙ ap (onto_params (param name value)) (params_end (length (32 ∷ (name ++ 61 ∷ quoted_end value))))

pub type_back : (main sub name value : List ℕ) → IsToken main → IsToken sub → IsToken name → type_at (written main sub name value) ≡ Some (meant main sub name value)
unfolding type_at
type_back main sub name value m s n =
    let kind = lowered (main ++ 47 ∷ sub) in
    ap (λ o. o >>= at_main) (gap_token main (47 ∷ (sub ++ tail name value)) m)
    ∙ ap (λ o. o >>= after_main) (run_token main 47 (sub ++ tail name value) m refl)
    ∙ ap (λ o. o >>= after_slash main) (mark_slash sub (tail name value) s)
    ∙ ap (λ o. o >>= with_sub main) (run_token sub 59 (32 ∷ (name ++ 61 ∷ quoted_end value)) s refl)
    ∙ ap (if_whole kind) (params_back name value n)
