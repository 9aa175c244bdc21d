-- Types and dispositions that are written with parameters are read back.
use Rattle.std.proofs.Common.{◌≡◌, ℕ, zero, suc, ◌<◌, ◌≤◌, Bool, true, false, cond, eqb, leb, ◌&&◌, ◌||◌, not, IsTrue, List, [], ◌∷◌, ◌++◌, length, take, drop, map, Option, None, Some, refl, sym, ap, ◌∙◌, append_assoc, length-append, arith}
use Rattle.std.specs.List.{list_all, prefix_len}
use Rattle.std.proofs.lemmas.Bool.{leb-true, ne_eqb, true≢false}
use Rattle.std.proofs.lemmas.List.{append-nil, drop_all, take_all}
use Rattle.mime_lines.specs.FieldOffsets.{lowered}
use Rattle.mime_codec.specs.Quoted.{is_between}
use Rattle.mime_codec.proofs.Tables.{counted, for_below}
use Rattle.mime_type.specs.Characters.{is_token, is_special, is_bare}
use Rattle.mime_type.specs.Grammar.{◌>>=◌, after_blanks, after_mark, run_at, quoted_from, quoted_text, value_at, Pair, param_at, gives, turn_of, slot_at, turn_at, Params, onto_params, by_turn, params_in, params_of, Kind, if_whole, type_at, disposition_at}
use Rattle.mime_type.specs.TypeText.{IsToken}
use Rattle.mime_type.specs.HeadText.{between_quotes, is_name_character, parameters_text}
use Rattle.mime_type.proofs.Quotes.{quoted_back}
use Rattle.mime_type.proofs.ReadBack.{both_true, other, run_class, run_token, gap_token, mark_slash, not_quote}
use Rattle.mime_type.proofs.Utf8.{with_value, after_equals, after_name, with_sub, after_slash, after_main, at_main}

-- what follows a run of a class is none of it
abbrev pub Stops : (ℕ → Bool) → List ℕ → Type 0
Stops class [] = Unit {0}
Stops class (y ∷ ys) = class y ≡ false

all_len : (class : ℕ → Bool) (t : List ℕ) → IsTrue (list_all class t) → prefix_len class t ≡ length t
all_len class [] h = refl
all_len class (x ∷ xs) h =
    let both = both_true (class x) (list_all class xs) h in
    let more : prefix_len class xs ≡ length xs = all_len class xs both.1 in
    rw both.0 (omega (arith, more))

run_end : (class : ℕ → Bool) (t : List ℕ) → 0 < length t → IsTrue (list_all class t) → run_at class t ≡ Some (t, [])
run_end class t any each =
    let some : eqb (length t) 0 ≡ false = ne_eqb (length t) 0 (λ z. omega (arith, z, any)) in
    let pair : List ℕ → List ℕ → Option (List ℕ × List ℕ) = λ a b. Some (a, b) in
    ap (λ n. cond (eqb n 0) None (Some (take n t, drop n t))) (all_len class t each)
    ∙ ap (λ v. cond v None (Some (take (length t) t, drop (length t) t))) some
    ∙ ap (λ a. pair a (drop (length t) t)) (take_all (length t) t (omega arith))
    ∙ ap (pair t) (drop_all (length t) t (omega arith))

run_upto : (class : ℕ → Bool) (t rest : List ℕ) → 0 < length t → IsTrue (list_all class t) → Stops class rest → run_at class (t ++ rest) ≡ Some (t, rest)
run_upto class t [] any each stops = ap (run_at class) (append-nil t) ∙ run_end class t any each
run_upto class t (y ∷ ys) any each stops = run_class class t y ys any each stops

-- ---- parameters

-- a written parameter, and what it means
pub record Means (p q : Pair) : Type 0 where
  pub token : IsToken p.name
  pub name : q.name ≡ lowered p.name
  pub blanks : (rest : List ℕ) → after_blanks (p.value ++ rest) ≡ Some (p.value ++ rest)
  pub value : (rest : List ℕ) → Stops is_bare rest → value_at (p.value ++ rest) ≡ Some (q.value, rest)

abbrev pub AllMean : List Pair → List Pair → Type 0
AllMean [] [] = Unit {0}
AllMean [] (q ∷ qs) = ⊥
AllMean (p ∷ ps) [] = ⊥
AllMean (p ∷ ps) (q ∷ qs) = Means p q × AllMean ps qs

pub mean_both : (ps qs ps' qs' : List Pair) → AllMean ps qs → AllMean ps' qs' → AllMean (ps ++ ps') (qs ++ qs')
mean_both [] [] ps' qs' h k = k
mean_both [] (q ∷ qs) ps' qs' h k = absurd h
mean_both (p ∷ ps) [] ps' qs' h k = absurd h
mean_both (p ∷ ps) (q ∷ qs) ps' qs' h k = (h.0, mean_both ps qs ps' qs' h.1 k)

stops_text : (ps : List Pair) → Stops is_bare (parameters_text ps)
stops_text [] = tt
stops_text (p ∷ ps) = refl

abbrev pair : List ℕ → List ℕ → Pair
pair name value = record { name = name; value = value }

param_back : (p q : Pair) (rest : List ℕ) → Means p q → Stops is_bare rest → param_at (p.name ++ 61 ∷ (p.value ++ rest)) ≡ Some (q, rest)
unfolding param_at after_mark
param_back p q rest m stops =
    let tail = p.value ++ rest in
    ap (λ o. o >>= after_name) (run_token p.name 61 tail m.token refl)
    ∙ ap (λ o. o >>= after_equals p.name) (m.blanks rest)
    ∙ ap (λ o. o >>= with_value p.name) (m.value rest stops)
    ∙ ap (λ n. Some (pair n q.value, rest)) (sym m.name)

slot_back : (p q : Pair) (rest : List ℕ) → Means p q → Stops is_bare rest → slot_at (Some (p.name ++ 61 ∷ (p.value ++ rest))) ≡ gives q rest
slot_back p q rest m stops = first p.name m.token (param_back p q rest m stops)
  where
    first : (name : List ℕ) → IsToken name → param_at (name ++ 61 ∷ (p.value ++ rest)) ≡ Some (q, rest) → slot_at (Some (name ++ 61 ∷ (p.value ++ rest))) ≡ gives q rest
    first [] token e = absurd (omega (arith, token.some))
    first (x ∷ xs) token e =
        let is : is_token x ≡ true = (both_true (is_token x) (list_all is_token xs) token.each).0 in
        rw (other x 59 is refl) (ap turn_of e)

turn_back : (p q : Pair) (rest : List ℕ) → Means p q → Stops is_bare rest → turn_at (59 ∷ 32 ∷ (p.name ++ 61 ∷ (p.value ++ rest))) ≡ gives q rest
turn_back p q rest m stops = ap slot_at (gap_token p.name (61 ∷ (p.value ++ rest)) m.token) ∙ slot_back p q rest m stops

abbrev all_of : List Pair → Params
all_of found = record { found = found; whole = true }

params_back : (n : ℕ) (ps qs : List Pair) → AllMean ps qs → length ps < n → params_in n (parameters_text ps) ≡ all_of qs
unfolding params_in
params_back zero ps qs h low = absurd (omega (arith, low))
params_back (suc n) [] [] h low = refl
params_back (suc n) [] (q ∷ qs) h low = absurd h
params_back (suc n) (p ∷ ps) [] h low = absurd h
params_back (suc n) (p ∷ ps) (q ∷ qs) h low =
    ap (λ u. by_turn u (params_in n)) (turn_back p q (parameters_text ps) h.0 (stops_text ps))
    ∙ ap (onto_params q) (params_back n ps qs h.1 (omega arith))

text_size : (ps : List Pair) → length ps ≤ length (parameters_text ps)
text_size [] = omega arith
text_size (p ∷ ps) =
    omega (arith, length-append p.name (61 ∷ (p.value ++ parameters_text ps)), length-append p.value (parameters_text ps), text_size ps)

pub all_params : (ps qs : List Pair) → AllMean ps qs → params_of (parameters_text ps) ≡ all_of qs
all_params ps qs h = params_back (suc (length (parameters_text ps))) ps qs h (omega (arith, text_size ps))

-- ---- values

abbrev pub is_unquoted : ℕ → Bool
is_unquoted b = not (eqb b 34 || eqb b 92)

pub name_unquoted : (b : ℕ) → is_name_character b ≡ true → is_unquoted b ≡ true
name_unquoted b h =
    let parts = two (leb 32 b && leb b 126) (not (eqb b 34)) (not (eqb b 92)) h in
    rw (no (eqb b 34) parts.0, no (eqb b 92) parts.1) refl
  where
    two : (p q r : Bool) → (p && q && r) ≡ true → (q ≡ true) × (r ≡ true)
    two true true true h = (refl, refl)
    two true true false h = absurd (true≢false (sym h))
    two true false r h = absurd (true≢false (sym h))
    two false q r h = absurd (true≢false (sym h))

    no : (p : Bool) → not p ≡ true → p ≡ false
    no true h = absurd (true≢false (sym h))
    no false h = refl

plain_quoted : (t : List ℕ) → list_all is_unquoted t ≡ true → quoted_text t ≡ t
plain_quoted [] h = refl
plain_quoted (b ∷ bs) h =
    elim (eqb b 34 || eqb b 92) as (λ v. (not v && list_all is_unquoted bs) ≡ true → cond v (92 ∷ b ∷ quoted_text bs) (b ∷ quoted_text bs) ≡ b ∷ bs) [
      | true ↦ λ k. absurd (true≢false (sym k))
      | false ↦ λ k. ap (λ t. b ∷ t) (plain_quoted bs k)
    ] h

quoted_value : (t rest : List ℕ) → list_all is_unquoted t ≡ true → value_at (between_quotes t ++ rest) ≡ Some (t, rest)
quoted_value t rest h =
    ap (quoted_from false) (append_assoc t (34 ∷ []) rest) ∙ ap (λ u. quoted_from false (u ++ 34 ∷ rest)) (sym (plain_quoted t h)) ∙ quoted_back t rest

pub quoted_means : (name t : List ℕ) → IsToken name → lowered name ≡ name → list_all is_unquoted t ≡ true → Means (pair name (between_quotes t)) (pair name t)
quoted_means name t token low h = record { token = token; name = sym low; blanks = λ rest. refl; value = λ rest stops. quoted_value t rest h }

-- a token is a value as it is
abbrev pub implies : (ℕ → Bool) → (ℕ → Bool) → ℕ → Bool
implies p q b = not (p b) || q b

abbrev pub yes : ℕ → Bool
yes b = true

implied : (p q : Bool) → (not p || q) ≡ true → p ≡ true → q ≡ true
implied true q h e = h
implied false q h e = absurd (true≢false (sym e))

pub by_table : (p q : ℕ → Bool) → map (implies p q) (counted 0 127) ≡ map yes (counted 0 127) → (b : ℕ) → b < 127 → p b ≡ true → q b ≡ true
by_table p q table b low h = implied (p b) (q b) (for_below (implies p q) yes false 127 table b low) h

and_first : (p q : Bool) → (p && q) ≡ true → p ≡ true
and_first true q h = refl
and_first false q h = h

and_second : (p q : Bool) → (p && q) ≡ true → q ≡ true
and_second true q h = h
and_second false q h = absurd (true≢false (sym h))

pub token_small : (b : ℕ) → is_token b ≡ true → b < 127
token_small b h = omega (arith, leb-true b 126 (and_second (leb 33 b) (leb b 126) (and_first (is_between 33 126 b) (not (is_special b)) h)))

token_bare : (b : ℕ) → is_token b ≡ true → is_bare b ≡ true
token_bare b h = by_table is_token is_bare refl b (token_small b h) h

pub each_true : (p q : ℕ → Bool) → ((b : ℕ) → p b ≡ true → q b ≡ true) → (t : List ℕ) → IsTrue (list_all p t) → IsTrue (list_all q t)
each_true p q weaker [] h = h
each_true p q weaker (b ∷ bs) h =
    let parts = both_true (p b) (list_all p bs) h in
    rw (weaker b parts.0) (each_true p q weaker bs parts.1)

token_value : (t rest : List ℕ) → IsToken t → Stops is_bare rest → value_at (t ++ rest) ≡ Some (t, rest)
token_value [] rest h stops = absurd (omega (arith, h.some))
token_value (b ∷ bs) rest h stops =
    let bare = each_true is_token is_bare token_bare (b ∷ bs) h.each in
    ap (λ v. cond v (quoted_from false (bs ++ rest)) (run_at is_bare (b ∷ (bs ++ rest)))) (not_quote b (both_true (is_bare b) (list_all is_bare bs) bare).0)
    ∙ run_upto is_bare (b ∷ bs) rest h.some bare stops

pub token_means : (name t : List ℕ) → IsToken name → lowered name ≡ name → IsToken t → Means (pair name t) (pair name t)
token_means name t token low h = record { token = token; name = sym low; blanks = λ rest. gap_token t rest h; value = λ rest stops. token_value t rest h stops }

-- ---- a type, and a disposition

stops_token : (ps : List Pair) → Stops is_token (parameters_text ps)
stops_token [] = tt
stops_token (p ∷ ps) = refl

pub type_means : (main sub : List ℕ) (ps qs : List Pair) → IsToken main → IsToken sub → AllMean ps qs
    → type_at (32 ∷ (main ++ 47 ∷ (sub ++ parameters_text ps))) ≡ Some (record { kind = lowered (main ++ 47 ∷ sub); params = qs })
unfolding type_at
type_means main sub ps qs m s h =
    let tail = parameters_text ps in
    ap (λ o. o >>= at_main) (gap_token main (47 ∷ (sub ++ tail)) m)
    ∙ ap (λ o. o >>= after_main) (run_token main 47 (sub ++ tail) m refl)
    ∙ ap (λ o. o >>= after_slash main) (mark_slash sub tail s)
    ∙ ap (λ o. o >>= with_sub main) (run_upto is_token sub tail s.some s.each (stops_token ps))
    ∙ ap (if_whole (lowered (main ++ 47 ∷ sub))) (all_params ps qs h)

abbrev with_name : (List ℕ × List ℕ) → Option Kind
with_name name = Some (record { kind = lowered name.0; params = (params_of name.1).found })

pub disposition_means : (d : List ℕ) (ps qs : List Pair) → IsToken d → AllMean ps qs
    → disposition_at (32 ∷ (d ++ parameters_text ps)) ≡ Some (record { kind = lowered d; params = qs })
unfolding disposition_at
disposition_means d ps qs t h =
    let tail = parameters_text ps in
    ap (λ o. o >>= (λ at. run_at is_token at >>= with_name)) (gap_token d tail t)
    ∙ ap (λ o. o >>= with_name) (run_upto is_token d tail t.some t.each (stops_token ps))
    ∙ ap (λ (p : Params). Some (record { kind = lowered d; params = p.found })) (all_params ps qs h)
