-- A text has no more objects and lists than bytes.
use Rattle.std.proofs.Common.{ℕ, suc, ◌≤◌, List, [], ◌∷◌, length, Bool, true, false, arith}
use Rattle.json.specs.Token.{Token, begin_object, end_object, begin_array, end_array, key, string, number, boolean, null, bad}
use Rattle.json.specs.Lex.{Lexeme, token, comma, colon, Class, quote, backslash, operator, space, other, class, Mode, between, in_word, in_string, in_escape, lex_byte, lex, Place, fresh, after_value, after_comma, after_key, begins_colon, may_begin, may_close, if_allowed, place_token, punctuate, tokens}
use Rattle.jm_json.specs.Containers.{containers_in}

-- ---- a lexeme takes a byte

byte_le : (m : Mode) (c : Class) (x : ℕ) (xs : List ℕ) (k : Mode → List Lexeme) (n : ℕ) → ((next : Mode) → length (k next) ≤ n) → length (lex_byte m c x xs k) ≤ suc n
byte_le between quote x xs k n h = omega (arith, h in_string)
byte_le between backslash x xs k n h = omega (arith, h in_word)
byte_le between operator x xs k n h = omega (arith, h between)
byte_le between space x xs k n h = omega (arith, h between)
byte_le between other x xs k n h = omega (arith, h in_word)
byte_le in_word quote x xs k n h = omega (arith, h in_word)
byte_le in_word backslash x xs k n h = omega (arith, h in_word)
byte_le in_word operator x xs k n h = omega (arith, h between)
byte_le in_word space x xs k n h = omega (arith, h between)
byte_le in_word other x xs k n h = omega (arith, h in_word)
byte_le in_string quote x xs k n h = omega (arith, h between)
byte_le in_string backslash x xs k n h = omega (arith, h in_escape)
byte_le in_string operator x xs k n h = omega (arith, h in_string)
byte_le in_string space x xs k n h = omega (arith, h in_string)
byte_le in_string other x xs k n h = omega (arith, h in_string)
byte_le in_escape c x xs k n h = omega (arith, h in_string)

lex_le : (m : Mode) (xs : List ℕ) → length (lex m xs) ≤ length xs
unfolding lex
lex_le m [] = omega arith
lex_le m (x ∷ xs) = byte_le m (class x) x xs (λ next. lex next xs) (length xs) (λ next. lex_le next xs)

-- ---- a token takes a lexeme

one_more : (t : Token) (ts : List Token) (n : ℕ) → containers_in ts ≤ n → containers_in (t ∷ ts) ≤ suc n
one_more begin_object ts n h = omega (arith, h)
one_more end_object ts n h = omega (arith, h)
one_more begin_array ts n h = omega (arith, h)
one_more end_array ts n h = omega (arith, h)
one_more (key s) ts n h = omega (arith, h)
one_more (string s) ts n h = omega (arith, h)
one_more (number s) ts n h = omega (arith, h)
one_more (boolean b) ts n h = omega (arith, h)
one_more null ts n h = omega (arith, h)
one_more bad ts n h = omega (arith, h)

allowed_le : (b : Bool) (t : Token) (k : Place → List Token) (next : Place) (n : ℕ) → containers_in (k next) ≤ n → containers_in (if_allowed b t k next) ≤ suc n
allowed_le true t k next n h = one_more t (k next) n h
allowed_le false t k next n h = omega arith

place_le : (p : Place) (t : Token) (b : Bool) (k : Place → List Token) (n : ℕ) → ((next : Place) → containers_in (k next) ≤ n) → containers_in (place_token p t b k) ≤ suc n
place_le p begin_object b k n h = allowed_le (may_begin p) begin_object k fresh n (h fresh)
place_le p end_object b k n h = allowed_le (may_close p) end_object k after_value n (h after_value)
place_le p begin_array b k n h = allowed_le (may_begin p) begin_array k fresh n (h fresh)
place_le p end_array b k n h = allowed_le (may_close p) end_array k after_value n (h after_value)
place_le p (key s) b k n h = omega arith
place_le p (string s) true k n h = allowed_le (may_begin p) (key s) k after_key n (h after_key)
place_le p (string s) false k n h = allowed_le (may_begin p) (string s) k after_value n (h after_value)
place_le p (number s) b k n h = allowed_le (may_begin p) (number s) k after_value n (h after_value)
place_le p (boolean b) c k n h = allowed_le (may_begin p) (boolean b) k after_value n (h after_value)
place_le p null b k n h = allowed_le (may_begin p) null k after_value n (h after_value)
place_le p bad b k n h = omega arith

punctuate_le : (p : Place) (ls : List Lexeme) → containers_in (punctuate p ls) ≤ length ls
unfolding punctuate
punctuate_le fresh [] = omega arith
punctuate_le after_value [] = omega arith
punctuate_le after_comma [] = omega arith
punctuate_le after_key [] = omega arith
punctuate_le fresh (token t ∷ ls) = place_le fresh t (begins_colon ls) (λ next. punctuate next ls) (length ls) (λ next. punctuate_le next ls)
punctuate_le after_value (token t ∷ ls) = place_le after_value t (begins_colon ls) (λ next. punctuate next ls) (length ls) (λ next. punctuate_le next ls)
punctuate_le after_comma (token t ∷ ls) = place_le after_comma t (begins_colon ls) (λ next. punctuate next ls) (length ls) (λ next. punctuate_le next ls)
punctuate_le after_key (token t ∷ ls) = place_le after_key t (begins_colon ls) (λ next. punctuate next ls) (length ls) (λ next. punctuate_le next ls)
punctuate_le fresh (comma ∷ ls) = omega arith
punctuate_le after_value (comma ∷ ls) = omega (arith, punctuate_le after_comma ls)
punctuate_le after_comma (comma ∷ ls) = omega arith
punctuate_le after_key (comma ∷ ls) = omega arith
punctuate_le fresh (colon ∷ ls) = omega arith
punctuate_le after_value (colon ∷ ls) = omega arith
punctuate_le after_comma (colon ∷ ls) = omega arith
punctuate_le after_key (colon ∷ ls) = omega (arith, punctuate_le fresh ls)

pub containers_le : (text : List ℕ) → containers_in (tokens text) ≤ length text
containers_le text = omega (arith, punctuate_le fresh (lex between text), lex_le between text)
