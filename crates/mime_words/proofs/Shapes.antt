-- What follows a word is the end of the text.
use Rattle.std.proofs.Common.{◌≡◌, ℕ, ◌+◌, ◌-◌, ◌<◌, Bool, true, false, eqb, ltb, cond, List, [], ◌∷◌, ◌++◌, length, get_or, drop, Option, Some, None, refl, sym, ap, subst, ◌∙◌, append_assoc, arith}
use Rattle.std.specs.List.{position_or_len, before_first, after_first}
use Rattle.std.proofs.lemmas.List.{drop_at, length-append}
use Rattle.std.proofs.lemmas.List.Sums.{split_at_first}
use Rattle.std.proofs.lemmas.Bool.{ltb-true}
use Rattle.std.proofs.lemmas.Option.{none-some}
use Rattle.mime_words.specs.Words.{◌>>=◌, after_sign, is_question, at_question, Shape, Word, shape_at, is_good, if_good, content, word_at}

some_is : {A : Type 0} (a b : A) → Some a ≡ Some b → a ≡ b
some_is a b e = cc

bind_is : {A B : Type 0} (o : Option A) (f : A → Option B) (y : B) → (o >>= f) ≡ Some y → (x : A) × (o ≡ Some x) × (f x ≡ Some y)
bind_is None f y e = absurd (none-some y e)
bind_is (Some x) f y e = (x, refl, e)

-- a text ends with another
abbrev pub EndsWith : List ℕ → List ℕ → Type 0
EndsWith text rest = (front : List ℕ) × (text ≡ front ++ rest)

pub ends_on : (a b c : List ℕ) → EndsWith a b → EndsWith b c → EndsWith a c
ends_on a b c f g = (f.0 ++ g.0, f.1 ∙ ap (λ t. f.0 ++ t) g.1 ∙ sym (append_assoc f.0 g.0 c))

cond_is : {A : Type 0} (test : Bool) (x y : A) → cond test (Some x) None ≡ Some y → (test ≡ true) × (x ≡ y)
cond_is true x y e = (refl, some_is x y e)
cond_is false x y e = absurd (none-some y e)

sign_ends : (sign : ℕ) (text rest : List ℕ) → after_sign sign text ≡ Some rest → EndsWith text rest
sign_ends sign [] rest e = absurd (none-some rest e)
sign_ends sign (b ∷ bs) rest e = (b ∷ [], ap (λ t. b ∷ t) (cond_is (eqb b sign) bs rest e).1)

question_ends : (text : List ℕ) (x : List ℕ × List ℕ) → at_question text ≡ Some x → EndsWith text x.1
question_ends text x e =
    let k = position_or_len is_question text in
    let found = cond_is (ltb k (length text)) (before_first is_question text, after_first is_question text) x e in
    let less : k < length text = ltb-true k (length text) found.0 in
    let split = split_at_first is_question text 0 less in (
      before_first is_question text ++ get_or text k 0 ∷ [],
      split ∙ sym (append_assoc (before_first is_question text) (get_or text k 0 ∷ []) (after_first is_question text))
          ∙ ap (λ t. (before_first is_question text ++ get_or text k 0 ∷ []) ++ t) (ap (λ p. p.1) found.1),
    )

abbrev pub made : List ℕ → List ℕ → List ℕ → List ℕ → Option Shape
made charset encoding encoded rest = Some (record { charset = charset; encoding = encoding; encoded = encoded; rest = rest })

abbrev pub from_encoded : List ℕ → List ℕ → List ℕ × List ℕ → Option Shape
from_encoded charset encoding encoded = after_sign 61 encoded.1 >>= (λ rest. made charset encoding encoded.0 rest)

abbrev pub from_encoding : List ℕ → List ℕ × List ℕ → Option Shape
from_encoding charset encoding = at_question encoding.1 >>= from_encoded charset encoding.0

abbrev pub from_charset : List ℕ × List ℕ → Option Shape
from_charset charset = at_question charset.1 >>= from_encoding charset.0

abbrev from_inner : List ℕ → Option Shape
from_inner inner = at_question inner >>= from_charset

shape_ends : (text : List ℕ) (s : Shape) → shape_at (61 ∷ text) ≡ Some s → EndsWith text s.rest
unfolding shape_at
shape_ends text s e =
    let a = bind_is (after_sign 63 text) from_inner s e in
    let b = bind_is (at_question a.0) from_charset s a.2 in
    let c = bind_is (at_question b.0.1) (from_encoding b.0.0) s b.2 in
    let d = bind_is (at_question c.0.1) (from_encoded b.0.0 c.0.0) s c.2 in
    let f = bind_is (after_sign 61 d.0.1) (λ rest. made b.0.0 c.0.0 d.0.0 rest) s d.2 in
    let is : f.0 ≡ s.rest = ap (λ (z : Shape). z.rest) (some_is (record { charset = b.0.0; encoding = c.0.0; encoded = d.0.0; rest = f.0 }) s f.2) in
    let to_rest : EndsWith d.0.1 s.rest = subst (λ r. EndsWith d.0.1 r) is (sign_ends 61 d.0.1 f.0 f.1) in
    ends_on text a.0 s.rest (sign_ends 63 text a.0 a.1)
    (ends_on a.0 b.0.1 s.rest (question_ends a.0 b.0 b.1)
    (ends_on b.0.1 c.0.1 s.rest (question_ends b.0.1 c.0 c.1)
    (ends_on c.0.1 d.0.1 s.rest (question_ends c.0.1 d.0 d.1) to_rest)))

abbrev from_good : Shape → Option (Word × List ℕ)
from_good good = content good >>= (λ held. Some (held, good.rest))

word_ends : (text : List ℕ) (w : Word × List ℕ) → word_at (61 ∷ text) ≡ Some w → EndsWith text w.1
unfolding word_at
word_ends text w e =
    let a = bind_is (shape_at (61 ∷ text)) (λ shape. if_good (61 ∷ text) shape >>= from_good) w e in
    let b = bind_is (if_good (61 ∷ text) a.0) from_good w a.2 in
    let good : a.0 ≡ b.0 = (cond_is (is_good (61 ∷ text) a.0) a.0 b.0 b.1).1 in
    let c = bind_is (content b.0) (λ held. Some (held, b.0.rest)) w b.2 in
    let is : b.0.rest ≡ w.1 = ap (λ (p : Word × List ℕ). p.1) (some_is (c.0, b.0.rest) w c.2) in
    subst (λ r. EndsWith text r) (ap (λ (z : Shape). z.rest) good ∙ is) (shape_ends text a.0 a.1)

-- so it is the text without the bytes that the word takes
pub word_rest : (text : List ℕ) (w : Word × List ℕ) → word_at (61 ∷ text) ≡ Some w → drop (length text - length w.1) text ≡ w.1
word_rest text w e =
    let f = word_ends text w e in
    let size : length text ≡ length f.0 + length w.1 = ap length f.1 ∙ length-append f.0 w.1 in
    ap (drop (length text - length w.1)) f.1 ∙ drop_at f.0 w.1 (length text - length w.1) (omega (arith, size))

-- a word begins with an equals sign
pub no_word : (b : ℕ) (bs : List ℕ) → eqb b 61 ≡ false → word_at (b ∷ bs) ≡ None
unfolding word_at shape_at
no_word b bs h = rw h refl
