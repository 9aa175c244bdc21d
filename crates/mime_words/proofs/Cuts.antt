-- The cut of a text, a word at a time.
use Rattle.std.proofs.Common.{◌≡◌, ◌≢◌, ℕ, zero, suc, ◌-◌, ◌<◌, Bool, true, false, ◌&&◌, eqb, cond, List, [], ◌∷◌, ◌++◌, length, get_or, drop, Option, Some, None, refl, sym, ap, subst, ◌∙◌, append_assoc, arith}
use Rattle.std.specs.Char.{is_ascii_whitespace}
use Rattle.std.proofs.lemmas.Bool.{ne_eqb, eqb-true, false≢true}
use Rattle.std.proofs.lemmas.List.{append-nil}
use Rattle.mime_words.specs.declared.charset.Charset.{Charset}
use Rattle.mime_words.specs.declared.charset.Charset.TheVariants.{Utf8, Ascii, Latin1}
use Rattle.mime_words.specs.Charsets.{same_charset}
use Rattle.mime_words.specs.Words.{Word, shape_at, word_at, Cut, plain, word, onto, cut_at, cut_after, cut, is_white, are_one, both, join_first, joined, meaning, gap, said, text_said, decoded_words}
use Rattle.mime_words.proofs.Shapes.{no_word, word_rest}

-- no equals sign is in a text
abbrev pub HasNoSign : List ℕ → Type 0
HasNoSign text = (k : ℕ) → k < length text → get_or text k 0 ≢ 61

-- with some bytes before it
abbrev pub onto_all : List ℕ → Cut → Cut
onto_all [] c = c
onto_all (b ∷ bs) c = onto b (onto_all bs c)

onto_all-plain : (front text : List ℕ) → onto_all front (plain text) ≡ plain (front ++ text)
onto_all-plain [] text = refl
onto_all-plain (b ∷ bs) text = ap (onto b) (onto_all-plain bs text)

onto_all-word : (front text : List ℕ) (w : Word) (later : Cut) → onto_all front (word text w later) ≡ word (front ++ text) w later
onto_all-word [] text w later = refl
onto_all-word (b ∷ bs) text w later = ap (onto b) (onto_all-word bs text w later)

cut_front : (front rest : List ℕ) → HasNoSign front → cut (front ++ rest) ≡ onto_all front (cut rest)
cut_front [] rest none = refl
cut_front (b ∷ bs) rest none =
    ap (λ w. cut_at b (bs ++ rest) w (cut_after (bs ++ rest))) (no_word b (bs ++ rest) (ne_eqb b 61 (none 0 (omega arith))))
    ∙ ap (onto b) (cut_front bs rest (λ k low. none (suc k) (omega arith)))

cut_passed : (text : List ℕ) (n : ℕ) → cut_after text n ≡ cut (drop n text)
cut_passed [] zero = refl
cut_passed [] (suc n) = refl
cut_passed (b ∷ bs) zero = refl
cut_passed (b ∷ bs) (suc n) = cut_passed bs n

cut_sign : (inner : List ℕ) → word_at (61 ∷ inner) ≡ None → cut (61 ∷ inner) ≡ onto 61 (cut inner)
cut_sign inner none = ap (λ w. cut_at 61 inner w (cut_after inner)) none

cut_word : (inner : List ℕ) (w : Word) (rest : List ℕ) → word_at (61 ∷ inner) ≡ Some (w, rest) → cut (61 ∷ inner) ≡ word [] w (cut rest)
cut_word inner w rest is =
    ap (λ w. cut_at 61 inner w (cut_after inner)) is
    ∙ ap (word [] w) (cut_passed inner (length inner - length rest) ∙ ap cut (word_rest inner (w, rest) is))

-- a text before a word
pub word_cut : (front inner : List ℕ) (w : Word) (rest : List ℕ) → HasNoSign front → word_at (61 ∷ inner) ≡ Some (w, rest)
    → cut (front ++ 61 ∷ inner) ≡ word front w (cut rest)
word_cut front inner w rest none is =
    cut_front front (61 ∷ inner) none ∙ ap (onto_all front) (cut_word inner w rest is) ∙ onto_all-word front [] w (cut rest)
    ∙ ap (λ t. word t w (cut rest)) (append-nil front)

-- a text before an equals sign that begins no word
sign_cut : (front inner : List ℕ) → HasNoSign front → word_at (61 ∷ inner) ≡ None → cut (front ++ 61 ∷ inner) ≡ onto_all front (onto 61 (cut inner))
sign_cut front inner none is = cut_front front (61 ∷ inner) none ∙ ap (onto_all front) (cut_sign inner is)

-- a text with no word
pub plain_cut : (text : List ℕ) → HasNoSign text → cut text ≡ plain text
plain_cut text none = ap cut (sym (append-nil text)) ∙ cut_front text [] none ∙ onto_all-plain text [] ∙ ap plain (append-nil text)

-- a text with an equals sign isn't white
not_white : (front text : List ℕ) → is_white (front ++ 61 ∷ text) ≡ false
not_white [] text = refl
not_white (b ∷ bs) text = elim (is_ascii_whitespace b) as (λ v. (v && is_white (bs ++ 61 ∷ text)) ≡ false) [ true ↦ not_white bs text | false ↦ refl ]

gap_sign : (behind : Bool) (front text : List ℕ) → gap behind (front ++ 61 ∷ text) ≡ front ++ 61 ∷ text
gap_sign true front text = ap (λ v. cond v [] (front ++ 61 ∷ text)) (not_white front text)
gap_sign false front text = refl

said_sign : (behind : Bool) (front : List ℕ) (c : Cut) → said behind (onto_all front (onto 61 c)) ≡ front ++ 61 ∷ said false c
said_sign behind front (plain text) = ap (said behind) (onto_all-plain front (61 ∷ text))
said_sign behind front (word text w later) =
    ap (said behind) (onto_all-word front (61 ∷ text) w later)
    ∙ ap (λ t. t ++ (meaning w ++ said true later)) (gap_sign behind front text)
    ∙ append_assoc front (61 ∷ text) (meaning w ++ said true later)

-- encoded-words are joined for every text before the first
join_onto : (b : ℕ) (text : List ℕ) (w : Word) (c : Cut) → join_first (b ∷ text) w c ≡ onto b (join_first text w c)
join_onto b text w (plain t) = refl
join_onto b text w (word between n later) =
    elim (are_one w between n) as (λ v. cond v (word (b ∷ text) (both w n) later) (word (b ∷ text) w (word between n later))
    ≡ onto b (cond v (word text (both w n) later) (word text w (word between n later)))) [ true ↦ refl | false ↦ refl ]

joined_onto : (b : ℕ) (c : Cut) → joined (onto b c) ≡ onto b (joined c)
joined_onto b (plain text) = refl
joined_onto b (word text w later) = join_onto b text w (joined later)

joined_onto_all : (front : List ℕ) (c : Cut) → joined (onto_all front c) ≡ onto_all front (joined c)
joined_onto_all [] c = refl
joined_onto_all (b ∷ bs) c = joined_onto b (onto_all bs c) ∙ ap (onto b) (joined_onto_all bs c)

-- what is said from a word on
abbrev pub from_word : Word → Cut → List ℕ
from_word w c = said false (join_first [] w c)

said_first : (behind : Bool) (before : List ℕ) (w : Word) (c : Cut) → said behind (join_first before w c) ≡ gap behind before ++ from_word w c
said_first behind before w (plain t) = refl
said_first behind before w (word between n later) =
    elim (are_one w between n) as (λ v. said behind (cond v (word before (both w n) later) (word before w (word between n later)))
    ≡ gap behind before ++ said false (cond v (word [] (both w n) later) (word [] w (word between n later)))) [ true ↦ refl | false ↦ refl ]

-- an encoded-word after a text that is not after an encoded-word
pub after_text : (front : List ℕ) (w : Word) (c : Cut) → said false (joined (word front w c)) ≡ front ++ said false (joined (word [] w c))
after_text front w c = said_first false front w (joined c)

same_is : (a b : Charset) → same_charset a b ≡ true → a ≡ b
same_is Utf8 Utf8 e = refl
same_is Utf8 Ascii e = absurd (false≢true e)
same_is Utf8 Latin1 e = absurd (false≢true e)
same_is Ascii Utf8 e = absurd (false≢true e)
same_is Ascii Ascii e = refl
same_is Ascii Latin1 e = absurd (false≢true e)
same_is Latin1 Utf8 e = absurd (false≢true e)
same_is Latin1 Ascii e = absurd (false≢true e)
same_is Latin1 Latin1 e = refl

and_right : (a b : Bool) → (a && b) ≡ true → b ≡ true
and_right true b e = e
and_right false b e = absurd (false≢true e)

-- two words that are read as one
abbrev joins : Word → List ℕ → Word → Cut → Type 0
joins first between next c = join_first [] first (join_first between next c) ≡ join_first [] (both first next) c

join_one : (first : Word) (between : List ℕ) (next : Word) (c : Cut) → are_one first between next ≡ true → joins first between next c
join_one first between next (plain t) e = rw e refl
join_one first between next (word gap' n later) e =
    let same : first.charset ≡ next.charset = same_is first.charset next.charset (and_right (is_white between) (same_charset first.charset next.charset) e) in
    let test : are_one (both first next) gap' n ≡ are_one next gap' n = ap (λ k. is_white gap' && same_charset k n.charset) same in
    let goes : (v : Bool) → are_one next gap' n ≡ v → joins first between next (word gap' n later) = λ v. elim v as (λ v. are_one next gap' n ≡ v → joins first between next (word gap' n later)) [
      | true ↦ λ is. rw (test, is, e) (ap (λ t. word [] (record { charset = first.charset; bytes = t }) later) (sym (append_assoc first.bytes next.bytes n.bytes)))
      | false ↦ λ is. rw (test, is, e) refl
    ] in
    goes (are_one next gap' n) refl

pub one_said : (first : Word) (between : List ℕ) (next : Word) (c : Cut) → are_one first between next ≡ true
    → said false (joined (word [] first (word between next c))) ≡ said false (joined (word [] (both first next) c))
one_said first between next c e = ap (said false) (join_one first between next (joined c) e)

-- two words that aren't
join_two : (first : Word) (between : List ℕ) (next : Word) (c : Cut) → are_one first between next ≡ false
    → join_first [] first (join_first between next c) ≡ word [] first (join_first between next c)
join_two first between next (plain t) e = rw e refl
join_two first between next (word gap' n later) e =
    elim (are_one next gap' n) as (λ v. join_first [] first (cond v (word between (both next n) later) (word between next (word gap' n later)))
    ≡ word [] first (cond v (word between (both next n) later) (word between next (word gap' n later)))) [ true ↦ rw e refl | false ↦ rw e refl ]

pub two_said : (first : Word) (between : List ℕ) (next : Word) (c : Cut) → are_one first between next ≡ false
    → said false (joined (word [] first (word between next c))) ≡ meaning first ++ (gap true between ++ said false (joined (word [] next c)))
two_said first between next c e = ap (said false) (join_two first between next (joined c) e) ∙ ap (λ t. meaning first ++ t) (said_first true between next (joined c))

-- a text before an equals sign that begins no encoded-word, after an encoded-word or not
pub sign_said : (front inner : List ℕ) → HasNoSign front → word_at (61 ∷ inner) ≡ None
    → said false (joined (cut (front ++ 61 ∷ inner))) ≡ front ++ 61 ∷ said false (joined (cut inner))
sign_said front inner none is =
    ap (λ c. said false (joined c)) (sign_cut front inner none is) ∙ ap (said false) (joined_onto_all front (onto 61 (cut inner)))
    ∙ ap (λ c. said false (onto_all front c)) (joined_onto 61 (cut inner)) ∙ said_sign false front (joined (cut inner))

stays : (w : Word) (front : List ℕ) (c : Cut) → join_first [] w (onto_all front (onto 61 c)) ≡ word [] w (onto_all front (onto 61 c))
stays w front (plain text) = rw onto_all-plain refl
stays w front (word text n later) = rw onto_all-word (rw not_white refl)

pub sign_after : (w : Word) (front inner : List ℕ) → HasNoSign front → word_at (61 ∷ inner) ≡ None
    → said false (joined (word [] w (cut (front ++ 61 ∷ inner)))) ≡ (meaning w ++ front) ++ 61 ∷ said false (joined (cut inner))
sign_after w front inner none is =
    ap (from_word w) (ap joined (sign_cut front inner none is) ∙ joined_onto_all front (onto 61 (cut inner)) ∙ ap (onto_all front) (joined_onto 61 (cut inner)))
    ∙ ap (said false) (stays w front (joined (cut inner)))
    ∙ ap (λ t. meaning w ++ t) (said_sign true front (joined (cut inner)))
    ∙ sym (append_assoc (meaning w) front (61 ∷ said false (joined (cut inner))))

-- what was written and what is left, where the first part of what was left is written
pub glued : (written before first second later total : List ℕ) → written ≡ (before ++ first) ++ second → total ≡ first ++ (second ++ later) → written ++ later ≡ before ++ total
glued written before first second later total e f =
    ap (λ t. t ++ later) e ∙ append_assoc (before ++ first) second later ∙ append_assoc before first (second ++ later) ∙ ap (λ t. before ++ t) (sym f)

abbrev pub said_maybe : Option Word → Cut → List ℕ
said_maybe None c = said false (joined c)
said_maybe (Some w) c = said false (joined (word [] w c))

abbrev pub meaning_maybe : Option Word → List ℕ
meaning_maybe None = []
meaning_maybe (Some w) = meaning w

-- so where a word may be before it that isn't written yet
pub sign_all : (o : Option Word) (front inner : List ℕ) → HasNoSign front → word_at (61 ∷ inner) ≡ None
    → said_maybe o (cut (front ++ 61 ∷ inner)) ≡ (meaning_maybe o ++ front) ++ 61 ∷ said false (joined (cut inner))
sign_all None front inner none is = sign_said front inner none is
sign_all (Some w) front inner none is = sign_after w front inner none is

pub plain_all : (o : Option Word) (text : List ℕ) → HasNoSign text → said_maybe o (cut text) ≡ meaning_maybe o ++ text
plain_all None text none = ap (λ c. said false (joined c)) (plain_cut text none)
plain_all (Some w) text none = ap (λ c. said false (joined (word [] w c))) (plain_cut text none)

-- a text without =?
abbrev pub HasNoStart : List ℕ → Type 0
HasNoStart text = (front rest : List ℕ) → text ≢ front ++ 61 ∷ 63 ∷ rest

starts_none : (bs : List ℕ) → HasNoStart (61 ∷ bs) → word_at (61 ∷ bs) ≡ None
unfolding word_at shape_at
starts_none [] none = refl
starts_none (c ∷ cs) none = rw (ne_eqb c 63 (λ e. none [] cs (ap (λ x. 61 ∷ x ∷ cs) e))) refl

begins_none : (b : ℕ) (bs : List ℕ) → HasNoStart (b ∷ bs) → word_at (b ∷ bs) ≡ None
begins_none b bs none = elim (eqb b 61) as (λ v. eqb b 61 ≡ v → word_at (b ∷ bs) ≡ None) [
  | true ↦ λ e. let is : b ≡ 61 = eqb-true b 61 e in
      ap (λ x. word_at (x ∷ bs)) is ∙ starts_none bs (subst (λ x. HasNoStart (x ∷ bs)) is none)
  | false ↦ λ e. no_word b bs e
] refl

cut_none : (text : List ℕ) → HasNoStart text → cut text ≡ plain text
cut_none [] none = refl
cut_none (b ∷ bs) none =
    ap (λ w. cut_at b bs w (cut_after bs)) (begins_none b bs none)
    ∙ ap (onto b) (cut_none bs (λ front rest e. none (b ∷ front) rest (ap (λ t. b ∷ t) e)))

pub text_stays : (text : List ℕ) → HasNoStart text → decoded_words text ≡ text
text_stays text none = ap text_said (cut_none text none)

same_self : (k : Charset) → same_charset k k ≡ true
same_self Utf8 = refl
same_self Ascii = refl
same_self Latin1 = refl

and_true : (a b : Bool) → a ≡ true → b ≡ true → (a && b) ≡ true
and_true a b e f = rw e f

pub split_said : (k : Charset) (a b before between : List ℕ) (later : Cut) → is_white between ≡ true
    → text_said (word before (record { charset = k; bytes = a }) (word between (record { charset = k; bytes = b }) later))
    ≡ text_said (word before (record { charset = k; bytes = a ++ b }) later)
split_said k a b before between later white =
    let first : Word = record { charset = k; bytes = a } in
    let next : Word = record { charset = k; bytes = b } in
    after_text before first (word between next later)
    ∙ ap (λ t. before ++ t) (one_said first between next later (and_true (is_white between) (same_charset k k) white (same_self k)))
    ∙ sym (after_text before (both first next) later)
