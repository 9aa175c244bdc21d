-- What the words of a date say, taken one by one.
use Rattle.std.proofs.Common.{◌≡◌, ℕ, true, false, cond, List, [], ◌∷◌, Option, Some, None, option_map, refl, ap, ◌∙◌, rules}
use Rattle.mime_words.specs.Words.{◌>>=◌}
use Rattle.header_forms.specs.Dates.{is_comma, name_number, weekdays, after_weekday, without_weekday, date_time_by, date_time_of_words, date_time_in, words_of}
use Rattle.header_forms.specs.declared.date_time.ZonedDateTime.{ZonedDateTime}
use Rattle.header_forms.specs.DateWords.{has_no_word, is_end}

-- words, if each comment closes
abbrev Words : Type 0
Words = Option (List (List ℕ))

abbrev with_word : List ℕ → Words → Words
with_word word x = option_map (λ later. word ∷ later) x

went : (say : List (List ℕ) → Option ZonedDateTime) (word : List ℕ) (x rest : Words) → x ≡ with_word word rest → (x >>= say) ≡ (rest >>= (λ later. say (word ∷ later)))
went say word x None e = ap (λ y. y >>= say) e
went say word x (Some later) e = ap (λ y. y >>= say) e

no_more : (d m y t z : List ℕ) (x : Words) → is_end x ≡ false → (x >>= (λ later. date_time_of_words (d ∷ m ∷ y ∷ t ∷ z ∷ later))) ≡ None
no_more d m y t z None is = refl
no_more d m y t z (Some []) is = absurd (search rules)
no_more d m y t z (Some (w ∷ ws)) is = refl

all_read : (d m y t z : List ℕ) (x : Words) → is_end x ≡ true → (x >>= (λ later. date_time_of_words (d ∷ m ∷ y ∷ t ∷ z ∷ later))) ≡ date_time_by d m y t z
all_read d m y t z None is = absurd (search rules)
all_read d m y t z (Some []) is = refl
all_read d m y t z (Some (w ∷ ws)) is = absurd (search rules)

three_words : (d m y t z : List ℕ) (x0 x1 x2 x3 : Words) → x0 ≡ with_word y x1 → x1 ≡ with_word t x2 → x2 ≡ with_word z x3
    → (x0 >>= (λ later. date_time_of_words (d ∷ m ∷ later))) ≡ (x3 >>= (λ later. date_time_of_words (d ∷ m ∷ y ∷ t ∷ z ∷ later)))
three_words d m y t z x0 x1 x2 x3 e0 e1 e2 =
    went (λ later. date_time_of_words (d ∷ m ∷ later)) y x0 x1 e0
    ∙ went (λ later. date_time_of_words (d ∷ m ∷ y ∷ later)) t x1 x2 e1
    ∙ went (λ later. date_time_of_words (d ∷ m ∷ y ∷ t ∷ later)) z x2 x3 e2

-- words follow the zone, or a comment doesn't close
pub more_words : (d m y t z : List ℕ) (x0 x1 x2 x3 : Words) → x0 ≡ with_word y x1 → x1 ≡ with_word t x2 → x2 ≡ with_word z x3 → is_end x3 ≡ false
    → (x0 >>= (λ later. date_time_of_words (d ∷ m ∷ later))) ≡ None
more_words d m y t z x0 x1 x2 x3 e0 e1 e2 is = three_words d m y t z x0 x1 x2 x3 e0 e1 e2 ∙ no_more d m y t z x3 is

-- the zone is the last word
pub last_words : (d m y t z : List ℕ) (x0 x1 x2 x3 : Words) → x0 ≡ with_word y x1 → x1 ≡ with_word t x2 → x2 ≡ with_word z x3 → is_end x3 ≡ true
    → (x0 >>= (λ later. date_time_of_words (d ∷ m ∷ later))) ≡ date_time_by d m y t z
last_words d m y t z x0 x1 x2 x3 e0 e1 e2 is = three_words d m y t z x0 x1 x2 x3 e0 e1 e2 ∙ all_read d m y t z x3 is

-- what words say, with a weekday perhaps
abbrev whole : List (List ℕ) → Option ZonedDateTime
whole words = without_weekday words >>= date_time_of_words

whole_is : (text : List ℕ) → date_time_in text ≡ (words_of text >>= whole)
unfolding date_time_in
whole_is text = refl

without_words : (x : Words) → has_no_word x ≡ true → (x >>= whole) ≡ None
without_words None is = refl
without_words (Some []) is = refl
without_words (Some (w ∷ ws)) is = absurd (search rules)

one_word : (a : List ℕ) (x : Words) → has_no_word x ≡ true → (x >>= (λ later. whole (a ∷ later))) ≡ None
one_word a None is = refl
one_word a (Some []) is = refl
one_word a (Some (w ∷ ws)) is = absurd (search rules)

not_comma : (a b : List ℕ) (x : Words) → is_comma b ≡ false → (x >>= (λ later. whole (a ∷ b ∷ later))) ≡ (x >>= (λ later. date_time_of_words (a ∷ b ∷ later)))
not_comma a b None is = refl
not_comma a b (Some later) is = ap (λ v. cond v (after_weekday (name_number weekdays 1 a) later) (Some (a ∷ b ∷ later)) >>= date_time_of_words) is

comma : (a b : List ℕ) (day : Option ℕ) (x : Words) → is_comma b ≡ true → name_number weekdays 1 a ≡ day
    → (x >>= (λ later. whole (a ∷ b ∷ later))) ≡ (x >>= (λ later. after_weekday day later >>= date_time_of_words))
comma a b day None is named = refl
comma a b day (Some later) is named =
    ap (λ v. cond v (after_weekday (name_number weekdays 1 a) later) (Some (a ∷ b ∷ later)) >>= date_time_of_words) is
    ∙ ap (λ p. after_weekday p later >>= date_time_of_words) named

no_weekday : (x : Words) → (x >>= (λ later. after_weekday None later >>= date_time_of_words)) ≡ None
no_weekday None = refl
no_weekday (Some later) = refl

two_words : (a b text : List ℕ) (x1 x2 : Words) → words_of text ≡ with_word a x1 → x1 ≡ with_word b x2 → date_time_in text ≡ (x2 >>= (λ later. whole (a ∷ b ∷ later)))
two_words a b text x1 x2 e0 e1 = whole_is text ∙ went whole a (words_of text) x1 e0 ∙ went (λ later. whole (a ∷ later)) b x1 x2 e1

pub nothing_said : (text : List ℕ) → has_no_word (words_of text) ≡ true → date_time_in text ≡ None
nothing_said text is = whole_is text ∙ without_words (words_of text) is

pub word_alone : (a text : List ℕ) (x : Words) → words_of text ≡ with_word a x → has_no_word x ≡ true → date_time_in text ≡ None
word_alone a text x e is = whole_is text ∙ went whole a (words_of text) x e ∙ one_word a x is

pub day_first : (a b text : List ℕ) (x1 x2 : Words) → words_of text ≡ with_word a x1 → x1 ≡ with_word b x2 → is_comma b ≡ false
    → date_time_in text ≡ (x2 >>= (λ later. date_time_of_words (a ∷ b ∷ later)))
day_first a b text x1 x2 e0 e1 is = two_words a b text x1 x2 e0 e1 ∙ not_comma a b x2 is

pub other_first : (a b text : List ℕ) (x1 x2 : Words) → words_of text ≡ with_word a x1 → x1 ≡ with_word b x2 → is_comma b ≡ true → name_number weekdays 1 a ≡ None
    → date_time_in text ≡ None
other_first a b text x1 x2 e0 e1 is named = two_words a b text x1 x2 e0 e1 ∙ comma a b None x2 is named ∙ no_weekday x2

pub weekday_first : (a b text : List ℕ) (day : ℕ) (x1 x2 : Words) → words_of text ≡ with_word a x1 → x1 ≡ with_word b x2 → is_comma b ≡ true
    → name_number weekdays 1 a ≡ Some day → date_time_in text ≡ (x2 >>= date_time_of_words)
weekday_first a b text day x1 x2 e0 e1 is named = two_words a b text x1 x2 e0 e1 ∙ comma a b (Some day) x2 is named
