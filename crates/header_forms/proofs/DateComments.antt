-- A comment between two words of a date changes nothing.
use Rattle.std.proofs.Common.{◌≡◌, ℕ, true, false, ◌||◌, cond, eqb, List, [], ◌∷◌, ◌++◌, Option, Some, None, option_map, refl, sym, ap, subst, ◌∙◌}
use Rattle.std.specs.Char.{is_ascii_whitespace}
use Rattle.std.proofs.lemmas.Option.{none-some}
use Rattle.std.proofs.lemmas.Bool.{false≢true}
use Rattle.mime_words.specs.Words.{◌>>=◌}
use Rattle.mail_text.specs.declared.comment.State.{State}
use Rattle.mail_text.specs.declared.comment.State.TheVariants.{Outside, Inside, Escaped}
use Rattle.mail_text.specs.Comments.{next, after_text, gap_from}
use Rattle.header_forms.specs.Dates.{Read, all_words, parted, with_byte, read_from, words_of, without_weekday, date_time_of_words, date_time_in, date_time_text, unix_seconds, if_in_range, date_text, utc_of}
use Rattle.header_forms.specs.DateWords.{is_gap, AreComments}
use Rattle.header_forms.proofs.Gaps.{words_at, parts, same_read}

some_is : {A : Type 0} (a b : A) → Some a ≡ Some b → a ≡ b
some_is a b e = cc

some_byte : (b : ℕ) (bs : List ℕ) → Some (b ∷ bs) ≡ Some [] → ⊥
some_byte b bs e = cc

gap_byte : (b : ℕ) → (eqb b 40 || false) ≡ true → is_gap b ≡ true
gap_byte b e = elim (eqb b 40) as (λ v. (v || false) ≡ true → (v || is_ascii_whitespace b) ≡ true) [ true ↦ λ h. refl | false ↦ λ h. absurd (false≢true h) ] e

-- comments before some words
comments_read : (text back : List ℕ) (state : State) → gap_from (λ _. false) text state ≡ Some [] → words_at (text ++ back) state ≡ words_at back Outside
comments_read [] back Outside e = refl
comments_read [] back (Inside depth) e = absurd (none-some [] e)
comments_read [] back (Escaped depth) e = absurd (none-some [] e)
comments_read (b ∷ bs) back Outside e =
    elim (eqb b 40 || false) as (λ v. (eqb b 40 || false) ≡ v → cond v (gap_from (λ _. false) bs (next Outside b)) (Some (b ∷ bs)) ≡ Some []
    → words_at (b ∷ (bs ++ back)) Outside ≡ words_at back Outside) [
      | true ↦ λ is f. parts b (read_from (bs ++ back) (next Outside b)) (gap_byte b is) ∙ comments_read bs back (next Outside b) f
      | false ↦ λ is f. absurd (some_byte b bs f)
    ] refl e
comments_read (b ∷ bs) back (Inside depth) e =
    same_read (read_from (bs ++ back) (next (Inside depth) b)) ∙ comments_read bs back (next (Inside depth) b) e
comments_read (b ∷ bs) back (Escaped depth) e = same_read (read_from (bs ++ back) (Inside depth)) ∙ comments_read bs back (Inside depth) e

-- what is read before white space is known by the words after it
part_same : (x y : Option Read) → option_map all_words x ≡ option_map all_words y → option_map parted x ≡ option_map parted y
part_same None None e = refl
part_same None (Some s) e = absurd (none-some (all_words s) e)
part_same (Some r) None e = absurd (none-some (all_words r) (sym e))
part_same (Some r) (Some s) e = ap (λ w. Some (record { front = []; later = w })) (some_is (all_words r) (all_words s) e)

blank_same : (x y : Option Read) → option_map all_words x ≡ option_map all_words y → option_map (with_byte Outside 32) x ≡ option_map (with_byte Outside 32) y
blank_same x y e = part_same x y e

front_same : (front x y : List ℕ) (state : State) → after_text state front ≡ Outside → read_from x Outside ≡ read_from y Outside
    → read_from (front ++ x) state ≡ read_from (front ++ y) state
front_same [] x y state out e = subst (λ s. read_from x s ≡ read_from y s) (sym out) e
front_same (b ∷ bs) x y state out e = ap (option_map (with_byte state b)) (front_same bs x y (next state b) out e)

words_same : (front comments back : List ℕ) → after_text Outside front ≡ Outside → AreComments comments
    → words_of (front ++ 32 ∷ (comments ++ back)) ≡ words_of (front ++ 32 ∷ back)
words_same front comments back out are =
    ap (option_map all_words) (front_same front (32 ∷ (comments ++ back)) (32 ∷ back) Outside out
    (blank_same (read_from (comments ++ back) Outside) (read_from back Outside) (comments_read comments back Outside are)))

date_time_same : (front comments back : List ℕ) → after_text Outside front ≡ Outside → AreComments comments
    → date_time_in (front ++ 32 ∷ (comments ++ back)) ≡ date_time_in (front ++ 32 ∷ back)
unfolding date_time_in
date_time_same front comments back out are = ap (λ w. w >>= (λ words. without_weekday words >>= date_time_of_words)) (words_same front comments back out are)

pub date_same : (front comments back : List ℕ) → after_text Outside front ≡ Outside → AreComments comments
    → date_text (front ++ 32 ∷ (comments ++ back)) ≡ date_text (front ++ 32 ∷ back)
date_same front comments back out are = ap (option_map date_time_text) (date_time_same front comments back out are)

pub utc_same : (front comments back : List ℕ) → after_text Outside front ≡ Outside → AreComments comments
    → utc_of (front ++ 32 ∷ (comments ++ back)) ≡ utc_of (front ++ 32 ∷ back)
utc_same front comments back out are = ap (λ m. m >>= (λ x. if_in_range (unix_seconds x))) (date_time_same front comments back out are)
