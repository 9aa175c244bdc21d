-- A word at the start of a text, and the text after it.
use Rattle.std.proofs.Common.{◌≡◌, ℕ, suc, ◌+◌, true, false, ◌&&◌, ◌||◌, not, cond, eqb, List, [], ◌∷◌, ◌++◌, take, drop, Option, Some, None, option_map, refl, sym, ap, subst, ◌∙◌, rules, arith}
use Rattle.std.specs.Char.{is_ascii_whitespace}
use Rattle.std.specs.List.{prefix_len}
use Rattle.std.proofs.lemmas.List.{append-nil}
use Rattle.mail_text.specs.declared.comment.State.TheVariants.{Outside, Inside}
use Rattle.mail_text.specs.Comments.{next}
use Rattle.header_forms.specs.Dates.{Read, parted, at_comma, read_from, with_byte, all_words, word_before, onto, words_of}
use Rattle.header_forms.specs.DateWords.{is_gap, is_in_word, starts_word}

-- with some bytes before it
abbrev onto_all : List ℕ → Read → Read
onto_all bs r = record { front = bs ++ r.front; later = r.later }

nothing_onto : (x : Option Read) → x ≡ option_map (onto_all []) x
nothing_onto None = refl
nothing_onto (Some r) = refl

onto_joined : (b : ℕ) (bs : List ℕ) (x : Option Read) → option_map (onto b) (option_map (onto_all bs) x) ≡ option_map (onto_all (b ∷ bs)) x
onto_joined b bs None = refl
onto_joined b bs (Some r) = refl

next_is : (b : ℕ) → is_in_word b ≡ true → next Outside b ≡ Outside
next_is b is = elim (eqb b 40) as (λ v. (not (v || is_ascii_whitespace b) && not (eqb b 44)) ≡ true → cond v (Inside 1) Outside ≡ Outside) [ true ↦ λ h. absurd (search rules) | false ↦ λ h. refl ] is

byte_is : (b : ℕ) (r : Read) → is_in_word b ≡ true → with_byte Outside b r ≡ onto b r
byte_is b r is =
    elim (is_gap b) as (λ v. (not v && not (eqb b 44)) ≡ true → cond v (parted r) (cond (eqb b 44) (at_comma r) (onto b r)) ≡ onto b r) [
      | true ↦ λ h. absurd (search rules)
      | false ↦ λ h. elim (eqb b 44) as (λ w. not w ≡ true → cond w (at_comma r) (onto b r) ≡ onto b r) [ true ↦ λ k. absurd (search rules) | false ↦ λ k. refl ] h
    ] is

each_onto : (b : ℕ) → is_in_word b ≡ true → (x : Option Read) → option_map (with_byte Outside b) x ≡ option_map (onto b) x
each_onto b is None = refl
each_onto b is (Some r) = ap (λ s. Some s) (byte_is b r is)

-- a byte that continues a word
byte_onto : (b : ℕ) (bs : List ℕ) → is_in_word b ≡ true → read_from (b ∷ bs) Outside ≡ option_map (onto b) (read_from bs Outside)
byte_onto b bs is = ap (λ s. option_map (with_byte Outside b) (read_from bs s)) (next_is b is) ∙ each_onto b is (read_from bs Outside)

one_more : (n : ℕ) → suc n ≡ 1 + n
one_more n = omega arith

abbrev len : List ℕ → ℕ
len text = prefix_len is_in_word text

-- the word's bytes are before what is read after it
split : (text : List ℕ) → read_from text Outside ≡ option_map (onto_all (take (len text) text)) (read_from (drop (len text) text) Outside)
split [] = refl
split (b ∷ bs) =
    elim (is_in_word b) as (λ v. is_in_word b ≡ v → read_from (b ∷ bs) Outside ≡ option_map (onto_all (take (cond v (1 + len bs) 0) (b ∷ bs))) (read_from (drop (cond v (1 + len bs) 0) (b ∷ bs)) Outside)) [
      | true ↦ λ h. subst (λ n. read_from (b ∷ bs) Outside ≡ option_map (onto_all (take n (b ∷ bs))) (read_from (drop n (b ∷ bs)) Outside)) (one_more (len bs)) (byte_onto b bs h ∙ ap (option_map (onto b)) (split bs) ∙ onto_joined b (take (len bs) bs) (read_from (drop (len bs) bs) Outside))
      | false ↦ λ h. nothing_onto (read_from (b ∷ bs) Outside)
    ] refl

-- no word continues at the start of what is read
abbrev HasNoFront : Option Read → Type 0
HasNoFront None = Unit {0}
HasNoFront (Some r) = r.front ≡ []

byte_parts : (b : ℕ) (r : Read) → is_in_word b ≡ false → (with_byte Outside b r).front ≡ []
byte_parts b r is =
    elim (is_gap b) as (λ v. (not v && not (eqb b 44)) ≡ false → (cond v (parted r) (cond (eqb b 44) (at_comma r) (onto b r))).front ≡ []) [
      | true ↦ λ h. refl
      | false ↦ λ h. elim (eqb b 44) as (λ w. not w ≡ false → (cond w (at_comma r) (onto b r)).front ≡ []) [ true ↦ λ k. refl | false ↦ λ k. absurd (search rules) ] h
    ] is

parts : (b : ℕ) → is_in_word b ≡ false → (x : Option Read) → HasNoFront (option_map (with_byte Outside b) x)
parts b is None = tt
parts b is (Some r) = byte_parts b r is

behind : (text : List ℕ) → HasNoFront (read_from (drop (len text) text) Outside)
behind [] = refl
behind (b ∷ bs) =
    elim (is_in_word b) as (λ v. is_in_word b ≡ v → HasNoFront (read_from (drop (cond v (1 + len bs) 0) (b ∷ bs)) Outside)) [
      | true ↦ λ h. subst (λ n. HasNoFront (read_from (drop n (b ∷ bs)) Outside)) (one_more (len bs)) (behind bs)
      | false ↦ λ h. parts b h (read_from bs (next Outside b))
    ] refl

joined : (b : ℕ) (w : List ℕ) (x : Option Read) → HasNoFront x
    → option_map all_words (option_map (onto_all (b ∷ w)) x) ≡ option_map (λ later. (b ∷ w) ∷ later) (option_map all_words x)
joined b w None none = refl
joined b w (Some r) none =
    ap (λ f. Some ((b ∷ (w ++ f)) ∷ r.later)) none
    ∙ ap (λ t. Some ((b ∷ t) ∷ r.later)) (append-nil w)
    ∙ ap (λ f. Some ((b ∷ w) ∷ word_before f r.later)) (sym none)

-- the first word is the text before the first byte that parts
pub word_split : (text : List ℕ) → starts_word text ≡ true
    → words_of text ≡ option_map (λ later. take (prefix_len is_in_word text) text ∷ later) (words_of (drop (prefix_len is_in_word text) text))
word_split [] is = absurd (search rules)
word_split (b ∷ bs) is =
    elim (is_in_word b) as (λ v. is_in_word b ≡ v → v ≡ true → words_of (b ∷ bs) ≡ option_map (λ later. take (cond v (1 + len bs) 0) (b ∷ bs) ∷ later) (words_of (drop (cond v (1 + len bs) 0) (b ∷ bs)))) [
      | true ↦ λ h k. subst (λ n. words_of (b ∷ bs) ≡ option_map (λ later. take n (b ∷ bs) ∷ later) (words_of (drop n (b ∷ bs)))) (one_more (len bs)) (
          ap (option_map all_words) (byte_onto b bs h ∙ ap (option_map (onto b)) (split bs) ∙ onto_joined b (take (len bs) bs) (read_from (drop (len bs) bs) Outside))
          ∙ joined b (take (len bs) bs) (read_from (drop (len bs) bs) Outside) (behind bs))
      | false ↦ λ h k. absurd (search rules)
    ] refl is
