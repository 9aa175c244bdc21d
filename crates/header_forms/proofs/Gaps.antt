-- Words after white space and comments.
use Rattle.std.proofs.Common.{◌≡◌, ℕ, true, false, not, cond, eqb, List, [], ◌∷◌, Option, Some, None, option_map, refl, ap, ◌∙◌}
use Rattle.std.specs.Prelude.{MatchOption, IfSome}
use Rattle.std.specs.Char.{is_ascii_whitespace}
use denote.Ref.{Bor}
use Rattle.mail_text.specs.declared.comment.State.{State}
use Rattle.mail_text.specs.declared.comment.State.TheVariants.{Outside, Inside, Escaped}
use Rattle.mail_text.specs.Comments.{next, gap_from, after_gap}
use Rattle.header_forms.specs.Dates.{Read, all_words, parted, at_comma, onto, with_byte, read_from, words_of}
use Rattle.header_forms.specs.DateWords.{is_gap, begins_word}

-- the words of a text, from a byte offset on that may be in a comment
abbrev pub words_at : List ℕ → State → Option (List (List ℕ))
words_at text state = option_map all_words (read_from text state)

-- what a gap leaves has the same words, and begins with one; where a comment isn't closed there are none
abbrev Leaves : Option (List (List ℕ)) → Option (List ℕ) → Type 0
Leaves words None = words ≡ None
Leaves words (Some rest) = (words ≡ words_of rest) × (begins_word rest ≡ true)

part_nothing : (x : Option Read) → option_map all_words (option_map parted x) ≡ option_map all_words x
part_nothing None = refl
part_nothing (Some r) = refl

pub same_read : (x : Option Read) → option_map all_words (option_map (λ r. r) x) ≡ option_map all_words x
same_read None = refl
same_read (Some r) = refl

leaves_same : (words more : Option (List (List ℕ))) (o : Option (List ℕ)) → words ≡ more → Leaves more o → Leaves words o
leaves_same words more None e h = e ∙ h
leaves_same words more (Some rest) e h = (e ∙ h.0, h.1)

pub parts : (b : ℕ) (x : Option Read) → is_gap b ≡ true → option_map all_words (option_map (with_byte Outside b) x) ≡ option_map all_words x
parts b None is = refl
parts b (Some r) is = ap (λ v. Some (all_words (cond v (parted r) (cond (eqb b 44) (at_comma r) (onto b r))))) is

gap_leaves : (text : List ℕ) (state : State) → Leaves (words_at text state) (gap_from is_ascii_whitespace text state)
gap_leaves [] Outside = (refl, refl)
gap_leaves [] (Inside depth) = refl
gap_leaves [] (Escaped depth) = refl
gap_leaves (b ∷ bs) Outside =
    elim (is_gap b) as (λ v. is_gap b ≡ v → Leaves (words_at (b ∷ bs) Outside) (cond v (gap_from is_ascii_whitespace bs (next Outside b)) (Some (b ∷ bs)))) [
      | true ↦ λ is. leaves_same (words_at (b ∷ bs) Outside) (words_at bs (next Outside b)) (gap_from is_ascii_whitespace bs (next Outside b))
          (parts b (read_from bs (next Outside b)) is) (gap_leaves bs (next Outside b))
      | false ↦ λ is. (refl, ap not is)
    ] refl
gap_leaves (b ∷ bs) (Inside depth) =
    leaves_same (words_at (b ∷ bs) (Inside depth)) (words_at bs (next (Inside depth) b)) (gap_from is_ascii_whitespace bs (next (Inside depth) b))
    (same_read (read_from bs (next (Inside depth) b))) (gap_leaves bs (next (Inside depth) b))
gap_leaves (b ∷ bs) (Escaped depth) =
    leaves_same (words_at (b ∷ bs) (Escaped depth)) (words_at bs (Inside depth)) (gap_from is_ascii_whitespace bs (Inside depth))
    (same_read (read_from bs (Inside depth))) (gap_leaves bs (Inside depth))

leaves_by : (text : List ℕ) (o : Option (List ℕ)) → o ≡ after_gap is_ascii_whitespace text → Leaves (words_of text) o
leaves_by text o e = rw e (gap_leaves text Outside)

pub words_left : (text : List ℕ) (r : Option (Bor (List ℕ))) → option_map (λ (x : Bor (List ℕ)). x.now) r ≡ after_gap is_ascii_whitespace text
    → MatchOption r (words_of text ≡ None) (λ x. words_of text ≡ words_of x.now)
words_left text None e = leaves_by text None e
words_left text (Some x) e = (leaves_by text (Some x.now) e).0

pub word_left : (text : List ℕ) (r : Option (Bor (List ℕ))) → option_map (λ (x : Bor (List ℕ)). x.now) r ≡ after_gap is_ascii_whitespace text
    → IfSome r (λ x. begins_word x.now ≡ true)
word_left text None e = tt
word_left text (Some x) e = (leaves_by text (Some x.now) e).1
