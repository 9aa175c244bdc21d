-- Labels that are written are read back: identifiers, languages, locations and transfer encodings.
use Rattle.std.proofs.Common.{◌≡◌, ℕ, zero, suc, ◌+◌, ◌-◌, ◌<◌, Bool, true, false, cond, eqb, leb, ◌&&◌, not, IsTrue, List, [], ◌∷◌, ◌++◌, length, get_or, take, drop, refl, ap, ◌∙◌, length-append, arith}
use Rattle.std.specs.List.{AllByRecursion, list_all, onto_first, prefix_len, slice_split, suffix_len}
use Rattle.std.specs.Char.{is_ascii_whitespace}
use Rattle.std.proofs.lemmas.Bool.{leb-true}
use Rattle.std.proofs.lemmas.List.{take_all, take_at}
use Rattle.std.proofs.lemmas.List.Sums.{suffix_len_is}
use Rattle.std.proofs.Math.Seq.{get_or-append_seam}
use Rattle.mail_text.specs.Texts.{trimmed, trimmed_end}
use Rattle.mime_lines.proofs.Unfolds.{both_true, not_true}
use Rattle.mime_codec.specs.declared.coding.Coding.{Coding}
use Rattle.mime_codec.specs.declared.coding.Coding.TheVariants.{Plain, Quoted, Base64, Unknown}
use Rattle.mime_type.specs.Characters.{is_token}
use Rattle.mime_type.specs.Labels.{without_open, without_close, id_in, is_some_text, items, languages_in, coding_in}
use Rattle.mime_type.specs.TypeText.{IsToken}
use Rattle.mime_type.specs.HeadText.{cid_value, language_value, coding_value, is_label_character, IsLabel}
use Rattle.mime_type.proofs.WrittenValues.{is_printed, all_weaker}
use Rattle.mime_type.proofs.WrittenTypes.{by_table, token_small}

abbrev is_dark : ℕ → Bool
is_dark b = not (is_ascii_whitespace b)

record IsDark (t : List ℕ) : Type 0 where
  some : 0 < length t
  first : is_ascii_whitespace (get_or t 0 0) ≡ false
  end : is_ascii_whitespace (get_or t (length t - 1) 0) ≡ false

no_lead : (t : List ℕ) → IsDark t → prefix_len is_ascii_whitespace t ≡ 0
no_lead [] h = absurd (omega (arith, h.some))
no_lead (b ∷ bs) h = rw h.first refl

trim_all : (t : List ℕ) → IsDark t → trimmed_end t ≡ t
trim_all t h =
    let none : suffix_len is_ascii_whitespace t ≡ length t - length t =
    suffix_len_is is_ascii_whitespace t (length t) 0 (omega arith) (λ k low high. absurd (omega (arith, low, high))) (λ _. h.end) in
    let all : length t - suffix_len is_ascii_whitespace t ≡ length t = omega (arith, none) in
    ap (λ n. take n t) all ∙ take_all (length t) t (omega arith)

trim_first : (t : List ℕ) → IsDark t → trimmed (32 ∷ t) ≡ t
trim_first t h =
    let one : 1 + prefix_len is_ascii_whitespace t ≡ 1 = omega (arith, no_lead t h) in
    ap (λ n. trimmed_end (drop n (32 ∷ t))) one ∙ trim_all t h

all_at : (t : List ℕ) (k : ℕ) → list_all is_dark t ≡ true → k < length t → is_ascii_whitespace (get_or t k 0) ≡ false
all_at [] k h low = absurd (omega (arith, low))
all_at (b ∷ bs) zero h low = not_true (is_ascii_whitespace b) (both_true (is_dark b) (list_all is_dark bs) h).0
all_at (b ∷ bs) (suc k) h low = all_at bs k (both_true (is_dark b) (list_all is_dark bs) h).1 (omega arith)

dark_all : (t : List ℕ) → 0 < length t → list_all is_dark t ≡ true → IsDark t
dark_all t some h = record { some = some; first = all_at t 0 h some; end = all_at t (length t - 1) h (omega arith) }

-- ---- labels

label_small : (b : ℕ) → is_label_character b ≡ true → b < 127
label_small b h =
    let four = both_true (leb 33 b && leb b 126 && not (eqb b 60)) (not (eqb b 62)) h in
    let three = both_true (leb 33 b && leb b 126) (not (eqb b 60)) four.0 in
    omega (arith, leb-true b 126 (both_true (leb 33 b) (leb b 126) three.0).1)

pub label_printed : (b : ℕ) → is_label_character b ≡ true → is_printed b ≡ true
label_printed b h = by_table is_label_character is_printed refl b (label_small b h) h

label_dark : (b : ℕ) → is_label_character b ≡ true → is_dark b ≡ true
label_dark b h = by_table is_label_character is_dark refl b (label_small b h) h

pub location_back : (t : List ℕ) → IsLabel t → trimmed (32 ∷ t) ≡ t
location_back t h = trim_first t (dark_all t h.some (all_weaker is_label_character is_dark label_dark t h.each))

angled_dark : (t : List ℕ) → IsDark (60 ∷ (t ++ 62 ∷ []))
angled_dark t =
    let u = 60 ∷ t in
    let size : length (u ++ 62 ∷ []) - 1 ≡ length u = omega (arith, length-append u (62 ∷ [])) in
    record {
      some = omega arith;
      first = refl;
      end = ap (λ n. is_ascii_whitespace (get_or (u ++ 62 ∷ []) n 0)) size ∙ ap is_ascii_whitespace (get_or-append_seam u 62 [] 0);
    }

close_gone : (t : List ℕ) → without_close (t ++ 62 ∷ []) ≡ t
close_gone t =
    let u = t ++ 62 ∷ [] in
    let size : length u - 1 ≡ length t = omega (arith, length-append t (62 ∷ [])) in
    ap (λ n. cond (eqb (get_or u n 0) 62) (take n u) u) size
    ∙ ap (λ b. cond (eqb b 62) (take (length t) u) u) (get_or-append_seam t 62 [] 0)
    ∙ take_at t (62 ∷ []) (length t) refl

pub cid_back : (t : List ℕ) → id_in (cid_value t) ≡ t
cid_back t = ap (λ u. without_close (without_open u)) (trim_first (60 ∷ (t ++ 62 ∷ [])) (angled_dark t)) ∙ close_gone t

-- ---- languages

abbrev is_comma : ℕ → Bool
is_comma b = eqb b 44

abbrev is_no_comma : ℕ → Bool
is_no_comma b = not (is_comma b)

token_no_comma : (b : ℕ) → is_token b ≡ true → is_no_comma b ≡ true
token_no_comma b h = by_table is_token is_no_comma refl b (token_small b h) h

token_dark : (b : ℕ) → is_token b ≡ true → is_dark b ≡ true
token_dark b h = by_table is_token is_dark refl b (token_small b h) h

pub token_printed : (b : ℕ) → is_token b ≡ true → is_printed b ≡ true
token_printed b h = by_table is_token is_printed refl b (token_small b h) h

pub is_all : (t : List ℕ) → IsTrue (list_all is_token t) → list_all is_token t ≡ true
is_all t h = elim (list_all is_token t) as (λ v. IsTrue v → v ≡ true) [ true ↦ λ _. refl | false ↦ λ k. k ] h

split_comma : (t rest : List ℕ) → list_all is_no_comma t ≡ true → slice_split is_comma (t ++ 44 ∷ rest) ≡ t ∷ slice_split is_comma rest
split_comma [] rest h = refl
split_comma (b ∷ bs) rest h =
    let parts = both_true (is_no_comma b) (list_all is_no_comma bs) h in
    rw (not_true (is_comma b) parts.0) (ap (onto_first b) (split_comma bs rest parts.1))

split_none : (t : List ℕ) → list_all is_no_comma t ≡ true → slice_split is_comma t ≡ t ∷ []
split_none [] h = refl
split_none (b ∷ bs) h =
    let parts = both_true (is_no_comma b) (list_all is_no_comma bs) h in
    rw (not_true (is_comma b) parts.0) (ap (onto_first b) (split_none bs parts.1))

tag_trimmed : (t : List ℕ) → IsToken t → trimmed (32 ∷ t) ≡ t
tag_trimmed t h = trim_first t (dark_all t h.some (all_weaker is_token is_dark token_dark t (is_all t h.each)))

some_first : (t : List ℕ) → 0 < length t → is_some_text t ≡ true
some_first [] h = absurd (omega (arith, h))
some_first (b ∷ bs) h = refl

one_item : (t : List ℕ) (ts : List (List ℕ)) → IsToken t → items ((32 ∷ t) ∷ ts) ≡ t ∷ items ts
one_item t ts h =
    ap (λ u. cond (is_some_text u) (u ∷ items ts) (items ts)) (tag_trimmed t h)
    ∙ ap (λ v. cond v (t ∷ items ts) (items ts)) (some_first t h.some)

pub languages_back : (tags : List (List ℕ)) → AllByRecursion IsToken tags → 0 < length tags → languages_in (language_value tags) ≡ tags
languages_back [] h some = absurd (omega (arith, some))
languages_back (t ∷ []) h some =
    ap items (split_none (32 ∷ t) (all_weaker is_token is_no_comma token_no_comma t (is_all t h.0.each))) ∙ one_item t [] h.0
languages_back (t ∷ u ∷ us) h some =
    ap items (split_comma (32 ∷ t) (language_value (u ∷ us)) (all_weaker is_token is_no_comma token_no_comma t (is_all t h.0.each)))
    ∙ one_item t (slice_split is_comma (language_value (u ∷ us))) h.0
    ∙ ap (λ ts. t ∷ ts) (languages_back (u ∷ us) h.1 (omega arith))

-- ---- transfer encodings

pub coding_back : (c : Coding) → coding_in (coding_value c) ≡ c
coding_back Plain = refl
coding_back Quoted = refl
coding_back Base64 = refl
coding_back Unknown = refl
