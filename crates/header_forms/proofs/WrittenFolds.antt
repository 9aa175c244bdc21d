-- In a written value a space follows each line end.
use Rattle.std.proofs.Common.{◌≡◌, ℕ, Bool, true, false, cond, eqb, List, [], ◌∷◌, ◌++◌, map, codes, Option, Some, None, refl, sym, ap, ◌∙◌, append_assoc}
use Rattle.std.specs.List.{AllByRecursion, list_all}
use Rattle.std.specs.Str.{IsUtf8}
use Rattle.std.proofs.lemmas.List.{append-nil}
use Rattle.mime_lines.specs.Written.{fold, is_folded, is_inline, parted_by}
use Rattle.mime_lines.proofs.Unfolds.{IsInline, both_true, not_true}
use Rattle.mime_codec.specs.Base64Text.{sign, encoded}
use Rattle.mime_codec.proofs.Tables.{counted, for_below}
use Rattle.mime_words.specs.WrittenWords.{is_plain_text, pieces, word_text, words_text}
use Rattle.mime_words.proofs.WordBytes.{AreGood, pieces_good}
use Rattle.mime_words.proofs.WordTexts.{encoded_all}
use Rattle.header_forms.specs.declared.address.Address.{Address}
use Rattle.header_forms.specs.declared.date_time.ZonedDateTime.{ZonedDateTime}
use Rattle.header_forms.specs.WrittenForms.{IsFieldText, text_value, angled, ids_value, IsId, is_plain_name, is_name_character, name_text, address_text, is_in_words, lead, addresses_value, is_address_character, IsName, IsMailbox, date_value, IsDateTime}
use Rattle.header_forms.proofs.WrittenTexts.{yes, both_all, all_weaker, printed_inline, plain_parts}
use Rattle.header_forms.proofs.WrittenIds.{is_printed, printed_angled}
use Rattle.header_forms.proofs.WrittenDates.{date_inline}
use Rattle.header_forms.proofs.WrittenNames.{email_printed, name_printed}
use Rattle.header_forms.proofs.WrittenNames as names

-- a text is folded, whatever folded text follows it
record Stays (x : List ℕ) : Type 0 where
  on : (rest : List ℕ) → is_folded (x ++ rest) ≡ is_folded rest

inline_on : (t rest : List ℕ) → IsInline t → is_folded (t ++ rest) ≡ is_folded rest
inline_on [] rest h = refl
inline_on (b ∷ bs) rest h =
    let parts = both_true (is_inline b) (list_all is_inline bs) h in
    rw (not_true (eqb b 10) parts.0) (inline_on bs rest parts.1)

stays_inline : (t : List ℕ) → IsInline t → Stays t
stays_inline t h = record { on = λ rest. inline_on t rest h }

stays_printed : (t : List ℕ) → list_all is_printed t ≡ true → Stays t
stays_printed t h = stays_inline t (all_weaker is_printed is_inline printed_inline t h)

stays_fold : Stays fold
stays_fold = record { on = λ rest. refl }

stays_both : (a b : List ℕ) → Stays a → Stays b → Stays (a ++ b)
stays_both a b f g = record { on = λ rest. ap is_folded (append_assoc a b rest) ∙ f.on (b ++ rest) ∙ g.on rest }

whole : (x : List ℕ) → Stays x → is_folded x ≡ true
whole x f = ap is_folded (sym (append-nil x)) ∙ f.on []

abbrev AllStay : List (List ℕ) → Type 0
AllStay ts = AllByRecursion Stays ts

stays_parted : (between : List ℕ) (ts : List (List ℕ)) → Stays between → AllStay ts → Stays (parted_by between ts)
stays_parted between [] b h = record { on = λ rest. refl }
stays_parted between (t ∷ []) b h = h.0
stays_parted between (t ∷ u ∷ us) b h =
    stays_both t (between ++ parted_by between (u ∷ us)) h.0 (stays_both between (parted_by between (u ∷ us)) b (stays_parted between (u ∷ us) b h.1))

-- ---- encoded-words

abbrev inline_sign : ℕ → Bool
inline_sign n = is_inline (sign n)

inline_signs : map inline_sign (counted 0 64) ≡ map yes (counted 0 64)
inline_signs = refl

words_stay : (ps : List (List ℕ)) → AreGood ps → AllStay (map word_text ps)
words_stay [] h = tt
words_stay (p ∷ ps) h =
    let inner : IsInline (encoded p) = encoded_all is_inline (for_below inline_sign yes false 64 inline_signs) refl p h.1 in
    let word : IsInline (word_text p) =
    both_all is_inline (codes "=?utf-8?B?") (encoded p ++ codes "?=") refl (both_all is_inline (encoded p) (codes "?=") inner refl) in
    (stays_inline (word_text p) word, words_stay ps h.2)

stays_words : (text : List ℕ) → IsUtf8 text → Stays (words_text text)
stays_words text u = stays_parted fold (map word_text (pieces text)) stays_fold (words_stay (pieces text) (pieces_good text u))

-- ---- values

pub text_folded : (text : List ℕ) → IsFieldText text → is_folded (text_value text) ≡ true
text_folded text t = elim (is_plain_text text) as (λ v. is_plain_text text ≡ v → is_folded (cond v (32 ∷ text) (fold ++ words_text text)) ≡ true) [
  | true ↦ λ h. whole (32 ∷ text) (stays_printed (32 ∷ text) (plain_parts text h))
  | false ↦ λ _. whole (fold ++ words_text text) (stays_both fold (words_text text) stays_fold (stays_words text t.utf8))
] refl

angles_stay : (ids : List (List ℕ)) → AllByRecursion IsId ids → AllStay (map angled ids)
angles_stay [] h = tt
angles_stay (i ∷ is) h = (stays_printed (angled i) (printed_angled i h.0), angles_stay is h.1)

pub ids_folded : (ids : List (List ℕ)) → AllByRecursion IsId ids → is_folded (ids_value ids) ≡ true
ids_folded ids h = whole (parted_by fold (map angled ids)) (stays_parted fold (map angled ids) stays_fold (angles_stay ids h))

pub date_folded : (m : ZonedDateTime) → IsDateTime m → is_folded (date_value m) ≡ true
date_folded m h = whole (date_value m) (stays_inline (date_value m) (date_inline m h))

name_stays : (o : Option (List ℕ)) → IsName o → Stays (name_text o)
name_stays None h = stays_printed [] refl
name_stays (Some name) h = elim (is_plain_name name) as (λ v. is_plain_name name ≡ v → Stays (cond v (name ++ 32 ∷ []) (words_text name ++ fold))) [
  | true ↦ λ e. stays_printed (name ++ 32 ∷ []) (both_all is_printed name (32 ∷ []) (all_weaker is_name_character is_printed name_printed name (names.plain_parts name e).1) refl)
  | false ↦ λ _. stays_both (words_text name) fold (stays_words name h.0.utf8) stays_fold
] refl

address_stays : (a : Address) → IsMailbox a → Stays (address_text a)
address_stays a h =
    stays_both (name_text a.name) (angled a.email) (name_stays a.name h.name)
    (stays_printed (angled a.email) (both_all is_printed a.email (62 ∷ []) (all_weaker is_address_character is_printed email_printed a.email h.each) refl))

addresses_stay : (items : List Address) → AllByRecursion IsMailbox items → AllStay (map address_text items)
addresses_stay [] h = tt
addresses_stay (a ∷ later) h = (address_stays a h.0, addresses_stay later h.1)

lead_stays : (items : List Address) → Stays (lead items)
lead_stays [] = stays_printed (32 ∷ []) refl
lead_stays (a ∷ later) = elim (is_in_words a.name) as (λ v. Stays (cond v fold (32 ∷ []))) [ true ↦ stays_fold | false ↦ stays_printed (32 ∷ []) refl ]

pub addresses_folded : (items : List Address) → AllByRecursion IsMailbox items → is_folded (addresses_value items) ≡ true
addresses_folded items h =
    whole (addresses_value items) (stays_both (lead items) (parted_by (44 ∷ fold) (map address_text items)) (lead_stays items)
    (stays_parted (44 ∷ fold) (map address_text items) (stays_both (44 ∷ []) fold (stays_printed (44 ∷ []) refl) stays_fold) (addresses_stay items h)))
