-- What is found in the text that stands for the authors of a message is what is found in its fields From.
use Rattle.std.proofs.Common.{◌≡◌, ◌≢◌, ℕ, zero, suc, ◌-◌, ◌≤◌, Bool, true, false, ◌||◌, List, [], ◌∷◌, length, Option, Some, None, refl, sym, ap, ◌∙◌, subst, arith}
use Rattle.std.specs.Prelude.{◌==◌, MatchOption, option_map, slice_get, unwrap_or, ⊤}
use Rattle.std.specs.List.{slice_index_or}
use Rattle.std.proofs.lemmas.Bool.{true≢false}
use denote.Ref.{Bor}
use Rattle.mime_lines.specs.FieldOffsets.{lowered}
use Rattle.text_column.specs.Columns.{AreMarks, IsIn, IsMark, mark_of, text_at}
use Rattle.text_column.specs.declared.mark.Mark.{Mark}
use Rattle.text_column.specs.declared.mark.Mark.TheVariants.{HasNot, Has, Open}
use Rattle.blob_store.specs.Authors.{AreSearched, IsSearched, author_texts, searched_text}
use Rattle.mail_view.specs.Emails.{blob_bytes}
use Rattle.filter_terms.specs.Contains.{contains, some_contains}
use Rattle.filter_terms.specs.Texts.{Agrees, has_text}
use Rattle.filter_terms.specs.declared.texts.Place.TheVariants.{From}
use Rattle.filter_terms.proofs.Lowered.{contains_in_lowered}
use Rattle.filter_terms.proofs.Places.{contained_at, place_in}
use Rattle.message_texts.specs.Texts.{message_texts, texts_of_blobs}
use Rattle.message_texts.proofs.Found.{or_false}

-- ---- one message

-- the empty text contains no needle of one byte or more
nothing_there : (needle : List ℕ) → 1 ≤ length needle → contains needle [] ≡ false
nothing_there [] h = absurd (omega (arith, h))
nothing_there (n ∷ ns) h = refl

same_found : (needle : List ℕ) (texts : List (List ℕ)) (t : List ℕ) → 1 ≤ length needle → searched_text texts ≡ Some t → contains needle t ≡ some_contains needle texts
same_found needle [] t h is =
    let e : [] ≡ t = cc in
    ap (contains needle) (sym e) ∙ nothing_there needle h
same_found needle (u ∷ []) t h is =
    let e : lowered u ≡ t = cc in
    ap (contains needle) (sym e) ∙ (contains_in_lowered needle u ∙ sym (or_false (contains needle u)))
same_found needle (u ∷ v ∷ more) t h is = absurd (cc)

found_at : (needle : List ℕ) (texts : List (List ℕ)) (t : List ℕ) → 1 ≤ length needle → searched_text texts ≡ Some t → IsIn (lowered needle) t → some_contains needle texts ≡ true
found_at needle [] t h is place =
    let e : t ≡ [] = cc in
    absurd (true≢false (sym (contained_at needle [] (subst (λ (u : List ℕ). IsIn (lowered needle) u) e place)) ∙ nothing_there needle h))
found_at needle (u ∷ []) t h is place =
    let e : t ≡ lowered u = cc in
    or_false (contains needle u) ∙ contained_at needle u (subst (λ (v : List ℕ). IsIn (lowered needle) v) e place)
found_at needle (u ∷ v ∷ more) t h is place = absurd (cc)

place_of : (needle : List ℕ) (texts : List (List ℕ)) (t : List ℕ) → searched_text texts ≡ Some t → some_contains needle texts ≡ true → IsIn (lowered needle) t
place_of needle [] t is found = absurd (true≢false (sym found))
place_of needle (u ∷ []) t is found =
    let e : lowered u ≡ t = cc in
    subst (λ (v : List ℕ). IsIn (lowered needle) v) e (place_in needle u (sym (or_false (contains needle u)) ∙ found))
place_of needle (u ∷ v ∷ more) t is found = absurd (cc)

false_unless : (b : Bool) → (b ≡ true → ⊥) → b ≡ false
false_unless false never = refl
false_unless true never = absurd (never refl)

agreed : (needle bytes : List ℕ) (text : Option (List ℕ)) (mark : Mark) → 1 ≤ length needle → IsSearched bytes text → IsMark (lowered needle) text mark → Agrees mark (some_contains needle (author_texts bytes))
agreed needle bytes None mark h searched is = subst (λ (m : Mark). Agrees m (some_contains needle (author_texts bytes))) (sym is) tt
agreed needle bytes (Some t) HasNot h searched never = false_unless (some_contains needle (author_texts bytes)) (λ e. never (place_of needle (author_texts bytes) t searched e))
agreed needle bytes (Some t) Has h searched place = found_at needle (author_texts bytes) t h searched place
agreed needle bytes (Some t) Open h searched is = absurd is

not_empty : (needle : List ℕ) (empty : Bool) → empty ≡ (length needle == 0) → empty ≡ false → 1 ≤ length needle
not_empty [] empty is e = absurd (true≢false (sym is ∙ e))
not_empty (n ∷ ns) empty is e = omega arith

-- what is found in the text that is kept
pub found_in_kept : (bytes self needle : List ℕ) (from : Option (Bor (List ℕ))) (text : Bor (List ℕ)) (found : Bool) → bytes ≡ self → IsSearched bytes (option_map (λ (t : Bor (List ℕ)). t.now) from) → from ≡ Some text
    → (empty : Bool) → empty ≡ (length needle == 0) → empty ≡ false → found ≡ contains needle text.now → found ≡ has_text (message_texts self) From needle
found_in_kept bytes self needle from text found same searched is empty empty_is e found_is =
    let kept : searched_text (author_texts bytes) ≡ Some text.now = subst (λ (o : Option (Bor (List ℕ))). IsSearched bytes (option_map (λ (t : Bor (List ℕ)). t.now) o)) is searched in
    found_is ∙ (same_found needle (author_texts bytes) text.now (not_empty needle empty empty_is e) kept ∙ ap (λ (bs : List ℕ). has_text (message_texts bs) From needle) same)

-- ---- all messages

agree_from : (needle : List ℕ) (texts : List (Option (List ℕ))) (blobs : List (List ℕ)) (marks : List Mark) (n : ℕ) → 1 ≤ length needle → AreSearched texts blobs → AreMarks (lowered needle) texts marks
    → Agrees (slice_index_or marks n Open) (some_contains needle (author_texts (unwrap_or (slice_get blobs n) [])))
agree_from needle [] blobs [] n h searched are = tt
agree_from needle [] blobs (mark ∷ marks) n h searched are = absurd are
agree_from needle (t ∷ ts) [] marks n h searched are = absurd searched
agree_from needle (t ∷ ts) (b ∷ bs) [] n h searched are = absurd are
agree_from needle (t ∷ ts) (b ∷ bs) (mark ∷ marks) zero h searched are = agreed needle b t mark h searched.0 are.0
agree_from needle (t ∷ ts) (b ∷ bs) (mark ∷ marks) (suc n) h searched are = agree_from needle ts bs marks n h searched.1 are.1

-- the mark of each blob agrees with what is found in its message
pub marks_agree : (needle : List ℕ) (texts : List (Option (List ℕ))) (blobs : List (List ℕ)) (marks : List Mark) → 1 ≤ length needle → AreSearched texts blobs → AreMarks (lowered needle) texts marks
    → (blob : ℕ) → Agrees (mark_of marks blob) (has_text (texts_of_blobs blobs blob) From needle)
marks_agree needle texts blobs marks h searched are zero = tt
marks_agree needle texts blobs marks h searched are (suc n) = agree_from needle texts blobs marks n h searched are

-- so it is where the needle is in lower case, as it is lent
pub marks_answer : (needle lower shown : List ℕ) (texts : List (Option (List ℕ))) (blobs : List (List ℕ)) (marks : List Mark) (empty : Bool) → empty ≡ (length needle == 0) → empty ≡ false
    → lower ≡ lowered needle → shown ≡ lower → AreSearched texts blobs → AreMarks shown texts marks
    → (blob : ℕ) → Agrees (mark_of marks blob) (has_text (texts_of_blobs blobs blob) From needle)
marks_answer needle lower shown texts blobs marks empty empty_is e lower_is shown_is searched are =
    marks_agree needle texts blobs marks (not_empty needle empty empty_is e) searched (subst (λ (ns : List ℕ). AreMarks ns texts marks) (shown_is ∙ lower_is) are)

searched_at : (texts : List (Option (List ℕ))) (blobs : List (List ℕ)) (n : ℕ) (t : List ℕ) → AreSearched texts blobs → text_at texts n ≡ Some t → IsSearched (unwrap_or (slice_get blobs n) []) (Some t)
searched_at [] blobs n t searched is = absurd (cc)
searched_at (u ∷ us) [] n t searched is = absurd searched
searched_at (u ∷ us) (b ∷ bs) zero t searched is = subst (λ (o : Option (List ℕ)). IsSearched b o) is searched.0
searched_at (u ∷ us) (b ∷ bs) (suc n) t searched is = searched_at us bs n t searched.1 is

numbered : (texts : List (Option (List ℕ))) (blobs : List (List ℕ)) (number : ℕ) (t : List ℕ) → number ≢ 0 → AreSearched texts blobs → text_at texts (number - 1) ≡ Some t → IsSearched (blob_bytes blobs number) (Some t)
numbered texts blobs zero t other searched is = absurd (other refl)
numbered texts blobs (suc n) t other searched is = searched_at texts blobs n t searched (let e : suc n - 1 ≡ n = omega arith in subst (λ i. text_at texts i ≡ Some t) e is)

-- the text with the index before a number is that of the blob with the number
pub text_of_blob : (texts : List (Option (List ℕ))) (blobs : List (List ℕ)) (number index : ℕ) (r : Option (Bor (List ℕ))) → number ≢ 0 → index ≡ number - 1 → AreSearched texts blobs
    → MatchOption r (text_at texts index ≡ None) (λ t. text_at texts index ≡ Some t.now) → IsSearched (blob_bytes blobs number) (option_map (λ (t : Bor (List ℕ)). t.now) r)
text_of_blob texts blobs number index None other at searched is = tt
text_of_blob texts blobs number index (Some t) other at searched is = numbered texts blobs number t.now other searched (subst (λ i. text_at texts i ≡ Some t.now) at is)
