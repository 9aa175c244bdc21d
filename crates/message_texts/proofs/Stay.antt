-- A blob stays the same as blobs are added.
use Rattle.std.proofs.Common.{◌≡◌, ◌≤◌, ℕ, zero, suc, List, [], ◌∷◌, ◌++◌, get_or, length, Some, refl, sym, ap, ◌∙◌, arith, length-append}
use Rattle.std.specs.Prelude.{unwrap_or}
use Rattle.std.specs.List.{AllByRecursion, slice_get}
use Rattle.std.proofs.lemmas.List.{get_or_append_left}
use Rattle.std.proofs.lemmas.Option.{slice_get_within, slice_get-get_or, get_or_from_slice_get}
use Rattle.blob_store.specs.Blobs.{blob_numbered}
use Rattle.mail_records.specs.declared.records.Email.{Email}
use Rattle.filter_terms.specs.Laws.{HaveSameTexts}
use Rattle.mail_view.specs.Emails.{HasBlob}
use Rattle.message_texts.specs.Texts.{message_texts, texts_of_blobs}

same_item : {X : Type 0} (xs ys : List X) (i : ℕ) (x : X) → slice_get xs i ≡ Some x → slice_get (xs ++ ys) i ≡ Some x
same_item xs ys i x is =
    let within = slice_get_within xs i x is in
    let all = length-append xs ys in
    slice_get-get_or (xs ++ ys) i x (omega (arith, within, all))
    ∙ ap Some (get_or_append_left xs ys x i within ∙ get_or_from_slice_get xs i x x is)

same_blob : (n : ℕ) (blobs added : List (List ℕ)) (bytes : List ℕ) → blob_numbered n blobs ≡ Some bytes → blob_numbered n (blobs ++ added) ≡ blob_numbered n blobs
same_blob zero blobs added bytes is = refl
same_blob (suc n) blobs added bytes is = same_item blobs added n bytes is ∙ sym is

pub same_texts : (blobs added : List (List ℕ)) (n : ℕ) (bytes : List ℕ) → blob_numbered n blobs ≡ Some bytes → texts_of_blobs (blobs ++ added) n ≡ texts_of_blobs blobs n
same_texts blobs added n bytes is = ap (λ o. message_texts (unwrap_or o [])) (same_blob n blobs added bytes is)

named_there : (n : ℕ) (blobs : List (List ℕ)) → 1 ≤ n → n ≤ length blobs → (bytes : List ℕ) × (blob_numbered n blobs ≡ Some bytes)
named_there zero blobs from there = absurd (omega (arith, from))
named_there (suc n) blobs from there = (get_or blobs n [], slice_get-get_or blobs n [] (omega (arith, there)))

pub emails_same : (blobs added : List (List ℕ)) (emails : List Email) → AllByRecursion (HasBlob blobs) emails → HaveSameTexts (texts_of_blobs (blobs ++ added)) (texts_of_blobs blobs) emails
emails_same blobs added [] all = tt
emails_same blobs added (e ∷ es) all =
    let named = named_there e.blob blobs all.0.from_one all.0.there in
    (same_texts blobs added e.blob named.0 named.1, emails_same blobs added es all.1)
