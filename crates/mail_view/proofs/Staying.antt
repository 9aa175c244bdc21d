-- The views of emails stay the same as blobs are added.
use Rattle.std.proofs.Common.{◌≡◌, ◌≤◌, ℕ, zero, suc, Bool, true, false, List, [], ◌∷◌, ◌++◌, length, map, filter_map, Option, Some, None, refl, sym, ap, ap₂, ◌∙◌, subst, arith, length-append, ⊎_elim}
use Rattle.std.specs.Prelude.{unwrap_or, nat_lt, if◌then◌else◌}
use Rattle.std.specs.List.{AllByRecursion, find as first_that}
use Rattle.std.proofs.lemmas.Bool.{cases_Bool}
use Rattle.std.proofs.lemmas.List.{get_or_append_left}
use Rattle.std.proofs.lemmas.Option.{slice_get-get_or}
use Rattle.jm_base.specs.declared.identifiers.Kind.TheVariants.{Mailbox as OfMailbox, Email as OfEmail, Thread as OfThread}
use Rattle.jm_json.specs.Find.{as_object}
use Rattle.jm_json.specs.Tree.{Tree, text}
use Rattle.blob_ids.specs.BlobIds.{blob_text}
use Rattle.blob_store.specs.Blobs.{blob_numbered}
use Rattle.mail_records.specs.Contents.{Content, email_number}
use Rattle.mail_records.specs.declared.records.Email.{Email}
use Rattle.method_args.specs.Arguments.{account_in}
use Rattle.method_args.specs.declared.TheConstants.{MAX_OBJECTS_PER_CALL}
use Rattle.get_args.specs.Selection.{ids_in, invalid_selection}
use Rattle.get_args.specs.Wanted.{Reading, asked, cached_wanted, invalid as invalid_wanted, wanted_by}
use Rattle.get_args.specs.declared.wanted.Wanted.{Wanted}
use Rattle.mail_view.specs.Emails.{HasBlob, email_named, email_view}
use Rattle.mail_view.specs.Gets.{emails_by, emails_got, get_if_object, got, got_unless, reply_tree, too_large}
use Rattle.mail_view.specs.Laws.{GetsStay, ViewStays, ViewsStay}
use Rattle.mail_view.specs.Records.{asked_count, asked_records, first_mentions, is_id_text, unknown_ids}
use Rattle.mail_view.specs.View.{identifier, view_tree}

pub blob_stays : (n : ℕ) (blobs added : List (List ℕ)) → 1 ≤ n → n ≤ length blobs → blob_numbered n (blobs ++ added) ≡ blob_numbered n blobs
blob_stays zero blobs added from there = absurd (omega (arith, from))
blob_stays (suc n) blobs added from there =
    let all = length-append blobs added in
    slice_get-get_or (blobs ++ added) n [] (omega (arith, there, all))
    ∙ (ap Some (get_or_append_left blobs added [] n (omega (arith, there))) ∙ sym (slice_get-get_or blobs n [] (omega (arith, there))))

pub view_stays : ViewStays
view_stays blobs added wanted e has =
    ap (λ o. view_tree (unwrap_or o []) (blob_text e.blob) (Some e) wanted) (blob_stays e.blob blobs added has.from_one has.there)

map_same : {A B : Type 0} (f g : A → B) (P : A → Type 0) → ((x : A) → P x → f x ≡ g x) → (xs : List A) → AllByRecursion P xs → map f xs ≡ map g xs
map_same f g P same [] all = refl
map_same f g P same (x ∷ xs) all = ap₂ (λ y ys. y ∷ ys) (same x all.0) (map_same f g P same xs all.1)

pub views_stay : ViewsStay
views_stay OfMailbox c blobs added read_only all = refl
views_stay OfEmail c blobs added read_only all =
    map_same (λ e. (identifier OfEmail e.number, email_view (blobs ++ added) cached_wanted e)) (λ e. (identifier OfEmail e.number, email_view blobs cached_wanted e)) (HasBlob blobs)
    (λ e has. ap (λ t. (identifier OfEmail e.number, t)) (view_stays blobs added cached_wanted e has)) c.emails all
views_stay OfThread c blobs added read_only all = refl

-- ---- gets

pub first_holds : {A : Type 0} (P : A → Type 0) (test : A → Bool) (xs : List A) (x : A) → AllByRecursion P xs → first_that test xs ≡ Some x → P x
first_holds P test [] x all is = absurd (cc is)
first_holds P test (y ∷ ys) x all is =
    ⊎_elim
    (λ (k : test y ≡ true). let same : y ≡ x = cc (is, k) in subst P same all.0)
    (λ (k : test y ≡ false). first_holds P test ys x all.1 (sym (rw k refl) ∙ is))
    (cases_Bool (test y))

named_hold : {A : Type 0} (P : A → Type 0) (named : List ℕ → Option A) → ((id : List ℕ) (x : A) → named id ≡ Some x → P x) → (ids : List (List ℕ)) → AllByRecursion P (filter_map named ids)
named_hold {A} P named holds [] = tt
named_hold {A} P named holds (id ∷ ids) = by (named id) refl (named_hold P named holds ids)
  where
    with_first : Option A → List A → List A
    with_first None xs = xs
    with_first (Some x) xs = x ∷ xs

    same : (o : Option A) → named id ≡ o → filter_map named (id ∷ ids) ≡ with_first o (filter_map named ids)
    same None is = rw is refl
    same (Some x) is = rw is refl

    by : (o : Option A) → named id ≡ o → AllByRecursion P (filter_map named ids) → AllByRecursion P (filter_map named (id ∷ ids))
    by None is rest = subst (AllByRecursion P) (sym (same None is)) rest
    by (Some x) is rest = subst (AllByRecursion P) (sym (same (Some x) is)) (holds id x is, rest)

asked_hold : (blobs : List (List ℕ)) (emails : List Email) → AllByRecursion (HasBlob blobs) emails → (o : Option (List (List ℕ))) → AllByRecursion (HasBlob blobs) (asked_records (email_named emails) emails o)
asked_hold blobs emails all None = all
asked_hold blobs emails all (Some ids) =
    named_hold (HasBlob blobs) (email_named emails)
    (λ id e is. first_holds (HasBlob blobs) (λ r. is_id_text OfEmail id (email_number r)) emails e all is) (first_mentions ids)

module _ (c : Content) (blobs added : List (List ℕ)) (state : ℕ) (all : AllByRecursion (HasBlob blobs) c.emails) where
  objects_same : (wanted : Wanted) (ms : List (List ℕ × Tree))
      → map (email_view (blobs ++ added) wanted) (asked_records (email_named c.emails) c.emails (ids_in ms)) ≡ map (email_view blobs wanted) (asked_records (email_named c.emails) c.emails (ids_in ms))
  objects_same wanted ms =
      map_same (email_view (blobs ++ added) wanted) (email_view blobs wanted) (HasBlob blobs) (view_stays blobs added wanted)
      (asked_records (email_named c.emails) c.emails (ids_in ms)) (asked_hold blobs c.emails all (ids_in ms))

  read_same : (ms : List (List ℕ × Tree)) (r : Reading) → emails_by c (blobs ++ added) state ms r ≡ emails_by c blobs state ms r
  read_same ms (invalid_wanted name) = refl
  read_same ms (asked wanted) =
      ap (λ objects. if nat_lt MAX_OBJECTS_PER_CALL (asked_count (length c.emails) (ids_in ms)) then too_large
      else got (reply_tree (unwrap_or (account_in ms) []) objects (map text (unknown_ids (email_named c.emails) (ids_in ms))) state)) (objects_same wanted ms)

  checked_same : (ms : List (List ℕ × Tree)) (o : Option (List ℕ)) → got_unless o (emails_by c (blobs ++ added) state ms (wanted_by (Some ms) false)) ≡ got_unless o (emails_by c blobs state ms (wanted_by (Some ms) false))
  checked_same ms None = read_same ms (wanted_by (Some ms) false)
  checked_same ms (Some name) = refl

  members_same : (o : Option (List (List ℕ × Tree))) → get_if_object (emails_got c (blobs ++ added) state) o ≡ get_if_object (emails_got c blobs state) o
  members_same None = refl
  members_same (Some ms) = checked_same ms (invalid_selection ms)

pub gets_stay : GetsStay
gets_stay c blobs added state args all = members_same c blobs added state all (as_object args)
