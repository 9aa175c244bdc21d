-- The steps of copies, by what the code knows of them.
use Rattle.std.proofs.Common.{◌≡◌, ℕ, suc, zero, ◌+◌, ◌<◌, Bool, List, [], ◌∷◌, ◌++◌, length, map, drop, get_or, Option, Some, Result, Ok, Err, OnOk, refl, sym, ap, ap₂, ◌∙◌, arith, codes}
use Rattle.std.proofs.lemmas.List.{drop_more}
use Rattle.blob_store.specs.Blobs.{has_room}
use Rattle.jm_json.specs.Find.{find as find_member}
use Rattle.jm_json.specs.Tree.{Tree}
use Rattle.jm_json.specs.declared.invocation.Created.{Created}
use Rattle.mail_records.specs.Contents.{Content, mailbox_number}
use Rattle.mail_records.specs.declared.records.Mailbox.{Mailbox}
use Rattle.set_parts.specs.Arguments.{Create}
use Rattle.set_parts.specs.Names.{mailboxes_in}
use Rattle.set_parts.specs.Views.{create_of}
use Rattle.set_parts.specs.declared.set_errors.SetError.{SetError}
use Rattle.set_parts.specs.declared.arguments.SentCreate.{SentCreate}
use Rattle.email_creates.specs.Emails.{Progress, after_check, email_of, next_blob}
use Rattle.email_creates.specs.Errors.{error_of, with_invalid}
use Rattle.email_creates.specs.declared.properties.Sent.{Sent}
use Rattle.mail_copies.specs.Carried.{Delivery, carried_date, carried_keywords}
use Rattle.mail_copies.specs.Copies.{after_copies, after_copy, after_found, delivery_for, error_of_copy, first_delivery, keywords_or, properties_in, received_or}

-- two clauses of a call make one
pub on_ok_both : {T E : Type 0} (r : Result T E) (P Q R : Type 0) → (P → Q → R) → OnOk r P → OnOk r Q → OnOk r R
on_ok_both (Ok v) P Q R f g h = f g h
on_ok_both (Err e) P Q R f g h = h

one_more : (i : ℕ) → suc (i + 1) ≡ suc i + 1
one_more i = omega arith

drop_one : {A : Type 0} (i : ℕ) (xs : List A) → drop 1 (drop i xs) ≡ drop (i + 1) xs
drop_one zero [] = refl
drop_one zero (x ∷ xs) = refl
drop_one {A} (suc i) [] = ap (λ n. let none : List A = [] in drop n none) (one_more i)
drop_one {A} (suc i) (x ∷ xs) = drop_one i xs ∙ ap (λ n. let all : List A = x ∷ xs in drop n all) (one_more i)

-- the properties of a copy, by the mailboxes alone
abbrev properties_by : List Created → ℕ → List (List ℕ × Tree) → Tree → List Mailbox → Sent
properties_by made moment ms item rows = record {
  keywords = keywords_or (carried_keywords item) (find_member (codes "keywords") ms);
  mailboxes = mailboxes_in (map mailbox_number rows) made (find_member (codes "mailboxIds") ms);
  received = received_or (carried_date moment item) (find_member (codes "receivedAt") ms);
}

pub copy_step : (blobs : List (List ℕ)) (moment : ℕ) (s : Progress) (x : Create) (d : Delivery) (c : Content) (a : Sent) (n : ℕ) (invalid : List (List ℕ)) (room : Bool) (o : Option SetError) → s.creating.content.mailboxes ≡ c.mailboxes
    → a ≡ properties_in c s.creating.made moment x.members d.item → length s.creating.content.emails ≡ n → invalid ≡ with_invalid [] a → room ≡ has_room (length d.bytes) (blobs ++ s.creating.blobs)
    → error_of invalid a n room ≡ o → after_copy blobs moment s x (Some d) ≡ after_check s x.creation (email_of s moment a (next_blob (blobs ++ s.creating.blobs) d.bytes)) (Some d.bytes) o
copy_step blobs moment s x d c a n invalid room o mailboxes sent count names roomy error =
    let is : properties_in s.creating.content s.creating.made moment x.members d.item ≡ a = ap (properties_by s.creating.made moment x.members d.item) mailboxes ∙ sym sent in
    let all : List (List ℕ) = blobs ++ s.creating.blobs in
    ap (λ (b : Sent). after_found blobs moment s x.creation b d.bytes) is
    ∙ ap (after_check s x.creation (email_of s moment a (next_blob all d.bytes)) (Some d.bytes))
    (ap₂ (λ (k : ℕ) (b : Bool). error_of_copy k b a) count (sym roomy) ∙ (ap (λ (xs : List (List ℕ)). error_of xs a n room) (sym names) ∙ error))

pub copies_step : (blobs : List (List ℕ)) (moment : ℕ) (s : Progress) (xs : List SentCreate) (ds : List (Option Delivery)) (i : ℕ) (x : SentCreate) (d : Option Delivery) → i < length xs → x ≡ get_or xs i x
    → d ≡ first_delivery (drop i ds)
    → after_copies blobs moment s (map create_of (drop i xs)) (drop i ds)
    ≡ after_copies blobs moment (after_copy blobs moment s (create_of x) (delivery_for (create_of x) d)) (map create_of (drop (i + 1) xs)) (drop (i + 1) ds)
copies_step blobs moment s xs ds i x d lt is first =
    ap (λ ys. after_copies blobs moment s (map create_of ys) (drop i ds)) (drop_more xs i x lt)
    ∙ (ap (λ y. after_copies blobs moment s (create_of y ∷ map create_of (drop (i + 1) xs)) (drop i ds)) (sym is)
    ∙ ap₂ (λ o es. after_copies blobs moment (after_copy blobs moment s (create_of x) (delivery_for (create_of x) o)) (map create_of (drop (i + 1) xs)) es) (sym first) (drop_one i ds))
