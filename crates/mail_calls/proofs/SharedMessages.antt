-- Emails that share a blob have its message if they have the same size and summary.
use Rattle.std.proofs.Common.{◌≡◌, ℕ, zero, suc, Bool, true, false, ◌&&◌, eqb, eq-eqb, List, [], ◌∷◌, slice_get, Option, Some, None, refl, sym, ap, ap₂, ◌∙◌, subst}
use Rattle.std.specs.List.{list_all}
use Rattle.std.proofs.lemmas.Bool.{true≢false, and_parts}
use Rattle.mail_records.specs.declared.records.Email.{Email}
use Rattle.mail_records.specs.declared.records.Summary.{Summary}
use Rattle.blob_store.specs.Blobs.{blob_numbered}
use Rattle.mail_calls.specs.MessageTests.{has_message, is_message_in, is_same_summary}
use Rattle.mail_calls.proofs.ValidityTested.{message_tells}

-- what is tested of one email is what is tested of another that is the bytes' message
in_blob : (summary : List ℕ → Summary) (e o : Email) (b : Option (List ℕ)) → is_message_in summary o b ≡ true
    → (eqb e.size o.size && is_same_summary e.summary o.summary) ≡ is_message_in summary e b
in_blob summary e o None has = absurd (true≢false (sym has))
in_blob summary e o (Some bytes) has =
    let is = (message_tells summary o bytes).0 has in
    ap₂ (λ n s. eqb e.size n && is_same_summary e.summary s) is.size is.summary_is

pub shared_is : (summary : List ℕ → Summary) (e o : Email) (blobs : List (List ℕ)) → o.blob ≡ e.blob → has_message summary blobs o ≡ true
    → (eqb e.size o.size && is_same_summary e.summary o.summary) ≡ has_message summary blobs e
shared_is summary e o blobs same has =
    in_blob summary e o (blob_numbered e.blob blobs) (subst (λ n. is_message_in summary o (blob_numbered n blobs) ≡ true) same has)

pub shared_summary : (summary : List ℕ → Summary) (e o : Email) (blobs : List (List ℕ)) → e.size ≡ o.size → o.blob ≡ e.blob → has_message summary blobs o ≡ true
    → is_same_summary e.summary o.summary ≡ has_message summary blobs e
shared_summary summary e o blobs sizes same has =
    let test : eqb e.size o.size ≡ true = eq-eqb e.size o.size sizes in
    sym (ap (λ b. b && is_same_summary e.summary o.summary) test) ∙ shared_is summary e o blobs same has

-- what holds of all holds of each
pub all_there : {X : Type 0} (p : X → Bool) (xs : List X) (k : ℕ) (x : X) → list_all p xs ≡ true → slice_get xs k ≡ Some x → p x ≡ true
all_there p [] k x all there = absurd (cc)
all_there p (y ∷ ys) zero x all there =
    let same : y ≡ x = cc in
    subst (λ v. p v ≡ true) same (and_parts (p y) (list_all p ys) all).0
all_there p (y ∷ ys) (suc k) x all there = all_there p ys k x (and_parts (p y) (list_all p ys) all).1 there
