-- What comes of a commit more.
use Rattle.std.proofs.Common.{◌≡◌, ℕ, List, ◌++◌, Option, Result, Ok, Err, IfOk, refl, sym, ap, ◌∙◌, subst}
use Rattle.mail_records.specs.Contents.{Content}
use Rattle.mail_records.specs.Edits.{AllFit, after_edits}
use Rattle.mail_records.specs.Histories.{History, Committed, blobs_of, content_of, grown}
use Rattle.mail_records.specs.declared.edits.Commit.{Commit}
use Rattle.mail_records.proofs.Prefixes.{blobs_of-grown, content_of-grown}
use Rattle.blob_store.specs.Blobs.{AreBlobsFew}
use Rattle.mail_records.specs.declared.edits.Edit.{Edit}
use Rattle.account_book.specs.Growing.{IsGrown}
use Rattle.account_book.specs.declared.growing.Grown.{Grown}
use Rattle.account_book.specs.Opening.{IsTaken}
use Rattle.account_book.specs.declared.loading.Loading.{Loading}
use Rattle.account_book.proofs.Few.{AreBlobsFew-front}

-- it doesn't fit
pub not_taken : (c : Content) (h : History) (commit : Commit) → c ≡ content_of h → ¬ AllFit c commit.edits → ¬ AllFit (content_of h) commit.edits
not_taken c h commit is bad = subst (λ k. ¬ AllFit k commit.edits) is bad

-- with it the blobs are past the limits
pub taken_over : (c c' : Content) (h : History) (blobs : List (List ℕ)) (commit : Commit) → c ≡ content_of h → blobs ≡ blobs_of h → AllFit c commit.edits → c' ≡ after_edits c commit.edits → ¬ AreBlobsFew (blobs ++ commit.blobs)
    → AllFit (content_of h) commit.edits × ((c' ≡ content_of (grown h (Committed commit))) × (¬ AreBlobsFew (blobs_of (grown h (Committed commit)))))
taken_over c c' h blobs commit is are fit next many = (
  subst (λ k. AllFit k commit.edits) is fit,
  (
    next ∙ ap (λ k. after_edits k commit.edits) is ∙ sym (content_of-grown h (Committed commit)),
    subst (λ bs. ¬ AreBlobsFew bs) (ap (λ bs. bs ++ commit.blobs) are ∙ sym (blobs_of-grown h (Committed commit))) many,
  ),
)

-- they were so already
pub taken_over_more : (c c' : Content) (h : History) (commit : Commit) → c ≡ content_of h → ¬ AreBlobsFew (blobs_of h) → AllFit c commit.edits → c' ≡ after_edits c commit.edits
    → AllFit (content_of h) commit.edits × ((c' ≡ content_of (grown h (Committed commit))) × (¬ AreBlobsFew (blobs_of (grown h (Committed commit)))))
taken_over_more c c' h commit is many fit next = taken_over c c' h (blobs_of h) commit is refl fit next (λ few. many (AreBlobsFew-front (blobs_of h) commit.blobs few))

-- what comes of it after a history, where it is given by another name
pub taken_at : {E : Type 0} (r : Result (Option Loading) E) (g : History) (commit : Commit) → IfOk r (IsTaken g commit) → IfOk r (λ o. (h : History) → g ≡ h → IsTaken h commit o)
taken_at (Ok o) g commit taken = λ h same. subst (λ k. IsTaken k commit o) same taken
taken_at (Err e) g commit taken = tt

-- it fits, and this is the history with it
pub taken_fitting : (content : Content) (h g k : History) (commit : Commit) → content ≡ content_of g → g ≡ h → AllFit content commit.edits → k ≡ grown g (Committed commit) → AllFit (content_of h) commit.edits × (k ≡ grown h (Committed commit))
taken_fitting content h g k commit is same fit grows = (
  subst (λ c. AllFit c commit.edits) (is ∙ ap content_of same) fit,
  grows ∙ ap (λ z. grown z (Committed commit)) same,
)

-- what comes of edits and blobs more, by other names
pub grown_as : (c : Content) (end : ℕ) (es es' : List Edit) (bs more : List (List ℕ)) (o v : Grown) → IsGrown c end es' bs more o → o ≡ v → es' ≡ es → IsGrown c end es bs more v
grown_as c end es es' bs more o v g is same = subst (λ x. IsGrown c end x bs more v) same (subst (IsGrown c end es' bs more) is g)
