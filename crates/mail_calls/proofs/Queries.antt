-- The outcome of a query over what an account lends is that over its history.
use Rattle.std.proofs.Common.{◌≡◌, ℕ, List, Result, Ok, Err, IfOk, IfErr, ap, ap₂, ◌∙◌, subst}
use Rattle.jm_json.specs.Tree.{Tree}
use Rattle.jm_base.specs.declared.identifiers.Kind.{Kind}
use Rattle.mail_records.specs.Contents.{Content}
use Rattle.mail_records.specs.Histories.{History, blobs_of, content_of}
use Rattle.mail_records.specs.States.{state_of}
use Rattle.message_texts.specs.Texts.{texts_of_blobs}
use Rattle.method_args.specs.Outcomes.{Outcome}
use Rattle.query_engine.specs.Responses.{query_outcome}
use Rattle.state_log.specs.Logs.{IsLogOf, Notes}
use Rattle.query_changes.specs.Deltas.{AreOf}
use Rattle.query_changes.specs.Responses.{query_changes_outcome}
use Rattle.read_replies.specs.Plans.{queried, query_changed}

same_query : (h : History) (kind : Kind) (state : ℕ) (c : Content) (blobs : List (List ℕ)) (args : Tree) → state ≡ state_of h kind → c ≡ content_of h → blobs ≡ blobs_of h → query_outcome kind state c (texts_of_blobs blobs) args ≡ queried h kind args
same_query h kind state c blobs args states contents bytes =
    ap₂ (λ (n : ℕ) (x : Content). query_outcome kind n x (texts_of_blobs blobs) args) states contents
    ∙ ap (λ (bs : List (List ℕ)). query_outcome kind (state_of h kind) (content_of h) (texts_of_blobs bs) args) bytes

-- what is said of the one outcome holds of the other
pub ok_query : {T E : Type 0} (r : Result T E) (P : T → Outcome → Type 0) (h : History) (kind : Kind) (state : ℕ) (c : Content) (blobs : List (List ℕ)) (args : Tree) → state ≡ state_of h kind → c ≡ content_of h → blobs ≡ blobs_of h
    → IfOk r (λ x. P x (query_outcome kind state c (texts_of_blobs blobs) args)) → IfOk r (λ x. P x (queried h kind args))
ok_query r P h kind state c blobs args states contents bytes said = subst (λ (o : Outcome). IfOk r (λ x. P x o)) (same_query h kind state c blobs args states contents bytes) said

pub err_query : {T E : Type 0} (r : Result T E) (P : E → Outcome → Type 0) (h : History) (kind : Kind) (state : ℕ) (c : Content) (blobs : List (List ℕ)) (args : Tree) → state ≡ state_of h kind → c ≡ content_of h → blobs ≡ blobs_of h
    → IfErr r (λ e. P e (query_outcome kind state c (texts_of_blobs blobs) args)) → IfErr r (λ e. P e (queried h kind args))
err_query r P h kind state c blobs args states contents bytes said = subst (λ (o : Outcome). IfErr r (λ e. P e o)) (same_query h kind state c blobs args states contents bytes) said

-- ---- the changes of queries

-- what is said for every history of which log and content are holds of one
pub ok_changes : {T E : Type 0} (r : Result T E) (P : T → Outcome → Type 0) (h : History) (kind : Kind) (l : Notes) (c : Content) (blobs : List (List ℕ)) (args : Tree) → IsLogOf h l → c ≡ content_of h → blobs ≡ blobs_of h
    → IfOk r (λ x. (g : History) → AreOf g l c → P x (query_changes_outcome g (texts_of_blobs blobs) kind args)) → IfOk r (λ x. P x (query_changed h kind args))
ok_changes (Ok x) P h kind l c blobs args log contents bytes said =
    subst (λ (bs : List (List ℕ)). P x (query_changes_outcome h (texts_of_blobs bs) kind args)) bytes (said h (record { log = log; content = contents }))
ok_changes (Err e) P h kind l c blobs args log contents bytes said = tt

pub err_changes : {T E : Type 0} (r : Result T E) (P : E → Outcome → Type 0) (h : History) (kind : Kind) (l : Notes) (c : Content) (blobs : List (List ℕ)) (args : Tree) → IsLogOf h l → c ≡ content_of h → blobs ≡ blobs_of h
    → IfErr r (λ e. (g : History) → AreOf g l c → P e (query_changes_outcome g (texts_of_blobs blobs) kind args)) → IfErr r (λ e. P e (query_changed h kind args))
err_changes (Ok x) P h kind l c blobs args log contents bytes said = tt
err_changes (Err e) P h kind l c blobs args log contents bytes said =
    subst (λ (bs : List (List ℕ)). P e (query_changes_outcome h (texts_of_blobs bs) kind args)) bytes (said h (record { log = log; content = contents }))
