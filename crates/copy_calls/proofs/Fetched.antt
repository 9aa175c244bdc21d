-- What is fetched, one original after the other, and from an account with a history.
use Rattle.std.proofs.Common.{◌≡◌, ℕ, ◌+◌, ◌<◌, List, [], ◌∷◌, ◌++◌, length, map, take, get_or, Option, Some, None, Result, IfOk, IfErr, refl, sym, ap, ◌∙◌, subst}
use Rattle.std.proofs.lemmas.List.{map-append, take_more}
use Rattle.jm_base.specs.declared.identifiers.Kind.TheVariants.{Email as OfEmail}
use Rattle.jm_json.specs.Tree.{Tree}
use Rattle.jm_json.specs.Find.{as_object}
use Rattle.account_book.specs.declared.asks.Carried.{Carried}
use Rattle.mail_counts.specs.declared.plan.SetFault.{SetFault}
use Rattle.mail_records.specs.Contents.{Content}
use Rattle.mail_records.specs.Histories.{History, blobs_of, content_of}
use Rattle.mail_records.specs.States.{state_of}
use Rattle.mail_records.specs.declared.records.Email.{Email}
use Rattle.mail_view.specs.Emails.{blob_bytes}
use Rattle.set_parts.specs.Outcomes.{ExplainsRejection}
use Rattle.set_parts.specs.Views.{create_of}
use Rattle.set_parts.specs.declared.arguments.SentCreate.{SentCreate}
use Rattle.copy_calls.specs.Fetches.{carried_by, fetch_rejection, fetched_in, item_of, messages_of, original_named, rejection_by}

-- the originals of these creates
abbrev pub originals : List Email → List SentCreate → List (Option Email)
originals emails xs = map (original_named emails) (map create_of xs)

originals_more : (emails : List Email) (xs : List SentCreate) (i : ℕ) (x : SentCreate) → i < length xs → x ≡ get_or xs i x
    → originals emails (take (i + 1) xs) ≡ originals emails (take i xs) ++ original_named emails (create_of x) ∷ []
originals_more emails xs i x lt is =
    ap (originals emails) (take_more xs i x lt)
    ∙ (ap (map (original_named emails)) (map-append create_of (take i xs) (get_or xs i x ∷ []))
    ∙ (map-append (original_named emails) (map create_of (take i xs)) (create_of (get_or xs i x) ∷ [])
    ∙ ap (λ (y : SentCreate). originals emails (take i xs) ++ original_named emails (create_of y) ∷ []) (sym is)))

messages_more : (blobs : List (List ℕ)) (os : List (Option Email)) (o : Option Email) → messages_of blobs (os ++ o ∷ []) ≡ messages_of blobs os ++ messages_of blobs (o ∷ [])
messages_more blobs [] o = refl
messages_more blobs (None ∷ os) o = messages_more blobs os o
messages_more blobs (Some e ∷ os) o = ap (λ bs. blob_bytes blobs e.blob ∷ bs) (messages_more blobs os o)

pub items_step : (emails : List Email) (xs : List SentCreate) (i : ℕ) (x : SentCreate) (o : Option Email) (old new : List Tree) → i < length xs → x ≡ get_or xs i x → o ≡ original_named emails (create_of x)
    → old ≡ map item_of (originals emails (take i xs)) → new ≡ old ++ item_of o ∷ [] → new ≡ map item_of (originals emails (take (i + 1) xs))
items_step emails xs i x o old new lt is named before more =
    more
    ∙ (ap (λ ts. ts ++ item_of o ∷ []) before
    ∙ (ap (λ p. map item_of (originals emails (take i xs)) ++ item_of p ∷ []) named
    ∙ (sym (map-append item_of (originals emails (take i xs)) (original_named emails (create_of x) ∷ []))
    ∙ ap (map item_of) (sym (originals_more emails xs i x lt is)))))

pub messages_step : (blobs : List (List ℕ)) (emails : List Email) (xs : List SentCreate) (i : ℕ) (x : SentCreate) (o : Option Email) (old new : List (List ℕ)) → i < length xs → x ≡ get_or xs i x → o ≡ original_named emails (create_of x)
    → old ≡ messages_of blobs (originals emails (take i xs)) → new ≡ old ++ messages_of blobs (o ∷ []) → new ≡ messages_of blobs (originals emails (take (i + 1) xs))
messages_step blobs emails xs i x o old new lt is named before more =
    more
    ∙ (ap (λ bs. bs ++ messages_of blobs (o ∷ [])) before
    ∙ (ap (λ p. messages_of blobs (originals emails (take i xs)) ++ messages_of blobs (p ∷ [])) named
    ∙ (sym (messages_more blobs (originals emails (take i xs)) (original_named emails (create_of x)))
    ∙ ap (messages_of blobs) (sym (originals_more emails xs i x lt is)))))

-- ---- an account with a history

pub fetched_of : (h : History) (c : Content) (blobs : List (List ℕ)) (state : ℕ) (args : Tree) (r : Result Carried SetFault) → c ≡ content_of h → blobs ≡ blobs_of h → state ≡ state_of h OfEmail
    → IfOk r (λ x. (rejection_by state (as_object args) ≡ None) × (x ≡ carried_by c blobs (as_object args)))
    → IfOk r (λ x. (fetch_rejection h args ≡ None) × (x ≡ fetched_in h args))
fetched_of h c blobs state args r content same stated k =
    subst (λ (s : ℕ). IfOk r (λ x. (rejection_by s (as_object args) ≡ None) × (x ≡ fetched_in h args))) stated
    (subst (λ (bs : List (List ℕ)). IfOk r (λ x. (rejection_by state (as_object args) ≡ None) × (x ≡ carried_by (content_of h) bs (as_object args)))) same
    (subst (λ (d : Content). IfOk r (λ x. (rejection_by state (as_object args) ≡ None) × (x ≡ carried_by d blobs (as_object args)))) content k))

pub fault_of : (h : History) (state : ℕ) (args : Tree) (r : Result Carried SetFault) → state ≡ state_of h OfEmail
    → IfErr r (λ e. ExplainsRejection e (rejection_by state (as_object args))) → IfErr r (λ e. ExplainsRejection e (fetch_rejection h args))
fault_of h state args r stated k = subst (λ (s : ℕ). IfErr r (λ e. ExplainsRejection e (rejection_by s (as_object args)))) stated k
