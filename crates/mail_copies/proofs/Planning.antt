-- The outcome of copies, from what its parts are.
use Rattle.std.proofs.Common.{◌≡◌, ℕ, List, Option, Some, None, length, sym, ap, ap₂, ◌∙◌}
use Rattle.jm_json.specs.Tree.{Tree}
use Rattle.jm_json.specs.declared.invocation.Created.{Created}
use Rattle.jm_base.specs.declared.identifiers.Kind.TheVariants.{Email as OfEmail}
use Rattle.account_book.specs.declared.asks.Carried.{Carried}
use Rattle.mail_records.specs.Contents.{Content}
use Rattle.mail_records.specs.Histories.{History, blobs_of, content_of, ids_of}
use Rattle.mail_counts.specs.Plans.{Ground, present_state}
use Rattle.set_parts.specs.Arguments.{Create, account_in, creates_in}
use Rattle.set_parts.specs.Outcomes.{Outcome, Plan, ground_of, planned, planned_unless, rejected}
use Rattle.state_log.specs.Logs.{Notes, IsLogOf, ids_in}
use Rattle.state_log.proofs.Agreement.{ids_in-log}
use Rattle.email_creates.specs.Plans.{beginning, plan_after}
use Rattle.email_creates.proofs.Planning.{same_ground}
use Rattle.mail_copies.specs.Arguments.{count_copies, forms, from_account_in}
use Rattle.mail_copies.specs.Carried.{Delivery, deliveries}
use Rattle.mail_copies.specs.Copies.{after_copies}
use Rattle.mail_copies.specs.Plans.{copying_in, place_in, place_outcome, plan_in}

-- the outcome over a content, a log and blobs that are those of a history
pub same_outcome : (h : History) (c : Content) (l : Notes) (blobs : List (List ℕ)) (args : Tree) (carried : Carried) (made : List Created) (moment : ℕ) → c ≡ content_of h → IsLogOf h l → blobs ≡ blobs_of h
    → place_outcome (ground_of c l) blobs args carried made moment ≡ place_in h args carried made moment
same_outcome h c l blobs args carried made moment content log same =
    ap₂ (λ (g : Ground) (bs : List (List ℕ)). place_outcome g bs args carried made moment)
    (same_ground c (content_of h) l.floor h.floor l.floors h.floors (ids_in l.notes) (ids_of h) content log.floor log.floors (ids_in-log h l log)) same

-- the plan of a call that is not rejected, from what its steps have come to
pub placed : (g : Ground) (blobs : List (List ℕ)) (carried : Carried) (made given : List Created) (moment : ℕ) (ms : List (List ℕ × Tree)) (n state : ℕ) (account from : List ℕ) (creates : List Create) (ds : List (Option Delivery)) (p : Plan)
    → rejected forms n state ms ≡ None → n ≡ length creates → state ≡ present_state OfEmail g → creates ≡ creates_in ms → ds ≡ deliveries carried.emails carried.blobs
    → given ≡ made → account ≡ account_in ms → from ≡ from_account_in ms → p ≡ plan_after g account (Some from) (after_copies blobs moment (beginning g.content given) creates ds)
    → planned_unless (rejected forms (count_copies ms) (present_state OfEmail g) ms) (plan_in g blobs carried made moment ms) ≡ planned p
placed g blobs carried made given moment ms n state account from creates ds p none count at sent delivered same to origin is =
    let alike : rejected forms n state ms ≡ rejected forms (count_copies ms) (present_state OfEmail g) ms =
    ap₂ (λ k s. rejected forms k s ms) (count ∙ ap length sent) at in
    let progress : after_copies blobs moment (beginning g.content given) creates ds ≡ copying_in g.content blobs carried made moment ms =
    ap (λ (m : List Created). after_copies blobs moment (beginning g.content m) creates ds) same
    ∙ ap₂ (λ (cs : List Create) (d : List (Option Delivery)). after_copies blobs moment (beginning g.content made) cs d) sent delivered in
    let plan : p ≡ plan_in g blobs carried made moment ms =
    is ∙ (ap₂ (λ (a f : List ℕ). plan_after g a (Some f) (after_copies blobs moment (beginning g.content given) creates ds)) to origin
    ∙ ap (plan_after g (account_in ms) (Some (from_account_in ms))) progress) in
    ap (λ (o : Option Outcome). planned_unless o (plan_in g blobs carried made moment ms)) (sym alike ∙ none) ∙ ap planned (sym plan)
