-- The plan of creates, from what its parts are.
use Rattle.std.proofs.Common.{◌≡◌, ℕ, List, ◌++◌, Option, Result, Ok, Err, IfOk, ap, ap₂, ◌∙◌}
use Rattle.jm_base.specs.declared.identifiers.Kind.TheVariants.{Email as OfEmail}
use Rattle.jm_json.specs.Tree.{Tree, object, fields_of}
use Rattle.jm_json.specs.declared.invocation.Created.{Created}
use Rattle.mail_records.specs.Contents.{Content}
use Rattle.mail_records.specs.Histories.{Floors}
use Rattle.jm_base.specs.declared.identifiers.Id.{Id}
use Rattle.mail_records.specs.declared.edits.Edit.{Edit}
use Rattle.mail_counts.specs.DerivedEdits.{derived_edits}
use Rattle.mail_counts.specs.Plans.{Ground, present_state, state_after}
use Rattle.set_parts.specs.Outcomes.{Plan}
use Rattle.email_creates.specs.Emails.{Progress}
use Rattle.email_creates.specs.Plans.{all_edits, plan_after, reply_members}

pub plan_from_parts : (g : Ground) (to : List ℕ) (from : Option (List ℕ)) (s : Progress) (before after : ℕ) (created not_created : List (List ℕ × Tree)) (reply : Tree) (own more edits : List Edit) (made : List Created) (blobs : List (List ℕ))
    → reply ≡ object (fields_of (reply_members to from before after created not_created)) → before ≡ present_state OfEmail g → after ≡ state_after OfEmail g edits
    → created ≡ s.creating.created → not_created ≡ s.creating.not_created → own ≡ s.creating.edits → more ≡ derived_edits g.content own → edits ≡ own ++ more → made ≡ s.creating.fresh → blobs ≡ s.creating.blobs
    → (let p : Plan = record { reply = reply; edits = edits; made = made; blobs = blobs } in p) ≡ plan_after g to from s
plan_from_parts g to from s before after created not_created reply own more edits made blobs is was new c r o d e m b =
    let all : edits ≡ all_edits g.content s = e ∙ (ap (λ es. own ++ es) d ∙ ap (λ es. es ++ derived_edits g.content es) o) in
    let newer : after ≡ state_after OfEmail g (all_edits g.content s) = new ∙ ap (state_after OfEmail g) all in
    let members : reply_members to from before after created not_created ≡ reply_members to from (present_state OfEmail g) (state_after OfEmail g (all_edits g.content s)) s.creating.created s.creating.not_created =
    ap₂ (λ b a. reply_members to from b a created not_created) was newer ∙ ap₂ (λ x y. reply_members to from (present_state OfEmail g) (state_after OfEmail g (all_edits g.content s)) x y) c r in
    let tree = is ∙ ap (λ ms. object (fields_of ms)) members in
    ap (λ (t : Tree). let p : Plan = record { reply = t; edits = edits; made = made; blobs = blobs } in p) tree
    ∙ ap₂ (λ (x : List Edit) (y : List Created). let p : Plan = record { reply = object (fields_of (reply_members to from (present_state OfEmail g) (state_after OfEmail g (all_edits g.content s)) s.creating.created s.creating.not_created)); edits = x; made = y; blobs = blobs } in p) all m
    ∙ ap (λ (bs : List (List ℕ)). let p : Plan = record (plan_after g to from s) { blobs = bs } in p) b

pub same_ground : (c d : Content) (m n : ℕ) (e f : Floors) (x y : List Id) → c ≡ d → m ≡ n → e ≡ f → x ≡ y
    → (let g : Ground = record { content = c; floor = m; floors = e; ids = x } in g) ≡ record { content = d; floor = n; floors = f; ids = y }
same_ground c d m n e f x y content floor floors ids =
    ap₂ (λ (z : Content) (k : ℕ). record { content = z; floor = k; floors = e; ids = x }) content floor
    ∙ ap₂ (λ (z : Floors) (k : List Id). record { content = d; floor = n; floors = z; ids = k }) floors ids

-- what holds of each value
pub ok_map : {T E : Type 0} (r : Result T E) (P Q : T → Type 0) → ((x : T) → P x → Q x) → IfOk r P → IfOk r Q
ok_map (Ok x) P Q f h = f x h
ok_map (Err e) P Q f h = tt
