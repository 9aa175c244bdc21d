-- The plan of a set, from its parts.
use Rattle.std.proofs.Common.{◌≡◌, ℕ, List, ◌++◌, ap, ap₂, ◌∙◌}
use Rattle.jm_base.specs.declared.identifiers.Kind.{Kind}
use Rattle.jm_json.specs.Tree.{Tree, fields_of, object}
use Rattle.jm_json.specs.declared.invocation.Created.{Created}
use Rattle.mail_counts.specs.Plans.{Ground, present_state, state_after}
use Rattle.mail_records.specs.declared.edits.Edit.{Edit}
use Rattle.set_parts.specs.Creates.{Creating}
use Rattle.set_parts.specs.Outcomes.{Plan}
use Rattle.set_parts.specs.Plans.{all_edits, plan_after, with_creates}
use Rattle.set_parts.specs.Responses.{reply_members}
use Rattle.set_parts.specs.Steps.{Progress}
use Rattle.set_parts.specs.declared.reported.Reported.{Reported}

abbrev built : List ℕ → ℕ → ℕ → Reported → List Edit → List Created → List (List ℕ) → Plan
built account before after r edits made blobs = record {
  reply = object (fields_of (reply_members account before after r));
  edits = edits;
  made = made;
  blobs = blobs;
}

-- what a finished plan is made of
pub record Parts (kind : Kind) (g : Ground) (account : List ℕ) (c : Creating) (s : Progress) (before after : ℕ) (r : Reported) (p : Plan) : Type 0 where
  pub reply : p.reply ≡ object (fields_of (reply_members account before after r))
  pub edits : p.edits ≡ all_edits g.content c s
  pub made : p.made ≡ c.fresh
  pub blobs : p.blobs ≡ c.blobs
  pub before_is : before ≡ present_state kind g
  pub after_is : after ≡ state_after kind g p.edits
  pub reported : r ≡ with_creates c s.reported

pub finished : (kind : Kind) (g : Ground) (account : List ℕ) (c : Creating) (s : Progress) (before after : ℕ) (r : Reported) (p : Plan) → Parts kind g account c s before after r p → p ≡ plan_after kind g account c s
finished kind g account c s before after r p parts =
    let state = present_state kind g in
    let told = with_creates c s.reported in
    ap (λ (t : Tree). plan_with t p.edits p.made p.blobs) parts.reply
    ∙ (ap (λ n. built account n after r p.edits p.made p.blobs) parts.before_is
    ∙ (ap (λ n. built account state n r p.edits p.made p.blobs) parts.after_is
    ∙ (ap (λ (x : Reported). built account state (state_after kind g p.edits) x p.edits p.made p.blobs) parts.reported
    ∙ (ap (λ (es : List Edit). built account state (state_after kind g es) told es p.made p.blobs) parts.edits
    ∙ ap₂ (λ (m : List Created) (bs : List (List ℕ)). built account state (state_after kind g (all_edits g.content c s)) told (all_edits g.content c s) m bs) parts.made parts.blobs))))
  where
    plan_with : Tree → List Edit → List Created → List (List ℕ) → Plan
    plan_with t es m bs = record { reply = t; edits = es; made = m; blobs = bs }

-- the edits of creates, then of steps, then those that follow
pub edits_from_parts : (first more following own steps : List Edit) (d : List Edit → List Edit) → first ≡ own → more ≡ steps → following ≡ d (first ++ more)
    → (first ++ more) ++ following ≡ (own ++ steps) ++ d (own ++ steps)
edits_from_parts first more following own steps d is same follow =
    ap (λ (es : List Edit). (first ++ more) ++ es) follow ∙ ap (λ (es : List Edit). es ++ d es) (ap₂ (λ (xs ys : List Edit). xs ++ ys) is same)

-- what is reported of creates, and of steps
pub reported_from_parts : (p : Creating) (r s : Reported) (created not_created : List (List ℕ × Tree)) → created ≡ p.created → not_created ≡ p.not_created → r ≡ s
    → (record r { created = created; not_created = not_created }) ≡ with_creates p s
reported_from_parts p r s created not_created is other same =
    ap₂ (λ (x y : List (List ℕ × Tree)). record r { created = x; not_created = y }) is other ∙ ap (with_creates p) same
