-- What the reply to a set with one update says of it.
use Rattle.std.proofs.Common.{◌≡◌, ◌∙◌, ℕ, List, [], ◌∷◌, ◌++◌, Bool, true, false, cond, Option, Some, None, unwrap_or, option_and_then, refl, sym, ap, subst, codes, bytes_eq}
use Rattle.std.proofs.lemmas.Slice.Eq.{bytes_eq-Decides}
use Rattle.jm_base.specs.declared.identifiers.Kind.TheVariants.{Email as OfEmail}
use Rattle.jm_json.specs.Find.{find}
use Rattle.jm_json.specs.Tree.{Tree, null, object, text, fields_of}
use Rattle.jm_json.specs.declared.invocation.Created.{Created}
use Rattle.mail_counts.specs.Plans.{Ground}
use Rattle.set_parts.specs.Arguments.{Create, Update, account_in, creates_in, destroys_in, updates_in}
use Rattle.set_parts.specs.CreationIds.{by_reference, reference, reported_id}
use Rattle.set_parts.specs.Creates.{before_creates}
use Rattle.set_parts.specs.Plans.{plan_after}
use Rattle.set_parts.specs.Steps.{after_update, before_steps}
use Rattle.set_parts.specs.SetErrors.{error_tree}
use Rattle.set_parts.specs.declared.steps.Step.{Step}
use Rattle.set_parts.specs.declared.steps.Step.TheVariants.{Rejected, Done}
use Rattle.email_set.specs.Emails.{after_steps, update_email}
use Rattle.email_set.specs.OneUpdates.{HasOneUpdate, IdsAreReportedAsSent, IsAnswered, IsOfStep, OneUpdateIsAnswered, OneUpdateIsPlanned, one_update}
use Rattle.email_set.specs.Plans.{plan_in, steps_of}

-- what is found first
found_first : (id : List ℕ) (t : Tree) → find id ((id, t) ∷ []) ≡ Some t
found_first id t = ap (λ b. cond b (Some t) None) ((bytes_eq-Decides id id).1 refl)

-- the plan of a step, after no creates
of_step : (g : Ground) (made : List Created) (account id : List ℕ) (step : Step)
    → IsOfStep g id step (plan_after OfEmail g account (before_creates g.content made) (after_update id (before_steps g.content) step))
of_step g made account id (Rejected error) =
    record {
      reply = record { updated = refl; not_updated = found_first id (error_tree error) };
      edits = refl;
      new_state = refl;
    }
of_step g made account id (Done edits) =
    record {
      reply = record { updated = found_first id null; not_updated = refl };
      edits = refl;
      new_state = refl;
    }

pub one_planned : OneUpdateIsPlanned
one_planned g made ms account x one =
    let c = g.content in
    let p = before_creates c made in
    subst (λ (us : List Update). IsOfStep g (reported_id made x.id) (update_email made [] c x) (plan_after OfEmail g account p (after_steps (before_steps c) made us (destroys_in ms)))) (sym one.updates)
    (subst (λ (ds : List (List ℕ)). IsOfStep g (reported_id made x.id) (update_email made [] c x) (plan_after OfEmail g account p (after_steps (before_steps c) made (x ∷ []) ds))) (sym one.destroys)
    (of_step g made account (reported_id made x.id) (update_email made [] c x)))

-- the arguments that a client sends
one_sent : (account : List ℕ) (x : Update) → HasOneUpdate (one_update account x) x
one_sent account x = record { creates = refl; updates = refl; destroys = refl }

pub one_answered : OneUpdateIsAnswered
one_answered g made account x =
    let ms = one_update account x in
    record {
      plan = plan_in g made ms;
      outcome = refl;
      step = one_planned g made ms (account_in ms) x (one_sent account x);
    }

by_none : (id : List ℕ) (o : Option (List ℕ)) → unwrap_or (by_reference [] id o) id ≡ id
by_none id None = refl
by_none id (Some k) = refl

pub as_sent : IdsAreReportedAsSent
as_sent id = by_none id (reference id)
