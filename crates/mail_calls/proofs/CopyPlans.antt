-- The plans of both sides of a copy, from what their functions returned.
use Rattle.std.proofs.Common.{◌≡◌, ℕ, [], Option, Some, None, Result, Ok, Err, IfOk, refl, sym, ap, ◌∙◌}
use Rattle.jm_base.specs.declared.memory.NoMemory.{NoMemory}
use Rattle.jm_json.specs.Call.{Call as Invocation}
use Rattle.jm_json.specs.Tree.{null}
use Rattle.mail_counts.specs.declared.plan.SetFault.{SetFault}
use Rattle.mail_counts.specs.declared.plan.SetFault.TheVariants as fault_of
use Rattle.set_parts.specs.Outcomes.{ExplainsRejection, ExplainsSet, Outcome}
use Rattle.set_parts.specs.Outcomes as sets
use Rattle.account_book.specs.declared.asks.Carried.{Carried}
use Rattle.account_book.specs.declared.plans.Out.TheVariants as out
use Rattle.account_book.specs.declared.plans.Plan.{Plan}
use Rattle.copy_calls.specs.BlobCopies.{BlobPlan}
use Rattle.mail_calls.specs.Plans.{blobs_planned, reading, unless_for, unless_rejected}
use Rattle.mail_calls.proofs.Sets.{AnswersFault}

-- ---- a call that is rejected as a whole

told_of : (fault : SetFault) (c : Invocation) (p q : Plan) (o : Option Outcome) → ((make : sets.Plan → Plan) (x : Outcome) → ExplainsSet fault x → p ≡ unless_rejected c make x) → ExplainsRejection fault o → p ≡ unless_for c q o
told_of (fault_of.Invalid name) c p q o all told = all (λ x. q) (sets.invalid name) refl ∙ sym (ap (unless_for c q) told)
told_of fault_of.TooLarge c p q o all told = all (λ x. q) sets.too_large refl ∙ sym (ap (unless_for c q) told)
told_of fault_of.StateMismatch c p q o all told = all (λ x. q) sets.state_mismatch refl ∙ sym (ap (unless_for c q) told)
told_of fault_of.NoMemory c p q None all told = all (λ x. q) (sets.planned (record { reply = null; edits = []; made = []; blobs = [] })) tt
told_of fault_of.NoMemory c p q (Some o) all told = all (λ x. q) o tt

-- the error of a call whose rejection explains the fault, whatever its plan would be
pub rejected : (r : Result Plan NoMemory) (c : Invocation) (fault : SetFault) (q : Plan) (o : Option Outcome) → ExplainsRejection fault o → AnswersFault r c fault → IfOk r (λ p. p ≡ unless_for c q o)
rejected (Ok p) c fault q o told all = told_of fault c p q o all told
rejected (Err e) c fault q o told all = tt

-- ---- what is fetched

pub fetched : (x y : Carried) (c : Invocation) (o : Option Outcome) → (o ≡ None) × (x ≡ y) → reading (out.Carried x) ≡ unless_for c (reading (out.Carried y)) o
fetched x y c o told = ap (λ (z : Carried). reading (out.Carried z)) told.1 ∙ sym (ap (unless_for c (reading (out.Carried y))) told.0)

-- ---- what is made of it

pub blobs_copied : (r : Result Plan NoMemory) (c : Invocation) (p q : BlobPlan) (o : Option Outcome) → (o ≡ None) × (p ≡ q) → IfOk r (λ x. x ≡ blobs_planned c p) → IfOk r (λ x. x ≡ unless_for c (blobs_planned c q) o)
blobs_copied (Ok x) c p q o told h = h ∙ (ap (blobs_planned c) told.1 ∙ sym (ap (unless_for c (blobs_planned c q)) told.0))
blobs_copied (Err e) c p q o told h = tt
