-- The plans of calls that read are those that clients know of.
use Rattle.std.proofs.Common.{◌≡◌, ℕ, List, Bool, refl, ap, ◌∙◌}
use Rattle.jm_base.specs.declared.identifiers.Kind.TheVariants.{Mailbox, Email, Thread}
use Rattle.jm_json.specs.Call.{Call as Invocation}
use Rattle.jm_json.specs.Invocations.{call_of}
use Rattle.jm_json.specs.declared.invocation.Created.{Created}
use Rattle.mail_records.specs.Histories.{History}
use Rattle.read_replies.specs.Reads.{PlansReads, ReadMethod, gets, changes, mailbox_query, email_query, mailbox_query_changes, email_query_changes, read_name, read_plan}
use Rattle.mail_calls.specs.Methods.{method_named}
use Rattle.mail_calls.specs.Plans.{call_plan, plan_by}

by_name : (h : History) (c : Invocation) (made : List Created) (read_only : Bool) (moment : ℕ)
    (method : ReadMethod)
    → plan_by h c made read_only moment (method_named (read_name method))
    ≡ read_plan h c read_only method
by_name h c made read_only moment (gets Mailbox) = refl
by_name h c made read_only moment (gets Thread) = refl
by_name h c made read_only moment (gets Email) = refl
by_name h c made read_only moment (changes Mailbox) = refl
by_name h c made read_only moment (changes Thread) = refl
by_name h c made read_only moment (changes Email) = refl
by_name h c made read_only moment mailbox_query = refl
by_name h c made read_only moment email_query = refl
by_name h c made read_only moment mailbox_query_changes = refl
by_name h c made read_only moment email_query_changes = refl

pub plans_reads : PlansReads call_plan
plans_reads h c made read_only moment method name =
    ap (λ (n : List ℕ). plan_by h (call_of c) made read_only moment (method_named n)) name
    ∙ by_name h (call_of c) made read_only moment method
