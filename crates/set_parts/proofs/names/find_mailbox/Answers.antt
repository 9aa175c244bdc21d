use Rattle.std.proofs.Common.{Some, None, cond, sym, ap, ◌∙◌, subst, List}
use Rattle.jm_json.specs.declared.invocation.Created.{Created}
use Rattle.set_parts.specs.CreationIds.{identifier}
use Rattle.set_parts.specs.Views.{MeansIfAny}
use Rattle.set_parts.proofs.Naming.{named_some, named_nothing}
use Rattle.set_parts.specs.Views.{HoldIds}
use Rattle.set_parts.proofs.names.find_mailbox.Goals as goal

pub returns-in-None : goal.returns-in-None
returns-in-None g c =
    λ (made : List Created) (h : HoldIds c.args.ids.now made).
    sym (named_nothing (g.N.MailboxNumbers.numbers c.args.mailboxes.now) (identifier made c.args.id.now) (subst (MeansIfAny (identifier made c.args.id.now)) c.in-None.is (c.find_number.ensures made h)))

pub returns-then-has : goal.returns-then-has
returns-then-has g c =
    λ (made : List Created) (h : HoldIds c.args.ids.now made).
    sym (named_some (g.N.MailboxNumbers.numbers c.args.mailboxes.now) (identifier made c.args.id.now) c.in-Some.number (subst (MeansIfAny (identifier made c.args.id.now)) c.in-Some.is (c.find_number.ensures made h))
    ∙ ap (λ b. cond b (Some c.in-Some.number) None) (sym c.has.ensures ∙ c.if-has.true))

pub returns-else-has : goal.returns-else-has
returns-else-has g c =
    λ (made : List Created) (h : HoldIds c.args.ids.now made).
    sym (named_some (g.N.MailboxNumbers.numbers c.args.mailboxes.now) (identifier made c.args.id.now) c.in-Some.number (subst (MeansIfAny (identifier made c.args.id.now)) c.in-Some.is (c.find_number.ensures made h))
    ∙ ap (λ b. cond b (Some c.in-Some.number) None) (sym c.has.ensures ∙ c.if-has.false))
