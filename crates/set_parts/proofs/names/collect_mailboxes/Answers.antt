use Rattle.std.proofs.Common.{◌≡◌, ◌∙◌, ◌+◌, ◌++◌, ℕ, List, ◌∷◌, map, drop, option_map, sym, ap, subst}
use Rattle.std.proofs.lemmas.List.{drop_more}
use Rattle.jm_json.specs.Json.{member_of, tree_of}
use Rattle.jm_json.specs.Tree.{Tree}
use Rattle.jm_json.specs.declared.invocation.Created.{Created}
use Rattle.jm_json.specs.declared.tree.Member.{Member}
use Rattle.jm_base.specs.declared.identifiers.Kind.TheVariants.{Mailbox as OfMailbox}
use Rattle.set_parts.specs.CreationIds.{number_meant}
use Rattle.set_parts.specs.Names.{meanings}
use Rattle.set_parts.specs.Views.{HoldIds}
use Rattle.set_parts.proofs.Sets.{meaning_step}
use Rattle.set_parts.proofs.names.collect_mailboxes.Goals as goal

pub loop-member-preserved : goal.loop-member-preserved
loop-member-preserved g c =
    λ (made : List Created) (h : HoldIds c.args.ids.now made).
    let f = number_meant OfMailbox (g.N.MailboxNumbers.numbers c.args.mailboxes.now) made in
    let ms = c.args.members.now in
    let i = c.loop-member.member-index in
    let item : Member = c.member-item.result in
    let rest : List (List ℕ × Tree) = map member_of (drop (i + 1) ms) in
    let further : member_of item ∷ rest ≡ map member_of (drop i ms) =
    ap (λ (m : Member). member_of m ∷ rest) c.member-item.is ∙ sym (ap (map member_of) (drop_more ms i item c.loop-member-test.true)) in
    subst (λ (ns : List ℕ). option_map (λ xs. ns ++ xs) (meanings f rest) ≡ meanings f (map member_of ms)) (sym c.in_ok-push-in-Some.ensures.items)
    (meaning_step f c.loop-member.numbers.items item.name (tree_of item.value) rest c.in-Some.number (sym c.is_true.ensures ∙ c.if-not-is_true.false)
    (ap f (sym c.as_str.ensures) ∙ (sym (c.find_mailbox.ensures made h) ∙ c.in-Some.is))
    ∙ (ap (λ (xs : List (List ℕ × Tree)). option_map (λ ys. c.loop-member.numbers.items ++ ys) (meanings f xs)) further ∙ c.loop-member.invariant made h))
