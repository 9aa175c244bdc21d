use Rattle.std.proofs.Common.{◌∙◌, sym, subst}
use Rattle.std.specs.List.Sorted.{IsStrictlySortedBy}
use Rattle.std.proofs.lemmas.List.Filters.{dedup_is}
use Rattle.mail_counts.specs.Members.{member_cmp}
use Rattle.mail_counts.proofs.Sorted.{rise-sorted_once, sorted_once-dedup}
use Rattle.mail_counts.proofs.Groups.{member_eq, member_equal, member_ties, member_total}
use Rattle.mail_counts.proofs.members.put_in_order.Goals as goal

pub returns-clause-is : goal.returns-clause-is
returns-clause-is c =
    dedup_is member_eq c.sort_unstable.new.self.items c.dedup.new.self.items c.dedup.ensures.filtered
    ∙ sorted_once-dedup member_total member_equal member_ties c.args.members.now.items c.sort_unstable.new.self.items c.sort_unstable.ensures.permutation c.sort_unstable.ensures.sorted

pub returns-clause-rise : goal.returns-clause-rise
returns-clause-rise c = subst (IsStrictlySortedBy member_cmp) (sym (returns-clause-is c)) (rise-sorted_once member_total c.args.members.now.items)
