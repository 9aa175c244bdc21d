use Rattle.std.proofs.Common.{drop}
use Rattle.filter_terms.specs.Targets.{email_in_thread}
use Rattle.filter_terms.proofs.Certain.{AllFollow, SomeFollow}
use Rattle.filter_terms.proofs.without_texts.+known.Given as goal

abbrev pub invariant-match_all_without_texts-loop-item : goal.invariant-match_all_without_texts-loop-item
invariant-match_all_without_texts-loop-item l = AllFollow (drop l.item-index l.items) l.items l.all (email_in_thread l.content.content.emails l.email)

abbrev pub invariant-match_some_without_texts-loop-item : goal.invariant-match_some_without_texts-loop-item
invariant-match_some_without_texts-loop-item l = SomeFollow (drop l.item-index l.items) l.items l.all (email_in_thread l.content.content.emails l.email)
