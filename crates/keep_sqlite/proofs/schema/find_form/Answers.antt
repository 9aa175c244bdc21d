use Rattle.std.proofs.Common.{refl, ◌∙◌}
use Rattle.keep_sqlite.specs.Format.{about_table, commits_table}
use Rattle.keep_sqlite.proofs.Forms.{found_about, found_commits, never_none, only_some, never_both, its_tree}
use Rattle.keep_sqlite.proofs.schema.find_form.Goals as goal

pub returns-in-None-None-clause-made : goal.returns-in-None-None-clause-made
returns-in-None-None-clause-made c ours = absurd (never_none _ _ c.in-None-None.is-0 (c.find_table.ensures ∙ found_about c.args.schema.now ours))

pub returns-in_default-clause-made : goal.returns-in_default-clause-made
returns-in_default-clause-made c ours = absurd (never_both c.if-is_commits.false (c.is_commits.ensures.1 (its_tree commits_table _ 1 refl (only_some _ _ _ c.in-Some-Some.is-1 (c.find_table-2.ensures ∙ found_commits c.args.schema.now ours)))))

pub returns-in_default-2-clause-made : goal.returns-in_default-2-clause-made
returns-in_default-2-clause-made c ours = absurd (never_both c.if-is_about.false (c.is_about.ensures.1 (its_tree about_table _ 0 refl (only_some _ _ _ c.in-Some-Some.is-0 (c.find_table.ensures ∙ found_about c.args.schema.now ours)))))

pub returns-in_default-3-clause-made : goal.returns-in_default-3-clause-made
returns-in_default-3-clause-made c ours = absurd (never_none _ _ c.in_default.is-1 (c.find_table-2.ensures ∙ found_commits c.args.schema.now ours))

pub returns-in_default-6-clause-made : goal.returns-in_default-6-clause-made
returns-in_default-6-clause-made c ours = absurd (never_none _ _ c.in_default.is-0 (c.find_table.ensures ∙ found_about c.args.schema.now ours))
