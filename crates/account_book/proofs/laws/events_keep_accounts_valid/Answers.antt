use Rattle.account_book.proofs.Running.{kept_valid, other_stays}
use Rattle.record_codec.specs.Sizes.{edit_bytes}
use Rattle.account_book.proofs.laws.events_keep_accounts_valid.Goals as goal

pub returns-clause-kept : goal.returns-clause-kept
returns-clause-kept g c accounts events valid timely =
    let laws = g.met.R.Rules g.world.𝓛 g.world.𝓜 g.world.𝓡 ((λ s x. x), (λ x. x), (λ x. x), λ x. x) in
    let r = c.args.rules.now in
    kept_valid (g.R.Rules.plan_of r) edit_bytes (g.R.Rules.is_whole r) (laws.keeps r) (laws.ignores r) (laws.sound r) (laws.founded r) accounts events valid timely

pub returns-clause-others : goal.returns-clause-others
returns-clause-others g c accounts e account other =
    other_stays (g.R.Rules.plan_of c.args.rules.now) edit_bytes accounts e account other
