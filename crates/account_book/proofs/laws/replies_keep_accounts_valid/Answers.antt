use Rattle.account_book.proofs.Running.{replies_valid}
use Rattle.record_codec.specs.Sizes.{edit_bytes}
use Rattle.account_book.proofs.laws.replies_keep_accounts_valid.Goals as goal

pub returns : goal.returns
returns g c h first valid each count low =
    let laws = g.met.R.Rules g.world.𝓛 g.world.𝓜 g.world.𝓡 ((λ s x. x), (λ x. x), (λ x. x), λ x. x) in
    let r = c.args.rules.now in
    replies_valid (g.R.Rules.plan_of r) edit_bytes (g.R.Rules.is_whole r) (laws.keeps r) (laws.ignores r) h first valid each count low
