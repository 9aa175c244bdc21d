use Rattle.std.proofs.Common.{rules, ◌≡◌, None, length, refl}
use Rattle.account_book.specs.Opening.{IsContentFault, MakesHistory}
use Rattle.account_book.proofs.Answering.{IfErr-weaken, IfOk-weaken}
use Rattle.account_book.proofs.Opened.{MakesHistory-loaded, content_at_fault, content_damaged}
use Rattle.account_book.proofs.start.load_content.Goals as goal

pub returns-in-Ok-clause-makes : goal.returns-in-Ok-clause-makes
returns-in-Ok-clause-makes g c =
    let k = c.args.content in
    let none : k.base ≡ None = search rules in
    IfOk-weaken c.finish_loading.result _ (λ a. MakesHistory k a.history)
    (λ a same. MakesHistory-loaded k k.rows c.in-Ok.loading a.history none refl c.in-Ok.ensures.ok same) c.finish_loading.ensures.same

pub returns-in-Ok-clause-err : goal.returns-in-Ok-clause-err
returns-in-Ok-clause-err g c =
    let k = c.args.content in
    let whole = g.R.Rules.is_whole c.args.rules.now in
    let laws = g.met.R.Rules g.world.𝓛 g.world.𝓜 g.world.𝓡 ((λ s x. x), (λ x. x), (λ x. x), λ x. x) in
    let none : k.base ≡ None = search rules in
    let last : c.len-count.result ≡ length k.rows = search rules in
    IfErr-weaken c.finish_loading.result _ (IsContentFault whole k)
    (λ e end. content_damaged whole (laws.empty c.args.rules.now) k k.rows c.in-Ok.loading c.len-count.result e none refl c.in-Ok.ensures.ok last end) c.finish_loading.ensures.err

pub returns-clause-err : goal.returns-clause-err
returns-clause-err g c =
    let k = c.args.content in
    let whole = g.R.Rules.is_whole c.args.rules.now in
    let none : k.base ≡ None = search rules in
    content_at_fault whole k k.rows c.in-Err.fault none refl c.in-Err.ensures.err
