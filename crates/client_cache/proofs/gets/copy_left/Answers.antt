use Rattle.std.proofs.Common.{sym, ◌∙◌, arith}
use Rattle.std.proofs.lemmas.List.{drop_all}
use Rattle.client_cache.proofs.gets.copy_left.Goals as goal

pub returns-then-asked-le-MAX_IDS : goal.returns-then-asked-le-MAX_IDS
returns-then-asked-le-MAX_IDS c = c.new.ensures ∙ sym (drop_all 500 c.args.asked.now (omega (arith, c.if-asked-le-MAX_IDS.true)))
