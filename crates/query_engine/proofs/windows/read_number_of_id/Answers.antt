use Rattle.query_engine.proofs.Anchors.{no_id, of_kind}
use Rattle.std.proofs.Common.{sym, ◌∙◌}
use Rattle.query_engine.proofs.windows.read_number_of_id.Goals as goal

pub returns-then-is_kind-clause-some : goal.returns-then-is_kind-clause-some
returns-then-is_kind-clause-some c =
    λ m. of_kind c.args.kind c.in-Ok.found c.args.id.now m c.in-Ok.ensures.ok.0 c.in-Ok.ensures.ok.1 (sym c.is_kind.ensures ∙ c.if-is_kind.true)

pub returns-in-Err-clause-none : goal.returns-in-Err-clause-none
returns-in-Err-clause-none c = λ m. no_id c.args.kind c.args.id.now m c.in-Err.ensures.err
