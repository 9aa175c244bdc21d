use Rattle.std.proofs.Common.{sym, subst, arith, List, ◌∷◌, ◌++◌}
use Rattle.std.specs.Prelude.{All}
use Rattle.std.proofs.lemmas.List.Elements.{All-push}
use Rattle.mail_view.specs.Sizes.{IsSizeOf}
use Rattle.mail_view.specs.declared.sizes.BodySize.{BodySize}
use Rattle.mail_view.proofs.TreeFacts.{placed_at}
use Rattle.mail_view.proofs.sizes.list_sizes.Goals as goal

pub build_body_size-requires : goal.build_body_size-requires
build_body_size-requires c =
    rw (sym c.part-item.is) at (placed_at _ c.args.parts.now c.loop-part.part-index c.part-item.result (omega arith) c.requires)

pub loop-part-preserved : goal.loop-part-preserved
loop-part-preserved c =
    let bytes = c.args.bytes.now in
    subst (λ (xs : List BodySize). All (IsSizeOf bytes) xs) (sym c.in_ok-push.ensures.items)
    (All-push (IsSizeOf bytes) c.loop-part.sizes.items c.build_body_size.result c.loop-part.invariant c.build_body_size.ensures)
