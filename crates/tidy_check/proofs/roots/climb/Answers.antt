use Rattle.std.proofs.Common.{◌≡◌, ◌≤◌, ◌+◌, ◌∷◌, ◌++◌, [], length, length-append, Some, None, refl, sym, ap, ◌∙◌, subst, arith}
use Rattle.tidy_check.specs.Chains.{IsPath}
use Rattle.tidy_check.proofs.Climbing.{no_root, path_pushed}
use Rattle.tidy_check.proofs.roots.climb.Goals as goal

pub loop-next-init : goal.loop-next-init
loop-next-init c =
    let start = c.args.start in (
      ap length c.mailboxes-limit.ensures.items,
      subst (λ xs. length xs ≤ length c.mailboxes-limit.result.now) (sym c.requires.empty) (omega arith),
      subst (λ xs. IsPath c.args.content.now.content start xs start) (sym c.requires.empty) refl,
    )

pub returns-in-Some-find_known_depth : goal.returns-in-Some-find_known_depth
returns-in-Some-find_known_depth c = (
  Some c.in-Some.number,
  subst (IsPath c.args.content.now.content c.args.start c.loop-next.path.items) c.in-Some.is c.loop-next.invariant.2,
  c.requires.depths c.in-Some.number c.in-Some-find_known_depth.depth (sym c.find_known_depth.ensures ∙ c.in-Some-find_known_depth.is),
)

pub returns-then-len-limit : goal.returns-then-len-limit
returns-then-len-limit c =
    let here = c.loop-next.invariant in
    let count = here.0 in
    let most = here.1 in
    let least = c.if-len-limit.true in
    let len = c.len.ensures in
    no_root c.args.content.now.content c.args.start c.loop-next.path.items c.in-Some.number
    (subst (IsPath c.args.content.now.content c.args.start c.loop-next.path.items) c.in-Some.is here.2) (omega (arith, count, most, least, len))

pub loop-next-preserved : goal.loop-next-preserved
loop-next-preserved c =
    let content = c.args.content.now.content in
    let start = c.args.start in
    let here = c.loop-next.invariant in
    let less = c.if-len-limit.false in
    let len = c.len.ensures in
    let items : c.push.new.self.items ≡ c.loop-next.path.items ++ c.in-Some.number ∷ [] = c.in_ok-push.ensures.items in
    let more = ap length items ∙ length-append c.loop-next.path.items (c.in-Some.number ∷ []) in (
      here.0,
      omega (arith, less, len, more),
      subst (λ xs. IsPath content start xs c.find_parent-next.result) (sym items)
          (subst (IsPath content start (c.loop-next.path.items ++ c.in-Some.number ∷ [])) (sym c.find_parent-next.ensures)
          (path_pushed content start c.loop-next.path.items c.in-Some.number (subst (IsPath content start c.loop-next.path.items) c.in-Some.is here.2))),
    )

pub returns : goal.returns
returns c = (None, subst (IsPath c.args.content.now.content c.args.start c.loop-next.path.items) c.in_default.is c.loop-next.invariant.2, refl)
