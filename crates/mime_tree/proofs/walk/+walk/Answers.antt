use Rattle.std.proofs.Common.{◌≡◌, ◌≤◌, ◌<◌, ◌+◌, ◌-◌, ◌∷◌, length, take, drop, Some, rules, subst, sym, ap, ◌∙◌, arith}
use Rattle.std.specs.Prelude.{slice_range}
use Rattle.mime_lines.specs.Lines.{lines}
use Rattle.mime_cut.specs.Cut.{piece, cut, after_line}
use Rattle.mime_type.specs.PartTrees.{none, part}
use Rattle.mime_type.specs.PartViews.{node_of, part_before, joined}
use Rattle.mime_tree.specs.Tree.{part_tree, trees_of, within}
use Rattle.mime_tree.specs.Tree.{is_digest as digest_of}
use Rattle.mime_tree.specs.Places.{AllPlaced}
use Rattle.mime_tree.specs.PartLimit.{next_number}
use Rattle.mime_tree.specs.Budget.{taken}
use Rattle.mime_tree.proofs.TakenFacts.{took, onto, taken_zero, part_alone, part_first, inner_of, inner_more, onto_push, finished}
use Rattle.mime_tree.proofs.HeadFacts.{entered, not_numbered, same_next, body_slice, part_placed, numbered_placed, placed_push}
use Rattle.mime_tree.proofs.SliceFacts.{length-slice, take-slice, drop-slice}
use Rattle.mime_tree.proofs.walk.+walk.Goals as goal

pub read_part_tree-read_parts_within-requires : goal.read_part_tree-read_parts_within-requires
read_part_tree-read_parts_within-requires t c =
    let message = c.args.message.now in
    let p = piece c.args.start (slice_range message c.args.start c.args.end) in
    let node = node_of c.in_ok-part.part in
    let body = body_slice message c.args.start c.args.end c.args.levels c.args.digest node c.requires.ordered c.requires.inside c.in_ok-part.ensures.node in
    (search rules, (entered c.args.levels c.args.digest p node c.in_ok-part.ensures.node c.if-is_none.ensures, (body.1, (body.2, omega arith))))

pub read_part_tree-returns-clause-taken : goal.read_part_tree-returns-clause-taken
read_part_tree-returns-clause-taken t c =
    let message = c.args.message.now in
    let bytes = slice_range message c.args.start c.args.end in
    let p = piece c.args.start bytes in
    let node = node_of c.in_ok-part.part in
    let n = c.args.budget.now.left in
    let m = c.args.budget.now.number in
    let k = c.read_parts_within.new.budget.left in
    let j = c.read_parts_within.new.budget.number in
    let levels = entered c.args.levels c.args.digest p node c.in_ok-part.ensures.node c.if-is_none.ensures in
    let body = body_slice message c.args.start c.args.end c.args.levels c.args.digest node c.requires.ordered c.requires.inside c.in_ok-part.ensures.node in
    let inner : inner_of c.args.levels c.args.digest p ≡ within (part_tree (c.args.levels - 1) (digest_of node)) node.boundary node.body (slice_range message node.body node.end) =
    inner_more c.args.levels c.args.digest p node (slice_range message node.body node.end) levels c.in_ok-part.ensures.node body.0 in
    part_alone c.args.levels c.args.digest p n m k j node c.in_ok-parts.parts c.requires.some c.in_ok-part.ensures.node
    (ap (λ f. taken f (n - 1) (next_number node m)) inner
    ∙ ap (taken (within (part_tree (c.args.levels - 1) (digest_of node)) node.boundary node.body (slice_range message node.body node.end)) (n - 1)) (same_next node m c.if-is_none.ensures)
    ∙ c.in_ok-parts.ensures.taken)
    ∙ ap (λ x. took (part x c.in_ok-parts.parts none) k j) (not_numbered c.args.levels c.args.digest p node m c.in_ok-part.ensures.node c.if-is_none.ensures)

pub read_parts_within-loop-found-init : goal.read_parts_within-loop-found-init
read_parts_within-loop-found-init t c =
    let message = c.args.message.now in
    let part = c.args.part.now in
    let b = c.as_bytes-boundary.result.now in
    let bytes = slice_range message part.body part.end in
    let found = c.find_delimiter-found.result in
    let each = part_tree (c.args.levels - 1) c.is_digest-digest.result in
    let later = after_line b found.kind (part.body + found.size) (lines found.rest.now) in
    let count : length bytes ≡ part.end - part.body = length-slice message part.body part.end c.requires.ordered c.requires.inside in
    let inside : found.size ≤ length bytes = c.find_delimiter-found.ensures.within in
    record {
      taken = ap (λ items. onto items (taken (trees_of each later) c.args.budget.now.left c.args.budget.now.number)) c.new-items.ensures.items
          ∙ ap (λ ps. taken (trees_of each ps) c.args.budget.now.left c.args.budget.now.number) (sym (c.find_delimiter-found.ensures.cut part.body));
      rest = c.find_delimiter-found.ensures.rest ∙ drop-slice message part.body part.end found.size (omega arith);
      placed = subst (λ items. AllPlaced (length message) (joined items none)) (sym c.new-items.ensures.items) tt;
      ordered = omega arith;
      room = c.requires.room;
    }

pub read_parts_within-returns-then-budget-eq0-clause-taken : goal.read_parts_within-returns-then-budget-eq0-clause-taken
read_parts_within-returns-then-budget-eq0-clause-taken t c =
    let message = c.args.message.now in
    let part = c.args.part.now in
    let b = c.as_bytes-boundary.result.now in
    let bytes = slice_range message part.body part.end in
    let each = part_tree (c.args.levels - 1) c.is_digest-digest.result in
    let rest = trees_of each (after_line b c.loop-found.found.kind c.loop-found.offset (lines c.loop-found.found.rest.now)) in
    let number = c.loop-found.budget.number in
    ap (λ d. taken (within (part_tree (c.args.levels - 1) d) part.boundary part.body bytes) c.args.budget.now.left c.args.budget.now.number) (sym c.is_digest-digest.ensures)
    ∙ ap (λ o. taken (within each o part.body bytes) c.args.budget.now.left c.args.budget.now.number) (c.in-Some.is ∙ ap Some (sym c.as_bytes-boundary.ensures.value))
    ∙ finished c.loop-found.items.items (taken rest c.loop-found.budget.left number)
    (taken (trees_of each (cut b part.body (lines bytes))) c.args.budget.now.left c.args.budget.now.number) c.from_vec-then-budget-eq0.result c.loop-found.budget.left number
    c.loop-found.invariant.taken
    (ap (λ l. taken rest l number) c.if-budget-eq0.true ∙ taken_zero rest number ∙ ap (λ l. took none l number) (sym c.if-budget-eq0.true))
    c.from_vec-then-budget-eq0.ensures

pub read_parts_within-loop-found-preserved : goal.read_parts_within-loop-found-preserved
read_parts_within-loop-found-preserved t c =
    let message = c.args.message.now in
    let part = c.args.part.now in
    let b = c.as_bytes-boundary.result.now in
    let rest = c.loop-found.found.rest.now in
    let next = c.find_delimiter-next.result in
    let offset = c.loop-found.offset in
    let each = part_tree (c.args.levels - 1) c.is_digest-digest.result in
    let now = piece offset (slice_range message offset (offset + next.before)) in
    let later = after_line b next.kind (offset + next.size) (lines next.rest.now) in
    let some : 0 < c.loop-found.budget.left = omega arith in
    let count : length (slice_range message offset part.end) ≡ part.end - offset = length-slice message offset part.end c.loop-found.invariant.ordered c.requires.inside in
    let same : length rest ≡ length (slice_range message offset part.end) = ap length c.loop-found.invariant.rest in
    let inside : next.size ≤ length rest = c.find_delimiter-next.ensures.within in
    let before : next.before ≤ next.size = c.find_delimiter-next.ensures.ordered in
    let front : take next.before rest ≡ slice_range message offset (offset + next.before) =
    ap (take next.before) c.loop-found.invariant.rest ∙ take-slice message offset part.end next.before (omega arith) in
    let opens : after_line b c.loop-found.found.kind offset (lines rest) ≡ now ∷ later =
    ap (λ m. after_line b m offset (lines rest)) c.in-DelimiterLine.is ∙ c.find_delimiter-next.ensures.pieces offset ∙ ap (λ t. piece offset t ∷ later) front in
    let k = c.read_part_tree.new.budget.left in
    let j = c.read_part_tree.new.budget.number in
    let step : taken (trees_of each (after_line b c.loop-found.found.kind offset (lines rest))) c.loop-found.budget.left c.loop-found.budget.number
    ≡ took (part_before c.in_ok-inner.inner (taken (trees_of each later) k j).parts) (taken (trees_of each later) k j).left (taken (trees_of each later) k j).number =
    ap (λ ps. taken (trees_of each ps) c.loop-found.budget.left c.loop-found.budget.number) opens
    ∙ part_first (c.args.levels - 1) c.is_digest-digest.result now (trees_of each later) c.loop-found.budget.left c.loop-found.budget.number k j
    (node_of c.in_ok-inner.inner) c.in_ok-inner.inner.parts some c.in_ok-inner.ensures.taken in
    record {
      taken = ap (λ items. onto items (taken (trees_of each later) k j)) c.in_ok-push.ensures.items
          ∙ onto_push c.loop-found.items.items c.in_ok-inner.inner (taken (trees_of each later) k j) _ step
          ∙ c.loop-found.invariant.taken;
      rest = c.find_delimiter-next.ensures.rest ∙ ap (drop next.size) c.loop-found.invariant.rest ∙ drop-slice message offset part.end next.size (omega arith);
      placed = subst (λ items. AllPlaced (length message) (joined items none)) (sym c.in_ok-push.ensures.items)
          (placed_push (length message) c.loop-found.items.items c.in_ok-inner.inner c.loop-found.invariant.placed c.in_ok-inner.ensures.placed);
      ordered = omega arith;
      room = c.in_ok-inner.ensures.room;
    }

pub read_part_tree-returns-then-is_none-clause-placed : goal.read_part_tree-returns-then-is_none-clause-placed
read_part_tree-returns-then-is_none-clause-placed t c =
    let size = length c.args.message.now in
    let node = node_of c.in_ok-part.part in
    let here = part_placed c.args.message.now c.args.start c.args.end c.args.levels c.args.digest node c.requires.ordered c.requires.inside c.in_ok-part.ensures.node in
    (numbered_placed size node (Some c.args.budget.now.number) here, subst (AllPlaced size) (sym c.in_ok-part.ensures.parts) tt, tt)

pub read_part_tree-returns-clause-placed : goal.read_part_tree-returns-clause-placed
read_part_tree-returns-clause-placed t c =
    let node = node_of c.in_ok-part.part in (
      part_placed c.args.message.now c.args.start c.args.end c.args.levels c.args.digest node c.requires.ordered c.requires.inside c.in_ok-part.ensures.node,
      c.in_ok-parts.ensures.placed,
      tt,
    )
