use Rattle.std.proofs.Common.{◌≡◌, ◌∙◌, ap, sym, subst, length, List}
use Rattle.mime_type.specs.PartTrees.{Node, none}
use Rattle.mime_type.specs.PartViews.{part_before}
use Rattle.mime_tree.specs.PartLimit.{walked}
use Rattle.body_lists.specs.Lists.{lists_in}
use Rattle.std.specs.Prelude.{All}
use Rattle.mail_view.specs.Sizes.{IsSizeOf}
use Rattle.mail_view.specs.declared.sizes.BodySize.{BodySize}
use Rattle.mail_view.specs.Views.{ArePlaced, nodes_of}
use Rattle.mail_view.proofs.TreeFacts.{walked_placed}
use Rattle.mail_view.proofs.message_view.write_message_members.Goals as goal

pub write_members-requires-clause-read : goal.write_members-requires-clause-read
write_members-requires-clause-read c =
    let tree = c.in_ok-root.ensures.tree in
    let size = length c.args.bytes.now in
    let walk = ap nodes_of c.as_slice-4.ensures.value ∙ c.in_ok-parts.ensures in
    record {
      found = c.in_ok-head.ensures.fields;
      within = c.in_ok-head.ensures.within;
      tree = tree;
      placed = c.in_ok-root.ensures.places;
      walk = walk ∙ ap walked tree;
      places = subst (λ (xs : List Node). ArePlaced size xs) (sym walk) (walked_placed size (part_before c.in_ok-root.root none) c.in_ok-root.ensures.places);
      lists = c.in_ok-lists.ensures ∙ ap lists_in tree;
      sizes = subst (λ (xs : List BodySize). All (IsSizeOf c.args.bytes.now) xs) (sym c.as_slice-3.ensures.value) c.in_ok-sizes.ensures;
    }

pub collect_shown_sizes-requires : goal.collect_shown_sizes-requires
collect_shown_sizes-requires c =
    let size = length c.args.bytes.now in
    let walk = ap nodes_of c.as_slice.ensures.value ∙ c.in_ok-parts.ensures in
    subst (λ (xs : List Node). ArePlaced size xs) (sym walk) (walked_placed size (part_before c.in_ok-root.root none) c.in_ok-root.ensures.places)
