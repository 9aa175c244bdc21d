use Rattle.std.proofs.Common.{◌≡◌, ◌+◌, ◌*◌, ◌++◌, map, take, drop}
use Rattle.json.specs.Tree.{json_tokens, items_tokens, members_tokens}
use Rattle.serde_json.specs.Data.{array, object, no_members}
use Rattle.serde_json.specs.Written.{outline, items_outline, members_outline}
use Rattle.jm_json.specs.Tree.{trees_of, fields_of}
use Rattle.jm_json.specs.Size.{size_of, trees_size, fields_size}
use Rattle.jm_json.specs.Json.{tree_of, member_of}
use Rattle.jm_json.specs.JsonValues.{items_of, members_of}
use Rattle.jm_json.specs.RoundTrips.{AreReadBack, MembersReadBack}
use Rattle.jm_json.proofs.writer.+put.Given as goal

abbrev pub decreases-put_tree : goal.decreases-put_tree
decreases-put_tree l = 2 * size_of (tree_of l.tree.now)

abbrev pub decreases-put_items : goal.decreases-put_items
decreases-put_items l = 2 * trees_size (trees_of (map tree_of l.items.now)) + 1

abbrev pub decreases-put_members : goal.decreases-put_members
decreases-put_members l = 2 * fields_size (fields_of (map member_of l.members.now)) + 1

-- what is left are the tokens of the items from here on; if these are read back, all are
abbrev pub invariant-put_items-loop-item : goal.invariant-put_items-loop-item
invariant-put_items-loop-item l = record {
  tokens : l.out.tokens ++ items_tokens (items_outline (items_of (trees_of (map tree_of (drop l.item-index l.items)))))
      ≡ l.fn.out.tokens ++ json_tokens (outline (array (items_of (trees_of (map tree_of l.items)))));
  before : l.out.before ≡ l.fn.out.before;
  read : AreReadBack (items_of (trees_of (map tree_of (drop l.item-index l.items)))) → AreReadBack (items_of (trees_of (map tree_of l.items)));
}

abbrev pub invariant-put_members-loop-member : goal.invariant-put_members-loop-member
invariant-put_members-loop-member l = record {
  tokens : l.out.tokens ++ members_tokens (members_outline (members_of (fields_of (map member_of (drop l.member-index l.members)))))
      ≡ l.fn.out.tokens ++ json_tokens (outline (object (members_of (fields_of (map member_of l.members)))));
  before : l.out.before ≡ l.fn.out.before;
  read : MembersReadBack (members_of (fields_of (map member_of (take l.member-index l.members)))) (members_of (fields_of (map member_of (drop l.member-index l.members))))
      (members_of (fields_of (map member_of l.members)))
      → MembersReadBack no_members (members_of (fields_of (map member_of l.members))) (members_of (fields_of (map member_of l.members)));
}
