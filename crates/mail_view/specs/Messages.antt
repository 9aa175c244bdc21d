-- What is known of a message once it is read.
use Rattle.std.specs.Prelude.{◌≡◌, ℕ, List, All, length}
use Rattle.jm_json.specs.Tree.{Tree}
use Rattle.mime_lines.specs.Fields.{fields_of}
use Rattle.mime_lines.specs.FieldOffsets.{IsWithin}
use Rattle.mime_type.specs.PartTrees.{none}
use Rattle.mime_type.specs.PartViews.{part_before}
use Rattle.mime_tree.specs.PartLimit.{parts_of, walked}
use Rattle.mime_tree.specs.Places.{AllPlaced}
use Rattle.body_lists.specs.Lists.{Lists, lists_in}
use Rattle.body_lists.specs.Views.{lists_of}
use Rattle.mail_view.specs.Sizes.{IsSizeOf}
use Rattle.mail_view.specs.Parts.{leaves_tree, structure_tree}
use Rattle.mail_view.specs.Views.{ArePlaced, nodes_of}
use Rattle.mail_view.specs.declared.message.Message.{Message}

pub record IsRead (m : Message) : Type 0 where
  pub found : m.fields.now ≡ fields_of m.showing.bytes.now
  pub within : All (IsWithin m.showing.bytes.now) m.fields.now
  pub tree : part_before m.root.now none ≡ parts_of m.showing.bytes.now
  pub placed : AllPlaced (length m.showing.bytes.now) (part_before m.root.now none)
  pub walk : nodes_of m.parts.now ≡ walked (parts_of m.showing.bytes.now)
  pub places : ArePlaced (length m.showing.bytes.now) (nodes_of m.parts.now)
  pub lists : lists_of m.lists.now ≡ lists_in (parts_of m.showing.bytes.now)
  pub sizes : All (IsSizeOf m.showing.bytes.now) m.showing.sizes.now

-- the three lists of its leaves (RFC 8621, 4.1.4)
abbrev pub message_lists : Message → Lists
message_lists m = lists_in (parts_of m.showing.bytes.now)

-- the leaves of these numbers
abbrev pub message_leaves : Message → List ℕ → Tree
message_leaves m numbers =
    leaves_tree m.showing.bytes.now m.showing.blob.now m.showing.asked.now
    (parts_of m.showing.bytes.now) numbers

-- its parts as a tree
abbrev pub message_structure : Message → Tree
message_structure m =
    structure_tree m.showing.bytes.now m.showing.blob.now m.showing.asked.now
    (parts_of m.showing.bytes.now)
