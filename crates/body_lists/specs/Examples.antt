-- Trees of messages for examples.
use Rattle.std.specs.Prelude.{ℕ, List, ◌++◌, Option, Some, None, codes}
use Rattle.mime_codec.specs.declared.coding.Coding.TheVariants.{Plain}
use Rattle.mime_type.specs.PartTrees.{Node, PartTrees, none, part}

abbrev pub node : Option ℕ → List ℕ → Option (List ℕ) → Option (List ℕ) → Option (List ℕ) → Node
node number media boundary disposition name = record {
  start = 0;
  body = 0;
  end = 0;
  number = number;
  media = media;
  charset = None;
  boundary = boundary;
  disposition = disposition;
  name = name;
  cid = None;
  language = None;
  location = None;
  coding = Plain;
}

-- a leaf with this number and type before others
abbrev pub leaf : ℕ → List ℕ → PartTrees → PartTrees
leaf number media later = part (node (Some number) media None None None) none later

-- a leaf with a name
abbrev pub named : ℕ → List ℕ → PartTrees → PartTrees
named number media later = part (node (Some number) media None None (Some (codes "a"))) none later

-- a leaf that is an attachment
abbrev pub attached : ℕ → List ℕ → PartTrees → PartTrees
attached number media later =
    part (node (Some number) media None (Some (codes "attachment")) None) none later

-- a multipart of this subtype with these parts before others
abbrev pub multipart : List ℕ → PartTrees → PartTrees → PartTrees
multipart kind inner later =
    part (node None (codes "multipart/" ++ kind) (Some (codes "b")) None None) inner later

-- RFC 8621, section 4.1.4: A and K, B and D are plain text, E is HTML, C, F and G are images
abbrev pub example : PartTrees
example =
    multipart (codes "mixed") (
    leaf 1 (codes "text/plain") (
    multipart (codes "mixed") (
    multipart (codes "alternative") (
    multipart (codes "mixed") (leaf 2 (codes "text/plain")
    (leaf 3 (codes "image/jpeg") (leaf 4 (codes "text/plain") none))) (
    multipart (codes "related") (leaf 5 (codes "text/html") (leaf 6 (codes "image/jpeg") none))
    none)) (
    attached 7 (codes "image/jpeg") (
    leaf 8 (codes "application/x-excel") (
    leaf 9 (codes "message/rfc822") none)))) (
    leaf 10 (codes "text/plain") none))) none
