-- What contracts see of the code's own types.
use Rattle.std.specs.Prelude.{ℕ, List, [], ◌∷◌, map, Option, option_map}
use denote.Ref.{Bor}
use Rattle.mail_records.specs.declared.records.Email.{Email as EmailRecord}
use Rattle.mime_type.specs.PartTrees.{Node}
use Rattle.mime_type.specs.PartViews.{node_of}
use Rattle.mime_type.specs.declared.part.Part.{Part}
use Rattle.mime_tree.specs.Places.{IsPlaced}

-- the email that a message is, if it is one
abbrev pub email_of : Option (Bor EmailRecord) → Option EmailRecord
email_of email = option_map (λ e. e.now) email

-- parts without those within them
abbrev pub nodes_of : List (Bor Part) → List Node
nodes_of parts = map (λ p. node_of p.now) parts

-- the byte offsets of each lie in a message of this size
abbrev pub ArePlaced : ℕ → List Node → Type 0
ArePlaced size [] = Unit {0}
ArePlaced size (x ∷ xs) = IsPlaced size x × ArePlaced size xs
