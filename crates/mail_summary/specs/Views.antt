-- What contracts see of the code's own types.
use Rattle.std.specs.Prelude.{ℕ, List}
use denote.Ref.{Bor}
use Rattle.mime_type.specs.PartTrees.{Node}
use Rattle.mime_type.specs.PartViews.{node_of}
use Rattle.mime_type.specs.declared.part.Part.{Part}
use Rattle.mail_summary.specs.Texts.{Value}
use Rattle.mail_summary.specs.declared.body_value.BodyValue.{BodyValue}

abbrev pub node_in : Bor Part → Node
node_in p = node_of p.now

abbrev pub bytes_in : Bor (List ℕ) → List ℕ
bytes_in s = s.now

abbrev pub value_of : BodyValue → Value
value_of v = record { value = v.text; problem = v.problem; truncated = v.truncated }
