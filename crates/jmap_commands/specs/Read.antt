-- What `read` writes for the message that it reads: its JSON view as one line.
use Rattle.std.specs.Prelude.{ℕ, List, true, None, codes}
use Rattle.jm_json.specs.Tree.{Tree, null}
use Rattle.get_args.specs.Wanted.{Reading, invalid, asked, read_arguments, wanted_in}
use Rattle.mail_view.specs.View.{view_tree}
use Rattle.batch_lines.specs.Replies.{line_text}

-- A message is shown as the blob b1, and as no email. The arguments have their form
-- (`arguments_of_read_are_taken` of get_args).
abbrev pub shown_by : List ℕ → Reading → Tree
shown_by bytes (invalid name) = null
shown_by bytes (asked wanted) = view_tree bytes (codes "b1") None wanted

-- the properties of a parsed message, its structure, and the texts of the parts that are shown as
-- plain text
abbrev pub read_tree : List ℕ → Tree
read_tree bytes = shown_by bytes (wanted_in read_arguments true)

-- what is written for a message
unfoldable pub read_out : List ℕ → List ℕ
read_out bytes = line_text (read_tree bytes)
