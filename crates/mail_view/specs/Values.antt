-- The decoded text of body parts: bodyValues (RFC 8621, 4.1.4 and 4.2).
use Rattle.std.specs.Prelude.{ℕ, Bool, ◌&&◌, ◌||◌, List, [], ◌∷◌, ◌++◌, decimal, Option, Some, None, nat_eq, codes, if◌then◌else◌}
use Rattle.std.specs.List.{flat_map, starts_with}
use Rattle.jm_json.specs.Tree.{Tree, boolean, text}
use Rattle.mime_type.specs.PartTrees.{Node, PartTrees}
use Rattle.mime_tree.specs.PartLimit.{walked}
use Rattle.body_lists.specs.Lists.{Lists, lists_in}
use Rattle.mail_summary.specs.Leaves.{is_among}
use Rattle.mail_summary.specs.Texts.{Value, body_value}
use Rattle.mail_view.specs.Objects.{members_tree}
use Rattle.get_args.specs.declared.wanted.Wanted.{Wanted}

abbrev pub value_tree : Value → Tree
value_tree v =
    members_tree
    ((codes "isEncodingProblem", boolean v.problem)
    ∷ (codes "isTruncated", boolean v.truncated)
    ∷ (codes "value", text v.value)
    ∷ [])

abbrev pub is_text_part : Node → Bool
is_text_part x = starts_with nat_eq x.media (codes "text/")

-- the text of a part is asked for: that of each part of a list is, or of all parts
abbrev pub is_asked : Wanted → Lists → Node → Bool
is_asked wanted lists x =
    is_text_part x
    && (wanted.all_values
    || ((wanted.text_values && is_among lists.text x.number)
    || (wanted.html_values && is_among lists.html x.number)))

-- a text under its partId
abbrev pub entry_by : List ℕ → ℕ → Node → Option ℕ → List (List ℕ × Tree)
entry_by bytes most x None = []
entry_by bytes most x (Some n) = (decimal n, value_tree (body_value bytes most x)) ∷ []

abbrev pub entry : List ℕ → Wanted → Lists → Node → List (List ℕ × Tree)
entry bytes wanted lists x =
    if is_asked wanted lists x then entry_by bytes wanted.most_bytes x x.number else []

-- those of some parts
abbrev pub entries : List ℕ → Wanted → Lists → List Node → List (List ℕ × Tree)
entries bytes wanted lists parts = flat_map (entry bytes wanted lists) parts

abbrev pub values_tree : List ℕ → Wanted → PartTrees → Tree
values_tree bytes wanted tree = members_tree (entries bytes wanted (lists_in tree) (walked tree))
