-- The values of the members of an object.
use Rattle.std.specs.Prelude.{ℕ, List, [], Bool, false, Option, option_and_then, unwrap_or}
use Rattle.jm_json.specs.Tree.{Tree}
use Rattle.jm_json.specs.Find.{find, as_text, as_list, as_object}
use Rattle.method_args.specs.Arguments.{as_flag}

abbrev pub value_at : List ℕ → Tree → Option Tree
value_at key t = option_and_then (find key) (as_object t)

-- the string, the boolean or the items of the list at a key, if there is such a value
abbrev pub text_at : List ℕ → Tree → Option (List ℕ)
text_at key t = option_and_then as_text (value_at key t)

abbrev pub flag_at : List ℕ → Tree → Option Bool
flag_at key t = option_and_then as_flag (value_at key t)

abbrev pub items_at : List ℕ → Tree → Option (List Tree)
items_at key t = option_and_then as_list (value_at key t)

-- the string, the boolean or the items of the list at a key; the empty string, false or no item if
-- there is no such value
abbrev pub text_or_empty : List ℕ → Tree → List ℕ
text_or_empty key t = unwrap_or (text_at key t) []

abbrev pub flag_or_false : List ℕ → Tree → Bool
flag_or_false key t = unwrap_or (flag_at key t) false

abbrev pub items_or_none : List ℕ → Tree → List Tree
items_or_none key t = unwrap_or (items_at key t) []
