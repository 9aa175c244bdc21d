-- The members of an object of JSON: which may be there, and what they must be.
use Rattle.std.specs.Prelude.{ℕ, Bool, true, false, ◌&&◌, ◌||◌, not, nat_lt, List, [], length, map, Option, Some, None, option_and_then, option_map, unwrap_or, bytes_eq}
use Rattle.std.specs.List.{list_all, list_any}
use Rattle.jm_json.specs.Tree.{Tree, null, boolean, number, text, list, object}
use Rattle.jm_json.specs.Find.{find, as_text, as_list, as_object}
use Rattle.draft_form.specs.Texts.{keeps}
use Rattle.draft_form.specs.declared.texts.TextRule.{TextRule}

abbrev pub is_null : Tree → Bool
is_null null = true
is_null (boolean b) = false
is_null (number z) = false
is_null (text s) = false
is_null (list ts) = false
is_null (object fs) = false

abbrev pub is_false : Tree → Bool
is_false null = false
is_false (boolean b) = not b
is_false (number z) = false
is_false (text s) = false
is_false (list ts) = false
is_false (object fs) = false

-- a member that is there is this
abbrev pub required : (Tree → Bool) → Option Tree → Bool
required rule None = false
required rule (Some t) = rule t

-- a member is this, or null, or not there
abbrev pub optional : (Tree → Bool) → Option Tree → Bool
optional rule None = true
optional rule (Some t) = is_null t || rule t

-- a member is false, or not there
abbrev pub is_absent_or_false : Option Tree → Bool
is_absent_or_false None = true
is_absent_or_false (Some t) = is_false t

-- a member is there and is not null
abbrev pub is_given : Option Tree → Bool
is_given o = required (λ t. not (is_null t)) o

abbrev pub keeps_text : TextRule → Option (List ℕ) → Bool
keeps_text rule None = false
keeps_text rule (Some s) = keeps rule s

-- a string of this kind
abbrev pub is_text : TextRule → Tree → Bool
is_text rule t = keeps_text rule (as_text t)

abbrev pub are_items : (Tree → Bool) → Option (List Tree) → Bool
are_items rule None = false
are_items rule (Some ts) = list_all rule ts

-- a list of such items
abbrev pub is_list : (Tree → Bool) → Tree → Bool
is_list rule t = are_items rule (as_list t)

-- the items of a list; none of what is no list
abbrev pub list_items : Tree → List Tree
list_items t = unwrap_or (as_list t) []

-- one or more of them
abbrev pub is_some_list : (Tree → Bool) → Tree → Bool
is_some_list rule t = nat_lt 0 (length (list_items t)) && is_list rule t

abbrev pub is_name_of : List (List ℕ) → List ℕ → Bool
is_name_of names name = list_any (bytes_eq name) names

-- no member has another name
abbrev pub has_names : List (List ℕ) → List (List ℕ × Tree) → Bool
has_names names ms = list_all (λ m. is_name_of names m.0) ms

abbrev pub keep_rule :
    (List (List ℕ × Tree) → Bool) → Option (List (List ℕ × Tree)) → Bool
keep_rule rule None = false
keep_rule rule (Some ms) = rule ms

-- an object with such members
abbrev pub is_object : (List (List ℕ × Tree) → Bool) → Tree → Bool
is_object rule t = keep_rule rule (as_object t)

-- ---- what they say

abbrev pub members_in : Tree → List (List ℕ × Tree)
members_in t = unwrap_or (as_object t) []

abbrev pub items_in : Option Tree → List Tree
items_in o = unwrap_or (option_map list_items o) []

abbrev pub string_of : Tree → List ℕ
string_of t = unwrap_or (as_text t) []

-- the string of a member, if it is one
abbrev pub text_at : List ℕ → List (List ℕ × Tree) → Option (List ℕ)
text_at name ms = option_and_then as_text (find name ms)

-- the strings of a list
abbrev pub texts_in : List Tree → List (List ℕ)
texts_in ts = map string_of ts
