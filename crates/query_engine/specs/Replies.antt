-- For private clauses: how the members of a response are put together, and how much of a result
-- list decides it.
use Rattle.std.specs.Prelude.{◌≡◌, ℕ, Bool, true, false, List, [], ◌∷◌, Option, Some, None, codes}
use Rattle.jm_base.specs.Ids.{state_text}
use Rattle.jm_base.specs.declared.identifiers.Kind.{Kind}
use Rattle.jm_json.specs.Order.{put}
use Rattle.jm_json.specs.Tree.{Tree, boolean, text, list, trees_of}
use Rattle.mail_counts.specs.Views.{count_tree}
use Rattle.method_args.specs.Ids.{id_trees}
use Rattle.query_engine.specs.Windows.{window_of}
use Rattle.query_engine.specs.Walks.{at_most}
use Rattle.query_engine.specs.declared.frame.Frame.{Frame}
use Rattle.query_engine.specs.declared.frame.Shown.{Shown}

-- the members that each response has
abbrev pub plain_members : Kind → List ℕ → ℕ → Shown → List (List ℕ × Tree)
plain_members kind account state shown =
    (codes "accountId", text account)
    ∷ (codes "canCalculateChanges", boolean true)
    ∷ (codes "ids", list (trees_of (id_trees kind shown.ids)))
    ∷ (codes "position", count_tree shown.position)
    ∷ (codes "queryState", text (state_text state))
    ∷ []

abbrev pub with_limit : Option ℕ → List (List ℕ × Tree) → List (List ℕ × Tree)
with_limit None ms = ms
with_limit (Some limit) ms = put (codes "limit") (count_tree limit) ms

abbrev pub with_total : Bool → ℕ → List (List ℕ × Tree) → List (List ℕ × Tree)
with_total false total ms = ms
with_total true total ms = put (codes "total") (count_tree total) ms

-- the first numbers of a list, at most so many, have the same part as the list
abbrev pub Decides : Frame → Option ℕ → Type 0
Decides f max =
    (kind : Kind) (numbers : List ℕ)
    → window_of kind (at_most max numbers) f ≡ window_of kind numbers f
