-- The order in which creates are performed: one may create the parent of another (RFC 8620, 5.3).
use Rattle.std.specs.Prelude.{ℕ, zero, suc, List, [], ◌∷◌, length, Bool, true, Option, Some, None, is_some, option_map, option_and_then, if◌then◌else◌, codes}
use Rattle.jm_json.specs.Tree.{Tree}
use Rattle.jm_json.specs.Find.{find, as_text}
use Rattle.jm_json.specs.declared.invocation.Created.{Created}
use Rattle.set_parts.specs.CreationIds.{last_made, reference}
use Rattle.set_parts.specs.Creates.{Creating}
use Rattle.mailbox_creates.specs.Creates.{after_create}
use Rattle.set_parts.specs.Arguments.{Create}

-- the creation id that the parentId of a create refers to
abbrev pub waits_for : List (List ℕ × Tree) → Option (List ℕ)
waits_for ms = option_and_then reference (option_and_then as_text (find (codes "parentId") ms))

-- a create's reference is resolved: what it refers to was created; so is a create without one
abbrev pub is_standing : List Created → Option (List ℕ) → Bool
is_standing made None = true
is_standing made (Some k) = is_some (last_made k made)

abbrev pub stands : List Created → Create → Bool
stands made x = is_standing made (waits_for x.members)

-- the first item that passes, and the others in their order
abbrev pub taken_out : {A : Type 0} → (A → Bool) → List A → Option (A × List A)
taken_out test [] = None
taken_out test (x ∷ xs) =
    if test x then Some (x, xs) else option_map (λ r. (r.0, x ∷ r.1)) (taken_out test xs)

-- one create after the other
abbrev pub after_each : Creating → List Create → Creating
after_each s [] = s
after_each s (x ∷ xs) = after_each (after_create s x) xs

-- a round, if some create is ready; else the others are performed, whose references are never
-- resolved
abbrev pub after_round : (Creating → List Create → Creating) → Creating → List Create
    → Option (Create × List Create) → Creating
after_round next s xs None = after_each s xs
after_round next s xs (Some r) = next (after_create s r.0) r.1

-- Creates are performed in rounds, at most so many: in each the first one whose reference is
-- resolved. They come in byte order of their creation ids.
abbrev pub in_rounds : ℕ → Creating → List Create → Creating
in_rounds zero s xs = after_each s xs
in_rounds (suc n) s xs = after_round (in_rounds n) s xs (taken_out (stands s.made) xs)

-- all creates
abbrev pub after_creates : Creating → List Create → Creating
after_creates s xs = in_rounds (length xs) s xs
