-- The mailboxes and the keywords of an email, as a client sends them: objects whose names are the
-- items, each with the value true (RFC 8621, 4.1.1). None means an object that is invalid.
use Rattle.std.specs.Prelude.{ℕ, List, [], ◌∷◌, Bool, true, false, Option, Some, None, map, unwrap_or, option_map, option_and_then, if◌then◌else◌}
use Rattle.std.specs.Ordering.{nat_cmp}
use Rattle.std.specs.Cmp.Lexicographic.{slice_cmp}
use Rattle.std.specs.Str.{str_to_ascii_lowercase}
use Rattle.jm_base.specs.declared.identifiers.Kind.TheVariants.{Mailbox as OfMailbox}
use Rattle.jm_json.specs.Tree.{Tree, boolean, object, fields_of}
use Rattle.jm_json.specs.Find.{as_object}
use Rattle.jm_json.specs.Order.{put_all}
use Rattle.jm_json.specs.declared.invocation.Created.{Created}
use Rattle.method_args.specs.Arguments.{as_flag}
use Rattle.mail_counts.specs.Forms.{is_keyword}
use Rattle.mail_counts.specs.Touched.{rising, sorted_once}
use Rattle.set_parts.specs.CreationIds.{number_meant}

-- ---- objects whose values are true

abbrev pub is_true : Tree → Bool
is_true t = unwrap_or (as_flag t) false

-- what the names of members mean, if each value is true and each name means something
abbrev pub meanings : {A : Type 0} → (List ℕ → Option A) → List (List ℕ × Tree) → Option (List A)
meanings meaning [] = Some []
meanings meaning (m ∷ ms) =
    if is_true m.1
    then option_and_then (λ x. option_map (λ xs. x ∷ xs) (meanings meaning ms)) (meaning m.0)
    else None

-- what the names of an object mean
abbrev pub set_in : {A : Type 0} → (List ℕ → Option A) → Tree → Option (List A)
set_in meaning t = option_and_then (meanings meaning) (as_object t)

-- the object with each of these names, and true at each
abbrev pub set_tree : List (List ℕ) → Tree
set_tree names = object (fields_of (put_all (map (λ k. (k, boolean true)) names) []))

-- ---- mailboxIds

-- the items, if there are any
abbrev pub unless_empty : {A : Type 0} → List A → Option (List A)
unless_empty [] = None
unless_empty (x ∷ xs) = Some (x ∷ xs)

-- The mailboxes that an object names, of those with these numbers: one at least, in number order,
-- each once.
abbrev pub mailboxes_in : List ℕ → List Created → Option Tree → Option (List ℕ)
mailboxes_in numbers made t =
    option_map rising
    (option_and_then unless_empty
    (option_and_then (set_in (number_meant OfMailbox numbers made)) t))

-- ---- keywords

-- the value, if it passes
abbrev pub only_if : {A : Type 0} → (A → Bool) → A → Option A
only_if test x = if test x then Some x else None

-- a keyword as it is kept: in lower case, since keywords are compared without case
abbrev pub keyword_meant : List ℕ → Option (List ℕ)
keyword_meant s = only_if is_keyword (str_to_ascii_lowercase s)

-- the keywords in byte order, each once; none if nothing is sent
abbrev pub keywords_in : Option Tree → Option (List (List ℕ))
keywords_in None = Some []
keywords_in (Some t) = option_map (sorted_once (slice_cmp nat_cmp)) (set_in keyword_meant t)
