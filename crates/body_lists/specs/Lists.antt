-- The leaves that are a message's text, those that are its HTML, and its attachments (RFC 8621,
-- section 4.1.4).
use Rattle.std.specs.Prelude.{ℕ, Bool, true, false, ◌&&◌, ◌||◌, not, List, [], ◌∷◌, ◌++◌, Option, Some, None, is_some, nat_eq, bytes_eq, codes, if◌then◌else◌}
use Rattle.std.specs.List.{starts_with}
use Rattle.mime_type.specs.PartTrees.{Node, PartTrees, none, part}

-- numbers of leaves (partId), in walk order
pub record Lists : Type 0 where
  pub text : List ℕ
  pub html : List ℕ
  pub attachments : List ℕ

abbrev pub nothing : Lists
nothing = record { text = []; html = []; attachments = [] }

-- the numbers that are added first, then those that are added later
abbrev pub both : Lists → Lists → Lists
both a b = record {
  text = a.text ++ b.text;
  html = a.html ++ b.html;
  attachments = a.attachments ++ b.attachments;
}

-- whether the lists text and html are open: nothing is added to a closed list
pub record Open : Type 0 where
  pub text : Bool
  pub html : Bool

-- the list that items are in: whether it is an alternative, whether it is related, and whether it
-- is in an alternative, its own or one further out
pub record EnclosingList : Type 0 where
  pub alternative : Bool
  pub related : Bool
  pub within : Bool

abbrev pub is_plain : Node → Bool
is_plain x = bytes_eq x.media (codes "text/plain")

abbrev pub is_html : Node → Bool
is_html x = bytes_eq x.media (codes "text/html")

-- an image, a sound or a film
abbrev pub is_media : Node → Bool
is_media x =
    starts_with nat_eq x.media (codes "image/") ||
    (starts_with nat_eq x.media (codes "audio/") || starts_with nat_eq x.media (codes "video/"))

abbrev pub is_multipart : Node → Bool
is_multipart x = is_some x.boundary

abbrev pub is_alternative : Node → Bool
is_alternative x = bytes_eq x.media (codes "multipart/alternative")

abbrev pub is_related : Node → Bool
is_related x = bytes_eq x.media (codes "multipart/related")

-- the list of the message alone, as in a mixed multipart
abbrev pub top : EnclosingList
top = record { alternative = false; related = false; within = false }

-- the list of a multipart that is in a list
abbrev pub inside : EnclosingList → Node → EnclosingList
inside place x = record {
  alternative = is_alternative x;
  related = is_related x;
  within = place.within || is_alternative x;
}

abbrev pub is_attached : Option (List ℕ) → Bool
is_attached None = false
is_attached (Some disposition) = bytes_eq disposition (codes "attachment")

-- whether a leaf may be shown where it is: no attachment, of a type that can be shown, and the
-- first of its list, or else media or without a name, and in no related list
abbrev pub is_shown_in_place : EnclosingList → Bool → Node → Bool
is_shown_in_place place first x =
    (not (is_multipart x) && not (is_attached x.disposition))
    && ((is_plain x || (is_html x || is_media x))
    && (first || (not place.related && (is_media x || not (is_some x.name)))))

abbrev pub number_if : Bool → Node → List ℕ
number_if chosen x = if chosen then (elim x.number [ None ↦ [] | Some n ↦ n ∷ [] ]) else []

-- a leaf in each of the lists that are chosen
abbrev pub leaf_in : Bool → Bool → Bool → Node → Lists
leaf_in text html attachments x = record {
  text = number_if text x;
  html = number_if html x;
  attachments = number_if attachments x;
}

-- in an alternative plain text closes html, and HTML closes text, for the rest of this list and
-- what that contains. It isn't so in the list of the alternative itself.
abbrev pub open_after : EnclosingList → Bool → Open → Node → Open
open_after place first open' x =
    if is_shown_in_place place first x && (place.within && not place.alternative)
    then record { text = open'.text && not (is_html x); html = open'.html && not (is_plain x) }
    else open'

-- an alternative gives each of its items to one list
abbrev pub among_alternatives : Open → Node → Lists
among_alternatives open' x =
    leaf_in (open'.text && is_plain x) (open'.html && is_html x) (not (is_plain x || is_html x)) x

-- elsewhere an item is added to text and to html; media that aren't added to both are attachments
-- too
abbrev pub among_others : Open → Node → Lists
among_others open' x =
    leaf_in open'.text open'.html (is_media x && not (open'.text && open'.html)) x

-- what a leaf adds
abbrev pub leaf_gives : EnclosingList → Bool → Open → Node → Lists
leaf_gives place first open' x =
    if not (is_shown_in_place place first x) then leaf_in false false true x
    else (if place.alternative then among_alternatives open' x
    else among_others (open_after place first open' x) x)

-- another list in place of an empty one
abbrev pub or_else : List ℕ → List ℕ → List ℕ
or_else [] other = other
or_else (n ∷ ns) other = n ∷ ns

-- at the end of an alternative, if text and html are both open: one to which nothing was added gets
-- what was added to the other
abbrev pub ended : EnclosingList → Open → Lists → Lists
ended place open' new =
    if place.alternative && (open'.text && open'.html)
    then record new { text = or_else new.text new.html; html = or_else new.html new.text }
    else new

-- what an item adds, if the parts within it add this
abbrev pub item_gives : EnclosingList → Bool → Open → Node → Lists → Lists
item_gives place first open' x new =
    if is_multipart x then ended (inside place x) open' new else leaf_gives place first open' x

-- what the items of a list add, from one on that is its first or isn't. What is closed within an
-- item is open again after it.
abbrev pub given : EnclosingList → Bool → Open → PartTrees → Lists
given place first open' none = nothing
given place first open' (part x inner later) =
    both (item_gives place first open' x (given (inside place x) true open' inner))
    (given place false (open_after place first open' x) later)

-- the lists of a message by its tree
abbrev pub lists_in : PartTrees → Lists
lists_in tree = given top true (record { text = true; html = true }) tree

-- the lists of a part with these parts within it
abbrev pub body_lists : Node → PartTrees → Lists
body_lists x inner = lists_in (part x inner none)
