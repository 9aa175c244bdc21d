-- The positions of the edits of each kind, in order, and the thread of each edit of an email.
use Rattle.std.specs.Prelude.{◌≡◌, ℕ, ◌+◌, ◌-◌, nat_le, Bool, List, [], ◌∷◌, length, if◌then◌else◌, slice_index_or, map}
use Rattle.std.specs.List.{prefix_len}
use Rattle.std.specs.List.Sorted.{IsNonDecreasingBy}
use Rattle.jm_base.specs.declared.identifiers.Id.{Id}
use Rattle.jm_base.specs.declared.identifiers.Kind.{Kind}
use Rattle.jm_base.specs.declared.identifiers.Kind.TheVariants.{Mailbox as OfMailbox, Email as OfEmail, Thread as OfThread}
use Rattle.mail_records.specs.States.{is_kind_of}

-- the positions of the items that pass, where the first item has the position after this one
abbrev pub positions_where : {A : Type 0} → (A → Bool) → ℕ → List A → List ℕ
positions_where test at [] = []
positions_where test at (x ∷ xs) =
    if test x
    then (at + 1) ∷ positions_where test (at + 1) xs
    else positions_where test (at + 1) xs

-- the positions of the ids of a kind, in order, where the first id has the position after this one
abbrev pub positions_of : Kind → ℕ → List Id → List ℕ
positions_of kind at ids = positions_where (is_kind_of kind) at ids

-- the number of the id that has a position, where the first id has the position after this one
abbrev pub number_at : ℕ → List Id → ℕ → ℕ
number_at at ids position =
    slice_index_or (map (λ (i : Id). i.number) ids) (position - at - 1) 0

-- the last one, or a number in its place where there is none
abbrev pub last_or : List ℕ → ℕ → ℕ
last_or [] n = n
last_or (p ∷ ps) n = last_or ps p

-- how many of positions in order are at most this one
abbrev pub count_upto : List ℕ → ℕ → ℕ
count_upto positions position = prefix_len (λ p. nat_le p position) positions

-- what is kept by kind: positions of edits, and the threads of the edits of emails; and for how
-- many more edits there is room
pub record Places : Type 0 where
  pub mailbox : List ℕ
  pub email : List ℕ
  pub thread : List ℕ
  pub email_threads : List ℕ
  pub spare : ℕ

-- the positions of one kind
abbrev pub places_of : Places → Kind → List ℕ
places_of p OfMailbox = p.mailbox
places_of p OfEmail = p.email
places_of p OfThread = p.thread

-- the positions don't fall, and each edit of an email has its thread
pub record AreInOrder (p : Places) : Type 0 where
  pub mailbox : IsNonDecreasingBy (λ n. n) p.mailbox
  pub email : IsNonDecreasingBy (λ n. n) p.email
  pub thread : IsNonDecreasingBy (λ n. n) p.thread
  pub threads : length p.email_threads ≡ length p.email
