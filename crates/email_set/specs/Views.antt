-- What contracts see of the types of this crate.
use Rattle.std.specs.Prelude.{◌≡◌, ◌<◌, ℕ, List, ◌∷◌, length, Bool, true, false, if◌then◌else◌, ◌==◌, Option, Some, None, option_map, slice_get, ⊤}
use Rattle.std.specs.BTreeMap.{get}
use Rattle.std.specs.List.{AllByRecursion}
use Rattle.std.specs.Ordering.{nat_cmp}
use Rattle.jm_base.specs.declared.identifiers.Kind.TheVariants.{Email as OfEmail}
use Rattle.mail_counts.specs.Overlay.{last_edit}
use Rattle.mail_records.specs.Contents.{Content, email_number}
use Rattle.mail_records.specs.Edits.{after_edits}
use Rattle.mail_records.specs.Tables.{IsTable}
use Rattle.mail_records.specs.declared.edits.Edit.{Edit}
use Rattle.mail_records.specs.declared.edits.Edit.TheVariants.{PutEmail, DropEmail}
use Rattle.set_parts.specs.Steps.{Progress}
use Rattle.set_parts.specs.CreationIds.{is_id}
use Rattle.set_parts.specs.declared.steps.Step.{Step}
use Rattle.set_parts.specs.declared.steps.Step.TheVariants as step
use Rattle.email_set.specs.declared.planner.Planner.{Planner}
use Rattle.email_set.specs.declared.steps.Steps.{Steps}

-- ---- emails by their ids

-- the string is the id of the email of this number, or of none
abbrev pub MeansEmail : List ℕ → Option ℕ → Type 0
MeansEmail s None = (n : ℕ) → is_id OfEmail s n ≡ false
MeansEmail s (Some n) = is_id OfEmail s n ≡ true

-- the number of the email that an edit puts or drops
abbrev pub email_named_by : Edit → Option ℕ
email_named_by (PutEmail item was) = Some item.number
email_named_by (DropEmail number thread) = Some number
email_named_by _ = None

-- the edit puts or drops an email
abbrev pub IsOfEmail : Edit → Type 0
IsOfEmail (PutEmail item was) = ⊤
IsOfEmail (DropEmail number thread) = ⊤
IsOfEmail _ = ⊥

-- the edits of a step put and drop emails
abbrev pub IsEmailStep : Step → Type 0
IsEmailStep (step.Rejected error) = ⊤
IsEmailStep (step.Done edits) = AllByRecursion IsOfEmail edits

-- the index of the last edit of an email, after the edit at an index of an email or of none
abbrev pub index_after : Option ℕ → ℕ → ℕ → Option ℕ → Option ℕ
index_after None n i was = was
index_after (Some number) n i was = if number == n then Some i else was

-- ---- a planner

-- the edit at an index of a list of edits
abbrev pub edit_at : List Edit → Option ℕ → Option Edit
edit_at edits None = None
edit_at edits (Some i) = slice_get edits i

-- The planner has the edits and the report of a progress, which began with the content and has its
-- mailboxes: each email's last edit is found by its number.
pub record Follows (c : Content) (p : Planner) (s : Progress) : Type 0 where
  pub content : s.content ≡ after_edits c p.edits.items
  pub mailboxes : s.content.mailboxes ≡ c.mailboxes
  pub table : IsTable email_number c.emails
  pub edits : p.edits.items ≡ s.edits
  pub last : (n : ℕ) → edit_at p.edits.items (get nat_cmp p.last n)
      ≡ last_edit OfEmail n p.edits.items
  pub within : (n i : ℕ) → get nat_cmp p.last n ≡ Some i → i < length p.edits.items
  pub reported : p.reported ≡ s.reported

-- the steps are those that led to a progress
pub record IsStepsOf (x : Steps) (s : Progress) : Type 0 where
  pub reported : x.reported ≡ s.reported
  pub edits : x.edits ≡ s.edits
