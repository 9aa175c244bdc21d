-- What contracts see of the types of this crate.
use Rattle.std.specs.Prelude.{◌≡◌, ◌≢◌, ◌≤◌, ◌<◌, ℕ, List, Bool, ◌&&◌, bytes_eq, Option, Some, None, option_map, ⊤}
use Rattle.std.specs.BTreeMap.{get_by}
use Rattle.std.specs.List.{list_any}
use Rattle.std.specs.Ordering.{nat_cmp}
use Rattle.std.specs.Cmp.Lexicographic.{slice_cmp}
use Rattle.jm_base.specs.declared.identifiers.TheConstants.{NUMBER_LIMIT}
use Rattle.jm_json.specs.declared.invocation.Created.{Created}
use Rattle.mail_counts.specs.Tidy.{same_parent}
use Rattle.mail_counts.specs.Views.{mailbox_id}
use Rattle.set_parts.specs.Arguments.{Create}
use Rattle.set_parts.specs.CreationIds.{last_made, reported_id}
use Rattle.set_parts.specs.declared.arguments.SentCreate.{SentCreate}
use Rattle.set_parts.specs.declared.created_texts.CreatedRecords.{CreatedRecords}
use Rattle.set_parts.specs.declared.created_texts.CreatedTexts.{CreatedTexts}
use Rattle.set_parts.specs.declared.creation_ids.CreatedIds.{CreatedIds}
use Rattle.set_parts.specs.declared.text_set.Key.{Key}
use Rattle.set_parts.specs.declared.text_set.TextSet.{TextSet}

-- the create that the code holds
abbrev pub create_of : SentCreate → Create
create_of x = record { creation = x.creation.now; members = x.members.now }

-- ---- what a set of texts in groups holds

-- the key is this text in this group
abbrev pub is_key : Option ℕ → List ℕ → Key → Bool
is_key group text k = same_parent k.group group && bytes_eq k.text.now text

-- the keys have this text in this group
abbrev pub holds : List Key → Option ℕ → List ℕ → Bool
holds keys group text = list_any (is_key group text) keys

-- ---- the mailboxes that a request has created, by creation id

-- a number that an id may have
pub record IsNumber (n : ℕ) : Type 0 where
  pub from_one : 1 ≤ n
  pub below : n < NUMBER_LIMIT

-- the string is the id of the mailbox of this number, or of none
abbrev pub Means : List ℕ → Option ℕ → Type 0
Means s None = (n : ℕ) → IsNumber n → s ≢ mailbox_id n
Means s (Some n) = IsNumber n × (s ≡ mailbox_id n)

-- an id that may be missing means this number; there is none if it is missing
abbrev pub MeansIfAny : Option (List ℕ) → Option ℕ → Type 0
MeansIfAny None number = number ≡ None
MeansIfAny (Some s) number = Means s number

-- what is found at a creation id: nothing if nothing was created under it
abbrev pub IsIdFor : Option (List ℕ) → Option (Option ℕ) → Type 0
IsIdFor None None = ⊤
IsIdFor (Some s) (Some number) = Means s number
IsIdFor _ _ = ⊥

-- what the table has at a creation id
abbrev pub id_at : CreatedIds → List ℕ → Option (Option ℕ)
id_at known k = get_by (λ x. slice_cmp nat_cmp k x.now) known.numbers

-- the table has what was created last under each creation id
abbrev pub HoldIds : CreatedIds → List Created → Type 0
HoldIds known made = (k : List ℕ) → IsIdFor (last_made k made) (id_at known k)

-- ---- the ids that a request has created, by creation id

-- what the table has at a creation id
abbrev pub text_at : CreatedTexts → List ℕ → Option (List ℕ)
text_at known k = option_map (λ t. t.now) (get_by (λ x. slice_cmp nat_cmp k x.now) known.texts)

-- the table has the id that was created last under each creation id
abbrev pub HoldTexts : CreatedTexts → List Created → Type 0
HoldTexts known made = (k : List ℕ) → text_at known k ≡ last_made k made

-- the tables have what was created last under each creation id
pub record AreMade (created : CreatedRecords) (made : List Created) : Type 0 where
  pub texts : HoldTexts created.texts made
  pub ids : HoldIds created.ids made

-- ---- the destroys of a set

-- the set holds exactly the ids under which these destroys are reported
abbrev pub AreDestroyed : TextSet → List Created → List (List ℕ) → Type 0
AreDestroyed set made destroys =
    (s : List ℕ)
    → holds set.keys.keys None s ≡ list_any (λ d. bytes_eq (reported_id made d) s) destroys
