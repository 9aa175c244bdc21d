-- One create of a mailbox: which of its properties are invalid, the mailbox that it creates, and
-- what is reported of it (RFC 8620, 5.3; RFC 8621, 2 and 2.5).
use Rattle.std.specs.Prelude.{◌≡◌, ℕ, List, [], ◌∷◌, map, filter, Bool, true, false, not, ◌&&◌, ◌||◌, Option, Some, None, is_some, unwrap_or, if◌then◌else◌, codes, bytes_eq}
use Rattle.std.specs.List.{list_any}
use Rattle.std.specs.Map.{keys_of}
use Rattle.jm_json.specs.Tree.{Tree, null}
use Rattle.jm_json.specs.Find.{find}
use Rattle.jm_json.specs.Order.{put}
use Rattle.mail_records.specs.Contents.{Content}
use Rattle.mail_records.specs.declared.edits.Edit.{Edit}
use Rattle.mail_records.specs.declared.edits.Edit.TheVariants.{PutMailbox}
use Rattle.mail_records.specs.declared.records.Mailbox.{Mailbox}
use Rattle.mail_counts.specs.Counts.{HasNoCounts}
use Rattle.mail_counts.specs.Tidy.{is_sibling, same_role}
use Rattle.mail_counts.specs.Views.{mailbox_id, mailbox_members}
use Rattle.set_parts.specs.Arguments.{Create}
use Rattle.set_parts.specs.Creates.{Creating, after_create as after_step}
use Rattle.set_parts.specs.declared.creates.CreateStep.TheVariants.{Rejected, Done}
use Rattle.set_parts.specs.declared.creates.NewRecord.{NewRecord}
use Rattle.set_parts.specs.declared.set_errors.SetError.TheVariants.{InvalidProperties}
use Rattle.jm_json.specs.Equality.{is_same}
use Rattle.mailbox_creates.specs.Properties.{SentProperties, sent_properties}
use Rattle.mailbox_creates.specs.declared.checks.Faults.{Faults}

-- ---- the rules

-- a sibling has the name; looked at if name and parent are valid by themselves
abbrev pub is_name_taken : Content → Option (Option ℕ) → Option (List ℕ) → Bool
is_name_taken c (Some parent) (Some name) = list_any (is_sibling parent name) c.mailboxes
is_name_taken c _ _ = false

-- a mailbox has the role
abbrev pub is_role_taken : Content → Option (List ℕ) → Bool
is_role_taken c role = list_any (λ (m : Mailbox). same_role m.role role) c.mailboxes

-- which of the properties that a client may set are invalid: the value is invalid by itself, or it
-- breaks a rule
abbrev pub faults_of : Content → SentProperties → Faults
faults_of c a = record {
  name = not (is_some a.name) || is_name_taken c a.parent a.name;
  parent = not (is_some a.parent);
  role = not (is_some a.role) || is_role_taken c (unwrap_or a.role None);
  sort_order = not (is_some a.sort_order);
  subscribed = not (is_some a.subscribed);
}

-- ---- the mailbox

-- a mailbox of this number without a name, and with the default of every other property
abbrev pub blank : ℕ → Mailbox
blank n = record {
  number = n;
  name = [];
  parent = None;
  role = None;
  sort_order = 0;
  subscribed = true;
  total_emails = 0;
  unread_emails = 0;
  total_threads = 0;
  unread_threads = 0;
}

-- the mailbox with these properties
abbrev pub mailbox_of : ℕ → SentProperties → Mailbox
mailbox_of n a = record (blank n) {
  name = unwrap_or a.name [];
  parent = unwrap_or a.parent None;
  role = unwrap_or a.role None;
  sort_order = unwrap_or a.sort_order 0;
  subscribed = unwrap_or a.subscribed true;
}

-- the edit that puts a new mailbox
abbrev pub new_mailbox : Mailbox → Edit
new_mailbox m = PutMailbox m false false

-- ---- the invalid properties

-- the value isn't the one that the server sets for this property of a new mailbox; no property has
-- another name
abbrev pub differs : Option Tree → Tree → Bool
differs None t = true
differs (Some given) t = not (is_same given t)

-- A member of a create is invalid: one that a client may set is at fault, and any other differs
-- from what the server sets.
abbrev pub is_bad : Faults → List (List ℕ × Tree) → List ℕ × Tree → Bool
is_bad f given m =
    if bytes_eq m.0 (codes "isSubscribed") then f.subscribed
    else (if bytes_eq m.0 (codes "name") then f.name
    else (if bytes_eq m.0 (codes "parentId") then f.parent
    else (if bytes_eq m.0 (codes "role") then f.role
    else (if bytes_eq m.0 (codes "sortOrder") then f.sort_order
    else differs (find m.0 given) m.1))))

-- with `name`, if it isn't sent
abbrev pub with_name : List (List ℕ × Tree) → List (List ℕ × Tree) → List (List ℕ × Tree)
with_name ms bad = if is_some (find (codes "name") ms) then bad else put (codes "name") null bad

-- a property alone, with null in the place of its value
abbrev pub property : List ℕ × Tree → List ℕ × Tree
property m = (m.0, null)

-- the invalid properties, in byte order; a name that isn't sent is invalid too
abbrev pub bad_members : Faults → List (List ℕ × Tree) → List (List ℕ × Tree) → List (List ℕ × Tree)
bad_members f given ms = with_name ms (map property (filter (is_bad f given) ms))

abbrev pub bad_in : Content → SentProperties → List (List ℕ × Tree) → List (List ℕ × Tree)
bad_in c a ms = bad_members (faults_of c a) (mailbox_members false (blank c.next_mailbox)) ms

-- ---- what is reported

-- a property that a client may set
abbrev pub is_settable : List ℕ → Bool
is_settable k =
    list_any (λ s. bytes_eq k s)
    (codes "isSubscribed" ∷ codes "name" ∷ codes "parentId" ∷ codes "role" ∷ codes "sortOrder" ∷ [])

-- the property is reported: the client didn't send it
abbrev pub is_reported : List (List ℕ × Tree) → List ℕ × Tree → Bool
is_reported sent m = not (is_settable m.0 && is_some (find m.0 sent))

-- what is reported of a new mailbox: what the server sets, and each default that wasn't sent
abbrev pub created_members : List (List ℕ × Tree) → Mailbox → List (List ℕ × Tree)
created_members sent m = filter (is_reported sent) (mailbox_members false m)

-- a new mailbox as what its create makes
abbrev pub new_record : List (List ℕ × Tree) → Mailbox → NewRecord
new_record sent m = record {
  id = mailbox_id m.number;
  members = created_members sent m;
  edits = new_mailbox m ∷ [];
  blob = None;
}

-- ---- a create after those before it

-- after a create that created a mailbox
abbrev pub after_made : Creating → Create → Mailbox → Creating
after_made s x m = after_step x.creation s (Done (new_record x.members m))

-- after a create that is rejected for these invalid members
abbrev pub after_rejected : Creating → Create → List (List ℕ × Tree) → Creating
after_rejected s x bad = after_step x.creation s (Rejected (InvalidProperties (keys_of bad)))

-- after a create whose invalid members are these: it creates its mailbox if there are none
abbrev pub after_checks : Creating → Create → Mailbox → List (List ℕ × Tree) → Creating
after_checks s x m [] = after_made s x m
after_checks s x m (b ∷ bs) = after_rejected s x (b ∷ bs)

-- after a create
abbrev pub after_create : Creating → Create → Creating
after_create s x =
    let a = sent_properties s.content s.made x.members in
    after_checks s x (mailbox_of s.content.next_mailbox a) (bad_in s.content a x.members)

-- the edit puts a new mailbox, with counts 0
abbrev pub PutsNew : Edit → Type 0
PutsNew (PutMailbox item was counts) = (was ≡ false) × (counts ≡ false) × HasNoCounts item
PutsNew _ = ⊥
