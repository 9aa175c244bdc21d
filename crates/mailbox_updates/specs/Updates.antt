-- The update of one mailbox (RFC 8620, 5.3; RFC 8621, 2.5).
use Rattle.std.specs.Prelude.{ℕ, List, [], ◌∷◌, ◌++◌, length, map, filter, Bool, true, false, not, ◌&&◌, ◌==◌, Option, Some, None, is_some, unwrap_or, if◌then◌else◌, codes, bytes_eq}
use Rattle.std.specs.List.{list_all, list_any}
use Rattle.std.specs.Map.{keys_of}
use Rattle.jm_json.specs.Tree.{Tree, object, fields_of}
use Rattle.jm_json.specs.Find.{as_object, find}
use Rattle.jm_json.specs.Order.{put_all}
use Rattle.jm_json.specs.Patch.{Patched, bad_patch, patched, patching}
use Rattle.jm_json.specs.declared.invocation.Created.{Created}
use Rattle.mail_counts.specs.Tidy.{ancestor, is_sibling, same_parent, same_role}
use Rattle.mail_counts.specs.Views.{mailbox_members}
use Rattle.mail_records.specs.Contents.{Content, mailbox_at}
use Rattle.mail_records.specs.Edits.{after_edits}
use Rattle.mail_records.specs.declared.edits.Edit.{Edit}
use Rattle.mail_records.specs.declared.edits.Edit.TheVariants.{PutMailbox}
use Rattle.mail_records.specs.declared.records.Mailbox.{Mailbox}
use Rattle.set_parts.specs.Arguments.{Update}
use Rattle.set_parts.specs.Steps.{Progress, after_updates, is_destroyed}
use Rattle.set_parts.specs.declared.set_errors.SetError.TheVariants.{InvalidPatch, InvalidProperties, NotFound, WillDestroy}
use Rattle.set_parts.specs.declared.steps.Step.{Step}
use Rattle.set_parts.specs.declared.steps.Step.TheVariants.{Rejected, Done}
use Rattle.mailbox_creates.specs.Creates.{bad_members, is_settable, property}
use Rattle.mailbox_creates.specs.Properties.{SentProperties, mailbox_meant, sent_properties}
use Rattle.mailbox_creates.specs.declared.checks.Faults.{Faults}
use Rattle.mailbox_updates.specs.declared.patches.Changed.{Changed}
use Rattle.mailbox_updates.specs.declared.patches.Changed.TheVariants.{Invalid, Valid}

-- ---- a patch by itself

-- The object that a patch changes: the JSON view of the mailbox.
abbrev pub mailbox_tree : Mailbox → Tree
mailbox_tree m = object (fields_of (mailbox_members false m))

-- Which of the properties that a client may set have a value that is invalid by itself. A property
-- that the patch removed has its default; the name has none.
abbrev pub value_faults : SentProperties → Faults
value_faults a = record {
  name = not (is_some a.name);
  parent = not (is_some a.parent);
  role = not (is_some a.role);
  sort_order = not (is_some a.sort_order);
  subscribed = not (is_some a.subscribed);
}

-- a property that the server sets is no longer there
abbrev pub is_removed : List (List ℕ × Tree) → List ℕ × Tree → Bool
is_removed after m = not (is_settable m.0) && not (is_some (find m.0 after))

-- The invalid properties of a patched object, in byte order: those whose value is invalid, and
-- those that only the server sets and that are not as they were before.
abbrev pub bad_after : Faults → List (List ℕ × Tree) → List (List ℕ × Tree) → List (List ℕ × Tree)
bad_after f before after =
    put_all (map property (filter (is_removed after) before)) (bad_members f before after)

-- the mailbox with these properties in place of its own
abbrev pub with_properties : SentProperties → Mailbox → Mailbox
with_properties a m = record m {
  name = unwrap_or a.name [];
  parent = unwrap_or a.parent None;
  role = unwrap_or a.role None;
  sort_order = unwrap_or a.sort_order 0;
  subscribed = unwrap_or a.subscribed true;
}

-- what a patch makes of a mailbox by itself, if no property is invalid
abbrev pub changed_unless : List (List ℕ) → Mailbox → Changed
changed_unless [] m = Valid m
changed_unless (n ∷ ns) m = Invalid (InvalidProperties (n ∷ ns))

abbrev pub changed_to : Mailbox → List (List ℕ × Tree) → SentProperties → Changed
changed_to m after a =
    changed_unless (keys_of (bad_after (value_faults a) (mailbox_members false m) after))
    (with_properties a m)

abbrev pub changed_by : Content → List Created → Mailbox → Patched → Changed
changed_by c made m (bad_patch path) = Invalid InvalidPatch
changed_by c made m (patched t) =
    let after = unwrap_or (as_object t) [] in
    changed_to m after (sent_properties c made after)

-- What a patch makes of a mailbox, whatever other mailboxes are named: it is no patch of the
-- mailbox (`invalidPatch`), or some property may not be set to its value (`invalidProperties`).
abbrev pub mailbox_after : Content → List Created → Mailbox → Tree → Changed
mailbox_after c made m patch = changed_by c made m (patching (mailbox_tree m) patch)

-- ---- the rules

-- another mailbox
abbrev pub is_another : Mailbox → Mailbox → Bool
is_another m n = not (n.number == m.number)

-- another mailbox of its parent has its name
abbrev pub is_name_shared : Content → Mailbox → Bool
is_name_shared c m =
    list_any (λ n. is_another m n && is_sibling m.parent m.name n) c.mailboxes

-- another mailbox has its role
abbrev pub is_role_shared : Content → Mailbox → Bool
is_role_shared c m = list_any (λ n. is_another m n && same_role n.role m.role) c.mailboxes

-- its chain of parents does not end
abbrev pub is_chain_broken : Content → Mailbox → Bool
is_chain_broken c m = is_some (ancestor (length c.mailboxes) c m.parent)

abbrev pub name_if : Bool → List ℕ → List (List ℕ)
name_if broken name = if broken then name ∷ [] else []

-- The names, in byte order, of the properties by which a mailbox breaks a rule in a content: a
-- sibling's name is reported as `name`, also if only the parent was changed.
abbrev pub broken_names : Content → Mailbox → List (List ℕ)
broken_names c m =
    (name_if (is_name_shared c m) (codes "name")
    ++ name_if (is_chain_broken c m) (codes "parentId"))
    ++ name_if (is_role_shared c m) (codes "role")

-- ---- an update

abbrev pub same_role_or_none : Option (List ℕ) → Option (List ℕ) → Bool
same_role_or_none None None = true
same_role_or_none (Some r) (Some s) = bytes_eq r s
same_role_or_none _ _ = false

abbrev pub same_truth : Bool → Bool → Bool
same_truth a b = if a then b else not b

-- the mailboxes agree in the properties that a client may set
abbrev pub is_unchanged : Mailbox → Mailbox → Bool
is_unchanged m n =
    bytes_eq m.name n.name && same_parent m.parent n.parent && same_role_or_none m.role n.role
    && m.sort_order == n.sort_order && same_truth m.subscribed n.subscribed

-- the edits that make a mailbox another; an update that changes nothing makes none
abbrev pub edits_to : Mailbox → Mailbox → List Edit
edits_to m n = if is_unchanged m n then [] else PutMailbox n true false ∷ []

abbrev pub done_unless : List (List ℕ) → List Edit → Step
done_unless [] es = Done es
done_unless (n ∷ ns) es = Rejected (InvalidProperties (n ∷ ns))

-- an update whose result may break no rule
abbrev pub checked_change : Content → Mailbox → Changed → Step
checked_change c m (Invalid error) = Rejected error
checked_change c m (Valid n) =
    if is_unchanged m n then Done []
    else done_unless (broken_names (after_edits c (edits_to m n)) n) (edits_to m n)

-- an update whose result is looked at later
abbrev pub unchecked_change : Content → Mailbox → Changed → Step
unchecked_change c m (Invalid error) = Rejected error
unchecked_change c m (Valid n) = Done (edits_to m n)

abbrev pub update_by : (Content → Mailbox → Changed → Step) → List Created → List (List ℕ)
    → Content → Update → Option Mailbox → Step
update_by decide made destroys c x None = Rejected NotFound
update_by decide made destroys c x (Some m) =
    if is_destroyed made destroys x.id
    then Rejected WillDestroy
    else decide c m (mailbox_after c made m x.patch)

-- an update that is tried by itself, or one that is tried with others
abbrev pub deciding : Bool → Content → Mailbox → Changed → Step
deciding true = checked_change
deciding false = unchecked_change

-- The update of a mailbox, tried by itself or with others.
abbrev pub update_as : Bool → List Created → List (List ℕ) → Content → Update → Step
update_as alone made destroys c x =
    update_by (deciding alone) made destroys c x (mailbox_meant made c x.id)

-- ---- all updates

abbrev pub keeps_rules_at : Content → Option Mailbox → Bool
keeps_rules_at c None = true
keeps_rules_at c (Some m) = length (broken_names c m) == 0

-- the mailbox that an edit puts breaks no rule in the content that results
abbrev pub keeps_rules : Content → Edit → Bool
keeps_rules c (PutMailbox item was counts) = keeps_rules_at c (mailbox_at c item.number)
keeps_rules c _ = true

abbrev pub all_keep_rules : Progress → Bool
all_keep_rules s = list_all (keeps_rules s.content) s.edits

-- after updates that were tried together, if their result keeps the rules, else one by one
abbrev pub together_or : Progress → Progress → Progress
together_or together one_by_one = if all_keep_rules together then together else one_by_one

-- The updates that are valid by themselves are tried all together, so that two mailboxes may swap
-- names. If a mailbox that they change breaks a rule in the result, each update is tried by itself,
-- in byte order of the ids as they were sent (RFC 8620, 5.3, leaves open which objects of a set are
-- refused). The updates begin on a progress without edits.
abbrev pub after_mailbox_updates : List Created → List (List ℕ) → Progress → List Update → Progress
after_mailbox_updates made destroys s xs =
    together_or (after_updates (update_as false made destroys) made s xs)
    (after_updates (update_as true made destroys) made s xs)
