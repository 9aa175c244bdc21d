-- The properties that the object of a create sends (RFC 8620, 5.3; RFC 8621, 2 and 2.5). None
-- means a value that is invalid by itself.
use Rattle.std.specs.Prelude.{ℕ, pos, List, Bool, true, Option, Some, None, option_map, option_and_then, codes}
use Rattle.jm_json.specs.Tree.{Tree, null, boolean, number, text}
use Rattle.jm_json.specs.Find.{find, as_text}
use Rattle.jm_json.specs.declared.invocation.Created.{Created}
use Rattle.mail_records.specs.Contents.{Content, mailbox_number}
use Rattle.mail_counts.specs.Forms.{is_name, is_role, is_sort_order}
use Rattle.mail_counts.specs.Views.{mailbox_named}
use Rattle.mail_records.specs.declared.records.Mailbox.{Mailbox}
use Rattle.set_parts.specs.CreationIds.{identifier}
use Rattle.set_parts.specs.Names.{only_if}

-- the number of the mailbox that an identifier names, if it is there
abbrev pub named : Content → List ℕ → Option ℕ
named c s = option_map mailbox_number (mailbox_named c.mailboxes s)

-- the mailbox that a string means: by its id, or as `#k` by the id that was created last under k
abbrev pub mailbox_meant : List Created → Content → List ℕ → Option Mailbox
mailbox_meant made c s = option_and_then (mailbox_named c.mailboxes) (identifier made s)

-- the name
abbrev pub sent_name : List (List ℕ × Tree) → Option (List ℕ)
sent_name ms = option_and_then (only_if is_name) (option_and_then as_text (find (codes "name") ms))

-- the parent: none if null or nothing is sent
abbrev pub parent_in : Content → List Created → Option Tree → Option (Option ℕ)
parent_in c made None = Some None
parent_in c made (Some null) = Some None
parent_in c made (Some (text s)) = option_map Some (option_and_then (named c) (identifier made s))
parent_in c made _ = None

abbrev pub sent_parent : Content → List Created → List (List ℕ × Tree) → Option (Option ℕ)
sent_parent c made ms = parent_in c made (find (codes "parentId") ms)

-- the role: none if null or nothing is sent
abbrev pub role_in : Option Tree → Option (Option (List ℕ))
role_in None = Some None
role_in (Some null) = Some None
role_in (Some (text s)) = option_map Some (only_if is_role s)
role_in _ = None

-- the sort order: 0 if nothing is sent
abbrev pub sort_order_in : Option Tree → Option ℕ
sort_order_in None = Some 0
sort_order_in (Some (number (pos n))) = only_if is_sort_order n
sort_order_in _ = None

-- whether it is subscribed: true if nothing is sent (the RFC leaves this open)
abbrev pub subscribed_in : Option Tree → Option Bool
subscribed_in None = Some true
subscribed_in (Some (boolean b)) = Some b
subscribed_in _ = None

-- the properties that a create sends, over a content and what the request has created up to here
pub record SentProperties : Type 0 where
  pub name : Option (List ℕ)
  pub parent : Option (Option ℕ)
  pub role : Option (Option (List ℕ))
  pub sort_order : Option ℕ
  pub subscribed : Option Bool

abbrev pub sent_properties : Content → List Created → List (List ℕ × Tree) → SentProperties
sent_properties c made ms = record {
  name = sent_name ms;
  parent = sent_parent c made ms;
  role = role_in (find (codes "role") ms);
  sort_order = sort_order_in (find (codes "sortOrder") ms);
  subscribed = subscribed_in (find (codes "isSubscribed") ms);
}
