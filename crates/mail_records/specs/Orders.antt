-- The orders of a content: lists of entries that are sorted by the key of each entry, with exactly
-- the entries that the records have. Each record has a list of keys in an order, as an email has
-- one for each of its mailboxes.
use Rattle.std.specs.Prelude.{◌≡◌, ℕ, ◌+◌, ℤ, pos, Bool, true, false, ◌&&◌, List, [], ◌∷◌, map, Option, Some, None, slice_index_or}
use Rattle.std.specs.List.{list_any}
use Rattle.std.specs.List.Sorted.{IsStrictlySortedBy}
use Rattle.std.specs.declared.cmp.Ordering.{Ordering}
use Rattle.std.specs.Ordering.{ordering_then, nat_cmp, int_cmp, is_eq}
use Rattle.std.specs.Option.{option_cmp, unwrap_or}
use Rattle.std.specs.Cmp.Lexicographic.{slice_cmp}
use Rattle.mail_records.specs.Tables.{lookup}
use Rattle.mail_records.specs.Contents.{Content, mailbox_number, email_number}
use Rattle.mail_records.specs.declared.records.Mailbox.{Mailbox}
use Rattle.mail_records.specs.declared.records.Email.{Email}
use Rattle.mail_records.specs.declared.entries.Named.{Named}
use Rattle.mail_records.specs.declared.entries.Roled.{Roled}
use Rattle.mail_records.specs.declared.entries.Dated.{Dated}
use Rattle.mail_records.specs.declared.entries.Threaded.{Threaded}
use Rattle.mail_records.specs.declared.entries.Placed.{Placed}
use Rattle.mail_records.specs.declared.entries.Linked.{Linked}

-- What an entry is sorted by: the mailbox or thread that it is in, if any, its text, the time
-- received (Unix seconds), the number of its record, and its index in a list of that record. What
-- an order doesn't use is none, empty or 0.
pub record Key : Type 0 where
  pub group : Option ℕ
  pub text : List ℕ
  pub received : ℤ
  pub number : ℕ
  pub place : ℕ

-- by group (none is first), then by text in byte order, then by the time received, then by number,
-- then by index
abbrev pub key_cmp : Key → Key → Ordering
key_cmp a b =
    ordering_then (option_cmp nat_cmp a.group b.group)
    (ordering_then (slice_cmp nat_cmp a.text b.text)
    (ordering_then (int_cmp a.received b.received)
    (ordering_then (nat_cmp a.number b.number) (nat_cmp a.place b.place))))

-- the keys rise strictly
abbrev pub KeysRise : List Key → Type 0
KeysRise ks = IsStrictlySortedBy key_cmp ks

-- one of these items is equal to the item, by the order R
abbrev pub has_by : {K : Type 0} → (K → K → Ordering) → K → List K → Bool
has_by R k xs = list_any (λ x. is_eq (R x k)) xs

-- the key is among these
abbrev pub has_key : Key → List Key → Bool
has_key k ks = has_by key_cmp k ks

-- the record that the key names has the key
abbrev pub has_in : {R : Type 0} → (R → List Key) → Key → Option R → Bool
has_in keys k None = false
has_in keys k (Some r) = has_key k (keys r)

-- the record of the key's number has the key
abbrev pub is_key_of : {R : Type 0} → (R → ℕ) → (R → List Key) → List R → Key → Bool
is_key_of number keys rows k = has_in keys k (lookup number k.number rows)

-- These keys rise strictly, and are exactly those keys of the records that pass the test.
pub record AreKeys {R : Type 0} (test : Key → Bool) (number : R → ℕ) (keys : R → List Key)
    (rows : List R) (ks : List Key) : Type 0 where
  pub rise : KeysRise ks
  pub exactly : (k : Key) → has_key k ks ≡ (test k && is_key_of number keys rows k)

-- each key passes
abbrev pub any_key : Key → Bool
any_key k = true

-- the key is of this group, and has this text
abbrev pub is_in_group : Option ℕ → Key → Bool
is_in_group group k = is_eq (option_cmp nat_cmp k.group group)

abbrev pub has_text : List ℕ → Key → Bool
has_text text k = is_eq (slice_cmp nat_cmp k.text text)

-- the key of an entry, by the record that it is of, which is found in the table
abbrev pub key_of : {R E : Type 0} → (R → ℕ) → (E → ℕ) → (Option R → E → Key) → List R → E → Key
key_of number owner key rows e = key (lookup number (owner e) rows) e

-- the keys of entries
abbrev pub keys_of : {R E : Type 0} → (R → ℕ) → (E → ℕ) → (Option R → E → Key) → List R → List E
    → List Key
keys_of number owner key rows es = map (key_of number owner key rows) es

-- ---- mailboxes by parent and name (RFC 8621, 2): the one key of a mailbox has its parent as group
-- and its name as text

abbrev pub name_key : Mailbox → Key
name_key m =
    record { group = m.parent; text = m.name; received = pos 0; number = m.number; place = 0 }

abbrev pub name_keys : Mailbox → List Key
name_keys m = name_key m ∷ []

abbrev pub named_owner : Named → ℕ
named_owner n = n.mailbox

abbrev pub named_key : Option Mailbox → Named → Key
named_key (Some m) n =
    record { group = m.parent; text = m.name; received = pos 0; number = n.mailbox; place = 0 }
named_key None n =
    record { group = None; text = []; received = pos 0; number = n.mailbox; place = 0 }

-- ---- mailboxes that have a role, by role (RFC 8621, 2)

abbrev pub key_of_role : ℕ → Option (List ℕ) → List Key
key_of_role number (Some role) =
    record { group = None; text = role; received = pos 0; number = number; place = 0 } ∷ []
key_of_role number None = []

abbrev pub role_keys : Mailbox → List Key
role_keys m = key_of_role m.number m.role

abbrev pub roled_owner : Roled → ℕ
roled_owner r = r.mailbox

abbrev pub roled_key : Option Mailbox → Roled → Key
roled_key (Some m) r = record {
  group = None;
  text = unwrap_or m.role [];
  received = pos 0;
  number = r.mailbox;
  place = 0;
}
roled_key None r =
    record { group = None; text = []; received = pos 0; number = r.mailbox; place = 0 }

-- ---- emails by the time received (RFC 8621, 4.1.1)

abbrev pub received_keys : Email → List Key
received_keys e = record {
  group = None;
  text = [];
  received = e.received.seconds;
  number = e.number;
  place = 0;
} ∷ []

abbrev pub dated_owner : Dated → ℕ
dated_owner d = d.email

abbrev pub dated_key : Option Email → Dated → Key
dated_key o d =
    record { group = None; text = []; received = d.received; number = d.email; place = 0 }

-- ---- emails by thread and the time received (RFC 8621, 3): the group is the thread

abbrev pub thread_keys : Email → List Key
thread_keys e = record {
  group = Some e.thread;
  text = [];
  received = e.received.seconds;
  number = e.number;
  place = 0;
} ∷ []

abbrev pub threaded_owner : Threaded → ℕ
threaded_owner t = t.email

abbrev pub threaded_key : Option Email → Threaded → Key
threaded_key o t =
    record { group = Some t.thread; text = []; received = t.received; number = t.email; place = 0 }

-- ---- emails by mailbox and the time received: a key for each mailbox of the email, which is its
-- group

abbrev pub placed_key_of : Email → ℕ → Key
placed_key_of e m = record {
  group = Some m;
  text = [];
  received = e.received.seconds;
  number = e.number;
  place = 0;
}

abbrev pub mailbox_keys : Email → List Key
mailbox_keys e = map (placed_key_of e) e.mailboxes

abbrev pub placed_owner : Placed → ℕ
placed_owner p = p.email

abbrev pub placed_key : Option Email → Placed → Key
placed_key o p =
    record { group = Some p.mailbox; text = []; received = p.received; number = p.email; place = 0 }

-- ---- emails by link: a key for each link of the email's summary, with its index there

-- the keys of links, of which the first has this index
abbrev pub link_keys_from : ℕ → ℕ → List (List ℕ) → List Key
link_keys_from number place [] = []
link_keys_from number place (link ∷ links) =
    record { group = None; text = link; received = pos 0; number = number; place = place }
    ∷ link_keys_from number (place + 1) links

abbrev pub link_keys : Email → List Key
link_keys e = link_keys_from e.number 0 e.summary.links

abbrev pub linked_owner : Linked → ℕ
linked_owner l = l.email

abbrev pub linked_key : Option Email → Linked → Key
linked_key (Some e) l = record {
  group = None;
  text = slice_index_or e.summary.links l.place [];
  received = pos 0;
  number = l.email;
  place = l.place;
}
linked_key None l =
    record { group = None; text = []; received = pos 0; number = l.email; place = l.place }

-- ---- what the calls of a content lend

-- all mailboxes with this parent, in the order of name, then number
abbrev pub AreChildren : Content → Option ℕ → List Named → Type 0
AreChildren c parent ns =
    AreKeys (is_in_group parent) mailbox_number name_keys c.mailboxes
    (keys_of mailbox_number named_owner named_key c.mailboxes ns)

-- all mailboxes with this parent and name, in the order of number
abbrev pub AreChildrenNamed : Content → Option ℕ → List ℕ → List Named → Type 0
AreChildrenNamed c parent name ns =
    AreKeys (λ k. is_in_group parent k && has_text name k) mailbox_number name_keys c.mailboxes
    (keys_of mailbox_number named_owner named_key c.mailboxes ns)

-- all mailboxes with this role, in the order of number
abbrev pub AreWithRole : Content → List ℕ → List Roled → Type 0
AreWithRole c role rs =
    AreKeys (λ k. is_in_group None k && has_text role k) mailbox_number role_keys c.mailboxes
    (keys_of mailbox_number roled_owner roled_key c.mailboxes rs)

-- all emails, in the order of the time received, then number
abbrev pub AreByReceived : Content → List Dated → Type 0
AreByReceived c ds = AreKeys any_key email_number received_keys c.emails
    (keys_of email_number dated_owner dated_key c.emails ds)

-- all emails of this thread, in the order of the time received, then number
abbrev pub AreInThread : Content → ℕ → List Threaded → Type 0
AreInThread c thread ts =
    AreKeys (is_in_group (Some thread)) email_number thread_keys c.emails
    (keys_of email_number threaded_owner threaded_key c.emails ts)

-- all emails in this mailbox, in the order of the time received, then number
abbrev pub AreInMailbox : Content → ℕ → List Placed → Type 0
AreInMailbox c mailbox ps =
    AreKeys (is_in_group (Some mailbox)) email_number mailbox_keys c.emails
    (keys_of email_number placed_owner placed_key c.emails ps)

-- all emails with this link in their summary, and its index there, in the order of number, then
-- index
abbrev pub AreWithLink : Content → List ℕ → List Linked → Type 0
AreWithLink c link ls =
    AreKeys (λ k. is_in_group None k && has_text link k) email_number link_keys c.emails
    (keys_of email_number linked_owner linked_key c.emails ls)
