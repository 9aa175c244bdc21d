-- Lemmas that impls cite: the key of an entry, and each key of a record, have the number of the
-- record.
use Rattle.std.specs.Prelude.{◌≡◌, ℕ, ◌+◌, List, [], ◌∷◌, Option, Some, None, map, refl}
use Rattle.std.specs.List.{AllByRecursion}
use Rattle.mail_records.specs.declared.records.Mailbox.{Mailbox}
use Rattle.mail_records.specs.declared.records.Email.{Email}
use Rattle.mail_records.specs.declared.entries.Named.{Named}
use Rattle.mail_records.specs.declared.entries.Roled.{Roled}
use Rattle.mail_records.specs.declared.entries.Linked.{Linked}
use Rattle.mail_records.specs.Orders.{named_key, roled_key, linked_key, key_of_role, role_keys, placed_key_of, mailbox_keys, link_keys_from, link_keys}

pub named_number : (o : Option Mailbox) (n : Named) → (named_key o n).number ≡ n.mailbox
named_number (Some m) n = refl
named_number None n = refl

pub roled_number : (o : Option Mailbox) (r : Roled) → (roled_key o r).number ≡ r.mailbox
roled_number (Some m) r = refl
roled_number None r = refl

pub linked_number : (o : Option Email) (l : Linked) → (linked_key o l).number ≡ l.email
linked_number (Some e) l = refl
linked_number None l = refl

role_numbers : (n : ℕ) (role : Option (List ℕ))
    → AllByRecursion (λ k. k.number ≡ n) (key_of_role n role)
role_numbers n (Some role) = (refl, tt)
role_numbers n None = tt

pub role_keys_numbers : (m : Mailbox) → AllByRecursion (λ k. k.number ≡ m.number) (role_keys m)
role_keys_numbers m = role_numbers m.number m.role

placed_numbers : (e : Email) (ms : List ℕ) → AllByRecursion (λ k. k.number ≡ e.number)
    (map (placed_key_of e) ms)
placed_numbers e [] = tt
placed_numbers e (m ∷ ms) = (refl, placed_numbers e ms)

pub mailbox_keys_numbers : (e : Email) → AllByRecursion (λ k. k.number ≡ e.number) (mailbox_keys e)
mailbox_keys_numbers e = placed_numbers e e.mailboxes

link_numbers : (n i : ℕ) (links : List (List ℕ))
    → AllByRecursion (λ k. k.number ≡ n) (link_keys_from n i links)
link_numbers n i [] = tt
link_numbers n i (l ∷ ls) = (refl, link_numbers n (i + 1) ls)

pub link_keys_numbers : (e : Email) → AllByRecursion (λ k. k.number ≡ e.number) (link_keys e)
link_keys_numbers e = link_numbers e.number 0 e.summary.links
