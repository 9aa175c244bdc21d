-- The mailboxes and keywords of an email that an object has in its members `keywords` and
-- `mailboxIds` (RFC 8621, 4.1.1): each an object with true at each of its names. The keywords are
-- any names, and there may be no mailbox: what was written is read, whatever it is.
use Rattle.std.specs.Prelude.{◌≡◌, ℕ, List, Option, Some, None, map, option_map, option_and_then, codes}
use Rattle.jm_base.specs.declared.identifiers.Kind.TheVariants.{Mailbox as OfMailbox}
use Rattle.jm_json.specs.Tree.{Tree}
use Rattle.mail_counts.specs.Touched.{rising}
use Rattle.mail_counts.specs.Views.{mailbox_id}
use Rattle.mail_records.specs.Commits.{NumbersRise, TextsRise}
use Rattle.method_args.specs.Ids.{id_number}
use Rattle.method_args.specs.WrittenIds.{AreIds}
use Rattle.set_parts.specs.Names.{set_in, set_tree}
use Rattle.email_set.specs.Patches.{filing_tree, value_of}
use Rattle.email_set.specs.declared.filing.Filing.{Filing}

-- a name as it is written
abbrev pub as_written : List ℕ → Option (List ℕ)
as_written name = Some name

-- the names of an object, in the order in which it has them, if true is at each
abbrev pub written_names : Option Tree → Option (List (List ℕ))
written_names t = option_and_then (set_in as_written) t

-- the mailboxes whose ids an object has, in number order, if true is at each
abbrev pub written_mailboxes : Option Tree → Option (List ℕ)
written_mailboxes t = option_map rising (option_and_then (set_in (id_number OfMailbox)) t)

-- a filing with these, if both are there
abbrev pub filing_with : Option (List (List ℕ)) → Option (List ℕ) → Option Filing
filing_with None numbers = None
filing_with (Some names) None = None
filing_with (Some names) (Some numbers) =
    Some (record { mailboxes = numbers; keywords = names })

-- The mailboxes and keywords that an object has. None if a member is missing, or is no object of
-- names, or of ids of mailboxes, with true at each. Its other members are not looked at.
abbrev pub filing_in : Tree → Option Filing
filing_in t =
    filing_with (written_names (value_of (codes "keywords") t))
    (written_mailboxes (value_of (codes "mailboxIds") t))

-- ---- what was written is read as it was

-- mailboxes and keywords in order, as an email has them
pub record IsFiling (f : Filing) : Type 0 where
  pub ids : AreIds OfMailbox f.mailboxes
  pub mailboxes : NumbersRise f.mailboxes
  pub keywords : TextsRise f.keywords

-- the object has these mailboxes and keywords as they are written
pub record HasFiling (t : Tree) (f : Filing) : Type 0 where
  pub keywords : value_of (codes "keywords") t ≡ Some (set_tree f.keywords)
  pub mailboxes :
      value_of (codes "mailboxIds") t ≡ Some (set_tree (map mailbox_id f.mailboxes))

-- an object that has mailboxes and keywords as they are written is read as these
abbrev pub FilingsReadBack : Type 0
FilingsReadBack = (t : Tree) (f : Filing) → IsFiling f → HasFiling t f → filing_in t ≡ Some f

-- the object that is built of mailboxes and keywords has them
abbrev pub FilingsAreWritten : Type 0
FilingsAreWritten = (f : Filing) → HasFiling (filing_tree f) f
