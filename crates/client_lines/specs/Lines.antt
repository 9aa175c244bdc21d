-- What the commands of a client print of its cache. 10 ends each line, and 32 is a space.
use Rattle.std.specs.Prelude.{ℕ, List, [], ◌∷◌, ◌++◌, map, length, cond, bytes_eq, Option, Some, None, codes, decimal}
use Rattle.std.specs.List.{flat_map}
use Rattle.std.specs.Str.{chars, encode_utf8_all}
use Rattle.std.specs.Char.{is_control}
use Rattle.jm_base.specs.declared.identifiers.Kind.TheVariants.{Email as OfEmail}
use Rattle.jm_json.specs.Find.{find}
use Rattle.jm_json.specs.Tree.{Tree}
use Rattle.client_cache.specs.Caches.{Cached, ListView}
use Rattle.client_cache.specs.CacheReading.{members_of_tree, text_or_empty}
use Rattle.client_cache.specs.Requests.{id_of}

-- ---- how much there is

-- a name and a count
abbrev pub count_line : List ℕ → ℕ → List ℕ
count_line name count = name ++ 32 ∷ decimal count ++ 10 ∷ []

abbrev pub kind_counts : Cached → List ℕ
kind_counts c =
    count_line (codes "mailboxes") (length c.mailboxes.records)
    ++ count_line (codes "threads") (length c.threads.records)
    ++ count_line (codes "emails") (length c.emails.records)

-- how many emails a list has, after its name
abbrev pub list_count : ListView → List ℕ
list_count l = codes "list " ++ count_line l.name (length l.ids)

abbrev pub list_counts : List ListView → List ℕ
list_counts lists = flat_map list_count lists

-- a line for each kind of record, and one for each list
abbrev pub counts_text : Cached → List ℕ
counts_text c = kind_counts c ++ list_counts c.lists

-- ---- the emails of a list

-- the first list of this name
abbrev pub list_named : List ℕ → List ListView → Option ListView
list_named name [] = None
list_named name (l ∷ ls) = cond (bytes_eq l.name name) (Some l) (list_named name ls)

-- a space in place of a control character, which is one of Unicode's class Cc
abbrev pub printed_character : ℕ → ℕ
printed_character c = cond (is_control c) 32 c

abbrev pub printed : List ℕ → List ℕ
printed text = encode_utf8_all (map printed_character (chars text))

-- the subject of the object of an email; empty if the object has none
abbrev pub subject_of : Tree → List ℕ
subject_of email = text_or_empty (codes "subject") (members_of_tree email)

-- the subject of an email, or a question mark if the email is not cached
abbrev pub printed_email : Option Tree → List ℕ
printed_email None = codes "?"
printed_email (Some email) = printed (subject_of email)

-- the identifier of an email, and what is printed of the email
abbrev pub email_line : Cached → ℕ → List ℕ
email_line c number =
    id_of OfEmail number
    ++ 32 ∷ printed_email (find (id_of OfEmail number) c.emails.records)
    ++ 10 ∷ []

abbrev pub email_lines : Cached → List ℕ → List ℕ
email_lines c numbers = flat_map (email_line c) numbers

-- a line for each email of a list
abbrev pub list_text : Cached → ListView → List ℕ
list_text c l = email_lines c l.ids
