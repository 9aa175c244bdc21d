-- The properties by which queries are sorted, by their names (RFC 8621, 2.3 and 4.4.2).
use Rattle.std.specs.Prelude.{ℕ, List, Bool, true, false, Option, Some, None, cond, codes, bytes_eq}
use Rattle.jm_base.specs.declared.identifiers.Kind.{Kind}
use Rattle.jm_base.specs.declared.identifiers.Kind.TheVariants.{Mailbox, Email, Thread}
use Rattle.sort_terms.specs.declared.properties.Property.{Property}
use Rattle.sort_terms.specs.declared.properties.Property.TheVariants.{ReceivedAt, Size, From, To, Subject, SentAt, HasKeyword, AllInThread, SomeInThread, SortOrder, Name}

abbrev pub email_property : List ℕ → Option Property
email_property k =
    cond (bytes_eq k (codes "receivedAt")) (Some ReceivedAt)
    (cond (bytes_eq k (codes "size")) (Some Size)
    (cond (bytes_eq k (codes "from")) (Some From)
    (cond (bytes_eq k (codes "to")) (Some To)
    (cond (bytes_eq k (codes "subject")) (Some Subject)
    (cond (bytes_eq k (codes "sentAt")) (Some SentAt)
    (cond (bytes_eq k (codes "hasKeyword")) (Some HasKeyword)
    (cond (bytes_eq k (codes "allInThreadHaveKeyword")) (Some AllInThread)
    (cond (bytes_eq k (codes "someInThreadHaveKeyword")) (Some SomeInThread) None))))))))

abbrev pub mailbox_property : List ℕ → Option Property
mailbox_property k =
    cond (bytes_eq k (codes "sortOrder")) (Some SortOrder)
    (cond (bytes_eq k (codes "name")) (Some Name) None)

-- the property with this name in a query of the kind; threads have no query
abbrev pub property_named : Kind → List ℕ → Option Property
property_named Email k = email_property k
property_named Mailbox k = mailbox_property k
property_named Thread k = None

-- the property is of a keyword, which the comparator names
abbrev pub needs_keyword : Option Property → Bool
needs_keyword (Some HasKeyword) = true
needs_keyword (Some AllInThread) = true
needs_keyword (Some SomeInThread) = true
needs_keyword _ = false

-- the property is of the thread
abbrev pub is_wide_property : Property → Bool
is_wide_property AllInThread = true
is_wide_property SomeInThread = true
is_wide_property _ = false
