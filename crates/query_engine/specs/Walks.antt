-- For private clauses: lists that are already in a query's order, and what is shown of them.
use Rattle.std.specs.Prelude.{nat_le, int_lt, ◌≡◌, ℕ, ◌≤◌, ℤ, Bool, true, false, ◌&&◌, List, [], ◌∷◌, ◌++◌, filter, map, length, take, drop, if◌then◌else◌, Option, Some, None, option_and_then, bytes_eq, codes, ◌==◌, ◌⊎◌, ⊤}
use Rattle.std.specs.List.{AllByRecursion}
use Rattle.std.specs.List.Sorted.{IsStrictlySortedBy}
use Rattle.std.specs.Ordering.{int_cmp, nat_cmp, ordering_then}
use Rattle.std.specs.declared.cmp.Ordering.{Ordering}
use Rattle.jm_base.specs.declared.identifiers.Kind.TheVariants.{Mailbox as OfMailboxes, Email as OfEmails}
use Rattle.jm_json.specs.Find.{as_list, find}
use Rattle.jm_json.specs.Tree.{Tree}
use Rattle.mail_counts.specs.Counts.{is_in}
use Rattle.mail_records.specs.Contents.{Content, email_number, mailbox_number}
use Rattle.mail_records.specs.declared.records.Email.{Email}
use Rattle.mail_records.specs.declared.records.Mailbox.{Mailbox}
use Rattle.mail_records.specs.declared.entries.Dated.{Dated}
use Rattle.mail_records.specs.declared.entries.Placed.{Placed}
use Rattle.mail_records.specs.OrderSteps.{put_all_in}
use Rattle.mail_records.specs.States.{is_kind}
use Rattle.method_args.specs.Arguments.{passes, text_in}
use Rattle.filter_terms.specs.Filters.{holds, matches}
use Rattle.filter_terms.specs.Targets.{AMailbox, AnEmail, EmailInThread, email_in_thread}
use Rattle.filter_terms.specs.Texts.{MessageTexts}
use Rattle.sort_terms.specs.Forms.{comparators_of, is_ascending}
use Rattle.sort_terms.specs.declared.properties.Property.TheVariants.{ReceivedAt}
use Rattle.query_engine.specs.Queries.{numbers_of, order_of, sorted_by}
use Rattle.query_engine.specs.Threads.{first_of_threads}
use Rattle.query_engine.specs.Views.{QueryTree}
use Rattle.query_engine.specs.Windows.{is_id_of}
use Rattle.query_engine.specs.declared.page.Page.{Page}
use Rattle.query_engine.specs.declared.walks.Walk.{Walk}
use Rattle.query_engine.specs.declared.walks.Walk.TheVariants.{Sorted, SortedInMailbox, ByReceived, InMailbox}

-- ---- pages

-- at most so many, if there is a maximum
abbrev pub at_most : Option ℕ → List ℕ → List ℕ
at_most None ns = ns
at_most (Some n) ns = take n ns

-- there are as many numbers as there are at most
abbrev pub fills : Option ℕ → List ℕ → Bool
fills None ns = false
fills (Some n) ns = nat_le n (length ns)

abbrev pub is_full : Page → Bool
is_full p = fills p.max p.numbers.items

-- what a page comes to if these numbers of matching emails follow
abbrev pub goes_on : Content → Page → List ℕ → List ℕ
goes_on c p rest =
    at_most p.max
    (p.numbers.items ++ (if p.collapse then first_of_threads c p.threads.keys rest else rest))

-- the page after and the page before come to the same, where these numbers followed before
abbrev pub Follows : Content → Page → Page → List ℕ → Type 0
Follows c old new ns = (rest : List ℕ) → goes_on c new rest ≡ goes_on c old (ns ++ rest)

-- the filter of a query matches the email of this number
abbrev pub is_match : QueryTree → Content → (ℕ → MessageTexts) → ℕ → Bool
is_match q c texts n = matches q.kind q.filter c texts n

-- the numbers of the records that match, in the order of the query
abbrev pub matches_list : QueryTree → Content → (ℕ → MessageTexts) → List ℕ
matches_list q c texts =
    sorted_by (order_of q c) (filter (is_match q c texts) (numbers_of q.kind c))

-- the numbers of those emails, or of those mailboxes, that match
abbrev pub kept_emails
    : QueryTree → Content → (ℕ → MessageTexts) → List Email → List ℕ
kept_emails q c texts es =
    map email_number
    (filter (λ e. holds q.kind (AnEmail texts (email_in_thread c.emails e)) q.filter) es)

abbrev pub kept_mailboxes : QueryTree → List Mailbox → List ℕ
kept_mailboxes q ms =
    map mailbox_number (filter (λ m. holds q.kind (AMailbox m) q.filter) ms)

-- those emails that match, with the times received
abbrev pub dated_of : Email → Dated
dated_of e = record { received = e.received.seconds; email = e.number }

abbrev pub kept_dated : QueryTree → Content → (ℕ → MessageTexts) → List Email → List Dated
kept_dated q c texts es =
    map dated_of
    (filter (λ e. holds q.kind (AnEmail texts (email_in_thread c.emails e)) q.filter) es)

-- threads are collapsed, which is of emails alone
abbrev pub collapses : QueryTree → Bool
collapses q = q.collapse && is_kind q.kind OfEmails

-- ---- entries

-- an email in an order by the time received (Unix seconds), then number
pub record Row : Type 0 where
  pub received : ℤ
  pub number : ℕ

abbrev pub ascending_cmp : Row → Row → Ordering
ascending_cmp a b = ordering_then (int_cmp a.received b.received) (nat_cmp a.number b.number)

-- latest first; of the same time the lower number first
abbrev pub descending_cmp : Row → Row → Ordering
descending_cmp a b = ordering_then (int_cmp b.received a.received) (nat_cmp a.number b.number)

-- by the time received, ascending or descending
abbrev pub directed_cmp : Bool → Row → Row → Ordering
directed_cmp true = ascending_cmp
directed_cmp false = descending_cmp

abbrev pub dated_row : Dated → Row
dated_row d = record { received = d.received; number = d.email }

abbrev pub placed_row : Placed → Row
placed_row p = record { received = p.received; number = p.email }

abbrev pub dated_cmp : Bool → Dated → Dated → Ordering
dated_cmp ascending a b = directed_cmp ascending (dated_row a) (dated_row b)

abbrev pub RowsAscend : List Row → Type 0
RowsAscend rows = IsStrictlySortedBy ascending_cmp rows

abbrev pub row_number : Row → ℕ
row_number r = r.number

-- the rows from the latest time on
abbrev pub descending : List Row → List Row
descending rows = put_all_in descending_cmp rows []

abbrev pub directed_rows : Bool → List Row → List Row
directed_rows true rows = rows
directed_rows false rows = descending rows

abbrev pub numbers_in : List Row → List ℕ
numbers_in rows = map row_number rows

-- the numbers of the rows whose emails match
abbrev pub matching : QueryTree → Content → (ℕ → MessageTexts) → List Row → List ℕ
matching q c texts rows = filter (is_match q c texts) (numbers_in rows)

-- the rows that are not before a time begin at this index
pub record IsRunStart (rows : List Row) (start : ℕ) (time : ℤ) : Type 0 where
  pub within : start ≤ length rows
  pub before : AllByRecursion (λ r. int_lt r.received time ≡ true) (take start rows)
  pub from : AllByRecursion (λ r. int_lt r.received time ≡ false) (drop start rows)

-- ---- which list serves a query

-- the sort is by the time received alone, ascending or descending
pub record IsSortedByReceived (sort : Tree) (ascending : Bool) : Type 0 where
  pub keyword : List ℕ
  pub order : comparators_of OfEmails sort
      ≡ record { property = ReceivedAt; ascending = ascending; keyword = keyword } ∷ []

-- each email that the filter matches is in the mailbox
abbrev pub IsInMailbox : Tree → ℕ → Type 0
IsInMailbox filter mailbox =
    (texts : ℕ → MessageTexts) (s : EmailInThread) → holds OfEmails (AnEmail texts s) filter ≡ true
    → is_in mailbox s.email ≡ true

-- a comparator with these members is by the time received, ascending or descending
abbrev pub received_by : List (List ℕ × Tree) → Option Bool
received_by ms =
    option_and_then
    (λ name. if bytes_eq name (codes "receivedAt") then Some (is_ascending ms) else None)
    (text_in (codes "property") ms)

-- a condition object with these members names the mailbox
pub record NamesMailbox (ms : List (List ℕ × Tree)) (mailbox : ℕ) : Type 0 where
  pub condition : find (codes "operator") ms ≡ None
  pub id : List ℕ
  pub named : text_in (codes "inMailbox") ms ≡ Some id
  pub number : (n : ℕ) → is_id_of OfMailboxes id n ≡ (n == mailbox)

-- one of the filters matches only emails in the mailbox
abbrev pub IsAmong : ℕ → List Tree → Type 0
IsAmong mailbox [] = ⊥
IsAmong mailbox (t ∷ ts) = IsInMailbox t mailbox ⊎ IsAmong mailbox ts

-- one of the conditions of an operator with these members matches only emails in the mailbox
pub record JoinsMailbox (ms : List (List ℕ × Tree)) (mailbox : ℕ) : Type 0 where
  pub conditions : Tree
  pub found : find (codes "conditions") ms ≡ Some conditions
  pub filters : List Tree
  pub listed : as_list conditions ≡ Some filters
  pub among : IsAmong mailbox filters

-- the members are those of an AND
abbrev pub is_conjunction : List (List ℕ × Tree) → Bool
is_conjunction ms = passes (λ name. bytes_eq name (codes "AND")) (text_in (codes "operator") ms)

abbrev pub Serves : Walk → QueryTree → Type 0
Serves Sorted q = ⊤
Serves (SortedInMailbox mailbox) q = (q.kind ≡ OfEmails) × IsInMailbox q.filter mailbox
Serves (ByReceived ascending) q = (q.kind ≡ OfEmails) × IsSortedByReceived q.order ascending
Serves (InMailbox mailbox ascending) q =
    (q.kind ≡ OfEmails) × (IsSortedByReceived q.order ascending × IsInMailbox q.filter mailbox)
