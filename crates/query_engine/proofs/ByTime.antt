-- The emails that match, sorted by the time received, are the list of matches.
use Rattle.std.proofs.Common.{◌≡◌, ℕ, ◌+◌, ◌<◌, ◌≤◌, pos, zero, suc, Bool, true, false, List, [], ◌∷◌, get_or, length, map, filter, refl, sym, ap, ap₂, ◌∙◌, subst, arith, is_lt, IsPermutation}
use Rattle.std.specs.Cmp.{IsTotalOrder}
use Rattle.std.specs.List.{All, AllByRecursion}
use Rattle.std.specs.List.Sorted.{IsSortedBy}
use Rattle.std.proofs.lemmas.List.{get_or-map, length-map}
use Rattle.std.proofs.lemmas.List.Sorted.{All-permutation, IsPermutation-map}
use Rattle.jm_base.specs.declared.identifiers.Kind.TheVariants.{Email as OfEmails}
use Rattle.mail_records.specs.Contents.{Content, email_number, mailbox_number}
use Rattle.mail_records.specs.Orders.{dated_owner}
use Rattle.mail_records.specs.Tables.{IsTable}
use Rattle.mail_records.specs.declared.entries.Dated.{Dated}
use Rattle.mail_records.specs.declared.records.Email.{Email}
use Rattle.mail_records.proofs.Tables.{All-kept}
use Rattle.filter_terms.specs.Filters.{holds}
use Rattle.filter_terms.specs.Targets.{AnEmail, email_in_thread}
use Rattle.filter_terms.specs.Texts.{MessageTexts}
use Rattle.filter_terms.proofs.Lists.{in_found}
use Rattle.query_engine.specs.Queries.{order_of}
use Rattle.query_engine.specs.Views.{QueryTree}
use Rattle.query_engine.specs.Walks.{IsSortedByReceived, dated_cmp, dated_of, dated_row, directed_cmp, kept_dated, matches_list}
use Rattle.query_engine.proofs.RowLists.{falling_total, rising_total}
use Rattle.query_engine.proofs.Sorting.{matched_emails, sorted_matches}
use Rattle.query_engine.proofs.Walked.{Stands, all_of_in, order_at}

pub directed_total : (ascending : Bool) → IsTotalOrder (directed_cmp ascending)
directed_total true = rising_total
directed_total false = falling_total

owners : (es : List Email) → map dated_owner (map dated_of es) ≡ map email_number es
owners [] = refl
owners (e ∷ es) = ap (λ ns. e.number ∷ ns) (owners es)

all_mapped : {X Y : Type 0} (P : Y → Type 0) (f : X → Y) (xs : List X) → AllByRecursion (λ x. P (f x)) xs → AllByRecursion P (map f xs)
all_mapped P f [] all = tt
all_mapped P f (x ∷ xs) all = (all.0, all_mapped P f xs all.1)

by_index : {X : Type 0} (P : X → Type 0) (xs : List X) → AllByRecursion P xs → (k : ℕ) (d : X) → k < length xs → P (get_or xs k d)
by_index P [] all k d lt = absurd (omega arith)
by_index P (x ∷ xs) all zero d lt = all.0
by_index P (x ∷ xs) all (suc k) d lt = by_index P xs all.1 k d (omega arith)

module _ (q : QueryTree) (c : Content) (k : q.kind ≡ OfEmails) (ascending : Bool) (by : IsSortedByReceived q.order ascending) where
  abbrev stands : Dated → Type 0
  stands d = Stands c (dated_row d)

  kept_stand : (texts : ℕ → MessageTexts) → IsTable email_number c.emails → All stands (kept_dated q c texts c.emails)
  kept_stand texts table =
      let keep : Email → Bool = λ e. holds q.kind (AnEmail texts (email_in_thread c.emails e)) q.filter in
      by_index stands (map dated_of (filter keep c.emails))
      (all_mapped stands dated_of (filter keep c.emails)
      (All-kept (λ e. stands (dated_of e)) keep c.emails (all_of_in (λ e. stands (dated_of e)) c.emails (λ e i. (e, in_found email_number c.emails e table i, refl)))))

  -- the numbers of emails that are sorted by time are in the order of the query
  in_order : (ds : List Dated) → All stands ds → IsSortedBy (λ a b. is_lt (dated_cmp ascending a b)) ds → IsSortedBy (λ a b. is_lt (order_of q c a b)) (map dated_owner ds)
  in_order ds stand up i n le lt =
      let none : Dated = record { received = pos 0; email = 0 } in
      let fits : i + 1 < length ds = subst (λ m. i + 1 < m) (length-map ds dated_owner) lt in
      let first : i < length ds = omega arith in
      let a : Dated = get_or ds i none in
      let b : Dated = get_or ds (i + 1) none in
      let same : order_of q c b.email a.email ≡ dated_cmp ascending b a = order_at q c k ascending by (dated_row b) (dated_row a) (stand (i + 1) none fits) (stand i none first) in
      ap₂ (λ x y. is_lt (order_of q c x y)) (get_or-map dated_owner ds (i + 1) none n fits) (get_or-map dated_owner ds i none n first) ∙ (ap is_lt same ∙ up i none le fits)

  pub dated_are_matches : (texts : ℕ → MessageTexts) (shown sorted : List Dated) → IsTable mailbox_number c.mailboxes → IsTable email_number c.emails → shown ≡ kept_dated q c texts c.emails
      → IsPermutation shown sorted → IsSortedBy (λ a b. is_lt (dated_cmp ascending a b)) sorted → map dated_owner sorted ≡ matches_list q c texts
  dated_are_matches texts shown sorted m e is moved up =
      let keep : Email → Bool = λ x. holds q.kind (AnEmail texts (email_in_thread c.emails x)) q.filter in
      let stand : All stands sorted = All-permutation stands shown sorted moved (subst (λ ds. All stands ds) (sym is) (kept_stand texts e)) in
      sorted_matches q c texts (map dated_owner shown) (map dated_owner sorted) m e (ap (map dated_owner) is ∙ (owners (filter keep c.emails) ∙ matched_emails q c texts e k))
      (IsPermutation-map dated_owner shown sorted moved) (in_order sorted stand up)
