-- The orders of a content by the time received are in the order of the queries that they serve.
use Rattle.std.proofs.Common.{◌≡◌, ℕ, ℤ, Bool, true, false, if◌then◌else◌, ◌&&◌, ◌||◌, eqb, eqb-true, eq-eqb, List, [], ◌∷◌, ◌++◌, map, filter, Option, Some, None, option_map, refl, sym, ap, ap₂, ◌∙◌, subst, ⊎_elim, inl, inr, nat_cmp}
use Rattle.std.specs.List.{AllByRecursion, list_any}
use Rattle.std.specs.List.Sorted.{IsStrictlySortedBy}
use Rattle.std.specs.Option.{option_cmp}
use Rattle.std.specs.Ordering.{int_cmp, is_eq, ordering_then}
use Rattle.std.specs.declared.cmp.Ordering.{Ordering}
use Rattle.std.specs.declared.cmp.Ordering.TheVariants.{Less, Equal, Greater}
use Rattle.std.proofs.lemmas.Bool.{and_parts, or_cases, true≢false}
use Rattle.std.proofs.lemmas.Cmp.{nat_cmp_total, tied_itself}
use Rattle.std.specs.Cmp.Lexicographic.{options_total}
use Rattle.jm_base.specs.Splices.{has}
use Rattle.jm_base.specs.declared.identifiers.Kind.TheVariants.{Email as OfEmails}
use Rattle.jm_base.proofs.Spliced.{has-filter, rising-filter}
use Rattle.mail_records.specs.Contents.{Content, email_at, email_number}
use Rattle.mail_records.specs.Orders.{AreByReceived, AreKeys, AreInMailbox, Key, KeysRise, dated_key, dated_owner, has_in, has_key, key_cmp, key_of, mailbox_keys, placed_key, placed_key_of, placed_owner, received_keys}
use Rattle.mail_records.specs.Tables.{lookup}
use Rattle.mail_records.specs.declared.entries.Dated.{Dated}
use Rattle.mail_records.specs.declared.entries.Placed.{Placed}
use Rattle.mail_records.specs.declared.records.Email.{Email}
use Rattle.mail_records.proofs.KeyOrder.{key_total}
use Rattle.mail_records.proofs.KeyTables.{lookup_number, nat_equal}
use Rattle.mail_records.proofs.Unique.{key_equal}
use Rattle.method_args.specs.Arguments.{passes}
use Rattle.filter_terms.specs.Filters.{holds}
use Rattle.filter_terms.specs.Targets.{AnEmail, EmailInThread, email_in_thread_at, email_in_thread}
use Rattle.filter_terms.specs.Texts.{MessageTexts}
use Rattle.filter_terms.proofs.Lists.{In, any_found, any_here, in_map, map_in}
use Rattle.sort_terms.specs.Comparators.{emails_cmp}
use Rattle.sort_terms.specs.Forms.{comparators_of}
use Rattle.sort_terms.specs.declared.comparators.Comparator.{Comparator}
use Rattle.sort_terms.specs.declared.properties.Property.TheVariants.{ReceivedAt}
use Rattle.query_engine.specs.Queries.{order_of}
use Rattle.query_engine.specs.Views.{QueryTree}
use Rattle.query_engine.specs.Walks.{IsInMailbox, IsSortedByReceived, Row, RowsAscend, directed_rows, dated_row, descending, descending_cmp, directed_cmp, is_match, matches_list, matching, numbers_in, ascending_cmp, placed_row, row_number}
use Rattle.query_engine.proofs.Results.{is_matches_list}
use Rattle.query_engine.proofs.RowLists.{all_sorted, any_sorted, falling_one, falling_total}
use Rattle.mail_records.proofs.Rising.{rise-put_all}

-- ---- rows that are of emails of a content

abbrev pub Stands : Content → Row → Type 0
Stands c r = (e : Email) × (email_at c r.number ≡ Some e) × (e.received.seconds ≡ r.received)

then_equal : (r : Ordering) → ordering_then r Equal ≡ r
then_equal Less = refl
then_equal Equal = refl
then_equal Greater = refl

abbrev if_up : Bool → Ordering → Ordering → Ordering
if_up true x y = x
if_up false x y = y

cmp_by : (asc : Bool) (word : List ℕ) (a b : EmailInThread)
    → emails_cmp (record { property = ReceivedAt; ascending = asc; keyword = word } ∷ []) a b
    ≡ if_up asc (int_cmp a.email.received.seconds b.email.received.seconds) (int_cmp b.email.received.seconds a.email.received.seconds)
cmp_by true word a b = then_equal (int_cmp a.email.received.seconds b.email.received.seconds)
cmp_by false word a b = then_equal (int_cmp b.email.received.seconds a.email.received.seconds)

times_of : (asc : Bool) (a b : Row) → ordering_then (if_up asc (int_cmp a.received b.received) (int_cmp b.received a.received)) (nat_cmp a.number b.number) ≡ directed_cmp asc a b
times_of true a b = refl
times_of false a b = refl

any_map : {X Y : Type 0} (p : Y → Bool) (f : X → Y) (xs : List X) → list_any p (map f xs) ≡ list_any (λ x. p (f x)) xs
any_map p f [] = refl
any_map p f (x ∷ xs) = ap (λ b. p (f x) || b) (any_map p f xs)

and_implied : (a b : Bool) → (a ≡ true → b ≡ true) → (a && b) ≡ a
and_implied true b f = f refl
and_implied false b f = refl

directed_rise : (asc : Bool) (rows : List Row) → RowsAscend rows → IsStrictlySortedBy (directed_cmp asc) (directed_rows asc rows)
unfolding IsStrictlySortedBy
directed_rise true rows rise = rise
directed_rise false rows rise = rise-put_all falling_total rows [] tt

directed_stand : (c : Content) (asc : Bool) (rows : List Row) → AllByRecursion (Stands c) rows → AllByRecursion (Stands c) (directed_rows asc rows)
directed_stand c true rows all = all
directed_stand c false rows all = all_sorted descending_cmp (Stands c) rows all

directed_have : (asc : Bool) (rows : List Row) (n : ℕ) → has (numbers_in (directed_rows asc rows)) n ≡ has (numbers_in rows) n
directed_have true rows n = refl
directed_have false rows n =
    any_map (λ m. eqb m n) row_number (descending rows)
    ∙ (any_sorted descending_cmp falling_one (λ (r : Row). eqb r.number n) rows ∙ sym (any_map (λ m. eqb m n) row_number rows))

module _ (q : QueryTree) (c : Content) (k : q.kind ≡ OfEmails) (ascending : Bool) (by : IsSortedByReceived q.order ascending) where
  pub order_at : (a b : Row) → Stands c a → Stands c b → order_of q c a.number b.number ≡ directed_cmp ascending a b
  order_at a b x y =
      let sa : EmailInThread = email_in_thread c.emails x.0 in
      let sb : EmailInThread = email_in_thread c.emails y.0 in
      let numbers = nat_cmp a.number b.number in
      let cs = comparators_of OfEmails q.order in
      let seen_a : email_in_thread_at c.emails a.number ≡ Some sa = ap (option_map (email_in_thread c.emails)) x.1 in
      let seen_b : email_in_thread_at c.emails b.number ≡ Some sb = ap (option_map (email_in_thread c.emails)) y.1 in
      ap (λ kind. order_of (record q { kind = kind }) c a.number b.number) k
      ∙ (ap₂ (λ s t. ordering_then (option_cmp (emails_cmp cs) s t) numbers) seen_a seen_b
      ∙ (ap (λ o. ordering_then o numbers) (ap (λ (ds : List Comparator). emails_cmp ds sa sb) by.order ∙ cmp_by ascending by.keyword sa sb)
      ∙ (ap₂ (λ s t. ordering_then (if_up ascending (int_cmp s t) (int_cmp t s)) numbers) x.2 y.2 ∙ times_of ascending a b)))

  rows_rise : (rows : List Row) → AllByRecursion (Stands c) rows → IsStrictlySortedBy (directed_cmp ascending) rows → IsStrictlySortedBy (order_of q c) (numbers_in rows)
  unfolding IsStrictlySortedBy
  rows_rise [] all rise = tt
  rows_rise (r ∷ rs) all rise = (heads rs all.1 rise.0, rows_rise rs all.1 rise.1)
    where
      heads : (ys : List Row) → AllByRecursion (Stands c) ys → AllByRecursion (λ y. directed_cmp ascending r y ≡ Less) ys → AllByRecursion (λ n. order_of q c r.number n ≡ Less) (numbers_in ys)
      heads [] a b = tt
      heads (y ∷ ys) a b = (order_at r y all.0 a.0 ∙ b.0, heads ys a.1 b.1)

  -- rows that are of emails, all that match among them
  pub walked : (texts : ℕ → MessageTexts) (rows : List Row) → AllByRecursion (Stands c) rows → RowsAscend rows
      → ((n : ℕ) → is_match q c texts n ≡ true → has (numbers_in rows) n ≡ true)
      → matching q c texts (directed_rows ascending rows) ≡ matches_list q c texts
  walked texts rows stand rise complete =
      let there = directed_rows ascending rows in
      let keep : ℕ → Bool = is_match q c texts in
      is_matches_list q c texts (filter keep (numbers_in there))
      (rising-filter (order_of q c) keep (numbers_in there) (rows_rise there (directed_stand c ascending rows stand) (directed_rise ascending rows rise)))
      (λ n. has-filter keep (numbers_in there) n
      ∙ (ap (λ b. keep n && b) (directed_have ascending rows n) ∙ and_implied (keep n) (has (numbers_in rows) n) (complete n)))

-- ---- entries

abbrev key_at : Option ℕ → Row → Key
key_at g r = record { group = g; text = []; received = r.received; number = r.number; place = 0 }

key_rows : (g : Option ℕ) (a b : Row) → key_cmp (key_at g a) (key_at g b) ≡ ascending_cmp a b
key_rows g a b =
    ap (λ r. ordering_then r (ordering_then (int_cmp a.received b.received) (ordering_then (nat_cmp a.number b.number) Equal))) (tied_itself (options_total nat_cmp_total) g)
    ∙ ap (ordering_then (int_cmp a.received b.received)) (then_equal (nat_cmp a.number b.number))

found_some : {X : Type 0} (keys : X → List Key) (k : Key) (o : Option X) → has_in keys k o ≡ true → (x : X) × (o ≡ Some x) × (has_key k (keys x) ≡ true)
found_some keys k None h = absurd (true≢false (sym h))
found_some keys k (Some x) h = (x, refl, h)

itself : (k : Key) → is_eq (key_cmp k k) ≡ true
itself k = ap is_eq (tied_itself key_total k)

pub all_of_in : {X : Type 0} (P : X → Type 0) (xs : List X) → ((x : X) → In x xs → P x) → AllByRecursion P xs
all_of_in P [] f = tt
all_of_in P (x ∷ xs) f = (f x (inl refl), all_of_in P xs (λ y i. f y (inr i)))

all_mapped : {X Y : Type 0} (P : Y → Type 0) (f : X → Y) (xs : List X) → AllByRecursion (λ x. P (f x)) xs → AllByRecursion P (map f xs)
all_mapped P f [] all = tt
all_mapped P f (x ∷ xs) all = (all.0, all_mapped P f xs all.1)

module _ (c : Content) {E : Type 0} (kf : E → Key) (rf : E → Row) (g : Option ℕ) (test : Key → Bool) (keys : Email → List Key) (es : List E) (are : AreKeys test email_number keys c.emails (map kf es)) (numbers : (x : E) → (kf x).number ≡ (rf x).number) (times : (x : E) → (kf x).received ≡ (rf x).received) (grouped : (x : E) → test (kf x) ≡ true → kf x ≡ key_at g (rf x)) (own : (e : Email) (k : Key) → has_key k (keys e) ≡ true → e.received.seconds ≡ k.received) where
  held : (x : E) → In x es → (test (kf x) ≡ true) × (has_in keys (kf x) (lookup email_number (kf x).number c.emails) ≡ true)
  held x i = and_parts _ _ (sym (are.exactly (kf x)) ∙ any_here (λ y. is_eq (key_cmp y (kf x))) (map kf es) (kf x) (map_in kf es x i) (itself (kf x)))

  stands : (x : E) → In x es → Stands c (rf x)
  stands x i =
      let w = found_some keys (kf x) (lookup email_number (kf x).number c.emails) (held x i).1 in
      (w.0, ap (λ n. lookup email_number n c.emails) (sym (numbers x)) ∙ w.1, own w.0 (kf x) w.2 ∙ times x)

  pub entries_stand : AllByRecursion (Stands c) (map rf es)
  entries_stand = all_mapped (Stands c) rf es (all_of_in (λ x. Stands c (rf x)) es stands)

  rise_by : (xs : List E) → AllByRecursion (λ x. kf x ≡ key_at g (rf x)) xs → KeysRise (map kf xs) → RowsAscend (map rf xs)
  unfolding IsStrictlySortedBy
  rise_by [] all rise = tt
  rise_by (x ∷ xs) all rise = (heads xs all.1 rise.0, rise_by xs all.1 rise.1)
    where
      heads : (ys : List E) → AllByRecursion (λ y. kf y ≡ key_at g (rf y)) ys → AllByRecursion (λ k. key_cmp (kf x) k ≡ Less) (map kf ys) → AllByRecursion (λ r. ascending_cmp (rf x) r ≡ Less) (map rf ys)
      heads [] a b = tt
      heads (y ∷ ys) a b = (sym (ap₂ key_cmp all.0 a.0 ∙ key_rows g (rf x) (rf y)) ∙ b.0, heads ys a.1 b.1)

  pub entries_rise : RowsAscend (map rf es)
  entries_rise = rise_by es (all_of_in (λ x. kf x ≡ key_at g (rf x)) es (λ x i. grouped x (held x i).0)) are.rise

  -- an email with a key that passes has an entry
  pub entry_there : (n : ℕ) (e : Email) (k : Key) → email_at c n ≡ Some e → test k ≡ true → has_key k (keys e) ≡ true → k.number ≡ n → has (numbers_in (map rf es)) n ≡ true
  entry_there n e k there passed own_key number =
      let known : has_in keys k (lookup email_number k.number c.emails) ≡ true = ap (has_in keys k) (ap (λ m. lookup email_number m c.emails) number ∙ there) ∙ own_key in
      let among : has_key k (map kf es) ≡ true = are.exactly k ∙ rw (passed, known) refl in
      let found = any_found (λ y. is_eq (key_cmp y k)) (map kf es) among in
      let from = in_map kf es found.0 found.1 in
      let same : kf from.0 ≡ k = sym from.2 ∙ key_equal found.0 k found.2 in
      let is : (rf from.0).number ≡ n = sym (numbers from.0) ∙ (ap (λ (y : Key). y.number) same ∙ number) in
      any_here (λ m. eqb m n) (numbers_in (map rf es)) (rf from.0).number (map_in row_number (map rf es) (rf from.0) (map_in rf es from.0 from.1)) (eq-eqb (rf from.0).number n is)

matched_email : (q : QueryTree) (c : Content) (texts : ℕ → MessageTexts) (n : ℕ) → q.kind ≡ OfEmails → is_match q c texts n ≡ true
    → (e : Email) × (email_at c n ≡ Some e) × (holds OfEmails (AnEmail texts (email_in_thread c.emails e)) q.filter ≡ true)
matched_email q c texts n k m = by (email_at c n) refl
  where
    now : passes (λ s. holds OfEmails (AnEmail texts s) q.filter) (email_in_thread_at c.emails n) ≡ true
    now = ap (λ kind. is_match (record q { kind = kind }) c texts n) (sym k) ∙ m

    by : (o : Option Email) → email_at c n ≡ o → (e : Email) × (email_at c n ≡ Some e) × (holds OfEmails (AnEmail texts (email_in_thread c.emails e)) q.filter ≡ true)
    by None is = absurd (true≢false (sym now ∙ ap (λ o. passes (λ s. holds OfEmails (AnEmail texts s) q.filter) (option_map (email_in_thread c.emails) o)) is))
    by (Some e) is = (e, is, sym (ap (λ o. passes (λ s. holds OfEmails (AnEmail texts s) q.filter) (option_map (email_in_thread c.emails) o)) is) ∙ now)

only_key : (a k : Key) → has_key k (a ∷ []) ≡ true → a ≡ k
only_key a k h = ⊎_elim (λ (e : is_eq (key_cmp a k) ≡ true). key_equal a k e) (λ (e : false ≡ true). absurd (true≢false (sym e))) (or_cases (is_eq (key_cmp a k)) false h)

-- ---- all emails by the time received

abbrev received_key : Email → Key
received_key e = key_at None (record { received = e.received.seconds; number = e.number })

module _ (q : QueryTree) (c : Content) (k : q.kind ≡ OfEmails) (ascending : Bool) (by : IsSortedByReceived q.order ascending) (ds : List Dated) (are : AreByReceived c ds) where
  abbrev kd : Dated → Key
  kd d = key_of email_number dated_owner dated_key c.emails d

  own_d : (e : Email) (x : Key) → has_key x (received_keys e) ≡ true → e.received.seconds ≡ x.received
  own_d e x h = ap (λ (y : Key). y.received) (only_key (received_key e) x h)

  pub dated_rise : RowsAscend (map dated_row ds)
  dated_rise = entries_rise c kd dated_row None (λ x. true) received_keys ds are (λ x. refl) (λ x. refl) (λ x e. refl) own_d

  pub dated_walked : (texts : ℕ → MessageTexts) → matching q c texts (directed_rows ascending (map dated_row ds)) ≡ matches_list q c texts
  dated_walked texts =
      walked q c k ascending by texts (map dated_row ds) (entries_stand c kd dated_row None (λ x. true) received_keys ds are (λ x. refl) (λ x. refl) (λ x e. refl) own_d) dated_rise
      (λ n m. let w = matched_email q c texts n k m in
      entry_there c kd dated_row None (λ x. true) received_keys ds are (λ x. refl) (λ x. refl) (λ x e. refl) own_d n w.0 (received_key w.0) w.1 refl
      (any_here (λ y. is_eq (key_cmp y (received_key w.0))) (received_keys w.0) (received_key w.0) (inl refl) (itself (received_key w.0)))
      (lookup_number email_number n c.emails w.0 w.1))

-- ---- the emails in a mailbox by the time received

module _ (q : QueryTree) (c : Content) (k : q.kind ≡ OfEmails) (ascending : Bool) (by : IsSortedByReceived q.order ascending) (mailbox : ℕ) (within : IsInMailbox q.filter mailbox) (ps : List Placed) (are : AreInMailbox c mailbox ps) where
  abbrev kp : Placed → Key
  kp p = key_of email_number placed_owner placed_key c.emails p

  abbrev in_it : Key → Bool
  in_it x = is_eq (option_cmp nat_cmp x.group (Some mailbox))

  own_p : (e : Email) (x : Key) → has_key x (mailbox_keys e) ≡ true → e.received.seconds ≡ x.received
  own_p e x h =
      let w = any_found (λ y. is_eq (key_cmp y x)) (mailbox_keys e) h in
      let v = in_map (placed_key_of e) e.mailboxes w.0 w.1 in ap (λ (y : Key). y.received) (sym v.2 ∙ key_equal w.0 x w.2)

  grouped_p : (x : Placed) → in_it (kp x) ≡ true → kp x ≡ key_at (Some mailbox) (placed_row x)
  grouped_p x e =
      let group : x.mailbox ≡ mailbox = nat_equal x.mailbox mailbox e in
      ap (λ m. record { group = Some m; text = []; received = x.received; number = x.email; place = 0 }) group

  pub placed_rise : RowsAscend (map placed_row ps)
  placed_rise = entries_rise c kp placed_row (Some mailbox) in_it mailbox_keys ps are (λ x. refl) (λ x. refl) grouped_p own_p

  pub placed_walked : (texts : ℕ → MessageTexts) → matching q c texts (directed_rows ascending (map placed_row ps)) ≡ matches_list q c texts
  placed_walked texts =
      walked q c k ascending by texts (map placed_row ps) (entries_stand c kp placed_row (Some mailbox) in_it mailbox_keys ps are (λ x. refl) (λ x. refl) grouped_p own_p) placed_rise
      (λ n m. let w = matched_email q c texts n k m in
      let inside = any_found (λ y. eqb y mailbox) (w.0).mailboxes (within texts (email_in_thread c.emails w.0) w.2) in
      let key : Key = placed_key_of w.0 inside.0 in
      entry_there c kp placed_row (Some mailbox) in_it mailbox_keys ps are (λ x. refl) (λ x. refl) grouped_p own_p n w.0 key w.1
      (subst (λ y. is_eq (option_cmp nat_cmp (Some inside.0) (Some y)) ≡ true) (eqb-true inside.0 mailbox inside.2) (ap is_eq (tied_itself nat_cmp_total inside.0)))
      (any_here (λ y. is_eq (key_cmp y key)) (mailbox_keys w.0) key (map_in (placed_key_of w.0) (w.0).mailboxes inside.0 inside.1) (itself key))
      (lookup_number email_number n c.emails w.0 w.1))

-- ---- one email

pub visited : (q : QueryTree) (c : Content) (texts : ℕ → MessageTexts) (n : ℕ) (e : Email) → email_at c n ≡ Some e → q.kind ≡ OfEmails
    → (if holds q.kind (AnEmail texts (email_in_thread c.emails e)) q.filter then e.number ∷ [] else []) ≡ (if is_match q c texts n then n ∷ [] else [])
visited q c texts n e is k =
    subst
    (λ kind. (if holds kind (AnEmail texts (email_in_thread c.emails e)) q.filter then e.number ∷ [] else []) ≡ (if is_match (record q { kind = kind }) c texts n then n ∷ [] else []))
    (sym k)
    (ap₂ (λ (b : Bool) (m : ℕ). if b then m ∷ [] else []) (sym (ap (λ o. passes (λ s. holds OfEmails (AnEmail texts s) q.filter) (option_map (email_in_thread c.emails) o)) is))
    (lookup_number email_number n c.emails e is))
