-- The object of each record of a tidy content is of its form.
use Rattle.std.proofs.Common.{◌≡◌, ◌≤◌, ◌<◌, ◌≤ℤ◌, ℕ, ℤ, pos, ◌+◌, Bool, true, false, not, ◌&&◌, eqb, eqb-true, int_lt, List, [], ◌∷◌, ◌++◌, map, filter, Option, Some, None, is_some, refl, sym, ap, ap₂, ◌∙◌, subst, arith, codes, Ordering, Less, Equal, Greater, ⊎_elim}
use Rattle.std.specs.Prelude.{T, if◌then◌else◌}
use Rattle.std.specs.Int.Signed.{clash_ℤ, lt_z_yes}
use Rattle.std.specs.Ordering.{match_ordering, nat_cmp}
use Rattle.std.specs.List.{AllByRecursion, flat_map}
use Rattle.std.specs.Cmp.Lexicographic.{slice_cmp}
use Rattle.std.proofs.lemmas.Bool.{cases_Bool, false≢true}
use Rattle.std.proofs.lemmas.List.Elements.{All-from_recursion, recursion_from_All}
use Rattle.std.proofs.lemmas.List.Sorted.{All-permutation}
use Rattle.jm_base.proofs.DateTests.{dated}
use Rattle.jm_base.proofs.WrittenDates.{date_reads_back}
use Rattle.jm_base.specs.Ids.{id_text}
use Rattle.jm_base.specs.UtcDates.{IsUtcDate, utc_text}
use Rattle.jm_base.specs.declared.identifiers.Id.{Id}
use Rattle.jm_base.specs.declared.identifiers.Kind.{Kind}
use Rattle.jm_base.specs.declared.identifiers.Kind.TheVariants.{Mailbox as OfMailbox, Email as OfEmail, Thread as OfThread}
use Rattle.jm_base.specs.declared.identifiers.TheConstants.{NUMBER_LIMIT}
use Rattle.jm_base.specs.declared.identifiers.UtcDate.{UtcDate}
use Rattle.jm_base.specs.declared.utc_dates.TheConstants.{FIRST_TIMESTAMP, LAST_TIMESTAMP}
use Rattle.jm_json.specs.Find.{list_of}
use Rattle.jm_json.specs.Order.{put}
use Rattle.jm_json.specs.Tree.{Tree, boolean, null, text, trees_of}
use Rattle.jm_json.proofs.Lists.{list_of-trees_of, pairs_of-fields_of}
use Rattle.header_forms.specs.Addresses.{addresses_in}
use Rattle.header_forms.specs.Forms.{address_tree, text_or_null}
use Rattle.header_forms.specs.Texts.{on_one_line}
use Rattle.header_forms.specs.declared.address.Address.{Address}
use Rattle.header_forms.specs.declared.form.Form.TheVariants.{Addresses, Text}
use Rattle.mail_counts.specs.Tidy.{IsListOf, IsPlaced, IsThere, IsTidy, IsTidyEmail}
use Rattle.mail_counts.specs.Views.{mailbox_id, mailbox_members, parent_tree, role_tree}
use Rattle.mail_records.specs.Contents.{Content, NextAtMost, email_number, mailbox_number, thread_at, thread_number}
use Rattle.mail_records.specs.Tables.{IsNumbered, lookup}
use Rattle.mail_records.specs.declared.records.Email.{Email}
use Rattle.mail_records.specs.declared.records.Mailbox.{Mailbox}
use Rattle.mail_records.specs.declared.records.Thread.{Thread}
use Rattle.mail_records.proofs.Tables.{All-kept}
use Rattle.method_args.specs.Arguments.{as_flag, passes}
use Rattle.method_args.specs.Ids.{id_number}
use Rattle.method_args.specs.Places.{at_index, at_name, id_places, item_places, list_places, member_places, place_unless}
use Rattle.method_args.proofs.IdTexts.{id_reads}
use Rattle.mime_lines.specs.FieldOffsets.{last_value_of}
use Rattle.mime_lines.specs.Fields.{fields_of as header_fields}
use Rattle.get_args.specs.Wanted.{cached_wanted}
use Rattle.mail_view.proofs.Members.{emails_have_their_members}
use Rattle.mail_view.specs.CachedViews.{message_members, views_in}
use Rattle.mail_view.specs.Emails.{blob_bytes, email_view}
use Rattle.mail_view.specs.Headers.{value_or_null}
use Rattle.mail_view.specs.Laws.{ViewsHaveTheirForm}
use Rattle.mail_view.specs.Mailboxes.{mailbox_view}
use Rattle.mail_view.specs.Objects.{put_all}
use Rattle.mail_view.specs.RecordPlaces.{Form, address_forms, any_name, date_places, email_forms, entry_places, is_mailbox_id, mailbox_forms, nullable_places, object_places, record_places, set_places, string_places, thread_forms}
use Rattle.mail_view.specs.Threads.{thread_members, thread_view}
use Rattle.mail_view.specs.View.{date_tree, has_date_text, identifier, set_tree}

none_all : {A : Type 0} (f : A → List (List ℕ)) (xs : List A) → AllByRecursion (λ x. f x ≡ []) xs → flat_map f xs ≡ []
none_all f [] all = refl
none_all f (x ∷ xs) all = ap₂ (λ a b. a ++ b) all.0 (none_all f xs all.1)

all_map : {A B : Type 0} (P : B → Type 0) (f : A → B) (xs : List A) → AllByRecursion (λ x. P (f x)) xs → AllByRecursion P (map f xs)
all_map P f [] all = tt
all_map P f (x ∷ xs) all = (all.0, all_map P f xs all.1)

all_to : {A : Type 0} (P Q : A → Type 0) → ((x : A) → P x → Q x) → (xs : List A) → AllByRecursion P xs → AllByRecursion Q xs
all_to P Q to [] all = tt
all_to P Q to (x ∷ xs) all = (to x all.0, all_to P Q to xs all.1)

all_both : {A : Type 0} (P Q : A → Type 0) (xs : List A) → AllByRecursion P xs → AllByRecursion Q xs → AllByRecursion (λ x. P x × Q x) xs
all_both P Q [] a b = tt
all_both P Q (x ∷ xs) a b = ((a.0, b.0), all_both P Q xs a.1 b.1)

-- ---- numbers of identifiers

abbrev InRange : ℕ → Type 0
InRange n = (1 ≤ n) × (n < NUMBER_LIMIT)

rows_in_range : {A : Type 0} (number : A → ℕ) (rows : List A) (next : ℕ) → IsNumbered number rows next → next ≤ NUMBER_LIMIT → AllByRecursion (λ r. InRange (number r)) rows
rows_in_range number rows next numbered most =
    all_to (λ r. (1 ≤ number r) × (number r < next)) (λ r. InRange (number r)) (λ r h. (h.0, omega (arith, h.1, most))) rows
    (all_both (λ r. 1 ≤ number r) (λ r. number r < next) rows numbered.from_one numbered.below_next)

there_in_range : {A : Type 0} (number : A → ℕ) (n : ℕ) (rows : List A) → AllByRecursion (λ r. InRange (number r)) rows → is_some (lookup number n rows) ≡ true → InRange n
there_in_range number n [] all there = absurd (false≢true there)
there_in_range number n (r ∷ rs) all there =
    ⊎_elim
    (λ (k : eqb (number r) n ≡ true). subst InRange (eqb-true (number r) n k) all.0)
    (λ (k : eqb (number r) n ≡ false). there_in_range number n rs all.1 (sym (rw k refl) ∙ there))
    (cases_Bool (eqb (number r) n))

id_read : (kind : Kind) (n : ℕ) → InRange n → id_number kind (identifier kind n) ≡ Some n
id_read kind n in' =
    let i : Id = record { kind = kind; number = n } in
    id_reads kind (id_text i) i (record { from_one = in'.0; below = in'.1 }) refl refl

id_formed : (kind : Kind) (n : ℕ) (p : List ℕ) → InRange n → id_places kind p (text (identifier kind n)) ≡ []
id_formed kind n p in' = ap (λ o. place_unless (is_some o) p) (id_read kind n in')

items_formed : (f : Form) (p : List ℕ) (i : ℕ) (ts : List Tree) → AllByRecursion (λ t. (q : List ℕ) → f q t ≡ []) ts → item_places f p i ts ≡ []
items_formed f p i [] all = refl
items_formed f p i (t ∷ ts) all = ap₂ (λ a b. a ++ b) (all.0 (at_index p i)) (items_formed f p (i + 1) ts all.1)

list_formed : (f : Form) (p : List ℕ) (ts : List Tree) → AllByRecursion (λ t. (q : List ℕ) → f q t ≡ []) ts → item_places f p 0 (list_of (trees_of ts)) ≡ []
list_formed f p ts all = ap (item_places f p 0) (list_of-trees_of ts) ∙ items_formed f p 0 ts all

-- ---- mailboxes

parent_formed : (c : Content) → AllByRecursion (λ m. InRange (mailbox_number m)) c.mailboxes → (o : Option ℕ) → ((n : ℕ) → o ≡ Some n → IsThere c n) → (p : List ℕ)
    → nullable_places (id_places OfMailbox) p (parent_tree o) ≡ []
parent_formed c all None there p = refl
parent_formed c all (Some n) there p = id_formed OfMailbox n p (there_in_range mailbox_number n c.mailboxes all (there n refl))

role_formed : (o : Option (List ℕ)) (p : List ℕ) → nullable_places string_places p (role_tree o) ≡ []
role_formed None p = refl
role_formed (Some r) p = refl

mailbox_formed : (c : Content) → AllByRecursion (λ m. InRange (mailbox_number m)) c.mailboxes → (read_only : Bool) (p : List ℕ) (m : Mailbox) → InRange m.number → ((n : ℕ) → m.parent ≡ Some n → IsThere c n)
    → flat_map (λ f. member_places f.1 p f.0 (mailbox_members read_only m)) mailbox_forms ≡ []
mailbox_formed c all read_only p m in' there =
    none_all (λ f. member_places f.1 p f.0 (mailbox_members read_only m)) mailbox_forms (
      id_formed OfMailbox m.number (at_name p (codes "id")) in',
      (
        refl,
        (
          refl,
          (
            refl,
            (
              parent_formed c all m.parent there (at_name p (codes "parentId")),
              (role_formed m.role (at_name p (codes "role")), (refl, (refl, (refl, (refl, (refl, tt)))))),
            ),
          ),
        ),
      ),
    )

-- ---- emails

put_keeps : (P : List ℕ × Tree → Type 0) (k : List ℕ) (t : Tree) (ms : List (List ℕ × Tree)) → P (k, t) → AllByRecursion P ms → AllByRecursion P (put k t ms)
put_keeps P k t [] one all = (one, tt)
put_keeps P k t (m ∷ ms) one all = by (slice_cmp nat_cmp k m.0) (put_keeps P k t ms one all.1)
  where
    by : (o : Ordering) → AllByRecursion P (put k t ms) → AllByRecursion P (match_ordering o ((k, t) ∷ m ∷ ms) ((k, t) ∷ ms) (m ∷ put k t ms))
    by Less rest = (one, all)
    by Equal rest = (one, all.1)
    by Greater rest = (all.0, rest)

put_all_keeps : (P : List ℕ × Tree → Type 0) (xs ms : List (List ℕ × Tree)) → AllByRecursion P xs → AllByRecursion P ms → AllByRecursion P (put_all xs ms)
put_all_keeps P [] ms new old = old
put_all_keeps P (x ∷ xs) ms new old = put_all_keeps P xs (put x.0 x.1 ms) new.1 (put_keeps P x.0 x.1 ms new.0 old)

abbrev IsEntry : (List ℕ → Bool) → List ℕ × Tree → Type 0
IsEntry test m = (test m.0 && passes (λ b. b) (as_flag m.1)) ≡ true

entries_formed : (test : List ℕ → Bool) (p : List ℕ) (ms : List (List ℕ × Tree)) → AllByRecursion (IsEntry test) ms → entry_places test p ms ≡ []
entries_formed test p [] all = refl
entries_formed test p (m ∷ ms) all = ap₂ (λ a b. place_unless a (at_name p m.0) ++ b) all.0 (entries_formed test p ms all.1)

and_true : (b : Bool) → b ≡ true → (b && true) ≡ true
and_true b e = ap (λ a. a && true) e

set_formed : (test : List ℕ → Bool) (p : List ℕ) (keys : List (List ℕ)) → AllByRecursion (λ k. test k ≡ true) keys → set_places test p (set_tree keys) ≡ []
set_formed test p keys all =
    let ms = map (λ k. (k, boolean true)) keys in
    ap (entry_places test p) (pairs_of-fields_of (put_all ms []))
    ∙ entries_formed test p (put_all ms [])
    (put_all_keeps (IsEntry test) ms [] (all_map (IsEntry test) (λ k. (k, boolean true)) keys (all_to (λ k. test k ≡ true) (λ k. IsEntry test (k, boolean true)) (λ k e. and_true (test k) e) keys all)) tt)

any_formed : (keys : List (List ℕ)) → AllByRecursion (λ k. any_name k ≡ true) keys
any_formed [] = tt
any_formed (k ∷ ks) = (refl, any_formed ks)

name_formed : (o : Option (List ℕ)) (p : List ℕ) → nullable_places string_places p (text_or_null o) ≡ []
name_formed None p = refl
name_formed (Some t) p = refl

address_formed : (a : Address) (p : List ℕ) → object_places address_forms p (address_tree a) ≡ []
address_formed a p =
    none_all (λ f. member_places f.1 p f.0 ((codes "email", text a.email) ∷ (codes "name", text_or_null a.name) ∷ [])) address_forms (refl, (name_formed a.name (at_name p (codes "name")), tt))

addresses_formed : (addresses : List Address) → AllByRecursion (λ t. (q : List ℕ) → object_places address_forms q t ≡ []) (map address_tree addresses)
addresses_formed [] = tt
addresses_formed (a ∷ more) = (address_formed a, addresses_formed more)

from_formed : (o : Option (List ℕ)) (p : List ℕ) → nullable_places (list_places (object_places address_forms)) p (value_or_null Addresses o) ≡ []
from_formed None p = refl
from_formed (Some value) p =
    let addresses = addresses_in (on_one_line value) in
    list_formed (object_places address_forms) p (map address_tree addresses) (addresses_formed addresses)

subject_formed : (o : Option (List ℕ)) (p : List ℕ) → nullable_places string_places p (value_or_null Text o) ≡ []
subject_formed None p = refl
subject_formed (Some value) p = refl

not_below : (a b : ℤ) (t : Bool) → int_lt a b ≡ t → b ≤ℤ a → not t ≡ true
not_below a b true is le = clash_ℤ (lt_z_yes (subst T (sym is) tt)) le
not_below a b false is le = refl

both_true : (a b : Bool) → a ≡ true → b ≡ true → (a && b) ≡ true
both_true a b e f = ap₂ (λ x y. x && y) e f

date_shown : (d : UtcDate) → IsUtcDate d → has_date_text d ≡ true
date_shown d is =
    both_true _ _ (not_below d.seconds FIRST_TIMESTAMP (int_lt d.seconds FIRST_TIMESTAMP) refl is.not_before)
    (not_below (pos LAST_TIMESTAMP) d.seconds (int_lt (pos LAST_TIMESTAMP) d.seconds) refl is.not_after)

date_formed : (d : UtcDate) → IsUtcDate d → (p : List ℕ) → date_places p (date_tree d) ≡ []
date_formed d is p =
    ap (λ b. date_places p (if b then text (utc_text d) else null)) (date_shown d is)
    ∙ ap (λ o. place_unless (is_some o) p) (sym (dated (utc_text d) d (date_reads_back d is)))

module _ (c : Content) (tidy : IsTidy c) (next : NextAtMost NUMBER_LIMIT c) where
  mailboxes_in : AllByRecursion (λ m. InRange (mailbox_number m)) c.mailboxes
  mailboxes_in = rows_in_range mailbox_number c.mailboxes c.next_mailbox tidy.numbered.mailboxes next.mailbox

  emails_in : AllByRecursion (λ e. InRange (email_number e)) c.emails
  emails_in = rows_in_range email_number c.emails c.next_email tidy.numbered.emails next.email

  threads_in : AllByRecursion (λ t. InRange (thread_number t)) c.threads
  threads_in = rows_in_range thread_number c.threads c.next_thread tidy.numbered.threads next.thread

  mailbox_keys : (ns : List ℕ) → AllByRecursion (IsThere c) ns → AllByRecursion (λ k. is_mailbox_id k ≡ true) (map (identifier OfMailbox) ns)
  mailbox_keys ns all =
      all_map (λ k. is_mailbox_id k ≡ true) (identifier OfMailbox) ns
      (all_to (IsThere c) (λ n. is_mailbox_id (identifier OfMailbox n) ≡ true) (λ n there. ap is_some (id_read OfMailbox n (there_in_range mailbox_number n c.mailboxes mailboxes_in there))) ns all)

  email_formed : (bytes : List ℕ) (e : Email) → IsTidyEmail c e → InRange e.number → InRange e.thread → (p : List ℕ)
      → flat_map (λ f. member_places f.1 p f.0 (message_members bytes e)) email_forms ≡ []
  email_formed bytes e is number thread p =
      none_all (λ f. member_places f.1 p f.0 (message_members bytes e)) email_forms (
        refl,
        (
          from_formed (last_value_of bytes (codes "From") (header_fields bytes)) (at_name p (codes "from")),
          (
            refl,
            (
              id_formed OfEmail e.number (at_name p (codes "id")) number,
              (
                set_formed any_name (at_name p (codes "keywords")) e.keywords (any_formed e.keywords),
                (
                  set_formed is_mailbox_id (at_name p (codes "mailboxIds")) (map (identifier OfMailbox) e.mailboxes) (mailbox_keys e.mailboxes is.mailboxes),
                  (
                    refl,
                    (
                      date_formed e.received is.received (at_name p (codes "receivedAt")),
                      (
                        refl,
                        (
                          subject_formed (last_value_of bytes (codes "Subject") (header_fields bytes)) (at_name p (codes "subject")),
                          (id_formed OfThread e.thread (at_name p (codes "threadId")) thread, tt),
                        ),
                      ),
                    ),
                  ),
                ),
              ),
            ),
          ),
        ),
      )

  listed_in : (t : Thread) (listed : List Email) → IsListOf c.emails t listed → AllByRecursion InRange t.emails
  listed_in t listed is =
      subst (AllByRecursion InRange) (sym is.numbers)
      (all_map InRange email_number listed
      (recursion_from_All (λ e. InRange (email_number e)) listed
      (All-permutation (λ e. InRange (email_number e)) (filter (λ (e : Email). eqb e.thread t.number) c.emails) listed is.all
      (All-from_recursion (λ e. InRange (email_number e)) (filter (λ (e : Email). eqb e.thread t.number) c.emails)
      (All-kept (λ e. InRange (email_number e)) (λ (e : Email). eqb e.thread t.number) c.emails emails_in)))))

  id_items : (ns : List ℕ) → AllByRecursion InRange ns → AllByRecursion (λ t. (q : List ℕ) → id_places OfEmail q t ≡ []) (map text (map (identifier OfEmail) ns))
  id_items [] all = tt
  id_items (n ∷ ns) all = ((λ q. id_formed OfEmail n q all.0), id_items ns all.1)

  thread_formed : (t : Thread) → InRange t.number → AllByRecursion InRange t.emails → (p : List ℕ) → flat_map (λ f. member_places f.1 p f.0 (thread_members t)) thread_forms ≡ []
  thread_formed t number emails p =
      none_all (λ f. member_places f.1 p f.0 (thread_members t)) thread_forms (
        list_formed (id_places OfEmail) (at_name p (codes "emailIds")) (map text (map (identifier OfEmail) t.emails)) (id_items t.emails emails),
        (id_formed OfThread t.number (at_name p (codes "id")) number, tt),
      )

  placed_parent : (m : Mailbox) → IsPlaced c m → (n : ℕ) → m.parent ≡ Some n → IsThere c n
  placed_parent m is n e = is.parent n e

  formed_in : (blobs : List (List ℕ)) (read_only : Bool) (p : List ℕ) (kind : Kind) → AllByRecursion (λ x. record_places kind p x.1 ≡ []) (views_in kind c blobs read_only)
  formed_in blobs read_only p OfMailbox =
      all_map (λ x. record_places OfMailbox p x.1 ≡ []) (λ m. (mailbox_id m.number, mailbox_view read_only None m)) c.mailboxes
      (all_to (λ m. InRange (mailbox_number m) × IsPlaced c m) (λ m. record_places OfMailbox p (mailbox_view read_only None m) ≡ [])
      (λ m h. mailbox_formed c mailboxes_in read_only p m h.0 (placed_parent m h.1)) c.mailboxes
      (all_both (λ m. InRange (mailbox_number m)) (IsPlaced c) c.mailboxes mailboxes_in tidy.mailboxes.placed))
  formed_in blobs read_only p OfEmail =
      all_map (λ x. record_places OfEmail p x.1 ≡ []) (λ e. (identifier OfEmail e.number, email_view blobs cached_wanted e)) c.emails
      (all_to (λ e. InRange (email_number e) × (IsTidyEmail c e × (is_some (thread_at c e.thread) ≡ true))) (λ e. record_places OfEmail p (email_view blobs cached_wanted e) ≡ [])
      (λ e h. ap (record_places OfEmail p) (emails_have_their_members blobs e)
      ∙ email_formed (blob_bytes blobs e.blob) e h.1.0 h.0 (there_in_range thread_number e.thread c.threads threads_in h.1.1) p) c.emails
      (all_both (λ e. InRange (email_number e)) (λ e. IsTidyEmail c e × (is_some (thread_at c e.thread) ≡ true)) c.emails emails_in
      (all_both (IsTidyEmail c) (λ e. is_some (thread_at c e.thread) ≡ true) c.emails tidy.emails.each tidy.threads.named)))
  formed_in blobs read_only p OfThread =
      all_map (λ x. record_places OfThread p x.1 ≡ []) (λ t. (identifier OfThread t.number, thread_view None t)) c.threads
      (all_to (λ t. InRange (thread_number t) × ((listed : List Email) × IsListOf c.emails t listed)) (λ t. record_places OfThread p (thread_view None t) ≡ [])
      (λ t h. thread_formed t h.0 (listed_in t h.1.0 h.1.1) p) c.threads
      (all_both (λ t. InRange (thread_number t)) (λ t. (listed : List Email) × IsListOf c.emails t listed) c.threads threads_in tidy.threads.lists))

pub views_have_their_form : ViewsHaveTheirForm
views_have_their_form kind c blobs read_only p tidy next = formed_in c tidy next blobs read_only p kind
