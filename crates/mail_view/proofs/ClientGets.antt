-- What a client's gets are answered.
use Rattle.std.proofs.Common.{◌≡◌, ◌≤◌, ◌<◌, ℕ, Bool, true, false, ◌&&◌, ◌||◌, cond, le-leb, lt-ltb, List, [], ◌∷◌, length, map, filter, filter_map, Option, Some, None, option_map, is_none, is_some, bytes_eq, codes, refl, ap, ap₂, ◌∙◌, arith, ⊎_elim}
use Rattle.std.specs.Prelude.{nat_lt, nat_le, unwrap_or, if◌then◌else◌}
use Rattle.std.specs.List.{AllByRecursion, find as first_that}
use Rattle.std.proofs.lemmas.Bool.{cases_Bool}
use Rattle.std.proofs.lemmas.Bool.Decides.{nat_tests}
use Rattle.jm_base.specs.declared.identifiers.Kind.TheVariants.{Mailbox as OfMailbox, Email as OfEmail, Thread as OfThread}
use Rattle.jm_base.specs.declared.identifiers.TheConstants.{NUMBER_LIMIT}
use Rattle.jm_json.specs.Find.{find}
use Rattle.jm_json.specs.Tree.{Tree, list, text, trees_of}
use Rattle.jm_json.proofs.CallsBack.{texts_read}
use Rattle.mail_counts.specs.Views.{mailbox_id, mailbox_named}
use Rattle.mail_counts.specs.Views as mailboxes
use Rattle.mail_records.specs.Contents.{email_number, mailbox_number, thread_number}
use Rattle.mail_records.specs.Histories.{blobs_of, content_of}
use Rattle.mail_records.specs.States.{state_of}
use Rattle.method_args.specs.Arguments.{account_in, given}
use Rattle.method_args.specs.declared.TheConstants.{MAX_OBJECTS_PER_CALL}
use Rattle.get_args.specs.Selection.{ids_in, invalid_properties, invalid_selection}
use Rattle.get_args.specs.Wanted.{cached_names_tree, cached_wanted}
use Rattle.get_args.proofs.Cached.{cached_are_read}
use Rattle.mail_view.specs.CachedViews.{named_reply}
use Rattle.mail_view.specs.Emails.{email_named, email_view}
use Rattle.mail_view.specs.Gets.{emails_by, get_records, got, got_unless, reply_tree, too_large}
use Rattle.mail_view.specs.Laws.{GetsShowViews, IdsName}
use Rattle.mail_view.specs.Mailboxes.{mailbox_properties, mailbox_view}
use Rattle.mail_view.specs.Records.{asked_count, asked_records, first_mentions, is_id_text, unknown_ids}
use Rattle.mail_view.specs.Threads.{thread_named, thread_properties, thread_view}
use Rattle.mail_view.specs.View.{identifier}

-- ---- the object under an id

module _ {A : Type 0} (key : A → List ℕ) (view : A → Tree) (id : List ℕ) (test : A → Bool) where
  found_by : (xs : List A) → AllByRecursion (λ x. test x ≡ bytes_eq (key x) id) xs → find id (map (λ x. (key x, view x)) xs) ≡ option_map view (first_that test xs)
  found_by [] all = refl
  found_by (x ∷ xs) all =
      ⊎_elim
      (λ (k : bytes_eq (key x) id ≡ true). rw (k, all.0 ∙ k) refl)
      (λ (k : bytes_eq (key x) id ≡ false). rw (k, all.0 ∙ k) (found_by xs all.1))
      (cases_Bool (bytes_eq (key x) id))

in_range : (n next : ℕ) (b : Bool) → 1 ≤ n → n < next → next ≤ NUMBER_LIMIT → (nat_le 1 n && nat_lt n NUMBER_LIMIT && b) ≡ b
in_range n next b from below most =
    let one : nat_le 1 n ≡ true = le-leb 1 n from in
    let two : nat_lt n NUMBER_LIMIT ≡ true = lt-ltb n NUMBER_LIMIT (omega (arith, below, most)) in
    rw (one, two) refl

all_in_range : {A : Type 0} (number : A → ℕ) (key : A → List ℕ) (id : List ℕ) (next : ℕ) → next ≤ NUMBER_LIMIT → (xs : List A)
    → AllByRecursion (λ x. 1 ≤ number x) xs → AllByRecursion (λ x. number x < next) xs
    → AllByRecursion (λ x. (nat_le 1 (number x) && nat_lt (number x) NUMBER_LIMIT && bytes_eq (key x) id) ≡ bytes_eq (key x) id) xs
all_in_range number key id next most [] from below = tt
all_in_range number key id next most (x ∷ xs) from below =
    (in_range (number x) next (bytes_eq (key x) id) from.0 below.0 most, all_in_range number key id next most xs from.1 below.1)

pub ids_name : IdsName
ids_name OfMailbox c blobs read_only id numbered next =
    found_by (λ m. mailbox_id m.number) (mailbox_view read_only None) id (mailboxes.is_id_of id) c.mailboxes
    (all_in_range mailbox_number (λ m. mailbox_id m.number) id c.next_mailbox next.mailbox c.mailboxes numbered.mailboxes.from_one numbered.mailboxes.below_next)
ids_name OfEmail c blobs read_only id numbered next =
    found_by (λ e. identifier OfEmail e.number) (email_view blobs cached_wanted) id (λ e. is_id_text OfEmail id (email_number e)) c.emails
    (all_in_range email_number (λ e. identifier OfEmail e.number) id c.next_email next.email c.emails numbered.emails.from_one numbered.emails.below_next)
ids_name OfThread c blobs read_only id numbered next =
    found_by (λ t. identifier OfThread t.number) (thread_view None) id (λ t. is_id_text OfThread id (thread_number t)) c.threads
    (all_in_range thread_number (λ t. identifier OfThread t.number) id c.next_thread next.thread c.threads numbered.threads.from_one numbered.threads.below_next)

-- ---- gets

shown_named : {A : Type 0} (view : A → Tree) (named : List ℕ → Option A) (ids : List (List ℕ)) → map view (filter_map named ids) ≡ filter_map (λ id. option_map view (named id)) ids
shown_named view named [] = refl
shown_named {A} view named (id ∷ ids) = by (named id) refl (shown_named view named ids)
  where
    by : (o : Option A) → named id ≡ o → map view (filter_map named ids) ≡ filter_map (λ id. option_map view (named id)) ids
        → map view (filter_map named (id ∷ ids)) ≡ filter_map (λ id. option_map view (named id)) (id ∷ ids)
    by None is rest = rw is rest
    by (Some x) is rest = rw is (ap (λ ts. view x ∷ ts) rest)

still_none : {A B : Type 0} (f : A → B) (o : Option A) → is_none o ≡ is_none (option_map f o)
still_none f None = refl
still_none f (Some x) = refl

missing_named : {A : Type 0} (view : A → Tree) (named : List ℕ → Option A) (ids : List (List ℕ)) → filter (λ id. is_none (named id)) ids ≡ filter (λ id. is_none (option_map view (named id))) ids
missing_named view named [] = refl
missing_named view named (id ∷ ids) = ap₂ (λ b rest. cond b (id ∷ rest) rest) (still_none view (named id)) (missing_named view named ids)

not_more : (n : ℕ) → n ≤ MAX_OBJECTS_PER_CALL → nat_lt MAX_OBJECTS_PER_CALL n ≡ false
not_more n most = by (nat_lt MAX_OBJECTS_PER_CALL n) refl
  where
    by : (b : Bool) → nat_lt MAX_OBJECTS_PER_CALL n ≡ b → nat_lt MAX_OBJECTS_PER_CALL n ≡ false
    by true k = absurd (grind (arith, nat_tests, k, most))
    by false k = k

-- the members of the arguments of a client's get
module _ (account : List ℕ) (ids : List (List ℕ)) (most : length ids ≤ MAX_OBJECTS_PER_CALL) (ms : List (List ℕ × Tree)) (of_account : account_in ms ≡ Some account) (of_ids : ids_in ms ≡ Some ids) where
  selected : invalid_selection ms ≡ None
  selected =
      ap₂ (λ a i. if is_none a then Some (codes "accountId") else if is_none (given (codes "ids") ms) || is_some i then None else Some (codes "ids")) of_account of_ids
      ∙ by (is_none (given (codes "ids") ms))
    where
      by : (b : Bool) → (if b || true then None else Some (codes "ids")) ≡ None
      by true = refl
      by false = refl

  records_shown : {A : Type 0} (named : List ℕ → Option A) (view : A → Tree) (records : List A) (state : ℕ)
      → get_records named view records state ms ≡ got (named_reply (λ id. option_map view (named id)) account state ids)
  records_shown named view records state =
      ap₂ (λ a i. if nat_lt MAX_OBJECTS_PER_CALL (asked_count (length records) i) then too_large
      else got (reply_tree (unwrap_or a []) (map view (asked_records named records i)) (map text (unknown_ids named i)) state)) of_account of_ids
      ∙ (ap (λ b. if b then too_large else got (reply_tree account (map view (asked_records named records (Some ids))) (map text (unknown_ids named (Some ids))) state)) (not_more (length ids) most)
      ∙ ap₂ (λ objects unknown. got (reply_tree account objects (map text unknown) state)) (shown_named view named (first_mentions ids)) (missing_named view named (first_mentions ids)))

  -- of a kind whose arguments name no properties
  plain_shown : {A : Type 0} (named : List ℕ → Option A) (view : A → Tree) (records : List A) (state : ℕ) (properties : List (List ℕ)) → invalid_properties properties ms ≡ None
      → got_unless (invalid_selection ms) (got_unless (invalid_properties properties ms) (get_records named view records state ms)) ≡ got (named_reply (λ id. option_map view (named id)) account state ids)
  plain_shown named view records state properties fine =
      ap₂ (λ o p. got_unless o (got_unless p (get_records named view records state ms))) selected fine ∙ records_shown named view records state

pub gets_show_views : GetsShowViews
gets_show_views OfMailbox h account ids read_only most =
    let ms : List (List ℕ × Tree) = (codes "accountId", text account) ∷ (codes "ids", list (trees_of (map text ids))) ∷ [] in
    plain_shown account ids most ms refl (texts_read ids) (mailbox_named (content_of h).mailboxes) (mailbox_view read_only None) (content_of h).mailboxes (state_of h OfMailbox) mailbox_properties refl
gets_show_views OfThread h account ids read_only most =
    let ms : List (List ℕ × Tree) = (codes "accountId", text account) ∷ (codes "ids", list (trees_of (map text ids))) ∷ [] in
    plain_shown account ids most ms refl (texts_read ids) (thread_named (content_of h).threads) (thread_view None) (content_of h).threads (state_of h OfThread) thread_properties refl
gets_show_views OfEmail h account ids read_only most =
    let ms : List (List ℕ × Tree) = (codes "accountId", text account) ∷ (codes "ids", list (trees_of (map text ids))) ∷ (codes "properties", cached_names_tree) ∷ [] in
    ap₂ (λ o r. got_unless o (emails_by (content_of h) (blobs_of h) (state_of h OfEmail) ms r)) (selected account ids most ms refl (texts_read ids)) (cached_are_read account ids)
    ∙ records_shown account ids most ms refl (texts_read ids) (email_named (content_of h).emails) (email_view (blobs_of h) cached_wanted) (content_of h).emails (state_of h OfEmail)
