-- The answer to a query of all records of a kind is read as the part of their list that it is.
use Rattle.std.proofs.Common.{◌≡◌, ℕ, ◌≤◌, ◌<◌, List, [], drop, length, true, false, Option, Some, None, is_some, min, option_map, refl, sym, ap, ◌∙◌, arith, true≢false}
use Rattle.jm_base.specs.Ids.{IsId}
use Rattle.jm_base.specs.declared.identifiers.Kind.{Kind}
use Rattle.jm_base.specs.declared.identifiers.Kind.TheVariants.{Mailbox as OfMailbox, Email as OfEmail, Thread as OfThread}
use Rattle.jm_base.specs.declared.identifiers.TheConstants.{NUMBER_LIMIT}
use Rattle.jm_base.specs.declared.limits.TheConstants.{MAX_JSON_INTEGER}
use Rattle.jm_json.specs.Tree.{Tree, object, fields_of}
use Rattle.mail_records.specs.Contents.{email_number, mailbox_number}
use Rattle.mail_records.specs.Histories.{History, IsFounded, content_at, content_of, edits_of, end_of}
use Rattle.mail_records.specs.States.{state_of}
use Rattle.mail_records.specs.Tables.{lookup}
use Rattle.mail_records.proofs.Growth.{AreNumbered-after_edits, NextAtMost-founded}
use Rattle.mail_records.proofs.Reached.{Reaches-state_of}
use Rattle.method_args.specs.Arguments.{passes}
use Rattle.method_args.specs.Outcomes.{replied}
use Rattle.method_args.specs.WrittenIds.{AreIds}
use Rattle.filter_terms.specs.Targets.{email_in_thread}
use Rattle.filter_terms.specs.Texts.{MessageTexts}
use Rattle.query_engine.specs.Queries.{numbers_of, order_of, result_list, shows}
use Rattle.query_engine.specs.Responses.{query_outcome, response_members}
use Rattle.query_engine.specs.Windows.{part_from as shown_from}
use Rattle.query_engine.proofs.Results.{result_has}
use Rattle.reply_readers.specs.ReadBack.{CanBeResults}
use Rattle.reply_readers.proofs.ReadBacks.{results_read_back}
use Rattle.client_cache.specs.Requests.{results_arguments}
use Rattle.client_cache.specs.declared.limits.TheConstants.{MAX_RESULTS}
use Rattle.client_follow.specs.Laws.{LoadsAreRead, LoadsNameAll}
use Rattle.client_follow.specs.Lists.{query_of_all}
use Rattle.client_follow.specs.Results.{AreResultsRead}
use Rattle.client_follow.proofs.Pages.{all_after, all_kept, all_taken}
use Rattle.client_follow.proofs.Results.{all_sorted, few_taken, least, rows_are_ids}

abbrev list_of : Kind → History → (ℕ → MessageTexts) → List ℕ
list_of kind h texts = result_list (query_of_all kind) (content_of h) texts

abbrev tree_at : Kind → History → List ℕ → List ℕ → ℕ → Tree
tree_at kind h account list start =
    object (fields_of (response_members kind account (state_of h kind) (shown_from list (Some MAX_RESULTS) start) false (length list)))

read_of : (kind : Kind) (h : History) (texts : ℕ → MessageTexts) (account pointer : List ℕ) (position : ℕ) → IsFounded h → end_of h < NUMBER_LIMIT → position ≤ MAX_JSON_INTEGER
    → AreIds kind (numbers_of kind (content_of h))
    → query_outcome kind (state_of h kind) (content_of h) texts (results_arguments account position) ≡ replied (tree_at kind h account (list_of kind h texts) (min position MAX_JSON_INTEGER))
    → AreResultsRead kind h texts account pointer (results_arguments account position) (list_of kind h texts) position
read_of kind h texts account pointer position founded few small rows answered =
    let q = query_of_all kind in
    let list = list_of kind h texts in
    let P : ℕ → Type 0 = λ n. IsId (record { kind = kind; number = n }) in
    let ids : AreIds kind list = all_sorted P (order_of q (content_of h)) _ [] (all_kept P (shows q (content_of h) texts) _ rows) tt in
    let fits = (Reaches-state_of h kind founded.floors).1 in
    let can : CanBeResults kind (state_of h kind) MAX_RESULTS (shown_from list (Some MAX_RESULTS) position) = record {
      ids = all_taken P MAX_RESULTS (drop position list) (all_after P position list ids);
      few = few_taken MAX_RESULTS (drop position list);
      position = small;
      query_state = omega (arith, fits, few);
    } in
    let back = results_read_back kind account pointer (state_of h kind) MAX_RESULTS (shown_from list (Some MAX_RESULTS) position) false (length list) can in
    record {
      tree = tree_at kind h account list position;
      answer = answered ∙ ap (λ n. replied (tree_at kind h account list n)) (least position small);
      form = back.0;
      read = back.1;
    }

pub loads_are_read : LoadsAreRead
loads_are_read OfMailbox h texts account pointer position has_one founded sound few small =
    let numbered = (AreNumbered-after_edits (edits_of h) h.base sound.fits founded.numbered).mailboxes in
    let next = (NextAtMost-founded h founded sound.fits).mailbox in
    let most : (content_of h).next_mailbox ≤ NUMBER_LIMIT = omega (arith, next, few) in
    read_of OfMailbox h texts account pointer position founded few small
    (rows_are_ids OfMailbox mailbox_number (content_of h).next_mailbox (content_of h).mailboxes most numbered.from_one numbered.below_next) refl
loads_are_read OfEmail h texts account pointer position has_one founded sound few small =
    let numbered = (AreNumbered-after_edits (edits_of h) h.base sound.fits founded.numbered).emails in
    let next = (NextAtMost-founded h founded sound.fits).email in
    let most : (content_of h).next_email ≤ NUMBER_LIMIT = omega (arith, next, few) in
    read_of OfEmail h texts account pointer position founded few small
    (rows_are_ids OfEmail email_number (content_of h).next_email (content_of h).emails most numbered.from_one numbered.below_next) refl
loads_are_read OfThread h texts account pointer position has_one founded sound few small = absurd (true≢false (sym has_one))

-- ---- all records

passes_there : {X : Type 0} (o : Option X) → passes (λ x. true) o ≡ is_some o
passes_there None = refl
passes_there (Some x) = refl

passes_mapped : {X Y : Type 0} (f : X → Y) (o : Option X) → passes (λ y. true) (option_map f o) ≡ is_some o
passes_mapped f None = refl
passes_mapped f (Some x) = refl

pub loads_name_all : LoadsNameAll
loads_name_all OfMailbox h texts k n has_one =
    result_has (query_of_all OfMailbox) (content_at h k) texts n ∙ passes_there (lookup mailbox_number n (content_at h k).mailboxes)
loads_name_all OfEmail h texts k n has_one =
    result_has (query_of_all OfEmail) (content_at h k) texts n ∙ passes_mapped (email_in_thread (content_at h k).emails) (lookup email_number n (content_at h k).emails)
loads_name_all OfThread h texts k n has_one = absurd (true≢false (sym has_one))
