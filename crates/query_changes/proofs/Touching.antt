-- The list of the touched numbers has exactly these, and what the notes of edits touch is what the edits touch.
use Rattle.std.proofs.Common.{◌≡◌, ℕ, ◌+◌, ◌<◌, Bool, true, false, ◌&&◌, ◌||◌, eqb, ltb, le-ltb, ne_eqb, get_or, arith, cond, List, [], ◌∷◌, ◌++◌, map, filter, Option, Some, None, is_some, refl, sym, ap, ap₂, ◌∙◌, nat_cmp, Equal}
use Rattle.std.specs.List.{list_any}
use Rattle.std.specs.List.Sorted.{IsSorted, IsStrictlyIncreasing}
use Rattle.std.specs.Ordering.{is_eq, is_lt}
use Rattle.std.proofs.lemmas.Bool.{true≢false}
use Rattle.std.proofs.lemmas.Cmp.{nat_cmp_total}
use Rattle.std.proofs.lemmas.List.{get_or_default}
use Rattle.std.proofs.lemmas.Map.Keys.{IsStrictlyIncreasing-from_sorted, sorted_from_strictly_increasing}
use Rattle.jm_base.specs.Splices.{has, with_index}
use Rattle.jm_base.specs.declared.identifiers.Kind.{Kind}
use Rattle.jm_base.specs.declared.identifiers.Kind.TheVariants.{Mailbox as OfMailboxes, Email as OfEmails, Thread as OfThreads}
use Rattle.jm_base.proofs.Spliced.{has-filter}
use Rattle.mail_records.specs.Contents.{Content, email_at, email_number}
use Rattle.mail_records.specs.Edits.{id_of, named_thread}
use Rattle.mail_records.specs.Histories.{History, content_of, edits_after}
use Rattle.mail_records.specs.States.{is_id, is_kind}
use Rattle.mail_records.specs.declared.edits.Edit.{Edit}
use Rattle.mail_records.specs.declared.records.Email.{Email}
use Rattle.mail_records.proofs.KeyTables.{nat_equal}
use Rattle.method_args.specs.Arguments.{passes}
use Rattle.state_log.specs.Logs.{note_of, numbers_named, threads_named, with_thread}
use Rattle.state_log.proofs.Agreement.{ids_in-notes}
use Rattle.state_log.proofs.Named.{any-numbers_named}
use Rattle.query_engine.specs.Queries.{is_wide, numbers_of}
use Rattle.query_engine.specs.Views.{QueryTree}
use Rattle.query_engine.proofs.Results.{has_numbers, has_sorted, one_list, sorted_rises}
use Rattle.query_changes.specs.Laws.{AreTheTouched}
use Rattle.query_changes.specs.Notes.{notes_touch}
use Rattle.query_changes.specs.Touched.{looks_at_threads, names_thread, shares_thread, touched_by, touches}

-- equal by the order of numbers are a number and itself alone
apart : (a b : ℕ) → nat_cmp a b ≡ Equal → a ≡ b
apart a b e = nat_equal a b (ap is_eq e)

pub has-append : (xs ys : List ℕ) (n : ℕ) → has (xs ++ ys) n ≡ (has xs n || has ys n)
has-append [] ys n = refl
has-append (x ∷ xs) ys n = or_assoc (eqb x n) (has xs n) (has ys n) (has (xs ++ ys) n) (has-append xs ys n)
  where
    or_assoc : (a b c d : Bool) → d ≡ (b || c) → (a || d) ≡ ((a || b) || c)
    or_assoc true b c d h = refl
    or_assoc false b c d h = h

-- what is touched is named, or is there
among : (a w p b : Bool) → (w ≡ true → p ≡ true → b ≡ true) → ((a || (w && p)) && (a || b)) ≡ (a || (w && p))
among true w p b f = refl
among false false p b f = refl
among false true false b f = refl
among false true true b f = f refl refl

first_true : (a b : Bool) → (a && b) ≡ true → a ≡ true
first_true true b h = refl
first_true false b h = absurd (true≢false (sym h))

of_emails : (kind : Kind) → is_kind kind OfEmails ≡ true → kind ≡ OfEmails
of_emails OfEmails h = refl
of_emails OfMailboxes h = absurd (true≢false (sym h))
of_emails OfThreads h = absurd (true≢false (sym h))

there : (edits : List Edit) (o : Option Email) → shares_thread edits o ≡ true → is_some o ≡ true
there edits None h = absurd (true≢false (sym h))
there edits (Some e) h = refl

pub looks_at_emails : (q : QueryTree) → looks_at_threads q ≡ true → q.kind ≡ OfEmails
looks_at_emails q h = of_emails q.kind (first_true (is_kind q.kind OfEmails) (is_wide q) h)

pub has-touched_by : (q : QueryTree) (edits : List Edit) (now : Content) (n : ℕ) → has (touched_by q edits now) n ≡ touches q edits now n
has-touched_by q edits now n =
    let named = numbers_named q.kind (map id_of edits) in
    let present = numbers_of q.kind now in
    let all = named ++ present in
    has_sorted nat_cmp_total apart (filter (touches q edits now) all) n
    ∙ (has-filter (touches q edits now) all n
    ∙ (ap (λ b. touches q edits now n && b) (has-append named present n ∙ ap (λ b. b || has present n) (any-numbers_named q.kind (map id_of edits) n))
    ∙ among (list_any (is_id q.kind n) (map id_of edits)) (looks_at_threads q) (shares_thread edits (email_at now n)) (has present n)
    (λ looks shares.
    ap (λ (k : Kind). has (numbers_of k now) n) (looks_at_emails q looks)
    ∙ (has_numbers email_number now.emails n ∙ there edits (email_at now n) shares))))

pub touched_rise : (q : QueryTree) (edits : List Edit) (now : Content) → IsStrictlyIncreasing (touched_by q edits now)
touched_rise q edits now =
    IsStrictlyIncreasing-from_sorted (touched_by q edits now)
    (sorted_rises nat_cmp_total apart (filter (touches q edits now) (numbers_named q.kind (map id_of edits) ++ numbers_of q.kind now)))

pub are_the_touched : (h : History) (q : QueryTree) (s : ℕ) → AreTheTouched h q s
are_the_touched h q s = record {
  rise = touched_rise q (edits_after h s) (content_of h);
  exactly = has-touched_by q (edits_after h s) (content_of h);
}

-- numbers that rise and are exactly the touched ones are their list
pub touched_is : (q : QueryTree) (edits : List Edit) (now : Content) (numbers : List ℕ) → IsStrictlyIncreasing numbers → ((n : ℕ) → has numbers n ≡ touches q edits now n)
    → numbers ≡ touched_by q edits now
touched_is q edits now numbers rise same =
    one_list nat_cmp_total apart numbers (touched_by q edits now) (sorted_from_strictly_increasing numbers rise)
    (sorted_from_strictly_increasing (touched_by q edits now) (touched_rise q edits now))
    (λ n. same n ∙ sym (has-touched_by q edits now n))

-- ---- notes

passes_same : (f g : Email → Bool) → ((e : Email) → f e ≡ g e) → (o : Option Email) → passes f o ≡ passes g o
passes_same f g same None = refl
passes_same f g same (Some e) = same e

has_with : (o : Option ℕ) (threads : List ℕ) (t : ℕ) → has (with_thread o threads) t ≡ (passes (λ x. eqb x t) o || has threads t)
has_with None threads t = refl
has_with (Some x) threads t = refl

pub has-threads_named : (edits : List Edit) (t : ℕ) → has (threads_named (map note_of edits)) t ≡ list_any (names_thread t) edits
has-threads_named [] t = refl
has-threads_named (e ∷ es) t =
    has_with (named_thread e) (threads_named (map note_of es)) t ∙ ap (λ b. names_thread t e || b) (has-threads_named es t)

pub notes_touch-edits : (q : QueryTree) (edits : List Edit) (now : Content) (n : ℕ) → notes_touch q (map note_of edits) now n ≡ touches q edits now n
notes_touch-edits q edits now n =
    ap₂ (λ a b. a || (looks_at_threads q && b)) (ap (list_any (is_id q.kind n)) (ids_in-notes edits))
    (passes_same (λ e. has (threads_named (map note_of edits)) e.thread) (λ e. list_any (names_thread e.thread) edits) (λ e. has-threads_named edits e.thread) (email_at now n))

-- ---- indices

above_not_before : (x y : ℕ) → x < y → is_lt (nat_cmp y x) ≡ false
above_not_before x y h = let a : ltb y x ≡ false = le-ltb y x (omega arith) in let b : eqb y x ≡ false = ne_eqb y x (λ e. omega arith) in rw a (rw b refl)

-- numbers that rise are sorted
pub sorted_rising : (xs : List ℕ) → IsStrictlyIncreasing xs → IsSorted nat_cmp xs
sorted_rising xs rise k d low below =
    let here = get_or_default xs k d 0 (omega arith) in
    let next = get_or_default xs (k + 1) d 0 below in
    let up = rise k below in
    above_not_before (get_or xs k d) (get_or xs (k + 1) d) (omega (arith, here, next, up))

pub with_index-same : (f g : ℕ → Bool) → ((n : ℕ) → f n ≡ g n) → (start : ℕ) (list : List ℕ) → with_index f start list ≡ with_index g start list
with_index-same f g same start [] = refl
with_index-same f g same start (n ∷ ns) =
    ap₂ (λ b rest. cond b (record { number = n; index = start } ∷ rest) rest) (same n) (with_index-same f g same (start + 1) ns)
