-- The answer to a get that does not fail, from its parts.
use Rattle.std.proofs.Common.{◌≡◌, ℕ, ◌+◌, ◌≤◌, Result, IfErr, List, [], ◌∷◌, length, map, Bool, true, false, Option, Some, None, unwrap_or, refl, sym, ap, ap₂, subst, ◌∙◌, arith}
use Rattle.std.specs.Prelude.{nat_lt, if◌then◌else◌, ⊤}
use Rattle.std.specs.Result.{IsErrAnd}
use Rattle.std.proofs.lemmas.Result.{err_from_is_err_and}
use Rattle.std.proofs.lemmas.Bool.Decides.{nat_tests}
use Rattle.jm_json.specs.Tree.{Tree, text, object, fields_of}
use Rattle.mail_records.specs.Contents.{Content}
use Rattle.mail_records.specs.declared.records.Mailbox.{Mailbox}
use Rattle.mail_records.specs.declared.records.Thread.{Thread}
use Rattle.method_args.specs.Arguments.{account_in}
use Rattle.method_args.specs.declared.TheConstants.{MAX_OBJECTS_PER_CALL}
use Rattle.get_args.specs.Faults.{Names}
use Rattle.get_args.specs.Faults as arguments
use Rattle.get_args.specs.Wanted.{Reading}
use Rattle.get_args.specs.Selection.{hidden_of, ids_in}
use Rattle.get_args.specs.declared.fault.WantedFault.{WantedFault}
use Rattle.get_args.specs.declared.fault.WantedFault.TheVariants as wanted
use Rattle.mail_view.specs.Records.{asked_count, asked_records, unknown_ids}
use Rattle.mail_view.specs.Mailboxes.{mailbox_properties, mailbox_view}
use Rattle.mail_view.specs.Threads.{thread_properties, thread_view}
use Rattle.mail_view.specs.Gets.{Got, got, too_large, emails_by, got_unless, get_records, records_reply, reply_tree}
use Rattle.get_calls.specs.Faults.{GetFails, fault_of}
use Rattle.get_calls.specs.declared.fault.GetFault.{GetFault}
use Rattle.get_calls.specs.Members.{mailbox_without, thread_without}
use Rattle.get_calls.proofs.HiddenMembers.{shown_members, thread_members_shown}

-- an argument that is invalid is the answer
blamed : (fault : WantedFault) (found : Option (List ℕ)) (answer : Got) → Names fault found → GetFails (fault_of fault) (got_unless found answer)
blamed (wanted.Invalid name) found answer is = ap (λ o. got_unless o answer) is
blamed wanted.NoMemory found answer is = tt

blamed_next : (fault : WantedFault) (before found : Option (List ℕ)) (answer : Got) → before ≡ None → Names fault found → GetFails (fault_of fault) (got_unless before (got_unless found answer))
blamed_next fault before found answer none is =
    subst (λ o. GetFails (fault_of fault) (got_unless o (got_unless found answer))) (sym none) (blamed fault found answer is)

blamed_by : (fault : WantedFault) (reading : Reading) (content : Content) (blobs : List (List ℕ)) (state : ℕ) (args : List (List ℕ × Tree)) → arguments.ReadingFails fault reading
    → GetFails (fault_of fault) (emails_by content blobs state args reading)
blamed_by (wanted.Invalid name) reading content blobs state args is = ap (emails_by content blobs state args) is
blamed_by wanted.NoMemory reading content blobs state args is = tt

-- an argument that is invalid is the answer, also where the exit of a `?` returns it
pub refused_first : {T : Type 0} (r : Result T GetFault) (fault : WantedFault) (found : Option (List ℕ)) (answer : Got) → IsErrAnd r (λ e. e ≡ fault_of fault) → Names fault found → IfErr r (λ e. GetFails e (got_unless found answer))
refused_first r fault found answer err is = let p = err_from_is_err_and r err in rw (p.1, p.2) (blamed fault found answer is)

pub refused_next : {T : Type 0} (r : Result T GetFault) (fault : WantedFault) (before found : Option (List ℕ)) (answer : Got) → IsErrAnd r (λ e. e ≡ fault_of fault) → before ≡ None → Names fault found
    → IfErr r (λ e. GetFails e (got_unless before (got_unless found answer)))
refused_next r fault before found answer err none is = let p = err_from_is_err_and r err in rw (p.1, p.2) (blamed_next fault before found answer none is)

pub refused_wanted : {T : Type 0} (r : Result T GetFault) (fault : WantedFault) (before : Option (List ℕ)) (reading : Reading) (content : Content) (blobs : List (List ℕ)) (state : ℕ) (args : List (List ℕ × Tree)) → IsErrAnd r (λ e. e ≡ fault_of fault)
    → before ≡ None → arguments.ReadingFails fault reading → IfErr r (λ e. GetFails e (got_unless before (emails_by content blobs state args reading)))
refused_wanted r fault before reading content blobs state args err none is =
    let p = err_from_is_err_and r err in
    rw (p.1, p.2) (subst (λ o. GetFails (fault_of fault) (got_unless o (emails_by content blobs state args reading))) (sym none) (blamed_by fault reading content blobs state args is))

pub views : (read_only : Bool) (names : Option (List (List ℕ))) (ms : List Mailbox) → map (mailbox_without read_only (hidden_of names mailbox_properties)) ms ≡ map (mailbox_view read_only names) ms
views read_only names [] = refl
views read_only names (m ∷ ms) = ap₂ (λ x xs. x ∷ xs) (ap (λ ps. object (fields_of ps)) (shown_members read_only names m)) (views read_only names ms)

pub thread_views : (names : Option (List (List ℕ))) (ts : List Thread) → map (thread_without (hidden_of names thread_properties)) ts ≡ map (thread_view names) ts
thread_views names [] = refl
thread_views names (t ∷ ts) = ap₂ (λ x xs. x ∷ xs) (ap (λ ps. object (fields_of ps)) (thread_members_shown names t)) (thread_views names ts)

few : (n : ℕ) → n ≤ MAX_OBJECTS_PER_CALL → nat_lt MAX_OBJECTS_PER_CALL n ≡ false
few n h = grind (arith, nat_tests)

many : (n : ℕ) → MAX_OBJECTS_PER_CALL + 1 ≤ n → nat_lt MAX_OBJECTS_PER_CALL n ≡ true
many n h = grind (arith, nat_tests)

asked : {A : Type 0} (named : List ℕ → Option A) (view : A → Tree) (records : List A) (state : ℕ) (args : List (List ℕ × Tree))
    → nat_lt MAX_OBJECTS_PER_CALL (asked_count (length records) (ids_in args)) ≡ false → get_records named view records state args ≡ got (records_reply named view records state args)
asked named view records state args e = rw e refl

told_many : {A : Type 0} (named : List ℕ → Option A) (view : A → Tree) (records : List A) (state : ℕ) (args : List (List ℕ × Tree))
    → nat_lt MAX_OBJECTS_PER_CALL (asked_count (length records) (ids_in args)) ≡ true → get_records named view records state args ≡ too_large
told_many named view records state args e = rw e refl

-- too many objects are asked for
pub too_many : {A : Type 0} (named : List ℕ → Option A) (view : A → Tree) (records : List A) (state : ℕ) (args : List (List ℕ × Tree)) (ids : Option (List (List ℕ))) (n : ℕ)
    → ids ≡ ids_in args → n ≡ asked_count (length records) ids → MAX_OBJECTS_PER_CALL + 1 ≤ n → get_records named view records state args ≡ too_large
too_many named view records state args ids n same counted past = told_many named view records state args (ap (nat_lt MAX_OBJECTS_PER_CALL) (ap (asked_count (length records)) (sym same) ∙ sym counted) ∙ many n past)

-- the parts of a response make the answer, if few objects are asked for
pub answered : {A : Type 0} (named : List ℕ → Option A) (view : A → Tree) (records : List A) (state : ℕ) (args : List (List ℕ × Tree)) (account : List ℕ) (ids : Option (List (List ℕ))) (objects unknown : List Tree)
    → account_in args ≡ Some account → ids ≡ ids_in args → asked_count (length records) ids ≤ MAX_OBJECTS_PER_CALL
    → objects ≡ map view (asked_records named records ids) → unknown ≡ map text (unknown_ids named ids)
    → get_records named view records state args ≡ got (reply_tree account objects unknown state)
answered named view records state args account ids objects unknown known same count shown nothing =
    let less : nat_lt MAX_OBJECTS_PER_CALL (asked_count (length records) (ids_in args)) ≡ false = few _ (subst (λ i. asked_count (length records) i ≤ MAX_OBJECTS_PER_CALL) same count) in
    let list_is : map view (asked_records named records (ids_in args)) ≡ objects = sym (shown ∙ ap (λ i. map view (asked_records named records i)) same) in
    let unknown_is : map text (unknown_ids named (ids_in args)) ≡ unknown = sym (nothing ∙ ap (λ i. map text (unknown_ids named i)) same) in
    asked named view records state args less
    ∙ ap (λ a. got (reply_tree a (map view (asked_records named records (ids_in args))) (map text (unknown_ids named (ids_in args))) state)) (ap (λ o. unwrap_or o []) known)
    ∙ ap₂ (λ xs ys. got (reply_tree account xs ys state)) list_is unknown_is
