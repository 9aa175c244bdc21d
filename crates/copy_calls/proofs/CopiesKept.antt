-- What copies keep of their originals.
use Rattle.std.proofs.Common.{◌≡◌, ◌≢◌, ℕ, zero, suc, ◌+◌, ◌-◌, ◌<◌, ◌≤◌, true, false, List, [], ◌∷◌, ◌++◌, length, map, get_or, Option, Some, None, option_and_then, unwrap_or, refl, sym, ap, ◌∙◌, subst, arith, length-append, append_assoc, codes}
use Rattle.std.specs.List.{AllByRecursion, Contains}
use Rattle.std.proofs.Math.Seq.{get_or-append_seam}
use Rattle.std.proofs.lemmas.Bool.{true≢false}
use Rattle.std.proofs.lemmas.Option.{unwrap_or-slice_get}
use Rattle.jm_base.specs.declared.identifiers.Kind.TheVariants.{Email as OfEmail}
use Rattle.jm_json.specs.Find.{as_object, find}
use Rattle.jm_json.specs.Tree.{Tree}
use Rattle.jm_json.specs.declared.invocation.Created.{Created}
use Rattle.account_book.specs.declared.asks.Carried.{Carried}
use Rattle.mail_counts.specs.Derived.{LeavesEmails}
use Rattle.mail_counts.specs.DerivedEdits.{derived_edits}
use Rattle.mail_counts.specs.Plans.{Ground, ground_of_history, present_state}
use Rattle.mail_counts.specs.Tidy.{IsTidy, IsTidyEmail}
use Rattle.mail_counts.specs.Touched.{touched_threads}
use Rattle.mail_counts.proofs.Followed.{derived_leaves}
use Rattle.mail_records.specs.Contents.{Content, email_number}
use Rattle.mail_records.specs.Edits.{after_edits}
use Rattle.mail_records.specs.Histories.{History, blobs_of, content_of}
use Rattle.mail_records.specs.declared.records.Email.{Email}
use Rattle.mail_records.specs.declared.edits.Edit.{Edit}
use Rattle.mail_records.specs.declared.edits.Edit.TheVariants.{PutMailbox, DropMailbox, PutEmail, DropEmail, PutThread, DropThread}
use Rattle.mail_records.proofs.Rising.{all_map}
use Rattle.mail_summary.specs.Received.{received}
use Rattle.mail_summary.specs.Summaries.{summary}
use Rattle.mail_view.specs.Emails.{HasBlob, blob_bytes, email_named}
use Rattle.mail_view.specs.Records.{is_id_text}
use Rattle.mail_view.proofs.Staying.{blob_stays, first_holds}
use Rattle.method_args.specs.Arguments.{text_in}
use Rattle.plan_promises.specs.Messages.{HasMessage}
use Rattle.plan_promises.specs.Planned.{PutsEmail}
use Rattle.set_parts.specs.Arguments.{Create, creates_in}
use Rattle.set_parts.specs.Outcomes.{Outcome, Plan, invalid, outcome_of_members, planned}
use Rattle.set_parts.specs.declared.set_errors.SetError.{SetError}
use Rattle.set_parts.proofs.Parts.{all_append, all_push, bound}
use Rattle.set_parts.proofs.Rejecting.{plan_of_planned}
use Rattle.email_creates.specs.Emails.{Progress, after_check, email_of, next_blob, received_at}
use Rattle.email_creates.specs.Plans.{beginning}
use Rattle.mail_copies.specs.Arguments.{count_copies, forms}
use Rattle.mail_copies.specs.Carried.{carried_date, carried_keywords, deliveries}
use Rattle.mail_copies.specs.Copies.{after_copies, after_copy, error_of_copy, keywords_or, properties_in, received_or}
use Rattle.mail_copies.specs.Plans.{plan_in}
use Rattle.blob_store.specs.Blobs.{has_room}
use Rattle.copy_calls.specs.Copied.{CopiesKeep, IsCopy, Keeps, creates_sent}
use Rattle.copy_calls.specs.Fetches.{carried_by, carried_of, delivery_from, item_of, original_named, originals_in}
use Rattle.copy_calls.proofs.Kept.{delivered, keywords_kept}
use Rattle.copy_calls.proofs.KeptDates.{dates_kept}

abbrev Pairs : Type 0
Pairs = List (List ℕ × Tree)

-- ---- the bytes of blobs

bytes_stay : (ours more : List (List ℕ)) (e : Email) → HasBlob ours e → blob_bytes (ours ++ more) e.blob ≡ blob_bytes ours e.blob
bytes_stay ours more e has = ap (λ o. unwrap_or o []) (blob_stays e.blob ours more has.from_one has.there)

bytes_at : (bs : List (List ℕ)) (n : ℕ) → 1 ≤ n → blob_bytes bs n ≡ get_or bs (n - 1) []
bytes_at bs zero from = absurd (omega (arith, from))
bytes_at bs (suc n) from = let back : n ≡ suc n - 1 = omega arith in unwrap_or-slice_get bs n [] ∙ ap (λ i. get_or bs i []) back

last_bytes : (ours : List (List ℕ)) (b : List ℕ) → blob_bytes (ours ++ b ∷ []) (length ours + 1) ≡ b
last_bytes ours b =
    let back : length ours + 1 - 1 ≡ length ours = omega arith in
    bytes_at (ours ++ b ∷ []) (length ours + 1) (omega arith) ∙ (ap (λ i. get_or (ours ++ b ∷ []) i []) back ∙ get_or-append_seam ours b [] [])

-- ---- one copy

-- an original is as a valid account has it
record IsKeptThere (c : Content) (theirs : List (List ℕ)) (o : Email) : Type 0 where
  tidy : IsTidyEmail c o
  message : HasMessage summary theirs o

copy_keeps : (c : Content) (theirs bs : List (List ℕ)) (moment : ℕ) (s : Progress) (ms : Pairs) (o : Email) → IsKeptThere c theirs o
    → Keeps ms o (email_of s moment (properties_in s.creating.content s.creating.made moment ms (item_of (Some o))) (next_blob bs (blob_bytes theirs o.blob)))
copy_keeps c theirs bs moment s ms o is =
    let bytes = blob_bytes theirs o.blob in
    let at : bytes ≡ get_or theirs (o.blob - 1) [] = bytes_at theirs o.blob is.message.from_one in
    record {
      keywords = λ none. words (find (codes "keywords") ms) none;
      received = λ none. date (find (codes "receivedAt") ms) none;
      size = ap length at ∙ sym is.message.message.size;
      summary = ap summary at ∙ sym is.message.message.summary_is;
    }
  where
    words : (t : Option Tree) → t ≡ None → unwrap_or (keywords_or (carried_keywords (item_of (Some o))) t) [] ≡ o.keywords
    words t none = ap (λ x. unwrap_or (keywords_or (carried_keywords (item_of (Some o))) x) []) none ∙ keywords_kept o is.tidy.keywords is.tidy.keywords_rise

    date : (t : Option Tree) → t ≡ None → received_at moment (received (blob_bytes theirs o.blob)) (unwrap_or (received_or (carried_date moment (item_of (Some o))) t) None) ≡ o.received
    date t none =
        ap (λ x. received_at moment (received (blob_bytes theirs o.blob)) (unwrap_or (received_or (carried_date moment (item_of (Some o))) x) None)) none ∙ dates_kept o moment is.tidy.received

-- ---- the edits of copies

puts_map : (P Q : Email → Type 0) → ((e : Email) → P e → Q e) → (x : Edit) → PutsEmail P x → PutsEmail Q x
puts_map P Q f (PutMailbox item was counts) h = tt
puts_map P Q f (DropMailbox number) h = tt
puts_map P Q f (PutEmail e was) h = f e h
puts_map P Q f (DropEmail number thread) h = tt
puts_map P Q f (PutThread item was) h = tt
puts_map P Q f (DropThread number) h = tt

puts_none : (P : Email → Type 0) (x : Edit) → LeavesEmails x → PutsEmail P x
puts_none P (PutMailbox item was counts) leave = tt
puts_none P (DropMailbox number) leave = tt
puts_none P (PutEmail e was) leave = absurd (true≢false leave)
puts_none P (DropEmail number thread) leave = tt
puts_none P (PutThread item was) leave = tt
puts_none P (DropThread number) leave = tt

-- a copy is one also with more blobs
copy_stays : (emails : List Email) (theirs ours more : List (List ℕ)) (creates : List Create) (e : Email) → IsCopy emails theirs ours creates e → IsCopy emails theirs (ours ++ more) creates e
copy_stays emails theirs ours more creates e is =
    let all = length-append ours more in
    let there = is.blob.there in
    record {
      create = is.create;
      sent = is.sent;
      original = is.original;
      named = is.named;
      kept = is.kept;
      blob = record { from_one = is.blob.from_one; there = omega (arith, all, there) };
      message = bytes_stay ours more e is.blob ∙ is.message;
    }

module _ (c : Content) (theirs blobs : List (List ℕ)) (moment : ℕ) (all : List Create) (kept : AllByRecursion (IsKeptThere c theirs) c.emails) where
  abbrev Copied : List (List ℕ) → List Edit → Type 0
  Copied ours es = AllByRecursion (PutsEmail (IsCopy c.emails theirs ours all)) es

  abbrev AreCopied : Progress → Type 0
  AreCopied s = Copied (blobs ++ s.creating.blobs) s.creating.edits

  older : (own : List (List ℕ)) (b : List ℕ) (es : List Edit) → Copied (blobs ++ own) es → Copied (blobs ++ (own ++ b ∷ [])) es
  older own b es are =
      subst (λ (bs : List (List ℕ)). Copied bs es) (append_assoc blobs own (b ∷ []))
      (all_map (PutsEmail (IsCopy c.emails theirs (blobs ++ own) all)) (PutsEmail (IsCopy c.emails theirs ((blobs ++ own) ++ b ∷ []) all))
      (puts_map (IsCopy c.emails theirs (blobs ++ own) all) (IsCopy c.emails theirs ((blobs ++ own) ++ b ∷ []) all) (copy_stays c.emails theirs (blobs ++ own) (b ∷ []) all)) es are)

  checked : (s : Progress) (creation : List ℕ) (e : Email) (b : List ℕ) (o : Option SetError) → IsCopy c.emails theirs (blobs ++ (s.creating.blobs ++ b ∷ [])) all e → AreCopied s
      → AreCopied (after_check s creation e (Some b) o)
  checked s creation e b None copy are =
      all_push (PutsEmail (IsCopy c.emails theirs (blobs ++ (s.creating.blobs ++ b ∷ [])) all)) s.creating.edits (PutEmail e false) (older s.creating.blobs b s.creating.edits are) copy
  checked s creation e b (Some error) copy are = are

  found : (s : Progress) (x : Create) (o : Email) → Contains all x → original_named c.emails x ≡ Some o → AreCopied s → AreCopied (after_copy blobs moment s x (delivery_from theirs (Some o)))
  found s x o sent named are =
      let id = bound (email_named c.emails) (text_in (codes "id") x.members) o named in
      let is : IsKeptThere c theirs o = first_holds (IsKeptThere c theirs) (λ r. is_id_text OfEmail id.0 (email_number r)) c.emails o kept id.2 in
      let ours = blobs ++ s.creating.blobs in
      let b = blob_bytes theirs o.blob in
      let a = properties_in s.creating.content s.creating.made moment x.members (item_of (Some o)) in
      let e : Email = email_of s moment a (next_blob ours b) in
      let more = length-append ours (b ∷ []) in
      let copy : IsCopy c.emails theirs (ours ++ b ∷ []) all e = record {
        create = x;
        sent = sent;
        original = o;
        named = named;
        kept = copy_keeps c theirs ours moment s x.members o is;
        blob = record { from_one = omega arith; there = omega (arith, more) };
        message = last_bytes ours b;
      } in
      checked s x.creation e b (error_of_copy (length s.creating.content.emails) (has_room (length b) ours) a)
      (subst (λ (bs : List (List ℕ)). IsCopy c.emails theirs bs all e) (append_assoc blobs s.creating.blobs (b ∷ [])) copy) are

  by_id : (s : Progress) (x : Create) (t : Option (List ℕ)) (o : Option Email) → Contains all x → original_named c.emails x ≡ o → AreCopied s
      → AreCopied (after_copy blobs moment s x (option_and_then (λ id. delivery_from theirs o) t))
  by_id s x None o sent named are = are
  by_id s x (Some id) None sent named are = are
  by_id s x (Some id) (Some o) sent named are = found s x o sent named are

  all_copied : (xs : List Create) → ((y : Create) → Contains xs y → Contains all y) → (s : Progress) → AreCopied s
      → AreCopied (after_copies blobs moment s xs (map (delivery_from theirs) (map (original_named c.emails) xs)))
  all_copied [] inside s are = are
  all_copied (x ∷ xs) inside s are =
      let o = original_named c.emails x in
      all_copied xs (λ y h. inside y (suc h.0, (let lt = h.1 in omega (arith, lt)), h.2))
      (after_copy blobs moment s x (option_and_then (λ id. delivery_from theirs o) (text_in (codes "id") x.members)))
      (by_id s x (text_in (codes "id") x.members) o (inside x (zero, omega arith, refl)) refl are)

-- ---- the plan of a call

both : (c : Content) (theirs : List (List ℕ)) (es : List Email) → AllByRecursion (IsTidyEmail c) es → AllByRecursion (HasMessage summary theirs) es → AllByRecursion (IsKeptThere c theirs) es
both c theirs [] tidy messages = tt
both c theirs (e ∷ es) tidy messages = (record { tidy = tidy.0; message = messages.0 }, both c theirs es tidy.1 messages.1)

abbrev Holds : Content → List (List ℕ) → List (List ℕ) → List Create → Plan → Type 0
Holds c theirs blobs creates p = AllByRecursion (PutsEmail (IsCopy c.emails theirs (blobs ++ p.blobs) creates)) p.edits

plan_keeps : (c : Content) (theirs : List (List ℕ)) (g : Ground) (blobs : List (List ℕ)) (made : List Created) (moment : ℕ) (ms : Pairs) → AllByRecursion (IsKeptThere c theirs) c.emails
    → Holds c theirs blobs (creates_in ms) (plan_in g blobs (carried_of theirs (originals_in c.emails ms)) made moment ms)
plan_keeps c theirs g blobs made moment ms kept =
    let xs = creates_in ms in
    let carried : Carried = carried_of theirs (originals_in c.emails ms) in
    let s = after_copies blobs moment (beginning g.content made) xs (deliveries carried.emails carried.blobs) in
    let P = PutsEmail (IsCopy c.emails theirs (blobs ++ s.creating.blobs) xs) in
    let own : AllByRecursion P s.creating.edits =
    subst (λ ds. AreCopied c theirs blobs moment xs kept (after_copies blobs moment (beginning g.content made) xs ds)) (sym (delivered theirs (originals_in c.emails ms)))
    (all_copied c theirs blobs moment xs kept xs (λ y h. h) (beginning g.content made) tt) in
    all_append P s.creating.edits (derived_edits g.content s.creating.edits) own
    (all_map LeavesEmails P (puts_none (IsCopy c.emails theirs (blobs ++ s.creating.blobs) xs)) (derived_edits g.content s.creating.edits)
    (derived_leaves g.content (after_edits g.content s.creating.edits) (touched_threads s.creating.edits)))

not_invalid : (name : List ℕ) (p : Plan) → invalid name ≢ planned p
not_invalid name p e = cc

by_members : (c : Content) (theirs : List (List ℕ)) (g : Ground) (blobs : List (List ℕ)) (made : List Created) (moment state : ℕ) (args : Tree) (o : Option Pairs) (p : Plan) → AllByRecursion (IsKeptThere c theirs) c.emails
    → as_object args ≡ o → outcome_of_members forms count_copies state (plan_in g blobs (carried_by c theirs o) made moment) o ≡ planned p → Holds c theirs blobs (creates_sent o) p
by_members c theirs g blobs made moment state args None p kept object is = absurd (not_invalid [] p is)
by_members c theirs g blobs made moment state args (Some ms) p kept object is =
    let plan = plan_in g blobs (carried_of theirs (originals_in c.emails ms)) made moment ms in
    plan_of_planned (Holds c theirs blobs (creates_in ms)) forms count_copies state (λ (ns : Pairs). plan) (λ ns. plan_keeps c theirs g blobs made moment ms kept) args p
    (subst (λ (x : Option Pairs). outcome_of_members forms count_copies state (λ (ns : Pairs). plan) x ≡ planned p) (sym object) is)

pub copies_keep : CopiesKeep
copies_keep from to args made moment p tidy messages is =
    let c = content_of from in
    by_members c (blobs_of from) (ground_of_history to) (blobs_of to) made moment (present_state OfEmail (ground_of_history to)) args (as_object args) p
    (both c (blobs_of from) c.emails tidy.emails.each messages) refl is
