-- A cache that agrees with a history agrees with every later one.
use Rattle.std.proofs.Common.{◌≡◌, ℕ, ◌≤◌, List, [], ◌∷◌, ◌++◌, Bool, true, false, eqb, Option, Some, None, option_and_then, option_map, append_assoc, refl, sym, ap, ◌∙◌, ⊎_elim, length, flat_map, arith}
use Rattle.std.proofs.lemmas.List.{length-append}
use Rattle.std.specs.List.{AllByRecursion}
use Rattle.std.proofs.lemmas.Bool.{cases_Bool}
use Rattle.std.proofs.lemmas.List.Concat.{flat_map-append}
use Rattle.jm_base.specs.declared.identifiers.Kind.{Kind}
use Rattle.jm_base.specs.declared.identifiers.Kind.TheVariants.{Mailbox as OfMailbox, Email as OfEmail, Thread as OfThread}
use Rattle.jm_json.specs.Tree.{Tree}
use Rattle.mail_records.specs.Contents.{Content, email_number}
use Rattle.mail_records.specs.Histories.{Entry, History, blobs_in, blobs_of, content_at, end_of, entry_blobs, entry_edits, grown_by}
use Rattle.mail_records.specs.Tables.{lookup}
use Rattle.mail_records.specs.declared.records.Email.{Email}
use Rattle.mail_records.proofs.Growth.{content_at-grown_by}
use Rattle.get_args.specs.Wanted.{cached_wanted}
use Rattle.method_args.specs.Ids.{id_number}
use Rattle.mail_view.specs.CachedViews.{view_named}
use Rattle.mail_view.specs.Emails.{HasBlob, email_view}
use Rattle.mail_view.proofs.Staying.{view_stays}
use Rattle.filter_terms.specs.Texts.{MessageTexts}
use Rattle.query_engine.specs.Queries.{result_list}
use Rattle.client_cache.specs.Caches.{KindView, ListView, kind_of}
use Rattle.client_follow.specs.Agreement.{AgreementStays, KindAgrees, ListAgrees}
use Rattle.client_follow.specs.Lists.{query_of_list}
use Rattle.client_follow.specs.Views.{AreExactly, view_at}
use Rattle.client_follow.proofs.Named.{view_is, view_number}

-- ---- objects as blobs are added

row_stays : (blobs added : List (List ℕ)) (n : ℕ) (rows : List Email) → AllByRecursion (HasBlob blobs) rows
    → option_map (email_view (blobs ++ added) cached_wanted) (lookup email_number n rows) ≡ option_map (email_view blobs cached_wanted) (lookup email_number n rows)
row_stays blobs added n [] all = refl
row_stays blobs added n (e ∷ es) all =
    ⊎_elim
    (λ (t : eqb (email_number e) n ≡ true). rw t (ap Some (view_stays blobs added cached_wanted e all.0)))
    (λ (f : eqb (email_number e) n ≡ false). rw f (row_stays blobs added n es all.1))
    (cases_Bool (eqb (email_number e) n))

number_stays : (c : Content) (blobs added : List (List ℕ)) (read_only : Bool) (o : Option ℕ) → AllByRecursion (HasBlob blobs) c.emails
    → option_and_then (view_number OfEmail c (blobs ++ added) read_only) o ≡ option_and_then (view_number OfEmail c blobs read_only) o
number_stays c blobs added read_only None all = refl
number_stays c blobs added read_only (Some n) all = row_stays blobs added n c.emails all

named_stays : (c : Content) (blobs added : List (List ℕ)) (read_only : Bool) (id : List ℕ) → AllByRecursion (HasBlob blobs) c.emails
    → view_named OfEmail c (blobs ++ added) read_only id ≡ view_named OfEmail c blobs read_only id
named_stays c blobs added read_only id all =
    view_is OfEmail c (blobs ++ added) read_only id ∙ number_stays c blobs added read_only (id_number OfEmail id) all ∙ sym (view_is OfEmail c blobs read_only id)

-- ---- the cache

module _ (h : History) (more : List Entry) (read_only : Bool) (texts : ℕ → MessageTexts) where
  blobs_grow : blobs_of (grown_by h more) ≡ blobs_of h ++ blobs_in more
  blobs_grow =
      ap (λ zs. h.base_blobs ++ zs) (flat_map-append entry_blobs h.entries more)
      ∙ sym (append_assoc h.base_blobs (blobs_in h.entries) (blobs_in more))

  same_content : (kind : Kind) (s : ℕ) (id : List ℕ) → s ≤ end_of h → view_named kind (content_at h s) (blobs_of (grown_by h more)) read_only id ≡ view_at kind (grown_by h more) read_only s id
  same_content kind s id le = ap (λ (c : Content). view_named kind c (blobs_of (grown_by h more)) read_only id) (sym (content_at-grown_by h more s le))

  exactly_stays : (kind : Kind) (s : ℕ) (records : List (List ℕ × Tree)) → s ≤ end_of h
      → ((id : List ℕ) → view_named kind (content_at h s) (blobs_of (grown_by h more)) read_only id ≡ view_at kind h read_only s id)
      → AreExactly (view_at kind h read_only s) records → AreExactly (view_at kind (grown_by h more) read_only s) records
  exactly_stays kind s records le same are =
      record { rise = are.rise; exactly = λ id. are.exactly id ∙ sym (same id) ∙ same_content kind s id le }

  emails_stay : (s : ℕ) (id : List ℕ) → AllByRecursion (HasBlob (blobs_of h)) (content_at h s).emails
      → view_named OfEmail (content_at h s) (blobs_of (grown_by h more)) read_only id ≡ view_at OfEmail h read_only s id
  emails_stay s id all =
      ap (λ blobs. view_named OfEmail (content_at h s) blobs read_only id) blobs_grow ∙ named_stays (content_at h s) (blobs_of h) (blobs_in more) read_only id all

  le_later : end_of h ≤ end_of (grown_by h more)
  le_later =
      let parts = ap length (flat_map-append entry_edits h.entries more) ∙ length-append (flat_map entry_edits h.entries) (flat_map entry_edits more) in
      omega (arith, parts)

  lists_stay : (ls : List ListView) → AllByRecursion (ListAgrees h texts) ls → AllByRecursion (ListAgrees (grown_by h more) texts) ls
  lists_stay [] all = tt
  lists_stay (l ∷ ls) all = (
    λ s e.
        let had = all.0 s e in
        let le = had.0 in
        let later = le_later in (
          omega (arith, le, later),
          λ reached. had.1 (reached.0, le) ∙ ap (λ (c : Content). result_list (query_of_list l) c texts) (sym (content_at-grown_by h more s le)),
        ),
    lists_stay ls all.1,
  )

  kind_stays : (kind : Kind) (k : KindView) → KindAgrees kind h read_only k
      → ((s : ℕ) (id : List ℕ) → k.state ≡ Some s → view_named kind (content_at h s) (blobs_of (grown_by h more)) read_only id ≡ view_at kind h read_only s id)
      → KindAgrees kind (grown_by h more) read_only k
  kind_stays kind k agrees same s e =
      let had = agrees s e in
      let le = had.0 in
      let later = le_later in
      (omega (arith, le, later), λ reached. exactly_stays kind s k.records le (λ id. same s id e) (had.1 (reached.0, le)))

pub agreement_stays : AgreementStays
agreement_stays h more read_only texts c blobs a = record { kinds = by; lists = lists_stay h more read_only texts c.lists a.lists }
  where
    by : (kind : Kind) → KindAgrees kind (grown_by h more) read_only (kind_of kind c)
    by OfMailbox = kind_stays h more read_only texts OfMailbox c.mailboxes (a.kinds OfMailbox) (λ s id e. refl)
    by OfEmail = kind_stays h more read_only texts OfEmail c.emails (a.kinds OfEmail) (λ s id e. emails_stay h more read_only texts s id (blobs s e))
    by OfThread = kind_stays h more read_only texts OfThread c.threads (a.kinds OfThread) (λ s id e. refl)
