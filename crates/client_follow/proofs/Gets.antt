-- The answer to a client's get is read as the objects that the history has.
use Rattle.std.proofs.Common.{◌≡◌, ℕ, List, [], ◌∷◌, map, filter, filter_map, Bool, true, false, not, ◌&&◌, ◌||◌, cond, eqb, eqb-true, eq-eqb, ◌≤◌, subst, Option, Some, None, option_and_then, option_map, is_some, is_none, bytes_eq, refl, sym, ap, ap₂, ◌∙◌, ⊎_elim, true≢false}
use Rattle.std.specs.List.{AllByRecursion}
use Rattle.std.proofs.lemmas.Bool.{cases_Bool}
use Rattle.std.proofs.lemmas.List.{length-map}
use Rattle.std.proofs.lemmas.Option.{same_Some}
use Rattle.std.proofs.lemmas.Slice.Eq.{bytes_eq-Decides}
use Rattle.jm_base.specs.Ids.{IsId}
use Rattle.jm_base.specs.Splices.{has}
use Rattle.jm_base.specs.declared.identifiers.Kind.{Kind}
use Rattle.jm_base.specs.declared.identifiers.Kind.TheVariants.{Mailbox as OfMailbox, Email as OfEmail, Thread as OfThread}
use Rattle.jm_base.proofs.Spliced.{has-filter}
use Rattle.jm_json.specs.Find.{find}
use Rattle.jm_json.specs.Order.{put, put_all}
use Rattle.jm_json.specs.Tree.{Tree, text}
use Rattle.mail_records.specs.Contents.{Content, email_number, mailbox_number, thread_number}
use Rattle.mail_records.specs.Histories.{blobs_of, content_of}
use Rattle.mail_records.specs.States.{state_of}
use Rattle.mail_records.specs.Tables.{lookup}
use Rattle.mail_records.specs.declared.records.Email.{Email}
use Rattle.mail_records.specs.declared.records.Mailbox.{Mailbox}
use Rattle.mail_records.specs.declared.records.Thread.{Thread}
use Rattle.method_args.specs.Arguments.{passes}
use Rattle.method_args.specs.Ids.{id_number, id_trees}
use Rattle.method_args.specs.WrittenIds.{AreIds}
use Rattle.method_args.proofs.IdTexts.{id_back, id_reads}
use Rattle.method_args.specs.declared.TheConstants.{MAX_OBJECTS_PER_CALL}
use Rattle.get_args.specs.Wanted.{cached_wanted}
use Rattle.mail_view.specs.CachedViews.{view_named}
use Rattle.mail_view.specs.Emails.{email_view}
use Rattle.mail_view.specs.Gets.{got, reply_tree}
use Rattle.mail_view.specs.Mailboxes.{mailbox_view}
use Rattle.mail_view.specs.Records.{first_mentions}
use Rattle.mail_view.specs.Threads.{thread_view}
use Rattle.mail_view.proofs.ClientGets.{gets_show_views}
use Rattle.mail_view.proofs.Members.{emails_have_their_members}
use Rattle.reply_readers.specs.Objects.{object_number, objects_with}
use Rattle.reply_readers.specs.ObjectsBack.{AreAsked, AreNumbered, IsDistinct, numbered}
use Rattle.reply_readers.proofs.EachOnce.{objects_read_back}
use Rattle.client_cache.specs.Records.{under_id}
use Rattle.client_cache.specs.Requests.{id_of}
use Rattle.client_follow.specs.Holdings.{ShowsAsked}
use Rattle.client_follow.specs.Laws.{GetsAreRead}
use Rattle.client_follow.proofs.Finds.{find_put}
use Rattle.client_follow.proofs.Named.{view_is, view_number}

abbrev Pairs : Type 0
Pairs = List (List ℕ × Tree)

-- ---- ids

reads : (kind : Kind) (n : ℕ) → IsId (record { kind = kind; number = n }) → id_number kind (id_of kind n) ≡ Some n
reads kind n is = id_reads kind (id_of kind n) (record { kind = kind; number = n }) is refl refl

both_false : (a b : Bool) → (a || b) ≡ false → (a ≡ false) × (b ≡ false)
both_false true b e = absurd (true≢false e)
both_false false b e = (refl, e)

same_number : (kind : Kind) (m n : ℕ) → IsId (record { kind = kind; number = m }) → IsId (record { kind = kind; number = n }) → id_of kind m ≡ id_of kind n → m ≡ n
same_number kind m n a b e = same_Some m n (sym (reads kind m a) ∙ (ap (id_number kind) e ∙ reads kind n b))

itself : (n : ℕ) → eqb n n ≡ true
itself n = eq-eqb n n refl

other_id : (kind : Kind) (m n : ℕ) → IsId (record { kind = kind; number = m }) → IsId (record { kind = kind; number = n }) → eqb m n ≡ false → bytes_eq (id_of kind m) (id_of kind n) ≡ false
other_id kind m n a b other =
    ⊎_elim
    (λ (t : bytes_eq (id_of kind m) (id_of kind n) ≡ true).
    absurd (true≢false (sym (eq-eqb m n (same_number kind m n a b ((bytes_eq-Decides (id_of kind m) (id_of kind n)).0 t))) ∙ other)))
    (λ (f : bytes_eq (id_of kind m) (id_of kind n) ≡ false). f)
    (cases_Bool (bytes_eq (id_of kind m) (id_of kind n)))

other_ids : (kind : Kind) (n : ℕ) (ns : List ℕ) → IsId (record { kind = kind; number = n }) → AreIds kind ns → has ns n ≡ false
    → filter (λ s. not (bytes_eq s (id_of kind n))) (map (id_of kind) ns) ≡ map (id_of kind) ns
other_ids kind n [] is are once = refl
other_ids kind n (m ∷ ms) is are once =
    let parts = both_false (eqb m n) (has ms n) once in
    rw (other_id kind m n are.0 is parts.0) (ap (λ xs. id_of kind m ∷ xs) (other_ids kind n ms is are.1 parts.1))

mentions : (kind : Kind) (ns : List ℕ) → AreIds kind ns → IsDistinct ns → first_mentions (map (id_of kind) ns) ≡ map (id_of kind) ns
mentions kind [] are once = refl
mentions kind (n ∷ ns) are once =
    ap (λ xs. id_of kind n ∷ filter (λ s. not (bytes_eq s (id_of kind n))) xs) (mentions kind ns are.1 once.1)
    ∙ ap (λ xs. id_of kind n ∷ xs) (other_ids kind n ns are.0 are.1 once.0)

-- ---- which of the records are there

module _ (kind : Kind) (now : List ℕ → Option Tree) where
  abbrev at : ℕ → Option Tree
  at n = now (id_of kind n)

  abbrev there : List ℕ → List ℕ
  there ns = filter (λ n. is_some (at n)) ns

  abbrev absent : List ℕ → List ℕ
  absent ns = filter (λ n. is_none (at n)) ns

  abbrev objects : List ℕ → List Tree
  objects ns = filter_map at ns

  objects_are : (ns : List ℕ) → filter_map now (map (id_of kind) ns) ≡ objects ns
  objects_are [] = refl
  objects_are (n ∷ ns) = by (at n) refl (objects_are ns)
    where
      by : (o : Option Tree) → at n ≡ o → filter_map now (map (id_of kind) ns) ≡ objects ns → filter_map now (map (id_of kind) (n ∷ ns)) ≡ objects (n ∷ ns)
      by None e rest = rw e rest
      by (Some t) e rest = rw e (ap (λ ts. t ∷ ts) rest)

  absent_are : (ns : List ℕ) → map text (filter (λ id. is_none (now id)) (map (id_of kind) ns)) ≡ id_trees kind (absent ns)
  absent_are [] = refl
  absent_are (n ∷ ns) = by (at n) refl (absent_are ns)
    where
      by : (o : Option Tree) → at n ≡ o → map text (filter (λ id. is_none (now id)) (map (id_of kind) ns)) ≡ id_trees kind (absent ns)
          → map text (filter (λ id. is_none (now id)) (map (id_of kind) (n ∷ ns))) ≡ id_trees kind (absent (n ∷ ns))
      by None e rest = rw e (ap (λ ts. text (id_of kind n) ∷ ts) rest)
      by (Some t) e rest = rw e rest

  -- ---- the records of the answer are those that were asked for

  distinct_kept : (p : ℕ → Bool) (ns : List ℕ) → IsDistinct ns → IsDistinct (filter p ns)
  distinct_kept p [] once = tt
  distinct_kept p (n ∷ ns) once =
      ⊎_elim
      (λ (t : p n ≡ true). rw t (has-filter p ns n ∙ (ap (λ b. p n && b) once.0 ∙ and_false (p n)), distinct_kept p ns once.1))
      (λ (f : p n ≡ false). rw f (distinct_kept p ns once.1))
      (cases_Bool (p n))
    where
      and_false : (b : Bool) → (b && false) ≡ false
      and_false true = refl
      and_false false = refl

  ids_kept : (p : ℕ → Bool) (ns : List ℕ) → AreIds kind ns → AreIds kind (filter p ns)
  ids_kept p [] are = tt
  ids_kept p (n ∷ ns) are =
      ⊎_elim
      (λ (t : p n ≡ true). rw t (are.0, ids_kept p ns are.1))
      (λ (f : p n ≡ false). rw f (ids_kept p ns are.1))
      (cases_Bool (p n))

  apart_by : (o : Option Tree) (b : Bool) → (is_some o && b) ≡ true → (is_none o && b) ≡ false
  apart_by None b e = absurd (true≢false (sym e))
  apart_by (Some t) b e = refl

  together_by : (o : Option Tree) (b : Bool) → b ≡ ((is_some o && b) || (is_none o && b))
  together_by None b = refl
  together_by (Some t) true = refl
  together_by (Some t) false = refl

  numbers_are : ((n : ℕ) (t : Tree) → IsId (record { kind = kind; number = n }) → at n ≡ Some t → object_number kind t ≡ Some n)
      → (ns : List ℕ) → AreIds kind ns → AreNumbered (object_number kind) (there ns) (objects ns)
  numbers_are number [] are = tt
  numbers_are number (n ∷ ns) are = by (at n) refl (numbers_are number ns are.1)
    where
      by : (o : Option Tree) → at n ≡ o → AreNumbered (object_number kind) (there ns) (objects ns) → AreNumbered (object_number kind) (there (n ∷ ns)) (objects (n ∷ ns))
      by None e rest = rw e rest
      by (Some t) e rest = rw e (number n t are.0 e, rest)

  are_asked : ((n : ℕ) (t : Tree) → IsId (record { kind = kind; number = n }) → at n ≡ Some t → object_number kind t ≡ Some n)
      → (ns : List ℕ) → AreIds kind ns → IsDistinct ns → AreAsked kind ns (there ns) (absent ns) (objects ns)
  are_asked number ns are once = record {
    there_once = distinct_kept (λ n. is_some (at n)) ns once;
    absent_once = distinct_kept (λ n. is_none (at n)) ns once;
    apart = λ n e. has-filter (λ m. is_none (at m)) ns n ∙ apart_by (at n) (has ns n) (sym (has-filter (λ m. is_some (at m)) ns n) ∙ e);
    together = λ n. together_by (at n) (has ns n) ∙ sym (ap₂ (λ a b. a || b) (has-filter (λ m. is_some (at m)) ns n) (has-filter (λ m. is_none (at m)) ns n));
    are_of = numbers_are number ns are;
    ids = ids_kept (λ n. is_none (at n)) ns are;
  }

  -- ---- what is found of them

  abbrev members : List ℕ → Pairs
  members ns = map (under_id kind) (numbered (there ns) (objects ns))

  members_hold : (ns : List ℕ) → AllByRecursion (λ m. now m.0 ≡ Some m.1) (members ns)
  members_hold [] = tt
  members_hold (n ∷ ns) = by (at n) refl (members_hold ns)
    where
      by : (o : Option Tree) → at n ≡ o → AllByRecursion (λ m. now m.0 ≡ Some m.1) (members ns) → AllByRecursion (λ m. now m.0 ≡ Some m.1) (members (n ∷ ns))
      by None e rest = rw e rest
      by (Some t) e rest = rw e (e, rest)

  put_holds : (id : List ℕ) (b : Bool) (m : List ℕ × Tree) (ms : Pairs) (t : Tree) → bytes_eq m.0 id ≡ b → now m.0 ≡ Some m.1 → ((u : Tree) → find id ms ≡ Some u → now id ≡ Some u)
      → cond b (Some m.1) (find id ms) ≡ Some t → now id ≡ Some t
  put_holds id true m ms t e holds rest is = ap now (sym ((bytes_eq-Decides m.0 id).0 e)) ∙ (holds ∙ is)
  put_holds id false m ms t e holds rest is = rest t is

  puts_hold : (id : List ℕ) (xs ms : Pairs) → AllByRecursion (λ m. now m.0 ≡ Some m.1) xs → ((u : Tree) → find id ms ≡ Some u → now id ≡ Some u)
      → (t : Tree) → find id (put_all xs ms) ≡ Some t → now id ≡ Some t
  puts_hold id [] ms all rest t is = rest t is
  puts_hold id (x ∷ xs) ms all rest t is =
      puts_hold id xs (put x.0 x.1 ms) all.1 (λ u e. put_holds id _ x ms u refl all.0 rest (sym (find_put x.0 id x.1 ms) ∙ e)) t is

  nothing_put : (b : Bool) (t : Tree) (o : Option Tree) → cond b (Some t) o ≡ None → (b ≡ false) × (o ≡ None)
  nothing_put true t o e = let wrong = e in cc
  nothing_put false t o e = (refl, e)

  -- where nothing is found, no record has the id
  puts_miss : (id : List ℕ) (xs ms : Pairs) → find id (put_all xs ms) ≡ None → (find id ms ≡ None) × AllByRecursion (λ m. bytes_eq m.0 id ≡ false) xs
  puts_miss id [] ms e = (e, tt)
  puts_miss id (x ∷ xs) ms e =
      let rest = puts_miss id xs (put x.0 x.1 ms) e in
      let parts = nothing_put (bytes_eq x.0 id) x.1 (find id ms) (sym (find_put x.0 id x.1 ms) ∙ rest.0) in
      (parts.1, (parts.0, rest.1))

  same_text : (id : List ℕ) (m n : ℕ) → id ≡ id_of kind n → bytes_eq (id_of kind m) id ≡ false → eqb m n ≡ false
  same_text id m n is other =
      ⊎_elim
      (λ (t : eqb m n ≡ true). absurd (true≢false (sym ((bytes_eq-Decides (id_of kind m) id).1 (ap (id_of kind) (eqb-true m n t) ∙ sym is)) ∙ other)))
      (λ (f : eqb m n ≡ false). f)
      (cases_Bool (eqb m n))

  none_some : (t : Tree) → None ≡ Some t → ⊥
  none_some t e = cc

  other_there : (m n : ℕ) (t : Tree) → at m ≡ None → at n ≡ Some t → eqb m n ≡ false
  other_there m n t none some =
      ⊎_elim
      (λ (e : eqb m n ≡ true). absurd (none_some t (sym none ∙ (ap at (eqb-true m n e) ∙ some))))
      (λ (f : eqb m n ≡ false). f)
      (cases_Bool (eqb m n))

  none_missed : (id : List ℕ) (n : ℕ) (t : Tree) → id ≡ id_of kind n → at n ≡ Some t → (ns : List ℕ) → AllByRecursion (λ m. bytes_eq m.0 id ≡ false) (members ns) → has ns n ≡ false
  none_missed id n t is some [] all = refl
  none_missed id n t is some (m ∷ ms) all = by (at m) refl (none_missed id n t is some ms) all
    where
      by : (o : Option Tree) → at m ≡ o → (AllByRecursion (λ m. bytes_eq m.0 id ≡ false) (members ms) → has ms n ≡ false) → AllByRecursion (λ m. bytes_eq m.0 id ≡ false) (members (m ∷ ms)) → has (m ∷ ms) n ≡ false
      by None e rest all = rw (other_there m n t e some) (rest (rw e at all))
      by (Some u) e rest all = let parts = rw e at all in rw (same_text id m n is parts.0) (rest parts.1)

  shown : (ns : List ℕ) (state : ℕ) → ShowsAsked kind now ns (objects_with (numbered (there ns) (objects ns)) (absent ns) state)
  shown ns state = record {
    objects = λ id t e. puts_hold id (members ns) [] (members_hold ns) (λ u f. absurd (none_some u f)) t e;
    unknown = λ id e. unknown_by id _ refl e;
    all = λ id asked missed. all_by id _ refl asked missed;
  }
    where
      is_gone : (o : Option Tree) (b : Bool) → (is_none o && b) ≡ true → o ≡ None
      is_gone None b e = refl
      is_gone (Some t) b e = absurd (true≢false (sym e))

      unknown_by : (id : List ℕ) (o : Option ℕ) → id_number kind id ≡ o → passes (has (absent ns)) (id_number kind id) ≡ true → now id ≡ None
      unknown_by id None e listed = absurd (true≢false (sym (rw e at listed)))
      unknown_by id (Some n) e listed =
          let of_number = rw e at listed in
          ap now (id_back kind id n e).1 ∙ is_gone (at n) (has ns n) (sym (has-filter (λ m. is_none (at m)) ns n) ∙ of_number)

      all_by : (id : List ℕ) (o : Option ℕ) → id_number kind id ≡ o → passes (has ns) (id_number kind id) ≡ true → find id (put_all (members ns) []) ≡ None → passes (has (absent ns)) (id_number kind id) ≡ true
      all_by id None e asked missed = absurd (true≢false (sym (rw e at asked)))
      all_by id (Some n) e asked missed =
          let of_number = rw e at asked in
          rw e (has-filter (λ m. is_none (at m)) ns n ∙ (ap (λ b. is_none (at n) && b) of_number ∙ is_absent id n (id_back kind id n e).1 of_number (puts_miss id (members ns) [] missed).1 (at n) refl))
        where
          is_absent : (id : List ℕ) (n : ℕ) → id ≡ id_of kind n → has ns n ≡ true → AllByRecursion (λ m. bytes_eq m.0 id ≡ false) (members ns) → (o : Option Tree) → at n ≡ o → (is_none (at n) && true) ≡ true
          is_absent id n is of_number all None e = rw e refl
          is_absent id n is of_number all (Some t) e = absurd (true≢false (sym of_number ∙ none_missed id n t is e ns all))

-- ---- the number of an object

row_number : {A : Type 0} (number : A → ℕ) (n : ℕ) (rows : List A) (r : A) → lookup number n rows ≡ Some r → number r ≡ n
row_number number n [] r e = let wrong = e in cc
row_number {A} number n (x ∷ xs) r e = by (eqb (number x) n) refl (row_number number n xs r) e
  where
    by : (b : Bool) → eqb (number x) n ≡ b → (lookup number n xs ≡ Some r → number r ≡ n) → cond b (Some x) (lookup number n xs) ≡ Some r → number r ≡ n
    by true f rest e = ap number (sym (same_Some x r e)) ∙ eqb-true (number x) n f
    by false f rest e = rest e

mapped : {A : Type 0} (view : A → Tree) (o : Option A) (t : Tree) → option_map view o ≡ Some t → (r : A) × ((o ≡ Some r) × (view r ≡ t))
mapped view None t e = let wrong = e in cc
mapped view (Some r) t e = (r, (refl, same_Some (view r) t e))

mailbox_numbered : (read_only : Bool) (m : Mailbox) → object_number OfMailbox (mailbox_view read_only None m) ≡ id_number OfMailbox (id_of OfMailbox m.number)
mailbox_numbered read_only m = refl

thread_numbered : (t : Thread) → object_number OfThread (thread_view None t) ≡ id_number OfThread (id_of OfThread t.number)
thread_numbered t = refl

email_numbered : (blobs : List (List ℕ)) (e : Email) → object_number OfEmail (email_view blobs cached_wanted e) ≡ id_number OfEmail (id_of OfEmail e.number)
email_numbered blobs e = ap (object_number OfEmail) (emails_have_their_members blobs e)

row_numbered : {A : Type 0} (kind : Kind) (number : A → ℕ) (view : A → Tree) → ((r : A) → object_number kind (view r) ≡ id_number kind (id_of kind (number r)))
    → (rows : List A) (n : ℕ) (t : Tree) → IsId (record { kind = kind; number = n }) → option_map view (lookup number n rows) ≡ Some t → object_number kind t ≡ Some n
row_numbered kind number view of rows n t is e =
    let found = mapped view (lookup number n rows) t e in
    ap (object_number kind) (sym found.1.1)
    ∙ (of found.0 ∙ (ap (λ m. id_number kind (id_of kind m)) (row_number number n rows found.0 found.1.0) ∙ reads kind n is))

number_of_view : (kind : Kind) (c : Content) (blobs : List (List ℕ)) (read_only : Bool) (n : ℕ) (t : Tree) → IsId (record { kind = kind; number = n })
    → view_number kind c blobs read_only n ≡ Some t → object_number kind t ≡ Some n
number_of_view OfMailbox c blobs read_only n t is e = row_numbered OfMailbox mailbox_number (mailbox_view read_only None) (mailbox_numbered read_only) c.mailboxes n t is e
number_of_view OfEmail c blobs read_only n t is e = row_numbered OfEmail email_number (email_view blobs cached_wanted) (email_numbered blobs) c.emails n t is e
number_of_view OfThread c blobs read_only n t is e = row_numbered OfThread thread_number (thread_view None) thread_numbered c.threads n t is e

view_of_id : (kind : Kind) (c : Content) (blobs : List (List ℕ)) (read_only : Bool) (n : ℕ) → IsId (record { kind = kind; number = n })
    → view_named kind c blobs read_only (id_of kind n) ≡ view_number kind c blobs read_only n
view_of_id kind c blobs read_only n is =
    view_is kind c blobs read_only (id_of kind n) ∙ ap (option_and_then (view_number kind c blobs read_only)) (reads kind n is)

pub gets_are_read : GetsAreRead
gets_are_read kind h read_only account pointer asked are once few fits =
    let now = view_named kind (content_of h) (blobs_of h) read_only in
    let state = state_of h kind in
    let tree = reply_tree account (objects kind now asked) (id_trees kind (absent kind now asked)) state in
    let number : (n : ℕ) (t : Tree) → IsId (record { kind = kind; number = n }) → now (id_of kind n) ≡ Some t → object_number kind t ≡ Some n = λ n t is e.
    number_of_view kind (content_of h) (blobs_of h) read_only n t is (sym (view_of_id kind (content_of h) (blobs_of h) read_only n is) ∙ e) in
    let answered = gets_show_views kind h account (map (id_of kind) asked) read_only (subst (λ k. k ≤ MAX_OBJECTS_PER_CALL) (sym (length-map asked (id_of kind))) few)
    ∙ (ap (λ ids. got (reply_tree account (filter_map now ids) (map text (filter (λ id. is_none (now id)) ids)) state)) (mentions kind asked are once)
    ∙ ap₂ (λ os us. got (reply_tree account os us state)) (objects_are kind now asked) (absent_are kind now asked)) in
    let back = objects_read_back kind account pointer asked (there kind now asked) (absent kind now asked) (objects kind now asked) state (are_asked kind now number asked are once) fits in
    record {
      tree = tree;
      objects = objects_with (numbered (there kind now asked) (objects kind now asked)) (absent kind now asked) state;
      answer = answered;
      form = back.0;
      read = back.1;
      state = refl;
      shows = shown kind now asked state;
    }
