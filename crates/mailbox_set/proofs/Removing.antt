-- What the destroy of a mailbox leaves of a content.
use Rattle.std.proofs.Common.{◌≡◌, ◌≢◌, ℕ, zero, suc, ◌<◌, ◌≤◌, Bool, true, false, ◌||◌, eqb, ltb, List, [], ◌∷◌, ◌++◌, filter, map, length, not, Option, Some, None, is_some, refl, sym, ap, ◌∙◌, subst, arith, ⊎_elim, eq-eqb, ne_eqb, le-ltb, length-append}
use Rattle.std.specs.Prelude.{option_and_then}
use Rattle.std.specs.List.{AllByRecursion, IsDistinct, flat_map, list_any}
use Rattle.std.specs.List.Sorted.{IsStrictlySortedBy}
use Rattle.std.specs.Option.{ForSome}
use Rattle.std.specs.Ordering.{nat_cmp}
use Rattle.std.proofs.lemmas.Bool.{cases_Bool, true≢false}
use Rattle.std.proofs.lemmas.List.Kept.{IsStrictlySortedBy-filter}
use Rattle.std.proofs.lemmas.Option.{none-some, same_Some}
use Rattle.mail_records.specs.Contents.{Content, email_at, email_number, mailbox_at, mailbox_number}
use Rattle.mail_records.specs.Edits.{AllFit, after_edit, after_edits}
use Rattle.mail_records.specs.Tables.{IsTable, lookup, put, without}
use Rattle.mail_records.specs.declared.edits.Edit.{Edit}
use Rattle.mail_records.specs.declared.edits.Edit.TheVariants.{DropMailbox, PutEmail, DropEmail}
use Rattle.mail_records.specs.declared.records.Email.{Email}
use Rattle.mail_records.specs.declared.records.Mailbox.{Mailbox}
use Rattle.mail_records.proofs.Growth.{AllFit-append, AreNumbered-after_edits, AreTables-after_edits, after_edits-append, all_map}
use Rattle.mail_records.proofs.Tables.{All-kept, lookup-without_other}
use Rattle.mail_counts.specs.Counts.{is_in}
use Rattle.mail_counts.specs.Tidy.{IsThere, IsTidyEmail, IsWellFormed, same_parent, share_name, share_role}
use Rattle.mail_counts.specs.TidyBut.{IsPlacedBelow, IsTidyButThreadsAndCounts}
use Rattle.plan_promises.specs.Planned.{AllKeepMessages, HaveOneMessage}
use Rattle.mailbox_set.specs.Destroys.{destroy_edits, has_child, removal, removal_of}
use Rattle.mailbox_updates.specs.EmailsLeft.{left_with, left_without, mailboxes_but}
use Rattle.mailbox_updates.proofs.Chains.{Ends, ParentsThere, ends_from, ends_within, ended_from, parent_in}

-- ---- one record of a table between those before it and those after it

abbrev AllBelow : List Email → ℕ → Type 0
AllBelow done n = AllByRecursion (λ (y : Email). y.number < n) done

put_at : (done rest : List Email) (x r : Email) → r.number ≡ x.number → AllBelow done x.number → put email_number r (done ++ x ∷ rest) ≡ done ++ r ∷ rest
put_at [] rest x r same below =
    let low : ltb r.number x.number ≡ false = le-ltb r.number x.number (omega (arith, same)) in
    let equal : eqb r.number x.number ≡ true = eq-eqb r.number x.number same in
    rw (low, equal) refl
put_at (y ∷ done) rest x r same below =
    let less : y.number < x.number = below.0 in
    let low : ltb r.number y.number ≡ false = le-ltb r.number y.number (omega (arith, same, less)) in
    let other : eqb r.number y.number ≡ false = ne_eqb r.number y.number (λ (e : r.number ≡ y.number). omega (arith, same, less, e)) in
    rw (low, other) (ap (λ (zs : List Email). y ∷ zs) (put_at done rest x r same below.1))

lookup_at : (done rest : List Email) (x : Email) → AllBelow done x.number → lookup email_number x.number (done ++ x ∷ rest) ≡ Some x
lookup_at [] rest x below = let equal : eqb x.number x.number ≡ true = eq-eqb x.number x.number refl in rw equal refl
lookup_at (y ∷ done) rest x below =
    let less : y.number < x.number = below.0 in
    let other : eqb y.number x.number ≡ false = ne_eqb y.number x.number (λ (e : y.number ≡ x.number). omega (arith, less, e)) in
    rw other (lookup_at done rest x below.1)

none_taken : (n : ℕ) (rest : List Email) → AllByRecursion (λ (y : Email). n < y.number) rest → without email_number n rest ≡ rest
none_taken n [] above = refl
none_taken n (y ∷ rest) above =
    let more : n < y.number = above.0 in
    let other : eqb y.number n ≡ false = ne_eqb y.number n (λ (e : y.number ≡ n). omega (arith, more, e)) in
    rw other (ap (λ (zs : List Email). y ∷ zs) (none_taken n rest above.1))

without_at : (done rest : List Email) (x : Email) → AllBelow done x.number → AllByRecursion (λ (y : Email). x.number < y.number) rest → without email_number x.number (done ++ x ∷ rest) ≡ done ++ rest
without_at [] rest x below above = let equal : eqb x.number x.number ≡ true = eq-eqb x.number x.number refl in rw equal (none_taken x.number rest above)
without_at (y ∷ done) rest x below above =
    let less : y.number < x.number = below.0 in
    let other : eqb y.number x.number ≡ false = ne_eqb y.number x.number (λ (e : y.number ≡ x.number). omega (arith, less, e)) in
    rw other (ap (λ (zs : List Email). y ∷ zs) (without_at done rest x below.1 above))

-- ---- the emails of a mailbox lose it

-- edits of emails that leave these emails, and all else as it is
pub record Leave (c : Content) (es : List Edit) (left : List Email) : Type 0 where
  pub emails : (after_edits c es).emails ≡ left
  pub mailboxes : (after_edits c es).mailboxes ≡ c.mailboxes
  pub fits : AllFit c es
  pub kept : AllKeepMessages c es

abbrev BelowAll : List Email → List Email → Type 0
BelowAll done rest = AllByRecursion (λ (y : Email). AllByRecursion (λ (x : Email). y.number < x.number) rest) done

below_head : (done rest : List Email) (x : Email) → BelowAll done (x ∷ rest) → AllBelow done x.number × BelowAll done rest
below_head [] rest x below = (tt, tt)
below_head (y ∷ done) rest x below = let more = below_head done rest x below.1 in ((below.0.0, more.0), (below.0.1, more.1))

below_push : (done rest : List Email) (x : Email) → BelowAll done rest → AllByRecursion (λ (y : Email). x.number < y.number) rest → BelowAll (done ++ x ∷ []) rest
below_push [] rest x below above = (above, tt)
below_push (y ∷ done) rest x below above = (below.0, below_push done rest x below.1 above)

-- what comes after one email, whatever is before it
abbrev Goes : List Email → List Edit → List Email → Type 0
Goes rest es out = (done : List Email) (d : Content) → d.emails ≡ done ++ rest → BelowAll done rest → Leave d es (done ++ out)

pushed : (done rest : List Email) (x : Email) → (done ++ x ∷ []) ++ rest ≡ done ++ x ∷ rest
pushed [] rest x = refl
pushed (y ∷ done) rest x = ap (λ (zs : List Email). y ∷ zs) (pushed done rest x)

one_left : (ms : List ℕ) (e : Email) (rest out : List Email) (es : List Edit) → AllByRecursion (λ (y : Email). e.number < y.number) rest → Goes rest es out → Goes (e ∷ rest) (removal_of e ms ∷ es) (left_with e ms ++ out)
one_left [] e rest out es above next done c is below =
    let parts = below_head done rest e below in
    let left : without email_number e.number c.emails ≡ done ++ rest = ap (without email_number e.number) is ∙ without_at done rest e parts.0 above in
    let all = next done (after_edit c (DropEmail e.number e.thread)) left parts.1 in
    let look : email_at c e.number ≡ Some e = ap (lookup email_number e.number) is ∙ lookup_at done rest e parts.0 in
    record {
      emails = all.emails;
      mailboxes = all.mailboxes;
      fits = ((e, look, refl), all.fits);
      kept = (tt, all.kept);
    }
one_left (m ∷ ms) e rest out es above next done c is below =
    let item : Email = record e { mailboxes = m ∷ ms } in
    let parts = below_head done rest e below in
    let left : put email_number item c.emails ≡ (done ++ item ∷ []) ++ rest = ap (put email_number item) is ∙ (put_at done rest e item refl parts.0 ∙ sym (pushed done rest item)) in
    let all = next (done ++ item ∷ []) (after_edit c (PutEmail item true)) left (below_push done rest item parts.1 above) in
    let look : email_at c item.number ≡ Some e = ap (lookup email_number e.number) is ∙ lookup_at done rest e parts.0 in
    record {
      emails = all.emails ∙ pushed done out item;
      mailboxes = all.mailboxes;
      fits = ((sym (ap is_some look), λ (no : true ≡ false). absurd (true≢false no)), all.fits);
      kept = (λ old there. same_message old (same_Some e old (sym look ∙ there)), all.kept);
    }
  where
    same_message : (old : Email) → e ≡ old → HaveOneMessage old (record e { mailboxes = m ∷ ms })
    same_message old one = record {
      number = ap (λ (y : Email). y.number) (sym one);
      thread = ap (λ (y : Email). y.thread) (sym one);
      blob = ap (λ (y : Email). y.blob) (sym one);
      size = ap (λ (y : Email). y.size) (sym one);
      received = ap (λ (y : Email). y.received) (sym one);
      summary = ap (λ (y : Email). y.summary) (sym one);
    }

all_left : (n : ℕ) (rows : List Email) → IsTable email_number rows → Goes rows (map (removal n) (filter (is_in n) rows)) (flat_map (left_without n) rows)
all_left n [] table done c is below = record { emails = is; mailboxes = refl; fits = tt; kept = tt }
all_left n (e ∷ rows) table done c is below =
    ⊎_elim
    (λ (there : is_in n e ≡ true). rw there (one_left (mailboxes_but n e.mailboxes) e rows (flat_map (left_without n) rows) (map (removal n) (filter (is_in n) rows)) table.0 (all_left n rows table.1) done c is below))
    (λ (other : is_in n e ≡ false).
    let all : Leave c (map (removal n) (filter (is_in n) rows)) ((done ++ e ∷ []) ++ flat_map (left_without n) rows) =
    all_left n rows table.1 (done ++ e ∷ []) c (is ∙ sym (pushed done rows e)) (below_push done rows e (below_head done rows e below).1 table.0) in
    rw other (subst (Leave c (map (removal n) (filter (is_in n) rows))) (pushed done (flat_map (left_without n) rows) e) all))
    (cases_Bool (is_in n e))

pub emails_removed : (n : ℕ) (c : Content) → IsTable email_number c.emails → Leave c (map (removal n) (filter (is_in n) c.emails)) (flat_map (left_without n) c.emails)
emails_removed n c table = all_left n c.emails table [] c refl tt

-- ---- the destroy of a mailbox

-- after the emails have lost it, it is dropped
pub record Destroyed (n : ℕ) (c d : Content) : Type 0 where
  pub emails : d.emails ≡ flat_map (left_without n) c.emails
  pub mailboxes : d.mailboxes ≡ without mailbox_number n c.mailboxes
  pub fits : is_some (mailbox_at c n) ≡ true → AllFit c (destroy_edits c n)
  pub kept : AllKeepMessages c (destroy_edits c n)

pub kept_append : (es more : List Edit) (c : Content) → AllKeepMessages c es → AllKeepMessages (after_edits c es) more → AllKeepMessages c (es ++ more)
kept_append [] more c all rest = rest
kept_append (e ∷ es) more c all rest = (all.0, kept_append es more (after_edit c e) all.1 rest)

pub destroyed : (n : ℕ) (c : Content) → IsTable email_number c.emails → Destroyed n c (after_edits c (destroy_edits c n))
destroyed n c table =
    let es = map (removal n) (filter (is_in n) c.emails) in
    let all = emails_removed n c table in
    let after : after_edits c (destroy_edits c n) ≡ after_edit (after_edits c es) (DropMailbox n) = after_edits-append es (DropMailbox n ∷ []) c in
    record {
      emails = ap (λ (d : Content). d.emails) after ∙ all.emails;
      mailboxes = ap (λ (d : Content). d.mailboxes) after ∙ ap (without mailbox_number n) all.mailboxes;
      fits = λ there. AllFit-append es (DropMailbox n ∷ []) c all.fits (ap (λ (rows : List Mailbox). is_some (lookup mailbox_number n rows)) all.mailboxes ∙ there, tt);
      kept = kept_append es (DropMailbox n ∷ []) c all.kept (tt, tt);
    }

-- ---- the emails that are left are tidy

pub few_kept : {A : Type 0} (test : A → Bool) (xs : List A) → length (filter test xs) ≤ length xs
few_kept test [] = omega arith
few_kept test (x ∷ xs) =
    ⊎_elim
    (λ (kept : test x ≡ true). let more = few_kept test xs in rw kept (omega (arith, more)))
    (λ (gone : test x ≡ false). let more = few_kept test xs in rw gone (omega (arith, more)))
    (cases_Bool (test x))

abbrev AreAmong : List Mailbox → List ℕ → Type 0
AreAmong rows ns = AllByRecursion (λ m. is_some (lookup mailbox_number m rows) ≡ true) ns

or_first : (a b : Bool) → (a || b) ≡ false → a ≡ false
or_first true b h = h
or_first false b h = refl

or_second : (a b : Bool) → (a || b) ≡ false → b ≡ false
or_second true b h = absurd (true≢false h)
or_second false b h = h

flip : (a b : ℕ) → eqb a b ≡ false → eqb b a ≡ false
flip a b other = ne_eqb b a (λ (e : b ≡ a). true≢false (sym (eq-eqb a b (sym e)) ∙ other))

-- mailboxes that are there and not the one that is destroyed are there afterwards
there_still : (n : ℕ) (rows : List Mailbox) (ns : List ℕ) → AreAmong rows ns → list_any (λ m. eqb m n) ns ≡ false → AreAmong (without mailbox_number n rows) ns
there_still n rows [] all none = tt
there_still n rows (m ∷ ns) all none =
    let other : eqb n m ≡ false = flip m n (or_first (eqb m n) (list_any (λ m. eqb m n) ns) none) in (
      ap is_some (lookup-without_other mailbox_number n m other rows) ∙ all.0,
      there_still n rows ns all.1 (or_second (eqb m n) (list_any (λ m. eqb m n) ns) none),
    )

none_kept : (n : ℕ) (ns : List ℕ) → list_any (λ m. eqb m n) (mailboxes_but n ns) ≡ false
none_kept n [] = refl
none_kept n (m ∷ ns) =
    ⊎_elim
    (λ (same : eqb m n ≡ true). rw same (none_kept n ns))
    (λ (other : eqb m n ≡ false). rw other (rw other (none_kept n ns)))
    (cases_Bool (eqb m n))

-- an email with mailboxes of which each is there after the destroy
tidy_with : (n : ℕ) (c d : Content) (e : Email) (ms : List ℕ) → d.mailboxes ≡ without mailbox_number n c.mailboxes → IsTidyEmail c e → AreAmong c.mailboxes ms → list_any (λ m. eqb m n) ms ≡ false → 1 ≤ length ms → length ms ≤ length e.mailboxes → IsStrictlySortedBy nat_cmp ms
    → IsTidyEmail d (record e { mailboxes = ms })
tidy_with n c d e ms is tidy among none some few rise =
    let most = tidy.few_mailboxes in
    record {
      mailboxes = subst (λ (rows : List Mailbox). AreAmong rows ms) (sym is) (there_still n c.mailboxes ms among none);
      some_mailbox = some;
      few_mailboxes = omega (arith, few, most);
      mailboxes_rise = rise;
      keywords = tidy.keywords;
      few_keywords = tidy.few_keywords;
      keywords_rise = tidy.keywords_rise;
      received = tidy.received;
      sent = tidy.sent;
    }

same_email : (e : Email) → record e { mailboxes = e.mailboxes } ≡ e
same_email e = refl

left_tidy_with : (n : ℕ) (c d : Content) (e : Email) (ms : List ℕ) → d.mailboxes ≡ without mailbox_number n c.mailboxes → IsTidyEmail c e → ms ≡ mailboxes_but n e.mailboxes → AllByRecursion (IsTidyEmail d) (left_with e ms)
left_tidy_with n c d e [] is tidy which = tt
left_tidy_with n c d e (m ∷ ms) is tidy which = (
  tidy_with n c d e (m ∷ ms) is tidy
      (subst (AreAmong c.mailboxes) (sym which) (All-kept (λ m. is_some (lookup mailbox_number m c.mailboxes) ≡ true) (λ m. not (eqb m n)) e.mailboxes tidy.mailboxes))
      (ap (list_any (λ m. eqb m n)) which ∙ none_kept n e.mailboxes)
      (omega arith)
      (subst (λ (ns : List ℕ). length ns ≤ length e.mailboxes) (sym which) (few_kept (λ m. not (eqb m n)) e.mailboxes))
      (subst (IsStrictlySortedBy nat_cmp) (sym which) (IsStrictlySortedBy-filter nat_cmp (λ m. not (eqb m n)) e.mailboxes tidy.mailboxes_rise)),
  tt,
)

left_tidy : (n : ℕ) (c d : Content) (e : Email) → d.mailboxes ≡ without mailbox_number n c.mailboxes → IsTidyEmail c e → AllByRecursion (IsTidyEmail d) (left_without n e)
left_tidy n c d e is tidy =
    ⊎_elim
    (λ (there : is_in n e ≡ true). rw there (left_tidy_with n c d e (mailboxes_but n e.mailboxes) is tidy refl))
    (λ (other : is_in n e ≡ false).
    rw other
    (tidy_with n c d e e.mailboxes is tidy tidy.mailboxes other tidy.some_mailbox (omega arith) tidy.mailboxes_rise, tt))
    (cases_Bool (is_in n e))

all_join : {B : Type 0} (Q : B → Type 0) (ys zs : List B) → AllByRecursion Q ys → AllByRecursion Q zs → AllByRecursion Q (ys ++ zs)
all_join Q [] zs here rest = rest
all_join Q (y ∷ ys) zs here rest = (here.0, all_join Q ys zs here.1 rest)

pub all_flat : {A B : Type 0} (P : A → Type 0) (Q : B → Type 0) (f : A → List B) (xs : List A) → ((x : A) → P x → AllByRecursion Q (f x)) → AllByRecursion P xs → AllByRecursion Q (flat_map f xs)
all_flat P Q f [] each all = tt
all_flat P Q f (x ∷ xs) each all = all_join Q (f x) (flat_map f xs) (each x all.0) (all_flat P Q f xs each all.1)

one_at_most : (e : Email) (ms : List ℕ) → length (left_with e ms) ≤ 1
one_at_most e [] = omega arith
one_at_most e (m ∷ ms) = omega arith

few_left : (n : ℕ) (es : List Email) → length (flat_map (left_without n) es) ≤ length es
few_left n [] = omega arith
few_left n (e ∷ es) =
    let rest = few_left n es in
    let joined = length-append (left_without n e) (flat_map (left_without n) es) in
    let one : length (left_without n e) ≤ 1 =
    ⊎_elim
    (λ (there : is_in n e ≡ true). rw there (one_at_most e (mailboxes_but n e.mailboxes)))
    (λ (other : is_in n e ≡ false). rw other (omega arith))
    (cases_Bool (is_in n e)) in
    omega (arith, rest, joined, one)

-- ---- the mailboxes that are left are tidy

distinct_kept : {A : Type 0} (same : A → A → Bool) (test : A → Bool) (xs : List A) → IsDistinct same xs → IsDistinct same (filter test xs)
unfolding IsDistinct
distinct_kept same test [] distinct = tt
distinct_kept same test (x ∷ xs) distinct =
    ⊎_elim
    (λ (kept : test x ≡ true). rw kept (All-kept (λ y. same x y ≡ false) test xs distinct.0, distinct_kept same test xs distinct.1))
    (λ (gone : test x ≡ false). rw gone (distinct_kept same test xs distinct.1))
    (cases_Bool (test x))

-- no mailbox has this parent
abbrev NoChild : ℕ → List Mailbox → Type 0
NoChild n rows = AllByRecursion (λ (m : Mailbox). same_parent m.parent (Some n) ≡ false) rows

no_child : (n : ℕ) (rows : List Mailbox) → list_any (λ (m : Mailbox). same_parent m.parent (Some n)) rows ≡ false → NoChild n rows
no_child n [] none = tt
no_child n (m ∷ rows) none =
    let more = list_any (λ (m : Mailbox). same_parent m.parent (Some n)) rows in
    (or_first (same_parent m.parent (Some n)) more none, no_child n rows (or_second (same_parent m.parent (Some n)) more none))

other_parent : (n : ℕ) (parent : Option ℕ) → same_parent parent (Some n) ≡ false → parent ≢ Some n
other_parent n None none e = none-some n e
other_parent n (Some p) none e = true≢false (sym (eq-eqb p n (same_Some p n e)) ∙ none)

parent_not : (n q : ℕ) (rows : List Mailbox) → NoChild n rows → parent_in rows q ≢ Some n
parent_not n q [] none = λ e. none-some n e
parent_not n q (m ∷ rows) none =
    ⊎_elim
    (λ (same : eqb m.number q ≡ true). rw same (other_parent n m.parent none.0))
    (λ (other : eqb m.number q ≡ false). rw other (parent_not n q rows none.1))
    (cases_Bool (eqb m.number q))

-- a chain that doesn't begin at a mailbox without children doesn't come to it
avoids : (k n : ℕ) (rows : List Mailbox) (o : Option ℕ) → NoChild n rows → o ≢ Some n → Ends k rows o → Ends k (without mailbox_number n rows) o
avoids k n rows None none other e = tt
avoids zero n rows (Some q) none other e = absurd e
avoids (suc k) n rows (Some q) none other e =
    let apart : eqb n q ≡ false = ne_eqb n q (λ (same : n ≡ q). other (ap Some (sym same))) in
    let look = lookup-without_other mailbox_number n q apart rows in (
      ap is_some look ∙ e.0,
      subst (Ends k (without mailbox_number n rows)) (sym (ap (λ (o : Option Mailbox). option_and_then (λ (m : Mailbox). m.parent) o) look)) (avoids k n rows (parent_in rows q) none (parent_not n q rows none) e.1),
    )

pub placed_still : (n : ℕ) (c d : Content) (m : Mailbox) → d.mailboxes ≡ without mailbox_number n c.mailboxes → IsTable mailbox_number (without mailbox_number n c.mailboxes) → ParentsThere c → NoChild n c.mailboxes → same_parent m.parent (Some n) ≡ false → IsPlacedBelow c m → IsPlacedBelow d m
placed_still n c d m is table parents none other placed =
    let ends : Ends (length c.mailboxes) c.mailboxes m.parent = ends_from (length c.mailboxes) c m.parent parents placed.parent placed.root in
    let rows = without mailbox_number n c.mailboxes in
    let still : Ends (length c.mailboxes) rows m.parent = avoids (length c.mailboxes) n c.mailboxes m.parent none (other_parent n m.parent other) ends in
    let less : Ends (length rows) rows m.parent = ends_within (length c.mailboxes) rows m.parent table still in
    record {
      parent = λ p e. ap (λ (rows : List Mailbox). is_some (lookup mailbox_number p rows)) is ∙ (ap is_some (lookup-without_other mailbox_number n p (apart p e) c.mailboxes) ∙ placed.parent p e);
      root = ended_from (length d.mailboxes) d m.parent (subst (λ (rows : List Mailbox). Ends (length rows) rows m.parent) (sym is) less);
    }
  where
    apart : (p : ℕ) → m.parent ≡ Some p → eqb n p ≡ false
    apart p e = ne_eqb n p (λ (same : n ≡ p). other_parent n m.parent other (e ∙ ap Some (sym same)))

placed_all : (n : ℕ) (c d : Content) (rows : List Mailbox) → d.mailboxes ≡ without mailbox_number n c.mailboxes → IsTable mailbox_number (without mailbox_number n c.mailboxes) → ParentsThere c → NoChild n c.mailboxes → NoChild n rows → AllByRecursion (IsPlacedBelow c) rows → AllByRecursion (IsPlacedBelow d) rows
placed_all n c d [] is table parents none each all = tt
placed_all n c d (m ∷ rows) is table parents none each all = (placed_still n c d m is table parents none each.0 all.0, placed_all n c d rows is table parents none each.1 all.1)

-- a mailbox without children may be destroyed
pub tidy_destroyed : (n : ℕ) (c : Content) → IsTidyButThreadsAndCounts c → is_some (mailbox_at c n) ≡ true → has_child c n ≡ false → IsTidyButThreadsAndCounts (after_edits c (destroy_edits c n))
tidy_destroyed n c tidy there childless =
    let d : Content = after_edits c (destroy_edits c n) in
    let is = destroyed n c tidy.tables.emails in
    let tables = AreTables-after_edits (destroy_edits c n) c tidy.tables in
    let none = no_child n c.mailboxes childless in
    let stays : Mailbox → Bool = λ (m : Mailbox). not (eqb m.number n) in
    let parents = all_map (IsPlacedBelow c) (λ (x : Mailbox). ForSome x.parent (IsThere c)) c.mailboxes (λ (x : Mailbox) (p : IsPlacedBelow c x). p.parent) tidy.mailboxes.placed in
    let table : IsTable mailbox_number (without mailbox_number n c.mailboxes) = subst (IsTable mailbox_number) is.mailboxes tables.mailboxes in
    let fewer = few_left n c.emails in
    let few = tidy.emails.few in
    let same : length d.emails ≡ length (flat_map (left_without n) c.emails) = ap length is.emails in
    record {
      tables = tables;
      numbered = AreNumbered-after_edits (destroy_edits c n) c (is.fits there) tidy.numbered;
      mailboxes = record {
        forms = subst (AllByRecursion IsWellFormed) (sym is.mailboxes) (All-kept IsWellFormed stays c.mailboxes tidy.mailboxes.forms);
        placed = subst (AllByRecursion (IsPlacedBelow d)) (sym is.mailboxes) (All-kept (IsPlacedBelow d) stays c.mailboxes (placed_all n c d c.mailboxes is.mailboxes table parents none none tidy.mailboxes.placed));
        names = subst (IsDistinct share_name) (sym is.mailboxes) (distinct_kept share_name stays c.mailboxes tidy.mailboxes.names);
        roles = subst (IsDistinct share_role) (sym is.mailboxes) (distinct_kept share_role stays c.mailboxes tidy.mailboxes.roles);
      };
      emails = record {
        few = omega (arith, same, fewer, few);
        each = subst (AllByRecursion (IsTidyEmail d)) (sym is.emails) (all_flat (IsTidyEmail c) (IsTidyEmail d) (left_without n) c.emails (λ (e : Email) (t : IsTidyEmail c e). left_tidy n c d e is.mailboxes t) tidy.emails.each);
      };
    }
