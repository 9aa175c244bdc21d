-- Updates of a content that is tidy but for threads and counts leave such a one, where the mailboxes
-- that they put break no rule in the result.
use Rattle.std.proofs.Common.{◌≡◌, ℕ, zero, suc, ◌<◌, ◌≤◌, Bool, true, false, ◌&&◌, ◌||◌, ◌==◌, cond, not, eqb, List, [], ◌∷◌, length, Option, Some, None, is_some, option_and_then, refl, sym, ap, ap₂, ◌∙◌, subst, arith, ⊎_elim, eq-eqb, ne_eqb, bytes_eq, Decides}
use Rattle.std.specs.List.{AllByRecursion, IsDistinct, list_all, list_any}
use Rattle.std.specs.Option.{ForSome}
use Rattle.std.proofs.lemmas.Bool.{cases_Bool, eqb-true, false≢true, true≢false}
use Rattle.std.proofs.lemmas.Bool.Decides.{Decides-eqb, same_from_decides}
use Rattle.std.proofs.lemmas.Slice.Eq.{bytes_eq-Decides}
use Rattle.mail_records.specs.Contents.{Content, mailbox_at, mailbox_number}
use Rattle.mail_records.specs.Edits.{after_edits}
use Rattle.mail_records.specs.Tables.{IsTable, lookup}
use Rattle.mail_records.specs.declared.edits.Edit.{Edit}
use Rattle.mail_records.specs.declared.edits.Edit.TheVariants.{PutMailbox, DropMailbox, PutEmail, DropEmail, PutThread, DropThread}
use Rattle.mail_records.specs.declared.records.Email.{Email}
use Rattle.mail_records.specs.declared.records.Mailbox.{Mailbox}
use Rattle.mail_records.proofs.Growth.{AreNumbered-after_edits, AreTables-after_edits, all_map, found}
use Rattle.mail_counts.specs.Tidy.{HasRoot, IsThere, IsTidyEmail, ancestor, same_parent, same_role, share_name, share_role}
use Rattle.mail_counts.specs.TidyBut.{IsPlacedBelow, IsTidyButThreadsAndCounts}
use Rattle.mail_counts.specs.declared.limits.TheConstants.{MAX_EMAILS_PER_ACCOUNT}
use Rattle.mail_counts.proofs.Kept.{emails-after_edits}
use Rattle.mailbox_updates.specs.Updates.{broken_names, is_chain_broken, is_name_shared, is_role_shared, keeps_rules, keeps_rules_at}
use Rattle.mailbox_updates.proofs.Breaking.{none_broken}
use Rattle.mailbox_updates.proofs.Chains.{Ends, ParentsThere, ends_from, parent_in, root_from}
use Rattle.mailbox_updates.proofs.Moving.{AreMoves, moves_fit, moves_form, moves_leave, moves_others, moves_parent, moves_there, puts}
use Rattle.mailbox_updates.proofs.Present.{above, and_left, and_right, both, not_true, row_passes, some_row}

-- ---- each row of a table

pub rows_all : (P : Mailbox → Type 0) (rows : List Mailbox) → IsTable mailbox_number rows → ((m : Mailbox) → lookup mailbox_number m.number rows ≡ Some m → P m) → AllByRecursion P rows
rows_all P [] table each = tt
rows_all P (x ∷ rows) table each = (
  each x (ap (λ (b : Bool). cond b (Some x) (lookup mailbox_number x.number rows)) (eq-eqb x.number x.number refl)),
  rows_all P rows table.1 (λ m at. each m (ap (λ (b : Bool). cond b (Some x) (lookup mailbox_number m.number rows)) (apart m at) ∙ at)),
)
  where
    apart : (m : Mailbox) → lookup mailbox_number m.number rows ≡ Some m → eqb x.number m.number ≡ false
    apart m at =
        let less : x.number < m.number = above mailbox_number x.number m.number rows m table.0 at in
        ne_eqb x.number m.number (λ (same : x.number ≡ m.number). omega (arith, same, less))

row_at : (P : Mailbox → Type 0) (rows : List Mailbox) (n : ℕ) (m : Mailbox) → AllByRecursion P rows → lookup mailbox_number n rows ≡ Some m → P m
row_at P rows n m all at = (found P mailbox_number n m rows all at).0

-- ---- what no two mailboxes share

or_first : (a b : Bool) → (a || b) ≡ false → a ≡ false
or_first true b e = e
or_first false b e = refl

or_second : (a b : Bool) → (a || b) ≡ false → b ≡ false
or_second true b e = absurd (true≢false e)
or_second false b e = e

and_second : (a b : Bool) → a ≡ true → (a && b) ≡ false → b ≡ false
and_second true b t e = e
and_second false b t e = absurd (true≢false (sym t))

and_none : (a b : Bool) → b ≡ false → (a && b) ≡ false
and_none true b e = e
and_none false b e = refl

none_passes : {A : Type 0} (q : A → Bool) (xs : List A) → AllByRecursion (λ x. q x ≡ false) xs → list_any q xs ≡ false
none_passes q [] all = refl
none_passes q (x ∷ xs) all = rw all.0 (none_passes q xs all.1)

all_both : {A : Type 0} (P Q R : A → Type 0) → ((x : A) → P x → Q x → R x) → (xs : List A) → AllByRecursion P xs → AllByRecursion Q xs → AllByRecursion R xs
all_both P Q R f [] p q = tt
all_both P Q R f (x ∷ xs) p q = (f x p.0 q.0, all_both P Q R f xs p.1 q.1)

module _ (share : Mailbox → Mailbox → Bool) where
  abbrev other : Mailbox → Mailbox → Bool
  other m x = not (x.number == m.number) && share x m

  abbrev shares : List Mailbox → Mailbox → Type 0
  shares rows m = list_any (other m) rows ≡ false

  distinct : (rows : List Mailbox) → IsTable mailbox_number rows → AllByRecursion (shares rows) rows → IsDistinct share rows
  unfolding IsDistinct
  distinct [] table none = tt
  distinct (x ∷ xs) table none = (
    all_both (λ y. x.number < y.number) (λ y. other y x ≡ false) (λ y. share x y ≡ false)
        (λ y less free. and_second (not (x.number == y.number)) (share x y) (ap not (ne_eqb x.number y.number (λ same. omega (arith, same, less)))) free)
        xs table.0 (all_map (shares (x ∷ xs)) (λ y. other y x ≡ false) xs (λ y. or_first (other y x) (list_any (other y) xs)) none.1),
    distinct xs table.1 (all_map (shares (x ∷ xs)) (shares xs) xs (λ y. or_second (other y x) (list_any (other y) xs)) none.1),
  )

  undistinct : ((a b : Mailbox) → share a b ≡ share b a) → (rows : List Mailbox) → IsDistinct share rows → AllByRecursion (shares rows) rows
  unfolding IsDistinct
  undistinct flips [] apart = tt
  undistinct flips (x ∷ xs) apart = (
    ap (λ b. (not b && share x x) || list_any (other x) xs) (eq-eqb x.number x.number refl)
        ∙ none_passes (other x) xs (all_map (λ y. share x y ≡ false) (λ y. other x y ≡ false) xs (λ y e. and_none (not (y.number == x.number)) (share y x) (flips y x ∙ e)) apart.0),
    all_both (λ y. share x y ≡ false) (shares xs) (shares (x ∷ xs))
        (λ y e rest. rw (and_none (not (x.number == y.number)) (share x y) e) rest)
        xs apart.0 (undistinct flips xs apart.1),
  )

  flipped : ((a b : Mailbox) → share a b ≡ share b a) → (m x : Mailbox) → other m x ≡ true → other x m ≡ true
  flipped flips m x e =
      let differ : not (x.number == m.number) ≡ true = and_left (not (x.number == m.number)) (share x m) e in
      let here : (m.number == x.number) ≡ false = ne_eqb m.number x.number (λ (same : m.number ≡ x.number). true≢false (sym (eq-eqb x.number m.number (sym same)) ∙ not_true (x.number == m.number) differ)) in
      both (not (m.number == x.number)) (share m x) (ap not here) (flips m x ∙ and_right (not (x.number == m.number)) (share x m) e)

  -- No two mailboxes share it, where none that was put shares it with another one, and none of the
  -- others did before.
  still_apart : ((a b : Mailbox) → share a b ≡ share b a) → (was now : List Mailbox) (put : ℕ → Bool) → IsTable mailbox_number now → IsDistinct share was
      → ((n : ℕ) → put n ≡ false → lookup mailbox_number n now ≡ lookup mailbox_number n was)
      → ((m : Mailbox) → lookup mailbox_number m.number now ≡ Some m → put m.number ≡ true → shares now m) → IsDistinct share now
  still_apart flips was now put table apart left free =
      distinct now table (rows_all (shares now) now table (λ m at. by_shared m at (list_any (other m) now) refl))
    where
      of_two : (m x : Mailbox) → lookup mailbox_number m.number now ≡ Some m → lookup mailbox_number x.number now ≡ Some x → other m x ≡ true → (p q : Bool) → put m.number ≡ p → put x.number ≡ q → ⊥
      of_two m x at there e true q pm px =
          true≢false (sym (row_passes mailbox_number (other m) x.number now x there e) ∙ free m at pm)
      of_two m x at there e false true pm px =
          true≢false (sym (row_passes mailbox_number (other x) m.number now m at (flipped flips m x e)) ∙ free x there px)
      of_two m x at there e false false pm px =
          let before : lookup mailbox_number m.number was ≡ Some m = sym (left m.number pm) ∙ at in
          let other_before : lookup mailbox_number x.number was ≡ Some x = sym (left x.number px) ∙ there in
          true≢false (sym (row_passes mailbox_number (other m) x.number was x other_before e) ∙ row_at (shares was) was m.number m (undistinct flips was apart) before)

      by_shared : (m : Mailbox) → lookup mailbox_number m.number now ≡ Some m → (b : Bool) → list_any (other m) now ≡ b → shares now m
      by_shared m at false e = e
      by_shared m at true e =
          let one = some_row mailbox_number (other m) now table e in
          absurd (of_two m one.0 at one.2 one.1 (put m.number) (put one.0.number) refl refl)

-- ---- names and roles

texts_flip : (a b : List ℕ) → bytes_eq a b ≡ bytes_eq b a
texts_flip a b =
    same_from_decides (bytes_eq a b) (bytes_eq b a) (bytes_eq-Decides a b) (turned (bytes_eq b a) (bytes_eq-Decides b a))
  where
    turned : (r : Bool) → Decides r (b ≡ a) → Decides r (a ≡ b)
    turned r d = (λ e. sym (d.0 e), λ e. d.1 (sym e))

parents_flip : (a b : Option ℕ) → same_parent a b ≡ same_parent b a
parents_flip None None = refl
parents_flip None (Some y) = refl
parents_flip (Some x) None = refl
parents_flip (Some x) (Some y) = same_from_decides (eqb x y) (eqb y x) (Decides-eqb x y) (turned (eqb y x) (Decides-eqb y x))
  where
    turned : (r : Bool) → Decides r (y ≡ x) → Decides r (x ≡ y)
    turned r d = (λ e. sym (d.0 e), λ e. d.1 (sym e))

roles_flip : (a b : Option (List ℕ)) → same_role a b ≡ same_role b a
roles_flip None None = refl
roles_flip None (Some y) = refl
roles_flip (Some x) None = refl
roles_flip (Some x) (Some y) = texts_flip x y

names_flip : (m n : Mailbox) → share_name m n ≡ share_name n m
names_flip m n = ap₂ (λ a b. a && b) (parents_flip m.parent n.parent) (texts_flip m.name n.name)

share_roles_flip : (m n : Mailbox) → share_role m n ≡ share_role n m
share_roles_flip m n = roles_flip m.role n.role

-- ---- a mailbox that breaks no rule

pub record IsSettled (c : Content) (m : Mailbox) : Type 0 where
  pub name : is_name_shared c m ≡ false
  pub chain : is_chain_broken c m ≡ false
  pub role : is_role_shared c m ≡ false

three_false : (a b d : Bool) → ((not a && not b) && not d) ≡ true → (a ≡ false) × (b ≡ false) × (d ≡ false)
three_false true b d e = absurd (false≢true e)
three_false false true d e = absurd (false≢true e)
three_false false false true e = absurd (false≢true e)
three_false false false false e = (refl, refl, refl)

pub settled : (c : Content) (m : Mailbox) → (length (broken_names c m) == 0) ≡ true → IsSettled c m
settled c m e =
    let three = three_false (is_name_shared c m) (is_chain_broken c m) (is_role_shared c m) (sym (none_broken (is_name_shared c m) (is_chain_broken c m) (is_role_shared c m)) ∙ e) in
    record { name = three.0; chain = three.1; role = three.2 }

-- what the edits put breaks no rule
settled_here : (d : Content) (e : Edit) (n : ℕ) (m : Mailbox) → keeps_rules d e ≡ true → puts n e ≡ true → mailbox_at d n ≡ Some m → IsSettled d m
settled_here d (PutMailbox item was counts) n m keeps is at =
    let same : item.number ≡ n = eqb-true item.number n is in
    settled d m (sym (ap (keeps_rules_at d) (ap (λ (k : ℕ). lookup mailbox_number k d.mailboxes) same ∙ at)) ∙ keeps)
settled_here d (DropMailbox number) n m keeps is at = absurd (false≢true is)
settled_here d (PutEmail item was) n m keeps is at = absurd (false≢true is)
settled_here d (DropEmail number thread) n m keeps is at = absurd (false≢true is)
settled_here d (PutThread item was) n m keeps is at = absurd (false≢true is)
settled_here d (DropThread number) n m keeps is at = absurd (false≢true is)

put_settled : (d : Content) (es : List Edit) (n : ℕ) (m : Mailbox) → list_all (keeps_rules d) es ≡ true → list_any (puts n) es ≡ true → mailbox_at d n ≡ Some m → IsSettled d m
put_settled d [] n m all here at = absurd (false≢true here)
put_settled d (e ∷ es) n m all here at =
    ⊎_elim
    (λ (is : puts n e ≡ true). settled_here d e n m (and_left (keeps_rules d e) (list_all (keeps_rules d) es) all) is at)
    (λ (other : puts n e ≡ false).
    put_settled d es n m (and_right (keeps_rules d e) (list_all (keeps_rules d) es) all) (sym (ap (λ (b : Bool). b || list_any (puts n) es) other) ∙ here) at)
    (cases_Bool (puts n e))

-- ---- chains of parents

none_left : (o : Option ℕ) → is_some o ≡ false → o ≡ None
none_left None e = refl
none_left (Some n) e = absurd (true≢false e)

some_left : (o : Option Mailbox) → is_some o ≡ true → (m : Mailbox) × (o ≡ Some m)
some_left None e = absurd (false≢true e)
some_left (Some m) e = (m, refl)

abbrev EndsIn : Content → Option ℕ → Type 0
EndsIn c o = (j : ℕ) × Ends j c.mailboxes o

module _ (c d : Content) (put : ℕ → Bool) (there : (n : ℕ) → is_some (mailbox_at d n) ≡ is_some (mailbox_at c n)) (left : (n : ℕ) → put n ≡ false → mailbox_at d n ≡ mailbox_at c n)
    (free : (n : ℕ) (m : Mailbox) → mailbox_at d n ≡ Some m → put n ≡ true → IsSettled d m) (parents : ParentsThere d) where
  -- a mailbox that was put has a chain that ends
  put_ends : (n : ℕ) → is_some (mailbox_at d n) ≡ true → put n ≡ true → EndsIn d (Some n)
  put_ends n is p =
      let one = some_left (mailbox_at d n) is in
      let m = one.0 in
      let root : HasRoot d m.parent = none_left (ancestor (length d.mailboxes) d m.parent) (free n m one.1 p).chain in
      let ends : Ends (length d.mailboxes) d.mailboxes m.parent = ends_from (length d.mailboxes) d m.parent parents (row_at (λ (x : Mailbox). ForSome x.parent (IsThere d)) d.mailboxes n m parents one.1) root in
      (suc (length d.mailboxes), (is, subst (Ends (length d.mailboxes) d.mailboxes) (sym (ap (option_and_then (λ (x : Mailbox). x.parent)) one.1)) ends))

  chain_ends : (k : ℕ) (o : Option ℕ) → Ends k c.mailboxes o → EndsIn d o
  chain_ends k None e = (zero, tt)
  chain_ends zero (Some n) e = absurd e
  chain_ends (suc k) (Some n) e =
      let is : is_some (mailbox_at d n) ≡ true = there n ∙ e.0 in
      ⊎_elim
      (λ (p : put n ≡ true). put_ends n is p)
      (λ (p : put n ≡ false).
      let rest = chain_ends k (parent_in c.mailboxes n) e.1 in
      let same : parent_in c.mailboxes n ≡ parent_in d.mailboxes n = ap (option_and_then (λ (x : Mailbox). x.parent)) (sym (left n p)) in
      (suc rest.0, (is, subst (Ends rest.0 d.mailboxes) same rest.1)))
      (cases_Bool (put n))

  pub roots : (m : Mailbox) → IsTable mailbox_number d.mailboxes → ParentsThere c → AllByRecursion (IsPlacedBelow c) c.mailboxes → mailbox_at d m.number ≡ Some m → HasRoot d m.parent
  roots m table before placed at =
      ⊎_elim
      (λ (p : put m.number ≡ true). none_left (ancestor (length d.mailboxes) d m.parent) (free m.number m at p).chain)
      (λ (p : put m.number ≡ false).
      let was : IsPlacedBelow c m = row_at (IsPlacedBelow c) c.mailboxes m.number m placed (sym (left m.number p) ∙ at) in
      let ends = chain_ends (length c.mailboxes) m.parent (ends_from (length c.mailboxes) c m.parent before was.parent was.root) in
      root_from ends.0 d m.parent table ends.1)
      (cases_Bool (put m.number))

-- ---- all of a content

emails_tidy : (c d : Content) (es : List Email) → ((n : ℕ) → IsThere c n → IsThere d n) → AllByRecursion (IsTidyEmail c) es → AllByRecursion (IsTidyEmail d) es
emails_tidy c d [] there all = tt
emails_tidy c d (e ∷ es) there all =
    let tidy : IsTidyEmail c e = all.0 in (
      record {
        mailboxes = all_map (IsThere c) (IsThere d) e.mailboxes there tidy.mailboxes;
        some_mailbox = tidy.some_mailbox;
        few_mailboxes = tidy.few_mailboxes;
        mailboxes_rise = tidy.mailboxes_rise;
        keywords = tidy.keywords;
        few_keywords = tidy.few_keywords;
        keywords_rise = tidy.keywords_rise;
        received = tidy.received;
        sent = tidy.sent;
      },
      emails_tidy c d es there all.1,
    )

pub tidy_moved : (c : Content) (es : List Edit) → IsTidyButThreadsAndCounts c → AreMoves c es → list_all (keeps_rules (after_edits c es)) es ≡ true → IsTidyButThreadsAndCounts (after_edits c es)
tidy_moved c es tidy moves keeps =
    let d = after_edits c es in
    let tables = AreTables-after_edits es c tidy.tables in
    let put : ℕ → Bool = λ n. list_any (puts n) es in
    let left = moves_others es c moves in
    let there = moves_there es c moves in
    let before : ParentsThere c = all_map (IsPlacedBelow c) (λ (x : Mailbox). ForSome x.parent (IsThere c)) c.mailboxes (λ (x : Mailbox) (p : IsPlacedBelow c x). p.parent) tidy.mailboxes.placed in
    let parents : ParentsThere d = moves_parent es c moves before in
    let free : (n : ℕ) (m : Mailbox) → mailbox_at d n ≡ Some m → put n ≡ true → IsSettled d m = λ n m at p. put_settled d es n m keeps p at in
    let same : d.emails ≡ c.emails = emails-after_edits es c (moves_leave es c moves) in
    record {
      tables = tables;
      numbered = AreNumbered-after_edits es c (moves_fit es c moves) tidy.numbered;
      mailboxes = record {
        forms = moves_form es c moves tidy.mailboxes.forms;
        placed = rows_all (IsPlacedBelow d) d.mailboxes tables.mailboxes (λ m at. record {
          parent = row_at (λ (x : Mailbox). ForSome x.parent (IsThere d)) d.mailboxes m.number m parents at;
          root = roots c d put there left free parents m tables.mailboxes before tidy.mailboxes.placed at;
        });
        names = still_apart share_name names_flip c.mailboxes d.mailboxes put tables.mailboxes tidy.mailboxes.names left (λ m at p. (free m.number m at p).name);
        roles = still_apart share_role share_roles_flip c.mailboxes d.mailboxes put tables.mailboxes tidy.mailboxes.roles left (λ m at p. (free m.number m at p).role);
      };
      emails = record {
        few = subst (λ (xs : List Email). length xs ≤ MAX_EMAILS_PER_ACCOUNT) (sym same) tidy.emails.few;
        each = subst (AllByRecursion (IsTidyEmail d)) (sym same) (emails_tidy c d c.emails (λ n is. there n ∙ is) tidy.emails.each);
      };
    }
