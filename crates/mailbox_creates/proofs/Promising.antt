-- What the edits of a set keep, create by create.
use Rattle.std.proofs.Common.{◌≡◌, ◌≢◌, ℕ, zero, suc, Bool, true, false, not, cond, ◌||◌, List, [], ◌∷◌, ◌++◌, map, filter, length, Option, Some, None, is_some, unwrap_or, option_map, option_and_then, refl, sym, ap, ◌∙◌, subst, pos, negsuc, eqb, bytes_eq, codes}
use Rattle.std.specs.List.{AllByRecursion, list_any}
use Rattle.std.specs.Ordering.{nat_cmp, match_ordering}
use Rattle.std.specs.Cmp.Lexicographic.{slice_cmp}
use Rattle.std.specs.declared.cmp.Ordering.{Ordering}
use Rattle.std.specs.declared.cmp.Ordering.TheVariants.{Less, Equal, Greater}
use Rattle.std.proofs.lemmas.Bool.{false≢true, eq-eqb}
use Rattle.std.proofs.lemmas.Option.{none-some, same_Some}
use Rattle.jm_json.specs.Tree.{Tree, null, boolean, number, text, list, object}
use Rattle.jm_json.specs.Find.{find, as_text}
use Rattle.jm_json.specs.Order.{put}
use Rattle.jm_json.specs.declared.invocation.Created.{Created}
use Rattle.mail_records.specs.Tables.{lookup}
use Rattle.mail_records.specs.Contents.{Content, mailbox_at, mailbox_number, AreNumbered}
use Rattle.mail_records.specs.Edits.{after_edit, after_edits, AllFit, Fits}
use Rattle.mail_records.specs.declared.edits.Edit.{Edit}
use Rattle.mail_records.specs.declared.edits.Edit.TheVariants.{PutMailbox, DropMailbox, PutEmail, DropEmail, PutThread, DropThread}
use Rattle.mail_records.specs.declared.records.Mailbox.{Mailbox}
use Rattle.mail_records.proofs.Growth.{AreNumbered-after_edit, after_edits-append, AllFit-append}
use Rattle.mail_counts.specs.Forms.{is_name, is_role, is_sort_order}
use Rattle.mail_counts.specs.Tidy.{IsTidy, IsThere, IsNewMailbox, is_sibling}
use Rattle.mail_counts.specs.Views.{is_id_of, mailbox_members, mailbox_named}
use Rattle.mail_counts.proofs.Growth.{Fits-new_mailbox, Tidy_with_new_mailbox}
use Rattle.mailbox_creates.specs.Properties.{SentProperties, named, parent_in, role_in, sent_name, sent_parent, sent_properties, sort_order_in}
use Rattle.set_parts.specs.CreationIds.{identifier}
use Rattle.set_parts.specs.Names.{only_if}
use Rattle.set_parts.specs.Creates.{Creating}
use Rattle.mailbox_creates.specs.Creates.{after_checks, after_create, after_made, bad_in, bad_members, blank, faults_of, is_bad, is_name_taken, is_role_taken, mailbox_of, new_mailbox, property, after_rejected, PutsNew}
use Rattle.set_parts.specs.Arguments.{Create}
use Rattle.mailbox_creates.specs.Rounds.{after_creates, after_each, after_round, in_rounds, stands, taken_out}
use Rattle.mail_counts.specs.CountsFlag.{AreCountsFlagsRight, ChangesOnlyCounts, IsCountsFlagRight}
use Rattle.mailbox_creates.specs.declared.checks.Faults.{Faults}
use Rattle.mailbox_creates.proofs.Naming.{texts_tested, no_role_taken}

abbrev Pairs : Type 0
Pairs = List (List ℕ × Tree)

-- ---- no invalid property

cons_some : {A : Type 0} (x : A) (xs : List A) → x ∷ xs ≢ []
cons_some x xs e = cc

ordered_some : (o : Ordering) (x y z : List ℕ × Tree) (xs ys zs : Pairs) → match_ordering o (x ∷ xs) (y ∷ ys) (z ∷ zs) ≢ []
ordered_some Less x y z xs ys zs e = cons_some x xs e
ordered_some Equal x y z xs ys zs e = cons_some y ys e
ordered_some Greater x y z xs ys zs e = cons_some z zs e

pub put_some : (k : List ℕ) (t : Tree) (ms : Pairs) → put k t ms ≢ []
put_some k t [] e = cons_some (k, t) [] e
put_some k t (m ∷ ms) e = ordered_some (slice_cmp nat_cmp k m.0) (k, t) (k, t) m (m ∷ ms) ms (put k t ms) e

-- where nothing is invalid, a name is given
pub named_if_good : (f : Faults) (given ms : Pairs) → bad_members f given ms ≡ [] → is_some (find (codes "name") ms) ≡ true
named_if_good f given ms none = at (find (codes "name") ms) none
  where
    at : (o : Option Tree) → cond (is_some o) (map property (filter (is_bad f given) ms)) (put (codes "name") null (map property (filter (is_bad f given) ms))) ≡ [] → is_some o ≡ true
    at None e = absurd (put_some (codes "name") null (map property (filter (is_bad f given) ms)) e)
    at (Some t) e = refl

map_none : (ms : Pairs) → map property ms ≡ [] → ms ≡ []
map_none [] e = refl
map_none (m ∷ ms) e = absurd (cons_some (property m) (map property ms) e)

none_kept : (f : Faults) (given ms : Pairs) → bad_members f given ms ≡ [] → filter (is_bad f given) ms ≡ []
none_kept f given ms none =
    map_none (filter (is_bad f given) ms) (subst (λ b. cond b (map property (filter (is_bad f given) ms)) (put (codes "name") null (map property (filter (is_bad f given) ms))) ≡ []) (named_if_good f given ms none) none)

-- a member that is found doesn't pass the test, where none does
found_at : (p : List ℕ × Tree → Bool) (b : Bool) (m : List ℕ × Tree) (ms : Pairs) (k : List ℕ) (v : Tree) → bytes_eq m.0 k ≡ b → p m ≡ false → (find k ms ≡ Some v → p (k, v) ≡ false) → cond b (Some m.1) (find k ms) ≡ Some v → p (k, v) ≡ false
found_at p true m ms k v same fails rest is =
    let key : m.0 ≡ k = texts_tested m.0 k same in
    let value : m.1 ≡ v = same_Some m.1 v is in
    subst (λ j. p (j, v) ≡ false) key (subst (λ u. p (m.0, u) ≡ false) value fails)
found_at p false m ms k v same fails rest is = rest is

first_fails : (p : List ℕ × Tree → Bool) (m : List ℕ × Tree) (ms : Pairs) (b : Bool) → p m ≡ b → cond b (m ∷ filter p ms) (filter p ms) ≡ [] → (p m ≡ false) × (filter p ms ≡ [])
first_fails p m ms true is e = absurd (cons_some m (filter p ms) e)
first_fails p m ms false is e = (is, e)

found_good : (p : List ℕ × Tree → Bool) (ms : Pairs) (k : List ℕ) (v : Tree) → filter p ms ≡ [] → find k ms ≡ Some v → p (k, v) ≡ false
found_good p [] k v none is = absurd (none-some v is)
found_good p (m ∷ ms) k v none is =
    let h = first_fails p m ms (p m) refl none in
    found_at p (bytes_eq m.0 k) m ms k v refl h.0 (found_good p ms k v h.1) is

-- ---- the values are valid

or_left : (a b : Bool) → (not a || b) ≡ false → (a ≡ true) × (b ≡ false)
or_left true b e = (refl, e)
or_left false b e = absurd (false≢true (sym e))

pub not_false : (a : Bool) → not a ≡ false → a ≡ true
not_false true e = refl
not_false false e = absurd (false≢true (sym e))

pub some_there : {A : Type 0} (o : Option A) → is_some o ≡ true → (x : A) × (o ≡ Some x)
some_there None e = absurd (false≢true e)
some_there (Some x) e = (x, refl)

only_good : (test : List ℕ → Bool) (b : Bool) (s x : List ℕ) → test s ≡ b → cond b (Some s) None ≡ Some x → test x ≡ true
only_good test true s x is e = subst (λ r. test r ≡ true) (same_Some s x e) is
only_good test false s x is e = absurd (none-some x e)

name_good : (o : Option (List ℕ)) (x : List ℕ) → option_and_then (only_if is_name) o ≡ Some x → is_name x ≡ true
name_good None x e = absurd (none-some x e)
name_good (Some s) x e = only_good is_name (is_name s) s x refl e

role_at : (o : Option (List ℕ)) (r : List ℕ) → unwrap_or (option_map (λ x. Some x) o) None ≡ Some r → o ≡ Some r
role_at None r e = absurd (none-some r e)
role_at (Some x) r e = e

pub role_good : (t : Option Tree) (r : List ℕ) → unwrap_or (role_in t) None ≡ Some r → is_role r ≡ true
role_good None r e = absurd (none-some r e)
role_good (Some null) r e = absurd (none-some r e)
role_good (Some (text s)) r e = only_good is_role (is_role s) s r refl (role_at (only_if is_role s) r e)
role_good (Some (boolean b)) r e = absurd (none-some r e)
role_good (Some (number z)) r e = absurd (none-some r e)
role_good (Some (list ts)) r e = absurd (none-some r e)
role_good (Some (object fs)) r e = absurd (none-some r e)

order_at : (n : ℕ) (b : Bool) → is_sort_order n ≡ b → is_sort_order (unwrap_or (cond b (Some n) None) 0) ≡ true
order_at n true e = e
order_at n false e = refl

pub sort_order_good : (t : Option Tree) → is_sort_order (unwrap_or (sort_order_in t) 0) ≡ true
sort_order_good None = refl
sort_order_good (Some null) = refl
sort_order_good (Some (text s)) = refl
sort_order_good (Some (boolean b)) = refl
sort_order_good (Some (number (pos n))) = order_at n (is_sort_order n) refl
sort_order_good (Some (number (negsuc n))) = refl
sort_order_good (Some (list ts)) = refl
sort_order_good (Some (object fs)) = refl

-- a mailbox that is found by its identifier is there
there_at : (m : Mailbox) (n : ℕ) (rows : List Mailbox) (b : Bool) → eqb m.number n ≡ b → is_some (lookup mailbox_number n rows) ≡ true → is_some (cond b (Some m) (lookup mailbox_number n rows)) ≡ true
there_at m n rows true e h = refl
there_at m n rows false e h = h

abbrev named_in : List Mailbox → List ℕ → Option ℕ
named_in rows s = option_map mailbox_number (mailbox_named rows s)

named_there_at : (s : List ℕ) (m : Mailbox) (n : ℕ) (rows : List Mailbox) (b : Bool) → (named_in rows s ≡ Some n → is_some (lookup mailbox_number n rows) ≡ true)
    → option_map mailbox_number (cond b (Some m) (mailbox_named rows s)) ≡ Some n → is_some (lookup mailbox_number n (m ∷ rows)) ≡ true
named_there_at s m n rows true rest e =
    let same : eqb m.number n ≡ true = eq-eqb m.number n (same_Some m.number n e) in rw same refl
named_there_at s m n rows false rest e = there_at m n rows (eqb m.number n) refl (rest e)

pub named_there : (s : List ℕ) (rows : List Mailbox) (n : ℕ) → named_in rows s ≡ Some n → is_some (lookup mailbox_number n rows) ≡ true
named_there s [] n e = absurd (none-some n e)
named_there s (m ∷ rows) n e = named_there_at s m n rows (is_id_of s m) (named_there s rows n) e

parent_at : (o : Option ℕ) (n : ℕ) → unwrap_or (option_map (λ x. Some x) o) None ≡ Some n → o ≡ Some n
parent_at None n e = absurd (none-some n e)
parent_at (Some x) n e = e

meant_there : (c : Content) (o : Option (List ℕ)) (n : ℕ) → option_and_then (named c) o ≡ Some n → IsThere c n
meant_there c None n e = absurd (none-some n e)
meant_there c (Some s) n e = named_there s c.mailboxes n e

pub parent_good : (c : Content) (made : List Created) (t : Option Tree) (n : ℕ) → unwrap_or (parent_in c made t) None ≡ Some n → IsThere c n
parent_good c made None n e = absurd (none-some n e)
parent_good c made (Some null) n e = absurd (none-some n e)
parent_good c made (Some (text s)) n e = meant_there c (identifier made s) n (parent_at (option_and_then (named c) (identifier made s)) n e)
parent_good c made (Some (boolean b)) n e = absurd (none-some n e)
parent_good c made (Some (number z)) n e = absurd (none-some n e)
parent_good c made (Some (list ts)) n e = absurd (none-some n e)
parent_good c made (Some (object fs)) n e = absurd (none-some n e)

-- ---- a create without invalid properties makes a mailbox that may be

name_free : (c : Content) (parent : Option (Option ℕ)) (name : Option (List ℕ)) → is_some parent ≡ true → is_some name ≡ true → is_name_taken c parent name ≡ false
    → list_any (is_sibling (unwrap_or parent None) (unwrap_or name [])) c.mailboxes ≡ false
name_free c None name e f free = absurd (false≢true e)
name_free c (Some p) None e f free = absurd (false≢true f)
name_free c (Some p) (Some n) e f free = free

pub name_form : (o : Option (List ℕ)) → is_some (option_and_then (only_if is_name) o) ≡ true → is_name (unwrap_or (option_and_then (only_if is_name) o) []) ≡ true
name_form o some =
    let h = some_there (option_and_then (only_if is_name) o) some in
    ap (λ x. is_name (unwrap_or x [])) h.1 ∙ name_good o h.0 h.1

-- a fault that a given property has is known
pub given_good : (f : Faults) (given ms : Pairs) (k : List ℕ) (v : Tree) → bad_members f given ms ≡ [] → find k ms ≡ Some v → is_bad f given (k, v) ≡ false
given_good f given ms k v none is = found_good (is_bad f given) ms k v (none_kept f given ms none) is

parent_some : (c : Content) (made : List Created) (ms given : Pairs) (o : Option Tree) → find (codes "parentId") ms ≡ o → bad_members (faults_of c (sent_properties c made ms)) given ms ≡ [] → is_some (sent_parent c made ms) ≡ true
parent_some c made ms given None is none = ap (λ t. is_some (parent_in c made t)) is
parent_some c made ms given (Some v) is none = not_false (is_some (sent_parent c made ms)) (given_good (faults_of c (sent_properties c made ms)) given ms (codes "parentId") v none is)

role_free : (c : Content) (made : List Created) (ms given : Pairs) (o : Option Tree) → find (codes "role") ms ≡ o → bad_members (faults_of c (sent_properties c made ms)) given ms ≡ []
    → is_role_taken c (unwrap_or (role_in (find (codes "role") ms)) None) ≡ false
role_free c made ms given None is none = ap (λ t. is_role_taken c (unwrap_or (role_in t) None)) is ∙ no_role_taken c
role_free c made ms given (Some v) is none =
    (or_left (is_some (role_in (find (codes "role") ms))) (is_role_taken c (unwrap_or (role_in (find (codes "role") ms)) None))
    (given_good (faults_of c (sent_properties c made ms)) given ms (codes "role") v none is)).1

name_faultless : (c : Content) (made : List Created) (ms given : Pairs) → bad_members (faults_of c (sent_properties c made ms)) given ms ≡ []
    → (is_some (sent_name ms) ≡ true) × (is_name_taken c (sent_parent c made ms) (sent_name ms) ≡ false)
name_faultless c made ms given none =
    let h = some_there (find (codes "name") ms) (named_if_good (faults_of c (sent_properties c made ms)) given ms none) in
    or_left (is_some (sent_name ms)) (is_name_taken c (sent_parent c made ms) (sent_name ms)) (given_good (faults_of c (sent_properties c made ms)) given ms (codes "name") h.0 none h.1)

pub IsNewMailbox-from_good : (c : Content) (made : List Created) (ms : Pairs) → bad_in c (sent_properties c made ms) ms ≡ [] → IsNewMailbox c (mailbox_of c.next_mailbox (sent_properties c made ms))
IsNewMailbox-from_good c made ms none =
    let given = mailbox_members false (blank c.next_mailbox) in
    let name = name_faultless c made ms given none in
    let parent = parent_some c made ms given (find (codes "parentId") ms) refl none in
    record {
      number = refl;
      form = record {
        name = name_form (option_and_then as_text (find (codes "name") ms)) name.0;
        role = λ r e. role_good (find (codes "role") ms) r e;
        sort_order = sort_order_good (find (codes "sortOrder") ms);
      };
      parent = λ n e. parent_good c made (find (codes "parentId") ms) n e;
      name_free = name_free c (sent_parent c made ms) (sent_name ms) parent name.0 name.1;
      role_free = role_free c made ms given (find (codes "role") ms) refl none;
      counts = record { total_emails = refl; unread_emails = refl; total_threads = refl; unread_threads = refl };
    }

-- ---- creates in rounds

-- what each create keeps, all keep
pub by_checks : (P : Creating → Type 0) (s : Creating) (x : Create) (m : Mailbox) (bad : Pairs) → (bad ≡ [] → P (after_made s x m)) → ((r : Pairs) → P (record s { not_created = r })) → P (after_checks s x m bad)
by_checks P s x m [] made other = made refl
by_checks P s x m (b ∷ bs) made other = other (after_rejected s x (b ∷ bs)).not_created

by_each : (P : Creating → Type 0) → ((s : Creating) (x : Create) → P s → P (after_create s x)) → (xs : List Create) (s : Creating) → P s → P (after_each s xs)
by_each P step [] s p = p
by_each P step (x ∷ xs) s p = by_each P step xs (after_create s x) (step s x p)

by_round : (P : Creating → Type 0) → ((s : Creating) (x : Create) → P s → P (after_create s x)) → (n : ℕ) (s : Creating) (xs : List Create) → P s → ((t : Creating) (ys : List Create) → P t → P (in_rounds n t ys)) → (o : Option (Create × List Create))
    → P (after_round (in_rounds n) s xs o)
by_round P step n s xs p next None = by_each P step xs s p
by_round P step n s xs p next (Some r) = next (after_create s r.0) r.1 (step s r.0 p)

pub by_rounds : (P : Creating → Type 0) → ((s : Creating) (x : Create) → P s → P (after_create s x)) → (n : ℕ) (s : Creating) (xs : List Create) → P s → P (in_rounds n s xs)
by_rounds P step zero s xs p = by_each P step xs s p
by_rounds P step (suc n) s xs p = by_round P step n s xs p (λ t ys q. by_rounds P step n t ys q) (taken_out (stands s.made) xs)

-- the edits up to here lead to the content up to here, and put new mailboxes
pub record Leading (c : Content) (s : Creating) : Type 0 where
  pub content : s.content ≡ after_edits c s.edits
  pub puts : AllByRecursion PutsNew s.edits

all_push : {A : Type 0} (P : A → Type 0) (xs : List A) (x : A) → AllByRecursion P xs → P x → AllByRecursion P (xs ++ x ∷ [])
all_push P [] x all p = (p, tt)
all_push P (y ∷ xs) x all p = (all.0, all_push P xs x all.1 p)

leading_made : (c : Content) (s : Creating) (x : Create) (a : SentProperties) → Leading c s → Leading c (after_made s x (mailbox_of s.content.next_mailbox a))
leading_made c s x a f =
    let m = mailbox_of s.content.next_mailbox a in
    record {
      content = ap (λ d. after_edit d (new_mailbox m)) f.content ∙ sym (after_edits-append s.edits (new_mailbox m ∷ []) c);
      puts = all_push PutsNew s.edits (new_mailbox m) f.puts (refl, refl, record { total_emails = refl; unread_emails = refl; total_threads = refl; unread_threads = refl });
    }

leading_create : (c : Content) (s : Creating) (x : Create) → Leading c s → Leading c (after_create s x)
leading_create c s x f =
    let a = sent_properties s.content s.made x.members in
    by_checks (Leading c) s x (mailbox_of s.content.next_mailbox a) (bad_in s.content a x.members) (λ none. leading_made c s x a f)
    (λ r. record { content = f.content; puts = f.puts })

pub Leading-creates : (c : Content) (s : Creating) (xs : List Create) → Leading c s → Leading c (after_creates s xs)
Leading-creates c s xs f = by_rounds (Leading c) (leading_create c) (length xs) s xs f

-- the edits up to here fit too, where numbers are below the next ones
pub record Fitting (c : Content) (s : Creating) : Type 0 where
  pub leads : Leading c s
  pub fits : AllFit c s.edits
  pub numbered : AreNumbered s.content

fitting_made : (c : Content) (s : Creating) (x : Create) (a : SentProperties) → Fitting c s → Fitting c (after_made s x (mailbox_of s.content.next_mailbox a))
fitting_made c s x a f =
    let m = mailbox_of s.content.next_mailbox a in
    let fit : Fits s.content (new_mailbox m) = Fits-new_mailbox s.content m false f.numbered refl in
    let last : AllFit (after_edits c s.edits) (new_mailbox m ∷ []) = subst (λ d. AllFit d (new_mailbox m ∷ [])) f.leads.content (fit, tt) in
    record {
      leads = leading_made c s x a f.leads;
      fits = AllFit-append s.edits (new_mailbox m ∷ []) c f.fits last;
      numbered = AreNumbered-after_edit s.content (new_mailbox m) fit f.numbered;
    }

fitting_create : (c : Content) (s : Creating) (x : Create) → Fitting c s → Fitting c (after_create s x)
fitting_create c s x f =
    let a = sent_properties s.content s.made x.members in
    by_checks (Fitting c) s x (mailbox_of s.content.next_mailbox a) (bad_in s.content a x.members) (λ none. fitting_made c s x a f)
    (λ r. record { leads = record { content = f.leads.content; puts = f.leads.puts }; fits = f.fits; numbered = f.numbered })

pub Fitting-creates : (c : Content) (s : Creating) (xs : List Create) → Fitting c s → Fitting c (after_creates s xs)
Fitting-creates c s xs f = by_rounds (Fitting c) (fitting_create c) (length xs) s xs f

abbrev Tidied : Creating → Type 0
Tidied s = IsTidy s.content

tidy_create : (s : Creating) (x : Create) → Tidied s → Tidied (after_create s x)
tidy_create s x tidy =
    let a = sent_properties s.content s.made x.members in
    by_checks Tidied s x (mailbox_of s.content.next_mailbox a) (bad_in s.content a x.members)
    (λ none. Tidy_with_new_mailbox s.content (mailbox_of s.content.next_mailbox a) false tidy (IsNewMailbox-from_good s.content s.made x.members none))
    (λ r. tidy)

pub Tidy-creates : (s : Creating) (xs : List Create) → IsTidy s.content → IsTidy (after_creates s xs).content
Tidy-creates s xs tidy = by_rounds Tidied tidy_create (length xs) s xs tidy

-- ---- a plan

-- a new mailbox is put without the flag, and rightly so
nothing_changed : (o : Option Mailbox) (m : Mailbox) → is_some o ≡ false → ChangesOnlyCounts o m → ⊥
nothing_changed None m none change = change
nothing_changed (Some old) m none change = false≢true (sym none)

flag_right : (c : Content) (e : Edit) → Fits c e → PutsNew e → IsCountsFlagRight c e
flag_right c (PutMailbox item was counts) fit puts = (
  λ set. absurd (false≢true (sym puts.1 ∙ set)),
  λ change. absurd (nothing_changed (mailbox_at c item.number) item (sym fit.0 ∙ puts.0) change),
)
flag_right c (DropMailbox n) fit puts = absurd puts
flag_right c (PutEmail item was) fit puts = absurd puts
flag_right c (DropEmail n thread) fit puts = absurd puts
flag_right c (PutThread item was) fit puts = absurd puts
flag_right c (DropThread n) fit puts = absurd puts

pub flags_right : (es : List Edit) (c : Content) → AllFit c es → AllByRecursion PutsNew es → AreCountsFlagsRight c es
flags_right [] c fit puts = tt
flags_right (e ∷ es) c fit puts = (flag_right c e fit.0 puts.0, flags_right es (after_edit c e) fit.1 puts.1)
