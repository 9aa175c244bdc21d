-- Ids and the numbers that they name: which lists name an id, and the object under an id by its number.
use Rattle.std.proofs.Common.{◌≡◌, ℕ, ◌≤◌, ◌<◌, List, [], ◌∷◌, ◌++◌, Bool, true, false, not, ◌&&◌, ◌||◌, cond, eqb, Option, Some, None, option_and_then, option_map, is_some, nat_lt, nat_le, bytes_eq, nat_cmp, Equal, refl, sym, ap, ◌∙◌, arith, ⊎_elim, true≢false}
use Rattle.std.specs.Ordering.{is_eq}
use Rattle.std.specs.List.{find as first_that}
use Rattle.std.proofs.lemmas.Bool.{cases_Bool}
use Rattle.std.proofs.lemmas.Bool.Decides.{Decides-eqb, nat_tests}
use Rattle.std.proofs.lemmas.Cmp.{nat_cmp_total}
use Rattle.std.proofs.lemmas.Option.{same_Some}
use Rattle.std.proofs.lemmas.Slice.Eq.{bytes_eq-Decides}
use Rattle.jm_base.specs.Ids.{id_text}
use Rattle.jm_base.specs.Splices.{has, without}
use Rattle.jm_base.specs.declared.identifiers.Kind.{Kind}
use Rattle.jm_base.specs.declared.identifiers.Kind.TheVariants.{Mailbox as OfMailbox, Email as OfEmail, Thread as OfThread}
use Rattle.jm_base.specs.declared.identifiers.TheConstants.{NUMBER_LIMIT}
use Rattle.jm_base.proofs.Spliced.{has-filter}
use Rattle.jm_json.specs.Tree.{Tree}
use Rattle.mail_records.specs.Contents.{Content, email_at, email_number, is_present, mailbox_at, mailbox_number, thread_at, thread_number}
use Rattle.mail_records.specs.Tables.{lookup}
use Rattle.mail_records.proofs.KeyTables.{nat_equal}
use Rattle.method_args.specs.Arguments.{passes}
use Rattle.method_args.specs.Ids.{id_number}
use Rattle.method_args.proofs.IdTexts.{id_back, id_reads}
use Rattle.filter_terms.proofs.Lists.{same_tests}
use Rattle.get_args.specs.Wanted.{cached_wanted}
use Rattle.mail_view.specs.CachedViews.{view_named}
use Rattle.mail_view.specs.Emails.{email_view}
use Rattle.mail_view.specs.Mailboxes.{mailbox_view}
use Rattle.mail_view.specs.Records.{is_id_text}
use Rattle.mail_view.specs.Threads.{thread_view}
use Rattle.query_changes.proofs.Touching.{has-append}
use Rattle.query_engine.proofs.Results.{has_sorted}
use Rattle.client_cache.specs.Records.{in_order}
use Rattle.client_follow.specs.Holdings.{names}

-- ---- which lists name an id

names_or : (p q r : ℕ → Bool) (o : Option ℕ) → ((n : ℕ) → p n ≡ (q n || r n)) → passes p o ≡ (passes q o || passes r o)
names_or p q r None is = refl
names_or p q r (Some n) is = is n

pub names_append : (kind : Kind) (xs ys id : List ℕ) → names kind (xs ++ ys) id ≡ (names kind xs id || names kind ys id)
names_append kind xs ys id = names_or (has (xs ++ ys)) (has xs) (has ys) (id_number kind id) (has-append xs ys)

turn_and : (a b : Bool) → (not a && b) ≡ (b && not a)
turn_and true true = refl
turn_and true false = refl
turn_and false true = refl
turn_and false false = refl

names_not : (p q r : ℕ → Bool) (o : Option ℕ) → ((n : ℕ) → p n ≡ (q n && not (r n))) → passes p o ≡ (passes q o && not (passes r o))
names_not p q r None is = refl
names_not p q r (Some n) is = is n

pub names_without : (kind : Kind) (xs ys id : List ℕ) → names kind (without xs ys) id ≡ (names kind xs id && not (names kind ys id))
names_without kind xs ys id =
    names_not (has (without xs ys)) (has xs) (has ys) (id_number kind id) (λ n. has-filter (λ m. not (has ys m)) xs n ∙ turn_and (has ys n) (has xs n))

names_same : (p q : ℕ → Bool) (o : Option ℕ) → ((n : ℕ) → p n ≡ q n) → passes p o ≡ passes q o
names_same p q None is = refl
names_same p q (Some n) is = is n

apart : (a b : ℕ) → nat_cmp a b ≡ Equal → a ≡ b
apart a b e = nat_equal a b (ap is_eq e)

pub names_ordered : (kind : Kind) (xs id : List ℕ) → names kind (in_order xs) id ≡ names kind xs id
names_ordered kind xs id = names_same (has (in_order xs)) (has xs) (id_number kind id) (has_sorted nat_cmp_total apart xs)

pub names_nothing : (kind : Kind) (id : List ℕ) → names kind [] id ≡ false
names_nothing kind id = none (id_number kind id)
  where
    none : (o : Option ℕ) → passes (has []) o ≡ false
    none None = refl
    none (Some n) = refl

-- ---- the text of an id, by the number that it names

and_parts : (a b : Bool) → (a && b) ≡ true → (a ≡ true) × (b ≡ true)
and_parts true b e = (refl, e)
and_parts false b e = absurd (true≢false (sym e))

is_text : (kind : Kind) (id : List ℕ) (m : ℕ) → is_id_text kind id m ≡ true → id_number kind id ≡ Some m
is_text kind id m e =
    let one = and_parts (nat_le 1 m && nat_lt m NUMBER_LIMIT) (bytes_eq (id_text (record { kind = kind; number = m })) id) e in
    let two = and_parts (nat_le 1 m) (nat_lt m NUMBER_LIMIT) one.0 in
    let from : 1 ≤ m = let test = two.0 in grind (arith, nat_tests) in
    let below : m < NUMBER_LIMIT = let test = two.1 in grind (arith, nat_tests) in
    id_reads kind id (record { kind = kind; number = m }) (record { from_one = from; below = below })
    (sym ((bytes_eq-Decides (id_text (record { kind = kind; number = m })) id).0 one.1)) refl

all_true : (a b c : Bool) → a ≡ true → b ≡ true → c ≡ true → (a && b && c) ≡ true
all_true a b c p q r = rw (p, q) r

has_text : (kind : Kind) (id : List ℕ) (m : ℕ) → id_number kind id ≡ Some m → is_id_text kind id m ≡ true
has_text kind id m e =
    let back = id_back kind id m e in
    let from = back.0.from_one in
    let below = back.0.below in
    let one : nat_le 1 m ≡ true = grind (arith, nat_tests) in
    let two : nat_lt m NUMBER_LIMIT ≡ true = grind (arith, nat_tests) in
    all_true (nat_le 1 m) (nat_lt m NUMBER_LIMIT) (bytes_eq (id_text (record { kind = kind; number = m })) id) one two
    ((bytes_eq-Decides (id_text (record { kind = kind; number = m })) id).1 (sym back.1))

test_some : (kind : Kind) (id : List ℕ) (n m : ℕ) → id_number kind id ≡ Some n → is_id_text kind id m ≡ eqb m n
test_some kind id n m e =
    same_tests (is_id_text kind id m) (eqb m n)
    (λ t. (Decides-eqb m n).1 (same_Some m n (sym (is_text kind id m t) ∙ e)))
    (λ t. has_text kind id m (e ∙ ap Some (sym ((Decides-eqb m n).0 t))))

none_some : (n : ℕ) → None ≡ Some n → ⊥
none_some n e = cc

test_none : (kind : Kind) (id : List ℕ) (m : ℕ) → id_number kind id ≡ None → is_id_text kind id m ≡ false
test_none kind id m e =
    ⊎_elim
    (λ (t : is_id_text kind id m ≡ true). absurd (none_some m (sym e ∙ is_text kind id m t)))
    (λ (f : is_id_text kind id m ≡ false). f)
    (cases_Bool (is_id_text kind id m))

-- ---- the record that an id names, by its number

row_some : {A : Type 0} (kind : Kind) (id : List ℕ) (number : A → ℕ) (n : ℕ) → id_number kind id ≡ Some n → (rows : List A)
    → first_that (λ r. is_id_text kind id (number r)) rows ≡ lookup number n rows
row_some kind id number n e [] = refl
row_some kind id number n e (r ∷ rs) = rw (test_some kind id n (number r) e) (ap (cond (eqb (number r) n) (Some r)) (row_some kind id number n e rs))

row_none : {A : Type 0} (kind : Kind) (id : List ℕ) (number : A → ℕ) → id_number kind id ≡ None → (rows : List A)
    → first_that (λ r. is_id_text kind id (number r)) rows ≡ None
row_none kind id number e [] = refl
row_none kind id number e (r ∷ rs) = rw (test_none kind id (number r) e) (row_none kind id number e rs)

row_at : {A : Type 0} (kind : Kind) (id : List ℕ) (number : A → ℕ) (rows : List A) (o : Option ℕ) → id_number kind id ≡ o
    → first_that (λ r. is_id_text kind id (number r)) rows ≡ option_and_then (λ n. lookup number n rows) o
row_at kind id number rows None e = row_none kind id number e rows
row_at kind id number rows (Some n) e = row_some kind id number n e rows

-- the object of the record of a number
abbrev pub view_number : Kind → Content → List (List ℕ) → Bool → ℕ → Option Tree
view_number OfMailbox c blobs read_only n = option_map (mailbox_view read_only None) (mailbox_at c n)
view_number OfEmail c blobs read_only n = option_map (email_view blobs cached_wanted) (email_at c n)
view_number OfThread c blobs read_only n = option_map (thread_view None) (thread_at c n)

mapped : {A B C : Type 0} (f : B → C) (g : A → Option B) (o : Option A) → option_map f (option_and_then g o) ≡ option_and_then (λ a. option_map f (g a)) o
mapped f g None = refl
mapped f g (Some a) = refl

pub view_is : (kind : Kind) (c : Content) (blobs : List (List ℕ)) (read_only : Bool) (id : List ℕ)
    → view_named kind c blobs read_only id ≡ option_and_then (view_number kind c blobs read_only) (id_number kind id)
view_is OfMailbox c blobs read_only id =
    ap (option_map (mailbox_view read_only None)) (row_at OfMailbox id mailbox_number c.mailboxes _ refl) ∙ mapped (mailbox_view read_only None) (mailbox_at c) (id_number OfMailbox id)
view_is OfEmail c blobs read_only id =
    ap (option_map (email_view blobs cached_wanted)) (row_at OfEmail id email_number c.emails _ refl) ∙ mapped (email_view blobs cached_wanted) (email_at c) (id_number OfEmail id)
view_is OfThread c blobs read_only id =
    ap (option_map (thread_view None)) (row_at OfThread id thread_number c.threads _ refl) ∙ mapped (thread_view None) (thread_at c) (id_number OfThread id)

absent : {A B : Type 0} (f : A → B) (o : Option A) → is_some o ≡ false → option_map f o ≡ None
absent f None e = refl
absent f (Some a) e = absurd (true≢false e)

pub view_absent : (kind : Kind) (c : Content) (blobs : List (List ℕ)) (read_only : Bool) (n : ℕ) → is_present c kind n ≡ false → view_number kind c blobs read_only n ≡ None
view_absent OfMailbox c blobs read_only n e = absent (mailbox_view read_only None) (mailbox_at c n) e
view_absent OfEmail c blobs read_only n e = absent (email_view blobs cached_wanted) (email_at c n) e
view_absent OfThread c blobs read_only n e = absent (thread_view None) (thread_at c n) e
