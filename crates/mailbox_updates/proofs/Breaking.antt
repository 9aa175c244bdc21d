-- Which rules a mailbox breaks in a content where it is put.
use Rattle.std.proofs.Common.{◌≡◌, ℕ, zero, suc, ◌<◌, Bool, true, false, ◌&&◌, ◌||◌, ◌==◌, cond, eqb, ltb, List, [], ◌∷◌, ◌++◌, length, not, Option, Some, None, is_some, option_and_then, option_map, refl, sym, ap, ap₂, ◌∙◌, arith, ⊎_elim, eq-eqb, ne_eqb}
use Rattle.std.specs.Prelude.{codes}
use Rattle.std.specs.List.{AllByRecursion, list_any}
use Rattle.std.proofs.lemmas.Bool.{cases_Bool, eqb-true, ltb-true, true≢false}
use Rattle.mail_records.specs.Contents.{Content, mailbox_at, mailbox_number}
use Rattle.mail_records.specs.Edits.{after_edit}
use Rattle.mail_records.specs.Tables.{IsTable, lookup, put}
use Rattle.mail_records.specs.declared.edits.Edit.TheVariants.{PutMailbox}
use Rattle.mail_records.specs.declared.records.Mailbox.{Mailbox}
use Rattle.mail_records.proofs.Growth.{all_map, found}
use Rattle.mail_records.proofs.Tables.{IsTable-put, lookup-put_other, lookup-put_same}
use Rattle.mail_counts.specs.Tidy.{ancestor, is_sibling, parent_of, same_role}
use Rattle.mailbox_updates.specs.Updates.{is_another, is_chain_broken, is_name_shared, is_role_shared, name_if}
use Rattle.mailbox_updates.proofs.Present.{either, lookup_below, row_passes, some_row}

-- ---- how many mailboxes there are

above_all : (n : ℕ) (x : Mailbox) (rows : List Mailbox) → n < x.number → AllByRecursion (λ (y : Mailbox). x.number < y.number) rows → AllByRecursion (λ (y : Mailbox). n < y.number) (x ∷ rows)
above_all n x rows less all = (less, all_map (λ (y : Mailbox). x.number < y.number) (λ (y : Mailbox). n < y.number) rows (λ (y : Mailbox) (more : x.number < y.number). omega (arith, less, more)) all)

in_rest : (n : ℕ) (x : Mailbox) (rows : List Mailbox) → eqb n x.number ≡ false → lookup mailbox_number n (x ∷ rows) ≡ lookup mailbox_number n rows
in_rest n x rows other =
    let differ : eqb x.number n ≡ false = ne_eqb x.number n (λ (e : x.number ≡ n). true≢false (sym (eq-eqb n x.number (sym e)) ∙ other)) in
    ap (λ (b : Bool). cond b (Some x) (lookup mailbox_number n rows)) differ

-- a mailbox that replaces one leaves as many as there were
pub length_old : (m : Mailbox) (rows : List Mailbox) → IsTable mailbox_number rows → is_some (lookup mailbox_number m.number rows) ≡ true → length (put mailbox_number m rows) ≡ length rows
length_old m [] table there = absurd (true≢false (sym there))
length_old m (x ∷ rows) table there =
    ⊎_elim
    (λ (lt : ltb m.number x.number ≡ true).
    let less = ltb-true m.number x.number lt in
    absurd (true≢false (sym there ∙ ap is_some (lookup_below m.number (x ∷ rows) (above_all m.number x rows less table.0)))))
    (λ (ge : ltb m.number x.number ≡ false).
    ⊎_elim
    (λ (same : eqb m.number x.number ≡ true). rw (ge, same) refl)
    (λ (other : eqb m.number x.number ≡ false). rw (ge, other) (ap suc (length_old m rows table.1 (sym (ap is_some (in_rest m.number x rows other)) ∙ there))))
    (cases_Bool (eqb m.number x.number)))
    (cases_Bool (ltb m.number x.number))

-- a new one makes one more
pub length_new : (m : Mailbox) (rows : List Mailbox) → is_some (lookup mailbox_number m.number rows) ≡ false → length (put mailbox_number m rows) ≡ suc (length rows)
length_new m [] none = refl
length_new m (x ∷ rows) none =
    ⊎_elim
    (λ (lt : ltb m.number x.number ≡ true). rw lt refl)
    (λ (ge : ltb m.number x.number ≡ false).
    ⊎_elim
    (λ (same : eqb m.number x.number ≡ true).
    let is : eqb x.number m.number ≡ true = eq-eqb x.number m.number (sym (eqb-true m.number x.number same)) in
    absurd (true≢false (sym (ap (λ (b : Bool). is_some (cond b (Some x) (lookup mailbox_number m.number rows))) is) ∙ none)))
    (λ (other : eqb m.number x.number ≡ false). rw (ge, other) (ap suc (length_new m rows (sym (ap is_some (in_rest m.number x rows other)) ∙ none))))
    (cases_Bool (eqb m.number x.number)))
    (cases_Bool (ltb m.number x.number))

-- ---- some other mailbox

-- if no mailbox of a number passes a test, some mailbox passes after a put of that number if and
-- only if some did before
pub any_put : (test : Mailbox → Bool) (m : Mailbox) (rows : List Mailbox) → IsTable mailbox_number rows → ((x : Mailbox) → x.number ≡ m.number → test x ≡ false)
    → list_any test (put mailbox_number m rows) ≡ list_any test rows
any_put test m rows table none =
    either (list_any test (put mailbox_number m rows)) (list_any test rows)
    (λ (e : list_any test (put mailbox_number m rows) ≡ true).
    let one = some_row mailbox_number test (put mailbox_number m rows) (IsTable-put mailbox_number m rows table) e in
    let other = differs one.0 one.1 in
    row_passes mailbox_number test one.0.number rows one.0 (sym (lookup-put_other mailbox_number m one.0.number other rows) ∙ one.2) one.1)
    (λ (e : list_any test rows ≡ true).
    let one = some_row mailbox_number test rows table e in
    let other = differs one.0 one.1 in
    row_passes mailbox_number test one.0.number (put mailbox_number m rows) one.0 (lookup-put_other mailbox_number m one.0.number other rows ∙ one.2) one.1)
  where
    differs : (x : Mailbox) → test x ≡ true → eqb m.number x.number ≡ false
    differs x t = ne_eqb m.number x.number (λ (e : m.number ≡ x.number). true≢false (sym t ∙ none x (sym e)))

not_another : (m x : Mailbox) (b : Bool) → x.number ≡ m.number → (is_another m x && b) ≡ false
not_another m x b e = ap (λ (same : Bool). not same && b) (eq-eqb x.number m.number e)

pub shared_after : (c : Content) (m : Mailbox) → IsTable mailbox_number c.mailboxes → is_name_shared (after_edit c (PutMailbox m true false)) m ≡ is_name_shared c m
shared_after c m table =
    any_put (λ (n : Mailbox). is_another m n && is_sibling m.parent m.name n) m c.mailboxes table (λ x e. not_another m x (is_sibling m.parent m.name x) e)

pub role_after : (c : Content) (m : Mailbox) → IsTable mailbox_number c.mailboxes → is_role_shared (after_edit c (PutMailbox m true false)) m ≡ is_role_shared c m
role_after c m table =
    any_put (λ (n : Mailbox). is_another m n && same_role n.role m.role) m c.mailboxes table (λ x e. not_another m x (same_role x.role m.role) e)

-- none has the role of a mailbox that has none
pub no_role : (number : Mailbox → Bool) (rows : List Mailbox) → list_any (λ (n : Mailbox). number n && same_role n.role None) rows ≡ false
no_role number [] = refl
no_role number (x ∷ rows) = ap₂ (λ (a b : Bool). a || b) (no_role_at (number x) x.role) (no_role number rows)
  where
    no_role_at : (b : Bool) (r : Option (List ℕ)) → (b && same_role r None) ≡ false
    no_role_at true None = refl
    no_role_at true (Some r) = refl
    no_role_at false r = refl

pub some_map : {A B : Type 0} (f : A → B) (o : Option A) → is_some (option_map f o) ≡ is_some o
some_map f None = refl
some_map f (Some x) = refl

-- ---- tests that agree

pub any_same : {A : Type 0} (f g : A → Bool) (xs : List A) → ((x : A) → f x ≡ g x) → list_any f xs ≡ list_any g xs
any_same f g [] same = refl
any_same f g (x ∷ xs) same = ap₂ (λ (a b : Bool). a || b) (same x) (any_same f g xs same)

pub and_assoc : (a b d : Bool) → ((a && b) && d) ≡ (a && (b && d))
and_assoc true b d = refl
and_assoc false b d = refl

-- ---- chains of parents

pub parent_same : (c : Content) (m : Mailbox) (n : ℕ) → m.number ≡ n → m.parent ≡ parent_of (after_edit c (PutMailbox m true false)) n
parent_same c m n is = sym (ap (option_and_then (λ (x : Mailbox). x.parent)) (lookup-put_same mailbox_number m n is c.mailboxes))

pub parent_other : (c : Content) (m : Mailbox) (n : ℕ) → eqb m.number n ≡ false → parent_of c n ≡ parent_of (after_edit c (PutMailbox m true false)) n
parent_other c m n other = sym (ap (option_and_then (λ (x : Mailbox). x.parent)) (lookup-put_other mailbox_number m n other c.mailboxes))

pub ancestor_same : (k : ℕ) (c d : Content) (o : Option ℕ) → ((n : ℕ) → parent_of c n ≡ parent_of d n) → ancestor k c o ≡ ancestor k d o
ancestor_same zero c d o same = refl
ancestor_same (suc k) c d None same = refl
ancestor_same (suc k) c d (Some n) same = ap (ancestor k c) (same n) ∙ ancestor_same k c d (parent_of d n) same

all_itself : (rows : List Mailbox) → AllByRecursion (λ (y : Mailbox). y ≡ y) rows
all_itself [] = tt
all_itself (y ∷ rows) = (refl, all_itself rows)

pub number_at : (c : Content) (m : Mailbox) (n : ℕ) → mailbox_at c n ≡ Some m → m.number ≡ n
number_at c m n at = (found (λ (y : Mailbox). y ≡ y) mailbox_number n m c.mailboxes (all_itself c.mailboxes) at).1

-- a mailbox that is there may be put once more
pub chain_there : (c : Content) (m : Mailbox) (n : ℕ) → IsTable mailbox_number c.mailboxes → mailbox_at c n ≡ Some m → is_chain_broken (after_edit c (PutMailbox m true false)) m ≡ is_chain_broken c m
chain_there c m n table at =
    let d = after_edit c (PutMailbox m true false) in
    let is : m.number ≡ n = number_at c m n at in
    let there : is_some (lookup mailbox_number m.number c.mailboxes) ≡ true = ap (λ (k : ℕ). is_some (lookup mailbox_number k c.mailboxes)) is ∙ ap is_some at in
    ap (λ (k : ℕ). is_some (ancestor k d m.parent)) (length_old m c.mailboxes table there)
    ∙ ap is_some (ancestor_same (length c.mailboxes) d c m.parent (same is))
  where
    same : m.number ≡ n → (k : ℕ) → parent_of (after_edit c (PutMailbox m true false)) k ≡ parent_of c k
    same is k =
        ⊎_elim
        (λ (here : eqb m.number k ≡ true).
        let equal : m.number ≡ k = eqb-true m.number k here in
        sym (parent_same c m k equal) ∙ sym (ap (option_and_then (λ (x : Mailbox). x.parent)) (ap (λ (j : ℕ). lookup mailbox_number j c.mailboxes) (sym equal ∙ is) ∙ at)))
        (λ (other : eqb m.number k ≡ false). sym (parent_other c m k other))
        (cases_Bool (eqb m.number k))

-- ---- the names of broken rules

pub none_broken : (a b d : Bool) → (length ((name_if a (codes "name") ++ name_if b (codes "parentId")) ++ name_if d (codes "role")) == 0) ≡ ((not a && not b) && not d)
none_broken true true true = refl
none_broken true true false = refl
none_broken true false true = refl
none_broken true false false = refl
none_broken false true true = refl
none_broken false true false = refl
none_broken false false true = refl
none_broken false false false = refl
