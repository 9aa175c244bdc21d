-- Chains of parents: one that ends does so within as many steps as there are mailboxes.
use Rattle.std.proofs.Common.{◌≡◌, ℕ, zero, suc, ◌<◌, ◌≤◌, Bool, true, false, cond, eqb, List, [], ◌∷◌, length, Option, Some, None, is_some, refl, sym, ap, ◌∙◌, subst, arith, ⊎_elim, ne_eqb, ◌⊎◌, inl, inr}
use Rattle.std.specs.Prelude.{option_and_then, ⊤}
use Rattle.std.specs.List.{AllByRecursion}
use Rattle.std.specs.Option.{ForSome}
use Rattle.std.proofs.lemmas.Bool.{cases_Bool, eqb-true, false≢true}
use Rattle.std.proofs.lemmas.Option.{none-some}
use Rattle.mail_records.specs.Contents.{Content, mailbox_at, mailbox_number}
use Rattle.mail_records.specs.Tables.{IsTable, lookup, without}
use Rattle.mail_records.specs.declared.records.Mailbox.{Mailbox}
use Rattle.mail_records.proofs.Growth.{found}
use Rattle.mail_records.proofs.Tables.{IsTable-without, lookup-without_other, lookup-without_same}
use Rattle.mail_counts.specs.Tidy.{HasRoot, IsThere, ancestor, parent_of}

-- the parent of a mailbox among these
abbrev pub parent_in : List Mailbox → ℕ → Option ℕ
parent_in rows n = option_and_then (λ (m : Mailbox). m.parent) (lookup mailbox_number n rows)

-- the chain of parents from a mailbox, or from none, ends within so many steps, and all mailboxes on
-- it are there
abbrev pub Ends : ℕ → List Mailbox → Option ℕ → Type 0
Ends k rows None = ⊤
Ends zero rows (Some n) = ⊥
Ends (suc k) rows (Some n) = (is_some (lookup mailbox_number n rows) ≡ true) × Ends k rows (parent_in rows n)

-- ---- chains by `ancestor`

pub ended_none : (k : ℕ) (c : Content) → ancestor k c None ≡ None
ended_none zero c = refl
ended_none (suc k) c = refl

pub ended_from : (k : ℕ) (c : Content) (o : Option ℕ) → Ends k c.mailboxes o → ancestor k c o ≡ None
ended_from k c None e = ended_none k c
ended_from zero c (Some n) e = absurd e
ended_from (suc k) c (Some n) e = ended_from k c (parent_of c n) e.1

abbrev pub ParentsThere : Content → Type 0
ParentsThere c = AllByRecursion (λ (x : Mailbox). ForSome x.parent (IsThere c)) c.mailboxes

pub parent_there : (c : Content) (n : ℕ) → ParentsThere c → ForSome (parent_of c n) (IsThere c)
parent_there c n parents = by_mailbox (mailbox_at c n) refl
  where
    by_mailbox : (o : Option Mailbox) → mailbox_at c n ≡ o → ForSome (option_and_then (λ (x : Mailbox). x.parent) o) (IsThere c)
    by_mailbox None at = λ p e. absurd (none-some p e)
    by_mailbox (Some x) at = (found (λ (y : Mailbox). ForSome y.parent (IsThere c)) mailbox_number n x c.mailboxes parents at).0

pub ends_from : (k : ℕ) (c : Content) (o : Option ℕ) → ParentsThere c → ForSome o (IsThere c) → ancestor k c o ≡ None → Ends k c.mailboxes o
ends_from k c None parents there e = tt
ends_from zero c (Some n) parents there e = absurd (none-some n (sym e))
ends_from (suc k) c (Some n) parents there e = (there n refl, ends_from k c (parent_of c n) parents (parent_there c n parents) e)

-- ---- longer

pub ends_more : (j k : ℕ) (rows : List Mailbox) (o : Option ℕ) → Ends j rows o → j ≤ k → Ends k rows o
ends_more j k rows None e le = tt
ends_more zero k rows (Some n) e le = absurd e
ends_more (suc j) zero rows (Some n) e le = absurd (omega (arith, le))
ends_more (suc j) (suc k) rows (Some n) e le = (e.0, ends_more j k rows (parent_in rows n) e.1 (omega (arith, le)))

-- ---- without one mailbox

there_without : (rows : List Mailbox) (n q : ℕ) → eqb n q ≡ false → is_some (lookup mailbox_number q rows) ≡ true → is_some (lookup mailbox_number q (without mailbox_number n rows)) ≡ true
there_without rows n q other there = ap is_some (lookup-without_other mailbox_number n q other rows) ∙ there

parent_without : (rows : List Mailbox) (n q : ℕ) → eqb n q ≡ false → parent_in (without mailbox_number n rows) q ≡ parent_in rows q
parent_without rows n q other = ap (option_and_then (λ (m : Mailbox). m.parent)) (lookup-without_other mailbox_number n q other rows)

-- a chain comes to the mailbox, or ends without it
abbrev Comes : ℕ → List Mailbox → ℕ → Type 0
Comes k rows n = (i : ℕ) × (i ≤ k) × Ends i rows (Some n)

split : (k : ℕ) (rows : List Mailbox) (n : ℕ) (o : Option ℕ) → Ends k rows o → Ends k (without mailbox_number n rows) o ⊎ Comes k rows n
split k rows n None e = inl tt
split zero rows n (Some q) e = absurd e
split (suc k) rows n (Some q) e =
    ⊎_elim
    (λ (same : eqb n q ≡ true). inr (suc k, omega arith, subst (λ (x : ℕ). Ends (suc k) rows (Some x)) (sym (eqb-true n q same)) e))
    (λ (other : eqb n q ≡ false).
    ⊎_elim
    (λ (rest : Ends k (without mailbox_number n rows) (parent_in rows q)).
    inl (there_without rows n q other e.0, subst (λ (p : Option ℕ). Ends k (without mailbox_number n rows) p) (sym (parent_without rows n q other)) rest))
    (λ (comes : Comes k rows n). inr (comes.0, let le = comes.1 in omega (arith, le), comes.2))
    (split k rows n (parent_in rows q) e.1))
    (cases_Bool (eqb n q))

-- what is there without a mailbox is another one
other_there : (rows : List Mailbox) (n q : ℕ) → is_some (lookup mailbox_number q (without mailbox_number n rows)) ≡ true → eqb n q ≡ false
other_there rows n q there =
    ⊎_elim
    (λ (same : eqb n q ≡ true).
    absurd (false≢true (sym (ap is_some (ap (λ (x : ℕ). lookup mailbox_number x (without mailbox_number n rows)) (sym (eqb-true n q same)) ∙ lookup-without_same mailbox_number n rows)) ∙ there)))
    (λ (other : eqb n q ≡ false). other)
    (cases_Bool (eqb n q))

with_it : (k : ℕ) (rows : List Mailbox) (n : ℕ) (o : Option ℕ) → Ends k (without mailbox_number n rows) o → Ends k rows o
with_it k rows n None e = tt
with_it zero rows n (Some q) e = absurd e
with_it (suc k) rows n (Some q) e =
    let other = other_there rows n q e.0 in (
      sym (ap is_some (lookup-without_other mailbox_number n q other rows)) ∙ e.0,
      subst (Ends k rows) (parent_without rows n q other) (with_it k rows n (parent_in (without mailbox_number n rows) q) e.1),
    )

-- ---- how many are left

all_kept : (n : ℕ) (rows : List Mailbox) → AllByRecursion (λ (x : Mailbox). n < x.number) rows → without mailbox_number n rows ≡ rows
all_kept n [] all = refl
all_kept n (x ∷ rows) all =
    let lt : n < x.number = all.0 in
    let other : eqb x.number n ≡ false = ne_eqb x.number n (λ (e : x.number ≡ n). omega (arith, e, lt)) in
    rw other (ap (λ (ys : List Mailbox). x ∷ ys) (all_kept n rows all.1))

-- a table has one record of a number
pub length_without : (n : ℕ) (rows : List Mailbox) → IsTable mailbox_number rows → is_some (lookup mailbox_number n rows) ≡ true → suc (length (without mailbox_number n rows)) ≡ length rows
length_without n [] table there = absurd (false≢true there)
length_without n (x ∷ rows) table there =
    ⊎_elim
    (λ (same : eqb x.number n ≡ true).
    rw same (ap (λ (ys : List Mailbox). suc (length ys)) (all_kept n rows (subst (λ (k : ℕ). AllByRecursion (λ (y : Mailbox). k < y.number) rows) (eqb-true x.number n same) table.0))))
    (λ (other : eqb x.number n ≡ false).
    rw other (ap suc (length_without n rows table.1 (subst (λ (b : Bool). is_some (cond b (Some x) (lookup mailbox_number n rows)) ≡ true) other there))))
    (cases_Bool (eqb x.number n))

pub table_without : (n : ℕ) (rows : List Mailbox) → IsTable mailbox_number rows → IsTable mailbox_number (without mailbox_number n rows)
table_without n rows table = IsTable-without mailbox_number n rows table

-- ---- a chain that ends is no longer than the table

-- by the number of steps: the chain from the parent ends without the mailbox, among fewer; or it
-- comes to the mailbox again, whose chain then ends in fewer steps
within : (b k : ℕ) (rows : List Mailbox) (o : Option ℕ) → k ≤ b → IsTable mailbox_number rows → Ends k rows o → Ends (length rows) rows o
within b k rows None le table e = tt
within b zero rows (Some n) le table e = absurd e
within zero (suc k) rows (Some n) le table e = absurd (omega (arith, le))
within (suc b) (suc k) rows (Some n) le table e =
    ⊎_elim
    (λ (rest : Ends k (without mailbox_number n rows) (parent_in rows n)).
    let less : Ends (length (without mailbox_number n rows)) (without mailbox_number n rows) (parent_in rows n) =
    within b k (without mailbox_number n rows) (parent_in rows n) (omega (arith, le)) (table_without n rows table) rest in
    let more : Ends (length (without mailbox_number n rows)) rows (parent_in rows n) = with_it (length (without mailbox_number n rows)) rows n (parent_in rows n) less in
    let all : Ends (suc (length (without mailbox_number n rows))) rows (Some n) = (e.0, more) in
    subst (λ (j : ℕ). Ends j rows (Some n)) (length_without n rows table e.0) all)
    (λ (comes : Comes k rows n). within b comes.0 rows (Some n) (let few = comes.1 in omega (arith, few, le)) table comes.2)
    (split k rows n (parent_in rows n) e.1)

pub ends_within : (k : ℕ) (rows : List Mailbox) (o : Option ℕ) → IsTable mailbox_number rows → Ends k rows o → Ends (length rows) rows o
ends_within k rows o table e = within k k rows o (omega arith) table e

-- a chain that ends has a root
pub root_from : (k : ℕ) (c : Content) (o : Option ℕ) → IsTable mailbox_number c.mailboxes → Ends k c.mailboxes o → HasRoot c o
root_from k c o table e = ended_from (length c.mailboxes) c o (ends_within k c.mailboxes o table e)
