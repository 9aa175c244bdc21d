-- What the orders of a content find: the mailboxes with a parent and a name, and those with a role.
use Rattle.std.proofs.Common.{◌≡◌, ℕ, pos, ◌<◌, Bool, true, false, ◌&&◌, ◌||◌, cond, eqb, List, [], ◌∷◌, Option, Some, None, refl, sym, ap, ap₂, ◌∙◌, subst, arith, ⊎_elim, bytes_eq, ne_eqb, eq-eqb}
use Rattle.std.specs.List.{AllByRecursion, list_any}
use Rattle.std.specs.Ordering.{is_eq, nat_cmp}
use Rattle.std.specs.Option.{option_cmp}
use Rattle.std.specs.Cmp.{tied_itself, nat_cmp_total}
use Rattle.std.specs.Cmp.Lexicographic.{slice_cmp, options_total, nat_list_cmp_total}
use Rattle.std.proofs.lemmas.Bool.{cases_Bool, true≢false, or_cases, eqb-true}
use Rattle.std.proofs.lemmas.Slice.Eq.{bytes_eq-Decides}
use Rattle.mail_records.specs.Tables.{IsTable, lookup}
use Rattle.mail_records.specs.Contents.{Content, mailbox_number}
use Rattle.mail_records.specs.Orders.{AreChildrenNamed, AreKeys, AreWithRole, Key, has_in, has_key, has_text, is_in_group, key_cmp, key_of_role, keys_of, name_key, name_keys, named_key, named_owner, role_keys, roled_key, roled_owner}
use Rattle.mail_records.specs.Laws.{named_number, roled_number}
use Rattle.mail_records.specs.declared.records.Mailbox.{Mailbox}
use Rattle.mail_records.specs.declared.entries.Named.{Named}
use Rattle.mail_records.specs.declared.entries.Roled.{Roled}
use Rattle.mail_records.proofs.KeyOrder.{key_total}
use Rattle.mail_records.proofs.KeyTables.{nat_equal, then_first, then_second}
use Rattle.mail_records.proofs.Unique.{key_equal}
use Rattle.mail_counts.specs.Tidy.{is_sibling, same_parent, same_role}

-- ---- booleans

either : (a b : Bool) → (a ≡ true → b ≡ true) → (b ≡ true → a ≡ true) → a ≡ b
either true b f g = sym (f refl)
either false true f g = absurd (true≢false (sym (g refl)))
either false false f g = refl

and_left : (a b : Bool) → (a && b) ≡ true → a ≡ true
and_left true b e = refl
and_left false b e = e

and_right : (a b : Bool) → (a && b) ≡ true → b ≡ true
and_right true b e = e
and_right false b e = absurd (true≢false (sym e))

both : (a b : Bool) → a ≡ true → b ≡ true → (a && b) ≡ true
both a b e f = rw (e, f) refl

or_left : (a b : Bool) → a ≡ true → (a || b) ≡ true
or_left a b e = rw e refl

or_right : (a b : Bool) → b ≡ true → (a || b) ≡ true
or_right true b e = refl
or_right false b e = e

-- ---- groups and texts

text_equal : (a b : List ℕ) → is_eq (slice_cmp nat_cmp a b) ≡ true → a ≡ b
text_equal [] [] e = refl
text_equal [] (y ∷ ys) e = absurd (true≢false (sym e))
text_equal (x ∷ xs) [] e = absurd (true≢false (sym e))
text_equal (x ∷ xs) (y ∷ ys) e =
    ap₂ (λ z zs. z ∷ zs) (nat_equal x y (then_first (nat_cmp x y) (slice_cmp nat_cmp xs ys) e))
    (text_equal xs ys (then_second (nat_cmp x y) (slice_cmp nat_cmp xs ys) e))

group_equal : (a b : Option ℕ) → is_eq (option_cmp nat_cmp a b) ≡ true → a ≡ b
group_equal None None e = refl
group_equal None (Some y) e = absurd (true≢false (sym e))
group_equal (Some x) None e = absurd (true≢false (sym e))
group_equal (Some x) (Some y) e = ap Some (nat_equal x y e)

same_text : (s t : List ℕ) → s ≡ t → is_eq (slice_cmp nat_cmp s t) ≡ true
same_text s t e = subst (λ x. is_eq (slice_cmp nat_cmp s x) ≡ true) e (ap is_eq (tied_itself nat_list_cmp_total s))

same_group : (g h : Option ℕ) → g ≡ h → is_eq (option_cmp nat_cmp g h) ≡ true
same_group g h e = subst (λ x. is_eq (option_cmp nat_cmp g x) ≡ true) e (ap is_eq (tied_itself (options_total nat_cmp_total) g))

parents_same : (g h : Option ℕ) → same_parent g h ≡ true → g ≡ h
parents_same None None e = refl
parents_same None (Some y) e = absurd (true≢false (sym e))
parents_same (Some x) None e = absurd (true≢false (sym e))
parents_same (Some x) (Some y) e = ap Some (eqb-true x y e)

parents_tested : (g h : Option ℕ) → g ≡ h → same_parent g h ≡ true
parents_tested None h e = subst (λ x. same_parent None x ≡ true) e refl
parents_tested (Some x) h e = subst (λ z. same_parent (Some x) z ≡ true) e (eq-eqb x x refl)

-- ---- keys

itself : (k : Key) → is_eq (key_cmp k k) ≡ true
itself k = ap is_eq (tied_itself key_total k)

-- some key passes: there is one
some_key : (pass : ℕ → Bool) (ks : List Key) → list_any (λ (k : Key). pass k.number) ks ≡ true → (k : Key) × (pass k.number ≡ true) × (has_key k ks ≡ true)
some_key pass [] e = absurd (true≢false (sym e))
some_key pass (x ∷ ks) e =
    ⊎_elim
    (λ (t : pass x.number ≡ true). (x, t, or_left (is_eq (key_cmp x x)) (has_key x ks) (itself x)))
    (λ (t : list_any (λ (k : Key). pass k.number) ks ≡ true).
    let rest = some_key pass ks t in (rest.0, rest.1, or_right (is_eq (key_cmp x rest.0)) (has_key rest.0 ks) rest.2))
    (or_cases (pass x.number) (list_any (λ (k : Key). pass k.number) ks) e)

key_passes : (pass : ℕ → Bool) (k : Key) (ks : List Key) → has_key k ks ≡ true → pass k.number ≡ true → list_any (λ (k : Key). pass k.number) ks ≡ true
key_passes pass k [] e p = absurd (true≢false (sym e))
key_passes pass k (x ∷ ks) e p =
    ⊎_elim
    (λ (t : is_eq (key_cmp x k) ≡ true).
    or_left (pass x.number) (list_any (λ (k : Key). pass k.number) ks) (ap (λ (y : Key). pass y.number) (key_equal x k t) ∙ p))
    (λ (t : has_key k ks ≡ true). or_right (pass x.number) (list_any (λ (k : Key). pass k.number) ks) (key_passes pass k ks t p))
    (or_cases (is_eq (key_cmp x k)) (has_key k ks) e)

-- ---- records

row_passes : (test : Mailbox → Bool) (n : ℕ) (rows : List Mailbox) (m : Mailbox) → lookup mailbox_number n rows ≡ Some m → test m ≡ true → list_any test rows ≡ true
row_passes test n [] m e t = absurd (cc)
row_passes test n (r ∷ rs) m e t =
    ⊎_elim
    (λ (same : eqb r.number n ≡ true).
    let is : Some r ≡ Some m = subst (λ b. cond b (Some r) (lookup mailbox_number n rs) ≡ Some m) same e in
    let one : r ≡ m = cc in
    or_left (test r) (list_any test rs) (ap test one ∙ t))
    (λ (other : eqb r.number n ≡ false).
    or_right (test r) (list_any test rs) (row_passes test n rs m (subst (λ b. cond b (Some r) (lookup mailbox_number n rs) ≡ Some m) other e) t))
    (cases_Bool (eqb r.number n))

above : (m n : ℕ) (rows : List Mailbox) (x : Mailbox) → AllByRecursion (λ (r : Mailbox). m < mailbox_number r) rows → lookup mailbox_number n rows ≡ Some x → m < x.number
above m n [] x all e = absurd (cc)
above m n (r ∷ rs) x all e =
    ⊎_elim
    (λ (same : eqb r.number n ≡ true).
    let is : Some r ≡ Some x = subst (λ b. cond b (Some r) (lookup mailbox_number n rs) ≡ Some x) same e in
    let one : r ≡ x = cc in
    subst (λ (z : Mailbox). m < z.number) one all.0)
    (λ (other : eqb r.number n ≡ false). above m n rs x all.1 (subst (λ b. cond b (Some r) (lookup mailbox_number n rs) ≡ Some x) other e))
    (cases_Bool (eqb r.number n))

-- some record passes: there is one, which is found by its number
some_row : (test : Mailbox → Bool) (rows : List Mailbox) → IsTable mailbox_number rows → list_any test rows ≡ true → (m : Mailbox) × (test m ≡ true) × (lookup mailbox_number m.number rows ≡ Some m)
some_row test [] table e = absurd (true≢false (sym e))
some_row test (r ∷ rs) table e =
    ⊎_elim
    (λ (t : test r ≡ true). (r, t, ap (λ b. cond b (Some r) (lookup mailbox_number r.number rs)) (eq-eqb r.number r.number refl)))
    (λ (t : list_any test rs ≡ true).
    let rest = some_row test rs table.1 t in
    let m = rest.0 in
    let less : r.number < m.number = above r.number m.number rs m table.0 rest.2 in
    let other : eqb r.number m.number ≡ false = ne_eqb r.number m.number (λ (same : r.number ≡ m.number). omega (arith, same, less)) in
    (m, rest.1, ap (λ b. cond b (Some r) (lookup mailbox_number m.number rs)) other ∙ rest.2))
    (or_cases (test r) (list_any test rs) e)

-- ---- exact keys find the records that pass

found_in : (keys : Mailbox → List Key) (k : Key) (o : Option Mailbox) → has_in keys k o ≡ true → (m : Mailbox) × (o ≡ Some m) × (has_key k (keys m) ≡ true)
found_in keys k None e = absurd (true≢false (sym e))
found_in keys k (Some m) e = (m, refl, e)

looked_up : (pass : ℕ → Bool) (test : Key → Bool) (keys : Mailbox → List Key) (passes : Mailbox → Bool) (rows : List Mailbox) (ks : List Key)
    → AreKeys test mailbox_number keys rows ks → IsTable mailbox_number rows
    → ((m : Mailbox) (k : Key) → has_key k (keys m) ≡ true → k.number ≡ m.number)
    → ((m : Mailbox) (k : Key) → test k ≡ true → has_key k (keys m) ≡ true → passes m ≡ true)
    → ((m : Mailbox) → passes m ≡ true → (k : Key) × (test k ≡ true) × (has_key k (keys m) ≡ true))
    → list_any (λ (k : Key). pass k.number) ks ≡ list_any (λ (m : Mailbox). pass m.number && passes m) rows
looked_up pass test keys passes rows ks exact table number to from = either _ _ there back
  where
    there : list_any (λ (k : Key). pass k.number) ks ≡ true → list_any (λ (m : Mailbox). pass m.number && passes m) rows ≡ true
    there e =
        let one = some_key pass ks e in
        let k : Key = one.0 in
        let held : (test k && has_in keys k (lookup mailbox_number k.number rows)) ≡ true = sym (exact.exactly k) ∙ one.2 in
        let found = found_in keys k (lookup mailbox_number k.number rows) (and_right (test k) (has_in keys k (lookup mailbox_number k.number rows)) held) in
        let m : Mailbox = found.0 in
        let same : k.number ≡ m.number = number m k found.2 in
        row_passes (λ (m : Mailbox). pass m.number && passes m) k.number rows m found.1
        (both (pass m.number) (passes m) (ap pass (sym same) ∙ one.1) (to m k (and_left (test k) (has_in keys k (lookup mailbox_number k.number rows)) held) found.2))

    back : list_any (λ (m : Mailbox). pass m.number && passes m) rows ≡ true → list_any (λ (k : Key). pass k.number) ks ≡ true
    back e =
        let one = some_row (λ (m : Mailbox). pass m.number && passes m) rows table e in
        let m : Mailbox = one.0 in
        let key = from m (and_right (pass m.number) (passes m) one.1) in
        let k : Key = key.0 in
        let same : k.number ≡ m.number = number m k key.2 in
        let held : has_in keys k (lookup mailbox_number k.number rows) ≡ true = ap (has_in keys k) (ap (λ n. lookup mailbox_number n rows) same ∙ one.2) ∙ key.2 in
        key_passes pass k ks (exact.exactly k ∙ both (test k) (has_in keys k (lookup mailbox_number k.number rows)) key.1 held)
        (ap pass same ∙ and_left (pass m.number) (passes m) one.1)

-- ---- by parent and name

one_key : (x k : Key) → has_key k (x ∷ []) ≡ true → x ≡ k
one_key x k e =
    ⊎_elim
    (λ (t : is_eq (key_cmp x k) ≡ true). key_equal x k t)
    (λ (t : has_key k [] ≡ true). absurd (true≢false (sym t)))
    (or_cases (is_eq (key_cmp x k)) (has_key k []) e)

named_to : (parent : Option ℕ) (name : List ℕ) (m : Mailbox) (k : Key) → (is_in_group parent k && has_text name k) ≡ true → has_key k (name_keys m) ≡ true → is_sibling parent name m ≡ true
named_to parent name m k t e =
    let one : name_key m ≡ k = one_key (name_key m) k e in
    let group : m.parent ≡ parent = ap (λ (x : Key). x.group) one ∙ group_equal k.group parent (and_left (is_in_group parent k) (has_text name k) t) in
    let text : m.name ≡ name = ap (λ (x : Key). x.text) one ∙ text_equal k.text name (and_right (is_in_group parent k) (has_text name k) t) in
    both (same_parent m.parent parent) (bytes_eq m.name name) (parents_tested m.parent parent group) ((bytes_eq-Decides m.name name).1 text)

named_from : (parent : Option ℕ) (name : List ℕ) (m : Mailbox) → is_sibling parent name m ≡ true → (k : Key) × ((is_in_group parent k && has_text name k) ≡ true) × (has_key k (name_keys m) ≡ true)
named_from parent name m e =
    let group : m.parent ≡ parent = parents_same m.parent parent (and_left (same_parent m.parent parent) (bytes_eq m.name name) e) in
    let text : m.name ≡ name = (bytes_eq-Decides m.name name).0 (and_right (same_parent m.parent parent) (bytes_eq m.name name) e) in (
      name_key m,
      both (is_in_group parent (name_key m)) (has_text name (name_key m)) (same_group m.parent parent group) (same_text m.name name text),
      or_left (is_eq (key_cmp (name_key m) (name_key m))) (has_key (name_key m) []) (itself (name_key m)),
    )

any_named : (pass : ℕ → Bool) (rows : List Mailbox) (ns : List Named) → list_any (λ (k : Key). pass k.number) (keys_of mailbox_number named_owner named_key rows ns) ≡ list_any (λ (n : Named). pass n.mailbox) ns
any_named pass rows [] = refl
any_named pass rows (n ∷ ns) =
    ap₂ (λ (a b : Bool). a || b) (ap pass (named_number (lookup mailbox_number n.mailbox rows) n)) (any_named pass rows ns)

-- some mailbox that the order of names finds passes
pub siblings_found : (pass : ℕ → Bool) (c : Content) (parent : Option ℕ) (name : List ℕ) (ns : List Named) → AreChildrenNamed c parent name ns → IsTable mailbox_number c.mailboxes
    → list_any (λ (n : Named). pass n.mailbox) ns ≡ list_any (λ (m : Mailbox). pass m.number && is_sibling parent name m) c.mailboxes
siblings_found pass c parent name ns exact table =
    sym (any_named pass c.mailboxes ns)
    ∙ looked_up pass (λ k. is_in_group parent k && has_text name k) name_keys (is_sibling parent name) c.mailboxes (keys_of mailbox_number named_owner named_key c.mailboxes ns) exact table
    (λ m k e. ap (λ (x : Key). x.number) (sym (one_key (name_key m) k e))) (named_to parent name) (named_from parent name)

-- ---- by role

-- the mailbox has this role
abbrev has_role : List ℕ → Mailbox → Bool
has_role role m = same_role m.role (Some role)

abbrev at_role : ℕ → List ℕ → Key
at_role n r = record { group = None; text = r; received = pos 0; number = n; place = 0 }

role_number : (n : ℕ) (role : Option (List ℕ)) (k : Key) → has_key k (key_of_role n role) ≡ true → k.number ≡ n
role_number n None k e = absurd (true≢false (sym e))
role_number n (Some r) k e = ap (λ (x : Key). x.number) (sym (one_key (at_role n r) k e))

role_to : (role : List ℕ) (n : ℕ) (given : Option (List ℕ)) (k : Key) → (is_in_group None k && has_text role k) ≡ true → has_key k (key_of_role n given) ≡ true → same_role given (Some role) ≡ true
role_to role n None k t e = absurd (true≢false (sym e))
role_to role n (Some r) k t e =
    let text : r ≡ role = ap (λ (x : Key). x.text) (one_key (at_role n r) k e) ∙ text_equal k.text role (and_right (is_in_group None k) (has_text role k) t) in
    (bytes_eq-Decides r role).1 text

role_from : (role : List ℕ) (n : ℕ) (given : Option (List ℕ)) → same_role given (Some role) ≡ true → (k : Key) × ((is_in_group None k && has_text role k) ≡ true) × (has_key k (key_of_role n given) ≡ true)
role_from role n None e = absurd (true≢false (sym e))
role_from role n (Some r) e = (
  at_role n r,
  both (is_in_group None (at_role n r)) (has_text role (at_role n r)) refl (same_text r role ((bytes_eq-Decides r role).0 e)),
  or_left (is_eq (key_cmp (at_role n r) (at_role n r))) (has_key (at_role n r) []) (itself (at_role n r)),
)

any_roled : (pass : ℕ → Bool) (rows : List Mailbox) (rs : List Roled) → list_any (λ (k : Key). pass k.number) (keys_of mailbox_number roled_owner roled_key rows rs) ≡ list_any (λ (r : Roled). pass r.mailbox) rs
any_roled pass rows [] = refl
any_roled pass rows (r ∷ rs) =
    ap₂ (λ (a b : Bool). a || b) (ap pass (roled_number (lookup mailbox_number r.mailbox rows) r)) (any_roled pass rows rs)

-- some mailbox that the order of roles finds passes
pub roles_found : (pass : ℕ → Bool) (c : Content) (role : List ℕ) (rs : List Roled) → AreWithRole c role rs → IsTable mailbox_number c.mailboxes
    → list_any (λ (r : Roled). pass r.mailbox) rs ≡ list_any (λ (m : Mailbox). pass m.number && has_role role m) c.mailboxes
roles_found pass c role rs exact table =
    sym (any_roled pass c.mailboxes rs)
    ∙ looked_up pass (λ k. is_in_group None k && has_text role k) role_keys (has_role role) c.mailboxes (keys_of mailbox_number roled_owner roled_key c.mailboxes rs) exact table
    (λ m. role_number m.number m.role) (λ m. role_to role m.number m.role) (λ m. role_from role m.number m.role)
