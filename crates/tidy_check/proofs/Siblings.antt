-- No two records of a table share something if and only if none shares it with a record of another
-- number.
use Rattle.std.proofs.Common.{◌≡◌, ℕ, ◌<◌, Bool, true, false, ◌&&◌, ◌||◌, not, ◌==◌, eqb, List, [], ◌∷◌, Option, Some, None, refl, sym, ap, ap₂, ◌∙◌, arith, Decides, bytes_eq, ne_eqb, eq-eqb}
use Rattle.std.specs.List.{AllByRecursion, IsDistinct, list_any}
use Rattle.std.proofs.lemmas.Bool.{true≢false}
use Rattle.std.proofs.lemmas.Bool.Decides.{Decides-eqb, same_from_decides}
use Rattle.std.proofs.lemmas.Slice.Eq.{bytes_eq-Decides}
use Rattle.mail_records.specs.Contents.{Content}
use Rattle.mail_records.specs.Tables.{IsTable}
use Rattle.mail_records.specs.declared.records.Mailbox.{Mailbox}
use Rattle.mail_records.proofs.Rising.{all_map}
use Rattle.mail_counts.specs.Tidy.{same_parent, same_role, share_name, share_role}
use Rattle.tidy_check.specs.Checks.{is_role_shared}
use Rattle.tidy_check.proofs.Tested.{all_both}

or_first : (a b : Bool) → (a || b) ≡ false → a ≡ false
or_first true b e = absurd (true≢false e)
or_first false b e = refl

or_second : (a b : Bool) → (a || b) ≡ false → b ≡ false
or_second true b e = absurd (true≢false e)
or_second false b e = e

and_second : (a b : Bool) → a ≡ true → (a && b) ≡ false → b ≡ false
and_second true b t e = e
and_second false b t e = absurd (true≢false (sym t))

and_none : (a b : Bool) → b ≡ false → (a && b) ≡ false
and_none true b e = e
and_none false b e = refl

none_passes : {A : Type 0} (q : A → Bool) (xs : List A) → AllByRecursion (λ x. q x ≡ false) xs → list_any q xs ≡ false
none_passes q [] all = refl
none_passes q (x ∷ xs) all = rw all.0 (none_passes q xs all.1)

module _ {A : Type 0} (number : A → ℕ) (share : A → A → Bool) where
  abbrev other : A → A → Bool
  other m x = not (number x == number m) && share x m

  abbrev shares : List A → A → Type 0
  shares rows m = list_any (other m) rows ≡ false

  pub distinct : (rows : List A) → IsTable number rows → AllByRecursion (shares rows) rows → IsDistinct share rows
  unfolding IsDistinct
  distinct [] table none = tt
  distinct (x ∷ xs) table none = (
    all_both (λ y. number x < number y) (λ y. other y x ≡ false) (λ y. share x y ≡ false)
        (λ y less free. and_second (not (number x == number y)) (share x y) (ap not (ne_eqb (number x) (number y) (λ same. omega (arith, same, less)))) free)
        xs table.0 (all_map (shares (x ∷ xs)) (λ y. other y x ≡ false) (λ y. or_first (other y x) (list_any (other y) xs)) xs none.1),
    distinct xs table.1 (all_map (shares (x ∷ xs)) (shares xs) (λ y. or_second (other y x) (list_any (other y) xs)) xs none.1),
  )

  pub undistinct : ((a b : A) → share a b ≡ share b a) → (rows : List A) → IsDistinct share rows → AllByRecursion (shares rows) rows
  unfolding IsDistinct
  undistinct flips [] apart = tt
  undistinct flips (x ∷ xs) apart = (
    ap (λ b. (not b && share x x) || list_any (other x) xs) (eq-eqb (number x) (number x) refl)
        ∙ none_passes (other x) xs (all_map (λ y. share x y ≡ false) (λ y. other x y ≡ false) (λ y e. and_none (not (number y == number x)) (share y x) (flips y x ∙ e)) xs apart.0),
    all_both (λ y. share x y ≡ false) (shares xs) (shares (x ∷ xs))
        (λ y e rest. rw (and_none (not (number x == number y)) (share x y) e) rest)
        xs apart.0 (undistinct flips xs apart.1),
  )

-- ---- mailboxes

texts_flip : (a b : List ℕ) → bytes_eq a b ≡ bytes_eq b a
texts_flip a b =
    same_from_decides (bytes_eq a b) (bytes_eq b a) (bytes_eq-Decides a b) (turned (bytes_eq b a) (bytes_eq-Decides b a))
  where
    turned : (r : Bool) → Decides r (b ≡ a) → Decides r (a ≡ b)
    turned r d = (λ e. sym (d.0 e), λ e. d.1 (sym e))

parents_flip : (a b : Option ℕ) → same_parent a b ≡ same_parent b a
parents_flip None None = refl
parents_flip None (Some y) = refl
parents_flip (Some x) None = refl
parents_flip (Some x) (Some y) = same_from_decides (eqb x y) (eqb y x) (Decides-eqb x y) (turned (eqb y x) (Decides-eqb y x))
  where
    turned : (r : Bool) → Decides r (y ≡ x) → Decides r (x ≡ y)
    turned r d = (λ e. sym (d.0 e), λ e. d.1 (sym e))

roles_flip : (a b : Option (List ℕ)) → same_role a b ≡ same_role b a
roles_flip None None = refl
roles_flip None (Some y) = refl
roles_flip (Some x) None = refl
roles_flip (Some x) (Some y) = texts_flip x y

pub names_flip : (m n : Mailbox) → share_name m n ≡ share_name n m
names_flip m n = ap₂ (λ a b. a && b) (parents_flip m.parent n.parent) (texts_flip m.name n.name)

pub share_roles_flip : (m n : Mailbox) → share_role m n ≡ share_role n m
share_roles_flip m n = roles_flip m.role n.role

-- ---- a role that is shared

pub role_shared_by : (c : Content) (m : Mailbox) (role : List ℕ) → m.role ≡ Some role
    → list_any (λ (x : Mailbox). not (x.number == m.number) && same_role x.role (Some role)) c.mailboxes ≡ is_role_shared c m
role_shared_by c m role is = ap (λ r. list_any (λ (x : Mailbox). not (x.number == m.number) && same_role x.role r) c.mailboxes) (sym is)

none_shared : (xs : List Mailbox) (n : ℕ) → list_any (λ (x : Mailbox). not (x.number == n) && same_role x.role None) xs ≡ false
none_shared [] n = refl
none_shared (x ∷ xs) n = ap (λ b. b || list_any (λ (y : Mailbox). not (y.number == n) && same_role y.role None) xs) (and_none (not (x.number == n)) (same_role x.role None) (with_none x.role)) ∙ none_shared xs n
  where
    with_none : (r : Option (List ℕ)) → same_role r None ≡ false
    with_none None = refl
    with_none (Some s) = refl

pub role_unshared : (c : Content) (m : Mailbox) → m.role ≡ None → false ≡ is_role_shared c m
role_unshared c m is =
    sym (none_shared c.mailboxes m.number) ∙ ap (λ r. list_any (λ (x : Mailbox). not (x.number == m.number) && same_role x.role r) c.mailboxes) (sym is)
