-- Room in tables and orders, and what begins empty.
use Rattle.std.proofs.Common.{◌≡◌, ℕ, ◌+◌, ◌-◌, ◌≤◌, List, [], Option, Some, None, length, min, refl, sym, ap, ◌∙◌, subst, arith}
use Rattle.std.specs.List.Sorted.{IsStrictlySortedBy}
use Rattle.mail_records.specs.Tables.{lookup, put}
use Rattle.mail_records.specs.Orders.{AreKeys, Key, any_key, key_of_role, keys_of}
use Rattle.mail_records.proofs.Tables.{lookup-put_same}

-- no records have no keys
pub no_keys : {R E : Type 0} (number : R → ℕ) (owner : E → ℕ) (key : Option R → E → Key) (keys : R → List Key) (rows : List R) (es : List E) → rows ≡ [] → es ≡ []
    → AreKeys any_key number keys rows (keys_of number owner key rows es)
unfolding IsStrictlySortedBy
no_keys {R} {E} number owner key keys rows es none empty =
    subst (λ (zs : List E). AreKeys any_key number keys rows (keys_of number owner key rows zs)) (sym empty)
    (subst (λ (rs : List R). AreKeys any_key number keys rs (keys_of number owner key rs [])) (sym none) (record { rise = tt; exactly = λ k. refl }))

-- a mailbox has at most one role
pub role_count : (n : ℕ) (role : Option (List ℕ)) → length (key_of_role n role) ≤ 1
role_count n (Some role) = omega arith
role_count n None = omega arith

-- the record that was put is found
pub found_put : {R : Type 0} (number : R → ℕ) (item : R) (old rows : List R) → rows ≡ put number item old → lookup number (number item) rows ≡ Some item
found_put number item old rows is = ap (lookup number (number item)) is ∙ lookup-put_same number item (number item) refl old

pub least_of_three : (old a b c d e f : ℕ) → min a (min b c) ≡ old → a ≤ d + 1 → b ≤ e + 1 → c ≤ f + 1 → old ≤ min d (min e f) + 1
least_of_three old a b c d e f is x y z = omega arith

pub least_of_four : (old a b c d e f g h : ℕ) → min a (min b (min c d)) ≡ old → a ≤ e + 1 → b ≤ f + 1 → c ≤ g + 1 → d ≤ h + 1 → old ≤ min e (min f (min g h)) + 1
least_of_four old a b c d e f g h is w x y z = omega arith

-- room in a vector from which some entries were taken and into which at most n were put
pub room_after : (cap len mid new cap2 cap3 n : ℕ) → mid ≤ len → new ≤ mid + n → cap2 ≡ cap → cap3 ≡ cap2 → cap - len ≤ (cap3 - new) + n
room_after cap len mid new cap2 cap3 n a b c d = omega arith

-- the room for what is put
pub fits_found : {R : Type 0} (count : R → ℕ) (item r : R) (n cap len mid cap2 room : ℕ) → Some item ≡ Some r → count item ≡ n → n ≤ room → cap - len ≡ room → mid ≤ len → cap2 ≡ cap
    → count r ≤ cap2 - mid
fits_found {R} count item r n cap len mid cap2 room same is few there less kept =
    let one : item ≡ r = cc in subst (λ (x : R). count x ≤ cap2 - mid) one (omega arith)
