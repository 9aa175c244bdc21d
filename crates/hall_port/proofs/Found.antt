-- The account on which a call is performed is one of the user's.
use Rattle.std.proofs.Common.{◌≡◌, ◌≢◌, ℕ, Bool, true, false, cond, eqb, eq-eqb, ◌&&◌, List, [], ◌∷◌, Option, Some, None, Ok, Err, is_none, option_and_then, codes, bytes_eq, refl, sym, ap, ◌∙◌, subst}
use Rattle.std.specs.List.{AllByRecursion}
use Rattle.jm_json.specs.Call.{Call}
use Rattle.server_users.specs.declared.users.UserAccount.{UserAccount}
use Rattle.server_users.specs.Lookups.{account_with}
use Rattle.hall_port.specs.Lines.{first_changeable}
use Rattle.read_replies.specs.Targets.{argument_in, from_found, from_named, is_change, is_copy, source_of, target_of, to_found, to_named}

module _ (P : UserAccount → Type 0) (a : UserAccount) where
  found : (id : List ℕ) (accounts : List UserAccount) → AllByRecursion P accounts → account_with id accounts ≡ Some a → P a
  found id [] all is = absurd (cc is)
  found id (x ∷ xs) all is =
      elim (bytes_eq x.id id) as (λ b. cond b (Some x) (account_with id xs) ≡ Some a → P a) [ true ↦ λ here. let e : x ≡ a = cc here in subst P e all.0 | false ↦ λ there. found id xs all.1 there ] is

  at_from : (to : UserAccount) (o : Option UserAccount) → P to → from_found to o ≡ Ok a → P a
  at_from to None here is = absurd (cc is)
  at_from to (Some from) here is =
      elim (eqb from.number to.number) as (λ b. cond b (Err (codes "invalidArguments")) (Ok to) ≡ Ok a → P a) [ true ↦ λ e. absurd (cc e) | false ↦ λ e. let same : to ≡ a = cc e in subst P same here ] is

  named_from : (accounts : List UserAccount) (to : UserAccount) (from : Option (List ℕ)) → P to → from_named accounts to from ≡ Ok a → P a
  named_from accounts to None here is = absurd (cc is)
  named_from accounts to (Some id) here is = at_from to (account_with id accounts) here is

  at_to : (accounts : List UserAccount) (copies changes : Bool) (from : Option (List ℕ)) (to : UserAccount) → P to → to_found accounts copies changes from (Some to) ≡ Ok a → P a
  at_to accounts copies changes from to here is =
      elim (changes && to.read_only) as (λ b. cond b (Err (codes "accountReadOnly")) (cond copies (from_named accounts to from) (Ok to)) ≡ Ok a → P a) [
        | true ↦ λ e. absurd (cc e)
        | false ↦ elim copies as (λ b. cond b (from_named accounts to from) (Ok to) ≡ Ok a → P a) [ true ↦ named_from accounts to from here | false ↦ λ e. let same : to ≡ a = cc e in subst P same here ]
      ] is

  at_found : (accounts : List UserAccount) (copies changes : Bool) (from : Option (List ℕ)) (o : Option UserAccount) → ((to : UserAccount) → o ≡ Some to → P to) → to_found accounts copies changes from o ≡ Ok a → P a
  at_found accounts copies changes from None there is = absurd (cc is)
  at_found accounts copies changes from (Some to) there is = at_to accounts copies changes from to (there to refl) is

  named : (accounts : List UserAccount) (copies changes : Bool) (from to : Option (List ℕ)) → ((id : List ℕ) (b : UserAccount) → account_with id accounts ≡ Some b → P b) → to_named accounts copies changes from to ≡ Ok a → P a
  named accounts copies changes from None there is = absurd (cc is)
  named accounts copies changes from (Some id) there is =
      elim (copies && is_none from) as (λ b. cond b (Err (codes "invalidArguments")) (to_found accounts copies changes from (account_with id accounts)) ≡ Ok a → P a) [ true ↦ λ e. absurd (cc e) | false ↦ at_found accounts copies changes from (account_with id accounts) (there id) ] is

-- what holds of each account of a user holds of the account on which a call is performed
pub target_among : (P : UserAccount → Type 0) (accounts : List UserAccount) (c : Call) (a : UserAccount) → AllByRecursion P accounts → target_of accounts c ≡ Ok a → P a
target_among P accounts c a all is =
    named P a accounts (is_copy c.name) (is_change c.name) (argument_in (codes "fromAccountId") c.args) (argument_in (codes "accountId") c.args) (λ id b there. found P b id accounts all there) is

-- ---- the account from which a copy is made

source_by : (P : UserAccount → Type 0) (a : UserAccount) (accounts : List UserAccount) (o : Option (List ℕ)) → AllByRecursion P accounts → option_and_then (λ id. account_with id accounts) o ≡ Some a → P a
source_by P a accounts None all is = absurd (cc is)
source_by P a accounts (Some id) all is = found P a id accounts all is

source_if : (P : UserAccount → Type 0) (a : UserAccount) (accounts : List UserAccount) (copies : Bool) (o : Option (List ℕ)) → AllByRecursion P accounts → cond copies (option_and_then (λ id. account_with id accounts) o) None ≡ Some a → P a
source_if P a accounts true o all is = source_by P a accounts o all is
source_if P a accounts false o all is = absurd (cc is)

-- what holds of each account of a user holds of the account from which a copy is made
pub source_among : (P : UserAccount → Type 0) (accounts : List UserAccount) (c : Call) (a : UserAccount) → AllByRecursion P accounts → source_of accounts c ≡ Some a → P a
source_among P accounts c a all is = source_if P a accounts (is_copy c.name) (argument_in (codes "fromAccountId") c.args) all is

not_true : true ≡ false → ⊥
not_true same = absurd (cc same)

-- a copy is made between two accounts
module _ (accounts : List UserAccount) (x a : UserAccount) where
  apart_by : (b : Bool) (y to : UserAccount) → eqb y.number to.number ≡ b → cond b (Err (codes "invalidArguments")) (Ok to) ≡ Ok a → y ≡ x → x.number ≢ a.number
  apart_by true y to test is same = absurd (cc is)
  apart_by false y to test is same =
      let target : to ≡ a = cc is in
      λ (alike : x.number ≡ a.number). let here : y.number ≡ to.number = ap (λ (u : UserAccount). u.number) same ∙ (alike ∙ sym (ap (λ (u : UserAccount). u.number) target)) in not_true (sym (eq-eqb y.number to.number here) ∙ test)

  apart_found : (to : UserAccount) (o : Option UserAccount) → from_found to o ≡ Ok a → o ≡ Some x → x.number ≢ a.number
  apart_found to None is there = absurd (cc there)
  apart_found to (Some y) is there = let same : y ≡ x = cc there in apart_by (eqb y.number to.number) y to refl is same

  apart_read : (b : Bool) (to : UserAccount) (id : List ℕ) → cond b (Err (codes "accountReadOnly")) (from_named accounts to (Some id)) ≡ Ok a → account_with id accounts ≡ Some x → x.number ≢ a.number
  apart_read true to id is there = absurd (cc is)
  apart_read false to id is there = apart_found to (account_with id accounts) is there

  apart_to : (changes : Bool) (id : List ℕ) (o : Option UserAccount) → to_found accounts true changes (Some id) o ≡ Ok a → account_with id accounts ≡ Some x → x.number ≢ a.number
  apart_to changes id None is there = absurd (cc is)
  apart_to changes id (Some to) is there = apart_read (changes && to.read_only) to id is there

  apart_from : (changes : Bool) (from to : Option (List ℕ)) → to_named accounts true changes from to ≡ Ok a → option_and_then (λ id. account_with id accounts) from ≡ Some x → x.number ≢ a.number
  apart_from changes None to is there = absurd (cc there)
  apart_from changes (Some id) None is there = absurd (cc is)
  apart_from changes (Some id) (Some other) is there = apart_to changes id (account_with other accounts) is there

  apart_if : (copies changes : Bool) (from to : Option (List ℕ)) → to_named accounts copies changes from to ≡ Ok a → cond copies (option_and_then (λ id. account_with id accounts) from) None ≡ Some x → x.number ≢ a.number
  apart_if true changes from to is there = apart_from changes from to is there
  apart_if false changes from to is there = absurd (cc there)

pub source_apart : (accounts : List UserAccount) (c : Call) (x a : UserAccount) → target_of accounts c ≡ Ok a → source_of accounts c ≡ Some x → x.number ≢ a.number
source_apart accounts c x a is there = apart_if accounts x a (is_copy c.name) (is_change c.name) (argument_in (codes "fromAccountId") c.args) (argument_in (codes "accountId") c.args) is there

-- what holds of each account of a user holds of the first one that the user may change
pub changeable_among : (P : UserAccount → Type 0) (accounts : List UserAccount) (a : UserAccount) → AllByRecursion P accounts → first_changeable accounts ≡ Some a → P a
changeable_among P [] a all is = absurd (cc is)
changeable_among P (x ∷ xs) a all is =
    elim (x.read_only) as (λ b. cond b (first_changeable xs) (Some x) ≡ Some a → P a) [ true ↦ λ there. changeable_among P xs a all.1 there | false ↦ λ here. let e : x ≡ a = cc here in subst P e all.0 ] is
