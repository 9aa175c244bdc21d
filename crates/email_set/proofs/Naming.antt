-- The email that an identifier names, by its number.
use Rattle.std.proofs.Common.{◌≡◌, ℕ, Bool, true, false, cond, eqb, List, [], ◌∷◌, Option, Some, None, option_and_then, refl, ap, ◌∙◌, sym, subst, Decides}
use Rattle.jm_base.specs.declared.identifiers.Kind.TheVariants.{Email as OfEmail}
use Rattle.jm_json.specs.declared.invocation.Created.{Created}
use Rattle.mail_records.specs.Contents.{Content, email_number}
use Rattle.mail_records.specs.Tables.{lookup}
use Rattle.mail_records.specs.declared.records.Email.{Email}
use Rattle.set_parts.specs.CreationIds.{identifier, is_id}
use Rattle.set_parts.proofs.Identifiers.{IsIdText, decides_id, is_id_by_number}
use Rattle.email_set.specs.Emails.{email_meant, email_named}
use Rattle.email_set.specs.Views.{MeansEmail}

pub named_by_number : (s : List ℕ) (n : ℕ) (rows : List Email) → is_id OfEmail s n ≡ true → email_named rows s ≡ lookup email_number n rows
named_by_number s n [] is = refl
named_by_number s n (e ∷ rows) is =
    ap (λ b. cond b (Some e) (email_named rows s)) (is_id_by_number OfEmail s n e.number is)
    ∙ ap (λ o. cond (eqb e.number n) (Some e) o) (named_by_number s n rows is)

pub named_none : (s : List ℕ) (rows : List Email) → ((n : ℕ) → is_id OfEmail s n ≡ false) → email_named rows s ≡ None
named_none s [] none = refl
named_none s (e ∷ rows) none = ap (λ b. cond b (Some e) (email_named rows s)) (none e.number) ∙ named_none s rows none

-- what a string means, from the identifier that it refers to
pub meant_by : (made : List Created) (c : Content) (s : List ℕ) (o : Option (List ℕ)) (r : Option Email) → o ≡ identifier made s → option_and_then (email_named c.emails) o ≡ r → r ≡ email_meant made c s
meant_by made c s o r is found = sym found ∙ ap (option_and_then (email_named c.emails)) is

-- a string that is not the id of an email of this number
not_decided : (P : Type 0) (b : Bool) → Decides b P → (P → ⊥) → b ≡ false
not_decided P true d never = absurd (never (d.0 refl))
not_decided P false d never = refl

pub no_id : (s : List ℕ) (n : ℕ) → (IsIdText OfEmail s n → ⊥) → is_id OfEmail s n ≡ false
no_id s n never = not_decided (IsIdText OfEmail s n) (is_id OfEmail s n) (decides_id OfEmail s n) never

-- the email that an identifier names, if it is that of this number, or of none
pub named_some : (s : List ℕ) (o : Option ℕ) (n : ℕ) (rows : List Email) → MeansEmail s o → o ≡ Some n → lookup email_number n rows ≡ email_named rows s
named_some s o n rows means is = sym (named_by_number s n rows (subst (MeansEmail s) is means))

pub named_nothing : (s : List ℕ) (o : Option ℕ) (rows : List Email) → MeansEmail s o → o ≡ None → None ≡ email_named rows s
named_nothing s o rows means is = sym (named_none s rows (subst (MeansEmail s) is means))
