-- Tables of names are their halves, one after the other.
use Rattle.std.proofs.Common.{◌≡◌, ℕ, Bool, true, false, cond, List, Option, Some, None, refl, ap, ◌∙◌}
use Rattle.get_args.specs.NameHalves.{first_field_form, first_form_named, first_own_part_property, first_own_property, last_field_form, last_form_named, last_own_part_property, last_own_property}
use Rattle.get_args.specs.PropertyNames.{field_form, form_named, or_else, own_part_property, own_property}

or_else-cond : {A : Type 0} (b : Bool) (x : A) (o p : Option A) → or_else (cond b (Some x) o) p ≡ cond b (Some x) (or_else o p)
or_else-cond true x o p = refl
or_else-cond false x o p = refl

pub own_property_is : (name : List ℕ) → or_else (first_own_property name) (last_own_property name) ≡ own_property name
own_property_is name = simp or_else-cond

pub own_part_property_is : (name : List ℕ) → or_else (first_own_part_property name) (last_own_part_property name) ≡ own_part_property name
own_part_property_is name = simp or_else-cond

pub field_form_is : (name : List ℕ) → or_else (first_field_form name) (last_field_form name) ≡ field_form name
field_form_is name = simp or_else-cond

pub form_named_is : (text : List ℕ) → or_else (first_form_named text) (last_form_named text) ≡ form_named text
form_named_is text = simp or_else-cond

-- what is found in the first half, and what is found in the other
pub found_first : {A : Type 0} (x : A) (first last whole : Option A) → Some x ≡ first → or_else first last ≡ whole → Some x ≡ whole
found_first x first last whole is halves = ap (λ o. or_else o last) is ∙ halves

pub found_last : {A : Type 0} (found first last whole : Option A) → None ≡ first → found ≡ last → or_else first last ≡ whole → found ≡ whole
found_last found first last whole none is halves = is ∙ (ap (λ o. or_else o last) none ∙ halves)
