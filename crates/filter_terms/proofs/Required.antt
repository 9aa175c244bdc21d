-- A text that one of the terms joined by AND asks for is one that all of them ask for.
use Rattle.std.proofs.Common.{◌≡◌, ℕ, zero, suc, ◌<◌, List, [], ◌∷◌, get_or, length, Bool, true, false, sym, ap, ◌∙◌, arith}
use Rattle.std.proofs.lemmas.Bool.{and_parts}
use Rattle.filter_terms.specs.Compiled.{IsRequiredIn, IsRequiredOf, all_true, match_each, terms_match}
use Rattle.filter_terms.specs.Targets.{AnEmail, Target}
use Rattle.filter_terms.specs.Texts.{IsRequired, has_text}
use Rattle.filter_terms.specs.declared.compiled.Terms.{Terms}
use Rattle.filter_terms.specs.declared.texts.Place.{Place}

-- where all match, each of them does
each_matches : (items : List Terms) (i : ℕ) (d : Terms) (x : Target) → i < length items → all_true (match_each items x) ≡ true → terms_match (get_or items i d) x ≡ true
each_matches [] i d x within all = absurd (omega (arith, within))
each_matches (t ∷ ts) zero d x within all = (and_parts (terms_match t x) (all_true (match_each ts x)) all).0
each_matches (t ∷ ts) (suc i) d x within all = each_matches ts i d x (omega (arith, within)) (and_parts (terms_match t x) (all_true (match_each ts x)) all).1

by_one : (alone has one all : Bool) → IsRequired alone has one → (all ≡ true → one ≡ true) → IsRequired false has all
by_one true has one all required below = λ e. sym required ∙ below e
by_one false has one all required below = λ e. required (below e)

pub by_item : (items : List Terms) (i : ℕ) (t : Terms) (place : Place) (needle : List ℕ) (alone : Bool) → i < length items → t ≡ get_or items i t → IsRequiredIn t place needle alone → IsRequiredOf all_true items place needle false
by_item items i t place needle alone within is required = λ texts s.
    by_one alone (has_text (texts s.email.blob) place needle) (terms_match t (AnEmail texts s)) (all_true (match_each items (AnEmail texts s))) (required texts s)
    (λ e. ap (λ u. terms_match u (AnEmail texts s)) is ∙ each_matches items i t (AnEmail texts s) within e)
