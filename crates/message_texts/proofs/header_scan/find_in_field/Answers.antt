use Rattle.std.proofs.Common.{List, ℕ, Option, Some, None, IfSome, Bool, subst, sym, ◌≡◌, ◌∙◌}
use Rattle.header_forms.specs.Texts.{text_form}
use Rattle.filter_terms.specs.Contains.{contains}
use Rattle.message_texts.proofs.header_scan.find_in_field.Goals as goal

either_way : (r : Option Bool) {P : Type 0} → P → IfSome r (λ b. P)
either_way None p = tt
either_way (Some b) p = p

pub returns-clause-value : goal.returns-clause-value
returns-clause-value c = subst (λ (v : List ℕ). IfSome c.find_in_value.result (λ b. b ≡ contains c.args.needle.now (text_form v))) c.find_value.ensures c.find_in_value.ensures

pub returns-clause-alone : goal.returns-clause-alone
returns-clause-alone c = either_way c.find_in_value.result (sym c.is_continuation.ensures ∙ c.if-is_continuation.false)
