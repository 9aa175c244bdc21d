use Rattle.std.proofs.Common.{not, refl, ap}
use Rattle.std.specs.List.{list_all, list_any}
use Rattle.filter_terms.proofs.Operators.{items_each}
use Rattle.filter_terms.proofs.laws.operators_join_their_conditions.Goals as goal

pub returns : goal.returns
returns c = record {
  conjunction = λ kind x ts. ap (λ bs. list_all (λ b. b) bs) (items_each kind x ts);
  disjunction = λ kind x ts. ap (λ bs. list_any (λ b. b) bs) (items_each kind x ts);
  negation = λ kind x ts. ap (λ bs. not (list_any (λ b. b) bs)) (items_each kind x ts);
  none = λ kind x. refl;
  nothing = λ kind x. refl;
  empty = λ kind x. refl;
}
