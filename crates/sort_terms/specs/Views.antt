-- What contracts see of an order: the kind of record that it is of, and the tree that it was read
-- from.
use Rattle.std.specs.Prelude.{refl}
use Rattle.std.specs.Coded.{Coded, code_by, coded×}
use Rattle.jm_base.specs.declared.identifiers.Kind.{Kind}
use Rattle.jm_json.specs.TreeCodes.{tree_code}
use Rattle.jm_json.specs.Tree.{Tree}
use Rattle.filter_terms.specs.Views.{kind_code}

pub record OrderTree : Type 0 where
  pub kind : Kind
  pub tree : Tree

abbrev pub order_code : Coded OrderTree
order_code =
    code_by (Kind × Tree) (coded× kind_code tree_code) (λ o. (o.kind, o.tree))
    (λ p. record { kind = p.0; tree = p.1 }) (λ _. refl)
