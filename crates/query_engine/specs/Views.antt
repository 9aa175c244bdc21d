-- What contracts see of a query.
use Rattle.std.specs.Prelude.{Bool, refl}
use Rattle.std.specs.Coded.{Coded, code_by, coded×, coded_bool}
use Rattle.jm_base.specs.declared.identifiers.Kind.{Kind}
use Rattle.jm_json.specs.TreeCodes.{tree_code}
use Rattle.jm_json.specs.Tree.{Tree}
use Rattle.filter_terms.specs.Views.{kind_code}

-- The kind of record that a query is of, the filter and the sort that it was read from, and whether
-- it collapses threads (RFC 8621, 4.4).
pub record QueryTree : Type 0 where
  pub kind : Kind
  pub filter : Tree
  pub order : Tree
  pub collapse : Bool

abbrev pub query_code : Coded QueryTree
query_code =
    code_by (Kind × (Tree × (Tree × Bool)))
    (coded× kind_code (coded× tree_code (coded× tree_code coded_bool)))
    (λ q. (q.kind, (q.filter, (q.order, q.collapse))))
    (λ p. record { kind = p.0; filter = p.1.0; order = p.1.1.0; collapse = p.1.1.1 }) (λ _. refl)
