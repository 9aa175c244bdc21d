-- What contracts see of a filter: the kind of record that it is of, and the tree that it was read
-- from.
use Rattle.std.specs.Prelude.{◌≡◌, ℕ, zero, suc, refl}
use Rattle.std.specs.Coded.{Coded, code_by, coded×, coded_ℕ}
use Rattle.jm_base.specs.declared.identifiers.Kind.{Kind}
use Rattle.jm_base.specs.declared.identifiers.Kind.TheVariants.{Mailbox, Email, Thread}
use Rattle.jm_json.specs.TreeCodes.{tree_code}
use Rattle.jm_json.specs.Tree.{Tree}

pub record FilterTree : Type 0 where
  pub kind : Kind
  pub tree : Tree

abbrev pub kind_number : Kind → ℕ
kind_number Mailbox = 0
kind_number Email = 1
kind_number Thread = 2

abbrev pub kind_of_number : ℕ → Kind
kind_of_number zero = Mailbox
kind_of_number (suc zero) = Email
kind_of_number (suc (suc n)) = Thread

pub kind_back : (kind : Kind) → kind_of_number (kind_number kind) ≡ kind
kind_back Mailbox = refl
kind_back Email = refl
kind_back Thread = refl

abbrev pub kind_code : Coded Kind
kind_code = code_by ℕ coded_ℕ kind_number kind_of_number kind_back

abbrev pub filter_code : Coded FilterTree
filter_code =
    code_by (Kind × Tree) (coded× kind_code tree_code) (λ f. (f.kind, f.tree))
    (λ p. record { kind = p.0; tree = p.1 }) (λ _. refl)
