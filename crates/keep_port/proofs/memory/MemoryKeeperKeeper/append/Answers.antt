use Rattle.std.proofs.Common.{rules, ◌≡◌, ◌++◌, ◌∷◌, [], ℕ, List, subst, sym}
use Rattle.keep_port.specs.Memory.{may_be_left}
use Rattle.keep_port.proofs.Left.{row_refused, row_is_left}
use Rattle.keep_port.proofs.memory.MemoryKeeperKeeper.append.Goals as goal

pub returns-then-fails_next-clause-image : goal.returns-then-fails_next-clause-image
returns-then-fails_next-clause-image c k left =
    let m = c.args.self.now in
    let rows : c.push.new.self ≡ m.refused_rows ++ c.args.row.now ∷ [] = search rules in
    row_refused m c.args.row.now c.fail.new.self k
    (subst (λ (r : List (List ℕ)). may_be_left (record m { refused_rows = r; appends = c.fail.new.self }) k) rows left)

pub returns-then-fails_next-clause-cases : goal.returns-then-fails_next-clause-cases
returns-then-fails_next-clause-cases c k left =
    let m = c.args.self.now in
    let rows : c.push.new.self ≡ m.refused_rows ++ c.args.row.now ∷ [] = search rules in
    subst (λ (r : List (List ℕ)). may_be_left (record m { refused_rows = r; appends = c.fail.new.self }) k) (sym rows) (row_is_left m c.args.row.now c.fail.new.self k left)
