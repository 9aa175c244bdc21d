use Rattle.std.proofs.Common.{rules, ◌≡◌, ◌++◌, ◌∷◌, [], List, subst, sym}
use Rattle.keep_port.specs.declared.kept.Kept.{Kept}
use Rattle.keep_port.specs.Memory.{may_be_left}
use Rattle.keep_port.proofs.Left.{whole_refused, whole_is_left}
use Rattle.keep_port.proofs.memory.MemoryKeeperKeeper.replace.Goals as goal

pub returns-then-fails_next-clause-image : goal.returns-then-fails_next-clause-image
returns-then-fails_next-clause-image c k left =
    let m = c.args.self.now in
    let wholes : c.push.new.self ≡ m.refused_wholes ++ c.args.whole.now ∷ [] = search rules in
    whole_refused m c.args.whole.now c.fail.new.self k
    (subst (λ (w : List Kept). may_be_left (record m { refused_wholes = w; replaces = c.fail.new.self }) k) wholes left)

pub returns-then-fails_next-clause-cases : goal.returns-then-fails_next-clause-cases
returns-then-fails_next-clause-cases c k left =
    let m = c.args.self.now in
    let wholes : c.push.new.self ≡ m.refused_wholes ++ c.args.whole.now ∷ [] = search rules in
    subst (λ (w : List Kept). may_be_left (record m { refused_wholes = w; replaces = c.fail.new.self }) k) (sym wholes) (whole_is_left m c.args.whole.now c.fail.new.self k left)
