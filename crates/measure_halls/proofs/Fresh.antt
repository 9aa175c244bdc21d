-- One account more that was just opened.
use Rattle.std.proofs.Common.{◌≡◌, List, [], ◌∷◌, ◌++◌, sym, subst}
use Rattle.std.specs.List.{AllByRecursion}
use Rattle.account_hall.specs.Building.{IsFresh}
use Rattle.account_hall.specs.declared.named_account.Named.{Named}

all_push : {A : Type 0} (P : A → Type 0) (xs : List A) (x : A) → AllByRecursion P xs → P x
    → AllByRecursion P (xs ++ x ∷ [])
all_push P [] x a p = (p, tt)
all_push P (y ∷ ys) x a p = (a.0, all_push P ys x a.1 p)

pub fresh_next : {K R : Type 0} (accounts more : List (Named K R)) (a : Named K R)
    → more ≡ accounts ++ a ∷ [] → AllByRecursion IsFresh accounts → IsFresh a
    → AllByRecursion IsFresh more
fresh_next {K} {R} accounts more a is all one =
    subst (AllByRecursion (IsFresh {K = K} {R = R})) (sym is) (all_push IsFresh accounts a all one)
