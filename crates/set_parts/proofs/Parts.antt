-- What follows from an option or a test that has a value.
use Rattle.std.proofs.Common.{◌≡◌, ◌≤◌, true, List, [], ◌∷◌, ◌++◌, length, Option, Some, None, is_some, unwrap_or, option_map, option_and_then, refl, sym, ap, arith, true≢false, Result, Ok, Err, IfOk, IfErr, MatchResult, OnOk}
use Rattle.std.specs.List.{AllByRecursion}
use Rattle.std.specs.Ordering.{match_ordering}
use Rattle.std.specs.declared.cmp.Ordering.{Ordering}
use Rattle.std.specs.declared.cmp.Ordering.TheVariants.{Less, Equal, Greater}
use Rattle.std.proofs.lemmas.Option.{none-some, same_Some}
use Rattle.mail_records.specs.OrderSteps.{put_in}

pub mapped : {A B : Type 0} (f : A → B) (o : Option A) (y : B) → option_map f o ≡ Some y → (x : A) × (o ≡ Some x) × (f x ≡ y)
mapped f None y e = absurd (none-some y e)
mapped f (Some x) y e = (x, refl, same_Some (f x) y e)

pub bound : {A B : Type 0} (f : A → Option B) (o : Option A) (y : B) → option_and_then f o ≡ Some y → (x : A) × (o ≡ Some x) × (f x ≡ Some y)
bound f None y e = absurd (none-some y e)
bound f (Some x) y e = (x, refl, e)

pub there : {A : Type 0} (o : Option A) → is_some o ≡ true → (x : A) × (o ≡ Some x)
there None e = absurd (true≢false (sym e))
there (Some x) e = (x, refl)

pub unwrapped : {A : Type 0} (o : Option A) (x d : A) → o ≡ Some x → unwrap_or o d ≡ x
unwrapped o x d e = ap (λ p. unwrap_or p d) e

pub all_push : {A : Type 0} (P : A → Type 0) (xs : List A) (x : A) → AllByRecursion P xs → P x → AllByRecursion P (xs ++ x ∷ [])
all_push P [] x all p = (p, tt)
all_push P (y ∷ xs) x all p = (all.0, all_push P xs x all.1 p)

pub all_append : {A : Type 0} (P : A → Type 0) (xs ys : List A) → AllByRecursion P xs → AllByRecursion P ys → AllByRecursion P (xs ++ ys)
all_append P [] ys all more = more
all_append P (x ∷ xs) ys all more = (all.0, all_append P xs ys all.1 more)

-- a put leaves something
pub put_some : {K : Type 0} (R : K → K → Ordering) (k : K) (xs : List K) → 1 ≤ length (put_in R k xs)
put_some R k [] = omega arith
put_some R k (x ∷ xs) = step (R x k)
  where
    step : (r : Ordering) → 1 ≤ length (match_ordering r (x ∷ put_in R k xs) (x ∷ xs) (k ∷ x ∷ xs))
    step Less = omega arith
    step Equal = omega arith
    step Greater = omega arith

-- what holds of each value, and of each error
pub if_ok : {T E : Type 0} (r : Result T E) (P S : T → Type 0) (Q : E → Type 0) → ((x : T) → P x → S x) → MatchResult r P Q → IfOk r S
if_ok (Ok x) P S Q f h = f x h
if_ok (Err e) P S Q f h = tt

pub if_err : {T E : Type 0} (r : Result T E) (P : T → Type 0) (Q : E → Type 0) → MatchResult r P Q → IfErr r Q
if_err (Ok x) P Q h = tt
if_err (Err e) P Q h = h

pub on_ok : {T E : Type 0} (r : Result T E) (P Q : Type 0) → (P → Q) → OnOk r P → OnOk r Q
on_ok (Ok v) P Q f h = f h
on_ok (Err e) P Q f h = h
