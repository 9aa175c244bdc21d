-- Tests that are true if and only if what they test holds.
use Rattle.std.proofs.Common.{◌≡◌, ℕ, ℤ, Bool, true, false, ◌&&◌, ◌||◌, not, ◌≤◌, ◌<◌, nat_le, nat_lt, List, [], ◌∷◌, Option, Some, None, refl, sym, ap, ◌∙◌, subst, arith, ⊎_elim}
use Rattle.std.specs.Bool.{Decides}
use Rattle.std.specs.List.{AllByRecursion, list_all}
use Rattle.std.specs.List.Sorted.{IsStrictlySortedBy}
use Rattle.std.specs.Option.{ForSome}
use Rattle.std.specs.Ordering.{is_lt}
use Rattle.std.specs.declared.cmp.Ordering.{Ordering}
use Rattle.std.specs.declared.cmp.Ordering.TheVariants.{Less, Equal, Greater}
use Rattle.std.specs.Cmp.{IsTotalOrder}
use Rattle.std.proofs.lemmas.Bool.{true≢false}
use Rattle.std.proofs.lemmas.Bool.Decides.{Decides-ltb, leb_tells}
use Rattle.mail_records.proofs.Rising.{all_map}
use Rattle.tidy_check.specs.Checks.{passes_if_any, rises_after}

pub and_tells : (a b : Bool) (P Q : Type 0) → Decides a P → Decides b Q → Decides (a && b) (P × Q)
and_tells true b P Q p q = (λ e. (p.0 refl, q.0 e), λ h. q.1 h.1)
and_tells false b P Q p q = (λ e. absurd (true≢false (sym e)), λ h. p.1 h.0)

pub all_tells : {A : Type 0} (p : A → Bool) (P : A → Type 0) → ((x : A) → Decides (p x) (P x)) → (xs : List A) → Decides (list_all p xs) (AllByRecursion P xs)
all_tells p P each [] = (λ e. tt, λ h. refl)
all_tells p P each (x ∷ xs) = and_tells (p x) (list_all p xs) (P x) (AllByRecursion P xs) (each x) (all_tells p P each xs)

pub if_any_tells : {A : Type 0} (p : A → Bool) (P : A → Type 0) → ((x : A) → Decides (p x) (P x)) → (o : Option A) → Decides (passes_if_any p o) (ForSome o P)
if_any_tells p P each None = (λ e x h. absurd (cc), λ h. refl)
if_any_tells p P each (Some x) = (λ e y h. let same : x ≡ y = cc in subst P same ((each x).0 e), λ h. (each x).1 (h x refl))

pub true_tells : (b : Bool) → Decides b (b ≡ true)
true_tells b = (λ e. e, λ h. h)

pub not_tells : (b : Bool) → Decides (not b) (b ≡ false)
not_tells true = (λ e. absurd (true≢false (sym e)), λ h. absurd (true≢false h))
not_tells false = (λ e. refl, λ h. refl)

pub le_tells : (a b : ℕ) → Decides (nat_le a b) (a ≤ b)
le_tells a b =
    ⊎_elim
    (λ (t : (nat_le a b ≡ true) × (a ≤ b)). (λ e. t.1, λ h. t.0))
    (λ (t : (nat_le a b ≡ false) × (b < a)). let more = t.1 in (λ e. absurd (true≢false (sym e ∙ t.0)), λ h. absurd (omega (arith, h, more))))
    (leb_tells a b)

pub lt_number_tells : (a b : ℕ) → Decides (nat_lt a b) (a < b)
lt_number_tells a b = Decides-ltb a b

-- what is tested by one test is what is tested by another, if each follows from the other
pub same_tells : (b : Bool) (P Q : Type 0) → (P → Q) → (Q → P) → Decides b P → Decides b Q
same_tells b P Q f g p = (λ e. f (p.0 e), λ h. p.1 (g h))

-- ---- both of all

pub all_both : {A : Type 0} (P Q R : A → Type 0) → ((x : A) → P x → Q x → R x) → (xs : List A) → AllByRecursion P xs → AllByRecursion Q xs → AllByRecursion R xs
all_both P Q R f [] p q = tt
all_both P Q R f (x ∷ xs) p q = (f x p.0 q.0, all_both P Q R f xs p.1 q.1)

-- ---- lists that rise

lt_tells : (r : Ordering) → Decides (is_lt r) (r ≡ Less)
lt_tells Less = (λ e. refl, λ h. refl)
lt_tells Equal = (λ e. absurd (true≢false (sym e)), λ h. sym (ap is_lt (sym h)))
lt_tells Greater = (λ e. absurd (true≢false (sym e)), λ h. sym (ap is_lt (sym h)))

module _ {A : Type 0} {R : A → A → Ordering} (o : IsTotalOrder R) where
  after_tells : (b : A) (xs : List A) → Decides (rises_after R (Some b) xs) (AllByRecursion (λ y. R b y ≡ Less) xs × IsStrictlySortedBy R xs)
  unfolding IsStrictlySortedBy
  after_tells b [] = (λ e. (tt, tt), λ h. refl)
  after_tells b (x ∷ xs) =
      same_tells (is_lt (R b x) && rises_after R (Some x) xs) ((R b x ≡ Less) × (AllByRecursion (λ y. R x y ≡ Less) xs × IsStrictlySortedBy R xs)) _
      (λ h. ((h.0, all_map (λ y. R x y ≡ Less) (λ y. R b y ≡ Less) (λ y l. o.trans b x y h.0 l) xs h.1.0), h.1))
      (λ h. (h.0.0, h.1))
      (and_tells (is_lt (R b x)) (rises_after R (Some x) xs) (R b x ≡ Less) (AllByRecursion (λ y. R x y ≡ Less) xs × IsStrictlySortedBy R xs) (lt_tells (R b x)) (after_tells x xs))

  pub rises_tells : (xs : List A) → Decides (rises_after R None xs) (IsStrictlySortedBy R xs)
  unfolding IsStrictlySortedBy
  rises_tells [] = (λ e. tt, λ h. refl)
  rises_tells (x ∷ xs) = after_tells x xs
