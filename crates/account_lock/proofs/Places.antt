-- Lists of views, one of which a step changes.
use Rattle.std.proofs.Common.{◌≡◌, ◌≢◌, ◌⊎◌, inl, inr, ℕ, zero, suc, ◌+◌, ◌<◌, ◌≤◌, Bool, true, false, List, [], ◌∷◌, ◌++◌, length, set, sym, refl, ap, ◌∙◌, subst, ⊎_elim, arith}
use mathlib.Core.Option.{some, some-injective, some-ne-none}
use mathlib.Core.Logic.{dite}
use native.Mathlib.Decide.{ℕ_discrete}
use lib.ListN.{get_elem?}
use Rattle.atomic_table.proofs.Lists.{at_set, set_else}
use Rattle.account_lock.specs.Views.{Ended, View, HasName}
use Rattle.account_lock.specs.Rule.{weight, waiting, names_of, names_out}

pub not_true : (b : Bool) → (b ≡ true → ⊥) → b ≡ false
not_true b = elim b as (λ v. (v ≡ true → ⊥) → v ≡ false) [ true ↦ λ no. absurd (no refl) | false ↦ λ no. refl ]

pub zero_or : (n : ℕ) → (n ≡ 0) ⊎ (0 < n)
zero_or zero = inl refl
zero_or (suc n) = inr (omega arith)

pub below : {A : Type 0} (l : List A) (i : ℕ) (a : A) → get_elem? l i ≡ some a → i < length l
below [] i a e = absurd (some-ne-none a (sym e))
below (x ∷ xs) zero a e = omega arith
below (x ∷ xs) (suc i) a e = let h = below xs i a e in omega arith

pub same_at : {A : Type 0} (l : List A) (i : ℕ) (a b : A) → get_elem? l i ≡ some a → get_elem? l i ≡ some b → a ≡ b
same_at l i a b e f = some-injective a b (sym e ∙ f)

pub set_at : {A : Type 0} (l : List A) (i : ℕ) (a b : A) → get_elem? l i ≡ some a → get_elem? (set l i b) i ≡ some b
set_at [] i a b e = absurd (some-ne-none a (sym e))
set_at (x ∷ xs) zero a b e = refl
set_at (x ∷ xs) (suc i) a b e = set_at xs i a b e

-- what holds of the view at each place, after a step
pub views_stay : (K : ℕ → View → Type 0) (vs : List View) (me : ℕ) (w : View) → K me w → ((j : ℕ) (d : View) → j ≢ me → get_elem? vs j ≡ some d → K j d)
    → (j : ℕ) (d : View) → get_elem? (set vs me w) j ≡ some d → K j d
views_stay K vs me w mine others j d e = ⊎_elim (λ (t : (j ≡ me) × (w ≡ d)). subst (λ (x : ℕ × View). K x.0 x.1) (λ i. (sym t.0 i, t.1 i)) mine)
    (λ (t : (j ≢ me) × (get_elem? vs j ≡ some d)). others j d t.0 t.1) (at_set vs me j w d e)

-- what no two views share, after a step
pub pairs_stay : (P : View → View → Type 0) → ((a b : View) → P a b → P b a) → (vs : List View) (me : ℕ) (w : View)
    → ((j : ℕ) (b : View) → j ≢ me → get_elem? vs j ≡ some b → P w b → ⊥)
    → ((i j : ℕ) (a b : View) → get_elem? vs i ≡ some a → get_elem? vs j ≡ some b → P a b → i ≡ j)
    → (i j : ℕ) (a b : View) → get_elem? (set vs me w) i ≡ some a → get_elem? (set vs me w) j ≡ some b → P a b → i ≡ j
pairs_stay P turn vs me w mine others i j a b at_i at_j p = ⊎_elim
    (λ (t : (i ≡ me) × (w ≡ a)). ⊎_elim
    (λ (u : (j ≡ me) × (w ≡ b)). t.0 ∙ sym u.0)
    (λ (u : (j ≢ me) × (get_elem? vs j ≡ some b)). absurd (mine j b u.0 u.1 (subst (λ (x : View). P x b) (sym t.1) p)))
    (at_set vs me j w b at_j))
    (λ (t : (i ≢ me) × (get_elem? vs i ≡ some a)). ⊎_elim
    (λ (u : (j ≡ me) × (w ≡ b)). absurd (mine i a t.0 t.1 (turn a w (subst (λ (x : View). P a x) (sym u.1) p))))
    (λ (u : (j ≢ me) × (get_elem? vs j ≡ some b)). others i j a b t.1 u.1 p)
    (at_set vs me j w b at_j))
    (at_set vs me i w a at_i)

pub waiting_set : (vs : List View) (me : ℕ) (v w : View) → get_elem? vs me ≡ some v → waiting (set vs me w) + weight v.waits ≡ waiting vs + weight w.waits
waiting_set [] me v w e = absurd (some-ne-none v (sym e))
waiting_set (x ∷ xs) zero v w e = let h : weight x.waits ≡ weight v.waits = ap (λ (d : View). weight d.waits) (some-injective x v e) in omega arith
waiting_set (x ∷ xs) (suc me) v w e = let h = waiting_set xs me v w e in omega arith

weight_le : (b : Bool) → weight b ≤ 1
weight_le true = omega arith
weight_le false = omega arith

pub waiting_le : (vs : List View) → waiting vs ≤ length vs
waiting_le [] = omega arith
waiting_le (x ∷ xs) = let h = waiting_le xs in let k = weight_le x.waits in omega arith

pub waiting_append : (vs ws : List View) → waiting (vs ++ ws) ≡ waiting vs + waiting ws
waiting_append [] ws = omega arith
waiting_append (x ∷ xs) ws = let h = waiting_append xs ws in omega arith

module _ {A : Type 0} where
  pub at_end : (l : List A) (a b : A) (j : ℕ) → get_elem? (l ++ a ∷ []) j ≡ some b → (get_elem? l j ≡ some b) ⊎ ((j ≡ length l) × (a ≡ b))
  at_end [] a b zero e = inr (refl, some-injective a b e)
  at_end [] a b (suc j) e = absurd (some-ne-none b (sym e))
  at_end (x ∷ xs) a b zero e = inl e
  at_end (x ∷ xs) a b (suc j) e = ⊎_elim (λ (t : get_elem? xs j ≡ some b). inl t) (λ (t : (j ≡ length xs) × (a ≡ b)). inr (omega (arith, t.0), t.1)) (at_end xs a b j e)

  pub at_append : (l m : List A) (i : ℕ) (a : A) → get_elem? (l ++ m) i ≡ some a → (get_elem? l i ≡ some a) ⊎ ((k : ℕ) × (get_elem? m k ≡ some a))
  at_append [] m i a e = inr (i, e)
  at_append (x ∷ xs) m zero a e = inl e
  at_append (x ∷ xs) m (suc i) a e = at_append xs m i a e

  pub at_after : (l m : List A) (i : ℕ) → get_elem? (l ++ m) (length l + i) ≡ get_elem? m i
  at_after [] m i = ap (get_elem? m) (omega arith)
  at_after (x ∷ xs) m i = let n : suc (length xs) + i ≡ suc (length xs + i) = omega arith in ap (get_elem? (x ∷ (xs ++ m))) n ∙ at_after xs m i

  pub nothing_there : (i : ℕ) (a : A) → get_elem? [] i ≡ some a → ⊥
  nothing_there i a e = some-ne-none a (sym e)

pub names_set : (vs : List View) (me : ℕ) (v w : View) → get_elem? vs me ≡ some v → names_out (set vs me w) + names_of v ≡ names_out vs + names_of w
names_set [] me v w e = absurd (some-ne-none v (sym e))
names_set (x ∷ xs) zero v w e = let h : names_of x ≡ names_of v = ap names_of (some-injective x v e) in omega arith
names_set (x ∷ xs) (suc me) v w e = let h = names_set xs me v w e in omega arith

pub names_append : (vs ws : List View) → names_out (vs ++ ws) ≡ names_out vs + names_out ws
names_append [] ws = omega arith
names_append (x ∷ xs) ws = let h = names_append xs ws in omega arith

pub names_one : (vs : List View) (i : ℕ) (a : View) → get_elem? vs i ≡ some a → names_of a ≤ names_out vs
names_one [] i a e = absurd (some-ne-none a (sym e))
names_one (x ∷ xs) zero a e = let h : names_of x ≡ names_of a = ap names_of (some-injective x a e) in omega arith
names_one (x ∷ xs) (suc i) a e = let h = names_one xs i a e in omega arith

pub names_two : (vs : List View) (i j : ℕ) (a b : View) → get_elem? vs i ≡ some a → get_elem? vs j ≡ some b → i ≢ j → names_of a + names_of b ≤ names_out vs
names_two [] i j a b e f apart = absurd (some-ne-none a (sym e))
names_two (x ∷ xs) zero zero a b e f apart = absurd (apart refl)
names_two (x ∷ xs) zero (suc j) a b e f apart = let h : names_of x ≡ names_of a = ap names_of (some-injective x a e) in let k = names_one xs j b f in omega arith
names_two (x ∷ xs) (suc i) zero a b e f apart = let h : names_of x ≡ names_of b = ap names_of (some-injective x b f) in let k = names_one xs i a e in omega arith
names_two (x ∷ xs) (suc i) (suc j) a b e f apart = let k = names_two xs i j a b e f (λ h. apart (ap suc h)) in omega arith

pub has_some : (d : View) (n : ℕ) → 0 < n → HasName d n → 1 ≤ names_of d
has_some d n p has = ⊎_elim (λ (e : d.name ≡ n). omega arith) (λ (t : (i : ℕ) × (e : Ended) × (get_elem? d.ended i ≡ some e) × (e.name ≡ n)). let b = below d.ended t.0 t.1 t.2 in omega arith) has

-- the names of v are names of w, which takes its place
pub cover_stays : (vs : List View) (me : ℕ) (v w : View) → get_elem? vs me ≡ some v → ((n : ℕ) → HasName v n → HasName w n)
    → (n : ℕ) → (j : ℕ) × (d : View) × (get_elem? vs j ≡ some d) × HasName d n → (j : ℕ) × (d : View) × (get_elem? (set vs me w) j ≡ some d) × HasName d n
cover_stays vs me v w at same n c = dite (ℕ_discrete c.0 me)
    (λ e. (me, w, set_at vs me v w at, same n (subst (λ (x : View). HasName x n) (same_at vs me c.1 v (subst (λ (k : ℕ). get_elem? vs k ≡ some c.1) e c.2) at) c.3)))
    (λ other. (c.0, c.1, set_else vs me c.0 w other ∙ c.2, c.3))
