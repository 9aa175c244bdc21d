-- The numbers that ids name, in order, each once.
use Rattle.std.proofs.Common.{◌≡◌, ℕ, ◌≤◌, Bool, true, false, ◌||◌, ◌&&◌, cond, eqb, List, [], ◌∷◌, ◌++◌, take, drop, length, Option, Some, None, refl, sym, ap, ◌∙◌, subst, arith, take-take, take-append-drop}
use Rattle.std.specs.List.{list_any}
use Rattle.std.proofs.lemmas.Bool.{true≢false}
use Rattle.jm_base.specs.declared.identifiers.Id.{Id}
use Rattle.jm_base.specs.declared.identifiers.Kind.{Kind}
use Rattle.mail_records.specs.Histories.{History, ids_of}
use Rattle.mail_records.specs.States.{AreTouched, ids_between, is_id, is_kind_of}
use Rattle.mail_records.specs.Tables.{put}
use Rattle.mail_records.proofs.Tables.{IsTable-put}
use Rattle.change_calls.specs.Changes.{is_within, numbers_with, touched}
use Rattle.change_calls.proofs.Rising.{IsStrictlyIncreasing-rises, Rises, has, has-put, length-put}

pub numbers-append : (xs ys : List Id) (kind : Kind) (ns : List ℕ) → numbers_with kind ns (xs ++ ys) ≡ numbers_with kind (numbers_with kind ns xs) ys
numbers-append [] ys kind ns = refl
numbers-append (x ∷ xs) ys kind ns = numbers-append xs ys kind (cond (is_kind_of kind x) (put (λ n. n) x.number ns) ns)

rises_step : (b : Bool) (n : ℕ) (ns : List ℕ) → Rises ns → Rises (cond b (put (λ m. m) n ns) ns)
rises_step true n ns rise = IsTable-put (λ m. m) n ns rise
rises_step false n ns rise = rise

pub numbers-rise : (ids : List Id) (kind : Kind) (ns : List ℕ) → Rises ns → Rises (numbers_with kind ns ids)
numbers-rise [] kind ns rise = rise
numbers-rise (i ∷ is) kind ns rise = numbers-rise is kind _ (rises_step (is_kind_of kind i) i.number ns rise)

longer_step : (b : Bool) (n : ℕ) (ns : List ℕ) → length ns ≤ length (cond b (put (λ m. m) n ns) ns)
longer_step true n ns = length-put n ns
longer_step false n ns = omega arith

numbers-longer : (ids : List Id) (kind : Kind) (ns : List ℕ) → length ns ≤ length (numbers_with kind ns ids)
numbers-longer [] kind ns = omega arith
numbers-longer (i ∷ is) kind ns =
    let more = longer_step (is_kind_of kind i) i.number ns in
    let rest = numbers-longer is kind (cond (is_kind_of kind i) (put (λ m. m) i.number ns) ns) in
    omega arith

-- the first ids name no more than more of them
pub numbers-more : (ids : List Id) (kind : Kind) (i j : ℕ) → i ≤ j → length (numbers_with kind [] (take i ids)) ≤ length (numbers_with kind [] (take j ids))
numbers-more ids kind i j le =
    let split : take i ids ++ drop i (take j ids) ≡ take j ids = ap (λ zs. zs ++ drop i (take j ids)) (sym (take-take i j ids le)) ∙ take-append-drop i (take j ids) in
    let all : numbers_with kind (numbers_with kind [] (take i ids)) (drop i (take j ids)) ≡ numbers_with kind [] (take j ids) =
    sym (numbers-append (take i ids) (drop i (take j ids)) kind []) ∙ ap (numbers_with kind []) split in
    let longer = numbers-longer (drop i (take j ids)) kind (numbers_with kind [] (take i ids)) in
    subst (λ (zs : List ℕ). length (numbers_with kind [] (take i ids)) ≤ length zs) all longer

or_moves : (a b c : Bool) → ((a || b) || c) ≡ (b || (a || c))
or_moves true true c = refl
or_moves true false c = refl
or_moves false b c = refl

has_step : (b : Bool) (m n : ℕ) (ns : List ℕ) → has (cond b (put (λ k. k) m ns) ns) n ≡ ((b && eqb m n) || has ns n)
has_step true m n ns = has-put m n ns
has_step false m n ns = refl

-- a number is among them if and only if it was before, or an id of the kind has it
pub has-numbers : (ids : List Id) (kind : Kind) (ns : List ℕ) (n : ℕ) → has (numbers_with kind ns ids) n ≡ (has ns n || list_any (is_id kind n) ids)
has-numbers [] kind ns n = or_false (has ns n)
  where
    or_false : (b : Bool) → b ≡ (b || false)
    or_false true = refl
    or_false false = refl
has-numbers (i ∷ is) kind ns n =
    has-numbers is kind (cond (is_kind_of kind i) (put (λ m. m) i.number ns) ns) n
    ∙ (ap (λ b. b || list_any (is_id kind n) is) (has_step (is_kind_of kind i) i.number n ns)
    ∙ or_moves (is_id kind n i) (has ns n) (list_any (is_id kind n) is))

-- they are exactly the numbers that the edits of the kind name
pub AreTouched-touched : (h : History) (kind : Kind) (from upto : ℕ) → AreTouched h kind from upto (touched h kind from upto)
AreTouched-touched h kind from upto =
    let ids = ids_between h.floor from upto (ids_of h) in
    record {
      rise = IsStrictlyIncreasing-rises (numbers_with kind [] ids) (numbers-rise ids kind [] tt);
      exactly = λ n. has-numbers ids kind [] n;
    }

-- ---- maxima

pub within_zero : (max : Option ℕ) → is_within max 0 ≡ true
within_zero None = refl
within_zero (Some m) = grind arith

pub within_fails : (max : Option ℕ) (a b : ℕ) → a ≤ b → is_within max a ≡ false → is_within max b ≡ false
within_fails None a b le fails = absurd (true≢false fails)
within_fails (Some m) a b le fails = grind (arith, fails)
