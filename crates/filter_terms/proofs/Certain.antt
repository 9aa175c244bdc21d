-- What terms say of an email whatever its texts are, one term after another.
use Rattle.std.proofs.Common.{◌≡◌, ℕ, ◌<◌, ◌≤◌, ◌+◌, List, [], ◌∷◌, drop, length, get_or, Bool, true, false, ◌&&◌, ◌||◌, Vec, Global, Option, Some, None, refl, sym, ap, ◌∙◌}
use Rattle.std.specs.Prelude.{IfSome, IfOk, Result, Ok, Err}
use Rattle.std.proofs.lemmas.Bool.{true≢false}
use Rattle.jm_base.specs.declared.memory.NoMemory.{NoMemory}
use Rattle.std.proofs.lemmas.List.{at_drop_all, at_drop_more}
use Rattle.filter_terms.specs.Compiled.{IsMatch, IsAlwaysMatch, IsAlwaysMatchOf, IsMatchOf, all_true, match_each, terms_match, some_true}
use Rattle.filter_terms.specs.Filters.{joined}
use Rattle.filter_terms.specs.Targets.{AnEmail, EmailInThread, Target}
use Rattle.filter_terms.specs.Texts.{MessageTexts}
use Rattle.filter_terms.specs.declared.compiled.Terms.{Terms}
use Rattle.filter_terms.specs.declared.compiled.Terms.TheVariants.{Join}
use Rattle.filter_terms.specs.declared.terms.Operator.{Operator}
use Rattle.filter_terms.proofs.Matched.{match_join}

-- the items are false if the rest is; and they are what the rest is, if the others are known
pub record AllFollow (rest items : List Terms) (known : Bool) (s : EmailInThread) : Type 0 where
  pub never : (texts : ℕ → MessageTexts) → all_true (match_each rest (AnEmail texts s)) ≡ false → all_true (match_each items (AnEmail texts s)) ≡ false
  pub same : known ≡ true → (texts : ℕ → MessageTexts) → all_true (match_each rest (AnEmail texts s)) ≡ all_true (match_each items (AnEmail texts s))

pub record SomeFollow (rest items : List Terms) (known : Bool) (s : EmailInThread) : Type 0 where
  pub always : (texts : ℕ → MessageTexts) → some_true (match_each rest (AnEmail texts s)) ≡ true → some_true (match_each items (AnEmail texts s)) ≡ true
  pub same : known ≡ true → (texts : ℕ → MessageTexts) → some_true (match_each rest (AnEmail texts s)) ≡ some_true (match_each items (AnEmail texts s))

and_false : (b r : Bool) → r ≡ false → (b && r) ≡ false
and_false true r e = e
and_false false r e = refl

or_true : (b r : Bool) → r ≡ true → (b || r) ≡ true
or_true true r e = refl
or_true false r e = e

all_here : (items : List Terms) (i : ℕ) (t : Terms) (x : Target) → i < length items → t ≡ get_or items i t → all_true (match_each (drop i items) x) ≡ (terms_match t x && all_true (match_each (drop (i + 1) items) x))
all_here items i t x within is =
    at_drop_more (λ ts. all_true (match_each ts x)) items i t within
    ∙ ap (λ u. terms_match u x && all_true (match_each (drop (i + 1) items) x)) (sym is)

some_here : (items : List Terms) (i : ℕ) (t : Terms) (x : Target) → i < length items → t ≡ get_or items i t → some_true (match_each (drop i items) x) ≡ (terms_match t x || some_true (match_each (drop (i + 1) items) x))
some_here items i t x within is =
    at_drop_more (λ ts. some_true (match_each ts x)) items i t within
    ∙ ap (λ u. terms_match u x || some_true (match_each (drop (i + 1) items) x)) (sym is)

pub all_after_true : (items : List Terms) (i : ℕ) (t : Terms) (known : Bool) (s : EmailInThread) → i < length items → t ≡ get_or items i t → (b : Bool) → b ≡ true → IsAlwaysMatch t s b
    → AllFollow (drop i items) items known s → AllFollow (drop (i + 1) items) items known s
all_after_true items i t known s within is b is_true matches_so so_far = record {
  never = λ texts e. so_far.never texts (all_here items i t (AnEmail texts s) within is ∙ and_false (terms_match t (AnEmail texts s)) _ e);
  same = λ k texts. ap (λ v. v && all_true (match_each (drop (i + 1) items) (AnEmail texts s))) (sym is_true ∙ matches_so texts) ∙ sym (all_here items i t (AnEmail texts s) within is) ∙ so_far.same k texts;
}

pub all_after_unknown : (items : List Terms) (i : ℕ) (t : Terms) (known : Bool) (s : EmailInThread) → i < length items → t ≡ get_or items i t
    → AllFollow (drop i items) items known s → AllFollow (drop (i + 1) items) items false s
all_after_unknown items i t known s within is so_far = record {
  never = λ texts e. so_far.never texts (all_here items i t (AnEmail texts s) within is ∙ and_false (terms_match t (AnEmail texts s)) _ e);
  same = λ k. absurd (true≢false (sym k));
}

pub all_at_false : (items : List Terms) (i : ℕ) (t : Terms) (known : Bool) (s : EmailInThread) → i < length items → t ≡ get_or items i t → (b : Bool) → b ≡ false → IsAlwaysMatch t s b
    → AllFollow (drop i items) items known s → IsAlwaysMatchOf all_true items s false
all_at_false items i t known s within is b is_false matches_so so_far =
    λ texts. sym (so_far.never texts (all_here items i t (AnEmail texts s) within is ∙ ap (λ v. v && all_true (match_each (drop (i + 1) items) (AnEmail texts s))) (sym (matches_so texts) ∙ is_false)))

pub some_after_false : (items : List Terms) (i : ℕ) (t : Terms) (known : Bool) (s : EmailInThread) → i < length items → t ≡ get_or items i t → (b : Bool) → b ≡ false → IsAlwaysMatch t s b
    → SomeFollow (drop i items) items known s → SomeFollow (drop (i + 1) items) items known s
some_after_false items i t known s within is b is_false matches_so so_far = record {
  always = λ texts e. so_far.always texts (some_here items i t (AnEmail texts s) within is ∙ or_true (terms_match t (AnEmail texts s)) _ e);
  same = λ k texts. ap (λ v. v || some_true (match_each (drop (i + 1) items) (AnEmail texts s))) (sym is_false ∙ matches_so texts) ∙ sym (some_here items i t (AnEmail texts s) within is) ∙ so_far.same k texts;
}

pub some_after_unknown : (items : List Terms) (i : ℕ) (t : Terms) (known : Bool) (s : EmailInThread) → i < length items → t ≡ get_or items i t
    → SomeFollow (drop i items) items known s → SomeFollow (drop (i + 1) items) items false s
some_after_unknown items i t known s within is so_far = record {
  always = λ texts e. so_far.always texts (some_here items i t (AnEmail texts s) within is ∙ or_true (terms_match t (AnEmail texts s)) _ e);
  same = λ k. absurd (true≢false (sym k));
}

pub some_at_true : (items : List Terms) (i : ℕ) (t : Terms) (known : Bool) (s : EmailInThread) → i < length items → t ≡ get_or items i t → (b : Bool) → b ≡ true → IsAlwaysMatch t s b
    → SomeFollow (drop i items) items known s → IsAlwaysMatchOf some_true items s true
some_at_true items i t known s within is b is_true matches_so so_far =
    λ texts. sym (so_far.always texts (some_here items i t (AnEmail texts s) within is ∙ ap (λ v. v || some_true (match_each (drop (i + 1) items) (AnEmail texts s))) (sym (matches_so texts) ∙ is_true)))

pub all_ends : (items : List Terms) (i : ℕ) (s : EmailInThread) (known : Bool) → length items ≤ i → known ≡ true → AllFollow (drop i items) items known s → IsAlwaysMatchOf all_true items s true
all_ends items i s known past is_true so_far = λ texts. sym (at_drop_all (λ ts. all_true (match_each ts (AnEmail texts s))) items i past) ∙ so_far.same is_true texts

pub some_ends : (items : List Terms) (i : ℕ) (s : EmailInThread) (known : Bool) → length items ≤ i → known ≡ true → SomeFollow (drop i items) items known s → IsAlwaysMatchOf some_true items s false
some_ends items i s known past is_true so_far = λ texts. sym (at_drop_all (λ ts. some_true (match_each ts (AnEmail texts s))) items i past) ∙ so_far.same is_true texts

-- what the joined terms always say, their operator does
pub join_known : (operator : Operator) (ts : Vec Terms Global) (s : EmailInThread) (o : Option Bool) → IfSome o (IsAlwaysMatchOf (joined operator) ts.items s) → IfSome o (IsAlwaysMatch (Join operator ts) s)
join_known operator ts s None h = h
join_known operator ts s (Some b) h = λ texts. h texts ∙ sym (match_join operator ts (AnEmail texts s))

-- what the joined terms say of an email with a message, their operator does
pub join_decided : (operator : Operator) (ts : Vec Terms Global) (s : EmailInThread) (m : MessageTexts) (r : Result Bool NoMemory) → IfOk r (IsMatchOf (joined operator) ts.items s m) → IfOk r (IsMatch (Join operator ts) s m)
join_decided operator ts s m (Ok b) h = λ texts e. h texts e ∙ sym (match_join operator ts (AnEmail texts s))
join_decided operator ts s m (Err e) h = h

pub all_after : (items : List Terms) (i : ℕ) (t : Terms) (b : Bool) (s : EmailInThread) (texts : ℕ → MessageTexts) → i < length items → t ≡ get_or items i t → b ≡ true → b ≡ terms_match t (AnEmail texts s)
    → all_true (match_each (drop i items) (AnEmail texts s)) ≡ all_true (match_each items (AnEmail texts s)) → all_true (match_each (drop (i + 1) items) (AnEmail texts s)) ≡ all_true (match_each items (AnEmail texts s))
all_after items i t b s texts within is is_true matched so_far =
    ap (λ v. v && all_true (match_each (drop (i + 1) items) (AnEmail texts s))) (sym is_true ∙ matched) ∙ sym (all_here items i t (AnEmail texts s) within is) ∙ so_far

pub all_stops : (items : List Terms) (i : ℕ) (t : Terms) (b : Bool) (s : EmailInThread) (texts : ℕ → MessageTexts) → i < length items → t ≡ get_or items i t → b ≡ false → b ≡ terms_match t (AnEmail texts s)
    → all_true (match_each (drop i items) (AnEmail texts s)) ≡ all_true (match_each items (AnEmail texts s)) → false ≡ all_true (match_each items (AnEmail texts s))
all_stops items i t b s texts within is is_false matched so_far =
    ap (λ v. v && all_true (match_each (drop (i + 1) items) (AnEmail texts s))) (sym is_false ∙ matched) ∙ sym (all_here items i t (AnEmail texts s) within is) ∙ so_far

pub some_after : (items : List Terms) (i : ℕ) (t : Terms) (b : Bool) (s : EmailInThread) (texts : ℕ → MessageTexts) → i < length items → t ≡ get_or items i t → b ≡ false → b ≡ terms_match t (AnEmail texts s)
    → some_true (match_each (drop i items) (AnEmail texts s)) ≡ some_true (match_each items (AnEmail texts s)) → some_true (match_each (drop (i + 1) items) (AnEmail texts s)) ≡ some_true (match_each items (AnEmail texts s))
some_after items i t b s texts within is is_false matched so_far =
    ap (λ v. v || some_true (match_each (drop (i + 1) items) (AnEmail texts s))) (sym is_false ∙ matched) ∙ sym (some_here items i t (AnEmail texts s) within is) ∙ so_far

pub some_stops : (items : List Terms) (i : ℕ) (t : Terms) (b : Bool) (s : EmailInThread) (texts : ℕ → MessageTexts) → i < length items → t ≡ get_or items i t → b ≡ true → b ≡ terms_match t (AnEmail texts s)
    → some_true (match_each (drop i items) (AnEmail texts s)) ≡ some_true (match_each items (AnEmail texts s)) → true ≡ some_true (match_each items (AnEmail texts s))
some_stops items i t b s texts within is is_true matched so_far =
    ap (λ v. v || some_true (match_each (drop (i + 1) items) (AnEmail texts s))) (sym is_true ∙ matched) ∙ sym (some_here items i t (AnEmail texts s) within is) ∙ so_far

pub all_end : (items : List Terms) (i : ℕ) (x : Target) → length items ≤ i → all_true (match_each (drop i items) x) ≡ all_true (match_each items x) → true ≡ all_true (match_each items x)
all_end items i x past so_far = sym (at_drop_all (λ ts. all_true (match_each ts x)) items i past) ∙ so_far

pub some_end : (items : List Terms) (i : ℕ) (x : Target) → length items ≤ i → some_true (match_each (drop i items) x) ≡ some_true (match_each items x) → false ≡ some_true (match_each items x)
some_end items i x past so_far = sym (at_drop_all (λ ts. some_true (match_each ts x)) items i past) ∙ so_far
