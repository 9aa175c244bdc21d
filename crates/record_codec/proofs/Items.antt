-- Lists of items that are read exactly.
use Rattle.std.proofs.Common.{◌≡◌, ℕ, zero, suc, ◌^◌, ◌<◌, List, [], ◌∷◌, ◌++◌, length, Ok, Err, refl, sym, ap, subst, lit<}
use Rattle.std.specs.List.{flat_map, AllByRecursion}
use Rattle.std.proofs.lemmas.List.Concat.{flat_map-cons}
use Rattle.record_codec.specs.Encoding.{number, listed}
use Rattle.record_codec.specs.Widths.{FitsIn64Bits, LengthFitsIn64Bits, AreAll}
use Rattle.record_codec.specs.Reading.{Read, ◌>>=◌, then, items_at}
use Rattle.record_codec.specs.Readers.{number_at, listed_at, any_at, same}
use Rattle.record_codec.proofs.OneForm.{OneForm, number_one, listed_one}
use Rattle.record_codec.proofs.Exact.{Exact, Field, Encoded, stops_map, ok_is, ok_no_err, then_exact, made_exact}

-- readers that give the same are the same
pub exact_same : {A : Type 0} (P : A → Type 0) (encode : A → List ℕ) (read read' : List ℕ → Read A) → ((xs : List ℕ) → read xs ≡ read' xs) → Exact P encode read → Exact P encode read'
exact_same P encode read read' e f = subst (λ r. Exact P encode r) (λ i xs. e xs i) f

-- what is said of the values in other words
pub same_values : {A : Type 0} (P Q : A → Type 0) (encode : A → List ℕ) (read : List ℕ → Read A) → ((a : A) → P a → Q a) → ((a : A) → Q a → P a) → Exact P encode read → Exact Q encode read
same_values P Q encode read to from f = record {
  found = λ xs h a rest e. let t = f.found xs h a rest e in (to a t.0, t.1);
  fault = λ xs h left e. stops_map (Encoded P encode) (Encoded P encode) (Encoded Q encode) (Encoded Q encode) xs left (λ w s. (s.0, to s.0 s.1, s.2)) (λ w s. (s.0, from s.0 s.1, s.2)) (f.fault xs h left e);
}

-- two fields of which a value is made
abbrev pairing : {A B : Type 0} → A → B × List ℕ → Read (A × B)
pairing a b = Ok ((a, b.0), b.1)

abbrev making : {A B C : Type 0} → (A → B → C) → (A × B) × List ℕ → Read C
making make p = Ok (make p.0.0 p.0.1, p.1)

abbrev onto : {A B C : Type 0} → (A → B → C) → A → B × List ℕ → Read C
onto make a b = Ok (make a b.0, b.1)

abbrev behind : {A B : Type 0} → (A × B) × List ℕ → Read B
behind p = Ok (p.0.1, p.1)

joined_one : {A B C : Type 0} (make : A → B → C) (a : A) (q : Read B) → ((q >>= pairing a) >>= making make) ≡ (q >>= onto make a)
joined_one make a (Ok b) = refl
joined_one make a (Err left) = refl

pub joined : {A B C : Type 0} (make : A → B → C) (r : Read A) (k : A → List ℕ → Read B)
    → ((r >>= λ (a : A × List ℕ). k a.0 a.1 >>= pairing a.0) >>= making make) ≡ (r >>= λ (a : A × List ℕ). k a.0 a.1 >>= onto make a.0)
joined make (Ok a) k = joined_one make a.0 (k a.0 a.1)
joined make (Err left) k = refl

-- the second of two fields
second_one : {A B : Type 0} (a : A) (q : Read B) → ((q >>= pairing a) >>= behind) ≡ q
second_one a (Ok b) = refl
second_one a (Err left) = refl

pub second_of : {A B : Type 0} (r : Read A) (k : A → List ℕ → Read B) → ((r >>= λ (a : A × List ℕ). k a.0 a.1 >>= pairing a.0) >>= behind) ≡ (r >>= λ (a : A × List ℕ). k a.0 a.1)
second_of (Ok a) k = second_one a.0 (k a.0 a.1)
second_of (Err left) k = refl

-- items in a row: each as the state before it asks
abbrev pub Chain : {S A : Type 0} → (S → ℕ → A → Type 0) → (S → A → S) → S → ℕ → List A → Type 0
Chain P next s zero [] = Unit {0}
Chain P next s zero (a ∷ items) = ⊥
Chain P next s (suc n) [] = ⊥
Chain P next s (suc n) (a ∷ items) = P s n a × Chain P next (next s a) n items

module _ {S A : Type 0} (P : S → ℕ → A → Type 0) (encode : A → List ℕ) (item : S → ℕ → List ℕ → Read A) (next : S → A → S) where
  pub chain_long : (s : S) (n : ℕ) (items : List A) → Chain P next s n items → length items ≡ n
  chain_long s zero [] h = refl
  chain_long s zero (a ∷ items) h = absurd h
  chain_long s (suc n) [] h = absurd h
  chain_long s (suc n) (a ∷ items) h = ap suc (chain_long (next s a) n items h.1)

  module _ (Keeps : S → ℕ → Type 0) (one : (s : S) (n : ℕ) → OneForm (P s n) encode) (exact : (s : S) (n : ℕ) → Keeps s (suc n) → Exact (P s n) encode (item s n))
      (keeps : (s : S) (n : ℕ) (a : A) → Keeps s (suc n) → P s n a → length (encode a) < 2 ^ 63 → Keeps (next s a) n)
      (more : (s : S) (n : ℕ) (a : A) → P s n a → (items : List A) × Chain P next (next s a) n items) where
    pub items_exact : (s : S) (n : ℕ) → Keeps s n → Exact (Chain P next s n) (flat_map encode) (items_at item next s n)
    items_exact s zero k = record {
      found = λ xs h items rest e.
          let all : List A × List ℕ = ([], xs) in
          subst (λ (r : List A × List ℕ). Chain P next s zero r.0 × (xs ≡ flat_map encode r.0 ++ r.1)) (ok_is all (items, rest) e) (tt, refl);
      fault = λ xs h left e. absurd (ok_no_err ([], xs) left e);
    }
    items_exact s (suc n) k =
        let pairs = then_exact (P s n) encode (item s n) (λ a. Chain P next (next s a) n) (λ a. flat_map encode) (λ a. items_at item next (next s a) n) (one s n) (exact s n k) (more s n)
        (λ a p short. items_exact (next s a) n (keeps s n a k p short)) in
        let whole = made_exact (λ (p : A × List A). P s n p.0 × Chain P next (next s p.0) n p.1) (λ p. encode p.0 ++ flat_map encode p.1) (then (item s n) (λ a. items_at item next (next s a) n))
        (Chain P next s (suc n)) (flat_map encode) (λ p. p.0 ∷ p.1)
        (λ p h. (h, flat_map-cons encode p.0 p.1)) (split s n) pairs in
        exact_same (Chain P next s (suc n)) (flat_map encode) _ (items_at item next s (suc n)) (λ xs. joined (λ a items. a ∷ items) (item s n xs) (λ a. items_at item next (next s a) n)) whole
      where
        split : (s : S) (n : ℕ) (items : List A) → Chain P next s (suc n) items → (p : A × List A) × (P s n p.0 × Chain P next (next s p.0) n p.1) × (p.0 ∷ p.1 ≡ items)
        split s n [] h = absurd h
        split s n (a ∷ items) h = ((a, items), h, refl)

  -- a list is its count and its items
  abbrev pub Listed : S → List A → Type 0
  Listed s items = LengthFitsIn64Bits items × Chain P next s (length items) items

  pub listed_exact : Exact FitsIn64Bits number number_at → (s : S) → ((n : ℕ) → FitsIn64Bits n → Exact (Chain P next s n) (flat_map encode) (items_at item next s n)) → ((n : ℕ) → FitsIn64Bits n → (items : List A) × Chain P next s n items)
      → Exact (Listed s) (listed encode) (listed_at item next s)
  listed_exact counts s exact some =
      let pairs = then_exact FitsIn64Bits number number_at (Chain P next s) (λ n. flat_map encode) (items_at item next s) number_one counts some (λ n w short. exact n w) in
      let whole = made_exact (λ (p : ℕ × List A). FitsIn64Bits p.0 × Chain P next s p.0 p.1) (λ p. number p.0 ++ flat_map encode p.1) (then number_at (items_at item next s))
      (Listed s) (listed encode) (λ p. p.1)
      (λ p h. let l = chain_long s p.0 p.1 h.1 in ((subst FitsIn64Bits (sym l) h.0, subst (λ k. Chain P next s k p.1) (sym l) h.1), ap (λ k. number k ++ flat_map encode p.1) l))
      (λ items h. ((length items, items), h, refl)) pairs in
      exact_same (Listed s) (listed encode) _ (listed_at item next s) (λ xs. second_of (number_at xs) (items_at item next s)) whole

-- items that ask nothing of each other
module _ {A : Type 0} (P : A → Type 0) (encode : A → List ℕ) (read : List ℕ → Read A) where
  abbrev Any : Unit {0} → ℕ → A → Type 0
  Any s n a = P a

  all_chain : (items : List A) → AllByRecursion P items → Chain Any same tt (length items) items
  all_chain [] h = tt
  all_chain (a ∷ items) h = (h.0, all_chain items h.1)

  chain_all : (n : ℕ) (items : List A) → Chain Any same tt n items → AllByRecursion P items
  chain_all zero [] h = tt
  chain_all zero (a ∷ items) h = absurd h
  chain_all (suc n) [] h = absurd h
  chain_all (suc n) (a ∷ items) h = (h.0, chain_all n items h.1)

  copies : (a : A) → P a → (n : ℕ) → (items : List A) × Chain Any same tt n items
  copies a p zero = ([], tt)
  copies a p (suc n) = let more = copies a p n in (a ∷ more.0, (p, more.1))

  pub list_field : Exact FitsIn64Bits number number_at → Field P encode read → Field (AreAll P) (listed encode) (listed_at (any_at read) same tt)
  list_field counts f = record {
    one = listed_one P encode f.one;
    some = ([], (lit< tt, tt));
    exact = same_values (Listed Any encode (any_at read) same tt) (AreAll P) (listed encode) (listed_at (any_at read) same tt)
        (λ items h. (h.0, chain_all (length items) items h.1)) (λ items h. (h.0, all_chain items h.1))
        (listed_exact Any encode (any_at read) same counts tt
        (λ n w. items_exact Any encode (any_at read) same (λ s m. Unit {0}) (λ s m. f.one) (λ s m k. f.exact) (λ s m a k p short. tt) (λ s m a p. copies f.some.0 f.some.1 m) tt n tt)
        (λ n w. copies f.some.0 f.some.1 n));
  }
