-- Readers that are exact: what they read is encoded so, and where they stop no encoding continues.
use Rattle.std.proofs.Common.{◌≡◌, ℕ, suc, ◌^◌, ◌<◌, List, [], ◌∷◌, ◌++◌, length, Result, Ok, Err, refl, sym, ap, ap₂, subst, ◌∙◌, ◌⊎◌, inl, inr, append_assoc, length-append, arith}
use Rattle.std.proofs.lemmas.List.{append-nil}
use Rattle.record_codec.specs.Offsets.{AreBytes}
use Rattle.record_codec.specs.Reading.{Read, ◌>>=◌, then, both, made}
use Rattle.record_codec.proofs.OneForm.{OneForm, first}

-- what a reader is given: bytes, as many as can lie in memory
pub record IsInput (xs : List ℕ) : Type 0 where
  pub bytes : AreBytes xs
  pub short : length xs < 2 ^ 63

pub bytes_left : (xs ys : List ℕ) → AreBytes (xs ++ ys) → AreBytes xs
bytes_left [] ys h = tt
bytes_left (x ∷ xs) ys h = (h.0, bytes_left xs ys h.1)

pub bytes_right : (xs ys : List ℕ) → AreBytes (xs ++ ys) → AreBytes ys
bytes_right [] ys h = h
bytes_right (x ∷ xs) ys h = bytes_right xs ys h.1

pub bytes_both : (xs ys : List ℕ) → AreBytes xs → AreBytes ys → AreBytes (xs ++ ys)
bytes_both [] ys h k = k
bytes_both (x ∷ xs) ys h k = (h.0, bytes_both xs ys h.1 k)

pub rest_input : (xs front rest : List ℕ) → IsInput xs → xs ≡ front ++ rest → IsInput rest
rest_input xs front rest h e = record {
  bytes = bytes_right front rest (subst AreBytes e h.bytes);
  short = omega (arith, h.short, ap length e, length-append front rest);
}

pub front_short : (xs front rest : List ℕ) → IsInput xs → xs ≡ front ++ rest → length front < 2 ^ 63
front_short xs front rest h e = omega (arith, h.short, ap length e, length-append front rest)

-- Where reading stops: the bytes up to here are begun by a word of the one kind, and no word of the other continues the
-- byte that is there.
pub record Stops (B L : List ℕ → Type 0) (xs : List ℕ) (left : ℕ) : Type 0 where
  pub front : List ℕ
  pub back : List ℕ
  pub parts : xs ≡ front ++ back
  pub left_is : length back ≡ left
  pub byte : ℕ
  pub rest : List ℕ
  pub begins : B (front ++ byte ∷ rest)
  pub ends : (b : ℕ) (more ys : List ℕ) → back ≡ b ∷ more → ¬ L (front ++ b ∷ ys)

pub stops_map : (B L B' L' : List ℕ → Type 0) (xs : List ℕ) (left : ℕ) → ((w : List ℕ) → B w → B' w) → ((w : List ℕ) → L' w → L w) → Stops B L xs left → Stops B' L' xs left
stops_map B L B' L' xs left to from s = record {
  front = s.front;
  back = s.back;
  parts = s.parts;
  left_is = s.left_is;
  byte = s.byte;
  rest = s.rest;
  begins = to (s.front ++ s.byte ∷ s.rest) s.begins;
  ends = λ b more ys e l. s.ends b more ys e (from (s.front ++ b ∷ ys) l);
}

pub stops_later : (B L B' L' : List ℕ → Type 0) (c : ℕ) (xs : List ℕ) (left : ℕ) → ((w : List ℕ) → B w → B' (c ∷ w)) → ((w : List ℕ) → L' (c ∷ w) → L w) → Stops B L xs left → Stops B' L' (c ∷ xs) left
stops_later B L B' L' c xs left to from s = record {
  front = c ∷ s.front;
  back = s.back;
  parts = ap (λ (w : List ℕ). c ∷ w) s.parts;
  left_is = s.left_is;
  byte = s.byte;
  rest = s.rest;
  begins = to (s.front ++ s.byte ∷ s.rest) s.begins;
  ends = λ b more ys e l. s.ends b more ys e (from (s.front ++ b ∷ ys) l);
}

-- the first byte is the one at which nothing continues
pub stops_here : (B L : List ℕ → Type 0) (c : ℕ) (xs : List ℕ) (b : ℕ) (rest : List ℕ) → B (b ∷ rest) → ((ys : List ℕ) → ¬ L (c ∷ ys)) → Stops B L (c ∷ xs) (suc (length xs))
stops_here B L c xs b rest begun none = record {
  front = [];
  back = c ∷ xs;
  parts = refl;
  left_is = refl;
  byte = b;
  rest = rest;
  begins = begun;
  ends = λ d more ys e l. none ys (subst (λ (z : ℕ). L (z ∷ ys)) (head_is d c more xs e) l);
}
  where
    head_is : (d c : ℕ) (more xs : List ℕ) → c ∷ xs ≡ d ∷ more → d ≡ c
    head_is d c more xs e = cc

-- the bytes end, and more could come
pub stops_short : (B L : List ℕ → Type 0) (xs : List ℕ) (b : ℕ) (rest : List ℕ) → B (xs ++ b ∷ rest) → Stops B L xs 0
stops_short B L xs b rest begun = record {
  front = xs;
  back = [];
  parts = sym (append-nil xs);
  left_is = refl;
  byte = b;
  rest = rest;
  begins = begun;
  ends = λ d more ys e l. absurd (nothing d more e);
}
  where
    nothing : (d : ℕ) (more : List ℕ) → [] ≡ d ∷ more → ⊥
    nothing d more e = cc

abbrev pub Encoded : {A : Type 0} → (A → Type 0) → (A → List ℕ) → List ℕ → Type 0
Encoded {A} P encode w = (a : A) × P a × (w ≡ encode a)

pub record Exact {A : Type 0} (P : A → Type 0) (encode : A → List ℕ) (read : List ℕ → Read A) : Type 0 where
  pub found : (xs : List ℕ) → IsInput xs → (a : A) (rest : List ℕ) → read xs ≡ Ok (a, rest) → P a × (xs ≡ encode a ++ rest)
  pub fault : (xs : List ℕ) → IsInput xs → (left : ℕ) → read xs ≡ Err left → Stops (Encoded P encode) (Encoded P encode) xs left

-- ---- steps that did or did not fail
pub bind_ok : {A B : Type 0} (r : Result A ℕ) (f : A → Result B ℕ) (y : B) → (r >>= f) ≡ Ok y → (x : A) × (r ≡ Ok x) × (f x ≡ Ok y)
bind_ok (Ok x) f y e = (x, refl, e)
bind_ok (Err d) f y e = absurd cc

abbrev failed : {A : Type 0} → ℕ → Result A ℕ
failed left = Err left

err_is : {B : Type 0} (d left : ℕ) → failed {A = B} d ≡ failed {A = B} left → d ≡ left
err_is d left e = cc

pub bind_err : {A B : Type 0} (r : Result A ℕ) (f : A → Result B ℕ) (left : ℕ) → (r >>= f) ≡ Err left → (r ≡ Err left) ⊎ ((x : A) × (r ≡ Ok x) × (f x ≡ Err left))
bind_err (Ok x) f left e = inr (x, refl, e)
bind_err {A} {B} (Err d) f left e = inl (ap (λ k. failed {A = A} k) (err_is {B = B} d left e))

abbrev done : {A : Type 0} → A → Result A ℕ
done x = Ok x

pub ok_is : {A : Type 0} (x y : A) → done x ≡ done y → x ≡ y
ok_is x y e = cc

pub ok_no_err : {A : Type 0} (x : A) (left : ℕ) → done x ≡ Err left → ⊥
ok_no_err x left e = cc

-- ---- one field, and then another
-- of two that are the same bytes, the one ends in the other
pub cut_at : (u v z ys : List ℕ) (b : ℕ) → u ++ b ∷ ys ≡ v ++ z → ((w : List ℕ) × (v ≡ u ++ b ∷ w)) ⊎ ((w : List ℕ) × (u ≡ v ++ w))
cut_at u [] z ys b e = inr (u, refl)
cut_at [] (c ∷ v) z ys b e = inl (v, cc)
cut_at (c ∷ u) (d ∷ v) z ys b e =
    let heads : c ≡ d = cc in
    let tails : u ++ b ∷ ys ≡ v ++ z = cc in
    elim (cut_at u v z ys b tails) [
      | inl t ↦ inl (t.0, ap₂ (λ (h : ℕ) (l : List ℕ). h ∷ l) (sym heads) t.1)
      | inr t ↦ inr (t.0, ap₂ (λ (h : ℕ) (l : List ℕ). h ∷ l) heads t.1)
    ]

nothing_more : (z rest : List ℕ) (b : ℕ) → z ++ b ∷ rest ≡ [] → ⊥
nothing_more [] rest b e = cc
nothing_more (c ∷ z) rest b e = cc

module _ {A B : Type 0} (P : A → Type 0) (encode : A → List ℕ) (read : List ℕ → Read A) (Q : A → B → Type 0) (encode' : A → B → List ℕ) (read' : A → List ℕ → Read B)
    (one : OneForm P encode) where
  abbrev Both : A × B → Type 0
  Both p = P p.0 × Q p.0 p.1

  abbrev spell_both : A × B → List ℕ
  spell_both p = encode p.0 ++ encode' p.0 p.1

  stops_first : (xs : List ℕ) (left : ℕ) → ((a : A) → P a → (b : B) × Q a b) → Stops (Encoded P encode) (Encoded P encode) xs left → Stops (Encoded Both spell_both) (Encoded Both spell_both) xs left
  stops_first xs left some s =
      let a = s.begins.0 in
      let other = some a s.begins.1 in
      record {
        front = s.front;
        back = s.back;
        parts = s.parts;
        left_is = s.left_is;
        byte = s.byte;
        rest = s.rest ++ encode' a other.0;
        begins = ((a, other.0), (s.begins.1, other.1), sym (append_assoc s.front (s.byte ∷ s.rest) (encode' a other.0)) ∙ ap (λ (w : List ℕ). w ++ encode' a other.0) s.begins.2);
        ends = λ b more ys e l. elim (cut_at s.front (encode l.0.0) (encode' l.0.0 l.0.1) ys b l.2) [
          | inl t ↦ s.ends b more t.0 e (l.0.0, l.1.0, sym t.1)
          | inr t ↦
              let whole : encode l.0.0 ++ (t.0 ++ s.byte ∷ s.rest) ≡ encode a ++ [] = sym (append_assoc (encode l.0.0) t.0 (s.byte ∷ s.rest)) ∙ ap (λ (w : List ℕ). w ++ s.byte ∷ s.rest) (sym t.1) ∙ s.begins.2 ∙ sym (append-nil (encode a)) in
              nothing_more t.0 s.rest s.byte (one l.0.0 a (t.0 ++ s.byte ∷ s.rest) [] l.1.0 s.begins.1 whole).1
        ];
      }

  stops_second : (xs : List ℕ) (left : ℕ) (a : A) (rest : List ℕ) → P a → xs ≡ encode a ++ rest → Stops (Encoded (Q a) (encode' a)) (Encoded (Q a) (encode' a)) rest left → Stops (Encoded Both spell_both) (Encoded Both spell_both) xs left
  stops_second xs left a rest p e s = record {
    front = encode a ++ s.front;
    back = s.back;
    parts = e ∙ ap (λ (w : List ℕ). encode a ++ w) s.parts ∙ sym (append_assoc (encode a) s.front s.back);
    left_is = s.left_is;
    byte = s.byte;
    rest = s.rest;
    begins = ((a, s.begins.0), (p, s.begins.1), append_assoc (encode a) s.front (s.byte ∷ s.rest) ∙ ap (λ (w : List ℕ). encode a ++ w) s.begins.2);
    ends = λ b more ys f l.
        let o = one a l.0.0 (s.front ++ b ∷ ys) (encode' l.0.0 l.0.1) p l.1.0 (sym (append_assoc (encode a) s.front (b ∷ ys)) ∙ l.2) in
        s.ends b more ys f (l.0.1, subst (λ (c : A). Q c l.0.1) (sym o.0) l.1.1, o.1 ∙ ap (λ (c : A). encode' c l.0.1) (sym o.0));
  }

  pub then_one : ((a : A) → P a → OneForm (Q a) (encode' a)) → OneForm Both spell_both
  then_one two p q x y hp hq e =
      let f = first P encode one p.0 q.0 (encode' p.0 p.1) (encode' q.0 q.1) x y hp.0 hq.0 e in
      let g = two p.0 hp.0 p.1 q.1 x y hp.1 (subst (λ (c : A). Q c q.1) (sym f.0) hq.1) (f.1 ∙ ap (λ (c : A). encode' c q.1 ++ y) (sym f.0)) in
      (λ i. (f.0 i, g.0 i), g.1)

  pub then_exact : Exact P encode read → ((a : A) → P a → (b : B) × Q a b) → ((a : A) → P a → length (encode a) < 2 ^ 63 → Exact (Q a) (encode' a) (read' a)) → Exact Both spell_both (then read read')
  then_exact f some g = record {
    found = λ xs h p rest e.
        let b1 = bind_ok (read xs) (λ a. read' a.0 a.1 >>= λ b. Ok ((a.0, b.0), b.1)) (p, rest) e in
        let t1 = f.found xs h b1.0.0 b1.0.1 b1.1 in
        let b2 = bind_ok (read' b1.0.0 b1.0.1) (λ b. Ok ((b1.0.0, b.0), b.1)) (p, rest) b1.2 in
        let t2 = (g b1.0.0 t1.0 (front_short xs (encode b1.0.0) b1.0.1 h t1.1)).found b1.0.1 (rest_input xs (encode b1.0.0) b1.0.1 h t1.1) b2.0.0 b2.0.1 b2.1 in
        let whole : xs ≡ (encode b1.0.0 ++ encode' b1.0.0 b2.0.0) ++ b2.0.1 = t1.1 ∙ ap (λ (w : List ℕ). encode b1.0.0 ++ w) t2.1 ∙ sym (append_assoc (encode b1.0.0) (encode' b1.0.0 b2.0.0) b2.0.1) in
        let all : (A × B) × List ℕ = ((b1.0.0, b2.0.0), b2.0.1) in
        subst (λ (r : (A × B) × List ℕ). Both r.0 × (xs ≡ spell_both r.0 ++ r.1)) (ok_is all (p, rest) b2.2) ((t1.0, t2.0), whole);
    fault = λ xs h left e.
        elim (bind_err (read xs) (λ a. read' a.0 a.1 >>= λ b. Ok ((a.0, b.0), b.1)) left e) [
          | inl e1 ↦ stops_first xs left some (f.fault xs h left e1)
          | inr b1 ↦
              let t1 = f.found xs h b1.0.0 b1.0.1 b1.1 in
              let g1 = g b1.0.0 t1.0 (front_short xs (encode b1.0.0) b1.0.1 h t1.1) in
              elim (bind_err (read' b1.0.0 b1.0.1) (λ b. Ok ((b1.0.0, b.0), b.1)) left b1.2) [
                | inl e2 ↦ stops_second xs left b1.0.0 b1.0.1 t1.0 t1.1 (g1.fault b1.0.1 (rest_input xs (encode b1.0.0) b1.0.1 h t1.1) left e2)
                | inr b2 ↦ absurd (ok_no_err ((b1.0.0, b2.0.0), b2.0.1) left b2.2)
              ]
        ];
  }

-- ---- a value that is made of another
module _ {A B : Type 0} (P : A → Type 0) (encode : A → List ℕ) (read : List ℕ → Read A) (Q : B → Type 0) (encode' : B → List ℕ) (make : A → B)
    (to : (a : A) → P a → Q (make a) × (encode' (make a) ≡ encode a)) (from : (b : B) → Q b → (a : A) × P a × (make a ≡ b)) where
  spelled_to : (w : List ℕ) → Encoded P encode w → Encoded Q encode' w
  spelled_to w s = let t = to s.0 s.1 in (make s.0, t.0, s.2 ∙ sym t.1)

  spelled_from : (w : List ℕ) → Encoded Q encode' w → Encoded P encode w
  spelled_from w s = let f = from s.0 s.1 in (f.0, f.1, s.2 ∙ ap encode' (sym f.2) ∙ (to f.0 f.1).1)

  pub made_one : OneForm P encode → OneForm Q encode'
  made_one one b c x y p q e =
      let f = from b p in
      let g = from c q in
      let left : encode f.0 ++ x ≡ encode' b ++ x = ap (λ (w : List ℕ). w ++ x) (sym (to f.0 f.1).1 ∙ ap encode' f.2) in
      let right : encode' c ++ y ≡ encode g.0 ++ y = ap (λ (w : List ℕ). w ++ y) (ap encode' (sym g.2) ∙ (to g.0 g.1).1) in
      let o = one f.0 g.0 x y f.1 g.1 (left ∙ e ∙ right) in
      (sym f.2 ∙ ap make o.0 ∙ g.2, o.1)

  pub made_exact : Exact P encode read → Exact Q encode' (made make read)
  made_exact f = record {
    found = λ xs h b rest e.
        let b1 = bind_ok (read xs) (λ a. Ok (make a.0, a.1)) (b, rest) e in
        let t1 = f.found xs h b1.0.0 b1.0.1 b1.1 in
        let t = to b1.0.0 t1.0 in
        let all : B × List ℕ = (make b1.0.0, b1.0.1) in
        subst (λ (r : B × List ℕ). Q r.0 × (xs ≡ encode' r.0 ++ r.1)) (ok_is all (b, rest) b1.2) (t.0, t1.1 ∙ ap (λ (w : List ℕ). w ++ b1.0.1) (sym t.1));
    fault = λ xs h left e.
        elim (bind_err (read xs) (λ a. Ok (make a.0, a.1)) left e) [
          | inl e1 ↦ stops_map (Encoded P encode) (Encoded P encode) (Encoded Q encode') (Encoded Q encode') xs left spelled_to spelled_from (f.fault xs h left e1)
          | inr b1 ↦ absurd (ok_no_err (make b1.0.0, b1.0.1) left b1.2)
        ];
  }

-- ---- fields that are alone: no encoding begins another, there is one, and its reader is exact
pub record Field {A : Type 0} (P : A → Type 0) (encode : A → List ℕ) (read : List ℕ → Read A) : Type 0 where
  pub one : OneForm P encode
  pub some : (a : A) × P a
  pub exact : Exact P encode read

pub both_field : {A B : Type 0} (P : A → Type 0) (encode : A → List ℕ) (read : List ℕ → Read A) (Q : B → Type 0) (encode' : B → List ℕ) (read' : List ℕ → Read B)
    → Field P encode read → Field Q encode' read' → Field (λ (p : A × B). P p.0 × Q p.1) (λ p. encode p.0 ++ encode' p.1) (both read read')
both_field P encode read Q encode' read' f g = record {
  one = then_one P encode read (λ _. Q) (λ _. encode') (λ _. read') f.one (λ a p. g.one);
  some = ((f.some.0, g.some.0), (f.some.1, g.some.1));
  exact = then_exact P encode read (λ _. Q) (λ _. encode') (λ _. read') f.one f.exact (λ a p. g.some) (λ a p short. g.exact);
}

pub made_field : {A B : Type 0} (P : A → Type 0) (encode : A → List ℕ) (read : List ℕ → Read A) (Q : B → Type 0) (encode' : B → List ℕ) (make : A → B)
    → ((a : A) → P a → Q (make a) × (encode' (make a) ≡ encode a)) → ((b : B) → Q b → (a : A) × P a × (make a ≡ b)) → Field P encode read → Field Q encode' (made make read)
made_field P encode read Q encode' make to from f = record {
  one = made_one P encode read Q encode' make to from f.one;
  some = (make f.some.0, (to f.some.0 f.some.1).0);
  exact = made_exact P encode read Q encode' make to from f.exact;
}
