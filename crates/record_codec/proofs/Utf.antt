-- Texts byte by byte: what follows byte by byte is UTF-8, and which texts can be greater than another.
use Rattle.std.proofs.Common.{◌≡◌, ℕ, zero, suc, ◌+◌, ◌-◌, ◌*◌, ◌<◌, ◌≤◌, true, ◌&&◌, ltb, leb, List, [], ◌∷◌, ◌++◌, length, Option, None, Some, refl, sym, ap, subst, ◌∙◌, ◌⊎◌, inl, inr, arith, lit<, lit≤, ◌/◌, ◌%◌, encode_utf8_all}
use Rattle.std.specs.Str.{IsUtf8, IsAscii, all_scalars}
use Rattle.std.specs.declared.cmp.Ordering.TheVariants.{Less, Equal, Greater}
use Rattle.std.specs.Ordering.{nat_cmp}
use Rattle.std.specs.Cmp.Lexicographic.{slice_cmp}
use Rattle.std.proofs.lemmas.Bool.{cases_lt, cases_eq, cases_order, ltb-true, lt-ltb, le-ltb, leb-true, le-leb, lt-leb, eq-eqb, ne_eqb, and_parts}
use Rattle.std.proofs.lemmas.Str.{IsUtf8-append, IsUtf8-nil, IsUtf8-from_ascii, IsUtf8-encode, encode_ascii}
use Rattle.std.specs.Char.{IsScalar, encode_utf8}
use Rattle.record_codec.specs.declared.utf8.CharacterRest.{CharacterRest}
use Rattle.record_codec.specs.NextBytes.{start, follow, after_lead, after_byte}

-- ---- the order of texts
abbrev pub Less_than : List ℕ → List ℕ → Type 0
Less_than p w = slice_cmp nat_cmp p w ≡ Less

cmp_less : (x y : ℕ) → x < y → nat_cmp x y ≡ Less
cmp_less x y h = rw (lt-ltb x y h) refl

cmp_same : (x y : ℕ) → x ≡ y → nat_cmp x y ≡ Equal
cmp_same x y h = rw (le-ltb x y (omega (arith, h)), eq-eqb x y h) refl

cmp_more : (x y : ℕ) → y < x → nat_cmp x y ≡ Greater
cmp_more x y h = rw (le-ltb x y (omega arith), ne_eqb x y (λ e. omega (arith, h, e))) refl

pub head_less : (x y : ℕ) (p w : List ℕ) → x < y → Less_than (x ∷ p) (y ∷ w)
head_less x y p w h = rw (cmp_less x y h) refl

pub tail_less : (x y : ℕ) (p w : List ℕ) → x ≡ y → Less_than p w → Less_than (x ∷ p) (y ∷ w)
tail_less x y p w e h = rw (cmp_same x y e) h

pub less_head : (x y : ℕ) (p w : List ℕ) → Less_than (x ∷ p) (y ∷ w) → (x < y) ⊎ ((x ≡ y) × Less_than p w)
less_head x y p w h = elim (cases_order x y) [
  | inl e ↦ inr (e, rw (cmp_same x y e) at h)
  | inr (inl lt) ↦ inl lt
  | inr (inr gt) ↦ absurd (greater_no (rw (cmp_more x y gt) at h))
]
  where
    greater_no : Greater ≡ Less → ⊥
    greater_no e = cc

pub less_nil : (p : List ℕ) → Less_than p [] → ⊥
less_nil [] e = cc
less_nil (x ∷ p) e = cc

-- ---- characters
abbrev pub Accepts : Option CharacterRest → List ℕ → Type 0
Accepts None w = ⊥
Accepts (Some f) [] = f.more ≡ 0
Accepts (Some f) (b ∷ w) = Accepts (after_byte f b) w

-- what follows the first byte of a character, by its kind
pub data Lead (b : ℕ) : Type 0 where
  one : b < 128 → after_lead b ≡ Some start → Lead b
  two : 194 ≤ b → b < 224 → after_lead b ≡ Some (follow 1 128 191) → Lead b
  three_low : b ≡ 224 → after_lead b ≡ Some (follow 2 160 191) → Lead b
  three_cut : b ≡ 237 → after_lead b ≡ Some (follow 2 128 159) → Lead b
  three : 225 ≤ b → b < 240 → (b ≡ 237 → ⊥) → after_lead b ≡ Some (follow 2 128 191) → Lead b
  four_low : b ≡ 240 → after_lead b ≡ Some (follow 3 144 191) → Lead b
  four : 241 ≤ b → b < 244 → after_lead b ≡ Some (follow 3 128 191) → Lead b
  four_high : b ≡ 244 → after_lead b ≡ Some (follow 3 128 143) → Lead b
  never : (128 ≤ b) → (b < 194) ⊎ (245 ≤ b) → after_lead b ≡ None → Lead b

pub lead_of : (b : ℕ) → Lead b
lead_of b = elim (cases_lt b 128) [
  | inl h ↦ one h (rw (lt-ltb b 128 h) refl)
  | inr h ↦ elim (cases_lt b 194) [
    | inl k ↦ never h (inl k) (rw (le-ltb b 128 h, lt-ltb b 194 k) refl)
    | inr k ↦ elim (cases_lt b 224) [
      | inl l ↦ two k l (rw (le-ltb b 128 h, le-ltb b 194 k, lt-ltb b 224 l) refl)
      | inr l ↦ elim (cases_eq b 224) [
        | inl e ↦ three_low e (rw (le-ltb b 128 h, le-ltb b 194 k, le-ltb b 224 l, eq-eqb b 224 e) refl)
        | inr n ↦ elim (cases_eq b 237) [
          | inl e ↦ three_cut e (rw (le-ltb b 128 h, le-ltb b 194 k, le-ltb b 224 l, ne_eqb b 224 n, eq-eqb b 237 e) refl)
          | inr m ↦ elim (cases_lt b 240) [
            | inl q ↦ three (omega (arith, l, n)) q m (rw (le-ltb b 128 h, le-ltb b 194 k, le-ltb b 224 l, ne_eqb b 224 n, ne_eqb b 237 m, lt-ltb b 240 q) refl)
            | inr q ↦ elim (cases_eq b 240) [
              | inl e ↦ four_low e (rw (le-ltb b 128 h, le-ltb b 194 k, le-ltb b 224 l, ne_eqb b 224 n, ne_eqb b 237 m, le-ltb b 240 q, eq-eqb b 240 e) refl)
              | inr o ↦ elim (cases_lt b 244) [
                | inl r ↦ four (omega (arith, q, o)) r (rw (le-ltb b 128 h, le-ltb b 194 k, le-ltb b 224 l, ne_eqb b 224 n, ne_eqb b 237 m, le-ltb b 240 q, ne_eqb b 240 o, lt-ltb b 244 r) refl)
                | inr r ↦ elim (cases_eq b 244) [
                  | inl e ↦ four_high e (rw (le-ltb b 128 h, le-ltb b 194 k, le-ltb b 224 l, ne_eqb b 224 n, ne_eqb b 237 m, le-ltb b 240 q, ne_eqb b 240 o, le-ltb b 244 r, eq-eqb b 244 e) refl)
                  | inr s ↦ never h (inr (omega (arith, r, s))) (rw (le-ltb b 128 h, le-ltb b 194 k, le-ltb b 224 l, ne_eqb b 224 n, ne_eqb b 237 m, le-ltb b 240 q, ne_eqb b 240 o, le-ltb b 244 r, ne_eqb b 244 s) refl)
                ]
              ]
            ]
          ]
        ]
      ]
    ]
  ]
]

pub lead_is : (f : CharacterRest) (b : ℕ) → f.more ≡ 0 → after_byte f b ≡ after_lead b
lead_is f b e = rw (eq-eqb f.more 0 e) refl

pub mid_yes : (f : CharacterRest) (b : ℕ) → ¬ (f.more ≡ 0) → f.low ≤ b → b ≤ f.high → after_byte f b ≡ Some (follow (f.more - 1) 128 191)
mid_yes f b n l h = rw (ne_eqb f.more 0 n, le-leb f.low b l, le-leb b f.high h) refl

pub mid_no : (f : CharacterRest) (b : ℕ) (w : List ℕ) → ¬ (f.more ≡ 0) → Accepts (after_byte f b) w → (f.low ≤ b) × ((b ≤ f.high) × Accepts (Some (follow (f.more - 1) 128 191)) w)
mid_no f b w n a = elim (cases_lt b f.low) [
  | inl lt ↦ absurd (rw (ne_eqb f.more 0 n, lt-leb f.low b lt) at a)
  | inr ge ↦ elim (cases_lt f.high b) [
    | inl lt ↦ absurd (rw (ne_eqb f.more 0 n, le-leb f.low b ge, lt-leb b f.high lt) at a)
    | inr le ↦ (ge, (le, rw (ne_eqb f.more 0 n, le-leb f.low b ge, le-leb b f.high le) at a))
  ]
]

-- ---- what is taken is UTF-8
one_ascii : (b : ℕ) → b < 128 → IsUtf8 (b ∷ [])
one_ascii b low = IsUtf8-from_ascii (b ∷ []) ascii
  where
    ascii : IsAscii (b ∷ [])
    ascii zero = low
    ascii (suc i) = lit< tt

scalar_low : (c : ℕ) → c < 55296 → IsScalar c
scalar_low c h = rw (lt-ltb c 55296 h) refl

scalar_high : (c : ℕ) → 57344 ≤ c → c < 1114112 → IsScalar c
scalar_high c h k = rw (le-ltb c 55296 (omega arith), le-leb 57344 c h, lt-ltb c 1114112 k) refl

scalar_is : (c : ℕ) → IsScalar c → (c < 55296) ⊎ ((57344 ≤ c) × (c < 1114112))
scalar_is c e = elim (cases_lt c 55296) [
  | inl lt ↦ inl lt
  | inr ge ↦
      let e1 : (leb 57344 c && ltb c 1114112) ≡ true = rw (le-ltb c 55296 ge) at e in
      let p = and_parts (leb 57344 c) (ltb c 1114112) e1 in
      inr (leb-true 57344 c p.0, ltb-true c 1114112 p.1)
]

of_two : (c : ℕ) → 128 ≤ c → c < 2048 → encode_utf8 c ≡ (192 + c / 64) ∷ (128 + c % 64) ∷ []
unfolding encode_utf8
of_two c h k = rw (le-ltb c 128 h, lt-ltb c 2048 k) refl

of_three : (c : ℕ) → 2048 ≤ c → c < 65536 → encode_utf8 c ≡ (224 + c / 4096) ∷ (128 + c / 64 % 64) ∷ (128 + c % 64) ∷ []
unfolding encode_utf8
of_three c h k = rw (le-ltb c 128 (omega arith), le-ltb c 2048 h, lt-ltb c 65536 k) refl

of_four : (c : ℕ) → 65536 ≤ c → encode_utf8 c ≡ (240 + c / 262144) ∷ (128 + c / 4096 % 64) ∷ (128 + c / 64 % 64) ∷ (128 + c % 64) ∷ []
unfolding encode_utf8
of_four c h = rw (le-ltb c 128 (omega arith), le-ltb c 2048 (omega arith), le-ltb c 65536 h) refl

two_utf8 : (a b : ℕ) → 194 ≤ a → a < 224 → 128 ≤ b → b ≤ 191 → IsUtf8 (a ∷ b ∷ [])
two_utf8 a b h k l m =
    let c : ℕ = (a - 192) * 64 + (b - 128) in
    let p : 192 + c / 64 ≡ a = omega arith in
    let q : 128 + c % 64 ≡ b = omega arith in
    subst IsUtf8 (of_two c (omega arith) (omega arith) ∙ (λ i. p i ∷ q i ∷ [])) (IsUtf8-encode c (scalar_low c (omega arith)))

three_utf8 : (a b d : ℕ) → 224 ≤ a → a < 240 → 128 ≤ b → b ≤ 191 → 128 ≤ d → d ≤ 191 → (a ≡ 224 → 160 ≤ b) → (a ≡ 237 → b ≤ 159) → IsUtf8 (a ∷ b ∷ d ∷ [])
three_utf8 a b d h k l m n o low cut =
    let c : ℕ = (a - 224) * 4096 + (b - 128) * 64 + (d - 128) in
    let p : 224 + c / 4096 ≡ a = omega arith in
    let q : 128 + c / 64 % 64 ≡ b = omega arith in
    let r : 128 + c % 64 ≡ d = omega arith in
    let first : 2048 ≤ c = elim (cases_eq a 224) [ inl e ↦ let x = low e in omega (arith, x, e, l, n) | inr u ↦ omega (arith, u, h, l, n) ] in
    let scalar : IsScalar c = elim (cases_lt a 237) [
      | inl lt ↦ scalar_low c (omega (arith, lt, m, o))
      | inr ge ↦ elim (cases_eq a 237) [ inl e ↦ let x = cut e in scalar_low c (omega (arith, x, e, o)) | inr u ↦ scalar_high c (omega (arith, u, ge)) (omega (arith, k, m, o)) ]
    ] in
    subst IsUtf8 (of_three c first (omega arith) ∙ (λ i. p i ∷ q i ∷ r i ∷ [])) (IsUtf8-encode c scalar)

four_utf8 : (a b d e : ℕ) → 240 ≤ a → a ≤ 244 → 128 ≤ b → b ≤ 191 → 128 ≤ d → d ≤ 191 → 128 ≤ e → e ≤ 191 → (a ≡ 240 → 144 ≤ b) → (a ≡ 244 → b ≤ 143) → IsUtf8 (a ∷ b ∷ d ∷ e ∷ [])
four_utf8 a b d e h k l m n o v w low high =
    let c : ℕ = (a - 240) * 262144 + (b - 128) * 4096 + (d - 128) * 64 + (e - 128) in
    let p : 240 + c / 262144 ≡ a = omega arith in
    let q : 128 + c / 4096 % 64 ≡ b = omega arith in
    let r : 128 + c / 64 % 64 ≡ d = omega arith in
    let t : 128 + c % 64 ≡ e = omega arith in
    let first : 65536 ≤ c = elim (cases_eq a 240) [ inl i ↦ let x = low i in omega (arith, x, i, n, v) | inr u ↦ omega (arith, u, h, l, n, v) ] in
    let last : c < 1114112 = elim (cases_eq a 244) [ inl i ↦ let x = high i in omega (arith, x, i, o, w) | inr u ↦ omega (arith, u, k, m, o, w) ] in
    subst IsUtf8 (of_four c first ∙ (λ i. p i ∷ q i ∷ r i ∷ t i ∷ [])) (IsUtf8-encode c (scalar_high c (omega (arith, first)) last))

one_not_zero : (n : ℕ) → suc n ≡ 0 → ⊥
one_not_zero n e = omega (arith, e)

-- the bytes in the middle of a character, one by one
rest_one : (l h : ℕ) (w : List ℕ) → Accepts (Some (follow 1 l h)) w → (b : ℕ) × (v : List ℕ) × (w ≡ b ∷ v) × ((l ≤ b) × ((b ≤ h) × Accepts (Some start) v))
rest_one l h [] a = absurd (omega (arith, a))
rest_one l h (b ∷ v) a = (b, v, refl, mid_no (follow 1 l h) b v (one_not_zero 0) a)

rest_two : (l h : ℕ) (w : List ℕ) → Accepts (Some (follow 2 l h)) w → (b : ℕ) × (v : List ℕ) × (w ≡ b ∷ v) × ((l ≤ b) × ((b ≤ h) × Accepts (Some (follow 1 128 191)) v))
rest_two l h [] a = absurd (omega (arith, a))
rest_two l h (b ∷ v) a = (b, v, refl, mid_no (follow 2 l h) b v (one_not_zero 1) a)

rest_three : (l h : ℕ) (w : List ℕ) → Accepts (Some (follow 3 l h)) w → (b : ℕ) × (v : List ℕ) × (w ≡ b ∷ v) × ((l ≤ b) × ((b ≤ h) × Accepts (Some (follow 2 128 191)) v))
rest_three l h [] a = absurd (omega (arith, a))
rest_three l h (b ∷ v) a = (b, v, refl, mid_no (follow 3 l h) b v (one_not_zero 2) a)

abbrev ToUtf8 : ℕ → Type 0
ToUtf8 n = (w : List ℕ) → length w ≤ n → Accepts (Some start) w → IsUtf8 w

after_two : (n a : ℕ) (w : List ℕ) → ToUtf8 n → length w ≤ n → 194 ≤ a → a < 224 → Accepts (Some (follow 1 128 191)) w → IsUtf8 (a ∷ w)
after_two n a w more le h k acc =
    let r = rest_one 128 191 w acc in
    subst (λ (v : List ℕ). IsUtf8 (a ∷ v)) (sym r.2) (IsUtf8-append (a ∷ r.0 ∷ []) r.1 (two_utf8 a r.0 h k r.3.0 r.3.1.0) (more r.1 (omega (arith, le, ap length r.2)) r.3.1.1))

after_three : (n a l h : ℕ) (w : List ℕ) → ToUtf8 n → length w ≤ n → 224 ≤ a → a < 240 → 128 ≤ l → h ≤ 191 → (a ≡ 224 → 160 ≤ l) → (a ≡ 237 → h ≤ 159) → Accepts (Some (follow 2 l h)) w → IsUtf8 (a ∷ w)
after_three n a l h w more le p q lo hi low cut acc =
    let r = rest_two l h w acc in
    let s = rest_one 128 191 r.1 r.3.1.1 in
    let whole : w ≡ r.0 ∷ s.0 ∷ s.1 = r.2 ∙ ap (λ (v : List ℕ). r.0 ∷ v) s.2 in
    let char = three_utf8 a r.0 s.0 p q (omega (arith, lo, r.3.0)) (omega (arith, hi, r.3.1.0)) s.3.0 s.3.1.0 (λ e. let x = low e in omega (arith, x, r.3.0)) (λ e. let x = cut e in omega (arith, x, r.3.1.0)) in
    subst (λ (v : List ℕ). IsUtf8 (a ∷ v)) (sym whole) (IsUtf8-append (a ∷ r.0 ∷ s.0 ∷ []) s.1 char (more s.1 (omega (arith, le, ap length whole)) s.3.1.1))

after_four : (n a l h : ℕ) (w : List ℕ) → ToUtf8 n → length w ≤ n → 240 ≤ a → a ≤ 244 → 128 ≤ l → h ≤ 191 → (a ≡ 240 → 144 ≤ l) → (a ≡ 244 → h ≤ 143) → Accepts (Some (follow 3 l h)) w → IsUtf8 (a ∷ w)
after_four n a l h w more le p q lo hi low cut acc =
    let r = rest_three l h w acc in
    let s = rest_two 128 191 r.1 r.3.1.1 in
    let t = rest_one 128 191 s.1 s.3.1.1 in
    let whole : w ≡ r.0 ∷ s.0 ∷ t.0 ∷ t.1 = r.2 ∙ ap (λ (v : List ℕ). r.0 ∷ v) (s.2 ∙ ap (λ (v : List ℕ). s.0 ∷ v) t.2) in
    let char = four_utf8 a r.0 s.0 t.0 p q (omega (arith, lo, r.3.0)) (omega (arith, hi, r.3.1.0)) s.3.0 s.3.1.0 t.3.0 t.3.1.0 (λ e. let x = low e in omega (arith, x, r.3.0)) (λ e. let x = cut e in omega (arith, x, r.3.1.0)) in
    subst (λ (v : List ℕ). IsUtf8 (a ∷ v)) (sym whole) (IsUtf8-append (a ∷ r.0 ∷ s.0 ∷ t.0 ∷ []) t.1 char (more t.1 (omega (arith, le, ap length whole)) t.3.1.1))

after_kind : (n a : ℕ) (w : List ℕ) → ToUtf8 n → length w ≤ n → Lead a → Accepts (after_lead a) w → IsUtf8 (a ∷ w)
after_kind n a w more le (one h e) acc = IsUtf8-append (a ∷ []) w (one_ascii a h) (more w le (subst (λ (o : Option CharacterRest). Accepts o w) e acc))
after_kind n a w more le (two h k e) acc = after_two n a w more le h k (subst (λ (o : Option CharacterRest). Accepts o w) e acc)
after_kind n a w more le (three_low h e) acc = after_three n a 160 191 w more le (omega (arith, h)) (omega (arith, h)) (lit≤ tt) (lit≤ tt) (λ _. lit≤ tt) (λ i. absurd (omega (arith, h, i))) (subst (λ (o : Option CharacterRest). Accepts o w) e acc)
after_kind n a w more le (three_cut h e) acc = after_three n a 128 159 w more le (omega (arith, h)) (omega (arith, h)) (lit≤ tt) (lit≤ tt) (λ i. absurd (omega (arith, h, i))) (λ _. lit≤ tt) (subst (λ (o : Option CharacterRest). Accepts o w) e acc)
after_kind n a w more le (three h k m e) acc = after_three n a 128 191 w more le (omega (arith, h)) k (lit≤ tt) (lit≤ tt) (λ i. absurd (omega (arith, h, i))) (λ i. absurd (m i)) (subst (λ (o : Option CharacterRest). Accepts o w) e acc)
after_kind n a w more le (four_low h e) acc = after_four n a 144 191 w more le (omega (arith, h)) (omega (arith, h)) (lit≤ tt) (lit≤ tt) (λ _. lit≤ tt) (λ i. absurd (omega (arith, h, i))) (subst (λ (o : Option CharacterRest). Accepts o w) e acc)
after_kind n a w more le (four h k e) acc = after_four n a 128 191 w more le (omega (arith, h)) (omega (arith, k)) (lit≤ tt) (lit≤ tt) (λ i. absurd (omega (arith, h, i))) (λ i. absurd (omega (arith, k, i))) (subst (λ (o : Option CharacterRest). Accepts o w) e acc)
after_kind n a w more le (four_high h e) acc = after_four n a 128 143 w more le (omega (arith, h)) (omega (arith, h)) (lit≤ tt) (lit≤ tt) (λ i. absurd (omega (arith, h, i))) (λ _. lit≤ tt) (subst (λ (o : Option CharacterRest). Accepts o w) e acc)
after_kind n a w more le (never h k e) acc = absurd (subst (λ (o : Option CharacterRest). Accepts o w) e acc)

to_utf8_in : (n : ℕ) → ToUtf8 n
to_utf8_in n [] le acc = IsUtf8-nil
to_utf8_in zero (a ∷ w) le acc = absurd (omega (arith, le))
to_utf8_in (suc n) (a ∷ w) le acc = after_kind n a w (to_utf8_in n) (omega (arith, le)) (lead_of a) acc

pub to_utf8 : (w : List ℕ) → Accepts (Some start) w → IsUtf8 w
to_utf8 w acc = to_utf8_in (length w) w (omega arith) acc

-- ---- UTF-8 is taken
mid_takes : (k l h b : ℕ) (w : List ℕ) → l ≤ b → b ≤ h → Accepts (Some (follow (suc k - 1) 128 191)) w → Accepts (after_byte (follow (suc k) l h) b) w
mid_takes k l h b w p q acc = rw (mid_yes (follow (suc k) l h) b (one_not_zero k) p q) acc

takes_two : (a b : ℕ) (w : List ℕ) → Lead a → 194 ≤ a → a < 224 → 128 ≤ b → b ≤ 191 → Accepts (Some start) w → Accepts (after_lead a) (b ∷ w)
takes_two a b w (one h e) p q l m acc = absurd (omega (arith, h, p))
takes_two a b w (two h k e) p q l m acc = rw e (mid_takes 0 128 191 b w l m acc)
takes_two a b w (three_low h e) p q l m acc = absurd (omega (arith, h, q))
takes_two a b w (three_cut h e) p q l m acc = absurd (omega (arith, h, q))
takes_two a b w (three h k n e) p q l m acc = absurd (omega (arith, h, q))
takes_two a b w (four_low h e) p q l m acc = absurd (omega (arith, h, q))
takes_two a b w (four h k e) p q l m acc = absurd (omega (arith, h, q))
takes_two a b w (four_high h e) p q l m acc = absurd (omega (arith, h, q))
takes_two a b w (never h (inl k) e) p q l m acc = absurd (omega (arith, k, p))
takes_two a b w (never h (inr k) e) p q l m acc = absurd (omega (arith, k, q))

abbrev Two : ℕ → ℕ → ℕ → ℕ → List ℕ → Type 0
Two l h b d w = (l ≤ b) × ((b ≤ h) × ((128 ≤ d) × ((d ≤ 191) × Accepts (Some start) w)))

in_three : (l h b d : ℕ) (w : List ℕ) → Two l h b d w → Accepts (Some (follow 2 l h)) (b ∷ d ∷ w)
in_three l h b d w t = mid_takes 1 l h b (d ∷ w) t.0 t.1.0 (mid_takes 0 128 191 d w t.1.1.0 t.1.1.1.0 t.1.1.1.1)

takes_three : (a b d : ℕ) (w : List ℕ) → Lead a → 224 ≤ a → a < 240 → (a ≡ 224 → 160 ≤ b) → (a ≡ 237 → b ≤ 159) → Two 128 191 b d w → Accepts (after_lead a) (b ∷ d ∷ w)
takes_three a b d w (one h e) p q low cut t = absurd (omega (arith, h, p))
takes_three a b d w (two h k e) p q low cut t = absurd (omega (arith, k, p))
takes_three a b d w (three_low h e) p q low cut t = rw e (in_three 160 191 b d w (low h, t.1))
takes_three a b d w (three_cut h e) p q low cut t = rw e (in_three 128 159 b d w (t.0, (cut h, t.1.1)))
takes_three a b d w (three h k n e) p q low cut t = rw e (in_three 128 191 b d w t)
takes_three a b d w (four_low h e) p q low cut t = absurd (omega (arith, h, q))
takes_three a b d w (four h k e) p q low cut t = absurd (omega (arith, h, q))
takes_three a b d w (four_high h e) p q low cut t = absurd (omega (arith, h, q))
takes_three a b d w (never h (inl k) e) p q low cut t = absurd (omega (arith, k, p))
takes_three a b d w (never h (inr k) e) p q low cut t = absurd (omega (arith, k, q))

abbrev Three : ℕ → ℕ → ℕ → ℕ → ℕ → List ℕ → Type 0
Three l h b d x w = (l ≤ b) × ((b ≤ h) × Two 128 191 d x w)

in_four : (l h b d x : ℕ) (w : List ℕ) → Three l h b d x w → Accepts (Some (follow 3 l h)) (b ∷ d ∷ x ∷ w)
in_four l h b d x w t = mid_takes 2 l h b (d ∷ x ∷ w) t.0 t.1.0 (in_three 128 191 d x w t.1.1)

takes_four : (a b d x : ℕ) (w : List ℕ) → Lead a → 240 ≤ a → a ≤ 244 → (a ≡ 240 → 144 ≤ b) → (a ≡ 244 → b ≤ 143) → Three 128 191 b d x w → Accepts (after_lead a) (b ∷ d ∷ x ∷ w)
takes_four a b d x w (one h e) p q low cut t = absurd (omega (arith, h, p))
takes_four a b d x w (two h k e) p q low cut t = absurd (omega (arith, k, p))
takes_four a b d x w (three_low h e) p q low cut t = absurd (omega (arith, h, p))
takes_four a b d x w (three_cut h e) p q low cut t = absurd (omega (arith, h, p))
takes_four a b d x w (three h k n e) p q low cut t = absurd (omega (arith, k, p))
takes_four a b d x w (four_low h e) p q low cut t = rw e (in_four 144 191 b d x w (low h, t.1))
takes_four a b d x w (four h k e) p q low cut t = rw e (in_four 128 191 b d x w t)
takes_four a b d x w (four_high h e) p q low cut t = rw e (in_four 128 143 b d x w (t.0, (cut h, t.1.1)))
takes_four a b d x w (never h (inl k) e) p q low cut t = absurd (omega (arith, k, p))
takes_four a b d x w (never h (inr k) e) p q low cut t = absurd (omega (arith, k, q))

takes_one : (a : ℕ) (w : List ℕ) → Lead a → a < 128 → Accepts (Some start) w → Accepts (after_lead a) w
takes_one a w (one h e) p acc = rw e acc
takes_one a w (two h k e) p acc = absurd (omega (arith, h, p))
takes_one a w (three_low h e) p acc = absurd (omega (arith, h, p))
takes_one a w (three_cut h e) p acc = absurd (omega (arith, h, p))
takes_one a w (three h k n e) p acc = absurd (omega (arith, h, p))
takes_one a w (four_low h e) p acc = absurd (omega (arith, h, p))
takes_one a w (four h k e) p acc = absurd (omega (arith, h, p))
takes_one a w (four_high h e) p acc = absurd (omega (arith, h, p))
takes_one a w (never h k e) p acc = absurd (omega (arith, h, p))

takes_char : (c : ℕ) (w : List ℕ) → IsScalar c → Accepts (Some start) w → Accepts (Some start) (encode_utf8 c ++ w)
takes_char c w s acc = elim (cases_lt c 128) [
  | inl h ↦ rw (encode_ascii c h) (takes_one c w (lead_of c) h acc)
  | inr h ↦ elim (cases_lt c 2048) [
    | inl k ↦ rw (of_two c h k) (takes_two (192 + c / 64) (128 + c % 64) w (lead_of (192 + c / 64)) (omega arith) (omega arith) (omega arith) (omega arith) acc)
    | inr k ↦ elim (cases_lt c 65536) [
      | inl l ↦ rw (of_three c k l) (takes_three (224 + c / 4096) (128 + c / 64 % 64) (128 + c % 64) w (lead_of (224 + c / 4096)) (omega arith) (omega arith) (λ e. omega (arith, e)) (λ e. cut_of c s k l e)
          (omega arith, (omega arith, (omega arith, (omega arith, acc)))))
      | inr l ↦
          let top : c < 1114112 = below c s in
          rw (of_four c l) (takes_four (240 + c / 262144) (128 + c / 4096 % 64) (128 + c / 64 % 64) (128 + c % 64) w (lead_of (240 + c / 262144)) (omega arith) (omega arith) (λ e. omega (arith, e)) (λ e. omega (arith, e))
          (omega arith, (omega arith, (omega arith, (omega arith, (omega arith, (omega arith, acc)))))))
    ]
  ]
]
  where
    below : (c : ℕ) → IsScalar c → c < 1114112
    below c s = elim (scalar_is c s) [ inl h ↦ omega arith | inr h ↦ h.1 ]

    cut_of : (c : ℕ) → IsScalar c → 2048 ≤ c → c < 65536 → 224 + c / 4096 ≡ 237 → 128 + c / 64 % 64 ≤ 159
    cut_of c s h k e = elim (scalar_is c s) [ inl l ↦ omega (arith, e, l) | inr l ↦ absurd (omega (arith, e, l.0)) ]

takes_chars : (cs : List ℕ) → all_scalars cs ≡ true → Accepts (Some start) (encode_utf8_all cs)
takes_chars [] e = refl
takes_chars (c ∷ cs) e = let p = and_parts _ (all_scalars cs) e in takes_char c (encode_utf8_all cs) p.0 (takes_chars cs p.1)

pub from_utf8 : (w : List ℕ) → IsUtf8 w → Accepts (Some start) w
from_utf8 w u = subst (Accepts (Some start)) u.1.1 (takes_chars u.0 u.1.0)
