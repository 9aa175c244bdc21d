-- The least length of a greater text is the one from which on there are greater ones.
use Rattle.std.proofs.Common.{◌≡◌, ℕ, zero, suc, ◌+◌, ◌<◌, ◌≤◌, true, ltb, leb, List, [], ◌∷◌, Option, None, Some, refl, sym, ◌∙◌, ◌⊎◌, inl, inr, arith, lit<}
use Rattle.std.proofs.lemmas.Bool.{cases_lt, cases_eq, ltb-true, lt-ltb, le-ltb, leb-true, le-leb, eq-eqb, ne_eqb, and_parts}
use Rattle.record_codec.specs.declared.utf8.CharacterRest.{CharacterRest}
use Rattle.record_codec.specs.NextBytes.{after_byte, top_lead, can_rise, turns, rise_cost, less_of, least_length}
use Rattle.record_codec.proofs.Loops.{less_suc, less_bound, least_bound}
use Rattle.record_codec.proofs.Utf.{Accepts}
use Rattle.record_codec.proofs.Turning.{turn_here, turn_later, turn_splits, least_top, two_top, three_top, top_one, top_two, top_three, top_four}

top_upto_two : (r : ℕ) → r ≤ 2 → top_lead r ≤ 223
top_upto_two r h = elim (cases_lt 1 r) [ inr le ↦ omega (arith, top_one r le) | inl lt ↦ omega (arith, top_two r (omega (arith, h, lt))) ]

top_upto_three : (r : ℕ) → r ≤ 3 → top_lead r ≤ 239
top_upto_three r h = elim (cases_lt 2 r) [ inr le ↦ omega (arith, top_upto_two r le) | inl lt ↦ omega (arith, top_three r (omega (arith, h, lt))) ]

top_upto : (r : ℕ) → top_lead r ≤ 244
top_upto r = elim (cases_lt 3 r) [ inr le ↦ omega (arith, top_upto_three r le) | inl lt ↦ omega (arith, top_four r (omega (arith, lt))) ]

data Cost (x c : ℕ) : Type 0 where
  one : x < 127 → c ≡ 1 → Cost x c
  two : 127 ≤ x → x < 223 → c ≡ 2 → Cost x c
  three : 223 ≤ x → x < 239 → c ≡ 3 → Cost x c
  four : 239 ≤ x → x < 244 → c ≡ 4 → Cost x c
  none : 244 ≤ x → c ≡ 0 → Cost x c

cost_of : (f : CharacterRest) (x : ℕ) → f.more ≡ 0 → Cost x (rise_cost f x)
cost_of f x z = elim (cases_lt x 127) [
  | inl a ↦ one a (rw (eq-eqb f.more 0 z, lt-ltb x 127 a) refl)
  | inr a ↦ elim (cases_lt x 223) [
    | inl b ↦ two a b (rw (eq-eqb f.more 0 z, le-ltb x 127 a, lt-ltb x 223 b) refl)
    | inr b ↦ elim (cases_lt x 239) [
      | inl d ↦ three b d (rw (eq-eqb f.more 0 z, le-ltb x 127 a, le-ltb x 223 b, lt-ltb x 239 d) refl)
      | inr d ↦ elim (cases_lt x 244) [
        | inl e ↦ four d e (rw (eq-eqb f.more 0 z, le-ltb x 127 a, le-ltb x 223 b, le-ltb x 239 d, lt-ltb x 244 e) refl)
        | inr e ↦ none e (rw (eq-eqb f.more 0 z, le-ltb x 127 a, le-ltb x 223 b, le-ltb x 239 d, le-ltb x 244 e) refl)
      ]
    ]
  ]
]

cost_up : (x c r : ℕ) → Cost x c → ¬ (c ≡ 0) → c ≤ suc r → x < top_lead (suc r)
cost_up x c r (one a e) n h = omega (arith, a, least_top (suc r))
cost_up x c r (two a b e) n h = omega (arith, b, two_top (suc r) (omega (arith, e, h)))
cost_up x c r (three a b e) n h = omega (arith, b, three_top (suc r) (omega (arith, e, h)))
cost_up x c r (four a b e) n h = omega (arith, b, top_four (suc r) (omega (arith, e, h)))
cost_up x c r (none a e) n h = absurd (n e)

cost_down : (x c r : ℕ) → Cost x c → x < top_lead (suc r) → (¬ (c ≡ 0)) × (c ≤ suc r)
cost_down x c r (one a e) h = (λ z. omega (arith, e, z), omega (arith, e))
cost_down x c r (two a b e) h = (λ z. omega (arith, e, z), elim (cases_lt 1 (suc r)) [ inl lt ↦ omega (arith, e, lt) | inr le ↦ absurd (omega (arith, h, a, top_one (suc r) le)) ])
cost_down x c r (three a b e) h = (λ z. omega (arith, e, z), elim (cases_lt 2 (suc r)) [ inl lt ↦ omega (arith, e, lt) | inr le ↦ absurd (omega (arith, h, a, top_upto_two (suc r) le)) ])
cost_down x c r (four a b e) h = (λ z. omega (arith, e, z), elim (cases_lt 3 (suc r)) [ inl lt ↦ omega (arith, e, lt) | inr le ↦ absurd (omega (arith, h, a, top_upto_three (suc r) le)) ])
cost_down x c r (none a e) h = absurd (omega (arith, h, a, top_upto (suc r)))

cost_rises : (f : CharacterRest) (x r : ℕ) → ¬ (rise_cost f x ≡ 0) → rise_cost f x ≤ suc r → can_rise f (suc r) x ≡ true
cost_rises f x r n h = elim (cases_eq f.more 0) [
  | inl z ↦ rw (eq-eqb f.more 0 z) (lt-ltb x (top_lead (suc r)) (cost_up x (rise_cost f x) r (cost_of f x z) n h))
  | inr m ↦ elim (cases_lt x f.high) [
    | inl lt ↦
        let is : rise_cost f x ≡ f.more = rw (ne_eqb f.more 0 m, lt-ltb x f.high lt) refl in
        rw (ne_eqb f.more 0 m, le-leb f.more (suc r) (omega (arith, is, h)), lt-ltb x f.high lt) refl
    | inr ge ↦ absurd (n (rw (ne_eqb f.more 0 m, le-ltb x f.high ge) refl))
  ]
]

rises_cost : (f : CharacterRest) (x r : ℕ) → can_rise f (suc r) x ≡ true → (¬ (rise_cost f x ≡ 0)) × (rise_cost f x ≤ suc r)
rises_cost f x r e = elim (cases_eq f.more 0) [
  | inl z ↦ cost_down x (rise_cost f x) r (cost_of f x z) (ltb-true x (top_lead (suc r)) (rw (eq-eqb f.more 0 z) at e))
  | inr m ↦
      let q = and_parts (leb f.more (suc r)) (ltb x f.high) (rw (ne_eqb f.more 0 m) at e) in
      let lt = ltb-true x f.high q.1 in
      let is : rise_cost f x ≡ f.more = rw (ne_eqb f.more 0 m, lt-ltb x f.high lt) refl in
      (λ k. m (sym is ∙ k), omega (arith, is, leb-true f.more (suc r) q.0))
]

less_cases : (c m k : ℕ) → less_of c m ≤ k → (m ≤ k) ⊎ ((¬ (c ≡ 0)) × (c ≤ k))
less_cases zero m k h = inl h
less_cases (suc c) m k h = elim (cases_lt k m) [
  | inr le ↦ inl le
  | inl lt ↦ inr (λ z. omega (arith, z), omega (arith, h, lt, less_suc c m))
]

less_low : (c m k : ℕ) → ¬ (c ≡ 0) → c ≤ k → less_of c m ≤ k
less_low zero m k n h = absurd (n refl)
less_low (suc c) m k n h = omega (arith, less_suc c m, h)

pub least_turns : (o : Option CharacterRest) (p : List ℕ) (r : ℕ) → Accepts o p → least_length o p ≤ r → 0 < turns o r p
least_turns None p r a h = absurd a
least_turns (Some f) p zero a h = absurd (omega (arith, h, (least_bound (Some f) p).0))
least_turns (Some f) [] (suc r) a h = lit< tt
least_turns (Some f) (x ∷ p) (suc r) a h = elim (less_cases (rise_cost f x) (least_length (after_byte f x) p + 1) (suc r) h) [
  | inl later ↦ turn_later (can_rise f (suc r) x) (turns (after_byte f x) r p) (least_turns (after_byte f x) p r a (omega (arith, later)))
  | inr here ↦ turn_here (can_rise f (suc r) x) (turns (after_byte f x) r p) (cost_rises f x r here.0 here.1)
]

pub turns_least : (o : Option CharacterRest) (p : List ℕ) (r : ℕ) → Accepts o p → 0 < turns o r p → least_length o p ≤ r
turns_least None p r a h = absurd a
turns_least (Some f) p zero a h = absurd (omega (arith, h))
turns_least (Some f) [] (suc r) a h = omega arith
turns_least (Some f) (x ∷ p) (suc r) a h = elim (turn_splits (can_rise f (suc r) x) (turns (after_byte f x) r p) h) [
  | inl later ↦
      let rest = turns_least (after_byte f x) p r a later in
      omega (arith, rest, (less_bound (rise_cost f x) (least_length (after_byte f x) p + 1) (omega arith)).1)
  | inr here ↦
      let c = rises_cost f x r here in
      less_low (rise_cost f x) (least_length (after_byte f x) p + 1) (suc r) c.0 c.1
]
