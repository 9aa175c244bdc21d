-- Which texts of a length are greater than another, and the least length that one has.
use Rattle.std.proofs.Common.{◌≡◌, ℕ, zero, suc, ◌+◌, ◌-◌, ◌<◌, ◌≤◌, Bool, true, false, ltb, leb, List, [], ◌∷◌, ◌++◌, length, Option, None, Some, refl, sym, ap, subst, ◌∙◌, ◌⊎◌, inl, inr, length-append, arith, lit<, lit≤}
use Rattle.std.proofs.lemmas.Bool.{cases_lt, cases_eq, ltb-true, lt-ltb, leb-true, le-leb, lt-leb, eq-eqb, ne_eqb, and_parts}
use Rattle.record_codec.specs.declared.utf8.CharacterRest.{CharacterRest}
use Rattle.record_codec.specs.NextBytes.{start, follow, after_lead, after_byte, top_lead, can_rise, last_turn, turns}
use Rattle.record_codec.proofs.Between.{zeros, zeros_long}
use Rattle.record_codec.proofs.Utf.{Less_than, head_less, tail_less, less_head, less_nil, Accepts, Lead, one, two, three_low, three_cut, three, four_low, four, four_high, never, lead_of, lead_is, mid_yes, mid_no}

-- a well-formed state: its next byte has a range
pub record IsState (f : CharacterRest) : Type 0 where
  pub range : f.low ≤ f.high
  pub few : f.more ≤ 3

pub start_state : IsState start
start_state = record { range = lit≤ tt; few = lit≤ tt }

state_of : (m l h : ℕ) → l ≤ h → m ≤ 3 → IsState (follow m l h)
state_of m l h r q = record { range = r; few = q }

some_is : {A : Type 0} (a b : A) → Some a ≡ Some b → a ≡ b
some_is a b e = cc

none_some : {A : Type 0} (a : A) → None ≡ Some a → ⊥
none_some a e = cc

lead_state : (b : ℕ) (f : CharacterRest) → Lead b → after_lead b ≡ Some f → IsState f
lead_state b f (one h e) s = subst IsState (some_is start f (sym e ∙ s)) start_state
lead_state b f (two h k e) s = subst IsState (some_is (follow 1 128 191) f (sym e ∙ s)) (state_of 1 128 191 (lit≤ tt) (lit≤ tt))
lead_state b f (three_low h e) s = subst IsState (some_is (follow 2 160 191) f (sym e ∙ s)) (state_of 2 160 191 (lit≤ tt) (lit≤ tt))
lead_state b f (three_cut h e) s = subst IsState (some_is (follow 2 128 159) f (sym e ∙ s)) (state_of 2 128 159 (lit≤ tt) (lit≤ tt))
lead_state b f (three h k m e) s = subst IsState (some_is (follow 2 128 191) f (sym e ∙ s)) (state_of 2 128 191 (lit≤ tt) (lit≤ tt))
lead_state b f (four_low h e) s = subst IsState (some_is (follow 3 144 191) f (sym e ∙ s)) (state_of 3 144 191 (lit≤ tt) (lit≤ tt))
lead_state b f (four h k e) s = subst IsState (some_is (follow 3 128 191) f (sym e ∙ s)) (state_of 3 128 191 (lit≤ tt) (lit≤ tt))
lead_state b f (four_high h e) s = subst IsState (some_is (follow 3 128 143) f (sym e ∙ s)) (state_of 3 128 143 (lit≤ tt) (lit≤ tt))
lead_state b f (never h k e) s = absurd (none_some f (sym e ∙ s))

mid_state : (f g : CharacterRest) (b : ℕ) → ¬ (f.more ≡ 0) → after_byte f b ≡ Some g → IsState f → IsState g
mid_state f g b n e s = elim (cases_lt b f.low) [
  | inl lt ↦ absurd (none_some g (rw (ne_eqb f.more 0 n, lt-leb f.low b lt) at e))
  | inr ge ↦ elim (cases_lt f.high b) [
    | inl lt ↦ absurd (none_some g (rw (ne_eqb f.more 0 n, le-leb f.low b ge, lt-leb b f.high lt) at e))
    | inr le ↦ subst IsState (some_is (follow (f.more - 1) 128 191) g (sym (mid_yes f b n ge le) ∙ e)) (state_of (f.more - 1) 128 191 (lit≤ tt) (omega (arith, s.few)))
  ]
]

pub after_state : (f g : CharacterRest) (b : ℕ) → after_byte f b ≡ Some g → IsState f → IsState g
after_state f g b e s = elim (cases_eq f.more 0) [
  | inl z ↦ lead_state b g (lead_of b) (sym (lead_is f b z) ∙ e)
  | inr n ↦ mid_state f g b n e s
]

-- a character's bytes need room
pub needs_room : (f : CharacterRest) (w : List ℕ) → Accepts (Some f) w → f.more ≤ length w
needs_room f [] a = omega (arith, a)
needs_room f (b ∷ w) a = elim (cases_eq f.more 0) [
  | inl z ↦ omega (arith, z)
  | inr n ↦
      let m = needs_room (follow (f.more - 1) 128 191) w (mid_no f b w n a).1.1 in
      omega (arith, m)
]

pub top_one : (r : ℕ) → r ≤ 1 → top_lead r ≡ 127
top_one r h = rw (le-leb r 1 h) refl

pub top_two : (r : ℕ) → r ≡ 2 → top_lead r ≡ 223
top_two r h = rw (lt-leb r 1 (omega (arith, h)), eq-eqb r 2 h) refl

pub top_three : (r : ℕ) → r ≡ 3 → top_lead r ≡ 239
top_three r h = rw (lt-leb r 1 (omega (arith, h)), ne_eqb r 2 (λ e. omega (arith, h, e)), eq-eqb r 3 h) refl

pub top_four : (r : ℕ) → 4 ≤ r → top_lead r ≡ 244
top_four r h = rw (lt-leb r 1 (omega arith), ne_eqb r 2 (λ e. omega (arith, h, e)), ne_eqb r 3 (λ e. omega (arith, h, e))) refl

-- the first byte of a character that has room is no greater than the greatest
pub least_top : (r : ℕ) → 127 ≤ top_lead r
least_top r = elim (cases_lt 1 r) [
  | inr h ↦ omega (arith, top_one r h)
  | inl h ↦ elim (cases_eq r 2) [
    | inl e ↦ omega (arith, top_two r e)
    | inr n ↦ elim (cases_eq r 3) [ inl e ↦ omega (arith, top_three r e) | inr m ↦ omega (arith, top_four r (omega (arith, h, n, m))) ]
  ]
]

pub two_top : (r : ℕ) → 2 ≤ r → 223 ≤ top_lead r
two_top r h = elim (cases_eq r 2) [
  | inl e ↦ omega (arith, top_two r e)
  | inr n ↦ elim (cases_eq r 3) [ inl e ↦ omega (arith, top_three r e) | inr m ↦ omega (arith, top_four r (omega (arith, h, n, m))) ]
]

pub three_top : (r : ℕ) → 3 ≤ r → 239 ≤ top_lead r
three_top r h = elim (cases_eq r 3) [ inl e ↦ omega (arith, top_three r e) | inr m ↦ omega (arith, top_four r (omega (arith, h, m))) ]

lead_top : (b : ℕ) (w : List ℕ) → Lead b → Accepts (after_lead b) w → b ≤ top_lead (suc (length w))
lead_top b w (one h e) a = omega (arith, h, least_top (suc (length w)))
lead_top b w (two h k e) a =
    let r = needs_room (follow 1 128 191) w (subst (λ (o : Option CharacterRest). Accepts o w) e a) in
    omega (arith, k, two_top (suc (length w)) (omega (arith, r)))
lead_top b w (three_low h e) a =
    let r = needs_room (follow 2 160 191) w (subst (λ (o : Option CharacterRest). Accepts o w) e a) in
    omega (arith, h, three_top (suc (length w)) (omega (arith, r)))
lead_top b w (three_cut h e) a =
    let r = needs_room (follow 2 128 159) w (subst (λ (o : Option CharacterRest). Accepts o w) e a) in
    omega (arith, h, three_top (suc (length w)) (omega (arith, r)))
lead_top b w (three h k m e) a =
    let r = needs_room (follow 2 128 191) w (subst (λ (o : Option CharacterRest). Accepts o w) e a) in
    omega (arith, k, three_top (suc (length w)) (omega (arith, r)))
lead_top b w (four_low h e) a =
    let r = needs_room (follow 3 144 191) w (subst (λ (o : Option CharacterRest). Accepts o w) e a) in
    omega (arith, h, top_four (suc (length w)) (omega (arith, r)))
lead_top b w (four h k e) a =
    let r = needs_room (follow 3 128 191) w (subst (λ (o : Option CharacterRest). Accepts o w) e a) in
    omega (arith, k, top_four (suc (length w)) (omega (arith, r)))
lead_top b w (four_high h e) a =
    let r = needs_room (follow 3 128 143) w (subst (λ (o : Option CharacterRest). Accepts o w) e a) in
    omega (arith, h, top_four (suc (length w)) (omega (arith, r)))
lead_top b w (never h k e) a = absurd (subst (λ (o : Option CharacterRest). Accepts o w) e a)

-- a byte that is there in another text is no greater than what can
rises : (f : CharacterRest) (x b : ℕ) (w : List ℕ) → x < b → Accepts (after_byte f b) w → can_rise f (suc (length w)) x ≡ true
rises f x b w lt a = elim (cases_eq f.more 0) [
  | inl z ↦
      let top = lead_top b w (lead_of b) (subst (λ (o : Option CharacterRest). Accepts o w) (lead_is f b z) a) in
      rw (eq-eqb f.more 0 z) (lt-ltb x (top_lead (suc (length w))) (omega (arith, lt, top)))
  | inr n ↦
      let m = mid_no f b w n a in
      let r = needs_room (follow (f.more - 1) 128 191) w m.1.1 in
      rw (ne_eqb f.more 0 n, le-leb f.more (suc (length w)) (omega (arith, r)), lt-ltb x f.high (omega (arith, lt, m.1.0))) refl
]

pub turn_here : (rise : Bool) (later : ℕ) → rise ≡ true → 0 < last_turn rise later
turn_here rise zero e = rw e (lit< tt)
turn_here rise (suc later) e = rw (ne_eqb (suc later) 0 (λ z. omega (arith, z))) (omega arith)

pub turn_later : (rise : Bool) (later : ℕ) → 0 < later → 0 < last_turn rise later
turn_later rise later h = rw (ne_eqb later 0 (λ z. omega (arith, h, z))) (omega arith)

-- a greater text turns somewhere
pub must_turn : (o : Option CharacterRest) (p w : List ℕ) → Accepts o p → Accepts o w → Less_than p w → 0 < turns o (length w) p
must_turn None p w a c l = absurd a
must_turn (Some f) p [] a c l = absurd (less_nil p l)
must_turn (Some f) [] (b ∷ w) a c l = lit< tt
must_turn (Some f) (x ∷ p) (b ∷ w) a c l = elim (less_head x b p w l) [
  | inl lt ↦ turn_here (can_rise f (suc (length w)) x) (turns (after_byte f x) (length w) p) (rises f x b w lt c)
  | inr t ↦ turn_later (can_rise f (suc (length w)) x) (turns (after_byte f x) (length w) p) (must_turn (after_byte f x) p w a (subst (λ (y : ℕ). Accepts (after_byte f y) w) (sym t.0) c) t.1)
]

-- ---- texts that continue from a state
full : (n : ℕ) (f : CharacterRest) → f.more ≡ n → IsState f → (c : List ℕ) × ((length c ≡ n) × Accepts (Some f) c)
full zero f e s = ([], (refl, e))
full (suc n) f e s =
    let nz : ¬ (f.more ≡ 0) = λ z. omega (arith, e, z) in
    let rest = full n (follow (f.more - 1) 128 191) (omega (arith, e)) (state_of (f.more - 1) 128 191 (lit≤ tt) (omega (arith, s.few))) in
    (f.low ∷ rest.0, (ap suc rest.1.0, subst (λ (o : Option CharacterRest). Accepts o rest.0) (sym (mid_yes f f.low nz (omega arith) s.range)) rest.1.1))

zero_takes : (f : CharacterRest) (n : ℕ) → f.more ≡ 0 → Accepts (Some f) (zeros n)
zero_takes f zero e = e
zero_takes f (suc n) e = subst (λ (o : Option CharacterRest). Accepts o (zeros n)) (sym (lead_is f 0 e)) (zero_takes start n refl)

pub padded : (o : Option CharacterRest) (c : List ℕ) (n : ℕ) → Accepts o c → Accepts o (c ++ zeros n)
padded None c n a = absurd a
padded (Some f) [] n a = zero_takes f n a
padded (Some f) (b ∷ c) n a = padded (after_byte f b) c n a

-- a text of so many bytes from a state: whole characters, and zeros after them
pub record Filled (o : Option CharacterRest) (room limit : ℕ) : Type 0 where
  pub front : List ℕ
  pub count : ℕ
  pub long : length (front ++ zeros count) ≡ room
  pub short : length front ≤ limit
  pub takes : Accepts o front

pub fill : (f : CharacterRest) (room : ℕ) → IsState f → f.more ≤ room → Filled (Some f) room 3
fill f room s h =
    let c = full f.more f refl s in
    record { front = c.0; count = room - f.more; long = omega (arith, length-append c.0 (zeros (room - f.more)), zeros_long (room - f.more), c.1.0, h); short = omega (arith, c.1.0, s.few); takes = c.1.1 }

pub record Greater_one (o : Option CharacterRest) (room : ℕ) (p : List ℕ) : Type 0 where
  pub text : Filled o room (length p + 4)
  pub above : Less_than p (text.front ++ zeros text.count)

abbrev Top : ℕ → ℕ → Type 0
Top r b = (f : CharacterRest) × ((after_lead b ≡ Some f) × ((f.more ≤ r) × IsState f))

top_fits : (r : ℕ) → Top r (top_lead (suc r))
top_fits r = elim (cases_lt 1 (suc r)) [
  | inr h ↦ subst (Top r) (sym (top_one (suc r) h)) (start, (refl, (omega arith, start_state)))
  | inl h ↦ elim (cases_eq (suc r) 2) [
    | inl e ↦ subst (Top r) (sym (top_two (suc r) e)) (follow 1 128 191, (refl, (omega (arith, e), state_of 1 128 191 (lit≤ tt) (lit≤ tt))))
    | inr n ↦ elim (cases_eq (suc r) 3) [
      | inl e ↦ subst (Top r) (sym (top_three (suc r) e)) (follow 2 128 191, (refl, (omega (arith, e), state_of 2 128 191 (lit≤ tt) (lit≤ tt))))
      | inr m ↦
          let big : 4 ≤ suc r = omega (arith, h, n, m) in
          subst (Top r) (sym (top_four (suc r) big)) (follow 3 128 143, (refl, (omega (arith, big), state_of 3 128 143 (lit≤ tt) (lit≤ tt))))
    ]
  ]
]

-- from a byte on, the rest as it fills
abbrev put_on : (f g : CharacterRest) (b room limit : ℕ) → after_byte f b ≡ Some g → Filled (Some g) room limit → Filled (Some f) (suc room) (suc limit)
put_on f g b room limit e c = record {
  front = b ∷ c.front;
  count = c.count;
  long = ap suc c.long;
  short = omega (arith, c.short);
  takes = subst (λ (o : Option CharacterRest). Accepts o c.front) (sym e) c.takes;
}

abbrev widen : (o : Option CharacterRest) (room k l : ℕ) → k ≤ l → Filled o room k → Filled o room l
widen o room k l h c = record { front = c.front; count = c.count; long = c.long; short = omega (arith, h, c.short); takes = c.takes }

raise : (f : CharacterRest) (r x : ℕ) (p : List ℕ) → IsState f → can_rise f (suc r) x ≡ true → Greater_one (Some f) (suc r) (x ∷ p)
raise f r x p s e = elim (cases_eq f.more 0) [
  | inl z ↦
      let t = top_fits r in
      let lt : x < top_lead (suc r) = ltb-true x (top_lead (suc r)) (rw (eq-eqb f.more 0 z) at e) in
      record {
        text = widen (Some f) (suc r) 4 (suc (length p) + 4) (omega arith) (put_on f t.0 (top_lead (suc r)) r 3 (lead_is f (top_lead (suc r)) z ∙ t.1.0) (fill t.0 r t.1.1.1 t.1.1.0));
        above = head_less x (top_lead (suc r)) p _ lt;
      }
  | inr n ↦
      let q = and_parts (leb f.more (suc r)) (ltb x f.high) (rw (ne_eqb f.more 0 n) at e) in
      let room = leb-true f.more (suc r) q.0 in
      let g = follow (f.more - 1) 128 191 in
      record {
        text = widen (Some f) (suc r) 4 (suc (length p) + 4) (omega arith) (put_on f g f.high r 3 (mid_yes f f.high n s.range (omega arith)) (fill g r (state_of (f.more - 1) 128 191 (lit≤ tt) (omega (arith, s.few))) (omega (arith, room))));
        above = head_less x f.high p _ (ltb-true x f.high q.1);
      }
]

go_on : (f : CharacterRest) (r x : ℕ) (p : List ℕ) → Greater_one (after_byte f x) r p → Greater_one (Some f) (suc r) (x ∷ p)
go_on f r x p g = record {
  text = record { front = x ∷ g.text.front; count = g.text.count; long = ap suc g.text.long; short = omega (arith, g.text.short); takes = g.text.takes };
  above = tail_less x x p _ refl g.above;
}

pub turn_splits : (rise : Bool) (later : ℕ) → 0 < last_turn rise later → (0 < later) ⊎ (rise ≡ true)
turn_splits true later h = inr refl
turn_splits false zero h = absurd (omega (arith, h))
turn_splits false (suc later) h = inl (omega arith)

-- where a text can turn, there is a greater one
abbrev pub State_of : Option CharacterRest → Type 0
State_of None = ⊥
State_of (Some f) = IsState f

pub state_after : (f : CharacterRest) (x : ℕ) (p : List ℕ) → IsState f → Accepts (after_byte f x) p → State_of (after_byte f x)
state_after f x p s a = by (after_byte f x) refl a
  where
    by : (o : Option CharacterRest) → after_byte f x ≡ o → Accepts o p → State_of o
    by None e a = absurd a
    by (Some g) e a = after_state f g x e s

pub can_turn : (o : Option CharacterRest) (r : ℕ) (p : List ℕ) → State_of o → Accepts o p → 0 < turns o r p → Greater_one o r p
can_turn None r p s a h = absurd a
can_turn (Some f) zero p s a h = absurd (omega (arith, h))
can_turn (Some f) (suc r) [] s a h = record {
  text = record { front = []; count = suc r; long = zeros_long (suc r); short = omega arith; takes = a };
  above = refl;
}
can_turn (Some f) (suc r) (x ∷ p) s a h = elim (turn_splits (can_rise f (suc r) x) (turns (after_byte f x) r p) h) [
  | inl later ↦ go_on f r x p (can_turn (after_byte f x) r p (state_after f x p s a) a later)
  | inr here ↦ raise f r x p s here
]
