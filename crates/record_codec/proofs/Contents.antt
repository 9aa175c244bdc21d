-- Texts that are above another, of a length: they are read exactly.
use Rattle.std.proofs.Common.{◌≡◌, ℕ, zero, suc, ◌+◌, ◌-◌, ◌<◌, ◌≤◌, Bool, true, false, List, [], ◌∷◌, ◌++◌, length, drop, slice_get, Option, None, Some, refl, sym, ap, subst, ◌∙◌, inl, inr, arith}
use Rattle.std.proofs.lemmas.Bool.{true≢false, cases_lt, cases_order, cases_Bool, lt-ltb, le-ltb, le-leb, lt-leb, ne_eqb}
use Rattle.record_codec.specs.declared.utf8.CharacterRest.{CharacterRest}
use Rattle.record_codec.specs.declared.read_texts.TextRest.{TextRest}
use Rattle.record_codec.specs.NextBytes.{after_byte, last_turn, can_rise, turns, rest_above, if_room, text_rest_after, on_some, left_in_text}
use Rattle.record_codec.proofs.Between.{zeros}
use Rattle.record_codec.proofs.Exact.{Stops, stops_later, stops_here, stops_short}
use Rattle.record_codec.proofs.Utf.{Less_than, head_less, tail_less, less_head, Accepts}
use Rattle.record_codec.proofs.Turning.{IsState, after_state, needs_room, must_turn, padded, Filled, fill, can_turn}

-- the texts that are rest_of_text
pub record Awaits (s : TextRest) (bound w : List ℕ) : Type 0 where
  pub long : length w ≡ s.room
  pub text : Accepts (Some s.follow) w
  pub above : s.tight ≡ true → Less_than bound w

-- some are
pub record Live (s : TextRest) (bound : List ℕ) : Type 0 where
  pub state : IsState s.follow
  pub room : s.tight ≡ false → s.follow.more ≤ s.room
  pub bound_text : s.tight ≡ true → Accepts (Some s.follow) bound
  pub turn_is : s.tight ≡ true → s.turn ≡ turns (Some s.follow) s.room bound
  pub turn_there : s.tight ≡ true → 0 < s.turn

-- one that leaves room for greater ones: whole characters, and zeros after them
pub record Roomy (s : TextRest) (bound : List ℕ) (limit : ℕ) (w : List ℕ) : Type 0 where
  pub front : List ℕ
  pub count : ℕ
  pub is : w ≡ front ++ zeros count
  pub short : length front ≤ limit
  pub takes : Accepts (Some s.follow) front
  pub awaits : Awaits s bound w

roomy_of : (s : TextRest) (bound : List ℕ) (limit k : ℕ) → k ≤ limit → (t : Filled (Some s.follow) s.room k) → (s.tight ≡ true → Less_than bound (t.front ++ zeros t.count)) → (w : List ℕ) × Roomy s bound limit w
roomy_of s bound limit k le t above = (
  t.front ++ zeros t.count,
  record {
    front = t.front;
    count = t.count;
    is = refl;
    short = omega (arith, le, t.short);
    takes = t.takes;
    awaits = record { long = t.long; text = padded (Some s.follow) t.front t.count t.takes; above = above };
  },
)

pub live_some : (s : TextRest) (bound : List ℕ) (limit : ℕ) → Live s bound → length bound + 4 ≤ limit → (w : List ℕ) × Roomy s bound limit w
live_some s bound limit l h = elim (cases_Bool s.tight) [
  | inl t ↦
      let g = can_turn (Some s.follow) s.room bound l.state (l.bound_text t) (omega (arith, l.turn_is t, l.turn_there t)) in
      roomy_of s bound limit (length bound + 4) h g.text (λ _. g.above)
  | inr f ↦ roomy_of s bound limit 3 (omega (arith, h)) (fill s.follow s.room l.state (l.room f)) (λ t. absurd (true≢false (sym t ∙ f)))
]

-- ---- one byte further
abbrev freed : TextRest → CharacterRest → TextRest
freed s f = record { follow = f; room = s.room - 1; tight = false; turn = 0 }

abbrev held : TextRest → CharacterRest → TextRest
held s f = record { follow = f; room = s.room - 1; tight = true; turn = s.turn - 1 }

-- what a byte makes of what is rest_of_text
data Steps (s : TextRest) (bound : List ℕ) (b : ℕ) (o : Option TextRest) : Type 0 where
  no_byte : after_byte s.follow b ≡ None → o ≡ None → Steps s bound b o
  no_room : (f : CharacterRest) → after_byte s.follow b ≡ Some f → s.room ≤ f.more → o ≡ None → Steps s bound b o
  goes_free : (f : CharacterRest) → after_byte s.follow b ≡ Some f → f.more < s.room → o ≡ Some (freed s f)
      → ((w : List ℕ) → s.tight ≡ true → Less_than bound (b ∷ w)) → Steps s bound b o
  too_low : (f : CharacterRest) → after_byte s.follow b ≡ Some f → s.tight ≡ true → o ≡ None → ((w : List ℕ) → ¬ Less_than bound (b ∷ w)) → Steps s bound b o
  no_turn : (f : CharacterRest) (p : List ℕ) → after_byte s.follow b ≡ Some f → s.tight ≡ true → bound ≡ b ∷ p → s.turn ≤ 1 → o ≡ None → Steps s bound b o
  goes_on : (f : CharacterRest) (p : List ℕ) → after_byte s.follow b ≡ Some f → f.more < s.room → s.tight ≡ true → bound ≡ b ∷ p → 1 < s.turn → o ≡ Some (held s f) → Steps s bound b o

beside_steps : (s : TextRest) (bound : List ℕ) (b : ℕ) (f : CharacterRest) → after_byte s.follow b ≡ Some f → f.more < s.room → Steps s bound b (rest_above s (slice_get bound 0) b f)
beside_steps s [] b f e r = goes_free f e r refl (λ w t. refl)
beside_steps s (x ∷ p) b f e r = elim (cases_Bool s.tight) [
  | inr loose ↦ goes_free f e r (rw loose refl) (λ w t. absurd (true≢false (sym t ∙ loose)))
  | inl tight ↦ elim (cases_order x b) [
    | inr (inl lt) ↦ goes_free f e r (rw (tight, lt-ltb x b lt) refl) (λ w t. head_less x b p w lt)
    | inr (inr gt) ↦ too_low f e tight (rw (tight, le-ltb x b (omega (arith, gt)), lt-ltb b x gt) refl) (λ w l. elim (less_head x b p w l) [ inl lt ↦ omega (arith, lt, gt) | inr t ↦ omega (arith, t.0, gt) ])
    | inl is ↦ elim (cases_lt 1 s.turn) [
      | inl more ↦ goes_on f p e r tight (ap (λ (y : ℕ). y ∷ p) is) more (rw (tight, le-ltb x b (omega (arith, is)), le-ltb b x (omega (arith, is)), lt-leb s.turn 1 more) refl)
      | inr few ↦ no_turn f p e tight (ap (λ (y : ℕ). y ∷ p) is) few (rw (tight, le-ltb x b (omega (arith, is)), le-ltb b x (omega (arith, is)), le-leb s.turn 1 few) refl)
    ]
  ]
]

steps : (s : TextRest) (bound : List ℕ) (b : ℕ) → Steps s bound b (text_rest_after s (slice_get bound 0) b)
steps s bound b = by (after_byte s.follow b) refl
  where
    by : (o : Option CharacterRest) → after_byte s.follow b ≡ o → Steps s bound b (if_room s (slice_get bound 0) b o)
    by None e = no_byte e refl
    by (Some f) e = elim (cases_lt f.more s.room) [
      | inl lt ↦ rw (lt-leb s.room f.more lt) (beside_steps s bound b f e lt)
      | inr ge ↦ no_room f e ge (rw (le-leb s.room f.more ge) refl)
    ]

tail_of : (bound : List ℕ) (b : ℕ) (p : List ℕ) → bound ≡ b ∷ p → drop 1 bound ≡ p
tail_of bound b p e = ap (drop 1) e

one_some : {A : Type 0} (a b : A) → Some a ≡ Some b → a ≡ b
one_some a b e = cc

none_not : {A : Type 0} (a : A) → None ≡ Some a → ⊥
none_not a e = cc

-- a text that is rest_of_text continues with a byte that is taken
awaits_on : (s : TextRest) (bound : List ℕ) (b : ℕ) (w : List ℕ) (o : Option TextRest) → Steps s bound b o → Live s bound → Awaits s bound (b ∷ w) → (t : TextRest) × (o ≡ Some t) × Awaits t (drop 1 bound) w
awaits_on s bound b w o (no_byte e n) l a = absurd (subst (λ (q : Option CharacterRest). Accepts q w) e a.text)
awaits_on s bound b w o (no_room f e r n) l a =
    let m = needs_room f w (subst (λ (q : Option CharacterRest). Accepts q w) e a.text) in
    absurd (omega (arith, m, r, a.long))
awaits_on s bound b w o (goes_free f e r is g) l a =
    (freed s f, is, record { long = omega (arith, a.long); text = subst (λ (q : Option CharacterRest). Accepts q w) e a.text; above = λ t. absurd (true≢false (sym t)) })
awaits_on s bound b w o (too_low f e t n g) l a = absurd (g w (a.above t))
awaits_on s bound b w o (no_turn f p e t is few n) l a =
    let acc : Accepts (Some f) w = subst (λ (q : Option CharacterRest). Accepts q w) e a.text in
    let bt : Accepts (Some s.follow) (b ∷ p) = subst (Accepts (Some s.follow)) is (l.bound_text t) in
    let ab : Less_than (b ∷ p) (b ∷ w) = subst (λ (q : List ℕ). Less_than q (b ∷ w)) is (a.above t) in
    let below : Less_than p w = elim (less_head b b p w ab) [ inl lt ↦ absurd (omega (arith, lt)) | inr q ↦ q.1 ] in
    let later = must_turn (Some f) p w (subst (λ (q : Option CharacterRest). Accepts q p) e bt) acc below in
    let more = two_turns s.follow f s.room b p (length w) (sym a.long) e later in
    let same : s.turn ≡ turns (Some s.follow) s.room (b ∷ p) = l.turn_is t ∙ ap (turns (Some s.follow) s.room) is in
    absurd (omega (arith, few, more, same))
  where
    two_turns : (f g : CharacterRest) (room b : ℕ) (p : List ℕ) (n : ℕ) → room ≡ suc n → after_byte f b ≡ Some g → 0 < turns (Some g) n p → 1 < turns (Some f) room (b ∷ p)
    two_turns f g room b p n er e h = rw (er, e, ne_eqb (turns (Some g) n p) 0 (λ z. omega (arith, h, z))) (omega (arith, h))
awaits_on s bound b w o (goes_on f p e r t is more eo) l a =
    let ab : Less_than (b ∷ p) (b ∷ w) = subst (λ (q : List ℕ). Less_than q (b ∷ w)) is (a.above t) in
    let below : Less_than p w = elim (less_head b b p w ab) [ inl lt ↦ absurd (omega (arith, lt)) | inr q ↦ q.1 ] in
    (held s f, eo, record { long = omega (arith, a.long); text = subst (λ (q : Option CharacterRest). Accepts q w) e a.text; above = λ _. subst (λ (q : List ℕ). Less_than q w) (sym (tail_of bound b p is)) below })

-- and back
awaits_back : (s t : TextRest) (bound : List ℕ) (b : ℕ) (w : List ℕ) (o : Option TextRest) → Steps s bound b o → o ≡ Some t → Awaits t (drop 1 bound) w → Awaits s bound (b ∷ w)
awaits_back s t bound b w o (no_byte e n) eo a = absurd (none_not t (sym n ∙ eo))
awaits_back s t bound b w o (no_room f e r n) eo a = absurd (none_not t (sym n ∙ eo))
awaits_back s t bound b w o (goes_free f e r is g) eo a =
    let same : t ≡ freed s f = sym (one_some (freed s f) t (sym is ∙ eo)) in
    let a1 = subst (λ (q : TextRest). Awaits q (drop 1 bound) w) same a in
    record { long = omega (arith, a1.long, r); text = subst (λ (q : Option CharacterRest). Accepts q w) (sym e) a1.text; above = g w }
awaits_back s t bound b w o (too_low f e k n g) eo a = absurd (none_not t (sym n ∙ eo))
awaits_back s t bound b w o (no_turn f p e k is few n) eo a = absurd (none_not t (sym n ∙ eo))
awaits_back s t bound b w o (goes_on f p e r k is more eq) eo a =
    let same : t ≡ held s f = sym (one_some (held s f) t (sym eq ∙ eo)) in
    let a1 = subst (λ (q : TextRest). Awaits q (drop 1 bound) w) same a in
    let below : Less_than p w = subst (λ (q : List ℕ). Less_than q w) (tail_of bound b p is) (a1.above refl) in
    record {
      long = omega (arith, a1.long, r);
      text = subst (λ (q : Option CharacterRest). Accepts q w) (sym e) a1.text;
      above = λ _. subst (λ (q : List ℕ). Less_than q (b ∷ w)) (sym is) (tail_less b b p w refl below);
    }

takes_back : (s t : TextRest) (bound : List ℕ) (b : ℕ) (c : List ℕ) (o : Option TextRest) → Steps s bound b o → o ≡ Some t → Accepts (Some t.follow) c → Accepts (Some s.follow) (b ∷ c)
takes_back s t bound b c o (no_byte e n) eo a = absurd (none_not t (sym n ∙ eo))
takes_back s t bound b c o (no_room f e r n) eo a = absurd (none_not t (sym n ∙ eo))
takes_back s t bound b c o (goes_free f e r is g) eo a = subst (λ (q : Option CharacterRest). Accepts q c) (sym e) (subst (λ (q : TextRest). Accepts (Some q.follow) c) (sym (one_some (freed s f) t (sym is ∙ eo))) a)
takes_back s t bound b c o (too_low f e k n g) eo a = absurd (none_not t (sym n ∙ eo))
takes_back s t bound b c o (no_turn f p e k is few n) eo a = absurd (none_not t (sym n ∙ eo))
takes_back s t bound b c o (goes_on f p e r k is more eq) eo a = subst (λ (q : Option CharacterRest). Accepts q c) (sym e) (subst (λ (q : TextRest). Accepts (Some q.follow) c) (sym (one_some (held s f) t (sym eq ∙ eo))) a)

-- what is rest_of_text then is alive
live_on : (s t : TextRest) (bound : List ℕ) (b : ℕ) (o : Option TextRest) → Steps s bound b o → o ≡ Some t → Live s bound → Live t (drop 1 bound)
live_on s t bound b o (no_byte e n) eo l = absurd (none_not t (sym n ∙ eo))
live_on s t bound b o (no_room f e r n) eo l = absurd (none_not t (sym n ∙ eo))
live_on s t bound b o (goes_free f e r is g) eo l =
    subst (λ (q : TextRest). Live q (drop 1 bound)) (one_some (freed s f) t (sym is ∙ eo)) (record {
      state = after_state s.follow f b e l.state;
      room = λ _. omega (arith, r);
      bound_text = λ k. absurd (true≢false (sym k));
      turn_is = λ k. absurd (true≢false (sym k));
      turn_there = λ k. absurd (true≢false (sym k));
    })
live_on s t bound b o (too_low f e k n g) eo l = absurd (none_not t (sym n ∙ eo))
live_on s t bound b o (no_turn f p e k is few n) eo l = absurd (none_not t (sym n ∙ eo))
live_on s t bound b o (goes_on f p e r k is more eq) eo l =
    let bt : Accepts (Some s.follow) (b ∷ p) = subst (Accepts (Some s.follow)) is (l.bound_text k) in
    let same : s.turn ≡ turns (Some s.follow) s.room (b ∷ p) = l.turn_is k ∙ ap (turns (Some s.follow) s.room) is in
    let later = less_turns s.follow f s.room s.turn b p e r more same in
    let made : Live (held s f) p = record {
      state = after_state s.follow f b e l.state;
      room = λ z. absurd (true≢false z);
      bound_text = λ _. subst (λ (q : Option CharacterRest). Accepts q p) e bt;
      turn_is = λ _. later;
      turn_there = λ _. omega (arith, more);
    } in
    subst (λ (q : List ℕ). Live t q) (sym (tail_of bound b p is)) (subst (λ (q : TextRest). Live q p) (one_some (held s f) t (sym eq ∙ eo)) made)
  where
    of_last : (rise : Bool) (later turn : ℕ) → 1 < turn → turn ≡ last_turn rise later → turn - 1 ≡ later
    of_last true zero turn h e = absurd (omega (arith, h, e))
    of_last false zero turn h e = absurd (omega (arith, h, e))
    of_last rise (suc later) turn h e =
        let e1 : turn ≡ suc later + 1 = rw (ne_eqb (suc later) 0 (λ z. omega (arith, z))) at e in
        omega (arith, e1)

    less_turns : (f g : CharacterRest) (room turn b : ℕ) (p : List ℕ) → after_byte f b ≡ Some g → g.more < room → 1 < turn → turn ≡ turns (Some f) room (b ∷ p) → turn - 1 ≡ turns (Some g) (room - 1) p
    less_turns f g room turn b p e r h is =
        let k : room ≡ suc (room - 1) = omega (arith, r) in
        let is1 : turn ≡ last_turn (can_rise f (suc (room - 1)) b) (turns (after_byte f b) (room - 1) p) = is ∙ ap (λ n. turns (Some f) n (b ∷ p)) k in
        of_last (can_rise f (suc (room - 1)) b) (turns (after_byte f b) (room - 1) p) turn h is1 ∙ ap (λ q. turns q (room - 1) p) e

roomy_back : (s t : TextRest) (bound : List ℕ) (b limit : ℕ) (w : List ℕ) (o : Option TextRest) → Steps s bound b o → o ≡ Some t → Roomy t (drop 1 bound) limit w → Roomy s bound (suc limit) (b ∷ w)
roomy_back s t bound b limit w o k eo r = record {
  front = b ∷ r.front;
  count = r.count;
  is = ap (λ (q : List ℕ). b ∷ q) r.is;
  short = omega (arith, r.short);
  takes = takes_back s t bound b r.front o k eo r.takes;
  awaits = awaits_back s t bound b w o k eo r.awaits;
}

-- ---- where no text continues
abbrev pub TextStops : TextRest → List ℕ → ℕ → List ℕ → ℕ → Type 0
TextStops s bound limit xs left = Stops (Roomy s bound limit) (Awaits s bound) xs left

text_end : (s : TextRest) (bound : List ℕ) (limit : ℕ) → ((w rest : List ℕ) → [] ≡ w ++ rest → Awaits s bound w → ⊥) → (w : List ℕ) × Roomy s bound limit w → TextStops s bound limit [] 0
text_end s bound limit none ([], r) = absurd (none [] [] refl r.awaits)
text_end s bound limit none (d ∷ w, r) = stops_short (Roomy s bound limit) (Awaits s bound) [] d w r

drop_short : (bound : List ℕ) (limit : ℕ) → length bound + 4 ≤ suc limit → 4 ≤ limit → length (drop 1 bound) + 4 ≤ limit
drop_short [] limit h k = k
drop_short (x ∷ bound) limit h k = omega (arith, h)

abbrev Later : TextRest → List ℕ → ℕ → List ℕ → Option TextRest → Type 0
Later s bound limit xs None = Unit {0}
Later s bound limit xs (Some t) = TextStops t (drop 1 bound) limit xs (left_in_text t (drop 1 bound) xs)

text_byte : (s : TextRest) (bound : List ℕ) (limit x : ℕ) (xs : List ℕ) (o : Option TextRest) → Steps s bound x o → Live s bound → ((rest : List ℕ) → x ∷ xs ≡ [] ++ rest → Awaits s bound [] → ⊥) → (w : List ℕ) × Roomy s bound (suc limit) w
    → Later s bound limit xs o → TextStops s bound (suc limit) (x ∷ xs) (on_some o (suc (length xs)) (λ t. left_in_text t (drop 1 bound) xs))
text_byte s bound limit x xs o k l none ([], r) later = absurd (none (x ∷ xs) refl r.awaits)
text_byte s bound limit x xs None k l none (d ∷ w, r) later =
    stops_here (Roomy s bound (suc limit)) (Awaits s bound) x xs d w r (λ ys a. let t = awaits_on s bound x ys None k l a in none_not t.0 t.1)
text_byte s bound limit x xs (Some t) k l none (d ∷ w, r) later =
    stops_later (Roomy t (drop 1 bound) limit) (Awaits t (drop 1 bound)) (Roomy s bound (suc limit)) (Awaits s bound) x xs (left_in_text t (drop 1 bound) xs)
    (λ v q. roomy_back s t bound x limit v (Some t) k refl q)
    (λ v a. let u = awaits_on s bound x v (Some t) k l a in subst (λ (q : TextRest). Awaits q (drop 1 bound) v) (sym (one_some t u.0 u.1)) u.2) later

later_of : (s : TextRest) (bound : List ℕ) (limit x : ℕ) (xs : List ℕ) (o : Option TextRest) → Steps s bound x o → Live s bound → ((w rest : List ℕ) → x ∷ xs ≡ w ++ rest → Awaits s bound w → ⊥)
    → ((t : TextRest) → Live t (drop 1 bound) → ((w rest : List ℕ) → xs ≡ w ++ rest → Awaits t (drop 1 bound) w → ⊥) → TextStops t (drop 1 bound) limit xs (left_in_text t (drop 1 bound) xs))
    → Later s bound limit xs o
later_of s bound limit x xs None k l none go = tt
later_of s bound limit x xs (Some t) k l none go =
    go t (live_on s t bound x (Some t) k refl l) (λ w rest e a. none (x ∷ w) rest (ap (λ (q : List ℕ). x ∷ q) e) (awaits_back s t bound x w (Some t) k refl a))

pub text_stops : (xs : List ℕ) (s : TextRest) (bound : List ℕ) (limit : ℕ) → Live s bound → length bound + 4 ≤ limit → length xs + 4 ≤ limit → ((w rest : List ℕ) → xs ≡ w ++ rest → Awaits s bound w → ⊥)
    → TextStops s bound limit xs (left_in_text s bound xs)
text_stops [] s bound limit l h k none = text_end s bound limit none (live_some s bound limit l h)
text_stops (x ∷ xs) s bound zero l h k none = absurd (omega (arith, h))
text_stops (x ∷ xs) s bound (suc limit) l h k none =
    text_byte s bound limit x xs (text_rest_after s (slice_get bound 0) x) (steps s bound x) l (λ rest e a. none [] rest e a) (live_some s bound (suc limit) l h)
    (later_of s bound limit x xs (text_rest_after s (slice_get bound 0) x) (steps s bound x) l none
    (λ t m no. text_stops xs t (drop 1 bound) limit m (drop_short bound limit h (omega (arith, k))) (omega (arith, k)) no))
