-- Each step of a turn keeps the rule.
use Rattle.std.proofs.Common.{◌≡◌, ◌≢◌, inl, inr, ℕ, zero, suc, ◌+◌, ◌%◌, ◌^◌, ◌<◌, Bool, true, false, List, [], ◌∷◌, ◌++◌, length, set, get_or, eq-eqb, ne_eqb, ◌==◌, if◌then◌else◌, sym, refl, ap, ◌∙◌, subst, ⊎_elim, arith, Option, Some, None}
use Rattle.std.proofs.lemmas.List.{length-set, set-get_or}
use Rattle.std.proofs.Math.Nat.{mod-add-mod}
use mathlib.Core.Option.{some, none}
use mathlib.Core.Logic.{dite}
use native.Mathlib.Decide.{ℕ_discrete}
use lib.ListN.{get_elem?}
use Rattle.atomic_table.specs.Table.{State, Me, Act, keeps, takes, gives, stepped, homes_after, Allows}
use Rattle.atomic_table.proofs.Lists.{set_again, one_turn, set_here}
use Rattle.mail_records.specs.Histories.{Entry}
use Rattle.account_lock.specs.Entries.{under, AreUnder, StartsWith}
use Rattle.account_lock.specs.Views.{Origin, View, HasName}
use Rattle.account_lock.specs.Rule.{Fits, IsKept, Knows, weight}
use Rattle.account_lock.specs.Steps.{unchanged, looked_back, drew, tried, watched, left_empty, took_empty, passed_on}
use Rattle.account_lock.proofs.Places.{not_true, same_at, set_at, zero_or, views_stay, pairs_stay, waiting_set, waiting_le, names_set, names_one, cover_stays}
use Rattle.account_lock.proofs.Entries.{under_stays, starts_here, starts_longer, starts_trans}

module _ {Y : Type 0} (shows : Y → List Entry) (origin : Y → Origin) (built : Y) where
  abbrev St : Type 0
  St = State (Option Y) View

  abbrev Rule : St → Type 0
  Rule = IsKept shows origin built

  abbrev AllFree : List View → Type 0
  AllFree vs = (j : ℕ) (v : View) → get_elem? vs j ≡ some v → v.turn ≡ false

  abbrev SharedTicket : View → View → Type 0
  SharedTicket a b = (a.waits ≡ true) × (b.waits ≡ true) × (a.ticket ≡ b.ticket)

  -- a view with the names of v
  names_stay : (s : St) (r : Rule s) (me : ℕ) (v w : View) → get_elem? s.views me ≡ some v → ((n : ℕ) → HasName w n → HasName v n)
      → (i j n : ℕ) (a b : View) → get_elem? (set s.views me w) i ≡ some a → get_elem? (set s.views me w) j ≡ some b → 0 < n → HasName a n → HasName b n → i ≡ j
  names_stay s r me v w at same i j n a b at_i at_j some_name p q = pairs_stay (λ (x y : View). HasName x n × HasName y n) (λ x y t. (t.1, t.0)) s.views me w
      (λ k c other at_k t. other (r.named k me n c v at_k at some_name t.1 (same n t.0)))
      (λ k l c d at_k at_l t. r.named k l n c d at_k at_l some_name t.0 t.1)
      i j a b at_i at_j (p, q)

  tickets_stay : (s : St) (r : Rule s) (me : ℕ) (w : View) → ((j : ℕ) (b : View) → j ≢ me → get_elem? s.views j ≡ some b → SharedTicket w b → ⊥)
      → (i j : ℕ) (a b : View) → get_elem? (set s.views me w) i ≡ some a → get_elem? (set s.views me w) j ≡ some b → a.waits ≡ true → b.waits ≡ true → a.ticket ≡ b.ticket → i ≡ j
  tickets_stay s r me w mine i j a b at_i at_j x y z = pairs_stay SharedTicket (λ c d t. (t.1, t.0, sym t.2)) s.views me w mine
      (λ k l c d at_k at_l t. r.apart k l c d at_k at_l t.0 t.1 t.2) i j a b at_i at_j (x, y, z)

  -- where w has the turn as v has it, what is free afterwards was free
  free_before : (vs : List View) (me : ℕ) (v w : View) → get_elem? vs me ≡ some v → w.turn ≡ v.turn → AllFree (set vs me w) → AllFree vs
  free_before vs me v w at same free j d at_j = dite (ℕ_discrete j me)
      (λ e. let is : v ≡ d = same_at vs me v d at (subst (λ (k : ℕ). get_elem? vs k ≡ some d) e at_j) in ap (λ (x : View). x.turn) (sym is) ∙ (sym same ∙ free me w (set_at vs me v w at)))
      (λ other. free j d (else_at vs me j w d other at_j))
    where
      else_at : (vs : List View) (i j : ℕ) (w d : View) → j ≢ i → get_elem? vs j ≡ some d → get_elem? (set vs i w) j ≡ some d
      else_at [] i j w d n e = e
      else_at (x ∷ xs) zero zero w d n e = absurd (n refl)
      else_at (x ∷ xs) zero (suc j) w d n e = e
      else_at (x ∷ xs) (suc i) zero w d n e = e
      else_at (x ∷ xs) (suc i) (suc j) w d n e = else_at xs i j w d (λ h. n (ap suc h)) e

  -- no view but v has the turn
  alone : (s : St) (r : Rule s) (me : ℕ) (v : View) → get_elem? s.views me ≡ some v → v.waits ≡ true → v.ticket ≡ r.served
      → (j : ℕ) (d : View) → j ≢ me → get_elem? s.views j ≡ some d → d.turn ≡ true → ⊥
  alone s r me v at waits is j d other at_j turn = let t = (r.each j d at_j).turn turn in other (r.apart j me d v at_j at t.0 waits (t.1 ∙ sym is))

  -- a look that shows nothing
  unmoved : (s : St) (i me : ℕ) (cs : List (ℕ × Option Y)) (v : View) → get_elem? s.views me ≡ some v → Rule s → Rule (stepped s i (get_or s.words i 0) me cs v keeps)
  unmoved s i me cs v at r = subst Rule (λ k. record { words = sym (set-get_or s.words i 0) k; homes = s.homes; views = sym (set_again s.views me v at) k }) r

  -- a step on the word of parked threads
  pub counts_parked : (slots me : ℕ) (m : Me (Option Y) View) (f : ℕ → ℕ) → Allows Rule slots me m 2 f (unchanged m)
  counts_parked slots me m f s r one_slot at fits =
      let ws : List ℕ = set s.words 2 (f (get_or s.words 2 0)) in
      let same : Rule record { words = ws; homes = s.homes; views = s.views } = record {
        drawn = r.drawn;
        served = r.served;
        parked = f (get_or s.words 2 0);
        given = r.given;
        start = r.start;
        log = r.log;
        words = ap (λ (xs : List ℕ). set xs 2 (f (get_or s.words 2 0))) r.words;
        one_slot = r.one_slot;
        tickets = r.tickets;
        many = r.many;
        few = r.few;
        each = r.each;
        apart = r.apart;
        named = r.named;
        home = r.home;
        untouched = r.untouched;
        counted = r.counted;
        covered = r.covered;
        strangers = r.strangers;
      } in
      (m.0, keeps, tt, subst (λ (vs : List View). Rule record { words = ws; homes = s.homes; views = vs }) (sym (set_again s.views me m.0 at)) same, refl)

  -- in a fuller history of tickets, another view fits as before
  later_ticket : (s : St) (r : Rule s) (j : ℕ) (d : View) → Fits r.drawn r.served r.given r.start r.log s.homes j d → Fits (r.drawn + 1) r.served r.given r.start r.log s.homes j d
  later_ticket s r j d g = record {
    ticket = λ h. let t = g.ticket h in (t.0, omega arith);
    turn = g.turn;
    away = g.away;
    seen = g.seen;
    knows = g.knows;
    heard = g.heard;
    name = g.name;
    ended = g.ended;
    unnamed = g.unnamed;
    root = g.root;
    origin = g.origin;
  }

  pub draws : (slots me : ℕ) (v : View) (cs : List (ℕ × Option Y)) → v.waits ≡ false → 0 < v.name → Allows Rule slots me (v, cs) 0 (λ n. (n + 1) % 2 ^ 64) (drew (v, cs))
  draws slots me v cs idle has_name s r one_slot at fits =
      let w : View = record v { waits = true; ticket = r.drawn } in
      let f = r.each me v at in
      let count = waiting_set s.views me v w at in
      let zero : weight v.waits ≡ 0 = ap weight idle in
      let more = r.tickets in (
        w,
        keeps,
        tt,
        record {
          drawn = r.drawn + 1;
          served = r.served;
          parked = r.parked;
          given = r.given;
          start = r.start;
          log = r.log;
          words = ap (λ (ws : List ℕ). set ws 0 ((get_or ws 0 0 + 1) % 2 ^ 64)) r.words ∙ ap (λ (n : ℕ). n ∷ r.served % 2 ^ 64 ∷ r.parked ∷ []) (mod-add-mod r.drawn (2 ^ 64) 1);
          one_slot = r.one_slot;
          tickets = omega arith;
          many = length-set s.views me w ∙ r.many;
          few = r.few;
          each = views_stay (Fits (r.drawn + 1) r.served r.given r.start r.log s.homes) s.views me w
              (record {
                ticket = λ _. (omega arith, omega arith);
                turn = λ h. let t = (f.turn h).0 in absurd (cc (t, idle));
                away = λ h. let t = (f.turn (f.away h).0).0 in absurd (cc (t, idle));
                seen = f.seen;
                knows = f.knows;
                heard = f.heard;
                name = f.name;
                ended = f.ended;
                unnamed = λ h. absurd (omega arith);
                root = f.root;
                origin = f.origin;
              })
              (λ j d other at_j. later_ticket s r j d (r.each j d at_j));
          apart = tickets_stay s r me w (λ j b other at_j t. let u = (r.each j b at_j).ticket t.1 in let e = t.2 in omega arith);
          named = names_stay s r me v w at (λ n h. h);
          home = λ free. r.home (free_before s.views me v w at refl free);
          untouched = r.untouched;
          counted = let names = names_set s.views me v w at in let all = r.counted in omega arith;
          covered = λ n p q. cover_stays s.views me v w at (λ m h. h) n (r.covered n p q);
          strangers = r.strangers;
        },
        (r.drawn, refl, ap (λ (ws : List ℕ). get_or ws 0 0) r.words),
      )

  next_if : (n expected next : ℕ) → n ≡ expected → (if n == expected then next else n) ≡ next
  next_if n expected next e = ap (λ (b : Bool). if b then next else n) (eq-eqb n expected e)

  same_if : (n expected next : ℕ) → n ≢ expected → (if n == expected then next else n) ≡ n
  same_if n expected next ne = ap (λ (b : Bool). if b then next else n) (ne_eqb n expected ne)

  -- a ticket is drawn where the word shows the number expected
  pub tries : (slots me : ℕ) (v : View) (cs : List (ℕ × Option Y)) (expected : ℕ) → v.waits ≡ false → 0 < v.name
      → Allows Rule slots me (v, cs) 0 (λ n. if n == expected then (expected + 1) % 2 ^ 64 else n) (tried expected (v, cs))
  tries slots me v cs expected idle has_name s r one_slot at fits =
      let n : ℕ = get_or s.words 0 0 in
      let next : ℕ = (expected + 1) % 2 ^ 64 in
      dite (ℕ_discrete n expected)
      (λ e. let d = draws slots me v cs idle has_name s r one_slot at fits in
      let to : (n + 1) % 2 ^ 64 ≡ (if n == expected then next else n) = ap (λ (k : ℕ). (k + 1) % 2 ^ 64) e ∙ sym (next_if n expected next e) in
      (d.0, d.1, d.2, subst (λ (x : ℕ). Rule (stepped s 0 x me cs d.0 d.1)) to d.3, ((λ _. d.4), λ ne. absurd (ne e))))
      (λ ne. (v, keeps, tt, subst (λ (x : ℕ). Rule (stepped s 0 x me cs v keeps)) (sym (same_if n expected next ne)) (unmoved s 0 me cs v at r), ((λ e. absurd (ne e)), λ _. refl)))

  -- the ticket of the word is the ticket of the view
  its_turn : (s : St) (r : Rule s) (me : ℕ) (v : View) → get_elem? s.views me ≡ some v → v.waits ≡ true → r.served % 2 ^ 64 ≡ v.ticket % 2 ^ 64 → v.ticket ≡ r.served
  its_turn s r me v at waits e =
      let t = (r.each me v at).ticket waits in
      let a = r.tickets in let b = waiting_le s.views in let c = r.many in let d = r.few in
      sym (one_turn r.served v.ticket (2 ^ 64) t.0 (omega arith) e)

  named_if : (s : St) (r : Rule s) (me : ℕ) (v : View) → get_elem? s.views me ≡ some v → v.waits ≡ true → 0 < v.name
  named_if s r me v at waits = ⊎_elim (λ (z : v.name ≡ 0). let t = (r.each me v at).unnamed z in absurd (cc (t, waits))) (λ (p : 0 < v.name). p) (zero_or (v.name))

  pub watches : (slots me : ℕ) (v : View) (cs : List (ℕ × Option Y)) → v.waits ≡ true → v.turn ≡ false → Allows Rule slots me (v, cs) 1 (λ n. n) (watched shows origin (v, cs))
  watches slots me v cs waits no_turn s r one_slot at fits = dite (ℕ_discrete (get_or s.words 1 0) (v.ticket % 2 ^ 64))
      (λ e.
      let f = r.each me v at in
      let here : get_or s.words 1 0 ≡ r.served % 2 ^ 64 = ap (λ (ws : List ℕ). get_or ws 1 0) r.words in
      let is : v.ticket ≡ r.served = its_turn s r me v at waits (sym here ∙ e) in
      let lone = alone s r me v at waits is in
      let free : AllFree s.views = λ j d at_j. dite (ℕ_discrete j me)
      (λ h. ap (λ (x : View). x.turn) (same_at s.views me d v (subst (λ (k : ℕ). get_elem? s.views k ≡ some d) h at_j) at) ∙ no_turn)
      (λ other. not_true d.turn (lone j d other at_j)) in
      let h = r.home free in
      let w : View = record v { turn = true; turns = v.turns + 1; seen = shows h.0 } in
      let count = waiting_set s.views me v w at in
      let more = r.tickets in
      let shown = h.2 in (
        w,
        takes 0 (Some h.0),
        h.1,
        record {
          drawn = r.drawn;
          served = r.served;
          parked = r.parked;
          given = r.given;
          start = r.start;
          log = r.log;
          words = set-get_or s.words 1 0 ∙ r.words;
          one_slot = length-set s.homes 0 _ ∙ r.one_slot;
          tickets = omega arith;
          many = length-set s.views me w ∙ r.many;
          few = r.few;
          each = views_stay (Fits r.drawn r.served r.given r.start r.log (set s.homes 0 _)) s.views me w
              (record {
                ticket = f.ticket;
                turn = λ _. (waits, is, shown);
                away = λ a. let t = (f.away a).0 in absurd (cc (t, no_turn));
                seen = starts_here r.log (shows h.0) (sym shown);
                knows = f.knows;
                heard = starts_trans (shows h.0) v.seen v.heard (subst (λ (log : List Entry). StartsWith log v.seen) (sym shown) f.seen) f.heard;
                name = f.name;
                ended = f.ended;
                unnamed = f.unnamed;
                root = f.root;
                origin = f.origin;
              })
              (λ j d other at_j. let g = r.each j d at_j in record {
                ticket = g.ticket;
                turn = g.turn;
                away = λ a. absurd (lone j d other at_j (g.away a).0);
                seen = g.seen;
                knows = g.knows;
                heard = g.heard;
                name = g.name;
                ended = g.ended;
                unnamed = g.unnamed;
                root = g.root;
                origin = g.origin;
              });
          apart = tickets_stay s r me w (λ j b other at_j t. other (r.apart j me b v at_j at t.1 waits (sym t.2)));
          named = names_stay s r me v w at (λ n x. x);
          home = λ none_has. let t = none_has me w (set_at s.views me v w at) in absurd (cc t);
          untouched = λ none_given. let some_name = named_if s r me v at waits in let b = f.name in absurd (omega arith);
          counted = let names = names_set s.views me v w at in let all = r.counted in omega arith;
          covered = λ n p q. cover_stays s.views me v w at (λ m h. h) n (r.covered n p q);
          strangers = r.strangers;
        },
        (λ _. (h.0, refl, subst (λ (log : List Entry). StartsWith log v.seen) (sym shown) f.seen, subst (Knows v) (sym shown) f.knows, h.3 ∙ sym (f.origin (inr (named_if s r me v at waits)))), λ n. absurd (n e)),
      ))
      (λ ne. (v, keeps, tt, unmoved s 1 me cs v at r, (λ e. absurd (ne e), λ _. refl)))

  -- the one with the turn is alone with it
  alone_here : (s : St) (r : Rule s) (me : ℕ) (v : View) → get_elem? s.views me ≡ some v → v.turn ≡ true → (j : ℕ) (d : View) → j ≢ me → get_elem? s.views j ≡ some d → d.turn ≡ true → ⊥
  alone_here s r me v at turn = let t = (r.each me v at).turn turn in alone s r me v at t.0 t.1

  -- the view v has the turn and becomes w, which differs in `away`, and the slot becomes h
  moves : (s : St) (r : Rule s) (me : ℕ) (cs : List (ℕ × Option Y)) (v : View) (b : Bool) (act : Act (Option Y)) (hs : List _) → get_elem? s.views me ≡ some v → v.turn ≡ true
      → homes_after s.homes cs act ≡ hs → length hs ≡ 1 → (b ≡ true → get_elem? hs 0 ≡ some (some None))
      → Rule (stepped s 1 (get_or s.words 1 0) me cs (record v { away = b }) act)
  moves s r me cs v b act hs at turn homes long empty =
      let f = r.each me v at in
      let w : View = record v { away = b } in
      let lone = alone_here s r me v at turn in
      let count = waiting_set s.views me v w at in
      let more = r.tickets in record {
        drawn = r.drawn;
        served = r.served;
        parked = r.parked;
        given = r.given;
        start = r.start;
        log = r.log;
        words = set-get_or s.words 1 0 ∙ r.words;
        one_slot = ap length homes ∙ long;
        tickets = omega arith;
        many = length-set s.views me w ∙ r.many;
        few = r.few;
        each = views_stay (Fits r.drawn r.served r.given r.start r.log (homes_after s.homes cs act)) s.views me w
            (record {
              ticket = f.ticket;
              turn = f.turn;
              away = λ a. (turn, ap (λ (l : List _). get_elem? l 0) homes ∙ empty a);
              seen = f.seen;
              knows = f.knows;
              heard = f.heard;
              name = f.name;
              ended = f.ended;
              unnamed = f.unnamed;
              root = f.root;
              origin = f.origin;
            })
            (λ j d other at_j. let g = r.each j d at_j in record {
              ticket = g.ticket;
              turn = g.turn;
              away = λ a. absurd (lone j d other at_j (g.away a).0);
              seen = g.seen;
              knows = g.knows;
              heard = g.heard;
              name = g.name;
              ended = g.ended;
              unnamed = g.unnamed;
              root = g.root;
              origin = g.origin;
            });
        apart = tickets_stay s r me w (λ j x other at_j t. other (r.apart j me x v at_j at t.1 t.0 (sym t.2)));
        named = names_stay s r me v w at (λ n x. x);
        home = λ none_has. let t = none_has me w (set_at s.views me v w at) in absurd (cc (t, turn));
        untouched = λ none_given. let some_name = named_if s r me v at (f.turn turn).0 in let b = f.name in absurd (omega arith);
        counted = let names = names_set s.views me v w at in let all = r.counted in omega arith;
        covered = λ n p q. cover_stays s.views me v w at (λ m h. h) n (r.covered n p q);
        strangers = r.strangers;
      }

  pub leaves_empty : (slots me : ℕ) (v : View) → v.turn ≡ true → Allows Rule slots me (v, (0, None) ∷ []) 1 (λ n. n) (left_empty (v, (0, None) ∷ []))
  leaves_empty slots me v turn s r one_slot at fits = let one : 0 < length s.homes = let d = r.one_slot in omega arith in
      (record v { away = true }, gives, tt, moves s r me ((0, None) ∷ []) v true gives (set s.homes 0 (some None)) at turn refl (length-set s.homes 0 _ ∙ r.one_slot) (λ _. set_here s.homes 0 (some None) one), refl)

  pub takes_empty : (slots me : ℕ) (v : View) → v.away ≡ true → Allows Rule slots me (v, []) 1 (λ n. n) (took_empty (v, []))
  takes_empty slots me v away s r one_slot at fits = let a = (r.each me v at).away away in
      (record v { away = false }, takes 0 None, a.1, moves s r me [] v false (takes 0 None) (set s.homes 0 none) at a.0 refl (length-set s.homes 0 _ ∙ r.one_slot) (λ h. absurd (cc h)), refl)

  first_held : List (ℕ × Option Y) → Option Y
  first_held [] = None
  first_held (c ∷ cs) = c.1

  pub passes_on : (slots me : ℕ) (v : View) (y : Y) (new : List Entry) → v.turn ≡ true → v.away ≡ false → shows y ≡ v.seen ++ new → AreUnder v.name new → origin y ≡ v.origin
      → Allows Rule slots me (v, (0, Some y) ∷ []) 1 (λ n. (n + 1) % 2 ^ 64) (passed_on shows (v, (0, Some y) ∷ []))
  unfolding first_held
  passes_on slots me v y new turn near longer_of by same s r one_slot at fits =
      let f = r.each me v at in
      let mine = f.turn turn in
      let w : View = record v { waits = false; turn = false; seen = shows y; own = under v.name (shows y) } in
      let lone = alone_here s r me v at turn in
      let count = waiting_set s.views me v w at in
      let one : weight v.waits ≡ 1 = ap weight mine.0 in
      let more = r.tickets in
      let one_slot' : 0 < length s.homes = let d = r.one_slot in omega arith in
      let some_name : 0 < v.name = ⊎_elim (λ (z : v.name ≡ 0). let t = f.unnamed z in absurd (cc (t, mine.0))) (λ (p : 0 < v.name). p) (zero_or (v.name)) in
      let log' : shows y ≡ r.log ++ new = longer_of ∙ ap (λ (xs : List Entry). xs ++ new) mine.2 in
      let stays : (n : ℕ) → n ≢ v.name → under n (shows y) ≡ under n r.log = λ n other. ap (under n) log' ∙ under_stays n v.name r.log new by other in
      let not_its : (j : ℕ) (d : View) (n : ℕ) → j ≢ me → get_elem? s.views j ≡ some d → HasName d n → n ≢ v.name = λ j d n other at_j has e. other (r.named j me v.name d v at_j at some_name (subst (HasName d) e has) (inl refl)) in (
        w,
        gives,
        tt,
        record {
          drawn = r.drawn;
          served = r.served + 1;
          parked = r.parked;
          given = r.given;
          start = r.start;
          log = shows y;
          words = ap (λ (ws : List ℕ). set ws 1 ((get_or ws 1 0 + 1) % 2 ^ 64)) r.words ∙ ap (λ (n : ℕ). r.drawn % 2 ^ 64 ∷ n ∷ r.parked ∷ []) (mod-add-mod r.served (2 ^ 64) 1);
          one_slot = length-set s.homes 0 _ ∙ r.one_slot;
          tickets = omega arith;
          many = length-set s.views me w ∙ r.many;
          few = r.few;
          each = views_stay (Fits r.drawn (r.served + 1) r.given r.start (shows y) (set s.homes 0 (some (Some y)))) s.views me w
              (record {
                ticket = λ h. absurd (cc h);
                turn = λ h. absurd (cc h);
                away = λ h. absurd (cc (h, near));
                seen = starts_here (shows y) (shows y) refl;
                heard = starts_trans (shows y) v.seen v.heard (new, longer_of) f.heard;
                knows = (λ _. refl, λ i e at_i. stays e.name (f.ended i e at_i).2 ∙ f.knows.1 i e at_i);
                name = f.name;
                ended = f.ended;
                unnamed = λ _. refl;
                root = f.root;
                origin = f.origin;
              })
              (λ j d other at_j. let g = r.each j d at_j in record {
                ticket = λ h. let t = g.ticket h in let apart : d.ticket ≢ r.served = λ e. other (r.apart j me d v at_j at h mine.0 (e ∙ sym mine.1)) in (omega arith, t.1);
                turn = λ h. absurd (lone j d other at_j h);
                away = λ h. absurd (lone j d other at_j (g.away h).0);
                seen = subst (λ (xs : List Entry). StartsWith xs d.seen) (sym log') (starts_longer r.log d.seen new g.seen);
                heard = g.heard;
                knows = (λ p. stays d.name (not_its j d d.name other at_j (inl refl)) ∙ g.knows.0 p, λ i e at_i. stays e.name (not_its j d e.name other at_j (inr (i, e, at_i, refl))) ∙ g.knows.1 i e at_i);
                name = g.name;
                ended = g.ended;
                unnamed = g.unnamed;
                root = g.root;
                origin = g.origin;
              });
          apart = tickets_stay s r me w (λ j b other at_j t. absurd (cc (t.0)));
          named = names_stay s r me v w at (λ n x. x);
          home = λ _. (y, set_here s.homes 0 (some (Some y)) one_slot', refl, same ∙ f.origin (inr some_name));
          untouched = λ none_given. let b = f.name in absurd (omega arith);
          counted = let names = names_set s.views me v w at in let all = r.counted in omega arith;
          covered = λ n p q. cover_stays s.views me v w at (λ m h. h) n (r.covered n p q);
          strangers = λ n out. stays n (λ e. let b = f.name in ⊎_elim (λ (z : n ≡ 0). absurd (omega arith)) (λ (z : r.given < n). absurd (omega arith)) out) ∙ r.strangers n out;
        },
        (λ x is. let f : Some y ≡ Some x = ap first_held is in let e : y ≡ x = cc f in ap (λ (z : Y). let u : Me (Option Y) View = (record v { waits = false; turn = false; seen = shows z; own = under v.name (shows z) }, []) in u) e),
      )

  -- the steps above, of a seat whose slots are known by an equation
  abbrev Sat : Type 0
  Sat = Me (Option Y) View

  pub leaves_empty_at : (slots me : ℕ) (m : Sat) → m.0.turn ≡ true → m.1 ≡ (0, None) ∷ [] → Allows Rule slots me m 1 (λ n. n) (left_empty m)
  leaves_empty_at slots me m turn e = subst (λ (cs : List (ℕ × Option Y)). let x : Sat = (m.0, cs) in Allows Rule slots me x 1 (λ n. n) (left_empty x)) (sym e) (leaves_empty slots me m.0 turn)

  pub takes_empty_at : (slots me : ℕ) (m : Sat) → m.0.away ≡ true → m.1 ≡ [] → Allows Rule slots me m 1 (λ n. n) (took_empty m)
  takes_empty_at slots me m away e = subst (λ (cs : List (ℕ × Option Y)). let x : Sat = (m.0, cs) in Allows Rule slots me x 1 (λ n. n) (took_empty x)) (sym e) (takes_empty slots me m.0 away)

  pub passes_on_at : (slots me : ℕ) (m : Sat) (y : Y) → m.1 ≡ (0, Some y) ∷ [] → m.0.turn ≡ true → m.0.away ≡ false → ((new : List Entry) × (shows y ≡ m.0.seen ++ new) × AreUnder m.0.name new) → origin y ≡ m.0.origin
      → Allows Rule slots me m 1 (λ n. (n + 1) % 2 ^ 64) (passed_on shows m)
  passes_on_at slots me m y e turn near more same = subst (λ (cs : List (ℕ × Option Y)). let x : Sat = (m.0, cs) in Allows Rule slots me x 1 (λ n. (n + 1) % 2 ^ 64) (passed_on shows x)) (sym e)
      (passes_on slots me m.0 y more.0 turn near more.1 more.2 same)

  pub looks_back : (slots me : ℕ) (m : Sat) → Allows Rule slots me m 1 (λ n. n) (looked_back m)
  looks_back slots me m s r one_slot at fits = (m.0, keeps, tt, unmoved s 1 me m.1 m.0 at r, (refl, (r.each me m.0 at).heard, λ root. let t = (r.each me m.0 at).root root in let all = r.counted in let one = names_one s.views me m.0 at in let g = t.2 in omega arith))
