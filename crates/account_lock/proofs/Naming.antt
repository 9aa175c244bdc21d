-- Giving a name, joining a pass, building and closing a lock keep the rule.
use Rattle.std.proofs.Common.{◌≡◌, ◌≢◌, ◌⊎◌, inl, inr, ℕ, zero, suc, ◌+◌, ◌<◌, ◌≤◌, true, false, List, [], ◌∷◌, ◌++◌, length, set, sym, refl, ap, ◌∙◌, subst, ⊎_elim, arith, length-append, Option, Some}
use Rattle.std.proofs.lemmas.List.{length-set}
use mathlib.Core.Option.{some, some-injective, some-ne-none}
use mathlib.Core.Logic.{dite}
use native.Mathlib.Decide.{ℕ_discrete}
use lib.ListN.{get_elem?}
use Rattle.atomic_table.specs.Table.{State, Splits, Joins, opening}
use Rattle.atomic_table.proofs.Lists.{at_set, set_else, at_longer, at_last}
use Rattle.mail_records.specs.Histories.{Entry}
use Rattle.account_lock.specs.declared.limits.TheConstants.{MAX_NAMES}
use Rattle.account_lock.specs.Entries.{under, StartsWith}
use Rattle.account_lock.specs.Views.{Ended, Origin, View, HasName, one_given, newcomer, joined, ended_with, spent, rooted}
use Rattle.account_lock.specs.Rule.{Fits, IsKept, Knows, weight}
use Rattle.account_lock.proofs.Places.{not_true, zero_or, same_at, set_at, views_stay, pairs_stay, waiting_set, waiting_append, at_end, at_append, at_after, nothing_there, names_set, names_append, names_two, has_some, cover_stays}
use Rattle.account_lock.proofs.Entries.{then_whole, then_starts, then_other}

module _ {Y : Type 0} (shows : Y → List Entry) (origin : Y → Origin) (built : Y) where
  abbrev St : Type 0
  St = State (Option Y) View

  abbrev Rule : St → Type 0
  Rule = IsKept shows origin built

  -- a name that a view has was given
  given_name : (s : St) (r : Rule s) (j n : ℕ) (d : View) → get_elem? s.views j ≡ some d → HasName d n → n ≤ r.given
  given_name s r j n d at has = let f = r.each j d at in ⊎_elim (λ (e : d.name ≡ n). let b = f.name in omega arith)
      (λ (t : (i : ℕ) × (e : Ended) × (get_elem? d.ended i ≡ some e) × (e.name ≡ n)). let b = (f.ended t.0 t.1 t.2).1 in let c = t.3 in omega arith) has

  -- what a view of the list after a split is: one as before, or the new one, last
  sorted : (vs : List View) (v w : View) (j : ℕ) (d : View) → get_elem? (vs ++ w ∷ []) j ≡ some d → (get_elem? vs j ≡ some d) ⊎ ((j ≡ length vs) × (w ≡ d))
  sorted vs v w j d e = at_end vs w d j e

  pub splits : (me : ℕ) (v : View) → v.root ≡ true → v.given < MAX_NAMES → Splits Rule me v (one_given v) (newcomer v)
  splits me v root room s r at =
      let f = r.each me v at in
      let top = f.root root in
      let l : View = one_given v in
      let w : View = newcomer v in
      let vs : List View = set s.views me l in
      let count = waiting_set s.views me v l at in
      let more = waiting_append vs (w ∷ []) in
      let t = r.tickets in let m = r.many in let few = r.few in
      let long = length-set s.views me l in
      let longer' = length-append vs (w ∷ []) in
      let old : (j : ℕ) (d : View) → get_elem? vs j ≡ some d → Fits r.drawn r.served (r.given + 1) r.start r.log s.homes j d = views_stay (Fits r.drawn r.served (r.given + 1) r.start r.log s.homes) s.views me l
      (record {
        ticket = f.ticket;
        turn = f.turn;
        away = f.away;
        seen = f.seen;
        knows = f.knows;
        heard = f.heard;
        name = let b = f.name in omega arith;
        ended = λ i e at_i. let b = f.ended i e at_i in (b.0, omega arith, b.2);
        unnamed = f.unnamed;
        root = λ h. (top.0, top.1, let b = top.2 in omega arith);
        origin = f.origin;
      })
      (λ j d other at_j. let g = r.each j d at_j in record {
        ticket = g.ticket;
        turn = g.turn;
        away = g.away;
        seen = g.seen;
        knows = g.knows;
        heard = g.heard;
        name = let b = g.name in omega arith;
        ended = λ i e at_i. let b = g.ended i e at_i in (b.0, omega arith, b.2);
        unnamed = g.unnamed;
        root = λ h. absurd (other ((g.root h).0 ∙ sym top.0));
        origin = g.origin;
      }) in
      let new : (j : ℕ) → Fits r.drawn r.served (r.given + 1) r.start r.log s.homes j w = λ j. record {
        ticket = λ h. absurd (cc h);
        turn = λ h. absurd (cc h);
        away = λ h. absurd (cc h);
        seen = f.seen;
        knows = (λ _. r.strangers (v.given + 1) (inr (let b = top.2 in omega arith)), λ i e at_i. absurd (nothing_there i e at_i));
        heard = (v.seen, refl);
        name = let b = top.2 in omega arith;
        ended = λ i e at_i. absurd (nothing_there i e at_i);
        unnamed = λ h. refl;
        root = λ h. absurd (cc h);
        origin = λ _. f.origin (inl root);
      } in
      let before_split : (j n : ℕ) (d : View) → get_elem? vs j ≡ some d → HasName d n → (x : View) × (get_elem? s.views j ≡ some x) × HasName x n
      = λ j n d at_j has. ⊎_elim (λ (q : (j ≡ me) × (l ≡ d)). (v, ap (get_elem? s.views) q.0 ∙ at, subst (λ (x : View). HasName x n) (sym q.1) has)) (λ (q : (j ≢ me) × (get_elem? s.views j ≡ some d)). (d, q.1, has)) (at_set s.views me j l d at_j) in
      let not_new : (j n : ℕ) (d : View) → get_elem? vs j ≡ some d → HasName d n → HasName w n → ⊥
      = λ j n d at_j has new_has. let x = before_split j n d at_j has in let b = given_name s r j n x.0 x.1 x.2 in let c = top.2 in
      ⊎_elim (λ (e : v.given + 1 ≡ n). omega arith) (λ (q : (i : ℕ) × (e : Ended) × (get_elem? [] i ≡ some e) × (e.name ≡ n)). nothing_there q.0 q.1 q.2) new_has in
      let apart_old : (i j : ℕ) (a b : View) → get_elem? vs i ≡ some a → get_elem? vs j ≡ some b → (a.waits ≡ true) × (b.waits ≡ true) × (a.ticket ≡ b.ticket) → i ≡ j
      = pairs_stay (λ (a b : View). (a.waits ≡ true) × (b.waits ≡ true) × (a.ticket ≡ b.ticket)) (λ a b q. (q.1, q.0, sym q.2)) s.views me l
      (λ j b other at_j q. other (r.apart j me b v at_j at q.1 q.0 (sym q.2))) (λ i j a b at_i at_j q. r.apart i j a b at_i at_j q.0 q.1 q.2) in
      record {
        drawn = r.drawn;
        served = r.served;
        parked = r.parked;
        given = r.given + 1;
        start = r.start;
        log = r.log;
        words = r.words;
        one_slot = r.one_slot;
        tickets = omega arith;
        many = omega arith;
        few = let b = top.2 in omega arith;
        each = λ j d at_j. ⊎_elim (λ (q : get_elem? vs j ≡ some d). old j d q) (λ (q : (j ≡ length vs) × (w ≡ d)). subst (Fits r.drawn r.served (r.given + 1) r.start r.log s.homes j) q.1 (new j)) (at_end vs w d j at_j);
        apart = λ i j a b at_i at_j x y z. ⊎_elim
            (λ (p : get_elem? vs i ≡ some a). ⊎_elim (λ (q : get_elem? vs j ≡ some b). apart_old i j a b p q (x, y, z)) (λ (q : (j ≡ length vs) × (w ≡ b)). let u : w.waits ≡ b.waits = ap (λ (o : View). o.waits) q.1 in absurd (cc (u, y))) (at_end vs w b j at_j))
            (λ (p : (i ≡ length vs) × (w ≡ a)). let u : w.waits ≡ a.waits = ap (λ (o : View). o.waits) p.1 in absurd (cc (u, x)))
            (at_end vs w a i at_i);
        named = λ i j n a b at_i at_j some_name x y. ⊎_elim
            (λ (p : get_elem? vs i ≡ some a). ⊎_elim
            (λ (q : get_elem? vs j ≡ some b). let c = before_split i n a p x in let d = before_split j n b q y in r.named i j n c.0 d.0 c.1 d.1 some_name c.2 d.2)
            (λ (q : (j ≡ length vs) × (w ≡ b)). absurd (not_new i n a p x (subst (λ (o : View). HasName o n) (sym q.1) y)))
            (at_end vs w b j at_j))
            (λ (p : (i ≡ length vs) × (w ≡ a)). ⊎_elim
            (λ (q : get_elem? vs j ≡ some b). absurd (not_new j n b q y (subst (λ (o : View). HasName o n) (sym p.1) x)))
            (λ (q : (j ≡ length vs) × (w ≡ b)). p.0 ∙ sym q.0)
            (at_end vs w b j at_j))
            (at_end vs w a i at_i);
        home = λ free. r.home (λ j d at_j. dite (ℕ_discrete j me)
            (λ e. ap (λ (x : View). x.turn) (same_at s.views me d v (subst (λ (k : ℕ). get_elem? s.views k ≡ some d) e at_j) at) ∙ free me l (at_longer vs (w ∷ []) me l (set_at s.views me v l at)))
            (λ other. free j d (at_longer vs (w ∷ []) j d (set_else s.views me j l other ∙ at_j))));
        untouched = λ none_given. absurd (omega arith);
        counted = let names = names_set s.views me v l at in let more = names_append vs (w ∷ []) in let all = r.counted in let g = top.2 in omega arith;
        covered = λ n p q. dite (ℕ_discrete n (r.given + 1))
            (λ e. (length vs, w, at_last vs w (length vs) refl, inl (let g = top.2 in omega arith)))
            (λ older. let c = cover_stays s.views me v l at (λ m h. h) n (r.covered n p (omega arith)) in (c.0, c.1, at_longer vs (w ∷ []) c.0 c.1 c.2, c.3));
        strangers = λ n out. r.strangers n (⊎_elim (λ (z : n ≡ 0). inl z) (λ (z : r.given + 1 < n). inr (omega arith)) out);
      }

  module _ (s : St) (r : Rule s) (me other : ℕ) (v w : View) (at : get_elem? s.views me ≡ some v) (at' : get_elem? s.views other ≡ some w) (apart : other ≢ me) where
    abbrev both : View
    both = joined v w

    abbrev vs : List View
    vs = set (set s.views me both) other spent

    -- a name of the joined view is one of the two
    two_names : (n : ℕ) → 0 < n → HasName both n → HasName v n ⊎ HasName w n
    two_names n some_name has = ⊎_elim (λ (e : v.name ≡ n). inl (inl e))
        (λ (t : (i : ℕ) × (e : Ended) × (get_elem? (v.ended ++ ended_with w) i ≡ some e) × (e.name ≡ n)). ⊎_elim
        (λ (q : get_elem? v.ended t.0 ≡ some t.1). inl (inr (t.0, t.1, q, t.3)))
        (λ (q : (k : ℕ) × (get_elem? (ended_with w) k ≡ some t.1)). inr (in_second q.0 t.1 q.1 t.3))
        (at_append v.ended (ended_with w) t.0 t.1 t.2))
        has
      where
        in_second : (k : ℕ) (e : Ended) → get_elem? (ended_with w) k ≡ some e → e.name ≡ n → HasName w n
        in_second zero e at_k is = inl (ap (λ (x : Ended). x.name) (some-injective _ e at_k) ∙ is)
        in_second (suc k) e at_k is = inr (k, e, at_k, is)

    no_name_left : (n : ℕ) → 0 < n → HasName spent n → ⊥
    no_name_left n some_name has = ⊎_elim (λ (e : 0 ≡ n). omega arith) (λ (q : (i : ℕ) × (e : Ended) × (get_elem? [] i ≡ some e) × (e.name ≡ n)). nothing_there q.0 q.1 q.2) has

    -- whose name it was before the join
    owner : (i n : ℕ) (a : View) → 0 < n → get_elem? vs i ≡ some a → HasName a n
        → (k : ℕ) × (x : View) × (get_elem? s.views k ≡ some x) × HasName x n × (i ≢ other) × ((i ≡ k) ⊎ ((i ≡ me) × (k ≡ other)))
    owner i n a some_name at_i has = ⊎_elim
        (λ (t : (i ≡ other) × (spent ≡ a)). absurd (no_name_left n some_name (subst (λ (x : View). HasName x n) (sym t.1) has)))
        (λ (t : (i ≢ other) × (get_elem? (set s.views me both) i ≡ some a)). ⊎_elim
        (λ (u : (i ≡ me) × (both ≡ a)). ⊎_elim
        (λ (h : HasName v n). (me, v, at, h, t.0, inl u.0))
        (λ (h : HasName w n). (other, w, at', h, t.0, inr (u.0, refl)))
        (two_names n some_name (subst (λ (x : View). HasName x n) (sym u.1) has)))
        (λ (u : (i ≢ me) × (get_elem? s.views i ≡ some a)). (i, a, u.1, has, t.0, inl refl))
        (at_set s.views me i both a t.1))
        (at_set (set s.views me both) other i spent a at_i)

    one_owner : (i j n : ℕ) (a b : View) → get_elem? vs i ≡ some a → get_elem? vs j ≡ some b → 0 < n → HasName a n → HasName b n → i ≡ j
    one_owner i j n a b at_i at_j some_name x y =
        let p = owner i n a some_name at_i x in let q = owner j n b some_name at_j y in
        let e : p.0 ≡ q.0 = r.named p.0 q.0 n p.1 q.1 p.2 q.2 some_name p.3 q.3 in
        ⊎_elim
        (λ (h : i ≡ p.0). ⊎_elim (λ (k : j ≡ q.0). h ∙ (e ∙ sym k)) (λ (k : (j ≡ me) × (q.0 ≡ other)). absurd (p.4 (h ∙ (e ∙ k.1)))) q.5)
        (λ (h : (i ≡ me) × (p.0 ≡ other)). ⊎_elim (λ (k : j ≡ q.0). absurd (q.4 (k ∙ (sym e ∙ h.1)))) (λ (k : (j ≡ me) × (q.0 ≡ other)). h.0 ∙ sym k.0) q.5)
        p.5

    kept_ended : Fits r.drawn r.served r.given r.start r.log s.homes me v → Fits r.drawn r.served r.given r.start r.log s.homes other w → 0 < w.name
        → (i : ℕ) (e : Ended) → get_elem? both.ended i ≡ some e → (0 < e.name) × (e.name ≤ r.given) × (e.name ≢ v.name) × (under e.name r.log ≡ e.entries)
    kept_ended f h some_name i e at_i = ⊎_elim
        (λ (q : get_elem? v.ended i ≡ some e). let b = f.ended i e q in (b.0, b.1, b.2, f.knows.1 i e q))
        (λ (q : (k : ℕ) × (get_elem? (ended_with w) k ≡ some e)). in_second q.0 q.1)
        (at_append v.ended (ended_with w) i e at_i)
      where
        in_second : (k : ℕ) → get_elem? (ended_with w) k ≡ some e → (0 < e.name) × (e.name ≤ r.given) × (e.name ≢ v.name) × (under e.name r.log ≡ e.entries)
        in_second zero at_k = subst (λ (x : Ended). (0 < x.name) × (x.name ≤ r.given) × (x.name ≢ v.name) × (under x.name r.log ≡ x.entries)) (some-injective _ e at_k)
            (some_name, h.name, (λ is. apart (sym (r.named me other w.name v w at at' some_name (inl (sym is)) (inl refl)))), h.knows.0 some_name)
        in_second (suc k) at_k = let b = h.ended k e at_k in (b.0, b.1, (λ is. apart (sym (r.named me other e.name v w at at' b.0 (inl (sym is)) (inr (k, e, at_k, refl))))), h.knows.1 k e at_k)

  pub joins : (me other : ℕ) (v w : View) → w.root ≡ false → 0 < w.name → w.waits ≡ false → Joins Rule me v other w (joined v w) spent
  joins me other v w not_root some_name idle s r at apart at_other =
      let at' : get_elem? s.views other ≡ some w = sym (set_else s.views me other (joined v w) apart) ∙ at_other in
      let f = r.each me v at in
      let h = r.each other w at' in
      let j : View = joined v w in
      let one : List View = set s.views me j in
      let c1 = waiting_set s.views me v j at in
      let c2 = waiting_set one other w spent at_other in
      let zero : weight w.waits ≡ 0 = ap weight idle in
      let t = r.tickets in
      let l1 = length-set s.views me j in let l2 = length-set one other spent in let m = r.many in
      let first_name : (n : ℕ) → HasName v n → HasName j n = λ n has. ⊎_elim (λ (e : v.name ≡ n). inl e)
      (λ (q : (i : ℕ) × (e : Ended) × (get_elem? v.ended i ≡ some e) × (e.name ≡ n)). inr (q.0, q.1, at_longer v.ended (ended_with w) q.0 q.1 q.2, q.3)) has in
      let second_name : (n : ℕ) → HasName w n → HasName j n = λ n has. ⊎_elim
      (λ (e : w.name ≡ n). inr (length v.ended + 0, record { name = w.name; entries = w.own }, at_after v.ended (ended_with w) 0, e))
      (λ (q : (i : ℕ) × (e : Ended) × (get_elem? w.ended i ≡ some e) × (e.name ≡ n)). inr (length v.ended + suc q.0, q.1, at_after v.ended (ended_with w) (suc q.0) ∙ q.2, q.3)) has in
      let kept = kept_ended s r me other v w at at' apart f h some_name in
      let P : ℕ → View → Type 0 = Fits r.drawn r.served r.given r.start r.log s.homes in
      let first : (k : ℕ) (d : View) → get_elem? one k ≡ some d → P k d = views_stay P s.views me j
      (record {
        ticket = f.ticket;
        turn = λ q. let b = f.turn q in (b.0, b.1, then_whole v.turn r.log v.seen w.seen b.2 h.seen);
        away = f.away;
        seen = then_starts v.turn r.log v.seen w.seen f.seen h.seen;
        knows = (f.knows.0, λ i e at_i. (kept i e at_i).3);
        heard = then_other v.turn r.log v.seen w.seen (λ q. (f.turn q).2) f.seen h.seen;
        name = f.name;
        ended = λ i e at_i. let b = kept i e at_i in (b.0, b.1, b.2);
        unnamed = f.unnamed;
        root = f.root;
        origin = f.origin;
      })
      (λ k d differs at_k. r.each k d at_k) in
      let last : (k : ℕ) → P k spent = λ k. record {
        ticket = λ q. absurd (cc q);
        turn = λ q. absurd (cc q);
        away = λ q. absurd (cc q);
        seen = (r.log, refl);
        knows = ((λ q. absurd (omega arith)), λ i e at_i. absurd (nothing_there i e at_i));
        heard = ([], refl);
        name = omega arith;
        ended = λ i e at_i. absurd (nothing_there i e at_i);
        unnamed = λ q. refl;
        root = λ q. absurd (cc q);
        origin = ⊎_elim (λ (q : false ≡ true). absurd (cc q)) (λ (q : 0 < 0). absurd (omega arith));
      } in
      let T : View → View → Type 0 = λ a b. (a.waits ≡ true) × (b.waits ≡ true) × (a.ticket ≡ b.ticket) in
      let apart1 : (i k : ℕ) (a b : View) → get_elem? one i ≡ some a → get_elem? one k ≡ some b → T a b → i ≡ k
      = pairs_stay T (λ a b q. (q.1, q.0, sym q.2)) s.views me j (λ k b differs at_k q. differs (r.apart k me b v at_k at q.1 q.0 (sym q.2))) (λ i k a b at_i at_k q. r.apart i k a b at_i at_k q.0 q.1 q.2) in
      record {
        drawn = r.drawn;
        served = r.served;
        parked = r.parked;
        given = r.given;
        start = r.start;
        log = r.log;
        words = r.words;
        one_slot = r.one_slot;
        tickets = omega arith;
        many = omega arith;
        few = r.few;
        each = views_stay P one other spent (last other) (λ k d differs at_k. first k d at_k);
        apart = λ i k a b at_i at_k x y z. pairs_stay T (λ a b q. (q.1, q.0, sym q.2)) one other spent (λ k b differs at_k q. let u = q.0 in cc u) apart1 i k a b at_i at_k (x, y, z);
        named = one_owner s r me other v w at at' apart;
        home = λ free. r.home (λ k d at_k. dite (ℕ_discrete k other)
            (λ e. ap (λ (x : View). x.turn) (same_at s.views other d w (subst (λ (i : ℕ). get_elem? s.views i ≡ some d) e at_k) at')
            ∙ not_true w.turn (λ q. let b = (h.turn q).0 in cc (b, idle)))
            (λ differs. dite (ℕ_discrete k me)
            (λ e. ap (λ (x : View). x.turn) (same_at s.views me d v (subst (λ (i : ℕ). get_elem? s.views i ≡ some d) e at_k) at)
            ∙ free me j (set_else one other me spent (λ q. apart (sym q)) ∙ set_at s.views me v j at))
            (λ elsewhere. free k d (set_else one other k spent differs ∙ (set_else s.views me k j elsewhere ∙ at_k)))));
        untouched = r.untouched;
        counted = let n1 = names_set s.views me v j at in let n2 = names_set one other w spent at_other in let all = r.counted in let long = length-append v.ended (ended_with w) in omega arith;
        covered = λ n p q. let c = r.covered n p q in dite (ℕ_discrete c.0 other)
            (λ e. (me, j, set_else one other me spent (λ x. apart (sym x)) ∙ set_at s.views me v j at, second_name n (subst (λ (x : View). HasName x n) (same_at s.views other c.1 w (subst (λ (k : ℕ). get_elem? s.views k ≡ some c.1) e c.2) at') c.3)))
            (λ elsewhere. dite (ℕ_discrete c.0 me)
            (λ e. (me, j, set_else one other me spent (λ x. apart (sym x)) ∙ set_at s.views me v j at, first_name n (subst (λ (x : View). HasName x n) (same_at s.views me c.1 v (subst (λ (k : ℕ). get_elem? s.views k ≡ some c.1) e c.2) at) c.3)))
            (λ differs. (c.0, c.1, set_else one other c.0 spent elsewhere ∙ (set_else s.views me c.0 j differs ∙ c.2), c.3)));
        strangers = r.strangers;
      }

  -- the rule at the start
  pub opens : (y : Y) (n : Origin) → shows y ≡ [] → origin y ≡ n → built ≡ y → Rule (opening (0 ∷ 0 ∷ 0 ∷ []) (Some y ∷ []) (rooted n))
  opens y n none_yet same is_built =
      let one : (j : ℕ) (d : View) → get_elem? (rooted n ∷ []) j ≡ some d → (j ≡ 0) × (rooted n ≡ d) = at_one (rooted n) in record {
        drawn = 0;
        served = 0;
        parked = 0;
        given = 0;
        start = n;
        log = [];
        words = refl;
        one_slot = refl;
        tickets = refl;
        many = refl;
        few = omega arith;
        each = λ j d at_j. let o = one j d at_j in subst (λ (x : ℕ × View). Fits 0 0 0 n [] (some (Some y) ∷ []) x.0 x.1) (λ i. (sym o.0 i, o.1 i)) (record {
          ticket = λ q. absurd (cc q);
          turn = λ q. absurd (cc q);
          away = λ q. absurd (cc q);
          seen = ([], refl);
          knows = ((λ _. refl), λ i e at_i. absurd (nothing_there i e at_i));
          heard = ([], refl);
          name = omega arith;
          ended = λ i e at_i. absurd (nothing_there i e at_i);
          unnamed = λ _. refl;
          root = λ _. (refl, refl, refl);
          origin = λ _. refl;
        });
        apart = λ i j a b at_i at_j x y z. (one i a at_i).0 ∙ sym (one j b at_j).0;
        named = λ i j m a b at_i at_j x y z. (one i a at_i).0 ∙ sym (one j b at_j).0;
        home = λ _. (y, refl, none_yet, same);
        untouched = λ _. ap (λ (x : Y). some (some (Some x))) (sym is_built);
        counted = refl;
        covered = λ m p q. absurd (omega arith);
        strangers = λ m _. refl;
      }
    where
      at_one : (x : View) (j : ℕ) (d : View) → get_elem? (x ∷ []) j ≡ some d → (j ≡ 0) × (x ≡ d)
      at_one x zero d e = (refl, some-injective x d e)
      at_one x (suc j) d e = absurd (some-ne-none d (sym e))

  -- where as many names have ended as were given, each name but the root's has ended
  pub all_ended : (s : St) (me : ℕ) (v : View) → Rule s → get_elem? s.views me ≡ some v → v.root ≡ true → length v.ended ≡ v.given
      → (n : ℕ) → 0 < n → n ≤ v.given → (i : ℕ) × (e : Ended) × (get_elem? v.ended i ≡ some e) × (e.name ≡ n)
  all_ended s me v r at root enough n p q =
      let top = (r.each me v at).root root in
      let g = top.2 in
      let c = r.covered n p (omega arith) in
      dite (ℕ_discrete c.0 me)
      (λ e. ⊎_elim (λ (x : v.name ≡ n). let z = top.1 in absurd (omega arith)) (λ (x : (i : ℕ) × (e : Ended) × (get_elem? v.ended i ≡ some e) × (e.name ≡ n)). x)
      (subst (λ (x : View). HasName x n) (same_at s.views me c.1 v (subst (λ (k : ℕ). get_elem? s.views k ≡ some c.1) e c.2) at) c.3))
      (λ other. let two = names_two s.views c.0 me c.1 v c.2 at other in let one = has_some c.1 n p c.3 in let all = r.counted in absurd (omega arith))

  -- where every name but the root's has ended, the value is at home, and each entry has one of these names
  pub ends : (s : St) (me : ℕ) (v : View) → Rule s → get_elem? s.views me ≡ some v → v.root ≡ true
      → ((n : ℕ) → 0 < n → n ≤ v.given → (i : ℕ) × (e : Ended) × (get_elem? v.ended i ≡ some e) × (e.name ≡ n))
      → (y : Y) × (get_elem? s.homes 0 ≡ some (some (Some y))) × StartsWith (shows y) v.seen × Knows v (shows y) × ((n : ℕ) → (n ≡ 0) ⊎ (v.given < n) → under n (shows y) ≡ []) × (origin y ≡ v.origin) × (v.given ≡ 0 → y ≡ built)
  ends s me v r at root all =
      let f = r.each me v at in
      let top = f.root root in
      let free : (j : ℕ) (d : View) → get_elem? s.views j ≡ some d → d.turn ≡ false = λ j d at_j. not_true d.turn (λ turn.
      let g = r.each j d at_j in
      let waits = (g.turn turn).0 in
      let b = g.name in let c = top.2 in
      ⊎_elim
      (λ (z : d.name ≡ 0). let u = g.unnamed z in cc (u, waits))
      (λ (p : 0 < d.name).
      let has : HasName v d.name = inr (all d.name p (omega arith)) in
      let e : j ≡ me = r.named j me d.name d v at_j at p (inl refl) has in
      let same : d ≡ v = same_at s.views me d v (subst (λ (k : ℕ). get_elem? s.views k ≡ some d) e at_j) at in
      let nameless : v.name ≡ 0 = top.1 in
      let n : d.name ≡ v.name = ap (λ (x : View). x.name) same in omega arith)
      (zero_or d.name)) in
      let h = r.home free in
      let c = top.2 in (
        h.0,
        h.1,
        subst (λ (xs : List Entry). StartsWith xs v.seen) (sym h.2) f.seen,
        subst (Knows v) (sym h.2) f.knows,
        (λ n out. ap (under n) h.2 ∙ r.strangers n (⊎_elim (λ (z : n ≡ 0). inl z) (λ (z : v.given < n). inr (omega arith)) out)),
        h.3 ∙ sym (f.origin (inl root)),
        (λ none_given. same_value (sym h.1 ∙ r.untouched (sym c ∙ none_given))),
      )
    where
      same_value : {x z : Y} → some (some (Some x)) ≡ some (some (Some z)) → x ≡ z
      same_value e = cc e
