-- What is known of a database after a look at its tables, and after a change.
use Rattle.std.proofs.Common.{◌≡◌, inl, inr, ℕ, suc, Bool, true, false, ◌&&◌, cond, List, length, Option, Some, None, Result, Ok, Err, IsSome, IsTrue, IfOk, OnOk, OnErr, IsErrAnd, MatchResult, refl, sym, ap, subst, ◌∙◌, arith}
use Rattle.std.proofs.lemmas.Bool.{and_parts}
use Rattle.std.proofs.lemmas.List.{length_push}
use Rattle.sqlite_trees.specs.declared.store.Store.{Ghosts}
use Rattle.sqlite.specs.Effect.{Database}
use Rattle.sqlite.specs.State.{HasCleanDisk, Survives}
use Rattle.sqlite.specs.Held.{Held, state}
use Rattle.sqlite.proofs.StateLemmas.{clean_if_open, survives_then, survives_weaker}
use Rattle.keep_port.specs.Keeping.{with_row, with_row_if}
use Rattle.keep_port.specs.declared.kept.Kept.{Kept}
use Rattle.keep_sqlite.specs.Format.{kept_rows, told}
use Rattle.keep_sqlite.specs.Telling.{StaysShut, Keeps, Leaves, Fetches, Writes}
use Rattle.keep_sqlite.specs.Knowing.{DatabaseView, IsLastOf, IsKnown, IsSound, IsOpenIn, LeavesTold, MayTell, Fetched, Loaded, Changed, told_by, content_of}
use Rattle.keep_sqlite.proofs.Appending.{IsSettled, settled_leaves, survives_same, same_held}
use Rattle.keep_sqlite.proofs.Loading.{one_content}

-- the law of a store that while it is open a crash may leave the last commit
abbrev pub IsStaying : {S : Type 0} → Ghosts S → Type 0
IsStaying {S} g = (s : S) → IsTrue (g.view s).is_open → g.recovers s (g.view s).committed

-- the law of a store that it is shut once its disk has returned what was not written
abbrev pub IsShutIfDirty : {S : Type 0} → Ghosts S → Type 0
IsShutIfDirty {S} g = (s : S) → (g.view s).is_clean ≡ false → (g.view s).is_open ≡ false

pub one_some : {X : Type 0} (x y : X) → Some x ≡ Some y → x ≡ y
one_some x y e = cc

module _ {S : Type 0} (g : Ghosts S) (settled : IsSettled g) (stays : IsStaying g) (dirty : IsShutIfDirty g) where
  pub clean_open : (h : Held S) → IsTrue (state g h).is_open → HasCleanDisk (state g h)
  clean_open h is_open = clean_if_open (g.view h.store) (dirty h.store) is_open

  -- what is known of a connection that keeps a content
  pub known_by : (h : Held S) (k : Kept) (last : Option ℕ) → IsLastOf last k → (HasCleanDisk (state g h) → Keeps (state g h) k) → IsKnown g last h
  known_by h k last fits keeps = record {
    keeps = λ is_open. (k, keeps (clean_open h is_open), fits);
    leaves = λ clean db left. (k, settled_leaves g settled h k (keeps clean) db left);
  }

  -- a fetch that failed leaves what is known
  pub known_fetched : {E : Type 0} (old new : Held S) (connection : Option (Held S)) (ours : Bool) (e : E) (last : Option ℕ) → connection ≡ Some new → IsKnown g last old
      → Fetches g old connection ours (Err e) → IsKnown g None new
  known_fetched old new connection ours e last is was f =
      let same : f.new ≡ new = same_held connection f.new new f.is is in
      subst (IsKnown g None) same (record {
        keeps = λ is_open.
            let clean = clean_open f.new is_open in
            let it = was.keeps (f.shut clean is_open) in (it.0, f.refused clean it.0 it.1 is_open, tt);
        leaves = λ clean db left. elim (f.crash.crash clean db left) [
          | inl earlier ↦ was.leaves (omega (arith, f.crash.clean, clean)) db earlier
          | inr made ↦ let it = was.keeps made.0 in (it.0, made.1 it.0 it.1)
        ];
      })

  -- a change leaves a content that is known
  pub known_written : {T E : Type 0} (r : Result T E) (old new : Held S) (connection : Option (Held S)) (next : Kept → Kept) (last after : Option ℕ) → connection ≡ Some new → IsKnown g last old
      → Writes g (IsLastOf last) next old connection r → MatchResult r (λ _. (k : Kept) → IsLastOf last k → IsLastOf after (next k)) (λ _. after ≡ last) → IsKnown g after new
  known_written (Ok x) old new connection next last after is was w fits =
      let same : w.new ≡ new = same_held connection w.new new w.is is in
      subst (IsKnown g after) same (record {
        keeps = λ is_open.
            let clean = clean_open w.new is_open in
            let it = was.keeps (w.opened clean) in (next it.0, w.told clean it.0 it.1 it.2, fits it.0 it.2);
        leaves = λ clean db left. let it = was.keeps (w.opened clean) in (next it.0, w.durable clean it.0 it.1 it.2 db left);
      })
  known_written (Err e) old new connection next last after is was w fits =
      let same : w.new ≡ new = same_held connection w.new new w.is is in
      subst (IsKnown g after) same (record {
        keeps = λ is_open.
            let clean = clean_open w.new is_open in
            let it = was.keeps (w.shut clean is_open) in (it.0, w.refused clean it.0 it.1 it.2 is_open, subst (λ n. IsLastOf n it.0) (sym fits) it.2);
        leaves = λ clean db left. elim (w.crash.crash clean db left) [
          | inl earlier ↦ was.leaves (omega (arith, w.crash.clean, clean)) db earlier
          | inr made ↦ let it = was.keeps made.0 in elim (made.1 it.0 it.1 it.2) [ inl same_one ↦ (it.0, same_one) | inr next_one ↦ (next it.0, next_one) ]
        ];
      })

  module _ {O : Type 0} where
    abbrev pub Sound : DatabaseView S O → Type 0
    Sound v = IsSound g v.connection v.last v.ours v.known

    content_parts : (v : DatabaseView S O) (k : Kept) → content_of g v ≡ Some k → IsTrue v.known × (h : Held S) × (v.connection ≡ Some h) × IsTrue (state g h).is_open × (told (state g h).now.trees ≡ Some k)
    content_parts v k e = go v.known refl v.connection refl e
      where
        while_open : (h : Held S) (b : Bool) → (state g h).is_open ≡ b → cond b (told (state g h).now.trees) None ≡ Some k → IsTrue (state g h).is_open × (told (state g h).now.trees ≡ Some k)
        while_open h false is e = absurd cc
        while_open h true is e = (is, e)

        go : (b : Bool) → v.known ≡ b → (c : Option (Held S)) → v.connection ≡ c → cond b (told_by g c) None ≡ Some k
            → IsTrue v.known × (h : Held S) × (v.connection ≡ Some h) × IsTrue (state g h).is_open × (told (state g h).now.trees ≡ Some k)
        go false known c is e = absurd cc
        go true known None is e = absurd cc
        go true known (Some h) is e = let it = while_open h (state g h).is_open refl e in (known, h, is, it.0, it.1)

    pub content_from : (v : DatabaseView S O) (h : Held S) (k : Kept) → IsTrue v.known → v.connection ≡ Some h → Keeps (state g h) k → content_of g v ≡ Some k
    content_from v h k known is keeps = rw (known, is, keeps.shows.is_open) keeps.shows.now.tells

    -- a database of which something is known has a connection
    there : (v : DatabaseView S O) → Sound v → IsTrue v.ours → (h : Held S) × (v.connection ≡ Some h)
    there v sound ours = go v.connection refl
      where
        go : (c : Option (Held S)) → v.connection ≡ c → (h : Held S) × (v.connection ≡ Some h)
        go None is = absurd (let both : true ≡ false = sym ours ∙ sound.none is in cc)
        go (Some h) is = (h, is)

    keeps_of : (v : DatabaseView S O) (k : Kept) → Sound v → content_of g v ≡ Some k → IsTrue v.known × (h : Held S) × (v.connection ≡ Some h) × Keeps (state g h) k × IsLastOf v.last k
    keeps_of v k sound e =
        let parts = content_parts v k e in
        let it = (sound.some parts.1 parts.2 (sound.checked parts.0)).keeps parts.3 in
        let same : it.0 ≡ k = one_some it.0 k (sym it.1.shows.now.tells ∙ parts.4) in
        (parts.0, parts.1, parts.2, subst (Keeps (state g parts.1)) same it.1, subst (IsLastOf v.last) same it.2)

    pub leaves_told : (v : DatabaseView S O) → Sound v → LeavesTold g v
    leaves_told v sound h is known clean db left =
        let it = (sound.some h is (sound.checked known)).leaves clean db left in
        (it.0, record { known = known; held = h; is = is; clean = clean; left = db; may = left; tells = it.1.tells })

    -- while a connection keeps a content, a crash may leave it
    kept_may_be_left : (v : DatabaseView S O) (h : Held S) (k other : Kept) → IsTrue v.known → v.connection ≡ Some h → Keeps (state g h) k → k ≡ other → MayTell g v other
    kept_may_be_left v h k other known is keeps same = subst (MayTell g v) same (record {
      known = known;
      held = h;
      is = is;
      clean = clean_open h keeps.shows.is_open;
      left = (state g h).committed.trees;
      may = stays h.store keeps.shows.is_open;
      tells = ap (λ (d : Database). told d.trees) keeps.committed ∙ keeps.shows.now.tells;
    })

    -- a crash might have left this before
    left_before : (v w : DatabaseView S O) (k : Kept) (m : MayTell g w k) (o : Held S) → IsTrue v.known → v.connection ≡ Some o → HasCleanDisk (state g o) → (state g o).may_leave m.left → MayTell g v k
    left_before v w k m o known is clean may = record { known = known; held = o; is = is; clean = clean; left = m.left; may = may; tells = m.tells }

    module _ (v w : DatabaseView S O) (sound : Sound v) (after : Sound w) where
      -- what a look at the tables makes of a connection
      pub record Looks (o : Held S) : Type 0 where
        pub new : Held S
        pub is : w.connection ≡ Some new
        pub shut : StaysShut (state g o) (state g new)
        pub crash : Survives (state g o) (state g new) (λ db. IsTrue (state g o).is_open × ((k : Kept) → Keeps (state g o) k → Leaves db k))
        pub same : HasCleanDisk (state g new) → (k : Kept) → Keeps (state g o) k → IsTrue (state g new).is_open → Keeps (state g new) k
        pub known : HasCleanDisk (state g new) → (k : Kept) → Keeps (state g o) k → IsTrue v.known → IsTrue w.known

      pub fetched_by : (IsTrue w.known → IsTrue v.known) → ((o : Held S) → v.connection ≡ Some o → Looks o) → Fetched g v w
      fetched_by was looks = record {
        content = λ k e.
            let now = keeps_of w k after e in
            let known = was now.0 in
            let o = there v sound (sound.checked known) in
            let l = looks o.0 o.1 in
            let same : l.new ≡ now.1 = same_held w.connection l.new now.1 l.is now.2 in
            let here : Keeps (state g l.new) k = subst (λ h. Keeps (state g h) k) (sym same) now.3 in
            let clean = clean_open l.new here.shows.is_open in
            let it = (sound.some o.0 o.1 (sound.checked known)).keeps (l.shut clean here.shows.is_open) in
            let one : it.0 ≡ k = one_content (state g l.new) it.0 k (l.same clean it.0 it.1 here.shows.is_open) here in
            content_from v o.0 it.0 known o.1 it.1 ∙ ap Some one;
        left = λ k m.
            let known = was m.known in
            let o = there v sound (sound.checked known) in
            let l = looks o.0 o.1 in
            let same : m.held ≡ l.new = same_held w.connection m.held l.new m.is l.is in
            let clean : HasCleanDisk (state g l.new) = subst (λ h. HasCleanDisk (state g h)) same m.clean in
            let may : (state g l.new).may_leave m.left = subst (λ h. (state g h).may_leave m.left) same m.may in
            elim (l.crash.crash clean m.left may) [
              | inl earlier ↦ left_before v w k m o.0 known o.1 (omega (arith, l.crash.clean, clean)) earlier
              | inr made ↦
                  let it = (sound.some o.0 o.1 (sound.checked known)).keeps made.0 in
                  kept_may_be_left v o.0 it.0 k known o.1 it.1 (one_some it.0 k (sym (made.1 it.0 it.1).tells ∙ m.tells))
            ];
        stays = λ is_open k e.
            let was = keeps_of v k sound e in
            let l = looks was.1 was.2 in
            let same : is_open.0 ≡ l.new = same_held w.connection is_open.0 l.new is_open.1 l.is in
            let now : IsTrue (state g l.new).is_open = subst (λ h. IsTrue (state g h).is_open) same is_open.2 in
            let clean = clean_open l.new now in
            content_from w l.new k (l.known clean k was.3 was.0) l.is (l.same clean k was.3 now);
        leaves = leaves_told w after;
      }

      module _ (next : Kept → Kept) (target : Option Kept) (aims : (k : Kept) (h : Held S) → v.connection ≡ Some h → IsTrue w.known → Keeps (state g h) k → target ≡ Some (next k)) {T E : Type 0} where
        pub changed_ok : (x : T) → (IsTrue w.known → IsTrue v.ours) → (IsTrue v.known → IsTrue w.known) → ((o : Held S) → v.connection ≡ Some o → Writes {E = E} g (IsLastOf v.last) next o w.connection (Ok x))
            → Changed {E = E} g target v w (Ok x)
        changed_ok x ours knows writes = record {
          content = λ k e.
              let now = keeps_of w k after e in
              let o = there v sound (ours now.0) in
              let l = writes o.0 o.1 in
              let same : l.new ≡ now.1 = same_held w.connection l.new now.1 l.is now.2 in
              let here : Keeps (state g l.new) k = subst (λ h. Keeps (state g h) k) (sym same) now.3 in
              let clean = clean_open l.new here.shows.is_open in
              let it = (sound.some o.0 o.1 (ours now.0)).keeps (l.opened clean) in
              aims it.0 o.0 o.1 now.0 it.1 ∙ ap Some (one_content (state g l.new) (next it.0) k (l.told clean it.0 it.1 it.2) here);
          left = λ k m.
              let o = there v sound (ours m.known) in
              let l = writes o.0 o.1 in
              let same : m.held ≡ l.new = same_held w.connection m.held l.new m.is l.is in
              let clean : HasCleanDisk (state g l.new) = subst (λ h. HasCleanDisk (state g h)) same m.clean in
              let may : (state g l.new).may_leave m.left = subst (λ h. (state g h).may_leave m.left) same m.may in
              let it = (sound.some o.0 o.1 (ours m.known)).keeps (l.opened clean) in
              aims it.0 o.0 o.1 m.known it.1 ∙ (sym (l.durable clean it.0 it.1 it.2 m.left may).tells ∙ m.tells);
          stays = λ is_open k e.
              let was = keeps_of v k sound e in
              let l = writes was.1 was.2 in
              let same : is_open.0 ≡ l.new = same_held w.connection is_open.0 l.new is_open.1 l.is in
              let now : IsTrue (state g l.new).is_open = subst (λ h. IsTrue (state g h).is_open) same is_open.2 in
              let known = knows was.0 in
              content_from w l.new (next k) known l.is (l.told (clean_open l.new now) k was.3 was.4) ∙ sym (aims k was.1 was.2 known was.3);
          leaves = leaves_told w after;
        }

        pub changed_err : (e : E) → w.known ≡ v.known → ((o : Held S) → v.connection ≡ Some o → Writes {T = T} g (IsLastOf v.last) next o w.connection (Err e)) → Changed {T = T} g target v w (Err e)
        changed_err e same_known writes = record {
          content = λ k e.
              let now = keeps_of w k after e in
              let known : IsTrue v.known = sym same_known ∙ now.0 in
              let o = there v sound (sound.checked known) in
              let l = writes o.0 o.1 in
              let same : l.new ≡ now.1 = same_held w.connection l.new now.1 l.is now.2 in
              let here : Keeps (state g l.new) k = subst (λ h. Keeps (state g h) k) (sym same) now.3 in
              let clean = clean_open l.new here.shows.is_open in
              let it = (sound.some o.0 o.1 (sound.checked known)).keeps (l.shut clean here.shows.is_open) in
              let one : it.0 ≡ k = one_content (state g l.new) it.0 k (l.refused clean it.0 it.1 it.2 here.shows.is_open) here in
              content_from v o.0 it.0 known o.1 it.1 ∙ ap Some one;
          left = λ k m.
              let known : IsTrue v.known = sym same_known ∙ m.known in
              let o = there v sound (sound.checked known) in
              let l = writes o.0 o.1 in
              let same : m.held ≡ l.new = same_held w.connection m.held l.new m.is l.is in
              let clean : HasCleanDisk (state g l.new) = subst (λ h. HasCleanDisk (state g h)) same m.clean in
              let may : (state g l.new).may_leave m.left = subst (λ h. (state g h).may_leave m.left) same m.may in
              elim (l.crash.crash clean m.left may) [
                | inl earlier ↦ inl (left_before v w k m o.0 known o.1 (omega (arith, l.crash.clean, clean)) earlier)
                | inr made ↦
                    let it = (sound.some o.0 o.1 (sound.checked known)).keeps made.0 in
                    elim (made.1 it.0 it.1 it.2) [
                      | inl old_one ↦ inl (kept_may_be_left v o.0 it.0 k known o.1 it.1 (one_some it.0 k (sym old_one.tells ∙ m.tells)))
                      | inr next_one ↦ inr (aims it.0 o.0 o.1 m.known it.1 ∙ (sym next_one.tells ∙ m.tells))
                    ]
              ];
          stays = λ is_open k e.
              let was = keeps_of v k sound e in
              let l = writes was.1 was.2 in
              let same : is_open.0 ≡ l.new = same_held w.connection is_open.0 l.new is_open.1 l.is in
              let now : IsTrue (state g l.new).is_open = subst (λ h. IsTrue (state g h).is_open) same is_open.2 in
              content_from w l.new k (same_known ∙ was.0) l.is (l.refused (clean_open l.new now) k was.3 was.4 now);
          leaves = leaves_told w after;
        }

    -- a change after a look at the tables
    module _ (v m w : DatabaseView S O) (f : Option Kept → Option Kept) (rises : (k : Kept) → f (content_of g m) ≡ Some k → f (content_of g v) ≡ Some k) (fetched : Fetched g v m) (opens : IsOpenIn g w → IsOpenIn g m) where
      pub changed_then : {T E : Type 0} (r : Result T E) → Changed g (f (content_of g m)) m w r → Changed g (f (content_of g v)) v w r
      changed_then (Ok x) c = record {
        content = λ k e. rises k (c.content k e);
        left = λ k h. rises k (c.left k h);
        stays = λ is_open k e. c.stays is_open k (fetched.stays (opens is_open) k e) ∙ ap f (fetched.stays (opens is_open) k e ∙ sym e);
        leaves = c.leaves;
      }
      changed_then (Err x) c = record {
        content = λ k e. fetched.content k (c.content k e);
        left = λ k h. elim (c.left k h) [ inl before ↦ inl (fetched.left k before) | inr it ↦ inr (rises k it) ];
        stays = λ is_open k e. c.stays is_open k (fetched.stays (opens is_open) k e);
        leaves = c.leaves;
      }

    -- a database of which nothing but the number of the last row was forgotten, and that may be open now
    module _ (v m : DatabaseView S O) (sound : Sound v) (ours : m.ours ≡ v.ours) (known : m.known ≡ v.known) (same : (o : Held S) → v.connection ≡ Some o → m.connection ≡ Some o) where
      pub sound_opened : m.last ≡ None → Sound m
      sound_opened forgot = record {
        none = λ is. closed v.connection refl is;
        checked = λ k. ours ∙ sound.checked (sym known ∙ k);
        some = λ h is here.
            let o = there v sound (sym ours ∙ here) in
            let held : o.0 ≡ h = same_held m.connection o.0 h (same o.0 o.1) is in
            let it = sound.some o.0 o.1 (sym ours ∙ here) in
            subst (IsKnown g m.last) held (subst (λ n. IsKnown g n o.0) (sym forgot) (record { keeps = λ is_open. let k = it.keeps is_open in (k.0, k.1, tt); leaves = it.leaves }));
      }
        where
          closed : (c : Option (Held S)) → v.connection ≡ c → m.connection ≡ None → m.ours ≡ false
          closed None was is = ours ∙ sound.none was
          closed (Some o) was is = absurd (let both : Some o ≡ None = sym (same o was) ∙ is in cc)

      pub fetched_none : m.last ≡ None → Fetched g v m
      fetched_none forgot = fetched_by v m sound (sound_opened forgot) (λ k. sym known ∙ k) (λ o is. record {
        new = o;
        is = same o is;
        shut = λ clean is_open. is_open;
        crash = survives_same (state g o) _;
        same = λ clean k keeps is_open. keeps;
        known = λ clean k keeps here. known ∙ here;
      })

      module _ (o n : Held S) (is : m.connection ≡ Some o) where
        its : (h : Held S) → v.connection ≡ Some h → h ≡ o
        its h was = same_held m.connection h o (same h was) is

        -- the look failed
        pub sound_unread : {E : Type 0} (e : E) → Sound m → m.last ≡ None → Fetches g o (Some n) m.ours (Err e) → IsSound g (Some n) m.last m.ours m.known
        sound_unread e middle forgot f = record {
          none = λ none. absurd cc;
          checked = middle.checked;
          some = λ h here mine. subst (λ last. IsKnown g last h) (sym forgot) (known_fetched o h (Some n) m.ours e m.last here (middle.some o is mine) f);
        }

        pub fetched_unread : {E : Type 0} (e : E) → Sound m → m.last ≡ None → Fetches g o (Some n) m.ours (Err e) → Fetched g v (record m { connection = Some n })
        fetched_unread e middle forgot f = fetched_by v (record m { connection = Some n }) sound (sound_unread e middle forgot f) (λ k. sym known ∙ k) (λ h was. subst (Looks v (record m { connection = Some n }) sound (sound_unread e middle forgot f)) (sym (its h was)) (record {
          new = f.new;
          is = f.is;
          shut = f.shut;
          crash = f.crash;
          same = λ clean k keeps is_open. f.refused clean k keeps is_open;
          known = λ clean k keeps here. known ∙ here;
        }))

        -- the look found rows
        pub sound_read : (rows : List (List ℕ)) (mine : Bool) → (HasCleanDisk (state g n) → IsTrue mine → Keeps (state g n) (kept_rows rows)) → (last : ℕ) → last ≡ length rows
            → IsSound g (Some n) (Some last) mine (m.known && mine)
        sound_read rows mine told last count = record {
          none = λ none. absurd cc;
          checked = λ k. (and_parts m.known mine k).1;
          some = λ h here yes. let held : n ≡ h = one_some n h here in subst (IsKnown g (Some last)) held (known_by n (kept_rows rows) (Some last) count (λ clean. told clean yes));
        }

        pub fetched_read : {E : Type 0} (rows : List (List ℕ)) (mine : Bool) → (HasCleanDisk (state g n) → IsTrue mine → Keeps (state g n) (kept_rows rows)) → (last : ℕ) → last ≡ length rows → Fetches {E = E} g o (Some n) mine (Ok rows)
            → Fetched g v (record m { connection = Some n; last = Some last; ours = mine; known = m.known && mine })
        fetched_read rows mine told last count f =
            let w : DatabaseView S O = record m { connection = Some n; last = Some last; ours = mine; known = m.known && mine } in
            let new : f.new ≡ n = sym (one_some n f.new f.is) in
            fetched_by v w sound (sound_read rows mine told last count) (λ k. sym known ∙ (and_parts m.known mine k).0) (λ h was. subst (Looks v w sound (sound_read rows mine told last count)) (sym (its h was)) (record {
              new = f.new;
              is = f.is;
              shut = f.shut;
              crash = f.crash;
              same = λ clean k keeps is_open.
                  let it = f.still clean k keeps in
                  subst (Keeps (state g f.new)) (sym it.1) (subst (λ x. Keeps (state g x) (kept_rows rows)) (sym new) (told (subst (λ x. HasCleanDisk (state g x)) new clean) it.0));
              known = λ clean k keeps here. rw (known ∙ here) (f.still clean k keeps).0;
            }))

    -- what a load makes of a database, after a look at the tables
    pub loaded_ok : {E : Type 0} (v m w : DatabaseView S O) (rows : List (List ℕ)) → Sound m → Sound w → w.connection ≡ m.connection → w.known ≡ m.ours → Fetched g v m
        → ((h : Held S) → w.connection ≡ Some h → HasCleanDisk (state g h) → IsTrue w.known → Keeps (state g h) (kept_rows rows)) → Loaded {E = E} g v w (Ok rows)
    loaded_ok v m w rows middle after same learns fetched told = record {
      loaded = λ k e. let now = keeps_of w k after e in one_content (state g now.1) k (kept_rows rows) now.3 (told now.1 now.2 (clean_open now.1 now.3.shows.is_open) now.0);
      content = λ k e o was.
          let now = keeps_of w k after e in
          let is_open : IsOpenIn g m = (now.1, sym same ∙ now.2, now.3.shows.is_open) in
          let mid = keeps_of m o middle (fetched.stays is_open o was) in
          let held : mid.1 ≡ now.1 = same_held m.connection mid.1 now.1 mid.2 (sym same ∙ now.2) in
          one_content (state g now.1) o k (subst (λ h. Keeps (state g h) o) held mid.3) now.3;
      left = λ k it.
          let keeps = told it.held it.is it.clean it.known in
          let leaves = settled_leaves g settled it.held (kept_rows rows) keeps it.left it.may in
          inr (content_from w it.held (kept_rows rows) it.known it.is keeps ∙ (sym leaves.tells ∙ it.tells));
      stays = λ is_open k e.
          let mid = keeps_of m k middle (fetched.stays (is_open.0, sym same ∙ is_open.1, is_open.2) k e) in
          content_from w mid.1 k (learns ∙ middle.checked mid.0) (same ∙ mid.2) mid.3;
      leaves = leaves_told w after;
    }

    pub loaded_err : {E : Type 0} (v m : DatabaseView S O) (e : E) → Fetched g v m → Loaded g v m (Err e)
    loaded_err v m e fetched = record {
      loaded = tt;
      content = fetched.content;
      left = λ k h. inl (fetched.left k h);
      stays = fetched.stays;
      leaves = fetched.leaves;
    }

    -- a database after a change that asked its connection
    pub sound_written : {T E : Type 0} (v : DatabaseView S O) (o n : Held S) (r : Result T E) (next : Kept → Kept) (after : Option ℕ) (known : Bool) → Sound v → v.connection ≡ Some o
        → (IsTrue known → IsTrue v.ours) → Writes g (IsLastOf v.last) next o (Some n) r → MatchResult r (λ _. (k : Kept) → IsLastOf v.last k → IsLastOf after (next k)) (λ _. after ≡ v.last)
        → IsSound g (Some n) after v.ours known
    sound_written v o n r next after known sound is checked writes fits = record {
      none = λ none. absurd cc;
      checked = checked;
      some = λ h here ours. known_written r o h (Some n) next v.last after here (sound.some o is ours) writes fits;
    }

    module _ (row : List ℕ) (v : DatabaseView S O) where
      aims_at_row : (k : Kept) (h : Held S) → v.connection ≡ Some h → IsTrue v.known → Keeps (state g h) k → with_row_if row (content_of g v) ≡ Some (with_row row k)
      aims_at_row k h here known keeps = ap (with_row_if row) (content_from v h k known here keeps)

      fits_next : (last number : ℕ) → v.last ≡ Some last → number ≡ suc last → (k : Kept) → IsLastOf v.last k → IsLastOf (Some number) (with_row row k)
      fits_next last number has next k fits =
          let size : last ≡ length k.rows = subst (λ n. IsLastOf n k) has fits in
          omega (arith, next, size, length_push k.rows row)

    module _ (row : List ℕ) (v : DatabaseView S O) (o n : Held S) (sound : Sound v) (is : v.connection ≡ Some o) {T E : Type 0} where
      pub sound_appended : (x : T) (last number : ℕ) → v.last ≡ Some last → number ≡ suc last → Writes {E = E} g (IsLastOf v.last) (with_row row) o (Some n) (Ok x) → IsSound g (Some n) (Some number) v.ours v.known
      sound_appended x last number has next writes = sound_written v o n (Ok x) (with_row row) (Some number) v.known sound is sound.checked writes (fits_next row v last number has next)

      pub changed_by_append : (x : T) (last number : ℕ) → v.last ≡ Some last → number ≡ suc last → Writes {E = E} g (IsLastOf v.last) (with_row row) o (Some n) (Ok x)
          → Changed {E = E} g (with_row_if row (content_of g v)) v (record v { connection = Some n; last = Some number }) (Ok x)
      changed_by_append x last number has next writes =
          changed_ok v (record v { connection = Some n; last = Some number }) sound (sound_appended x last number has next writes) (with_row row) (with_row_if row (content_of g v)) (aims_at_row row v) x sound.checked (λ known. known)
          (λ h here. subst (λ h. Writes {E = E} g (IsLastOf v.last) (with_row row) h (Some n) (Ok x)) (same_held v.connection o h is here) writes)

      pub sound_refused : (e : E) → Writes {T = T} g (IsLastOf v.last) (with_row row) o (Some n) (Err e) → IsSound g (Some n) v.last v.ours v.known
      sound_refused e writes = sound_written v o n (Err e) (with_row row) v.last v.known sound is sound.checked writes refl

      pub changed_by_refusal : (e : E) → Writes {T = T} g (IsLastOf v.last) (with_row row) o (Some n) (Err e)
          → Changed {T = T} g (with_row_if row (content_of g v)) v (record v { connection = Some n }) (Err e)
      changed_by_refusal e writes =
          changed_err v (record v { connection = Some n }) sound (sound_refused e writes) (with_row row) (with_row_if row (content_of g v)) (aims_at_row row v) e refl
          (λ h here. subst (λ h. Writes {T = T} g (IsLastOf v.last) (with_row row) h (Some n) (Err e)) (same_held v.connection o h is here) writes)

    module _ (rows : List (List ℕ)) (v : DatabaseView S O) (o n : Held S) (sound : Sound v) (is : v.connection ≡ Some o) {T E : Type 0} where
      pub sound_replaced : (x : T) (last : ℕ) → last ≡ length rows → Writes {E = E} g (IsLastOf v.last) (λ _. kept_rows rows) o (Some n) (Ok x) → IsSound g (Some n) (Some last) v.ours v.ours
      sound_replaced x last fits writes = sound_written v o n (Ok x) (λ _. kept_rows rows) (Some last) v.ours sound is (λ ours. ours) writes (λ k _. fits)

      pub changed_by_replace : (x : T) (last : ℕ) → last ≡ length rows → Writes {E = E} g (IsLastOf v.last) (λ _. kept_rows rows) o (Some n) (Ok x)
          → Changed {E = E} g (Some (kept_rows rows)) v (record v { connection = Some n; last = Some last; known = v.ours }) (Ok x)
      changed_by_replace x last fits writes =
          changed_ok v (record v { connection = Some n; last = Some last; known = v.ours }) sound (sound_replaced x last fits writes) (λ _. kept_rows rows) (Some (kept_rows rows)) (λ k h here known keeps. refl) x (λ ours. ours)
          sound.checked (λ h here. subst (λ h. Writes {E = E} g (IsLastOf v.last) (λ _. kept_rows rows) h (Some n) (Ok x)) (same_held v.connection o h is here) writes)

      pub sound_not_replaced : (e : E) → Writes {T = T} g (IsLastOf v.last) (λ _. kept_rows rows) o (Some n) (Err e) → IsSound g (Some n) v.last v.ours v.known
      sound_not_replaced e writes = sound_written v o n (Err e) (λ _. kept_rows rows) v.last v.known sound is sound.checked writes refl

      pub changed_by_no_replace : (e : E) → Writes {T = T} g (IsLastOf v.last) (λ _. kept_rows rows) o (Some n) (Err e) → Changed {T = T} g (Some (kept_rows rows)) v (record v { connection = Some n }) (Err e)
      changed_by_no_replace e writes =
          changed_err v (record v { connection = Some n }) sound (sound_not_replaced e writes) (λ _. kept_rows rows) (Some (kept_rows rows)) (λ k h here known keeps. refl) e refl
          (λ h here. subst (λ h. Writes {T = T} g (IsLastOf v.last) (λ _. kept_rows rows) h (Some n) (Err e)) (same_held v.connection o h is here) writes)

    -- a call that asked nothing of the database
    pub changed_nothing : {T E : Type 0} (v : DatabaseView S O) (target : Option Kept) (e : E) → Sound v → Changed {T = T} g target v v (Err e)
    changed_nothing v target e sound = record {
      content = λ k h. h;
      left = λ k h. inl h;
      stays = λ is_open k h. h;
      leaves = leaves_told v sound;
    }

    pub changed_none : (v m : DatabaseView S O) (target : Option Kept) {T E : Type 0} (e : E) → Fetched g v m → Changed {T = T} g target v m (Err e)
    changed_none v m target e fetched = record {
      content = fetched.content;
      left = λ k h. inl (fetched.left k h);
      stays = fetched.stays;
      leaves = fetched.leaves;
    }

pub fetches_none : {S F : Type 0} (g : Ghosts S) (old : Held S) (connection : Option (Held S)) (ours : Bool) (e : F) → connection ≡ Some old → Fetches g old connection ours (Err e)
fetches_none g old connection ours e is = record {
  new = old;
  is = is;
  shut = λ clean is_open. is_open;
  crash = survives_same (state g old) _;
  still = λ clean k keeps. tt;
  refused = λ clean k keeps is_open. keeps;
  blank = λ clean none. tt;
}

pub fetches_as : {S F G : Type 0} (g : Ghosts S) (old : Held S) (connection : Option (Held S)) (ours : Bool) (e : F) (f : G) → Fetches g old connection ours (Err e) → Fetches g old connection ours (Err f)
fetches_as g old connection ours e f h = record { new = h.new; is = h.is; shut = h.shut; crash = h.crash; still = λ clean k keeps. tt; refused = h.refused; blank = λ clean none. tt }

module _ {T E : Type 0} where
  pub writes_none : {S : Type 0} (g : Ghosts S) (IsFit : Kept → Type 0) (next : Kept → Kept) (old : Held S) (connection : Option (Held S)) (e : E) → connection ≡ Some old → Writes {T = T} g IsFit next old connection (Err e)
  writes_none g IsFit next old connection e is = record {
    new = old;
    is = is;
    shut = λ clean is_open. is_open;
    opened = λ clean. tt;
    crash = survives_same (state g old) _;
    told = λ clean k keeps fits. tt;
    durable = λ clean k keeps fits. tt;
    refused = λ clean k keeps fits is_open. keeps;
  }

  pub to_err : (P : E → Type 0) (r : Result T E) → IsErrAnd r P → (e : E) × (r ≡ Err e)
  to_err P (Ok x) bad = absurd bad
  to_err P (Err e) bad = (e, refl)

  pub on_ok_map : {A B : Type 0} (r : Result T E) → (A → B) → OnOk r A → OnOk r B
  on_ok_map (Ok x) f a = f a
  on_ok_map (Err e) f a = tt

module _ {S : Type 0} (g : Ghosts S) (next : Kept → Kept) (old : Held S) (mid : Option (Held S)) (ours : Bool) where
  -- a change after a look at the tables, which returned these rows
  pub fetched_writes : {T E F : Type 0} (r : Result T E) (w : Option (Held S)) (rows : List (List ℕ)) → Fetches {E = F} g old mid ours (Ok rows)
      → ((h : Held S) → mid ≡ Some h → HasCleanDisk (state g h) → IsTrue ours → Keeps (state g h) (kept_rows rows)) → ((h : Held S) → mid ≡ Some h → Writes g (IsLastOf (Some (length rows))) next h w r)
      → Writes g (IsLastOf None) next old w r
  fetched_writes r w rows f told writes = record {
    new = l.new;
    is = l.is;
    shut = λ clean is_open. f.shut (earlier clean) (l.shut clean is_open);
    opened = λ clean. on_ok_map r (λ is_open. f.shut (earlier clean) is_open) (l.opened clean);
    crash = survives_then (state g old) (state g f.new) (state g l.new) _ _ _ (λ clean db it. (it.0, λ k keeps fits. inl (it.1 k keeps)))
        (λ clean db it. (f.shut (earlier clean) it.0, λ k keeps fits. let here = kept (earlier clean) k keeps in it.1 k here.0 here.1)) f.crash l.crash;
    told = λ clean k keeps fits. let here = kept (earlier clean) k keeps in l.told clean k here.0 here.1;
    durable = λ clean k keeps fits. let here = kept (earlier clean) k keeps in l.durable clean k here.0 here.1;
    refused = λ clean k keeps fits. let here = kept (earlier clean) k keeps in l.refused clean k here.0 here.1;
  }
    where
      l : Writes g (IsLastOf (Some (length rows))) next f.new w r
      l = writes f.new f.is

      earlier : HasCleanDisk (state g l.new) → HasCleanDisk (state g f.new)
      earlier clean = omega (arith, l.crash.clean, clean)

      kept : HasCleanDisk (state g f.new) → (k : Kept) → Keeps (state g old) k → Keeps (state g f.new) k × (length rows ≡ length k.rows)
      kept clean k keeps =
          let it = f.still clean k keeps in
          (subst (Keeps (state g f.new)) (sym it.1) (told f.new f.is clean it.0), ap (λ (x : Kept). length x.rows) (sym it.1))

  -- a change before which the look at the tables failed
  pub fetched_refused : {T E F : Type 0} (e : F) (why : E) (IsFit : Kept → Type 0) → Fetches {E = F} g old mid ours (Err e) → Writes {T = T} g IsFit next old mid (Err why)
  fetched_refused e why IsFit f = record {
    new = f.new;
    is = f.is;
    shut = f.shut;
    opened = λ clean. tt;
    crash = survives_weaker (state g old) (state g f.new) _ _ (λ clean db it. (it.0, λ k keeps fits. inl (it.1 k keeps))) f.crash;
    told = λ clean k keeps fits. tt;
    durable = λ clean k keeps fits. tt;
    refused = λ clean k keeps fits. f.refused clean k keeps;
  }

module _ {S : Type 0} (g : Ghosts S) (settled : IsSettled g) where
  -- the clauses of `append` of the tables, for the number of the last row
  pub writes_row : {T E : Type 0} (r : Result T E) (row : List ℕ) (last : Option ℕ) (n number : ℕ) (old new : Held S) → last ≡ Some n → number ≡ suc n
      → (HasCleanDisk (state g new) → (k : Kept) → Keeps (state g old) k → number ≡ suc (length k.rows) → OnOk r (Keeps (state g new) (with_row row k)))
      → (HasCleanDisk (state g new) → (k : Kept) → Keeps (state g old) k → OnErr r (IsTrue (state g new).is_open → Keeps (state g new) k))
      → (HasCleanDisk (state g new) → OnOk r (IsTrue (state g old).is_open)) → StaysShut (state g old) (state g new)
      → Survives (state g old) (state g new) (λ db. IsTrue (state g old).is_open × ((k : Kept) → Keeps (state g old) k → number ≡ suc (length k.rows) → Leaves db (with_row row k)))
      → Writes g (IsLastOf last) (with_row row) old (Some new) r
  writes_row r row last n number old new has next told refused opened shut crash = record {
    new = new;
    is = refl;
    shut = shut;
    opened = opened;
    crash = survives_weaker (state g old) (state g new) _ _ (λ clean db it. (it.0, λ k keeps fits. inr (it.1 k keeps (size k fits)))) crash;
    told = λ clean k keeps fits. told clean k keeps (size k fits);
    durable = λ clean k keeps fits. on_ok_map r (λ now. settled_leaves g settled new (with_row row k) now) (told clean k keeps (size k fits));
    refused = λ clean k keeps fits. refused clean k keeps;
  }
    where
      size : (k : Kept) → IsLastOf last k → number ≡ suc (length k.rows)
      size k fits = let same : n ≡ length k.rows = subst (λ m. IsLastOf m k) has fits in next ∙ ap suc same

  pub writes_rows : {E : Type 0} (r : Result ℕ E) (rows : List (List ℕ)) (last : Option ℕ) (old new : Held S)
      → (HasCleanDisk (state g new) → (k : Kept) → Keeps (state g old) k → IfOk r (λ n. (n ≡ length rows) × Keeps (state g new) (kept_rows rows)))
      → (HasCleanDisk (state g new) → (k : Kept) → Keeps (state g old) k → OnErr r (IsTrue (state g new).is_open → Keeps (state g new) k))
      → (HasCleanDisk (state g new) → OnOk r (IsTrue (state g old).is_open)) → StaysShut (state g old) (state g new)
      → Survives (state g old) (state g new) (λ db. IsTrue (state g old).is_open × ((k : Kept) → Keeps (state g old) k → Leaves db (kept_rows rows)))
      → Writes g (IsLastOf last) (λ _. kept_rows rows) old (Some new) r
  writes_rows {E} r rows last old new told refused opened shut crash = record {
    new = new;
    is = refl;
    shut = shut;
    opened = opened;
    crash = survives_weaker (state g old) (state g new) _ _ (λ clean db it. (it.0, λ k keeps fits. inr (it.1 k keeps))) crash;
    told = λ clean k keeps fits. keeps_all r (told clean k keeps);
    durable = λ clean k keeps fits. on_ok_map r (λ now. settled_leaves g settled new (kept_rows rows) now) (keeps_all r (told clean k keeps));
    refused = λ clean k keeps fits. refused clean k keeps;
  }
    where
      keeps_all : (r : Result ℕ E) → IfOk r (λ n. (n ≡ length rows) × Keeps (state g new) (kept_rows rows)) → OnOk r (Keeps (state g new) (kept_rows rows))
      keeps_all (Ok n) h = h.1
      keeps_all (Err e) h = tt

module _ {S T U E F : Type 0} (g : Ghosts S) (IsFit : Kept → Type 0) (next : Kept → Kept) (old : Held S) (connection : Option (Held S)) where
  pub writes_ok_as : (x : T) (y : U) → Writes {E = E} g IsFit next old connection (Ok x) → Writes {E = F} g IsFit next old connection (Ok y)
  writes_ok_as x y w = record { new = w.new; is = w.is; shut = w.shut; opened = w.opened; crash = w.crash; told = w.told; durable = w.durable; refused = λ clean k keeps fits. tt }

  pub writes_err_as : (e : E) (f : F) → Writes {T = T} g IsFit next old connection (Err e) → Writes {T = U} g IsFit next old connection (Err f)
  writes_err_as e f w = record { new = w.new; is = w.is; shut = w.shut; opened = λ clean. tt; crash = w.crash; told = λ clean k keeps fits. tt; durable = λ clean k keeps fits. tt; refused = w.refused }

-- a change that fits more contents
pub writes_of_fewer : {S T E : Type 0} (g : Ghosts S) (IsFit IsFewer : Kept → Type 0) (next : Kept → Kept) (old : Held S) (connection : Option (Held S)) (r : Result T E) → ((k : Kept) → IsFewer k → IsFit k)
    → Writes g IsFit next old connection r → Writes g IsFewer next old connection r
writes_of_fewer g IsFit IsFewer next old connection r fit w = record {
  new = w.new;
  is = w.is;
  shut = w.shut;
  opened = w.opened;
  crash = survives_weaker (state g old) (state g w.new) _ _ (λ clean db it. (it.0, λ k keeps fits. it.1 k keeps (fit k fits))) w.crash;
  told = λ clean k keeps fits. w.told clean k keeps (fit k fits);
  durable = λ clean k keeps fits. w.durable clean k keeps (fit k fits);
  refused = λ clean k keeps fits. w.refused clean k keeps (fit k fits);
}

pub row_rises : (row : List ℕ) (old now : Option Kept) → ((k : Kept) → now ≡ Some k → old ≡ Some k) → (k : Kept) → with_row_if row now ≡ Some k → with_row_if row old ≡ Some k
row_rises row old None was k e = absurd (let both : ◌≡◌ {A = Option Kept} None (Some k) = e in cc)
row_rises row old (Some x) was k e = ap (with_row_if row) (was x refl) ∙ e

pub some_there : {X : Type 0} (o : Option X) → IsSome o → (x : X) × (o ≡ Some x)
some_there None h = absurd cc
some_there (Some x) h = (x, refl)

pub on_ok_given : {T E : Type 0} (A B : Type 0) (r : Result T E) → (A → OnOk r B) → OnOk r (A → B)
on_ok_given A B (Ok x) f = f
on_ok_given A B (Err e) f = tt

-- what the first change of a database makes of the rows that were found before it
pub first_told : {S T E : Type 0} (g : Ghosts S) (next : Kept → Kept) (mid : Option (Held S)) (w : Option (Held S)) (ours : Bool) (rows : List (List ℕ)) (r : Result T E) → IsSome mid
    → ((h : Held S) → mid ≡ Some h → HasCleanDisk (state g h) → IsTrue ours → Keeps (state g h) (kept_rows rows)) → ((h : Held S) → mid ≡ Some h → Writes g (IsLastOf (Some (length rows))) next h w r)
    → (new : Held S) → w ≡ Some new → HasCleanDisk (state g new) → IsTrue ours → OnOk r (Keeps (state g new) (next (kept_rows rows)))
first_told g next mid w ours rows r some told writes new is clean mine =
    let o = some_there mid some in
    let l = writes o.0 o.1 in
    let same : l.new ≡ new = same_held w l.new new l.is is in
    let late : HasCleanDisk (state g l.new) = subst (λ h. HasCleanDisk (state g h)) (sym same) clean in
    let early : HasCleanDisk (state g o.0) = omega (arith, l.crash.clean, late) in
    subst (λ h. OnOk r (Keeps (state g h) (next (kept_rows rows)))) same (l.told late (kept_rows rows) (told o.0 o.1 early mine) refl)
