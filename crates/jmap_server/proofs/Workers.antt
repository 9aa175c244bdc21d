-- Workers that are started and joined.
use Rattle.std.proofs.Common.{◌≡◌, inr, ℕ, zero, suc, ◌<◌, ◌≤◌, List, [], ◌∷◌, ◌++◌, map, take, drop, length, Option, None, Some, refl, sym, ap, ap₂, ◌∙◌, subst, arith}
use Rattle.std.specs.Prelude.{slice_index_or}
use Rattle.std.specs.List.{AllByRecursion}
use Rattle.std.proofs.lemmas.List.{length-map, map-append}
use Rattle.server_users.specs.Configuration.{Configuration}
use Rattle.account_hall.specs.Halls.{AreOf, RoomView}
use Rattle.account_hall.specs.Sessions.{IsSession, SessionView}
use Rattle.jm_base.specs.declared.limits.TheConstants.{MAX_SESSIONS}
use Rattle.hall_port.specs.Serving.{ServesHall}
use Rattle.hall_port.specs.Steps.{calls_by}
use Rattle.jmap_http.specs.declared.served.Served.{Served}
use Rattle.jmap_server.specs.declared.finished.Finished.{Finished}
use Rattle.jmap_server.specs.declared.served_line.ServedLine.{ServedLine}
use Rattle.mail_records.specs.Histories.{History}
use Rattle.jmap_server.specs.Deeds.{GotLine}
use Rattle.account_hall.specs.Closing.{opened_by}
use Rattle.jmap_server.proofs.Unmoved.{openings_stay}
use Rattle.jmap_server.specs.Lines.{Goes, IsLineServed, Plans, Sight, Taken, taken_of, taking}
use Rattle.jmap_server.specs.Workers.{IsHandedOver, IsJoined, IsServedLine, IsWorker, LineWorker, taken_by}
use Rattle.jmap_server.proofs.Served.{goes_by, goes_return, goes_take}

-- ---- one of a list

pub split_at : {A : Type 0} (xs : List A) (i : ℕ) (x : A) → i < length xs → x ≡ slice_index_or xs i x → xs ≡ take i xs ++ x ∷ drop (suc i) xs
split_at [] i x low e = absurd (omega (arith, low))
split_at {A} (y ∷ ys) zero x low e = ap (λ (z : A). z ∷ ys) (sym e)
split_at {A} (y ∷ ys) (suc i) x low e = ap (λ (zs : List A). y ∷ zs) (split_at ys i x (omega (arith, low)) e)

-- what holds of all of a list, holds of one and of the others
all_but : {A : Type 0} (P : A → Type 0) (xs : List A) (x : A) (ys : List A) → AllByRecursion P (xs ++ x ∷ ys) → P x × AllByRecursion P (xs ++ ys)
all_but P [] x ys h = h
all_but P (z ∷ xs) x ys h =
    let rest = all_but P xs x ys h.1 in
    (rest.0, (h.0, rest.1))

all_more : {A : Type 0} (P : A → Type 0) (xs : List A) (x : A) → AllByRecursion P xs → P x → AllByRecursion P (xs ++ x ∷ [])
all_more P [] x h p = (p, tt)
all_more P (y ∷ ys) x h p = (h.0, all_more P ys x h.1 p)

-- no worker is left
pub none_left : {K R L C : Type 0} (ws : List (LineWorker K R L C)) → length ws ≤ 0 → map taken_by ws ≡ []
none_left [] few = refl
none_left (w ∷ ws) few = absurd (omega (arith, few))

-- ---- a line

module _ {K R L C : Type 0} (sight : Sight K L C) (plan_of : Plans R) where
  -- what a worker promised, and what it serves
  pub served_for : (rooms rooms' : List RoomView) (users users' : Configuration) (session : SessionView) (line : L) (clock : C) (done : ServedLine L) → rooms ≡ rooms' → users ≡ users' → IsServedLine sight plan_of rooms users session line clock done
      → IsServedLine sight plan_of rooms' users' session line clock done
  served_for rooms rooms' users users' session line clock done er eu h =
      subst (λ (r : List RoomView). IsServedLine sight plan_of r users' session line clock done) er (subst (λ (u : Configuration). IsServedLine sight plan_of rooms u session line clock done) eu h)

  module _ (rooms : List RoomView) (users : Configuration) where
    -- a line that was served, and finished after that
    pub finished_line : (line before after : L) (clock clock' : C) (session session' : SessionView) (served : Served) → session.trail ≡ [] → AreOf rooms session'.passes → sight.left after ≡ sight.left before → sight.held after ≡ sight.held before
        → sight.read_faults after ≡ sight.read_faults before → sight.put_faults after ≡ sight.put_faults before
        → ServesHall (calls_by plan_of) rooms users session session' (sight.times clock) (sight.times clock') (sight.left line) (sight.left before) (sight.held line) (sight.held before) (sight.read_faults line) (sight.read_faults before) (sight.put_faults line)
        (sight.put_faults before) served
        → IsServedLine sight plan_of rooms users session line clock (record { line = after; served = served; passes = session' })
    finished_line line before after clock clock' session session' served none hall left held reads puts h =
        let Shown : Option (List ℕ) → Option (List ℕ) → ℕ → ℕ → Type 0 = λ (l : Option (List ℕ)) (k : Option (List ℕ)) (r : ℕ) (p : ℕ). ServesHall (calls_by plan_of) rooms users session session' (sight.times clock) (sight.times clock') (sight.left line) l (sight.held line) k
        (sight.read_faults line) r (sight.put_faults line) p served in
        record {
          clock' = clock';
          none = none;
          serves = subst (λ (l : Option (List ℕ)). Shown l (sight.held after) (sight.read_faults after) (sight.put_faults after)) (sym left)
              (subst (λ (k : Option (List ℕ)). Shown (sight.left before) k (sight.read_faults after) (sight.put_faults after)) (sym held)
              (subst (λ (r : ℕ). Shown (sight.left before) (sight.held before) r (sight.put_faults after)) (sym reads) (subst (λ (p : ℕ). Shown (sight.left before) (sight.held before) (sight.read_faults before) p) (sym puts) h)));
          hall = hall;
          openings = openings_stay plan_of rooms users session session' (sight.times clock) (sight.times clock') (sight.left line) (sight.left before) (sight.held line) (sight.held before) (sight.read_faults line) (sight.read_faults before) (sight.put_faults line) (sight.put_faults before) served h;
        }

    pub let_out_served : (session : SessionView) (line : L) (clock : C) (done : ServedLine L) (finished : Finished L) → IsServedLine sight plan_of rooms users session line clock done → finished.line ≡ done.line → finished.served ≡ done.served → finished.trail ≡ done.passes.trail
        → finished.http_points ≡ length finished.trail → IsSession done.passes → IsLineServed sight plan_of rooms users line clock (done.passes ∷ []) finished
    let_out_served session line clock done finished h same ended trail points in_order =
        let Shown : L → Served → Type 0 = λ (l : L) (s : Served). ServesHall (calls_by plan_of) rooms users session done.passes (sight.times clock) (sight.times h.clock') (sight.left line) (sight.left l) (sight.held line) (sight.held l) (sight.read_faults line) (sight.read_faults l)
        (sight.put_faults line) (sight.put_faults l) s in
        inr (
          done.passes,
          refl,
          record {
            session = session;
            clock' = h.clock';
            none = h.none;
            serves = subst (λ (l : L). Shown l finished.served) (sym same) (subst (λ (s : Served). Shown done.line s) (sym ended) h.serves);
            hall = h.hall;
            in_order = in_order;
            trail_is = trail;
            points = points;
          },
        )

    -- ---- handed over

    module _ (openings : List History) where
      pub handed_taken : (line : L) (clock : C) (ws ws' : List (LineWorker K R L C)) (left : List SessionView) → length ws < MAX_SESSIONS → IsHandedOver sight plan_of rooms users openings line clock ws ws' left None
          → Goes sight plan_of rooms users 1 (map taken_by ws) (map taken_by ws') left (taking (taken_of line clock))
      handed_taken line clock ws ws' left few (w, session, promise, same, more, none) =
          let next : taken_by w ≡ taken_of line clock = ap₂ (λ (l : L) (c : C). taken_of l c) promise.2 promise.3 in
          let out : map taken_by ws' ≡ map taken_by ws ++ taken_of line clock ∷ [] =
          ap (λ (xs : List (LineWorker K R L C)). map taken_by xs) more ∙ map-append taken_by ws (w ∷ []) ∙ ap (λ (t : Taken L C). map taken_by ws ++ t ∷ []) next in
          subst (λ (l : List SessionView). Goes sight plan_of rooms users 1 (map taken_by ws) (map taken_by ws') l (taking (taken_of line clock))) (sym none)
          (subst (λ (o : List (Taken L C)). Goes sight plan_of rooms users 1 (map taken_by ws) o [] (taking (taken_of line clock))) (sym out)
          (goes_take sight plan_of rooms users (map taken_by ws) (taken_of line clock) (omega (arith, length-map ws taken_by, few))))

      pub handed_back : (line : L) (clock : C) (finished : Finished L) (ws ws' : List (LineWorker K R L C)) (left : List SessionView) → length ws < MAX_SESSIONS → IsHandedOver sight plan_of rooms users openings line clock ws ws' left (Some finished)
          → Goes sight plan_of rooms users 1 (map taken_by ws) (map taken_by ws') left (taking (taken_of line clock) ++ GotLine finished ∷ [])
      handed_back line clock finished ws ws' left few (served, same) =
          subst (λ (xs : List (LineWorker K R L C)). Goes sight plan_of rooms users 1 (map taken_by ws) (map taken_by xs) left (taking (taken_of line clock) ++ GotLine finished ∷ [])) (sym same)
          (goes_by sight plan_of rooms users (map taken_by ws) line clock left finished (omega (arith, length-map ws taken_by, few)) served)

      pub handed_all : (line : L) (clock : C) (ws ws' : List (LineWorker K R L C)) (left : List SessionView) (back : Option (Finished L)) → IsHandedOver sight plan_of rooms users openings line clock ws ws' left back → AllByRecursion (IsWorker rooms users openings) ws
          → AllByRecursion (IsWorker rooms users openings) ws'
      handed_all line clock ws ws' left None (w, session, promise, same, more, none) h =
          subst (λ (xs : List (LineWorker K R L C)). AllByRecursion (IsWorker rooms users openings) xs) (sym more)
          (all_more (IsWorker rooms users openings) ws w h (promise.0, promise.1, ap (λ (x : SessionView). map opened_by x.passes) promise.4 ∙ same))
      handed_all line clock ws ws' left (Some finished) (served, same) h = subst (λ (xs : List (LineWorker K R L C)). AllByRecursion (IsWorker rooms users openings) xs) (sym same) h

    -- ---- joined

    module _ (openings : List History) (ws ws' : List (LineWorker K R L C)) (done : ServedLine L) (j : IsJoined sight plan_of ws ws' done) (h : AllByRecursion (IsWorker rooms users openings) ws) where
      apart : IsWorker rooms users openings j.one × AllByRecursion (IsWorker rooms users openings) (j.earlier ++ j.later)
      apart = all_but (IsWorker rooms users openings) j.earlier j.one j.later (subst (λ (xs : List (LineWorker K R L C)). AllByRecursion (IsWorker rooms users openings) xs) j.all_are h)

      pub joined_all : AllByRecursion (IsWorker rooms users openings) ws'
      joined_all = subst (λ (xs : List (LineWorker K R L C)). AllByRecursion (IsWorker rooms users openings) xs) (sym j.rest_are) apart.1

      joined_line : IsServedLine sight plan_of rooms users j.one.handle.promise.passes.value (taken_by j.one).line (taken_by j.one).clock done
      joined_line = served_for j.one.handle.promise.hall.value rooms j.one.handle.promise.users.value users j.one.handle.promise.passes.value j.one.handle.promise.line.value j.one.handle.promise.clock.value done apart.0.0 apart.0.1 j.served

      pub joined_hall : AreOf rooms done.passes.passes
      joined_hall = joined_line.hall

      pub joined_same : map opened_by done.passes.passes ≡ openings
      joined_same = joined_line.openings ∙ apart.0.2

      pub joined_back : (finished : Finished L) → finished.line ≡ done.line → finished.served ≡ done.served → finished.trail ≡ done.passes.trail → finished.http_points ≡ length finished.trail → IsSession done.passes
          → Goes sight plan_of rooms users 0 (map taken_by ws) (map taken_by ws') (done.passes ∷ []) (GotLine finished ∷ [])
      joined_back finished same ended trail points in_order =
          let left : List SessionView = done.passes ∷ [] in
          let served : IsLineServed sight plan_of rooms users (taken_by j.one).line (taken_by j.one).clock left finished =
          let_out_served j.one.handle.promise.passes.value (taken_by j.one).line (taken_by j.one).clock done finished joined_line same ended trail points in_order in
          let all : map taken_by ws ≡ map taken_by j.earlier ++ taken_by j.one ∷ map taken_by j.later = ap (λ (xs : List (LineWorker K R L C)). map taken_by xs) j.all_are ∙ map-append taken_by j.earlier (j.one ∷ j.later) in
          let rest : map taken_by ws' ≡ map taken_by j.earlier ++ map taken_by j.later = ap (λ (xs : List (LineWorker K R L C)). map taken_by xs) j.rest_are ∙ map-append taken_by j.earlier j.later in
          subst (λ (o : List (Taken L C)). Goes sight plan_of rooms users 0 o (map taken_by ws') left (GotLine finished ∷ [])) (sym all)
          (subst (λ (o : List (Taken L C)). Goes sight plan_of rooms users 0 (map taken_by j.earlier ++ taken_by j.one ∷ map taken_by j.later) o left (GotLine finished ∷ [])) (sym rest)
          (goes_return sight plan_of rooms users (map taken_by j.earlier) (taken_by j.one) (map taken_by j.later) left finished served))
