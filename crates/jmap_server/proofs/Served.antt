-- Lines that are taken and come back, step after step.
use Rattle.std.proofs.Common.{◌≡◌, inl, inr, ℕ, suc, ◌+◌, ◌<◌, List, [], ◌∷◌, ◌++◌, length, refl, sym, ap, ◌∙◌, subst, append_assoc, append-nil, arith, Result}
use Rattle.server_users.specs.Configuration.{Configuration}
use Rattle.account_hall.specs.Halls.{RoomView}
use Rattle.account_hall.specs.Sessions.{SessionView}
use Rattle.jm_base.specs.declared.limits.TheConstants.{MAX_SESSIONS}
use Rattle.jmap_server.specs.declared.finished.Finished.{Finished}
use Rattle.jmap_server.specs.Deeds.{Deed, GotLine}
use Rattle.jmap_server.specs.Lines.{AreEnough, AreOut, Goes, HasServedLines, HaveGone, IsLineServed, Plans, Sight, Taken, taken_of, taking}

module _ {K R L C : Type 0} (sight : Sight K L C) (plan_of : Plans R) (rooms : List RoomView) (users : Configuration) where
  at_count : (n m : ℕ) (out : List (Taken L C)) (ss : List SessionView) (did : List (Deed K L C)) → n ≡ m → AreOut sight plan_of rooms users n out ss did → AreOut sight plan_of rooms users m out ss did
  at_count n m out ss did e h = subst (λ (k : ℕ). AreOut sight plan_of rooms users k out ss did) e h

  with_sessions : (n : ℕ) (out : List (Taken L C)) (ss ss' : List SessionView) (did : List (Deed K L C)) → ss ≡ ss' → AreOut sight plan_of rooms users n out ss did → AreOut sight plan_of rooms users n out ss' did
  with_sessions n out ss ss' did e h = subst (λ (xs : List SessionView). AreOut sight plan_of rooms users n out xs did) e h

  pub none_out : AreOut sight plan_of rooms users 0 [] [] []
  none_out = (0, (refl, refl, refl, refl))

  pub goes_none : (out out' : List (Taken L C)) (left : List SessionView) (did : List (Deed K L C)) → did ≡ [] → left ≡ [] → out' ≡ out → Goes sight plan_of rooms users 0 out out' left did
  goes_none out out' left did none nobody same taken sessions before h =
      let here : AreOut sight plan_of rooms users taken out' sessions before = subst (λ (o : List (Taken L C)). AreOut sight plan_of rooms users taken o sessions before) (sym same) h in
      let all : AreOut sight plan_of rooms users taken out' (sessions ++ left) before = with_sessions taken out' sessions (sessions ++ left) before (sym (ap (λ (xs : List SessionView). sessions ++ xs) nobody ∙ append-nil sessions)) here in
      at_count taken (taken + 0) out' (sessions ++ left) (before ++ did) (omega arith)
      (subst (λ (ds : List (Deed K L C)). AreOut sight plan_of rooms users taken out' (sessions ++ left) ds) (sym (ap (λ (ds : List (Deed K L C)). before ++ ds) none ∙ append-nil before)) all)

  pub goes_on : (a b : ℕ) (out mid out' : List (Taken L C)) (l m : List SessionView) (d e : List (Deed K L C)) → Goes sight plan_of rooms users a out mid l d → Goes sight plan_of rooms users b mid out' m e → Goes sight plan_of rooms users (a + b) out out' (l ++ m) (d ++ e)
  goes_on a b out mid out' l m d e g h taken sessions before o =
      with_sessions (taken + (a + b)) out' ((sessions ++ l) ++ m) (sessions ++ (l ++ m)) (before ++ (d ++ e)) (append_assoc sessions l m)
      (subst (λ (ds : List (Deed K L C)). AreOut sight plan_of rooms users (taken + (a + b)) out' ((sessions ++ l) ++ m) ds) (append_assoc before d e)
      (at_count ((taken + a) + b) (taken + (a + b)) out' ((sessions ++ l) ++ m) ((before ++ d) ++ e) (omega arith) (h (taken + a) (sessions ++ l) (before ++ d) (g taken sessions before o))))

  pub goes_take : (out : List (Taken L C)) (next : Taken L C) → length out < MAX_SESSIONS → Goes sight plan_of rooms users 1 out (out ++ next ∷ []) [] (taking next)
  goes_take out next few taken sessions before (steps, h) =
      with_sessions (taken + 1) (out ++ next ∷ []) sessions (sessions ++ []) (before ++ taking next) (sym (append-nil sessions)) (
        suc steps,
        inl (
          taken,
          out,
          before,
          h,
          refl,
          record { next = next; few = few; out_is = refl; did_is = refl },
        ),
      )

  pub goes_return : (earlier : List (Taken L C)) (one : Taken L C) (later : List (Taken L C)) (left : List SessionView) (finished : Finished L) → IsLineServed sight plan_of rooms users one.line one.clock left finished
      → Goes sight plan_of rooms users 0 (earlier ++ one ∷ later) (earlier ++ later) left (GotLine finished ∷ [])
  goes_return earlier one later left finished served taken sessions before (steps, h) =
      at_count taken (taken + 0) (earlier ++ later) (sessions ++ left) (before ++ GotLine finished ∷ []) (omega arith) (
        suc steps,
        inr (
          earlier ++ one ∷ later,
          sessions,
          before,
          h,
          record {
            earlier = earlier;
            one = one;
            later = later;
            left = left;
            finished = finished;
            out_is = refl;
            rest_is = refl;
            served = served;
            sessions_are = refl;
            did_is = refl;
          },
        ),
      )

  -- lines that came back after others were taken
  pub goes_back : (a : ℕ) (out mid out' : List (Taken L C)) (l m : List SessionView) (d e : List (Deed K L C)) → Goes sight plan_of rooms users a out mid l d → Goes sight plan_of rooms users 0 mid out' m e → Goes sight plan_of rooms users a out out' (l ++ m) (d ++ e)
  goes_back a out mid out' l m d e g h taken sessions before o =
      at_count (taken + (a + 0)) (taken + a) out' (sessions ++ (l ++ m)) (before ++ (d ++ e)) (omega arith) (goes_on a 0 out mid out' l m d e g h taken sessions before o)

  -- a line that is back at once
  pub goes_by : (out : List (Taken L C)) (line : L) (clock : C) (left : List SessionView) (finished : Finished L) → length out < MAX_SESSIONS → IsLineServed sight plan_of rooms users line clock left finished
      → Goes sight plan_of rooms users 1 out out left (taking (taken_of line clock) ++ GotLine finished ∷ [])
  goes_by out line clock left finished few served =
      let next : Taken L C = taken_of line clock in
      subst (λ (o : List (Taken L C)). Goes sight plan_of rooms users 1 out o left (taking next ++ GotLine finished ∷ [])) (append-nil out)
      (goes_on 1 0 out (out ++ next ∷ []) (out ++ []) [] left (taking next) (GotLine finished ∷ []) (goes_take out next few) (goes_return out next [] left finished served))

  -- all lines that are out came back
  pub all_served : {T E : Type 0} (count : ℕ) (out mid out' : List (Taken L C)) (l m : List SessionView) (d e : List (Deed K L C)) (r : Result T E) → out ≡ [] → out' ≡ [] → HaveGone sight plan_of rooms users out mid l count d r → Goes sight plan_of rooms users 0 mid out' m e
      → HasServedLines sight plan_of rooms users (l ++ m) count (d ++ e) r
  all_served count out mid out' l m d e r begun ended gone back =
      let all : AreOut sight plan_of rooms users (0 + gone.taken) out' (l ++ m) (d ++ e) = goes_back gone.taken out mid out' l m d e gone.goes back 0 [] [] (subst (λ (o : List (Taken L C)). AreOut sight plan_of rooms users 0 o [] []) (sym begun) none_out) in
      record {
        served = gone.taken;
        lines = at_count (0 + gone.taken) gone.taken [] (l ++ m) (d ++ e) (omega arith) (subst (λ (o : List (Taken L C)). AreOut sight plan_of rooms users (0 + gone.taken) o (l ++ m) (d ++ e)) ended all);
        enough = gone.enough;
      }

  -- no line was taken
  pub none_served : {T E : Type 0} (count : ℕ) (r : Result T E) → AreEnough 0 count r → HasServedLines sight plan_of rooms users [] count [] r
  none_served count r h = record { served = 0; lines = none_out; enough = h }
