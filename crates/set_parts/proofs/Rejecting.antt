-- The outcome of a call, from whether it is rejected.
use Rattle.std.proofs.Common.{◌≡◌, ◌≢◌, ℕ, ◌≤◌, Bool, true, false, List, [], ◌∷◌, ◌++◌, Option, Some, None, cond, nat_lt, refl, sym, ap, ◌∙◌, subst, arith, ltb-false}
use Rattle.std.specs.Option.{option_or}
use Rattle.std.proofs.lemmas.Option.{none-some}
use Rattle.jm_json.specs.Tree.{Tree}
use Rattle.jm_json.specs.Find.{as_object, find}
use Rattle.method_args.specs.Arguments.{Form, find_invalid, has_form}
use Rattle.method_args.specs.declared.TheConstants.{MAX_OBJECTS_PER_CALL}
use Rattle.mail_counts.specs.declared.plan.SetFault.{SetFault}
use Rattle.mail_counts.specs.declared.plan.SetFault.TheVariants.{Invalid, TooLarge, StateMismatch, NoMemory}
use Rattle.set_parts.specs.Outcomes.{ExplainsRejection, ExplainsSet, Outcome, Plan, invalid, is_other_state, outcome_by, outcome_of_members, planned, planned_unless, rejected, rejected_by, rejected_for, state_mismatch, too_large}
use Rattle.set_parts.specs.Arguments.{if_in_state}

-- a call that is not rejected is planned
pub planned_if : (r : Option Outcome) (p : Plan) → r ≡ None → planned_unless r p ≡ planned p
planned_if r p none = ap (λ o. planned_unless o p) none

-- a fault that explains a rejection explains the outcome
pub explained : (e : SetFault) (r : Option Outcome) (p : Plan) → ExplainsRejection e r → ExplainsSet e (planned_unless r p)
explained (Invalid name) r p is = ap (λ o. planned_unless o p) is
explained TooLarge r p is = ap (λ o. planned_unless o p) is
explained StateMismatch r p is = ap (λ o. planned_unless o p) is
explained NoMemory r p is = tt

-- ---- a call that is not rejected has few objects

few_by : (objects : ℕ) (b : Bool) (o : Option Outcome) → nat_lt MAX_OBJECTS_PER_CALL objects ≡ b → cond b (Some too_large) o ≡ None → objects ≤ MAX_OBJECTS_PER_CALL
few_by objects true o is e = absurd (none-some too_large (sym e))
few_by objects false o is e = let few = ltb-false MAX_OBJECTS_PER_CALL objects is in omega (arith, few)

few_at : (name : Option (List ℕ)) (objects state : ℕ) (wanted : Option (List ℕ)) → rejected_by name (rejected_for objects state wanted) ≡ None → objects ≤ MAX_OBJECTS_PER_CALL
few_at None objects state wanted e =
    few_by objects (nat_lt MAX_OBJECTS_PER_CALL objects) (cond (is_other_state state wanted) (Some state_mismatch) None) refl e
few_at (Some name) objects state wanted e = absurd (none-some _ (sym e))

pub few_objects : (forms : List Form) (objects state : ℕ) (ms : List (List ℕ × Tree)) → rejected forms objects state ms ≡ None → objects ≤ MAX_OBJECTS_PER_CALL
few_objects forms objects state ms e = few_at (find_invalid forms ms) objects state (if_in_state ms) e

-- ---- what holds of each plan

planned_same : (p q : Plan) → planned p ≡ planned q → p ≡ q
planned_same p q e = cc

not_invalid : (name : List ℕ) (p : Plan) → invalid name ≢ planned p
not_invalid name p e = cc

not_large : (p : Plan) → too_large ≢ planned p
not_large p e = cc

not_mismatch : (p : Plan) → state_mismatch ≢ planned p
not_mismatch p e = cc

plan_for : (P : Plan → Type 0) (many other : Bool) (p q : Plan) → P p → planned_unless (cond many (Some too_large) (cond other (Some state_mismatch) None)) p ≡ planned q → P q
plan_for P true other p q h e = absurd (not_large q e)
plan_for P false true p q h e = absurd (not_mismatch q e)
plan_for P false false p q h e = subst P (planned_same p q e) h

plan_by : (P : Plan → Type 0) (name : Option (List ℕ)) (many other : Bool) (p q : Plan) → P p
    → planned_unless (rejected_by name (cond many (Some too_large) (cond other (Some state_mismatch) None))) p ≡ planned q → P q
plan_by P None many other p q h e = plan_for P many other p q h e
plan_by P (Some name) many other p q h e = absurd (not_invalid name q e)

plan_at : (P : Plan → Type 0) (forms : List Form) (count : List (List ℕ × Tree) → ℕ) (state : ℕ) (plan : List (List ℕ × Tree) → Plan) → ((ms : List (List ℕ × Tree)) → P (plan ms))
    → (o : Option (List (List ℕ × Tree))) (q : Plan) → outcome_of_members forms count state plan o ≡ planned q → P q
plan_at P forms count state plan all None q e = absurd (not_invalid [] q e)
plan_at P forms count state plan all (Some ms) q e =
    plan_by P (find_invalid forms ms) (nat_lt MAX_OBJECTS_PER_CALL (count ms)) (is_other_state state (if_in_state ms)) (plan ms) q (all ms) e

-- what holds of the plan of all arguments holds of the plan of a call
pub plan_of_planned : (P : Plan → Type 0) (forms : List Form) (count : List (List ℕ × Tree) → ℕ) (state : ℕ) (plan : List (List ℕ × Tree) → Plan) → ((ms : List (List ℕ × Tree)) → P (plan ms))
    → (args : Tree) (q : Plan) → outcome_by forms count state plan args ≡ planned q → P q
plan_of_planned P forms count state plan all args q e = plan_at P forms count state plan all (as_object args) q e

-- ---- the first argument that does not have its form, of two lists

or_else : (b : Bool) (o p : Option (List ℕ)) (name : List ℕ) → cond b (option_or o p) (Some name) ≡ option_or (cond b o (Some name)) p
or_else true o p name = refl
or_else false o p name = refl

invalid-append : (fs gs : List Form) (ms : List (List ℕ × Tree)) → find_invalid (fs ++ gs) ms ≡ option_or (find_invalid fs ms) (find_invalid gs ms)
invalid-append [] gs ms = refl
invalid-append (f ∷ fs) gs ms =
    let test = has_form f.presence f.shape (find f.name ms) in
    ap (λ o. cond test o (Some f.name)) (invalid-append fs gs ms) ∙ or_else test (find_invalid fs ms) (find_invalid gs ms) f.name

pub invalid_first : (fs gs : List Form) (ms : List (List ℕ × Tree)) (o : Option (List ℕ)) (name : List ℕ) → o ≡ Some name → o ≡ find_invalid fs ms → Some name ≡ find_invalid (fs ++ gs) ms
invalid_first fs gs ms o name some is = ap (λ p. option_or p (find_invalid gs ms)) (sym some ∙ is) ∙ sym (invalid-append fs gs ms)

pub invalid_later : (fs gs : List Form) (ms : List (List ℕ × Tree)) (o : Option (List ℕ)) → o ≡ None → o ≡ find_invalid fs ms → find_invalid gs ms ≡ find_invalid (fs ++ gs) ms
invalid_later fs gs ms o none is = ap (λ p. option_or p (find_invalid gs ms)) (sym none ∙ is) ∙ sym (invalid-append fs gs ms)
