-- The arguments of an Email/copy (RFC 8620, 5.4; RFC 8621, 4.7).
use Rattle.std.specs.Prelude.{ℕ, List, [], ◌∷◌, length, Option, unwrap_or, codes}
use Rattle.jm_json.specs.Tree.{Tree}
use Rattle.method_args.specs.Arguments.{Form, find_invalid, text_in}
use Rattle.method_args.specs.declared.form.Presence.TheVariants.{Required, Optional, Nullable}
use Rattle.method_args.specs.declared.form.Shape.TheVariants.{String, Objects, Flag}
use Rattle.set_parts.specs.Arguments.{creates_in}
use Rattle.set_parts.specs.Outcomes.{Outcome, rejected_by, rejected_for}

-- the arguments in byte order, in which they are checked
abbrev pub forms : List Form
forms =
    record { name = codes "accountId"; presence = Required; shape = String }
    ∷ record { name = codes "create"; presence = Required; shape = Objects }
    ∷ record { name = codes "destroyFromIfInState"; presence = Nullable; shape = String }
    ∷ record { name = codes "fromAccountId"; presence = Required; shape = String }
    ∷ record { name = codes "ifFromInState"; presence = Nullable; shape = String }
    ∷ record { name = codes "ifInState"; presence = Nullable; shape = String }
    ∷ record { name = codes "onSuccessDestroyOriginal"; presence = Optional; shape = Flag }
    ∷ []

-- how many copies there are: each is a create of the argument `create`
abbrev pub count_copies : List (List ℕ × Tree) → ℕ
count_copies ms = length (creates_in ms)

-- Why a call of so many copies is rejected as a whole, in an account with this state of the emails:
-- the first argument in byte order that does not have its form, then too many copies, then another
-- state than the argument of this name asks for (RFC 8620, 5.4: ifFromInState and ifInState).
abbrev pub rejected_unless : List ℕ → ℕ → ℕ → List (List ℕ × Tree) → Option Outcome
rejected_unless condition copies state ms =
    rejected_by (find_invalid forms ms) (rejected_for copies state (text_in condition ms))

-- the id of the account from which emails are copied
abbrev pub from_account_in : List (List ℕ × Tree) → List ℕ
from_account_in ms = unwrap_or (text_in (codes "fromAccountId") ms) []
