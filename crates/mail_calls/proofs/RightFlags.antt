-- The flags of what is planned, which say which puts change only counts, are right.
use Rattle.std.proofs.Common.{◌≡◌, ℕ, List, refl}
use Rattle.jm_json.specs.Call.{Call as Invocation}
use Rattle.jm_json.specs.declared.invocation.Created.{Created}
use Rattle.mail_records.specs.Histories.{History, blobs_of, content_of}
use Rattle.mail_counts.specs.CountsFlag.{AreCountsFlagsRight}
use Rattle.set_parts.specs.Outcomes.{Outcome}
use Rattle.set_parts.specs.Outcomes as sets
use Rattle.mail_import.specs.Plans.{import_in}
use Rattle.mail_import.proofs.Promising.{promised as imported}
use Rattle.account_book.specs.declared.asks.Call.{Call}
use Rattle.account_book.specs.declared.asks.Carried.{Carried}
use Rattle.mail_copies.specs.Plans.{place_in}
use Rattle.mail_copies.proofs.Promised.{promised as copied}
use Rattle.mail_calls.specs.Plans.{set_plan, ground_in, call_plan}
use Rattle.mail_calls.specs.ValidAfterCalls.{by_ask}
use Rattle.mail_calls.specs.ValidAfterCommits.{IsWholeMail}

-- the flags of an import are right at every timestamp
import_flags : (h : History) (call : Invocation) (made : List Created) (moment : ℕ) (o : Outcome)
    → IsWholeMail h → import_in h call.args made moment ≡ o
    → AreCountsFlagsRight (content_of h) (set_plan call o).edits
import_flags h call made moment (sets.invalid name) whole is = tt
import_flags h call made moment sets.too_large whole is = tt
import_flags h call made moment sets.state_mismatch whole is = tt
import_flags h call made moment (sets.planned p) whole is =
    (imported (ground_in h) (blobs_of h) call.args made moment p is).flags whole.tidy.tables

-- the flags of copies are right at every timestamp
copies_flags : (h : History) (call : Invocation) (carried : Carried) (made : List Created)
    (moment : ℕ) (o : Outcome) → IsWholeMail h → place_in h call.args carried made moment ≡ o
    → AreCountsFlagsRight (content_of h) (set_plan call o).edits
copies_flags h call carried made moment (sets.invalid name) whole is = tt
copies_flags h call carried made moment sets.too_large whole is = tt
copies_flags h call carried made moment sets.state_mismatch whole is = tt
copies_flags h call carried made moment (sets.planned p) whole is =
    (copied (ground_in h) (blobs_of h) call.args carried made moment p is).flags whole.tidy.tables

pub call_flags : (h : History) (call : Call) (moment : ℕ) → IsWholeMail h
    → AreCountsFlagsRight (content_of h) (call_plan h call moment).edits
call_flags h call moment whole =
    by_ask h (λ p. AreCountsFlagsRight (content_of h) p.edits) (λ p keep. keep.flags)
    call.made call.read_only moment
    (λ c. import_flags h c call.made moment (import_in h c.args call.made moment) whole refl)
    (λ c carried. copies_flags h c carried call.made moment
    (place_in h c.args carried call.made moment) whole refl)
    whole call.ask
