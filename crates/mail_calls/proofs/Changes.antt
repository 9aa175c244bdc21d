-- What the log of an account answers is what its history says.
use Rattle.std.proofs.Common.{◌≡◌, Ok, Err, Result, IfOk, IfErr}
use Rattle.mail_records.specs.Edits.{AllFit}
use Rattle.mail_records.specs.Histories.{History, edits_of}
use Rattle.state_log.specs.Logs.{IsLogOf, Notes}
use Rattle.change_calls.specs.Changes.{IsKeptBy}

pub kept : (h : History) (l : Notes) → IsLogOf h l → AllFit h.base (edits_of h) → IsKeptBy l h
kept h l log fits = record { log = log; fits = fits }

-- what is said for every history holds for one
pub ok_at : {T E : Type 0} (r : Result T E) (l : Notes) (P : T → History → Type 0) (h : History) → IsKeptBy l h → IfOk r (λ x. (g : History) → IsKeptBy l g → P x g) → IfOk r (λ x. P x h)
ok_at (Ok x) l P h is all = all h is
ok_at (Err e) l P h is all = tt

pub err_at : {T E : Type 0} (r : Result T E) (l : Notes) (P : E → History → Type 0) (h : History) → IsKeptBy l h → IfErr r (λ x. (g : History) → IsKeptBy l g → P x g) → IfErr r (λ x. P x h)
err_at (Ok x) l P h is all = tt
err_at (Err e) l P h is all = all h is
