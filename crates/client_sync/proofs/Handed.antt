-- A fault that is handed on.
use Rattle.std.proofs.Common.{◌≡◌, Result, IfErr}
use Rattle.std.specs.Result.{IsErrAnd}
use Rattle.std.proofs.lemmas.Result.{err_from_is_err_and}
use Rattle.client_sync.specs.declared.fault.SyncFault.{SyncFault}

-- what is said of the fault is said of the result
pub handed : {T : Type 0} (P : SyncFault → Type 0) (r : Result T SyncFault) (fault : SyncFault) → IsErrAnd r (λ e. e ≡ fault) → P fault → IfErr r P
handed P r fault err is = let p = err_from_is_err_and r err in rw (p.1, p.2) is
