-- What holds of a response that was returned.
use Rattle.std.proofs.Common.{◌≡◌, Result, Ok, Err, sym, ◌∙◌, subst}
use Rattle.std.specs.Result.{IfOk}
use Rattle.jmap_http.specs.declared.response.Response.{Response}

-- what holds of a response holds of the returned one, if they are the same
pub ok_as : {E : Type 0} (o : Result Response E) (P : Response → Type 0) (x y : Response) → IfOk o (λ r. r ≡ x) → x ≡ y → P y → IfOk o P
ok_as (Ok r) P x y e f p = subst P (sym (e ∙ f)) p
ok_as (Err e) P x y h f p = tt
