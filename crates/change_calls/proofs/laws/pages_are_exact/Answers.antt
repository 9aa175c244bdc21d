use Rattle.std.proofs.Common.{refl}
use Rattle.jm_base.specs.Ids.{state_text}
use Rattle.change_calls.proofs.Exact.{IsPage-page_end, page_end-all, reached_state-parts, reached_state-read}
use Rattle.change_calls.proofs.Named.{AreTouched-touched}
use Rattle.change_calls.proofs.laws.pages_are_exact.Goals as goal

pub returns : goal.returns
returns c = record {
  touched = AreTouched-touched;
  ends = IsPage-page_end;
  all = page_end-all;
  read = λ h kind s reaches lt. reached_state-read h kind (state_text s) s reaches lt refl;
  named = reached_state-parts;
}
