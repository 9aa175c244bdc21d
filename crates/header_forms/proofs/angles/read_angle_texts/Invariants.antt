use Rattle.std.proofs.Common.{◌≡◌, ◌++◌, length}
use denote.Shadow.{shadow}
use denote.Text.{Utf8}
use Rattle.header_forms.specs.Angles.{angle_texts}
use Rattle.header_forms.proofs.angles.read_angle_texts.Given as goal

abbrev pub invariant-loop-angle : goal.invariant-loop-angle
invariant-loop-angle l = record {
  text : shadow (Utf8 l.rest);
  same : l.found ++ angle_texts l.rest ≡ angle_texts l.text;
}

abbrev pub decreases-loop-angle : goal.decreases-loop-angle
decreases-loop-angle l = length l.rest
