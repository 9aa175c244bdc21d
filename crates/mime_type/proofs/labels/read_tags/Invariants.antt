use Rattle.std.proofs.Common.{◌≡◌, ◌++◌, length}
use Rattle.std.specs.Str.{IsUtf8}
use Rattle.mime_type.specs.Labels.{languages_in}
use Rattle.mime_type.proofs.labels.read_tags.Given as goal

abbrev pub invariant-loop-tag : goal.invariant-loop-tag
invariant-loop-tag l = record {
  utf8 : IsUtf8 l.rest;
  tags : l.tags ++ languages_in l.rest ≡ languages_in l.text;
}

abbrev pub decreases-loop-tag : goal.decreases-loop-tag
decreases-loop-tag l = length l.rest
