use Rattle.std.proofs.Common.{◌-◌, length}
use Rattle.http_parts.specs.Searches.{IsSearched}
use Rattle.http_parts.proofs.heads.HeadSearch.go_on.Given as goal

abbrev pub invariant-line : goal.invariant-line
invariant-line l = IsSearched l.bytes l.at

abbrev pub decreases-line : goal.decreases-line
decreases-line l = length l.bytes - l.at.seen
