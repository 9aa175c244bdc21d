use Rattle.std.specs.Prelude.{All}
use Rattle.mail_view.specs.Sizes.{IsSizeOf}
use Rattle.mail_view.proofs.sizes.list_sizes.Given as goal

abbrev pub invariant-loop-part : goal.invariant-loop-part
invariant-loop-part l = All (IsSizeOf l.bytes) l.sizes.items
