use Rattle.std.proofs.Common.{◌≡◌, map, drop}
use Rattle.method_args.specs.Arguments.{find_invalid, form_of}
use Rattle.method_args.proofs.form.find_invalid.Given as goal

abbrev pub invariant-loop-argument : goal.invariant-loop-argument
invariant-loop-argument l = find_invalid (map form_of l.arguments) l.members ≡ find_invalid (map form_of (drop l.argument-index l.arguments)) l.members
