use Rattle.std.proofs.Common.{◌∙◌, sym, ap, ◌+◌, ◌*◌, ◌/◌, ◌%◌}
use Rattle.mime_codec.specs.Base64.{letters}
use Rattle.mime_codec.proofs.Sizes.{length-packed}
use Rattle.mime_codec.proofs.size.compute_base64_size.Goals as goal

pub returns-clause-value : goal.returns-clause-value
returns-clause-value c = ap (λ n. n / 4 * 3 + n % 4 * 3 / 4) c.count_letters-count.ensures.value ∙ sym (length-packed (letters c.args.bytes.now))
