use Rattle.std.proofs.Common.{subst, sym, ℕ, take, ap, ◌∙◌}
use Rattle.http_parts.specs.ChunkParts.{AreHexDigits}
use Rattle.http_parts.proofs.ChunkLines.{hex_front}
use Rattle.http_parts.proofs.chunk_lines.read_size.Goals as goal

pub read_digits-requires-clause-digits : goal.read_digits-requires-clause-digits
read_digits-requires-clause-digits c =
    subst AreHexDigits (sym (c.split_at.ensures.front ∙ ap (λ (n : ℕ). take n c.args.text.now) c.count_digits-count.ensures.value)) (hex_front c.args.text.now)
