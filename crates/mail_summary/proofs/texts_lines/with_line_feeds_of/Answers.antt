use Rattle.std.proofs.Common.{sym, subst}
use Rattle.std.specs.Str.{IsUtf8}
use Rattle.std.proofs.lemmas.Bool.{false≢true}
use Rattle.mail_summary.proofs.LineEnds.{utf8_stays}
use Rattle.mail_summary.proofs.texts_lines.with_line_feeds_of.Goals as goal

pub unreachable-requires : goal.unreachable-requires
unreachable-requires c =
    false≢true (c.in-Err.ensures.succeeds (subst IsUtf8 (sym c.in_ok-replace_line_ends.ensures) (utf8_stays c.as_bytes.result.now c.as_bytes.ensures.utf8)))
