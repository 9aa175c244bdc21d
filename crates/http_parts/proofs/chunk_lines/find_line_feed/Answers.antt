use Rattle.http_parts.proofs.ChunkLines.{feed_found}
use Rattle.http_parts.proofs.chunk_lines.find_line_feed.Goals as goal

pub returns : goal.returns
returns c = feed_found c.args.bytes.now c.memchr.result c.memchr.ensures
