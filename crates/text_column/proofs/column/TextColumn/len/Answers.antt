use Rattle.std.proofs.Common.{◌≡◌, length, ap, sym, ◌∙◌, vec_len, rules}
use Rattle.text_column.proofs.Ends.{text_count}
use Rattle.text_column.proofs.column.TextColumn.len.Goals as goal

pub returns : goal.returns
returns c =
    let s = c.self.inside in
    let count : vec_len s.ends ≡ length s.ends.items = search rules in
    c.len.ensures ∙ count ∙ sym (text_count s.bytes.items 0 s.ends.items s.blank.items (length s.bytes.items) c.self.invariant) ∙ ap length c.self.view_is
