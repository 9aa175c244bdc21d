use Rattle.std.proofs.Common.{◌≡◌, ◌<◌, length, get_or, None, Some, ap, sym, ◌∙◌, arith, vec_len, rules}
use Rattle.std.specs.List.{slice_range}
use Rattle.std.proofs.lemmas.List.{get_or_default}
use Rattle.text_column.specs.Columns.{start_at}
use Rattle.text_column.proofs.Ends.{as_many, within, no_text, read_mark, open_text, kept_text}
use Rattle.text_column.proofs.column.TextColumn.get.Goals as goal

pub returns-then-index-len : goal.returns-then-index-len
returns-then-index-len c =
    let s = c.self.inside in
    let count : vec_len s.ends ≡ length s.ends.items = search rules in
    ap (λ ts. get_or ts c.args.index None) (sym c.self.view_is)
    ∙ no_text s.bytes.items s.ends.items s.blank.items (length s.bytes.items) c.self.invariant c.args.index (omega (arith, count, c.len.ensures, c.if-index-len.true))

pub index-requires : goal.index-requires
index-requires c =
    let s = c.self.inside in
    let count : vec_len s.ends ≡ length s.ends.items = search rules in
    let marks : vec_len s.blank ≡ length s.blank.items = search rules in
    omega (arith, count, marks, c.len.ensures, c.if-index-len.false, as_many 0 s.ends.items s.blank.items (length s.bytes.items) c.self.invariant)

pub returns-in-Open : goal.returns-in-Open
returns-in-Open c =
    let s = c.self.inside in
    let count : vec_len s.ends ≡ length s.ends.items = search rules in
    let low : c.args.index < length s.ends.items = omega (arith, count, c.len.ensures, c.if-index-len.false) in
    let marked : c.args.index < length s.blank.items = omega (arith, low, as_many 0 s.ends.items s.blank.items (length s.bytes.items) c.self.invariant) in
    ap (λ ts. get_or ts c.args.index None) (sym c.self.view_is)
    ∙ open_text s.bytes.items s.ends.items s.blank.items (length s.bytes.items) c.self.invariant c.args.index low
    (read_mark s.blank.items c.args.index c.index.result.now marked c.index.ensures ∙ c.in-Open.is)

pub cut_text-requires : goal.cut_text-requires
cut_text-requires c =
    let s = c.self.inside in
    let k = c.args.index in
    let count : vec_len s.ends ≡ length s.ends.items = search rules in
    let low : k < length s.ends.items = omega (arith, count, c.len.ensures, c.if-index-len.false) in
    let is = within 0 s.ends.items s.blank.items (length s.bytes.items) c.self.invariant k low in
    let start = c.find_start-start.ensures ∙ ap (λ es. start_at 0 es k) c.as_slice.ensures.value in
    let end = c.index-in_default.ensures ∙ get_or_default s.ends.items k c.index-in_default.result.now 0 low in
    let size = ap length c.as_slice-in_default.ensures.value in
    record {
      rises = omega (arith, start, end, is.rises);
      within = omega (arith, end, size, is.high);
    }

pub returns-in_default : goal.returns-in_default
returns-in_default c =
    let s = c.self.inside in
    let k = c.args.index in
    let count : vec_len s.ends ≡ length s.ends.items = search rules in
    let low : k < length s.ends.items = omega (arith, count, c.len.ensures, c.if-index-len.false) in
    let marked : k < length s.blank.items = omega (arith, low, as_many 0 s.ends.items s.blank.items (length s.bytes.items) c.self.invariant) in
    let mark = read_mark s.blank.items k c.index.result.now marked c.index.ensures in
    let start = c.find_start-start.ensures ∙ ap (λ es. start_at 0 es k) c.as_slice.ensures.value in
    let end = c.index-in_default.ensures ∙ get_or_default s.ends.items k c.index-in_default.result.now 0 low in
    ap (λ ts. get_or ts k None) (sym c.self.view_is)
    ∙ kept_text s.bytes.items s.ends.items s.blank.items (length s.bytes.items) c.self.invariant k low (λ e. c.in_default.not-Open (sym mark ∙ e))
    ∙ ap Some (sym (c.cut_text.ensures ∙ ap (λ bs. slice_range bs c.find_start-start.result c.index-in_default.result.now) c.as_slice-in_default.ensures.value
    ∙ ap (λ n. slice_range s.bytes.items n c.index-in_default.result.now) start ∙ ap (slice_range s.bytes.items (start_at 0 s.ends.items k)) end))
