use Rattle.std.proofs.Common.{◌+◌, ◌≤◌, length, refl, sym, subst, arith, add-one}
use Rattle.text_column.proofs.Ends.{as_many}
use Rattle.text_column.proofs.Marked.{AreSetTo, set_none, set_past, set_here, set_all, starts_within, is_more, is_next, is_none}
use Rattle.text_column.proofs.search.mark_texts.Goals as goal
use Rattle.text_column.proofs.search.mark_texts.Goals.{then-place-needle, else-place-needle}

pub loop-ahead-init : goal.loop-ahead-init
loop-ahead-init c = record {
  done = set_none c.args.needle.now c.args.bytes.now c.args.ends.now c.args.marks.now;
  from = refl;
  within = omega arith;
}

pub split_at-requires : goal.split_at-requires
split_at-requires c =
    subst (λ n. n ≤ length c.args.bytes.now) (sym c.loop-ahead.invariant.from)
    (starts_within c.args.ends.now c.args.marks.now (length c.args.bytes.now) c.requires.ends c.loop-ahead.next c.loop-ahead.invariant.within)

pub find_text_around-index-requires-clause-within : goal.find_text_around-index-requires-clause-within
find_text_around-index-requires-clause-within c =
    (is_more c.args.needle.now c.new-finder.result c.args.bytes.now c.split_at.result.1.now c.args.ends.now c.args.marks.now c.loop-ahead.next
    c.loop-ahead.from c.in-Some.ahead c.requires.ends c.requires.some c.new-finder.ensures c.split_at.ensures.back c.loop-ahead.invariant.from
    c.loop-ahead.invariant.within c.in-Some.ensures.1).0

pub find_text_around-index-requires-clause-last : goal.find_text_around-index-requires-clause-last
find_text_around-index-requires-clause-last c =
    (is_more c.args.needle.now c.new-finder.result c.args.bytes.now c.split_at.result.1.now c.args.ends.now c.args.marks.now c.loop-ahead.next
    c.loop-ahead.from c.in-Some.ahead c.requires.ends c.requires.some c.new-finder.ensures c.split_at.ensures.back c.loop-ahead.invariant.from
    c.loop-ahead.invariant.within c.in-Some.ensures.1).1

pub bounds-marks-index : goal.bounds-marks-index
bounds-marks-index c =
    omega (arith, c.loop-ahead.invariant.done.count, as_many 0 c.args.ends.now c.args.marks.now (length c.args.bytes.now) c.requires.ends, c.find_text_around-index.ensures.within)

pub loop-ahead-preserved : goal.loop-ahead-preserved
loop-ahead-preserved c =
    let bytes = c.args.bytes.now in
    let ends = c.args.ends.now in
    let needle = c.args.needle.now in
    let blank = c.args.marks.now in
    let r = c.find_text_around-index.result in
    let found = c.find_text_around-index.ensures in
    let next = is_next needle c.new-finder.result bytes c.split_at.result.1.now ends blank c.loop-ahead.next c.loop-ahead.from c.in-Some.ahead r
    c.requires.ends c.new-finder.ensures c.split_at.ensures.back c.loop-ahead.invariant.from c.loop-ahead.invariant.within
    c.in-Some.ensures.1 c.in-Some.ensures.0.before found.from found.within found.before found.after in
    record {
      done = elim c.if-place-needle.branch [
        | then-place-needle w ↦ subst (λ ms. AreSetTo needle bytes ends blank ms (r + 1)) (sym w.marks-is)
            (set_here needle bytes ends blank c.loop-ahead.marks c.loop-ahead.next (c.loop-ahead.from + c.in-Some.ahead) r c.requires.ends c.requires.some
            c.loop-ahead.invariant.done next w.if-place-needle.true)
        | else-place-needle w ↦ subst (λ ms. AreSetTo needle bytes ends blank ms (r + 1)) (sym w.marks-is)
            (set_past needle bytes ends blank c.loop-ahead.marks c.loop-ahead.next (c.loop-ahead.from + c.in-Some.ahead) r c.requires.ends c.requires.some
            c.loop-ahead.invariant.done next w.if-place-needle.false)
      ];
      from = rw add-one refl;
      within = omega (arith, found.within);
    }

pub returns : goal.returns
returns c =
    set_all c.args.needle.now c.args.bytes.now c.args.ends.now c.args.marks.now c.loop-ahead.marks c.loop-ahead.next c.requires.ends c.requires.some
    c.loop-ahead.invariant.done
    (is_none c.args.needle.now c.new-finder.result c.args.bytes.now c.split_at.result.1.now c.args.ends.now c.args.marks.now c.loop-ahead.next c.loop-ahead.from
    c.requires.ends c.new-finder.ensures c.split_at.ensures.back c.loop-ahead.invariant.from c.loop-ahead.invariant.within c.in_default.ensures)
