use Rattle.std.proofs.Common.{◌≡◌, ◌+◌, ◌-◌, ◌∙◌, take, drop, ap, sym, arith}
use Rattle.std.proofs.lemmas.List.{drop-take}
use Rattle.state_log.specs.Positions.{count_upto}
use Rattle.state_log.proofs.Spanned.{count-more}
use Rattle.state_log.proofs.kind_positions.find_between.Goals as goal

pub slice_bounds-result-count : goal.slice_bounds-result-count
slice_bounds-result-count c =
    let more = count-more c.args.positions.now c.args.from c.args.upto c.requires.order in
    omega (arith, more, c.count_upto-first.ensures.value, c.count_upto-last.ensures.value)

pub slice_bounds-result-start : goal.slice_bounds-result-start
slice_bounds-result-start c =
    let more = count-more c.args.positions.now c.args.from c.args.upto c.requires.order in
    omega (arith, more, c.count_upto-first.ensures.value, c.count_upto-last.ensures.value)

pub returns : goal.returns
returns c =
    let xs = c.args.list.now in
    let first = c.count_upto-first.result in
    let last = c.count_upto-last.result in
    let more = count-more c.args.positions.now c.args.from c.args.upto c.requires.order in
    let size : first + (last - first) ≡ last = omega (arith, more, c.count_upto-first.ensures.value, c.count_upto-last.ensures.value) in
    sym (drop-take first (last - first) xs)
    ∙ (ap (λ n. drop first (take n xs)) size
    ∙ (ap (λ n. drop n (take last xs)) c.count_upto-first.ensures.value ∙ ap (λ n. drop (count_upto c.args.positions.now c.args.from) (take n xs)) c.count_upto-last.ensures.value))
