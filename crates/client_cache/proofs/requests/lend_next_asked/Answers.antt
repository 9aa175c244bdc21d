use Rattle.std.proofs.Common.{◌∙◌, take, sym, ap, arith}
use Rattle.std.proofs.lemmas.List.{length-take-le, take_all}
use Rattle.client_cache.proofs.requests.lend_next_asked.Goals as goal

pub returns-then-asked-le-MAX_IDS : goal.returns-then-asked-le-MAX_IDS
returns-then-asked-le-MAX_IDS c =
    sym (take_all 500 c.as_slice-asked.result.now (omega (arith, c.if-asked-le-MAX_IDS.true))) ∙ ap (take 500) c.as_slice-asked.ensures

pub slice_bounds-result-end : goal.slice_bounds-result-end
slice_bounds-result-end c = sym (length-take-le 500 c.as_slice-asked.result.now (omega (arith, c.if-asked-le-MAX_IDS.false)))
