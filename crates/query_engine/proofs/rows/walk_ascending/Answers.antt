use Rattle.std.proofs.Common.{◌≡◌, ◌+◌, ℕ, List, [], ◌∷◌, ◌++◌, map, drop, if◌then◌else◌, sym, ap, subst, ◌∙◌}
use Rattle.std.proofs.lemmas.List.{drop_more}
use Rattle.query_engine.specs.Walks.{Follows, goes_on, is_match, matching}
use Rattle.query_engine.proofs.Walking.{rising_on}
use Rattle.query_engine.proofs.rows.walk_ascending.Goals as goal

pub loop-entry-preserved : goal.loop-entry-preserved
loop-entry-preserved g c =
    let q = c.args.query.now in
    let cc = c.args.content.now.content in
    let texts = g.T.Texts2.texts c.args.texts.now in
    let f = g.E.Candidate.timed in
    let es = c.args.entries.now in
    let i = c.loop-entry.entry-index in
    let x = c.entry-item.result in
    rising_on q cc texts c.args.page.now c.loop-entry.page c.visit.new.page (matching q cc texts (map f es)) (f x) (map f (drop (i + 1) es))
    (subst (λ zs. (rest : List ℕ) → goes_on cc c.loop-entry.page (matching q cc texts (map f zs) ++ rest) ≡ goes_on cc c.args.page.now (matching q cc texts (map f es) ++ rest))
    (drop_more es i x c.loop-entry-test.true ∙ ap (λ z. z ∷ drop (i + 1) es) (sym c.entry-item.is)) c.loop-entry.invariant)
    (subst (λ (n : ℕ). Follows cc c.loop-entry.page c.visit.new.page (if is_match q cc texts n then n ∷ [] else [])) c.number.ensures c.in_ok-visit.ensures)
