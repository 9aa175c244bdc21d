use Rattle.std.proofs.Common.{◌≡◌, ◌+◌, ◌∙◌, ◌++◌, ◌∷◌, [], ℕ, map, take, get_or, sym, ap, ap₂}
use Rattle.std.proofs.lemmas.List.{map-append, take_more}
use Rattle.state_log.specs.Logs.{ids_in}
use Rattle.state_log.specs.Positions.{number_at}
use Rattle.state_log.proofs.Placed.{number_is}
use Rattle.state_log.proofs.touched.collect_numbers_at.Goals as goal

pub loop-position-preserved : goal.loop-position-preserved
loop-position-preserved c =
    let ps = c.args.positions.now in
    let i = c.loop-position.position-index in
    let look : ℕ → ℕ = number_at c.args.floor (ids_in c.args.notes.now) in
    let inside = c.requires i 0 c.loop-position-test.true in
    let more : take (i + 1) ps ≡ take i ps ++ get_or ps i 0 ∷ [] = take_more ps i 0 c.loop-position-test.true in
    c.in_ok-push.ensures.items
    ∙ (ap₂ (λ ns n. ns ++ n ∷ []) c.loop-position.invariant (number_is c.args.floor c.args.notes.now (get_or ps i 0) _ inside.0 inside.1)
    ∙ sym (ap (map look) more ∙ map-append look (take i ps) (get_or ps i 0 ∷ [])))
