use Rattle.query_changes.proofs.OwnTexts.{texts_decide, texts_decide_answers, texts_decide_outcomes}
use Rattle.query_changes.proofs.laws.changes_see_only_their_texts.Goals as goal

pub returns : goal.returns
returns c =
    let listed = c.lists_see_only_their_texts.ensures.lists in
    record { deltas = texts_decide listed; answers = texts_decide_answers listed; outcomes = texts_decide_outcomes listed }
