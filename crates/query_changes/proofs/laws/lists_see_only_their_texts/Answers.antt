use Rattle.query_changes.proofs.ListTexts.{texts_decide_lists, texts_decide_queries}
use Rattle.query_changes.proofs.laws.lists_see_only_their_texts.Goals as goal

pub returns : goal.returns
returns c =
    let own = c.filters_see_only_their_texts.ensures.emails in
    record { lists = texts_decide_lists own; outcomes = texts_decide_queries own }
