use Rattle.client_follow.proofs.Between.{changes_arrive, gets_lead_on, pages_lead_on, starts_at_its_state}
use Rattle.client_follow.proofs.laws.changes_bring_records_up_to_date.Goals as goal

pub returns-clause-starts : goal.returns-clause-starts
returns-clause-starts c = starts_at_its_state

pub returns-clause-pages : goal.returns-clause-pages
returns-clause-pages c = pages_lead_on

pub returns-clause-gets : goal.returns-clause-gets
returns-clause-gets c = gets_lead_on

pub returns-clause-arrives : goal.returns-clause-arrives
returns-clause-arrives c = changes_arrive
