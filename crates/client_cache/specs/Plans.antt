-- For private clauses: what a step makes of a round, where it was found before the round changes.
use Rattle.jm_base.specs.declared.identifiers.Kind.{Kind}
use Rattle.jm_json.specs.Order.{put_all}
use Rattle.client_cache.specs.Records.{records_but}
use Rattle.client_cache.specs.Rounds.{Round}
use Rattle.client_cache.specs.declared.changes.PagePlan.{PagePlan}
use Rattle.client_cache.specs.declared.gets.GetPlan.{GetPlan}

abbrev pub with_page_plan : Kind → PagePlan → Round → Round
with_page_plan kind plan r = record r {
  asked = plan.asked;
  got = records_but kind plan.named.items r.got;
  dropped = plan.dropped;
}

abbrev pub with_get_plan : GetPlan → Round → Round
with_get_plan plan r = record r {
  asked = plan.asked;
  got = put_all plan.objects r.got;
  dropped = plan.dropped;
}
