use Rattle.std.proofs.Common.{ap, inl, map, refl, subst, sym, [], ◌∙◌, List}
use Rattle.mail_records.specs.Histories.{History}
use Rattle.account_hall.specs.Halls.{FrontView}
use Rattle.jmap_server.specs.Lines.{sight_of}
use Rattle.account_hall.specs.Closing.{opened_by}
use Rattle.jmap_server.specs.Workers.{IsHandedOver}
use Rattle.account_hall.proofs.Closing.{front_given, front_still}
use Rattle.jmap_server.proofs.Openings.{given_openings, split_openings}
use Rattle.jmap_server.proofs.lines.serve_line.Goals as goal

pub hand_over-requires-clause-openings : goal.hand_over-requires-clause-openings
hand_over-requires-clause-openings g c κs within =
    ap (map opened_by) c.in-Ok.ensures.passes.0 ∙ split_openings c.args.front.now.roots ∙ sym (ap (λ (f : FrontView). map opened_by f.roots) c.in-Ok.ensures.roots ∙ given_openings c.args.front.now.roots)

pub returns-in-Ok-clause-handed : goal.returns-in-Ok-clause-handed
returns-in-Ok-clause-handed g c =
    let handed = c.hand_over.ensures.handed in
    let admitted = ap (λ (f : FrontView). f.roots) c.in-Ok.ensures.roots in (
      handed.0,
      subst (λ (hs : List History). IsHandedOver (sight_of g.L.Link.left g.L.Link.held g.L.Link.read_faults g.L.Link.put_faults g.C.Clock.times g.K.Keeper.kept g.K.Keeper.append_faults) g.R.Rules.plan_of c.args.hall.now c.args.users.now hs c.args.line c.args.clock c.args.workers.now.items c.hand_over.new.workers.items handed.0 c.hand_over.result)
          (ap (map opened_by) admitted ∙ given_openings c.args.front.now.roots) handed.1,
      front_given c.args.front.now.roots c.admit.new.self.roots c.hand_over.new.front.roots handed.0 admitted handed.2,
    )

pub returns-in-Err-clause-handed : goal.returns-in-Err-clause-handed
returns-in-Err-clause-handed g c = (
  [],
  (inl (c.leave_unread.ensures, refl), refl),
  front_still c.args.front.now.roots c.admit.new.self.roots (ap (λ (f : FrontView). f.roots) c.in-Err.ensures.same),
)

pub returns-in-Ok-clause-openings : goal.returns-in-Ok-clause-openings
returns-in-Ok-clause-openings g c =
    c.hand_over.ensures.openings ∙ (ap (λ (f : FrontView). map opened_by f.roots) c.in-Ok.ensures.roots ∙ given_openings c.args.front.now.roots)
