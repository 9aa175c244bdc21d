use Rattle.std.proofs.Common.{◌-◌, ap, ◌∙◌}
use Rattle.jmap_commands.proofs.Alone.{was_alone}
use Rattle.jmap_commands.proofs.one_session.let_out.Goals as goal

pub take_one-account-requires-clause-one : goal.take_one-account-requires-clause-one
take_one-account-requires-clause-one g c = λ κs lives. (c.requires.one.room, c.requires.one.rooms_are)

pub take_one-account-requires-clause-none_in : goal.take_one-account-requires-clause-none_in
take_one-account-requires-clause-none_in g c = λ κs lives. c.leave-trail.ensures.inside ∙ ap (λ n. n - 1) c.requires.one.inside

pub returns : goal.returns
returns g c =
    was_alone c.args.hall c.take_one-account.new.hall c.args.front c.leave-trail.new.self.roots c.take_one-account.new.front.roots c.args.passes c.take_one-account.result c.requires.one c.requires.session c.leave-trail.ensures.roots c.leave-trail.ensures.heard
    c.take_one-account.ensures c.is_in_order.ensures
