use Rattle.mailbox_updates.proofs.setting.collect_all_created.Goals as goal

pub returns : goal.returns
returns c = c.in_ok-add_created.ensures c.args.made.now c.in_ok-records.ensures
