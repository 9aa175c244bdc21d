use Rattle.std.proofs.Common.{refl, inl, [], Err}
use Rattle.jm_edge.proofs.Known.{appends_none}
use Rattle.jmap_client.proofs.Told.{told_none}
use Rattle.jmap_client.specs.declared.fault.ClientFault.TheVariants as fault
use Rattle.jmap_commands.proofs.syncing.sync_words.Goals as goal

pub returns-in_default : goal.returns-in_default
returns-in_default g c = record {
  result = Err fault.NoMemory;
  synced = record {
    did = [];
    ended = Err fault.NoMemory;
    told_is = told_none (g.C.ClientWorld.told c.args.world.now) (g.C.ClientWorld.told c.args.world.now) refl;
    brought = inl (refl, tt);
    printed = (refl, appends_none (g.O.Sink.held c.args.out.now));
  };
  caused = tt;
  ending = inl refl;
}

pub returns-in_default-from_str : goal.returns-in_default-from_str
returns-in_default-from_str g c = record {
  result = Err fault.NoMemory;
  synced = record {
    did = [];
    ended = Err fault.NoMemory;
    told_is = told_none (g.C.ClientWorld.told c.args.world.now) (g.C.ClientWorld.told c.args.world.now) refl;
    brought = inl (refl, tt);
    printed = (refl, appends_none (g.O.Sink.held c.args.out.now));
  };
  caused = tt;
  ending = inl refl;
}

pub returns-in_default-from_str-2 : goal.returns-in_default-from_str-2
returns-in_default-from_str-2 g c = record {
  result = Err fault.NoMemory;
  synced = record {
    did = [];
    ended = Err fault.NoMemory;
    told_is = told_none (g.C.ClientWorld.told c.args.world.now) (g.C.ClientWorld.told c.args.world.now) refl;
    brought = inl (refl, tt);
    printed = (refl, appends_none (g.O.Sink.held c.args.out.now));
  };
  caused = tt;
  ending = inl refl;
}
