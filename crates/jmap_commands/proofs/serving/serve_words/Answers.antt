use Rattle.std.proofs.Common.{refl, inl, [], Err}
use Rattle.jmap_server.proofs.Told.{told_none}
use Rattle.jmap_server.specs.declared.fault.ServeFault.TheVariants as fault
use Rattle.jmap_commands.proofs.serving.serve_words.Goals as goal

pub returns-in_default-clause-served : goal.returns-in_default-clause-served
returns-in_default-clause-served g c = record {
  did = [];
  result = Err fault.NoMemory;
  told_is = told_none (g.W.World.told c.args.world.now) (g.W.World.told c.args.world.now) refl;
  ran = inl (refl, tt);
  caused = tt;
  ending = inl refl;
}

pub returns-in_default-from_str-clause-served : goal.returns-in_default-from_str-clause-served
returns-in_default-from_str-clause-served g c = record {
  did = [];
  result = Err fault.NoMemory;
  told_is = told_none (g.W.World.told c.args.world.now) (g.W.World.told c.args.world.now) refl;
  ran = inl (refl, tt);
  caused = tt;
  ending = inl refl;
}
