use Rattle.mime_type.proofs.content.read_shown.Goals as goal

pub into_text-requires : goal.into_text-requires
into_text-requires c = (c.requires c.in-Some.kind c.in-Some.is).kind
