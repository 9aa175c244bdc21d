-- The cause of each fault of reading: what the bytes are read as, or an allocation failure.
use Rattle.std.specs.Prelude.{◌≡◌, ⊤}
use Rattle.jm_json.specs.Reading as reading
use Rattle.jm_json.specs.declared.reader.ReadFault.{ReadFault}
use Rattle.jm_json.specs.declared.reader.ReadFault.TheVariants.{NotJson, NotWhole, NoMemory}

-- the fault is that of the bytes, or an allocation failed
abbrev pub IsCauseOf : ReadFault → reading.Reading → Type 0
IsCauseOf NotJson r = r ≡ reading.not_json
IsCauseOf (NotWhole path) r = r ≡ reading.not_whole path
IsCauseOf NoMemory r = ⊤
