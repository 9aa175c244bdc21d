-- What contracts see of the types of this crate.
use Rattle.std.specs.Prelude.{option_map}
use Rattle.email_creates.specs.Views.{blob_of}
use Rattle.mail_import.specs.Properties.{Import}
use Rattle.mail_import.specs.declared.properties.Import.{Import as TheImport}

-- what an import sends, as the code holds it
abbrev pub import_of : TheImport → Import
import_of a = record { blob = option_map blob_of a.blob; sent = a.sent }
