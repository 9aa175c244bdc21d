-- What contracts see of the code's own types.
use Rattle.body_lists.specs.Lists.{Lists, Open, EnclosingList}
use Rattle.body_lists.specs.declared.walk.BodyLists.{BodyLists}
use Rattle.body_lists.specs.declared.enclosing_list.Open.{Open as OpenLists}
use Rattle.body_lists.specs.declared.enclosing_list.EnclosingList.{EnclosingList as TheEnclosingList}

abbrev pub lists_of : BodyLists → Lists
lists_of l = record { text = l.text; html = l.html; attachments = l.attachments }

abbrev pub open_of : OpenLists → Open
open_of o = record { text = o.text; html = o.html }

abbrev pub enclosing_of : TheEnclosingList → EnclosingList
enclosing_of p = record { alternative = p.alternative; related = p.related; within = p.within }
