use Rattle.std.proofs.Common.{◌≡◌, [], map, take}
use Rattle.std.specs.Prelude.{filter_map}
use Rattle.jm_json.specs.Tree.{text}
use Rattle.mail_view.specs.Objects.{put_all}
use Rattle.mail_view.specs.Parses.{parsed_member, parsed_view}
use Rattle.mail_view.specs.Records.{naming_none}
use Rattle.get_calls.proofs.parses.parse_each.Given as goal

abbrev pub invariant-loop-id : goal.invariant-loop-id
invariant-loop-id l =
    record {
      views : l.parsed.views ≡ put_all (filter_map (parsed_member l.blobs.blobs l.wanted) (map (λ t. t.now) (take l.id-index l.ids))) [];
      unknown : l.parsed.unknown ≡ map text (naming_none (parsed_view l.blobs.blobs l.wanted) (map (λ t. t.now) (take l.id-index l.ids)));
    }
