-- What contracts see of the code's own types.
use Rattle.jmap_http.specs.Targets.{Resource as TheResource, Missing, SessionResource, ApiResource, UploadResource, BlobResource}
use Rattle.http_wire.specs.Fields.{pairs}
use Rattle.http_wire.specs.declared.request.HttpRequest.{HttpRequest}
use Rattle.jmap_http.specs.Responses.{AskedRequest}
use Rattle.jmap_http.specs.declared.targets.Resource.{Resource}
use Rattle.jmap_http.specs.declared.targets.Resource.TheVariants.{Missing as NoResource, Session, Api, Upload, Blob}

-- what a target names, without the places of its parts
abbrev pub resource_as : Resource → TheResource
resource_as NoResource = Missing
resource_as Session = SessionResource
resource_as Api = ApiResource
resource_as (Upload a) = UploadResource a.now
resource_as (Blob a blob accept) = BlobResource a.now blob.now accept.now

-- a request that was read
abbrev pub asked : HttpRequest → AskedRequest
asked r = record { method = r.method; target = r.target; fields = pairs r.fields; body = r.body }
