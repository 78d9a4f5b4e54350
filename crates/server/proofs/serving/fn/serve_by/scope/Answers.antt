use denote.Param.Send.{sendable}
use Rattle.server.proofs.serving.fn.serve_by.scope.Goals as goal

pub spawn-requires-after_bounds : goal.spawn-requires-after_bounds
spawn-requires-after_bounds g c κs within = (
  search sendable,
  search (sendable, c.requires-raw),
  search (sendable, c.requires-raw),
  search (sendable, c.requires-raw),
  search (sendable, c.requires-raw),
  search (sendable, c.requires-raw.1.1.1.1.0, c.requires-raw.1.1.1.1.1.0, c.requires-raw.1.1.1.1.1.1),
  search (sendable, c.requires-raw.1.1.1.1.1.1),
)
