use denote.Param.Send.{sendable}
use Rattle.server.proofs.serving.fn.serve_by.scope+FnOnce.call_once.Goals as goal

pub scope-requires : goal.scope-requires
scope-requires g c = (
  search (sendable, c.requires),
  (
    search (sendable, c.requires),
    (
      search (sendable, c.requires),
      (
        search (sendable, c.requires),
        (search (sendable, c.requires), (search (sendable, c.requires), search (sendable, c.requires))),
      ),
    ),
  ),
)
