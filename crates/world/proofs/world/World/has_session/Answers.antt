use Rattle.world.proofs.PairsWritten.{session_no, session_told, session_yes}
use Rattle.world.proofs.world.World.has_session.Goals as goal

pub returns-clause-yes : goal.returns-clause-yes
returns-clause-yes c =
    rw (← c.self.view_is)
    (session_yes _ _ c.welcomes_back.result (session_told c.self.inside.nodes c.args.node c.args.client.now c.welcomes_back.result c.welcomes_back.ensures.known c.welcomes_back.ensures.unknown))

pub returns-clause-no : goal.returns-clause-no
returns-clause-no c =
    rw (← c.self.view_is)
    (session_no _ _ c.welcomes_back.result (session_told c.self.inside.nodes c.args.node c.args.client.now c.welcomes_back.result c.welcomes_back.ensures.known c.welcomes_back.ensures.unknown))
