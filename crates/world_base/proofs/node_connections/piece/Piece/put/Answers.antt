use Rattle.std.proofs.Common.{sym, ◌∙◌}
use Rattle.world_base.proofs.of_node_connections.Spelled.{appends_spelling, when_ok}
use Rattle.world_base.proofs.node_connections.piece.Piece.put.Goals as goal

pub returns-clause-whole : goal.returns-clause-whole
returns-clause-whole c = λ is.
    let said = sym c.is_ok.ensures.value ∙ is in
    rw (← c.self.view_is) (appends_spelling c.spelling_spells.ensures c.args.packet.now _ _
    (when_ok _ c.encode.result c.encode.ensures.fits said) (when_ok _ c.encode.result c.encode.ensures.ok said))
