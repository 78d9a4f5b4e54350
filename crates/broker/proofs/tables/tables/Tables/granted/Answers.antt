-- The index holds the subscriptions of the sessions, so it grants those that match.
use Rattle.std.proofs.Common.{◌∙◌, ◌++◌, ap}
use Rattle.subs_base.specs.ListIndex.{content_of}
use Rattle.broker_base.proofs.of_rows.GrantedBySessions.{rows_are}
use Rattle.broker.proofs.tables.tables.Tables.granted.Goals as goal

pub returns : goal.returns
returns c =
    let rows = c.in_ok-granted.ensures.ok in
    rows.2 ∙ ap (λ front. front ++ rows.0) c.new-rows.ensures.items
    ∙ rows_are (content_of c.args.self.now.index) c.args.topic.now c.args.self.now.sessions.entries rows.0
    c.requires.sound.by_client c.requires.sound.sessions c.requires.tied.index rows.1
