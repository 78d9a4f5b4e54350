use Rattle.std.proofs.Common.{◌++◌, sym, ap, ◌∙◌}
use Rattle.std.proofs.lemmas.List.{append-nil}
use Rattle.world_base.specs.node_connections.Connections.{is_at}
use Rattle.world_base.specs.node_connections.PendingOutput.{handed_after, pending_bytes}
use Rattle.world_base.proofs.of_node_core.HandsOver.{handed_none, handed_there}
use Rattle.world_base.proofs.of_node_core.Indices.{none_found, found_there}
use Rattle.world_base.proofs.node_core.stepping_node.SteppingNode.outgoing.Goals as goal

pub returns-in_default-clause-left : goal.returns-in_default-clause-left
returns-in_default-clause-left c =
    handed_none c.args.port _ (none_found (is_at c.args.port) _ (sym c.in_default.is ∙ c.index_listed.ensures))

pub returns-in_default-clause-bytes : goal.returns-in_default-clause-bytes
returns-in_default-clause-bytes c =
    rw (none_found (is_at c.args.port) c.args.self.now.core.connections (sym c.in_default.is ∙ c.index_listed.ensures))
    (sym (append-nil c.args.out.now.items))

pub returns-in_default-clause-answer : goal.returns-in_default-clause-answer
returns-in_default-clause-answer c =
    sym (ap handed_after (none_found (is_at c.args.port) c.args.self.now.core.connections
    (sym c.in_default.is ∙ c.index_listed.ensures)))

pub returns-clause-left : goal.returns-clause-left
returns-clause-left c =
    let at = rw (← c.self.view_is) at c.index_listed.ensures in
    rw (← c.self.view_is) (handed_there c.args.port _ c.index_listed.result c.in-Some.index
    c.index_mut-connection.result.now c.outgoing.new.self _ at c.in-Some.is c.index_mut-connection.ensures.value
    (found_there (is_at c.args.port) _ c.index_listed.result c.in-Some.index _ at c.in-Some.is
    c.index_mut-connection.ensures.value)
    c.in_ok-outgoing.ensures.ok c.keep_listed.ensures)

pub returns-clause-bytes : goal.returns-clause-bytes
returns-clause-bytes c =
    let at = rw (← c.self.view_is) at c.index_listed.ensures in
    c.in_ok-outgoing.ensures.bytes
    ∙ rw (← c.self.view_is) (ap (λ l. c.args.out.now.items ++ pending_bytes l) (sym
    (found_there (is_at c.args.port) _ c.index_listed.result c.in-Some.index _ at c.in-Some.is
    c.index_mut-connection.ensures.value)))

pub returns-clause-answer : goal.returns-clause-answer
returns-clause-answer c =
    let at = rw (← c.self.view_is) at c.index_listed.ensures in
    c.handed-handed.ensures
    ∙ rw (← c.self.view_is) (ap handed_after (sym
    (found_there (is_at c.args.port) _ c.index_listed.result c.in-Some.index _ at c.in-Some.is
    c.index_mut-connection.ensures.value)))

pub returns-in_err-outgoing-clause-nothing : goal.returns-in_err-outgoing-clause-nothing
returns-in_err-outgoing-clause-nothing c =
    let at = rw (← c.self.view_is) at c.index_listed.ensures in
    rw (← c.self.view_is) (λ none. let no = c.in_err-outgoing.ensures.nothing (sym (ap pending_bytes
    (found_there (is_at c.args.port) _ c.index_listed.result c.in-Some.index _ at c.in-Some.is
    c.index_mut-connection.ensures.value)) ∙ none) in absurd cc)
