use Rattle.script.proofs.Lawful.{large_primary, nodes_are_at_most}
use Rattle.script.proofs.opening.config.Goals as goal

pub returns-then-primary-gt-MAX_NODE-clause-form : goal.returns-then-primary-gt-MAX_NODE-clause-form
returns-then-primary-gt-MAX_NODE-clause-form c same =
    large_primary c.args.count c.args.members.now c.args.primary _ c.if-count-gt-MAX_NODE.false c.are_members.ensures
    c.if-not-are_members.false c.if-primary-gt-MAX_NODE.true

pub members_from_numbers-requires : goal.members_from_numbers-requires
members_from_numbers-requires c =
    nodes_are_at_most c.args.count c.args.members.now _ c.if-count-gt-MAX_NODE.false c.are_members.ensures c.if-not-are_members.false
