use Rattle.std.proofs.Common.{inl, ◌<◌, length, refl, sym, ◌∙◌}
use Rattle.std.proofs.lemmas.Bool.{both_ways}
use Rattle.master.proofs.Counting.{get_there}
use Rattle.world.specs.World.{WorldState}
use Rattle.world.proofs.Joined.{goes_on_rest}
use Rattle.world.proofs.OpensOn.{full_meets, is_free, is_taken, open_meets}
use Rattle.world.proofs.world.World.open.Goals as goal

pub returns-in_default-clause-goes : goal.returns-in_default-clause-goes
returns-in_default-clause-goes c = goes_on_rest _ _ refl

pub returns-then-is_open-clause-goes : goal.returns-then-is_open-clause-goes
returns-then-is_open-clause-goes c = goes_on_rest _ _ refl

pub returns-then-is_open-clause-meets : goal.returns-then-is_open-clause-meets
returns-then-is_open-clause-meets c =
    let few : c.in-Some.at < length c.self.inside.clients.items = rw (← c.self.view_is) at c.in-Some.ensures.below in
    let found = get_there c.self.inside.clients.items c.in-Some.at c.index.result.now few c.index.ensures in
    let first = rw (← c.self.view_is) at c.in-Some.ensures.exact in
    let old : WorldState = record {
      nodes = c.self.inside.nodes;
      clients = c.self.inside.clients.items;
      connections = c.self.inside.connections.items;
      losses = c.self.inside.losses;
    } in
    (inl (rw (← c.self.view_is) (is_taken c.args.client.now old c.in-Some.at c.index.result.now (sym first) found (sym c.is_open.ensures ∙ c.if-is_open.true))), refl)

pub returns-then-not-serves-clause-goes : goal.returns-then-not-serves-clause-goes
returns-then-not-serves-clause-goes c = goes_on_rest _ _ refl

pub open_to-requires-clause-free : goal.open_to-requires-clause-free
open_to-requires-clause-free c =
    let few : c.in-Some.at < length c.self.inside.clients.items = rw (← c.self.view_is) at c.in-Some.ensures.below in
    let found = get_there c.self.inside.clients.items c.in-Some.at c.index.result.now few c.index.ensures in
    let first = rw (← c.self.view_is) at c.in-Some.ensures.exact in
    let old : WorldState = record {
      nodes = c.self.inside.nodes;
      clients = c.self.inside.clients.items;
      connections = c.self.inside.connections.items;
      losses = c.self.inside.losses;
    } in
    rw (← c.self.view_is) (is_free old c.in-Some.at c.index.result.now found (sym c.is_open.ensures ∙ c.if-is_open.false))

pub returns-clause-meets : goal.returns-clause-meets
returns-clause-meets c =
    let few : c.in-Some.at < length c.self.inside.clients.items = rw (← c.self.view_is) at c.in-Some.ensures.below in
    let found = get_there c.self.inside.clients.items c.in-Some.at c.index.result.now few c.index.ensures in
    let first = rw (← c.self.view_is) at c.in-Some.ensures.exact in
    let old : WorldState = record {
      nodes = c.self.inside.nodes;
      clients = c.self.inside.clients.items;
      connections = c.self.inside.connections.items;
      losses = c.self.inside.losses;
    } in
    rw (← c.self.view_is) (open_meets c.args.client.now c.in-Some.at c.args.node old c.open_to.new.self c.index.result.now (sym first) found (sym c.is_open.ensures ∙ c.if-is_open.false)
    (rw (← c.self.view_is) at (sym c.serves.ensures ∙ c.if-not-serves.false)) (rw (← c.self.view_is) at (sym c.has_no_name_left.ensures ∙ c.if-has_no_name_left.false))
    (rw (← c.self.view_is) at c.open_to.ensures.begins))

pub returns-then-has_no_name_left-clause-goes : goal.returns-then-has_no_name_left-clause-goes
returns-then-has_no_name_left-clause-goes c = goes_on_rest _ _ refl

pub returns-then-has_no_name_left-clause-meets : goal.returns-then-has_no_name_left-clause-meets
returns-then-has_no_name_left-clause-meets c =
    let few : c.in-Some.at < length c.self.inside.clients.items = rw (← c.self.view_is) at c.in-Some.ensures.below in
    let found = get_there c.self.inside.clients.items c.in-Some.at c.index.result.now few c.index.ensures in
    let first = rw (← c.self.view_is) at c.in-Some.ensures.exact in
    let old : WorldState = record {
      nodes = c.self.inside.nodes;
      clients = c.self.inside.clients.items;
      connections = c.self.inside.connections.items;
      losses = c.self.inside.losses;
    } in
    rw (← c.self.view_is) (inl (full_meets c.args.client.now c.in-Some.at c.args.node old c.index.result.now (sym first) found (sym c.is_open.ensures ∙ c.if-is_open.false)
    (rw (← c.self.view_is) at (sym c.serves.ensures ∙ c.if-not-serves.false)) (rw (← c.self.view_is) at (sym c.has_no_name_left.ensures ∙ c.if-has_no_name_left.true))))

pub returns-clause-quiet : goal.returns-clause-quiet
returns-clause-quiet c = λ full. absurd (both_ways _ (sym c.has_no_name_left.ensures ∙ c.if-has_no_name_left.false) full)
