use Rattle.std.proofs.Common.{rules, refl, ◌≡◌}
use Rattle.client.specs.Core.{gone}
use Rattle.world_pipes.proofs.Sent.{heard_in_vain, heard_so}
use Rattle.world_pipes.proofs.transport.carry_down_on.Goals as goal

pub returns-in-Err : goal.returns-in-Err
returns-in-Err c =
    let last : c.lost.new.self ≡ gone c.carry_to_client-read.new.core = search rules in
    rw last
    (heard_in_vain c.args.count c.args.core.now c.carry_to_client-read.new.core c.args.pairs.now.items c.move_up.new.pairs.items c.len-newest.result
    c.index_mut.result.now c.carry_to_client-read.new.pair c.carry_to_client-read.result c.in-Err.error c.requires.some (search rules) c.index_mut.ensures.value
    c.carry_to_client-read.ensures c.in-Err.ensures.err c.in-Err.ensures.memory)

pub returns : goal.returns
returns c =
    heard_so c.args.count c.args.core.now c.carry_to_client-read.new.core c.move_up.new.core c.args.pairs.now.items _ c.move_up.new.pairs.items
    c.len-newest.result c.index_mut.result.now c.carry_to_client-read.new.pair c.carry_to_client-read.result c.requires.some (search rules) c.index_mut.ensures.value
    c.carry_to_client-read.ensures refl c.in_default.ensures.ok
