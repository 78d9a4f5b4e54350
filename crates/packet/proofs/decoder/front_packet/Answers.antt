use Rattle.std.proofs.Common.{length, ap, sym, ◌∙◌, arith}
use Rattle.packet.proofs.After.{rest_shorter, verdict_whole}
use Rattle.packet.proofs.decoder.front_packet.Goals as goal

pub returns-clause-exact : goal.returns-clause-exact
returns-clause-exact c =
    verdict_whole
    c.args.first
    c.args.more.now
    c.in_ok-len.rest.now
    c.new.result
    c.split_at.result.1.now
    c.in_ok-header.header
    c.in_ok-len.len
    c.in_ok-packet.packet
    (sym c.in_ok-header.ensures.exact)
    c.in_ok-len.ensures.exact
    (omega arith)
    (omega arith)
    (c.new.ensures ∙ c.split_at.ensures.front)
    c.split_at.ensures.back
    c.in_ok-packet.ensures.exact

pub overflow_sub-result : goal.overflow_sub-result
overflow_sub-result c =
    omega (
      arith,
      ap length c.split_at.ensures.back,
      rest_shorter
          c.args.more.now
          c.in_ok-len.rest.now
          c.in_ok-len.len
          c.in_ok-len.len
          c.in_ok-len.ensures.exact,
    )
