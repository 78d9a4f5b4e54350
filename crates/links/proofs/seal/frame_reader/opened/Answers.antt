use Rattle.std.proofs.Common.{arith, rules}
use Rattle.links.proofs.of_seal.SealedFrames.{standing, bears_another, bears_its, opened_so, shut_by_memory}
use Rattle.links.proofs.seal.frame_reader.opened.Goals as goal

pub returns-then-not-bears-clause-err : goal.returns-then-not-bears-clause-err
returns-then-not-bears-clause-err c =
    bears_another c.args.opener.now.place c.args.bytes.now c.split_at-2.result.0.now c.tag_at.result c.args.len c.bears.result
    (standing c.args.bytes.now c.split_at.result.1.now c.split_at-2.result.0.now c.split_at-2.result.1.now c.tag_at.result c.args.len
    c.requires.long c.requires.begins c.split_at.ensures.back c.split_at-2.ensures.front c.split_at-2.ensures.back c.tag_at.ensures)
    c.bears.ensures c.if-not-bears.true

pub returns-in_err-extend_from_slice-clause-err : goal.returns-in_err-extend_from_slice-clause-err
returns-in_err-extend_from_slice-clause-err c =
    let full = c.in_err-extend_from_slice.ensures.full in
    shut_by_memory c.args.opener.now.place c.args.bytes.now c.from_residual.result (search rules)
    (bears_its c.args.opener.now.place c.args.bytes.now c.split_at-2.result.0.now c.tag_at.result c.args.len c.bears.result
    (standing c.args.bytes.now c.split_at.result.1.now c.split_at-2.result.0.now c.split_at-2.result.1.now c.tag_at.result c.args.len
    c.requires.long c.requires.begins c.split_at.ensures.back c.split_at-2.ensures.front c.split_at-2.ensures.back c.tag_at.ensures)
    c.bears.ensures c.if-not-bears.false (omega (arith, full, c.new-taken.ensures.len)))

pub returns-clause-ok : goal.returns-clause-ok
returns-clause-ok c =
    opened_so c.args.opener.now.place c.args.bytes.now c.split_at-2.result.0.now c.tag_at.result c.extend_from_slice.new.self.items c.args.len c.bears.result
    (standing c.args.bytes.now c.split_at.result.1.now c.split_at-2.result.0.now c.split_at-2.result.1.now c.tag_at.result c.args.len
    c.requires.long c.requires.begins c.split_at.ensures.back c.split_at-2.ensures.front c.split_at-2.ensures.back c.tag_at.ensures)
    c.bears.ensures c.if-not-bears.false (search rules)
