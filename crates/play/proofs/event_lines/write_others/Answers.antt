use Rattle.std.proofs.Common.{◌≡◌, ◌++◌, ◌∷◌, arith, decimal, get_or, rules}
use Rattle.play.proofs.RecoveriesTold.{one_more_member}
use Rattle.play.proofs.event_lines.write_others.Goals as goal

pub loop-member-preserved : goal.loop-member-preserved
loop-member-preserved c =
    let one : c.extend_from_slice.new.self.items ≡ c.loop-member.text.items ++ 44 ∷ decimal (get_or c.args.members.now c.loop-member.member-index 0) = search rules in
    one_more_member c.args.members.now c.loop-member.member-index 0 c.args.text.now.items c.loop-member.text.items _ (omega arith) c.loop-member.invariant one
