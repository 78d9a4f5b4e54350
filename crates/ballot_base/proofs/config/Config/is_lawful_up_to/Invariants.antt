use Rattle.std.proofs.Common.{◌≡◌, drop}
use Rattle.ballot_base.specs.LawfulConfig.{are_rising}
use Rattle.ballot_base.proofs.config.Config.is_lawful_up_to.Given as goal

abbrev pub invariant-loop-member : goal.invariant-loop-member
invariant-loop-member l = are_rising l.greatest l.last (drop l.member-index l.members) ≡ are_rising l.greatest 0 l.members
