use Rattle.std.proofs.Common.{rules, not}
use Rattle.std.specs.Prelude.{◌==◌}
use Rattle.std.proofs.lemmas.Fn.{filter_same}
use Rattle.ballot_base.proofs.members.forget.Goals as goal

pub returns : goal.returns
returns c = filter_same _ (λ x. not (x == c.args.member)) _ (λ x b f k. search rules) _ _ c.retain.ensures.filtered
