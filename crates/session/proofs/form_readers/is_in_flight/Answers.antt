use Rattle.std.proofs.Common.{◌∙◌}
use Rattle.std.proofs.lemmas.Map.Made.{is_some-lookup}
use Rattle.session.proofs.form_readers.is_in_flight.Goals as goal

pub returns : goal.returns
returns c = c.contains_key.ensures ∙ is_some-lookup _ c.args.in_flight.now.entries
