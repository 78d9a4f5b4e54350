use Rattle.std.proofs.Common.{sym, subst}
use Rattle.session_base.specs.FormTheorems.{HasForm}
use Rattle.session_base.proofs.Writable.{received_fit, flights_are_writable, waiting_have_lengths}
use Rattle.session.proofs.session.Session.write.Goals as goal

pub write-requires-2 : goal.write-requires-2
write-requires-2 c = received_fit _ (subst HasForm (sym c.self.view_is) c.requires)

pub write-requires-3-clause-flights : goal.write-requires-3-clause-flights
write-requires-3-clause-flights c = flights_are_writable _ (subst HasForm (sym c.self.view_is) c.requires)

pub write-requires-3-clause-waiting : goal.write-requires-3-clause-waiting
write-requires-3-clause-waiting c = waiting_have_lengths _ (subst HasForm (sym c.self.view_is) c.requires)
