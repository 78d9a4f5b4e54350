use Rattle.std.proofs.Common.{◌≡◌, ℕ, List, map, ap, sym, ◌∙◌, subst}
use Rattle.world.specs.World.{WorldState}
use Rattle.play.specs.declared.played_world.Recipient.{Recipient}
use Rattle.play.specs.Inside.{AreWritten, names_of, new_recipient}
use Rattle.play.proofs.LinesAppended.{new_names, none_written}
use Rattle.play.proofs.PlayedToTheEnd.{opened_exact, opened_first}
use Rattle.play.proofs.played_world.PlayedWorld.new.Goals as goal

pub returns-clause-named : goal.returns-clause-named
returns-clause-named c =
    let made : c.in_ok-recipients.recipients.items ≡ map new_recipient c.args.opening.clients.items =
    c.in_ok-recipients.ensures.made ∙ ap (λ (l : List (List ℕ)). map new_recipient l) c.as_slice.ensures.value in
    ap names_of made ∙ new_names c.args.opening.clients.items

pub returns-clause-written : goal.returns-clause-written
returns-clause-written c =
    subst (λ (ls : List Recipient). AreWritten ls c.in_ok-world.world) (sym c.in_ok-recipients.ensures.made)
    (none_written c.as_slice-2.result.now c.as_slice.result.now c.in_ok-world.world (ap (λ (w : WorldState). w.clients) c.in_ok-world.ensures.opens.is))

pub returns-clause-exact : goal.returns-clause-exact
returns-clause-exact c = opened_exact c.as_slice-2.ensures.value c.in_ok-world.ensures.exact

pub returns-clause-opens : goal.returns-clause-opens
returns-clause-opens c = opened_first c.as_slice-2.ensures.value c.in_ok-world.ensures.opens
