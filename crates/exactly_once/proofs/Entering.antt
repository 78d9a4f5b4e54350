-- A publication enters at the place where it is taken: a law of the broker, said about a client's
-- story.
use Rattle.std.proofs.Common.{◌≡◌, ◌∷◌, if◌then◌else◌, length, map, filter, subst, sym, ap₂}
use Rattle.packet.specs.declared.packet.Packet.TheVariants as packets
use Rattle.session_base.specs.Publication.{publication_of}
use Rattle.broker_spec.specs.declared.command.Command.{Command}
use Rattle.broker_spec.specs.declared.command.Command.TheVariants as commands
use Rattle.broker_spec.specs.Marks.{is_queued_at}
use Rattle.broker_spec.specs.OriginTheorems.{is_from_publish}
use Rattle.broker_spec.specs.Place.{Client, Limits, Mark, Past, Place}
use Rattle.broker_spec.specs.Connection.{ConnectionName}
use Rattle.broker_spec.specs.Readings.{publication_in}
use Rattle.broker_spec.specs.TakenTheorems.{queued_at}
use Rattle.packet.specs.declared.publish.Publish.{Publish}
use Rattle.broker_spec.proofs.EntersAsPublished.{enters_as_published}
use Rattle.broker_spec.specs.Subscriptions.{effective_qos}
use Rattle.broker_spec.specs.Times.{entries_of}
use Rattle.broker_spec.proofs.PublicationEnters.{publication_enters}
use Rattle.exactly_once.specs.Theorems.{StoriesEnter}

pub entering : StoriesEnter
entering limits s place below x p d stands command mark =
    let placed : (let z : Place = record { command = commands.Packet x (packets.Publish p); mark = Mark.Taken s.keeper.client } in z) ≡ place =
    ap₂ (λ (k : Command) (m : Mark). let z : Place = record { command = k; mark = m } in z) (sym command) (sym mark) in
    subst (λ (z : Place). length (filter (is_from_publish (length below)) (entries_of limits (z ∷ below) d))
    ≡ (if is_queued_at (effective_qos below d (publication_of p)) then 1 else 0)) placed
    (publication_enters limits below x p s.keeper.client d)

-- and as it was published
pub entering_as : (limits : Limits) (c : Client) (place : Place) (below : Past) (x : ConnectionName) (p : Publish) (d : Client) → place.command ≡ commands.Packet x (packets.Publish p)
    → place.mark ≡ Mark.Taken c
    → map publication_in (filter (is_from_publish (length below)) (entries_of limits (place ∷ below) d)) ≡ queued_at (publication_of p) (effective_qos below d (publication_of p))
entering_as limits c place below x p d command mark =
    let placed : (let z : Place = record { command = commands.Packet x (packets.Publish p); mark = Mark.Taken c } in z) ≡ place =
    ap₂ (λ (k : Command) (m : Mark). let z : Place = record { command = k; mark = m } in z) (sym command) (sym mark) in
    subst (λ (z : Place). map publication_in (filter (is_from_publish (length below)) (entries_of limits (z ∷ below) d))
    ≡ queued_at (publication_of p) (effective_qos below d (publication_of p))) placed
    (enters_as_published limits below x p c d)
