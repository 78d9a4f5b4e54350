-- What is written of the messages that were taken for a link.
use Rattle.std.specs.Prelude.{◌≡◌, List, [], ◌∷◌}
use Rattle.broker_spec.specs.declared.command.Command.{Command}
use Rattle.links.specs.declared.link_queue.queue.Waiting.{Waiting}
use Rattle.links.specs.declared.parcel.Parcel.TheVariants as parcels
use Rattle.links.specs.Written.{WriterView, IsCarried, with_parcel}

-- Each message is added after those before it, and none is left out.
abbrev pub AddsAll : WriterView → List (Waiting Command) → WriterView → Type 0
AddsAll old [] new = new ≡ old
AddsAll old (waiting ∷ rest) new =
    IsCarried (parcels.Message waiting.message)
    × AddsAll (with_parcel old (parcels.Message waiting.message)) rest new
