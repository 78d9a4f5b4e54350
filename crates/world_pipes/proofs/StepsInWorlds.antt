-- StepsInWorlds.antt: a client's step is one of its world.
use Rattle.std.proofs.Common.{refl}
use Rattle.headline.specs.byte_world.Steps.{ByteWorldStep}
use Rattle.world_pipes.specs.Steps.{ClientStep, ClientsStepInWorlds}

pub steps_in_worlds : ClientsStepInWorlds
steps_in_worlds w i c d at (ClientStep.calls t h is spelled) = record { is = ByteWorldStep.calls i c t h at is spelled; published = refl }
steps_in_worlds w i c d at (ClientStep.arrives j κ p piece rest connection pipe down) =
    record { is = ByteWorldStep.arrives i j c κ p piece rest (record { client = at; connection = connection; pipe = pipe }) down; published = refl }
steps_in_worlds w i c d at (ClientStep.handles κ others p pipes packet left connections are up takes spelled) =
    record { is = ByteWorldStep.handles i c κ others p pipes packet left at connections are up takes spelled; published = refl }
