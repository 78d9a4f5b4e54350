-- How the model's client follows bytes that reach a node or leave it.
use Rattle.std.specs.Prelude.{◌≡◌, ◌-◌, ℕ, List, ◌++◌, length, take, slice_get, IfSome, Some}
use Rattle.exactly_once.specs.Sides.{ClientConnection}
use Rattle.headline.specs.byte_world.World.{ClientPipes, Pipe, with_pipe}
use Rattle.world_pipes.specs.declared.pair.PipePair.{PipePair}
use Rattle.world_pipes.specs.Piped.{Piped}
use Rattle.world_pipes.specs.StandsFor.{IsPipePair, ClientStandsFor}

-- the index in the model of the connection at this index: the model has the newest first
abbrev pub index_in_model : ℕ → Piped → ℕ
index_in_model at client = length client.pairs - 1 - at

-- the model's connection for the one at this index, with its pipe
pub record HasPair (at : ℕ) (old : Piped) (pair : PipePair) (model : ClientPipes) : Type 0 where
  pub connection : ClientConnection
  pub pipe : Pipe
  pub connected : slice_get model.connections (index_in_model at old) ≡ Some connection
  pub piped : slice_get model.pipes (index_in_model at old) ≡ Some pipe
  pub is_pair : IsPipePair pair pipe

-- this many bytes have come up on the model's connection
pub record FollowsUp (count at : ℕ) (old : Piped) (pair : PipePair) (new : Piped)
    (model : ClientPipes) : Type 0 where
  pub there : HasPair at old pair model
  pub rest : List ℕ
  pub up : there.pipe.up ≡ take count pair.up ++ rest
  pub stands : ClientStandsFor new
      (with_pipe (index_in_model at old) (record there.pipe { up = rest }) model)

-- each client of the model that corresponded to it before follows, with bytes taken up
abbrev pub TakingUpFollows : ℕ → ℕ → Piped → Piped → Type 0
TakingUpFollows at count old new =
    (model : ClientPipes) → ClientStandsFor old model →
    IfSome (slice_get old.pairs at) (λ pair. FollowsUp count at old pair new model)

-- these bytes are in transit down on the model's connection
pub record FollowsDown (bytes : List ℕ) (at : ℕ) (old : Piped) (pair : PipePair) (new : Piped)
    (model : ClientPipes) : Type 0 where
  pub there : HasPair at old pair model
  pub stands : ClientStandsFor new
      (with_pipe (index_in_model at old) (record there.pipe { down = bytes }) model)

-- each client of the model that corresponded to it before follows, with its bytes exchanged
abbrev pub SwappingFollows : ℕ → List ℕ → Piped → Piped → Type 0
SwappingFollows at bytes old new =
    (model : ClientPipes) → ClientStandsFor old model →
    IfSome (slice_get old.pairs at) (λ pair. FollowsDown bytes at old pair new model)
