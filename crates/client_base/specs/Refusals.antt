-- The numbers of a client's errors.
use Rattle.std.specs.Prelude.{ℕ}
use Rattle.topics.specs.Refusals.{malformed_number}
use Rattle.client_base.specs.declared.error.ClientError.{ClientError}
use Rattle.client_base.specs.declared.error.ClientError.TheVariants as errors

-- the number of each error, as in the table of refusals
abbrev pub client_number : ClientError → ℕ
client_number errors.NotActive = 18
client_number errors.WindowFull = 22
client_number errors.TooLarge = 4
client_number errors.SessionLost = 23
client_number errors.Protocol = 11
client_number (errors.Malformed kind) = malformed_number kind
client_number errors.Memory = 12
