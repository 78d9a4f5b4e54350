-- One request and its answer over a device whose bytes are known.
use Rattle.std.specs.Prelude.{◌≡◌, ℕ, ◌+◌, ◌⊎◌, List, Option, take}
use Rattle.std.specs.Io.KnownBytes.{Appends, Consumes, IsAtEnd}
use Rattle.admin.specs.Answers.{answer_bytes}
use Rattle.admin.specs.Requests.{IsReady, IsWanted}
use Rattle.admin.specs.declared.reader.TheConstants.{MAX_REQUEST}
use Rattle.admin.specs.declared.view.AdminView.{AdminView}
use Rattle.admin.specs.declared.wanted.Wanted.{Wanted}

-- bytes were read, of which the first 4,097 are kept, until the request needed no more or the input
-- ended
pub record ReadsInto (old new : Option (List ℕ)) (request : List ℕ) : Type 0 where
  pub bytes : List ℕ
  pub consumed : Consumes old new bytes
  pub kept : request ≡ take (MAX_REQUEST + 1) bytes
  pub ended : IsReady request ⊎ IsAtEnd new

-- a request was read, and the answer to it was written
pub record Serves (view : AdminView) (input input_after output output_after : Option (List ℕ)) :
    Type 0 where
  pub request : List ℕ
  pub read : ReadsInto input input_after request
  pub wanted : Wanted
  pub is_wanted : IsWanted request wanted
  pub answered : Appends output output_after (answer_bytes view wanted)
