-- The exit status of a node's program, and how it ends.
use Rattle.std.specs.Prelude.{◌≡◌, ℕ, Option, Some, None, Result, Ok, Err}
use Rattle.cluster.specs.master.Errors.{exit_status}
use Rattle.cluster_node.specs.declared.node_error.NodeError.{NodeError}
use Rattle.cluster_node.specs.declared.node_error.NodeError.TheVariants as errors
use Rattle.link_threads.specs.declared.keeping.LinksEnd.{LinksEnd}
use Rattle.link_threads.specs.declared.keeping.LinksEnd.TheVariants as ends
use Rattle.server.specs.declared.serve_error.ServeError.{ServeError}
use Rattle.server.specs.declared.serve_error.ServeError.TheVariants as faults

-- 3 for a row that is not there; what a master may have, too, has the status that it has there
abbrev pub node_status : NodeError → ℕ
node_status (errors.Opening error) = exit_status error
node_status (errors.Row row) = 3
node_status (errors.Serving error) = 1
node_status errors.Lonely = 1

-- how a node ends whose links ended so; none if no thread kept them
abbrev pub LinksEndSo : Option LinksEnd → Result (Unit {0}) NodeError → Type 0
LinksEndSo (Some ends.Closed) (Ok done) = Unit {0}
LinksEndSo (Some ends.Lonely) (Err error) = error ≡ errors.Lonely
LinksEndSo (Some ends.Threads) (Err error) = error ≡ errors.Serving faults.Threads
LinksEndSo None (Err error) = error ≡ errors.Serving faults.Threads
LinksEndSo end result = ⊥

-- how a node ends that was served so, and whose links ended so
abbrev pub EndsSo :
    Option LinksEnd → Result (Unit {0}) ServeError → Result (Unit {0}) NodeError → Type 0
EndsSo end (Ok done) result = LinksEndSo end result
EndsSo end (Err fault) (Err error) = error ≡ errors.Serving fault
EndsSo end (Err fault) (Ok done) = ⊥
