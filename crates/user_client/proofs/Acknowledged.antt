-- Acknowledged.antt: a publisher that disconnected keeps what it kept.
use Rattle.std.proofs.Common.{◌≡◌, ℕ, List, [], sym, subst, ◌∙◌, Option}
use Rattle.std.specs.Prelude.{Some, None}
use Rattle.packet.specs.declared.publish.Publish.{Publish}
use Rattle.client_base.specs.State.{kept_count}
use Rattle.user_client.specs.Traces.{CallerView, Trace}
use Rattle.user_client.specs.Publisher.{PublisherView, IsAcknowledged, IsAcknowledgedAs, IsAcknowledgedBy, WasTaken, WasTakenBy}
use Rattle.user_client.proofs.TracesJoin.{traces_follow}

-- a publisher of these parts
abbrev pub made_of : CallerView → Option Publish → PublisherView
made_of caller once = record { caller = caller; once = once }

pub keeps_none : {D : Type 0} (contents : D → Option (List ℕ)) (stream : D) (once : Option Publish) (caller new : CallerView)
    → kept_count new.core.state ≡ kept_count caller.core.state
    → IsAcknowledgedAs (WasTakenBy contents stream) once caller → IsAcknowledgedAs (WasTaken contents) once new
keeps_none contents stream None caller new same none = same ∙ none
keeps_none contents stream (Some publish) caller new same taken = (stream, taken)

pub stays_acknowledged : {D : Type 0} {seen : PublisherView} (contents : D → Option (List ℕ)) (stream : D) (caller new : CallerView)
    (once : Option Publish) → made_of caller once ≡ seen
    → kept_count new.core.state ≡ kept_count caller.core.state
    → IsAcknowledgedBy contents stream seen → IsAcknowledged contents (made_of new once)
stays_acknowledged contents stream caller new once is same none =
    keeps_none contents stream once caller new same (subst (IsAcknowledgedBy contents stream) (sym is) none)

pub left_trace : {start : CallerView} {seen : PublisherView} (caller new : CallerView) (once : Option Publish) → made_of caller once ≡ seen
    → Trace start [] seen.caller → Trace caller [] new → Trace start [] new
left_trace {start = start} caller new once is before after =
    traces_follow (subst (λ (s : PublisherView). Trace start [] s.caller) (sym is) before) after
