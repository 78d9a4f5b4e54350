-- AskedSo.antt: what an event asks is published, and nothing else.
use Rattle.std.proofs.Common.{◌≡◌, ◌≤◌, ◌<◌, ◌+◌, inl, inr, ℕ, false, List, [], ◌∷◌, ◌++◌, Some, Result, Ok, Err, IsErr, length, slice_get, take, refl, sym, ap, ◌∙◌, subst, append_assoc}
use Rattle.std.specs.Prelude.{get_or}
use Rattle.std.specs.List.{position}
use Rattle.std.proofs.lemmas.Bool.{both_ways}
use Rattle.std.proofs.lemmas.List.{append-nil, take_more}
use Rattle.ballot_base.specs.Losses.{one_more}
use Rattle.client_base.specs.Steps.{Call}
use Rattle.client_base.specs.declared.error.ClientError.{ClientError}
use Rattle.client_base.specs.declared.error.ClientError.TheVariants as errors
use Rattle.master.specs.declared.event.Idle.{Idle}
use Rattle.session_base.specs.declared.publication.Publication.{Publication}
use Rattle.world_pipes.specs.declared.sending.Sending.{Sending}
use Rattle.world_pipes.specs.declared.sending.Sending.TheVariants as sendings
use Rattle.world_pipes.specs.ModelSteps.{CallingFollows}
use Rattle.world_pipes.specs.Piped.{Piped}
use Rattle.world_pipes.proofs.CallingFollows.{calling_goes}
use Rattle.world_pipes.specs.declared.events.event.Event.{Event}
use Rattle.world_pipes.specs.declared.events.event.Event.TheVariants as events
use Rattle.world_pipes.specs.declared.clients.world_client.WorldClient.{WorldClient}
use Rattle.world.specs.Requests.{AskedBy, AsksOne, EventAsks, RunAsks}
use Rattle.world_pipes.specs.clients.Clients.{is_named}
use Rattle.world.specs.Events.{EventHappens}
use Rattle.world.specs.Inside.ClientCalls.{CountsRefusal, with_one_loss}
use Rattle.world_pipes.specs.clients.ClientCalls.{IsCall}
use Rattle.world.specs.Inside.Steps.{PublishesAsked, IsTrace, IsTraceAsking, IsCounted}
use Rattle.world.specs.StandsFor.{KeepsReached, FollowsModelAsking}
use Rattle.world.specs.World.{WorldState}
use Rattle.world.proofs.ClientGoes.{client_asked_with_loss, client_asked_on, same_piped, with_piped}
use Rattle.world.proofs.Joined.{asked_goes_join, goes_on_rest, goes_on_then, keeps_reached, world_rests}

-- ---- one that asks nothing

pub asks_nothing : (event : Event) (old : WorldState) (result : Result (Unit {0}) Idle) (new : WorldState) → AskedBy event old [] new → IsTrace old new → PublishesAsked event old result new
asks_nothing event old (Ok done) new by goes = record { asked = []; is = by; goes = goes }
asks_nothing event old (Err idle) new by goes = record { asked = []; is = refl; goes = goes }

-- ---- a call to publish

module _ (name : List ℕ) (p : Publication) (old : WorldState) (at : ℕ) (client : WorldClient) (piped : Piped) (new : WorldState)
    (first : position (is_named name) old.clients ≡ Some at) (found : slice_get old.clients at ≡ Some client) where
  abbrev between : WorldState
  between = with_piped at client piped old

  was_done : (sending : Sending) (losses : ℕ) → IsCall (Call.Publishes p) client.piped (Ok sending) piped
      → new ≡ (let w : WorldState = record between { losses = losses } in w) → IsTraceAsking ((at, p) ∷ []) old new → PublishesAsked (events.Publish name p) old (Ok tt) new
  was_done sending losses calls is goes =
      record {
        asked = (at, p) ∷ [];
        is = inl (record {
          client = record { at = at; first = first; client = client; stands = found };
          piped = piped;
          does = (sending, calls);
          is = is ∙ ap (λ (k : ℕ). let w : WorldState = record between { losses = k } in w) (sym (ap (λ (w : WorldState). w.losses) is));
          asked_is = refl;
        });
        goes = goes;
      }

  was_idle : (result : Result (Unit {0}) Idle) → IsErr result → new ≡ between → piped ≡ client.piped → PublishesAsked (events.Publish name p) old result new
  was_idle (Ok done) err is same = absurd (both_ways false refl err)
  was_idle (Err idle) err is same = record { asked = []; is = refl; goes = goes_on_rest old new (is ∙ same_piped old at client piped found same) }

  pub publish_asked : (done : Result Sending ClientError) (result : Result (Unit {0}) Idle) → IsCall (Call.Publishes p) client.piped done piped
      → CallingFollows (p ∷ []) client.piped done piped → old.losses ≤ (with_one_loss old).losses → CountsRefusal done between result new → PublishesAsked (events.Publish name p) old result new
  publish_asked (Ok sendings.Sent) (Ok done) calls follows rises counts =
      was_done sendings.Sent old.losses calls counts.1
      (subst (λ (w : WorldState). IsTraceAsking ((at, p) ∷ []) old w) (sym counts.1)
      (client_asked_on (p ∷ []) old at client piped found (calling_goes (p ∷ []) client.piped (Ok sendings.Sent) piped follows)))
  publish_asked (Ok sendings.Sent) (Err idle) calls follows rises counts = absurd (both_ways false refl counts.0)
  publish_asked (Ok sendings.Lost) (Ok done) calls follows rises counts =
      was_done sendings.Lost (one_more old.losses) calls counts.1
      (subst (λ (w : WorldState). IsTraceAsking ((at, p) ∷ []) old w) (sym counts.1) (client_asked_with_loss (p ∷ []) old at client piped found follows rises))
  publish_asked (Ok sendings.Lost) (Err idle) calls follows rises counts = absurd (both_ways false refl counts.0)
  publish_asked (Err errors.Memory) (Ok done) calls follows rises counts =
      record {
        asked = [];
        is = inr (record { is = counts.1 ∙ ap with_one_loss (same_piped old at client piped found follows); none = refl });
        goes = subst (λ (w : WorldState). IsTrace old w) (sym counts.1)
            (client_asked_with_loss [] old at client piped found (calling_goes (p ∷ []) client.piped (Err errors.Memory) piped follows) rises);
      }
  publish_asked (Err errors.Memory) (Err idle) calls follows rises counts = absurd (both_ways false refl counts.0)
  publish_asked (Err errors.NotActive) result calls follows rises counts = was_idle result counts.0 counts.1 follows
  publish_asked (Err errors.WindowFull) result calls follows rises counts = was_idle result counts.0 counts.1 follows
  publish_asked (Err errors.TooLarge) result calls follows rises counts = was_idle result counts.0 counts.1 follows
  publish_asked (Err errors.SessionLost) result calls follows rises counts = was_idle result counts.0 counts.1 follows
  publish_asked (Err errors.Protocol) result calls follows rises counts = was_idle result counts.0 counts.1 follows
  publish_asked (Err (errors.Malformed kind)) result calls follows rises counts = was_idle result counts.0 counts.1 follows

-- ---- a whole step

one_counted : (name : List ℕ) (p : Publication) (old : WorldState) (asked : List (ℕ × Publication)) (mid new : WorldState) (losses : ℕ)
    → new ≡ (let w : WorldState = record mid { losses = losses } in w) → AsksOne name p old asked mid → AsksOne name p old asked new
one_counted name p old asked mid new losses is one =
    let wp : WorldState = with_piped one.client.at one.client.client one.piped old in
    let same : new ≡ (let w : WorldState = record wp { losses = losses } in w) = is ∙ ap (λ (w : WorldState). let v : WorldState = record w { losses = losses } in v) one.is in
    record {
      client = one.client;
      piped = one.piped;
      does = one.does;
      is = same ∙ ap (λ (k : ℕ). let w : WorldState = record wp { losses = k } in w) (sym (ap (λ (w : WorldState). w.losses) same));
      asked_is = one.asked_is;
    }

asked_counted : (event : Event) (old : WorldState) (asked : List (ℕ × Publication)) (mid new : WorldState) (before counted : ℕ) → counted ≡ old.losses → IsCounted before counted mid new
    → AskedBy event old asked mid → AskedBy event old asked new
asked_counted (events.Publish name p) old asked mid new before counted is (inl same) by = subst (λ (w : WorldState). AskedBy (events.Publish name p) old asked w) (sym same.0) by
asked_counted (events.Publish name p) old asked mid new before counted is (inr more) (inl one) = inl (one_counted name p old asked mid new (one_more mid.losses) more.0 one)
asked_counted (events.Publish name p) old asked mid new before counted is (inr more) (inr none) =
    inr (record {
      is = more.0 ∙ ap (λ (k : ℕ). let w : WorldState = record mid { losses = one_more k } in w) (more.1 ∙ is)
          ∙ ap (λ (w : WorldState). let v : WorldState = record w { losses = one_more old.losses } in v) none.is;
      none = none.none;
    })
asked_counted (events.Assign config) old asked mid new before counted is counts by = by
asked_counted (events.Deliver number) old asked mid new before counted is counts by = by
asked_counted (events.Tick node) old asked mid new before counted is counts by = by
asked_counted (events.Cut node) old asked mid new before counted is counts by = by
asked_counted (events.Expel name node) old asked mid new before counted is counts by = by
asked_counted (events.Crash node) old asked mid new before counted is counts by = by
asked_counted (events.Open name node) old asked mid new before counted is counts by = by
asked_counted (events.CarryUp number count) old asked mid new before counted is counts by = by
asked_counted (events.CarryDown number count) old asked mid new before counted is counts by = by
asked_counted (events.Abandon name) old asked mid new before counted is counts by = by
asked_counted (events.Disconnect name) old asked mid new before counted is counts by = by
asked_counted (events.Notice number) old asked mid new before counted is counts by = by
asked_counted (events.Subscribe name filter qos) old asked mid new before counted is counts by = by
asked_counted (events.Unsubscribe name filter) old asked mid new before counted is counts by = by

-- what a step says about it
abbrev pub StepAsks : Event → WorldState → Result (Unit {0}) Idle → WorldState → Type 0
StepAsks event old result new =
    (asked : List (ℕ × Publication)) × EventAsks event old result asked new × FollowsModelAsking asked old new × KeepsReached asked old new

pub step_asks : (event : Event) (old mid new : WorldState) (before counted : ℕ) → counted ≡ old.losses → PublishesAsked event old (Ok tt) mid → IsCounted before counted mid new → IsTrace mid new
    → StepAsks event old (Ok tt) new
step_asks event old mid new before counted is a counts more =
    let goes = (goes_on_then a.asked old mid new a.goes more).goes in
    (a.asked, asked_counted event old a.asked mid new before counted is counts a.is, goes, keeps_reached a.asked old new goes)

pub idle_asks : (event : Event) (old : WorldState) (idle : Idle) (result : Result (Unit {0}) Idle) (new : WorldState) → result ≡ Err idle → new ≡ old → StepAsks event old result new
idle_asks event old idle result new err same =
    let goes = world_rests old new same in
    subst (λ (r : Result (Unit {0}) Idle). StepAsks event old r new) (sym err) ([], refl, goes, keeps_reached [] old new goes)

-- ---- events, one after another

-- so far
abbrev pub HasAsked : List Event → WorldState → WorldState → Type 0
HasAsked events old new =
    (asked : List (ℕ × Publication)) × RunAsks events old asked new × FollowsModelAsking asked old new × KeepsReached asked old new

pub none_asked : (old new : WorldState) → new ≡ old → HasAsked [] old new
none_asked old new same = let goes = world_rests old new same in ([], (refl, same), goes, keeps_reached [] old new goes)

asks_more : (events : List Event) (event : Event) (old mid new : WorldState) (result : Result (Unit {0}) Idle) (asked more : List (ℕ × Publication)) → RunAsks events old asked mid
    → EventHappens event mid result new → EventAsks event mid result more new → RunAsks (events ++ event ∷ []) old (asked ++ more) new
asks_more [] event old mid new result asked more run happens is = (
  new,
  result,
  more,
  [],
  subst (λ (w : WorldState). EventHappens event w result new) run.1 happens,
  subst (λ (w : WorldState). EventAsks event w result more new) run.1 is,
  (refl, refl),
  ap (λ (l : List (ℕ × Publication)). l ++ more) run.0 ∙ sym (append-nil more),
)
asks_more (e ∷ es) event old mid new result asked more run happens is = (
  run.0,
  run.1,
  run.2,
  run.3 ++ more,
  run.4,
  run.5,
  asks_more es event run.0 mid new result run.3 more run.6 happens is,
  ap (λ (l : List (ℕ × Publication)). l ++ more) run.7 ∙ append_assoc run.2 run.3 more,
)

pub asked_on_more : (events : List Event) (i : ℕ) (event : Event) (old mid new : WorldState) (result : Result (Unit {0}) Idle) → i < length events → event ≡ get_or events i event
    → HasAsked (take i events) old mid → EventHappens event mid result new → StepAsks event mid result new → HasAsked (take (i + 1) events) old new
asked_on_more events i event old mid new result below is a happens step =
    subst (λ (l : List Event). HasAsked l old new) (sym (take_more events i event below ∙ ap (λ (e : Event). take i events ++ e ∷ []) (sym is)))
    (let goes = asked_goes_join a.0 step.0 old mid new a.2 step.2 in
    (a.0 ++ step.0, asks_more (take i events) event old mid new result a.0 step.0 a.1 happens step.1, goes, keeps_reached (a.0 ++ step.0) old new goes))
