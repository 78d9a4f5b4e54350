-- Sent.antt: what a call wrote went up, or the connection is lost; either way the client stays in order.
use Rattle.std.proofs.Common.{◌≡◌, ℕ, ◌<◌, Bool, true, false, List, [], ◌∷◌, ◌++◌, length, take, slice_index_or, Result, Ok, Err, refl, ap, sym, subst, ◌∙◌, ap₂, arith, ◌-◌, None, ◌⊎◌, inl, inr, slice_set}
use Rattle.std.proofs.lemmas.Bool.{both_ways}
use Rattle.std.proofs.lemmas.Option.{none-some}
use Rattle.std.proofs.lemmas.List.{length-append}
use Rattle.client_base.specs.declared.error.ClientError.{ClientError}
use Rattle.client_base.specs.declared.error.ClientError.TheVariants as errors
use Rattle.client_base.specs.State.{ClientState, is_open}
use Rattle.client_base.specs.declared.stage.Stage.{Stage}
use Rattle.client_base.specs.declared.stage.Stage.TheVariants as stages
use Rattle.client_base.specs.Steps.{Call, keeper_step, disconnected}
use Rattle.client_base.specs.Answered.{ClientOutcome}
use Rattle.client.specs.Core.{Core, AnswersCall, LeavesServer}
use Rattle.world_pipes.specs.declared.pair.PipePair.{PipePair}
use Rattle.world_pipes.specs.declared.sending.Sending.{Sending}
use Rattle.world_pipes.specs.declared.sending.Sending.TheVariants as sendings
use Rattle.world_pipes.specs.Held.{IsHeld}
use Rattle.world_pipes.specs.Inside.{MovesUp, SendsUp, CarriesToClient, stays_open}
use Rattle.world_pipes.specs.Piped.{Calls, TakesLeave, GoesUp, GoesUpWhere, CarriesDown, Piped, broken, come_down, piped, piped_up}
use Rattle.world_pipes.proofs.Newest.{last_set, last_splits}
use Rattle.world_pipes.proofs.StaysOpen.{heard_stays}

-- what was moved up is sent
pub moved_is_sent : (core left : Core) (pairs after : List PipePair) → 0 < length pairs → MovesUp core pairs left after →
    GoesUp core pairs sendings.Sent (piped left after)
moved_is_sent core left [] after some m = absurd (omega (arith, some))
moved_is_sent core left (first ∷ more) after some m =
    let pairs = first ∷ more in
    let older = take (length pairs - 1) pairs in
    let pair = slice_index_or pairs (length pairs - 1) first in
    let splits : pairs ≡ older ++ pair ∷ [] = last_splits pairs first some in
    (older, pair, splits, ap₂ piped m.handed (m.moved older pair splits))

-- ---- after a call

goes_up : (holds : Bool) (core left : Core) (pairs after : List PipePair) (sending : Sending) (holding : Bool) → (holds ≡ true → 0 < length pairs) →
    SendsUp holds core pairs sending holding left after → GoesUpWhere holds core pairs sending (piped left after)
goes_up false core left pairs after sending holding leads s = (s.0, ap₂ piped s.2 s.3)
goes_up true core left pairs after sendings.Sent holding leads s = moved_is_sent core left pairs after (leads refl) s.1
goes_up true core left pairs after sendings.Lost holding leads s = ap₂ piped s.1 s.2

pub called_so : (outcome : ClientOutcome) (old : Piped) (core left : Core) (after : List PipePair) (sending : Sending) (holds holding : Bool) → IsHeld holds old.core old.pairs
    → AnswersCall outcome old.core (Ok tt) core → SendsUp holds core old.pairs sending holding left after → Calls outcome old (Ok sending) (piped left after)
called_so outcome old core left after sending holds holding held does s = (
  core,
  does,
  subst (λ up. GoesUpWhere up core old.pairs sending (piped left after)) held.known (goes_up holds core left old.pairs after sending holding held.leads s),
)

some_left : (pairs after : List PipePair) (left core : Core) → 0 < length pairs → MovesUp core pairs left after → 0 < length after
some_left pairs after left core some m =
    let sent = moved_is_sent core left pairs after some m in
    let older = sent.0 in
    let is : after ≡ older ++ record sent.1 { up = sent.1.up ++ core.out } ∷ [] = ap (λ (p : Piped). p.pairs) sent.3 in
    rw is (omega (arith, length-append older (record sent.1 { up = sent.1.up ++ core.out } ∷ [])))

held_after : (holds : Bool) (core left : Core) (pairs after : List PipePair) (sending : Sending) (holding : Bool) → holds ≡ is_open core.state.stage
    → (holds ≡ true → 0 < length pairs) → SendsUp holds core pairs sending holding left after → IsHeld holding left after
held_after false core left pairs after sending holding known leads s =
    record {
      known = s.1 ∙ known ∙ ap (λ (c : Core). is_open c.state.stage) (sym s.2);
      leads = λ up. absurd (both_ways holding s.1 up);
      sent = λ up. absurd (both_ways holding s.1 up);
    }
held_after true core left pairs after sendings.Sent holding known leads s =
    record {
      known = s.0 ∙ known ∙ ap (λ (c : Core). is_open c.state.stage) (sym s.1.handed);
      leads = λ up. some_left pairs after left core (leads refl) s.1;
      sent = λ up. ap (λ (c : Core). c.out) s.1.handed;
    }
held_after true core left pairs after sendings.Lost holding known leads s =
    record {
      known = s.0 ∙ ap (λ (c : Core). is_open c.state.stage) (sym s.1);
      leads = λ up. absurd (both_ways holding s.0 up);
      sent = λ up. absurd (both_ways holding s.0 up);
    }

-- a call that ends no connection
pub held_so : (outcome : ClientOutcome) (before core left : Core) (pairs after : List PipePair) (sending : Sending) (holds holding : Bool) → IsHeld holds before pairs
    → outcome.state.stage ≡ before.state.stage → AnswersCall outcome before (Ok tt) core → SendsUp holds core pairs sending holding left after → IsHeld holding left after
held_so outcome before core left pairs after sending holds holding held stays does s =
    held_after holds core left pairs after sending holding
    (held.known ∙ ap is_open (sym stays) ∙ ap (λ (state : ClientState). is_open state.stage) (sym does.1.0))
    held.leads s

-- ---- taking leave

leaves_open : (stage : Stage) (state : ClientState) → (disconnected stage state).refusal ≡ None → is_open stage ≡ true
leaves_open stages.Closed state none = absurd (none-some _ (sym none))
leaves_open stages.Opened state none = refl
leaves_open stages.Online state none = refl

pub left_so : (old : Piped) (core left : Core) (after : List PipePair) (sending : Sending) (holds holding : Bool) → IsHeld holds old.core old.pairs
    → LeavesServer (keeper_step Call.Disconnects old.core.state) old.core (Ok tt) core → SendsUp holds core old.pairs sending holding left after
    → TakesLeave (keeper_step Call.Disconnects old.core.state) old (Ok sending) (piped left after)
left_so old core left after sending holds holding held leaves s =
    let up : holds ≡ true = held.known ∙ leaves_open old.core.state.stage old.core.state leaves.0 in (
      core,
      leaves,
      subst (λ up. GoesUpWhere up core old.pairs sending (piped left after)) up (goes_up holds core left old.pairs after sending holding held.leads s),
    )

-- ---- carrying down

-- the result of a piece, and went up
pub heard_so : (count : ℕ) (core mid left : Core) (pairs between after : List PipePair) (n : ℕ) (newest taken : PipePair) (read : Result (Unit {0}) ClientError)
    → 0 < length pairs → n ≡ length pairs → newest ≡ slice_index_or pairs (n - 1) newest → CarriesToClient count core newest read mid taken
    → between ≡ slice_set pairs (n - 1) taken → MovesUp mid between left after → CarriesDown count (piped core pairs) read (piped left after)
heard_so count core mid left pairs between after n newest taken read some counted is takes set m =
    let older = take (length pairs - 1) pairs in
    let index : n - 1 ≡ length pairs - 1 = ap (λ k. k - 1) counted in
    let put : between ≡ older ++ come_down count newest ∷ [] =
    set ∙ ap₂ (λ k w. slice_set pairs k w) index takes.1 ∙ last_set pairs newest (come_down count newest) some in
    record {
      older = older;
      pair = newest;
      newest = last_splits pairs newest some
          ∙ ap (λ (w : PipePair). older ++ w ∷ []) (ap (λ k. slice_index_or pairs k newest) (sym index) ∙ sym is);
      core = mid;
      read = read;
      carried = takes.0;
      goes_up = inl (refl, ap₂ piped m.handed (m.moved older (come_down count newest) put));
    }

abbrev pub as_error : ClientError → Result (Unit {0}) ClientError
as_error cause = Err cause

-- or found no memory
pub heard_in_vain : (count : ℕ) (core mid : Core) (pairs between : List PipePair) (n : ℕ) (newest taken : PipePair) (read : Result (Unit {0}) ClientError) (cause : ClientError)
    → 0 < length pairs → n ≡ length pairs → newest ≡ slice_index_or pairs (n - 1) newest → CarriesToClient count core newest read mid taken
    → between ≡ slice_set pairs (n - 1) taken → as_error cause ≡ as_error errors.Memory → CarriesDown count (piped core pairs) (Err cause) (broken mid between)
heard_in_vain count core mid pairs between n newest taken read cause some counted is takes set memory =
    let older = take (length pairs - 1) pairs in
    let index : n - 1 ≡ length pairs - 1 = ap (λ k. k - 1) counted in
    let put : between ≡ older ++ come_down count newest ∷ [] =
    set ∙ ap₂ (λ k w. slice_set pairs k w) index takes.1 ∙ last_set pairs newest (come_down count newest) some in
    record {
      older = older;
      pair = newest;
      newest = last_splits pairs newest some
          ∙ ap (λ (w : PipePair). older ++ w ∷ []) (ap (λ k. slice_index_or pairs k newest) (sym index) ∙ sym is);
      core = mid;
      read = read;
      carried = takes.0;
      goes_up = inr (memory, ap (λ all. broken mid all) put);
    }

pub held_carrying : (count : ℕ) (old new : Piped) (result : Result (Unit {0}) ClientError) (holds : Bool) → is_open old.core.state.stage ≡ true → CarriesDown count old result new
    → holds ≡ stays_open result → IsHeld holds new.core new.pairs
held_carrying count old new result holds up h is = held_end count old new result holds up h is h.goes_up
  where
    some_there : (older : List PipePair) (pair : PipePair) → 0 < length (older ++ pair ∷ [])
    some_there older pair = omega (arith, length-append older (pair ∷ []))

    held_end : (count : ℕ) (old new : Piped) (result : Result (Unit {0}) ClientError) (holds : Bool) → is_open old.core.state.stage ≡ true
        → (h : CarriesDown count old result new) → holds ≡ stays_open result
        → ((result ≡ h.read) × (new ≡ piped_up h.core h.older (come_down count h.pair)))
        ⊎ ((result ≡ Err errors.Memory) × (new ≡ broken h.core (h.older ++ come_down count h.pair ∷ [])))
        → IsHeld holds new.core new.pairs
    held_end count old new result holds up h is (inl end) =
        record {
          known = is ∙ ap stays_open end.0
              ∙ heard_stays _ old.core.state.stage old.core h.core h.read refl up h.carried
              ∙ ap (λ (p : Piped). is_open p.core.state.stage) (sym end.1);
          leads = λ on. rw end.1 (some_there h.older (record h.pair { up = h.pair.up ++ h.core.out; down = (come_down count h.pair).down }));
          sent = λ on. ap (λ (p : Piped). p.core.out) end.1;
        }
    held_end count old new result holds up h is (inr end) =
        let gone : holds ≡ false = is ∙ ap stays_open end.0 in
        record {
          known = gone ∙ ap (λ (p : Piped). is_open p.core.state.stage) (sym end.1);
          leads = λ on. absurd (both_ways holds gone on);
          sent = λ on. absurd (both_ways holds gone on);
        }
