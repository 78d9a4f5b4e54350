-- LossFollows.antt: what ended a client after some steps ended it after those before them too.
use Rattle.std.proofs.Common.{◌≡◌, ◌⊎◌, ℕ, Bool, true, false, List, [], ◌++◌, Option, Some, None, is_some, refl, sym, ap, subst, ◌∙◌, inl, inr}
use Rattle.std.specs.Prelude.{Result, Ok, Err, IfErr, IsErrAnd}
use Rattle.std.proofs.lemmas.Bool.{both_ways}
use Rattle.client_base.specs.declared.accepted.Accepted.{Accepted}
use Rattle.client_base.specs.declared.error.ClientError.{ClientError}
use Rattle.client_base.specs.declared.error.ClientError.TheVariants as errors
use Rattle.client.specs.Core.{Core}
use Rattle.client.specs.Input.{OnBytes}
use Rattle.user_client.specs.declared.user_client_error.UserClientError.{UserClientError}
use Rattle.user_client.specs.declared.user_client_error.UserClientError.TheVariants as clients
use Rattle.user_client.specs.Losses.{AsksForConnections, Denies, IsGivenUp, IsEndedBy, LosesSession, ends_client}
use Rattle.user_client.specs.Answers.{is_final}
use Rattle.user_client.specs.declared.answers.Answers.{Answers}
use Rattle.user_client.specs.declared.denial.Denial.{Denial}
use Rattle.user_client.specs.Refusals.{IsRefusedFor, error_of_call}
use Rattle.user_client.specs.Traces.{CallerView, Trace}
use Rattle.user_client.proofs.CallsAreSteps.{parts}
use Rattle.user_client.proofs.TracesJoin.{traces_join}

-- the server lost it just now
pub lost_here : (core : Core) (was : Bool) (said later : Answers) {seen : CallerView} (piece : List ℕ)
    (result : Result (Unit {0}) ClientError) (new : Core)
    → parts core was said ≡ seen → OnBytes piece core.state.stage core result new → result ≡ Err errors.SessionLost
    → LosesSession seen (parts new was later)
lost_here core was said later piece result new is reads lost =
    subst (λ (s : CallerView). LosesSession s (parts new was later)) is
    (record {
      taken = [];
      before = parts core was said;
      trace = Trace.starts;
      piece = piece;
      lost = subst (λ (r : Result (Unit {0}) ClientError). OnBytes piece core.state.stage core r new) lost reads;
    })

-- steps before it
pub loses_later : {start middle end : CallerView} {taken : List Accepted}
    → Trace start taken middle → LosesSession middle end → LosesSession start end
loses_later {taken = taken} trace loses =
    record {
      taken = taken ++ loses.taken;
      before = loses.before;
      trace = traces_join trace loses.trace;
      piece = loses.piece;
      lost = loses.lost;
    }

-- a denial after them
pub denies_later : {start middle end : CallerView} {taken : List Accepted} {denial : Denial}
    → Trace start taken middle → Denies middle end denial → Denies start end denial
denies_later {taken = taken} trace denies =
    record {
      taken = taken ++ denies.taken;
      trace = traces_join trace denies.trace;
      denied = denies.denied;
      final = denies.final;
    }

-- the same of each error
pub ended_later : {start middle : CallerView} {taken : List Accepted} (end : CallerView) (error : UserClientError)
    → Trace start taken middle → IsEndedBy middle end error → IsEndedBy start end error
ended_later end error trace ends =
    record {
      tries = ends.tries;
      lost = λ lost. loses_later trace (ends.lost lost);
      denied = λ denial is. denies_later trace (ends.denied denial is);
    }

-- the same of a result
pub lost_later : {T : Type 0} {start middle : CallerView} {taken : List Accepted} (end : CallerView) (r : Result T UserClientError)
    → Trace start taken middle → IfErr r (IsEndedBy middle end) → IfErr r (IsEndedBy start end)
lost_later end (Ok x) trace ends = tt
lost_later end (Err e) trace ends = ended_later end e trace ends

-- the same of an error that is passed on
pub passed_later : {T : Type 0} {start middle : CallerView} {taken : List Accepted} (end : CallerView) (r : Result T UserClientError)
    (error : UserClientError) → IsErrAnd r (λ (it : UserClientError). it ≡ error)
    → Trace start taken middle → IsEndedBy middle end error → IfErr r (IsEndedBy start end)
passed_later end (Ok x) error is trace ends = tt
passed_later {start = start} end (Err e) error is trace ends = subst (IsEndedBy start end) (sym is) (ended_later end error trace ends)

-- the same of the end of all connections
gives_up : {S : Type 0} (opens pauses : S → S → Type 0) (tries : ℕ) (first last : S) (start end : CallerView) (error : UserClientError)
    → IsEndedBy start end error → IsGivenUp opens pauses tries first last start end error
gives_up opens pauses tries first last start end error ends =
    record {
      all = λ lost. absurd (ends.tries lost);
      lost = ends.lost;
      denied = ends.denied;
    }

pub gives_up_later : {S T : Type 0} (opens pauses : S → S → Type 0) (tries : ℕ) (first last : S) {start middle : CallerView}
    {taken : List Accepted} (end : CallerView) (r : Result T UserClientError) (error : UserClientError)
    → IsErrAnd r (λ (it : UserClientError). it ≡ error) → Trace start taken middle → IsEndedBy middle end error
    → IfErr r (IsGivenUp opens pauses tries first last start end)
gives_up_later opens pauses tries first last end (Ok x) error is trace ends = tt
gives_up_later opens pauses tries first last {start = start} end (Err e) error is trace ends =
    subst (IsGivenUp opens pauses tries first last start end) (sym is)
    (gives_up opens pauses tries first last start end error (ended_later end error trace ends))

-- once each of them was requested
pub asked_all : {S : Type 0} (opens pauses : S → S → Type 0) (tries : ℕ) (first last : S) (start end : CallerView)
    → AsksForConnections opens pauses first tries last → IsGivenUp opens pauses tries first last start end clients.Lost
asked_all opens pauses tries first last start end asks =
    record {
      all = λ _. asks;
      lost = λ is. absurd cc;
      denied = λ denial is. absurd cc;
    }

-- an error that ends no client
pub ends_none : (start end : CallerView) (error : UserClientError) → ends_client error ≡ false → IsEndedBy start end error
ends_none start end error other =
    record {
      tries = λ is. absurd (both_ways true (ap ends_client (sym is) ∙ other) refl);
      lost = λ is. absurd (both_ways true (ap ends_client (sym is) ∙ other) refl);
      denied = λ denial is. absurd (both_ways true (ap ends_client (sym is) ∙ other) refl);
    }

pub never_lost : {T : Type 0} (start end : CallerView) (r : Result T UserClientError)
    → IfErr r (λ (it : UserClientError). ends_client it ≡ false) → IfErr r (IsEndedBy start end)
never_lost start end (Ok x) other = tt
never_lost start end (Err e) other = ends_none start end e other

-- a call that is refused ends no client
call_ends_none : (cause : ClientError) → ends_client (error_of_call cause) ≡ false
call_ends_none errors.Memory = refl
call_ends_none (errors.Malformed kind) = refl
call_ends_none errors.Protocol = refl
call_ends_none errors.NotActive = refl
call_ends_none errors.TooLarge = refl
call_ends_none errors.WindowFull = refl
call_ends_none errors.SessionLost = refl

pub cause_ends_none : (cause : ClientError) (it : UserClientError) → it ≡ error_of_call cause → ends_client it ≡ false
cause_ends_none cause it is = ap ends_client is ∙ call_ends_none cause

pub refused_ends_none : (cause : Option ClientError) (it : UserClientError) → IsRefusedFor cause it → ends_client it ≡ false
refused_ends_none cause it (inr memory) = ap ends_client memory
refused_ends_none None it (inl is) = absurd (both_ways true (ap is_some (sym is)) refl)
refused_ends_none (Some cause) it (inl is) = let same : error_of_call cause ≡ it = cc in ap ends_client (sym same) ∙ call_ends_none cause

-- bytes after which the session was lost, or for which there was no memory
pub heard_ends : (core : Core) (was : Bool) (said later : Answers) {seen : CallerView} (piece : List ℕ)
    (result : Result (Unit {0}) ClientError) (new : Core) (error : UserClientError)
    → parts core was said ≡ seen → OnBytes piece core.state.stage core result new
    → (error ≡ clients.SessionLost → result ≡ Err errors.SessionLost)
    → (error ≡ clients.SessionLost) ⊎ (error ≡ clients.Memory) → IsEndedBy seen (parts new was later) error
heard_ends core was said later piece result new error is reads lost (inr memory) =
    ends_none _ _ error (ap ends_client memory)
heard_ends core was said later piece result new error is reads lost (inl this) =
    record {
      tries = λ other. absurd cc;
      lost = λ so. lost_here core was said later piece result new is reads (lost so);
      denied = λ denial other. absurd cc;
    }

-- what the server denied for good
pub denial_ends : (start end : CallerView) (error : UserClientError) → Trace start [] end
    → (denial : Denial) × (error ≡ clients.Denied denial) × (end.answers.denial ≡ Some denial) × (is_final denial ≡ true)
    → IsEndedBy start end error
denial_ends start end error trace (denial, is, said, final) =
    record {
      tries = λ other. absurd cc;
      lost = λ other. absurd cc;
      denied = λ other so.
          let same : denial ≡ other = cc in
          record {
            taken = [];
            trace = trace;
            denied = said ∙ ap Some same;
            final = subst (λ (d : Denial). is_final d ≡ true) same final;
          };
    }
