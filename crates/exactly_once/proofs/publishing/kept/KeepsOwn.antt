-- Losses, requests and a CONNACK 0 keep the shape of a client's publications.
use Rattle.std.proofs.Common.{ℕ, Bool, true, false, if◌then◌else◌, List, [], ◌∷◌, ◌++◌, map, filter, refl, ◌∙◌, subst, length}
use Rattle.std.proofs.lemmas.Bool.{both_ways}
use Rattle.lists.specs.Lists.{IsDistinct}
use Rattle.lists.proofs.Identifiers.{distinct_after}
use Rattle.client_base.specs.declared.request.Request.{Request}
use Rattle.client_base.specs.Keeper.{Keeper, ids_of_own, ids_in_use}
use Rattle.client_base.specs.State.{id_of_request}
use Rattle.client_base.specs.Written.{sent_all}
use Rattle.client_base.specs.Handled.{discarded, lost}
use Rattle.exactly_once.specs.Inside.OwnShape.{OwnInShape}
use Rattle.exactly_once.proofs.publishing.kept.Fewer.{IsFewer, fewer_itself, fewer_both, fewer_distinct, fewer_requests}
use Rattle.exactly_once.proofs.publishing.kept.MoreOwn.{ids_sent, numbered_sent, queued_sent, released_sent}

pub fewer_none : (xs : List ℕ) → IsFewer [] xs
fewer_none [] = IsFewer.none
fewer_none (x ∷ xs) = IsFewer.skips (fewer_none xs)

-- the client leaves
pub lost_keeps : (keeper : Keeper) (opened : Bool) → OwnInShape keeper → OwnInShape (record (lost keeper) { is_open = opened })
lost_keeps keeper opened s =
    record {
      ids_apart = fewer_distinct (ids_of_own keeper.own ++ []) (ids_in_use keeper)
          (fewer_both (ids_of_own keeper.own) (ids_of_own keeper.own) [] (map id_of_request keeper.requests) (fewer_itself (ids_of_own keeper.own)) (fewer_none (map id_of_request keeper.requests))) s.ids_apart;
      numbered = s.numbered;
      releases_apart = s.releases_apart;
      releases_are = s.releases_are;
      online_sent = λ e. absurd (both_ways false refl e);
    }

-- received identifiers are no matter
pub received_keeps : (keeper : Keeper) (received : List ℕ) → OwnInShape keeper → OwnInShape (record keeper { received = received })
received_keeps keeper received s =
    record { ids_apart = s.ids_apart; numbered = s.numbered; releases_apart = s.releases_apart; releases_are = s.releases_are; online_sent = s.online_sent }

-- fewer requests
pub requests_keep : (keeper : Keeper) (test : Request → Bool) → OwnInShape keeper → OwnInShape (record keeper { requests = filter test keeper.requests })
requests_keep keeper test s =
    record {
      ids_apart = fewer_distinct (ids_of_own keeper.own ++ map id_of_request (filter test keeper.requests)) (ids_in_use keeper)
          (fewer_both (ids_of_own keeper.own) (ids_of_own keeper.own) (map id_of_request (filter test keeper.requests)) (map id_of_request keeper.requests) (fewer_itself (ids_of_own keeper.own))
          (fewer_requests test keeper.requests)) s.ids_apart;
      numbered = s.numbered;
      releases_apart = s.releases_apart;
      releases_are = s.releases_are;
      online_sent = s.online_sent;
    }

-- CONNACK 0
pub confirmed_keeps : (kept : Keeper) → OwnInShape kept → OwnInShape (record kept { own = sent_all kept.own; is_online = true; was_served = true })
confirmed_keeps kept s =
    record {
      ids_apart = subst (λ (ids : List ℕ). IsDistinct (ids ++ map id_of_request kept.requests)) (ids_sent kept.own) s.ids_apart;
      numbered = numbered_sent (length kept.earlier) kept.own s.numbered;
      releases_apart = s.releases_apart;
      releases_are = λ j. s.releases_are j ∙ released_sent j kept.own;
      online_sent = λ e. queued_sent kept.own;
    }

pub discarded_keeps : (keeper : Keeper) (b : Bool) → OwnInShape keeper → OwnInShape (if b then discarded keeper else keeper)
discarded_keeps keeper false s = s
discarded_keeps keeper true s =
    record {
      ids_apart = (distinct_after (ids_of_own keeper.own) (map id_of_request keeper.requests) (s.ids_apart));
      numbered = tt;
      releases_apart = tt;
      releases_are = λ j. refl;
      online_sent = λ e. refl;
    }
