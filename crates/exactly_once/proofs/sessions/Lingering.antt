-- A session that has ended, of which the client still receives packets on its newest connection:
-- the life as it was at the Expel, in which the client continues, and what came in the list since.
use Rattle.std.proofs.Common.{◌≡◌, ◌≤◌, ℕ, zero, suc, Bool, true, if◌then◌else◌, List, [], ◌∷◌, ◌++◌, None, sym, ◌∙◌, ap, ap₂, subst, arith}
use Rattle.std.proofs.lemmas.List.{append-nil}
use Rattle.lists.specs.Lists.{Each}
use Rattle.lists.proofs.Tests.{or_right}
use Rattle.broker_spec.specs.Connection.{ConnectionName}
use Rattle.broker_spec.specs.Place.{Client, Place, Past, Limits}
use Rattle.broker_spec.specs.Sessions.{accepts, clean_session_of, begins}
use Rattle.broker_spec.specs.NobodyTheorems.{IsSteady}
use Rattle.broker_spec.specs.AnswersInOrder.{answers_at}
use Rattle.client_base.specs.Keeper.{Keeper}
use Rattle.exactly_once.specs.Sides.{ClientConnection}
use Rattle.exactly_once.specs.Sends.{sends_to, put_to}
use Rattle.exactly_once.specs.Story.{Story, StoryStep}
use Rattle.exactly_once.specs.StoryCommands.{with_one_counted}
use Rattle.exactly_once.specs.Carried.{is_this}
use Rattle.exactly_once.specs.InStep.{has_begun, WasWelcome, AreWelcome, IsInStep, opens_on, opened_in, entries_in, accepted_in, starts_of}
use Rattle.exactly_once.proofs.places.After.{none_opens}
use Rattle.exactly_once.proofs.publishing.AtPlaces.{put_more}
use Rattle.exactly_once.proofs.sessions.Beside.{with_connections, flags_after}
use Rattle.exactly_once.proofs.sessions.Openings.{opened_same}
use Rattle.exactly_once.proofs.sessions.AcceptedShares.{Accepts, accepts_same, accepted_placed, accepted_counted}
use Rattle.exactly_once.proofs.sessions.Life.{IsLife}
use Rattle.exactly_once.proofs.sessions.LifeGoes.{life_goes}
use Rattle.exactly_once.proofs.sessions.Lasting.{Lasts}
use Rattle.exactly_once.proofs.sessions.LastingGoes.{Stands, stands_head, stands_goes, lasts_goes, all_fresh}
use Rattle.exactly_once.proofs.sessions.LastingAccepts.{lasting_accepts}
use Rattle.exactly_once.proofs.sessions.Turns.{starts_stay}
use Rattle.exactly_once.proofs.sessions.Parted.{entries_parted}

-- the life at the Expel, with what the client did since
pub record IsFrozen (limits : Limits) (c : Client) (flags : List Bool) (earlier : Past) (keeper : Keeper) (newest : ClientConnection) (before : List ClientConnection) : Type 0 where
  pub life : IsLife limits c (with_connections earlier keeper (newest ∷ before))
  pub stands : Stands limits c flags (with_connections earlier keeper (newest ∷ before))
  pub lasts : Lasts limits c flags earlier (newest ∷ before)
  pub step : Each (WasWelcome earlier c) before

-- what came in the list since: nothing for the newest connection, of which this many packets are
-- taken by now
pub record IsSince (limits : Limits) (c : Client) (past earlier : Past) (x : ConnectionName) (count : ℕ) (others before : List ClientConnection) : Type 0 where
  pub none : clean_session_of past c ≡ None
  pub begun : has_begun past c ≡ true
  pub some : 1 ≤ count
  pub put : put_to limits past x ≡ put_to limits earlier x
  pub opened : opened_in past c x ≡ opened_in earlier c x
  pub starts : starts_of past c ≡ starts_of earlier c
  pub entries : (start : ℕ) → entries_in limits past c start ≡ entries_in limits earlier c start
  pub rest : (start : ℕ) → accepted_in past c start others ≡ accepted_in earlier c start before

pub record Lingers (limits : Limits) (c : Client) (s : Story) : Type 0 where
  pub flags : List Bool
  pub earlier : Past
  pub newest : ClientConnection
  pub count : ℕ
  pub others : List ClientConnection
  pub before : List ClientConnection
  pub are : s.connections ≡ record newest { taken = count } ∷ others
  pub frozen : IsFrozen limits c flags earlier s.keeper newest before
  pub since : IsSince limits c s.past earlier newest.name count others before

-- ---- what the client accepted

pub lingers_accepts : (limits : Limits) → IsSteady limits → (c : Client) (s : Story) → Lingers limits c s → (start : ℕ) → Accepts limits c s.past s.connections start
lingers_accepts limits steady c s l start =
    accepts_same limits c l.earlier s.past (l.newest ∷ l.before) s.connections start (l.since.entries start)
    (ap (accepted_in s.past c start) l.are ∙ ap₂ (λ a b. a ++ b) (l.since.rest start) (ap (λ o. if is_this start o then l.newest.accepted else []) l.since.opened))
    (lasting_accepts limits steady c l.flags (with_connections l.earlier s.keeper (l.newest ∷ l.before)) l.frozen.life l.frozen.stands l.frozen.lasts start)

-- ---- the client continues

pub frozen_goes : (limits : Limits) (c : Client) (flags : List Bool) (earlier : Past) (keeper later : Keeper) (newest after : ClientConnection) (before connections : List ClientConnection)
    → IsFrozen limits c flags earlier keeper newest before → (h : StoryStep limits (with_connections earlier keeper (newest ∷ before)) (with_connections earlier later connections)) → flags_after flags h ≡ flags
    → connections ≡ after ∷ before → IsFrozen limits c flags earlier later after before
frozen_goes limits c flags earlier keeper later newest after before connections f h same are =
    let s = with_connections earlier keeper (newest ∷ before) in
    let t = with_connections earlier later connections in
    let life = life_goes limits c s t f.life h in
    let step : IsInStep t = subst (λ (l : List ClientConnection). AreWelcome earlier later.client l) (sym are) (subst (λ (d : Client). Each (WasWelcome earlier d) before) (sym life.keeper.client) f.step) in
    record {
      life = subst (λ (l : List ClientConnection). IsLife limits c (with_connections earlier later l)) are life;
      stands = subst (λ (l : List ClientConnection). Stands limits c flags (with_connections earlier later l)) are
          (subst (λ (fs : List Bool). Stands limits c fs t) same (stands_goes limits c flags s t f.life f.stands h step));
      lasts = subst (Lasts limits c flags earlier) are
          (subst (λ (fs : List Bool). Lasts limits c fs earlier connections) same (lasts_goes limits c flags s t f.life (stands_head limits c flags s f.stands) f.lasts h));
      step = f.step;
    }

-- ---- a place that opens none of the client's connections

rest_placed : (limits : Limits) (c : Client) (place : Place) (past earlier : Past) (x : ConnectionName) (count : ℕ) (others before : List ClientConnection) → accepts place.command place.mark c ≡ None
    → sends_to x (answers_at limits place past) ≡ [] → IsSince limits c past earlier x count others before → IsSince limits c (place ∷ past) earlier x count others before
rest_placed limits c place past earlier x count others before closed silent i =
    let none = none_opens place past c closed i.none in
    record {
      none = none;
      begun = or_right (begins place past c) (has_begun past c) i.begun;
      some = i.some;
      put = put_more limits place past x ∙ ap₂ (λ a b. a ++ b) i.put silent ∙ append-nil (put_to limits earlier x);
      opened = opened_same place past c x (ap (opens_on x) closed) ∙ i.opened;
      starts = starts_stay place past c closed ∙ i.starts;
      entries = λ start. entries_parted limits place past c start none ∙ i.entries start;
      rest = λ start. accepted_placed place past c start others (all_fresh place c others closed) ∙ i.rest start;
    }

-- one more packet is taken of the newest one, or of another
since_counted : (limits : Limits) (c : Client) (past earlier : Past) (x : ConnectionName) (count : ℕ) (others before : List ClientConnection) → IsSince limits c past earlier x count others before
    → IsSince limits c past earlier x (suc count) others before
since_counted limits c past earlier x count others before i =
    record { none = i.none; begun = i.begun; some = let h = i.some in omega (arith, h); put = i.put; opened = i.opened; starts = i.starts; entries = i.entries; rest = i.rest }

rest_counted : (limits : Limits) (c : Client) (past earlier : Past) (x : ConnectionName) (count j : ℕ) (others before : List ClientConnection) → IsSince limits c past earlier x count others before
    → IsSince limits c past earlier x count (with_one_counted j others) before
rest_counted limits c past earlier x count j others before i =
    record { none = i.none; begun = i.begun; some = i.some; put = i.put; opened = i.opened; starts = i.starts; entries = i.entries; rest = λ start. accepted_counted past c start j others ∙ i.rest start }

pub lingers_placed : (limits : Limits) (c : Client) (place : Place) (past : Past) (keeper : Keeper) (i : ℕ) (connections : List ClientConnection) → accepts place.command place.mark c ≡ None
    → (l : Lingers limits c (with_connections past keeper connections)) → sends_to l.newest.name (answers_at limits place past) ≡ [] → Lingers limits c (with_connections (place ∷ past) keeper (with_one_counted i connections))
lingers_placed limits c place past keeper i connections closed l silent = by i
  where
    since : IsSince limits c (place ∷ past) l.earlier l.newest.name l.count l.others l.before
    since = rest_placed limits c place past l.earlier l.newest.name l.count l.others l.before closed silent l.since

    by : (i : ℕ) → Lingers limits c (with_connections (place ∷ past) keeper (with_one_counted i connections))
    by zero =
        record {
          flags = l.flags;
          earlier = l.earlier;
          newest = l.newest;
          count = suc l.count;
          others = l.others;
          before = l.before;
          are = ap (with_one_counted 0) l.are;
          frozen = l.frozen;
          since = since_counted limits c (place ∷ past) l.earlier l.newest.name l.count l.others l.before since;
        }
    by (suc j) =
        record {
          flags = l.flags;
          earlier = l.earlier;
          newest = l.newest;
          count = l.count;
          others = with_one_counted j l.others;
          before = l.before;
          are = ap (with_one_counted (suc j)) l.are;
          frozen = l.frozen;
          since = rest_counted limits c (place ∷ past) l.earlier l.newest.name l.count j l.others l.before since;
        }
