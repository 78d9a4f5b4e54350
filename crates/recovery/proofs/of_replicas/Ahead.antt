-- Ahead.antt: a replica that took a snapshot may have applied more of its log than one that took the whole log. It takes each
-- message of a way out as that one does.
use Rattle.std.proofs.Common.{cond, Bool, ◌≡◌, ℕ, ◌≤◌, ◌⊎◌, inl, inr, true, false, max, List, [], ◌∷◌, ◌++◌, length, take, drop, refl, ap, sym, ◌∙◌, subst, arith}
use Rattle.std.specs.Prelude.{nat_lt, nat_le, ◌&&◌, ◌||◌, ◌==◌}
use Rattle.std.specs.List.{list_any}
use Rattle.std.proofs.lemmas.Bool.{and_parts, and_from, both_ways, cases_Bool, false_from_ne_true, le-leb, leb-true, ltb-true}
use Rattle.lists.specs.Lists.{IsPrefixOf}
use Rattle.std.proofs.lemmas.List.{append-nil}
use Rattle.lists.proofs.Prefixes.{prefix_length, take_prefix}
use Rattle.machine.specs.Machine.{Rules, replay, replay_from}
use Rattle.agreement.specs.whole_logs.Messages.{Body}
use Rattle.agreement.specs.whole_logs.Messages.Body.{NewBallot, Join, State, Install, Installed, Activate, Activated, Superseded, Append, Held, Commit}
use Rattle.ballot_base.specs.declared.status.Role.TheVariants.{Active, Backup}
use Rattle.agreement.specs.whole_logs.Transfer.{on_new_ballot, on_join, on_state, on_install}
use Rattle.agreement.specs.whole_logs.Activation.{activates, on_installed, on_activated, on_superseded}
use Rattle.agreement.specs.whole_logs.Protocol.{received}
use Rattle.agreement.specs.whole_logs.Replica.{ReplicaState}
use Rattle.ballot_base.specs.Replica.{is_active, is_fetching, is_installing, others, progress_at}
use Rattle.agreement.specs.whole_logs.StepOutcome.{Outcome, message_to, nothing_done}
use Rattle.agreement.specs.whole_logs.Service.{added, extended, follows, leads, on_append, on_commit, on_held}
use Rattle.ballot_base.specs.Service.{max_places}
use Rattle.ballot_base.proofs.AppliesInOrder.{replay_goes_on}
use Rattle.agreement.proofs.of_whole_logs.ChangeRows.{on_install-answers, on_install-stays, on_state-stays}

-- a replica that holds the log of this ballot, and leads nothing yet, with more of the log applied
pub record IsAhead {S C O : Type 0} (rules : Rules S C O) (ballot : ℕ) (p s : ReplicaState S C) : Type 0 where
  pub places : ℕ
  pub is : s ≡ record p { committed = places; machine = replay rules (take places p.log) }
  pub more : p.committed ≤ places
  pub within : places ≤ length p.log
  pub joined : p.joined ≡ ballot
  pub held : p.held_in ≡ ballot
  pub passive : is_active p.role ≡ false
  pub fetched : is_fetching p.role ≡ false

-- the same, or ahead
abbrev pub IsLike : {S C O : Type 0} → Rules S C O → ℕ → ReplicaState S C → ReplicaState S C → Type 0
IsLike rules ballot p s = (s ≡ p) ⊎ IsAhead rules ballot p s

pub record AreLike {S C O : Type 0} (rules : Rules S C O) (ballot : ℕ) (o u : Outcome S C O) : Type 0 where
  pub state : IsLike rules ballot o.state u.state
  pub effects : u.effects ≡ o.effects

pub like_then : {S C O : Type 0} (rules : Rules S C O) (ballot : ℕ) (p s t : ReplicaState S C) → IsLike rules ballot p s → IsLike rules ballot s t → IsLike rules ballot p t
like_then rules ballot p s t one (inl same) = subst (IsLike rules ballot p) (sym same) one
like_then rules ballot p s t (inl same) (inr more) = subst (λ (x : ReplicaState _ _). IsLike rules ballot x t) same (inr more)
like_then {S = S} {C = C} rules ballot p s t (inr one) (inr more) =
    inr (record {
      places = more.places;
      is = more.is ∙ ap (λ (x : ReplicaState S C). let y : ReplicaState S C = record x { committed = more.places; machine = replay rules (take more.places x.log) } in y) one.is;
      more = (let a = one.more in let b = more.more in let c = ap (λ (x : ReplicaState S C). x.committed) one.is in omega (arith, a, b, c));
      within = subst (λ (x : ReplicaState S C). more.places ≤ length x.log) one.is more.within;
      joined = one.joined;
      held = one.held;
      passive = one.passive;
      fetched = one.fetched;
    })

-- ---- by a test

if_like : {S C O : Type 0} (rules : Rules S C O) (ballot : ℕ) (t : Bool) {o u v w : Outcome S C O} → (t ≡ true → AreLike rules ballot o v) → (t ≡ false → AreLike rules ballot u w) →
    AreLike rules ballot (cond t o u) (cond t v w)
if_like rules ballot true f g = f refl
if_like rules ballot false f g = g refl

joined_if : {S C O : Type 0} (t : Bool) (o u : Outcome S C O) (n : ℕ) → (cond t o u).state.joined ≡ n → t ≡ true → o.state.joined ≡ n
joined_if true o u n j e = j
joined_if false o u n j e = absurd (both_ways false refl e)

module _ {S C O : Type 0} (rules : Rules S C O) (ballot : ℕ) (p : ReplicaState S C) (k : ℕ) (more : p.committed ≤ k) (within : k ≤ length p.log)
    (joined : p.joined ≡ ballot) (held : p.held_in ≡ ballot) (passive : is_active p.role ≡ false) (fetched : is_fetching p.role ≡ false) where
  abbrev s : ReplicaState S C
  s = record p { committed = k; machine = replay rules (take k p.log) }

  -- nothing is done by either
  stays : AreLike {O = O} rules ballot (nothing_done O p) (nothing_done O s)
  stays = record {
    state = inr (record { places = k; is = refl; more = more; within = within; joined = joined; held = held; passive = passive; fetched = fetched });
    effects = refl;
  }

  new_ballot : (b : ℕ) (members : List ℕ) (a : ℕ) (old : List ℕ) → (on_new_ballot O p b members a old).state.joined ≡ ballot →
      AreLike {O = O} rules ballot (on_new_ballot O p b members a old) (on_new_ballot O s b members a old)
  unfolding on_new_ballot
  new_ballot b members a old after =
      if_like rules ballot (nat_lt p.joined b)
      (λ e. absurd (let x = joined_if (nat_lt p.joined b) _ (nothing_done O p) ballot after e in let y = ltb-true p.joined b e in omega (arith, x, y, joined))) (λ e. stays)

  join : (from b a : ℕ) → (on_join O p from b a).state.joined ≡ ballot → AreLike {O = O} rules ballot (on_join O p from b a) (on_join O s from b a)
  unfolding on_join
  join from b a after =
      if_like rules ballot (nat_le p.joined b && nat_le a p.held_in)
      (λ e. record { state = by (nat_lt p.joined b) refl (joined_if (nat_le p.joined b && nat_le a p.held_in) _ (nothing_done O p) ballot after e); effects = refl }) (λ e. stays)
    where
      by : (t : Bool) → nat_lt p.joined b ≡ t → (cond t (record p { joined = b; role = Backup }) p).joined ≡ ballot →
          IsLike rules ballot (cond t (record p { joined = b; role = Backup }) p) (cond t (record s { joined = b; role = Backup }) s)
      by true e j = absurd (let y = ltb-true p.joined b e in omega (arith, j, y, joined))
      by false e j = stays.state

  state : (b : ℕ) (log : List C) → AreLike {O = O} rules ballot (on_state O p b log) (on_state O s b log)
  state b log =
      subst (λ (o : Outcome S C O). AreLike rules ballot o (on_state O s b log)) (sym (on_state-stays O p b log (none p.committed)))
      (subst (λ (u : Outcome S C O). AreLike rules ballot (nothing_done O p) u) (sym (on_state-stays O s b log (none k))) stays)
    where
      none : (n : ℕ) → (p.joined == b && (is_fetching p.role && nat_le n (length log))) ≡ false
      none n = false_from_ne_true (p.joined == b && (is_fetching p.role && nat_le n (length log)))
          (λ e. both_ways (is_fetching p.role) fetched (and_parts (is_fetching p.role) (nat_le n (length log)) (and_parts (p.joined == b) (is_fetching p.role && nat_le n (length log)) e).1).0)

  install : (from b : ℕ) (log : List C) → (on_install O p from b log).state.joined ≡ ballot → AreLike {O = O} rules ballot (on_install O p from b log) (on_install O s from b log)
  unfolding on_install
  install from b log after = by (cases_Bool (p.joined == b && p.held_in == b))
    where
      lacks : Bool
      lacks = nat_lt p.joined b || (p.joined == b && nat_lt p.held_in b)

      joins : (on_install O p from b log).state.joined ≡ ballot → (lacks && nat_le p.committed (length log)) ≡ true → b ≡ ballot
      joins j e =
          joined_if (lacks && nat_le p.committed (length log))
          (record { state = record p { joined = b; held_in = b; log = log; role = Backup }; effects = message_to O p.id (Installed b (length log)) from ∷ [] })
          (cond (p.joined == b && p.held_in == b) (record { state = p; effects = message_to O p.id (Installed b (length log)) from ∷ [] }) (nothing_done O p)) ballot j e

      none_lacks : b ≡ ballot → lacks ≡ false
      none_lacks e = by_test (cases_Bool (nat_lt p.joined b)) (cases_Bool (nat_lt p.held_in b))
        where
          by_test : (nat_lt p.joined b ≡ true) ⊎ (nat_lt p.joined b ≡ false) → (nat_lt p.held_in b ≡ true) ⊎ (nat_lt p.held_in b ≡ false) → lacks ≡ false
          by_test (inl f) other = absurd (let x = ltb-true p.joined b f in omega (arith, x, e, joined))
          by_test (inr f) (inl g) = absurd (let x = ltb-true p.held_in b g in omega (arith, x, e, held))
          by_test (inr f) (inr g) = ap (λ (t : Bool). t || (p.joined == b && nat_lt p.held_in b)) f ∙ ap (λ (t : Bool). p.joined == b && t) g ∙ by_eq (p.joined == b)
            where
              by_eq : (t : Bool) → (t && false) ≡ false
              by_eq true = refl
              by_eq false = refl

      not_taken : (lacks && nat_le p.committed (length log)) ≡ false
      not_taken = false_from_ne_true _ (λ e. both_ways lacks (none_lacks (joins after e)) (and_parts lacks (nat_le p.committed (length log)) e).0)

      nor_ahead : (lacks && nat_le k (length log)) ≡ false
      nor_ahead = false_from_ne_true _ (λ e.
          let z = and_parts lacks (nat_le k (length log)) e in let low = leb-true k (length log) z.1 in
          both_ways (lacks && nat_le p.committed (length log)) not_taken
          (and_from lacks (nat_le p.committed (length log)) z.0 (le-leb p.committed (length log) (let m = more in omega (arith, low, m)))))

      by : ((p.joined == b && p.held_in == b) ≡ true) ⊎ ((p.joined == b && p.held_in == b) ≡ false) → AreLike {O = O} rules ballot (on_install O p from b log) (on_install O s from b log)
      by (inl e) =
          subst (λ (o : Outcome S C O). AreLike rules ballot o (on_install O s from b log)) (sym (on_install-answers O p from b log not_taken e))
          (subst (λ (u : Outcome S C O). AreLike rules ballot (record { state = p; effects = message_to O p.id (Installed b (length log)) from ∷ [] }) u) (sym (on_install-answers O s from b log nor_ahead e)) (record { state = stays.state; effects = refl }))
      by (inr e) =
          subst (λ (o : Outcome S C O). AreLike rules ballot o (on_install O s from b log)) (sym (on_install-stays O p from b log not_taken e))
          (subst (λ (u : Outcome S C O). AreLike rules ballot (nothing_done O p) u) (sym (on_install-stays O s from b log nor_ahead e)) stays)

  installed : (from b : ℕ) → AreLike {O = O} rules ballot (on_installed O p from b) (on_installed O s from b)
  unfolding on_installed
  installed from b =
      if_like rules ballot ((p.joined == b && is_installing p.role) && list_any (λ member. member == from) p.lacking)
      (λ e. record {
        state = inr (record { places = k; is = refl; more = more; within = within; joined = joined; held = held; passive = passive; fetched = fetched });
        effects = asks (others from p.lacking);
      })
      (λ e. stays)
    where
      asks : (lacking : List ℕ) → activates O (record s { lacking = lacking }) lacking ≡ activates O (record p { lacking = lacking }) lacking
      asks [] = refl
      asks (m ∷ ms) = refl

  superseded : (b : ℕ) → AreLike {O = O} rules ballot (on_superseded O p b) (on_superseded O s b)
  unfolding on_superseded
  superseded b =
      if_like rules ballot (p.joined == b && is_installing p.role)
      (λ e. record {
        state = inr (record { places = k; is = refl; more = more; within = within; joined = joined; held = held; passive = refl; fetched = refl });
        effects = refl;
      })
      (λ e. stays)

  -- all of the log is applied by both
  activated : (b : ℕ) → p.committed ≤ length p.log → p.machine ≡ replay rules (take p.committed p.log) →
      AreLike {O = O} rules ballot (on_activated rules p b) (on_activated rules s b)
  unfolding on_activated
  activated b low replays =
      if_like rules ballot ((p.joined == b && is_installing p.role) && (nat_le (length p.lacking) 0 && nat_lt (length p.log) max_places))
      (λ e. subst (λ (x : S). AreLike {O = O} rules ballot (added rules (with_all (replay_from rules p.machine (drop p.committed (take (length p.log) p.log)))) (rules.start_of b))
      (added rules (with_all x) (rules.start_of b))) one (record { state = inl refl; effects = refl })) (λ e. stays)
    where
      with_all : S → ReplicaState S C
      with_all m = record p { committed = length p.log; machine = m; role = Active; progress = progress_at (length p.log) (others p.id p.members) }

      one : replay_from rules p.machine (drop p.committed (take (length p.log) p.log)) ≡ replay_from rules (replay rules (take k p.log)) (drop k (take (length p.log) p.log))
      one = replay_goes_on rules p.machine p.log p.committed (length p.log) low replays ∙ sym (replay_goes_on rules (replay rules (take k p.log)) p.log k (length p.log) within refl)

  append : (from b place : ℕ) (c : C) → AreLike {O = O} rules ballot (on_append O p from b place c) (on_append O s from b place c)
  unfolding on_append
  append from b place c =
      if_like rules ballot (follows p b && nat_le place (length p.log))
      (λ e. record {
        state = inr (record {
          places = k;
          is = ap (λ (us : List C). let x : ReplicaState S C = record p { log = extended place c p.log; committed = k; machine = replay rules us } in x) (sym front);
          more = more;
          within = (let z = long in let w = within in omega (arith, z, w));
          joined = joined;
          held = held;
          passive = passive;
          fetched = fetched;
        });
        effects = refl;
      })
      (λ e. stays)
    where
      begins : IsPrefixOf p.log (extended place c p.log)
      begins = by (place == length p.log)
        where
          by : (t : Bool) → IsPrefixOf p.log (cond t (p.log ++ c ∷ []) p.log)
          by true = record { rest = c ∷ []; is = refl }
          by false = record { rest = []; is = sym (append-nil p.log) }

      front : take k (extended place c p.log) ≡ take k p.log
      front = take_prefix k begins within

      long : length p.log ≤ length (extended place c p.log)
      long = prefix_length begins

  commits : (b n : ℕ) → AreLike {O = O} rules ballot (on_commit rules p b n) (on_commit rules s b n)
  unfolding on_commit
  commits b n =
      if_like rules ballot (follows p b && nat_le n (length p.log))
      (λ e. record {
        state = inr (record {
          places = max k n;
          is = ap (λ (m : S). let x : ReplicaState S C = record p { committed = max k n; machine = m } in x)
              (replay_goes_on rules (replay rules (take k p.log)) p.log k (max k n) (omega arith) refl);
          more = (let m = more in omega (arith, m));
          within = (let z = leb-true n (length p.log) (and_parts (follows p b) (nat_le n (length p.log)) e).1 in let w = within in omega (arith, z, w));
          joined = joined;
          held = held;
          passive = passive;
          fetched = fetched;
        });
        effects = refl;
      })
      (λ e. stays)

  holds : (from b n : ℕ) → AreLike {O = O} rules ballot (on_held rules p from b n) (on_held rules s from b n)
  unfolding on_held
  holds from b n =
      if_like rules ballot (leads p b) (λ e. absurd (both_ways (is_active p.role) passive (and_parts (p.joined == b) (is_active p.role) e).1)) (λ e. stays)

  pub takes_so : (from : ℕ) (body : Body C) → p.committed ≤ length p.log → p.machine ≡ replay rules (take p.committed p.log) → (received rules p from body).state.joined ≡ ballot →
      AreLike rules ballot (received rules p from body) (received rules s from body)
  takes_so from (NewBallot b members a old) low replays after = new_ballot b members a old after
  takes_so from (Join b a) low replays after = join from b a after
  takes_so from (State b log) low replays after = state b log
  takes_so from (Install b log) low replays after = install from b log after
  takes_so from (Installed b n) low replays after = installed from b
  takes_so from (Activate b) low replays after = stays
  takes_so from (Activated b) low replays after = activated b low replays
  takes_so from (Superseded b) low replays after = superseded b
  takes_so from (Append b place c) low replays after = append from b place c
  takes_so from (Held b n) low replays after = holds from b n
  takes_so from (Commit b n) low replays after = commits b n

-- whichever it is
pub like_received : {S C O : Type 0} (rules : Rules S C O) (ballot : ℕ) (p s : ReplicaState S C) (from : ℕ) (body : Body C) → IsLike rules ballot p s →
    p.committed ≤ length p.log → p.machine ≡ replay rules (take p.committed p.log) → (received rules p from body).state.joined ≡ ballot →
    AreLike rules ballot (received rules p from body) (received rules s from body)
like_received {S = S} {C = C} rules ballot p s from body (inl same) low replays after =
    subst (λ (x : ReplicaState S C). AreLike rules ballot (received rules p from body) (received rules x from body)) (sym same) (record { state = inl refl; effects = refl })
like_received {S = S} {C = C} rules ballot p s from body (inr a) low replays after =
    subst (λ (x : ReplicaState S C). AreLike rules ballot (received rules p from body) (received rules x from body)) (sym a.is)
    (takes_so rules ballot p a.places a.more a.within a.joined a.held a.passive a.fetched from body low replays after)
