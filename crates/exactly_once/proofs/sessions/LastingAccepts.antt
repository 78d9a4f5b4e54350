-- While a session of a client lasts, the client accepted a prefix in each of its sessions.
use Rattle.std.proofs.Common.{◌≡◌, ℕ, Bool, true, false, if◌then◌else◌, List, [], ◌∷◌, Option, Some, None, refl, sym, ◌∙◌, ap, subst, inl, inr}
use Rattle.std.specs.Prelude.{◌==◌}
use Rattle.lists.proofs.Tests.{eq_same, eq_is}
use Rattle.broker_spec.specs.Place.{Client, Past, Limits}
use Rattle.broker_spec.specs.Sessions.{session_start}
use Rattle.broker_spec.specs.NobodyTheorems.{IsSteady}
use Rattle.broker_spec.specs.Times.{entries_of}
use Rattle.client_base.specs.Keeper.{Keeper}
use Rattle.exactly_once.specs.Sides.{ClientConnection}
use Rattle.exactly_once.specs.Story.{Story}
use Rattle.exactly_once.specs.StoryTrace.{StoryTrace}
use Rattle.exactly_once.specs.Acceptance.{qos2_entries}
use Rattle.exactly_once.specs.Carried.{is_this}
use Rattle.exactly_once.specs.InStep.{entries_in}
use Rattle.exactly_once.proofs.keeping.StoryTrace.{told_stories_accept}
use Rattle.exactly_once.proofs.sessions.Beside.{kept_of, IsHeadKept, with_connections}
use Rattle.exactly_once.proofs.sessions.Anew.{waiting}
use Rattle.exactly_once.proofs.sessions.AcceptedShares.{Accepts}
use Rattle.exactly_once.proofs.sessions.Life.{AreShutUnopened, IsLife}
use Rattle.exactly_once.proofs.sessions.Lasting.{Lasts}
use Rattle.exactly_once.proofs.sessions.LastingGoes.{all_kept, Stands}

-- in this one
pub entries_now : (limits : Limits) (past : Past) (c : Client) (start : ℕ) → session_start past c ≡ Some start → entries_in limits past c start ≡ entries_of limits past c
unfolding session_start
entries_now limits [] c start e = absurd (cc)
entries_now limits (place ∷ past) c start e = ap (λ b. if b then entries_of limits (place ∷ past) c else entries_in limits past c start) (ap (is_this start) e ∙ eq_same start)

accepts_now : (limits : Limits) → IsSteady limits → (c : Client) (flags : List Bool) (past : Past) (keeper : Keeper) (connections : List ClientConnection) (start : ℕ) → keeper.client ≡ c → IsHeadKept flags
    → AreShutUnopened limits past c connections → Lasts limits c flags past connections → StoryTrace limits c (with_connections past keeper (kept_of flags connections)) → session_start past c ≡ Some start
    → Accepts limits c past connections start
accepts_now limits steady c flags past keeper connections start client head shut h told e =
    let a = told_stories_accept limits steady c (with_connections past keeper (kept_of flags connections)) told in
    record {
      prefix = a.prefix;
      others = a.others;
      is = ap qos2_entries (entries_now limits past c start e) ∙ ap (λ d. qos2_entries (entries_of limits past d)) (sym client) ∙ a.is;
      accepted = all_kept limits c flags past connections start head shut h e ∙ a.accepted;
      rest = a.rest;
    }

pub lasting_accepts : (limits : Limits) → IsSteady limits → (c : Client) (flags : List Bool) (s : Story) → IsLife limits c s → Stands limits c flags s → Lasts limits c flags s.past s.connections → (start : ℕ)
    → Accepts limits c s.past s.connections start
lasting_accepts limits steady c flags s life stands h start = by (session_start s.past c) refl
  where
    now : Stands limits c flags s → session_start s.past c ≡ Some start → Accepts limits c s.past s.connections start
    now (inr b) e = accepts_now limits steady c flags s.past s.keeper s.connections start life.keeper.client b.head life.connections.shut h b.told e
    now (inl a) e =
        subst (λ (l : List ClientConnection). Accepts limits c s.past l start) (sym a.are)
        (accepts_now limits steady c flags s.past (waiting c [] [] s.keeper.is_open) (a.newest ∷ a.others) start refl a.awaits.head (subst (AreShutUnopened limits s.past c) a.are life.connections.shut)
        (subst (Lasts limits c flags s.past) a.are h) (a.awaits.told [] tt) e)

    two : (n : ℕ) → session_start s.past c ≡ Some n → (b : Bool) → (n == start) ≡ b → Accepts limits c s.past s.connections start
    two n e true f = now stands (e ∙ ap (λ m. Some m) (eq_is n start f))
    two n e false f = h.elsewhere start (ap (is_this start) e ∙ f)

    by : (o : Option ℕ) → session_start s.past c ≡ o → Accepts limits c s.past s.connections start
    by None e = h.elsewhere start (ap (is_this start) e)
    by (Some n) e = two n e (n == start) refl
