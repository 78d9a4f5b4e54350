-- Which of a client's publications are new in the list: those of sessions that are over, and after
-- them those of the session that lasts; so their numbers rise.
use Rattle.std.proofs.Common.{◌≡◌, ◌<◌, ◌≤◌, ℕ, Bool, List, [], ◌∷◌, ◌++◌, length, refl, sym, ◌∙◌, ap, subst, arith, inl, inr}
use Rattle.lists.specs.Lists.{Each, IsPrefixOf}
use Rattle.lists.proofs.OfEach.{each_append, each_then}
use Rattle.broker_spec.specs.Place.{Client, Past, Limits}
use Rattle.broker_spec.specs.NobodyTheorems.{IsSteady}
use Rattle.client_base.specs.Keeper.{Own, Keeper, all_own, next_own_number}
use Rattle.client_base.specs.OrderTheorems.{AreNumbered}
use Rattle.std.proofs.lemmas.List.{append-nil}
use Rattle.exactly_once.specs.Sides.{ClientConnection}
use Rattle.exactly_once.specs.Story.{Story}
use Rattle.exactly_once.specs.StoryTrace.{StoryTrace}
use Rattle.exactly_once.specs.Carried.{new_numbers, own_qos2_numbers}
use Rattle.exactly_once.specs.InStep.{sessions_begun}
use Rattle.exactly_once.specs.Lives.{NumbersRise}
use Rattle.exactly_once.proofs.Ends.{numbers_in_order}
use Rattle.exactly_once.proofs.keeping.StoryTrace.{told_stories_are_sound}
use Rattle.exactly_once.proofs.sessions.Beside.{kept_of, HasBeside, with_connections}
use Rattle.exactly_once.proofs.sessions.Anew.{waiting}
use Rattle.exactly_once.proofs.sessions.Awaiting.{HasAwaiting}
use Rattle.exactly_once.proofs.sessions.Rising.{rising_after, published_from, published_below, published_rises, prefix_each, prefix_rises}
use Rattle.exactly_once.proofs.sessions.Life.{IsLife}
use Rattle.exactly_once.proofs.sessions.LastingGoes.{Stands}

-- ---- the rows

-- the numbers of those that are new rise, and each was given; while one session began they are a
-- prefix of what was published
pub record RisesSoFar (c : Client) (past : Past) (keeper : Keeper) (connections : List ClientConnection) : Type 0 where
  pub rising : NumbersRise (new_numbers connections past)
  pub below : Each (λ n. n < next_own_number keeper) (new_numbers connections past)
  pub first : sessions_begun past c ≤ 1 → IsPrefixOf (new_numbers connections past) (own_qos2_numbers (all_own keeper))

-- those of earlier sessions, each below this number, are before those of the story of this session
pub record HasOlds (c : Client) (flags : List Bool) (past : Past) (connections : List ClientConnection) (bound : ℕ) : Type 0 where
  pub olds : List ℕ
  pub is : new_numbers connections past ≡ olds ++ new_numbers (kept_of flags connections) past
  pub rising : NumbersRise olds
  pub below : Each (λ n. n < bound) olds
  pub alone : sessions_begun past c ≤ 1 → olds ≡ []

pub data Numbered (limits : Limits) (c : Client) (flags : List Bool) (s : Story) : Type 0 where
  lasts : HasBeside limits c flags s → HasOlds c flags s.past s.connections (length s.keeper.earlier) → (sessions_begun s.past c ≤ 1 → s.keeper.earlier ≡ []) → Numbered limits c flags s
  awaits : HasAwaiting limits c flags s → HasOlds c flags s.past s.connections (next_own_number s.keeper) → (sessions_begun s.past c ≤ 1 → ⊥) → Numbered limits c flags s

pub stands_numbered : (limits : Limits) (c : Client) (flags : List Bool) (s : Story) → Numbered limits c flags s → Stands limits c flags s
stands_numbered limits c flags s (lasts b o alone) = inr b
stands_numbered limits c flags s (awaits a o again) = inl a

-- ---- they rise

-- what is new in the story of the session
in_order : (limits : Limits) → IsSteady limits → (c : Client) (past : Past) (keeper : Keeper) (kept : List ClientConnection) → StoryTrace limits c (with_connections past keeper kept)
    → IsPrefixOf (new_numbers kept past) (own_qos2_numbers keeper.own)
in_order limits steady c past keeper kept told = numbers_in_order limits (with_connections past keeper kept) (told_stories_are_sound limits steady c (with_connections past keeper kept) told).publisher

none_before : (xs : List ℕ) → IsPrefixOf xs [] → xs ≡ []
none_before [] p = refl
none_before (x ∷ xs) p = absurd (let e = p.is in cc)

lasts_rises : (limits : Limits) → IsSteady limits → (c : Client) (flags : List Bool) (s : Story) → IsLife limits c s → HasBeside limits c flags s
    → HasOlds c flags s.past s.connections (length s.keeper.earlier) → (sessions_begun s.past c ≤ 1 → s.keeper.earlier ≡ []) → RisesSoFar c s.past s.keeper s.connections
lasts_rises limits steady c flags s life b o alone =
    record {
      rising = subst NumbersRise (sym o.is)
          (rising_after bound o.olds news o.rising o.below (prefix_rises news (own_qos2_numbers own) front (published_rises bound own numbers)) (prefix_each (λ m. bound ≤ m) news (own_qos2_numbers own) front (published_from bound own numbers)));
      below = subst (Each (λ n. n < next_own_number s.keeper)) (sym o.is)
          (each_append (λ n. n < next_own_number s.keeper) o.olds news (each_then (λ n. n < bound) (λ n. n < next_own_number s.keeper) o.olds (λ n less. omega (arith, less)) o.below)
          (prefix_each (λ n. n < next_own_number s.keeper) news (own_qos2_numbers own) front (published_below bound own numbers)));
      first = λ one.
          subst (λ (l : List ℕ). IsPrefixOf l (own_qos2_numbers (all_own s.keeper))) (sym (o.is ∙ ap (λ l. l ++ news) (o.alone one)))
          (subst (λ (earlier : List Own). IsPrefixOf news (own_qos2_numbers (earlier ++ own))) (sym (alone one)) front);
    }
  where
    own : List Own
    own = s.keeper.own

    bound : ℕ
    bound = length s.keeper.earlier

    news : List ℕ
    news = new_numbers (kept_of flags s.connections) s.past

    numbers : AreNumbered bound own
    numbers = life.keeper.numbers.1

    front : IsPrefixOf news (own_qos2_numbers own)
    front = in_order limits steady c s.past s.keeper (kept_of flags s.connections) b.told

awaits_rises : (limits : Limits) → IsSteady limits → (c : Client) (flags : List Bool) (s : Story) → HasAwaiting limits c flags s → HasOlds c flags s.past s.connections (next_own_number s.keeper)
    → (sessions_begun s.past c ≤ 1 → ⊥) → RisesSoFar c s.past s.keeper s.connections
awaits_rises limits steady c flags s a o again =
    record {
      rising = subst NumbersRise (sym all) o.rising;
      below = subst (Each (λ n. n < next_own_number s.keeper)) (sym all) o.below;
      first = λ one. absurd (again one);
    }
  where
    none : new_numbers (kept_of flags s.connections) s.past ≡ []
    none =
        ap (λ (l : List ClientConnection). new_numbers (kept_of flags l) s.past) a.are
        ∙ none_before (new_numbers (kept_of flags (a.newest ∷ a.others)) s.past) (in_order limits steady c s.past (waiting c [] [] s.keeper.is_open) (kept_of flags (a.newest ∷ a.others)) (a.awaits.told [] tt))

    all : new_numbers s.connections s.past ≡ o.olds
    all = o.is ∙ ap (λ l. o.olds ++ l) none ∙ append-nil o.olds

pub numbered_rises : (limits : Limits) → IsSteady limits → (c : Client) (flags : List Bool) (s : Story) → IsLife limits c s → Numbered limits c flags s → RisesSoFar c s.past s.keeper s.connections
numbered_rises limits steady c flags s life (lasts b o alone) = lasts_rises limits steady c flags s life b o alone
numbered_rises limits steady c flags s life (awaits a o again) = awaits_rises limits steady c flags s a o again
