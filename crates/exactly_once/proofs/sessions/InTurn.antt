-- What a client accepted it accepted in its sessions, one after another.
use Rattle.std.proofs.Common.{◌≡◌, ◌<◌, ℕ, zero, suc, Bool, true, false, if◌then◌else◌, List, [], ◌∷◌, ◌++◌, length, Option, Some, None, refl, sym, ◌∙◌, ap, ap₂, subst, inl, inr, ◌⊎◌, arith}
use Rattle.std.specs.Prelude.{◌==◌}
use Rattle.std.specs.List.{flat_map}
use Rattle.std.proofs.lemmas.Grind.{flat_map-append}
use Rattle.std.proofs.lemmas.List.{append_assoc, append-nil}
use Rattle.lists.specs.Lists.{Each}
use Rattle.lists.proofs.Tests.{eq_same}
use Rattle.session_base.specs.declared.publication.Publication.{Publication}
use Rattle.broker_spec.specs.Place.{Client, Place, Past}
use Rattle.broker_spec.specs.Sessions.{begins}
use Rattle.client_base.specs.Keeper.{Written}
use Rattle.client_base.specs.Written.{writes_first}
use Rattle.exactly_once.specs.Sides.{ClientConnection}
use Rattle.exactly_once.specs.StoryCommands.{with_one_counted}
use Rattle.exactly_once.specs.Acceptance.{accepted_on}
use Rattle.exactly_once.specs.Carried.{is_this}
use Rattle.exactly_once.specs.InStep.{opened_in, accepted_in, starts_of}
use Rattle.exactly_once.proofs.sessions.AcceptedShares.{share, none_in, accepted_placed, accepted_counted, accepted_new, kept_counted}
use Rattle.exactly_once.proofs.sessions.EachPlaced.{IsFresh, counted_none}
use Rattle.exactly_once.proofs.sessions.Openings.{opened_below}
use Rattle.exactly_once.proofs.sessions.Turns.{IsLastOf}

abbrev pub IsInTurn : Past → Client → List ClientConnection → Type 0
IsInTurn past c connections = accepted_on connections ≡ flat_map (λ start. accepted_in past c start connections) (starts_of past c)

-- on all but the newest
abbrev pub IsTailInTurn : Past → Client → List ClientConnection → Type 0
IsTailInTurn past c [] = Unit {0}
IsTailInTurn past c (κ ∷ others) = IsInTurn past c others

-- ---- lists

pub flat_map_same : (f g : ℕ → List Publication) → ((n : ℕ) → f n ≡ g n) → (ns : List ℕ) → flat_map f ns ≡ flat_map g ns
flat_map_same f g same [] = refl
flat_map_same f g same (n ∷ ns) = ap₂ (λ a b. a ++ b) (same n) (flat_map_same f g same ns)

flat_map_none : (ns : List ℕ) → flat_map (λ (n : ℕ). let l : List Publication = [] in l) ns ≡ []
flat_map_none [] = refl
flat_map_none (n ∷ ns) = flat_map_none ns

-- ---- a place

-- in a session that begins at this place nothing was accepted before
not_yet : (past : Past) (c : Client) (κ : ClientConnection) → share past c (length past) κ ≡ []
not_yet past c κ = by (opened_in past c κ.name) refl
  where
    below : (n : ℕ) → n < length past → (n == length past) ≡ false
    below n less = grind (arith, less)

    by : (o : Option ℕ) → opened_in past c κ.name ≡ o → share past c (length past) κ ≡ []
    by None e = ap (λ p. if is_this (length past) p then κ.accepted else []) e
    by (Some n) e =
        ap (λ p. if is_this (length past) p then κ.accepted else []) e
        ∙ ap (λ b. if b then κ.accepted else []) (below n (opened_below past c κ.name n e))

none_yet : (past : Past) (c : Client) (connections : List ClientConnection) → Each (λ (κ : ClientConnection). share past c (length past) κ ≡ []) connections
none_yet past c [] = tt
none_yet past c (κ ∷ connections) = (not_yet past c κ, none_yet past c connections)

after_place : (place : Place) (past : Past) (c : Client) (connections : List ClientConnection) → Each (IsFresh place c) connections
    → flat_map (λ start. accepted_in (place ∷ past) c start connections) (starts_of (place ∷ past) c) ≡ flat_map (λ start. accepted_in past c start connections) (starts_of past c)
after_place place past c connections fresh = by (begins place past c)
  where
    now : ℕ → List Publication
    now start = accepted_in (place ∷ past) c start connections

    was : ℕ → List Publication
    was start = accepted_in past c start connections

    same : (start : ℕ) → now start ≡ was start
    same start = accepted_placed place past c start connections fresh

    by : (b : Bool) → flat_map now (starts_of past c ++ (if b then length past ∷ [] else [])) ≡ flat_map was (starts_of past c)
    by true =
        flat_map-append now (starts_of past c) (length past ∷ [])
        ∙ ap₂ (λ a b. a ++ b) (flat_map_same now was same (starts_of past c))
        (append-nil (now (length past)) ∙ same (length past) ∙ none_in past c (length past) connections (none_yet past c connections))
        ∙ append-nil (flat_map was (starts_of past c))
    by false = ap (flat_map now) (append-nil (starts_of past c)) ∙ flat_map_same now was same (starts_of past c)

turn_placed : (place : Place) (past : Past) (c : Client) (i : ℕ) (connections : List ClientConnection) → Each (IsFresh place c) connections → IsInTurn past c connections
    → IsInTurn (place ∷ past) c (with_one_counted i connections)
turn_placed place past c i connections fresh h =
    kept_counted [] i connections ∙ h ∙ sym (after_place place past c connections fresh)
    ∙ flat_map_same (λ start. accepted_in (place ∷ past) c start connections) (λ start. accepted_in (place ∷ past) c start (with_one_counted i connections))
    (λ start. sym (accepted_counted (place ∷ past) c start i connections)) (starts_of (place ∷ past) c)

pub tail_placed : (place : Place) (past : Past) (c : Client) (i : ℕ) (connections : List ClientConnection) → Each (IsFresh place c) connections → IsTailInTurn past c connections
    → IsTailInTurn (place ∷ past) c (with_one_counted i connections)
tail_placed place past c i [] fresh h = tt
tail_placed place past c zero (κ ∷ others) fresh h =
    subst (λ (l : List ClientConnection). IsInTurn (place ∷ past) c l) (counted_none others) (turn_placed place past c (length others) others fresh.1 h)
tail_placed place past c (suc i) (κ ∷ others) fresh h = turn_placed place past c i others fresh.1 h

-- ---- the newest connection

pub tail_written : (past : Past) (c : Client) (more : List Written) (connections : List ClientConnection) → IsTailInTurn past c connections → IsTailInTurn past c (writes_first more connections)
tail_written past c more [] h = h
tail_written past c more (κ ∷ others) h = h

pub tail_maybe : (past : Past) (c : Client) (b : Bool) (more : List Written) (connections : List ClientConnection) → IsTailInTurn past c connections
    → IsTailInTurn past c (if b then writes_first more connections else connections)
tail_maybe past c true more connections h = tail_written past c more connections h
tail_maybe past c false more connections h = h

-- nothing was accepted on it, or it was opened in the session that began last
abbrev pub IsOfLast : Past → Client → ClientConnection → Type 0
IsOfLast past c κ = (κ.accepted ≡ []) ⊎ ((n : ℕ) × (opened_in past c κ.name ≡ Some n) × IsLastOf (starts_of past c) n)

abbrev pub IsHeadOfLast : Past → Client → List ClientConnection → Type 0
IsHeadOfLast past c [] = Unit {0}
IsHeadOfLast past c (κ ∷ others) = IsOfLast past c κ

module _ (past : Past) (c : Client) (κ : ClientConnection) (others : List ClientConnection) (n : ℕ) (opened : opened_in past c κ.name ≡ Some n) where
  abbrev whole : ℕ → List Publication
  whole start = accepted_in past c start others ++ (if is_this start (opened_in past c κ.name) then κ.accepted else [])

  abbrev rest : ℕ → List Publication
  rest start = accepted_in past c start others

  elsewhere : (m : ℕ) → (n == m) ≡ false → whole m ≡ rest m
  elsewhere m apart =
      ap (λ o. rest m ++ (if is_this m o then κ.accepted else [])) opened ∙ ap (λ b. rest m ++ (if b then κ.accepted else [])) apart ∙ append-nil (rest m)

  all_elsewhere : (ms : List ℕ) → Each (λ m. (n == m) ≡ false) ms → flat_map whole ms ≡ flat_map rest ms
  all_elsewhere [] apart = refl
  all_elsewhere (m ∷ ms) apart = ap₂ (λ a b. a ++ b) (elsewhere m apart.0) (all_elsewhere ms apart.1)

  here_all : whole n ≡ rest n ++ κ.accepted
  here_all = ap (λ o. rest n ++ (if is_this n o then κ.accepted else [])) opened ∙ ap (λ b. rest n ++ (if b then κ.accepted else [])) (eq_same n)

  -- the last share is at the end
  at_last : (starts : List ℕ) → IsLastOf starts n → flat_map rest starts ++ κ.accepted ≡ flat_map whole starts
  at_last starts l =
      ap (λ ms. flat_map rest ms ++ κ.accepted) l.are
      ∙ ap (λ ps. ps ++ κ.accepted) (flat_map-append rest l.before (n ∷ []) ∙ ap (λ ps. flat_map rest l.before ++ ps) (append-nil (rest n)))
      ∙ append_assoc (flat_map rest l.before) (rest n) κ.accepted
      ∙ ap₂ (λ a b. a ++ b) (sym (all_elsewhere l.before l.apart)) (sym here_all ∙ sym (append-nil (whole n)))
      ∙ sym (flat_map-append whole l.before (n ∷ [])) ∙ sym (ap (flat_map whole) l.are)

head_in_turn : (past : Past) (c : Client) (κ : ClientConnection) (others : List ClientConnection) → IsOfLast past c κ → IsInTurn past c others → IsInTurn past c (κ ∷ others)
head_in_turn past c κ others (inl nothing) h =
    ap (λ l. accepted_on others ++ l) nothing ∙ append-nil (accepted_on others) ∙ h
    ∙ flat_map_same (λ start. accepted_in past c start others) (λ start. accepted_in past c start (κ ∷ others)) (λ start. sym (accepted_new past c start κ others nothing)) (starts_of past c)
head_in_turn past c κ others (inr (n, opened, last)) h =
    ap (λ l. l ++ κ.accepted) h ∙ at_last past c κ others n opened (starts_of past c) last

pub all_in_turn : (past : Past) (c : Client) (connections : List ClientConnection) → IsHeadOfLast past c connections → IsTailInTurn past c connections → IsInTurn past c connections
all_in_turn past c [] head h = sym (flat_map_none (starts_of past c))
all_in_turn past c (κ ∷ others) head h = head_in_turn past c κ others head h
