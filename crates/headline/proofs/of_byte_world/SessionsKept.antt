-- If no Connect is clean no session is.
use Rattle.std.proofs.Common.{◌≡◌, Bool, true, false, List, [], ◌∷◌, Option, Some, None, refl, sym, ap, ◌∙◌, subst}
use Rattle.std.specs.Prelude.{not, ◌&&◌, ◌||◌}
use Rattle.lists.specs.Lists.{Each, In}
use Rattle.lists.specs.Lists.In.{here, there}
use Rattle.lists.proofs.Members.{in_left}
use Rattle.broker_spec.specs.declared.command.Command.{Command}
use Rattle.broker_spec.specs.declared.command.Command.TheVariants as commands
use Rattle.broker_spec.specs.Commands.{past_from, past_of, place_of, usual_limits}
use Rattle.broker_spec.specs.Connection.{ConnectionName}
use Rattle.broker_spec.specs.Sessions.{accepts, current_connection, ends_any, expels, newest_clean_session, clean_session_of}
use Rattle.broker_spec.specs.Place.{Client, Limits, Mark, Past, Place, only_if, same_client}
use Rattle.headline.specs.byte_world.Kept.{NoSessionIsClean, NoneIsClean}

-- a command that asks for no clean session
abbrev IsKept : Command → Type 0
IsKept (commands.Connect x c clean) = clean ≡ false
IsKept _ = Unit {0}

each_kept : (list : List Command) → NoneIsClean list → Each IsKept list
each_kept [] none = tt
each_kept (command ∷ list) none = (first command (λ x c clean i. none x c clean i), each_kept list (λ x c clean i. none x c clean (there i)))
  where
    first : (one : Command) → ((x : ConnectionName) (c : Client) (clean : Bool) → In (commands.Connect x c clean) (one ∷ list) → clean ≡ false) → IsKept one
    first (commands.Connect x c clean) f = f x c clean here
    first _ f = tt

-- the places of such commands
places_kept : (limits : Limits) (past : Past) (list : List Command) → Each IsKept list → Each (λ (place : Place). IsKept place.command) past
    → Each (λ (place : Place). IsKept place.command) (past_from limits past list)
unfolding past_from
places_kept limits past [] each before = before
places_kept limits past (command ∷ list) (one, each) before = places_kept limits (place_of limits past command ∷ past) list each (one, before)

-- what is accepted is not clean
accepts_kept : (command : Command) (mark : Mark) (c : Client) (opened : ConnectionName × Bool) → IsKept command → accepts command mark c ≡ Some opened → opened.1 ≡ false
accepts_kept (commands.Connect x d clean) Mark.Accepted c opened kept e = by (same_client d c) e
  where
    by : (b : Bool) → only_if b (let o : Option (ConnectionName × Bool) = Some (x, clean) in o) ≡ Some opened → opened.1 ≡ false
    by true f = let same : (x, clean) ≡ opened = cc in ap (λ (o : ConnectionName × Bool). o.1) (sym same) ∙ kept
    by false f = cc
accepts_kept _ _ c opened kept e = cc

-- nor is the newest session
newest_kept : (o : Option (ConnectionName × Bool)) (expelled over : Bool) (old : Option Bool) (clean : Bool) → ((opened : ConnectionName × Bool) → o ≡ Some opened → opened.1 ≡ false)
    → ((before : Bool) → old ≡ Some before → before ≡ false) → newest_clean_session o expelled over old ≡ Some clean → clean ≡ false
newest_kept (Some opened) expelled over old clean accepted before e = let same : opened.1 ≡ clean = cc in sym same ∙ accepted opened refl
newest_kept None expelled over (Some was) clean accepted before e = by (not (expelled || (was && over))) e
  where
    by : (b : Bool) → only_if b (Some was) ≡ Some clean → clean ≡ false
    by true f = let same : was ≡ clean = cc in sym same ∙ before was refl
    by false f = cc
newest_kept None expelled over None clean accepted before e = cc

past_kept : (past : Past) → Each (λ (place : Place). IsKept place.command) past → (c : Client) (clean : Bool) → clean_session_of past c ≡ Some clean → clean ≡ false
unfolding clean_session_of
past_kept [] each c clean e = cc
past_kept (place ∷ past) (one, each) c clean e =
    newest_kept (accepts place.command place.mark c) (expels place.command c) (ends_any place c (current_connection past c)) (clean_session_of past c) clean
    (λ opened f. accepts_kept place.command place.mark c opened one f) (λ before f. past_kept past each c before f) e

pub no_session_is_clean : NoSessionIsClean
no_session_is_clean list none front begins c clean e =
    past_kept (past_of usual_limits front)
    (places_kept usual_limits [] front (each_kept front (λ x d b i. none x d b (subst (λ (l : List Command). In (commands.Connect x d b) l) (sym begins.is) (in_left begins.rest i)))) tt)
    c clean e
