-- There is one agreed list, so that the nodes of a world agree on it, and its clients are exact by it.
use Rattle.std.proofs.Common.{◌≡◌, ◌⊎◌, inl, inr, ℕ, List, [], ◌∷◌, ◌++◌, length, map, refl, sym, ap, ◌∙◌, subst, arith}
use Rattle.std.proofs.lemmas.List.{append-nil, length-append}
use Rattle.lists.specs.Lists.{IsPrefixOf}
use Rattle.lists.proofs.Prefixes.{prefix_length}
use Rattle.ballot_base.specs.declared.config.Config.{Config}
use Rattle.headline.specs.node_group.Group.{moment_of_nodes}
use Rattle.agreement.specs.cut_logs.Moments.{IsAgreed, Moment, whole_moment}
use Rattle.agreement.specs.Moments.{IsChosen, WasActive}
use Rattle.broker_spec.specs.declared.command.Command.{Command}
use Rattle.broker_spec.specs.declared.command.Output.{Output}
use Rattle.broker_spec.specs.Place.{Client}
use Rattle.broker_base.specs.State.{State}
use Rattle.world_nodes.specs.Agreed.{AgreeOn}
use Rattle.world_nodes.specs.Nodes.{NodesState}
use Rattle.world.specs.World.{WorldState}
use Rattle.world.specs.Trace.{AreReached}
use Rattle.world.specs.StandsFor.{IsReached}

begins : (config : Config) (moments : List (Moment State Command Output)) (xs ys : List Command) → IsAgreed config moments xs → IsAgreed config moments ys → IsPrefixOf xs ys
begins config moments xs ys x y = by_chosen x.chosen
  where
    by_chosen : (xs ≡ []) ⊎ ((b : ℕ) × WasActive (map whole_moment moments) b × IsChosen config (map whole_moment moments) b xs) → IsPrefixOf xs ys
    by_chosen (inl none) = subst (λ (l : List Command). IsPrefixOf l ys) (sym none) (record { rest = ys; is = refl })
    by_chosen (inr (b, active, chosen)) = y.longest b xs active chosen

nothing_left : (rest : List Command) → length rest ≡ 0 → rest ≡ []
nothing_left [] e = refl
nothing_left (x ∷ rest) e = absurd (omega (arith, e))

pub one_agreed : (config : Config) (moments : List (Moment State Command Output)) (xs ys : List Command) → IsAgreed config moments xs → IsAgreed config moments ys → xs ≡ ys
one_agreed config moments xs ys x y =
    let p = begins config moments xs ys x y in
    let longer = prefix_length (begins config moments ys xs y x) in
    let whole = ap length p.is in
    sym (p.is ∙ ap (λ (l : List Command). xs ++ l) (nothing_left p.rest (omega (arith, longer, whole, length-append xs p.rest))) ∙ append-nil xs)

pub reached_agree : (n : NodesState) (list : List Command) → AgreeOn n list → (nodes : ℕ) (config : Config) (r : AreReached nodes config n) → list ≡ r.list
reached_agree n list agree nodes config r =
    one_agreed config (moment_of_nodes r.group ∷ r.order.of.earlier) list r.list (agree config r.group r.order.of.earlier r.stands r.order.of.moments) r.agreed

pub exact_by : (w : WorldState) (list : List Command) → AgreeOn w.nodes list → (nodes : ℕ) (config : Config) (clients : List Client) (r : IsReached nodes config clients w)
    → list ≡ r.exact.agreed
exact_by w list agree nodes config clients r =
    one_agreed config (moment_of_nodes r.world.group ∷ r.exact.of.earlier) list r.exact.agreed (agree config r.world.group r.exact.of.earlier r.stands.nodes r.exact.of.moments) r.exact.is_agreed
