-- LeadsStay.antt: whatever is called and comes to a client, its connections lead to the same nodes.
use Rattle.std.proofs.Common.{◌≡◌, ℕ, Bool, true, false, ◌⊎◌, inl, inr, List, [], ◌∷◌, ◌++◌, map, Result, Ok, Err, refl, ap, ap₂, sym, ◌∙◌}
use Rattle.std.proofs.lemmas.List.{map-append}
use Rattle.client_base.specs.declared.error.ClientError.{ClientError}
use Rattle.client_base.specs.declared.error.ClientError.TheVariants as errors
use Rattle.client_base.specs.Answered.{ClientOutcome}
use Rattle.client.specs.Core.{Core}
use Rattle.world_base.specs.declared.node_connections.port.Port.{Port}
use Rattle.world_pipes.specs.declared.sending.Sending.{Sending}
use Rattle.world_pipes.specs.declared.sending.Sending.TheVariants as sendings
use Rattle.world_pipes.specs.declared.pair.PipePair.{PipePair}
use Rattle.world_pipes.specs.Piped.{Calls, GoesUp, GoesUpWhere, CarriesDown, Piped, TakesLeave, broken, come_down, is_holding, piped_up}

-- to which node, by which port
abbrev pub leads : List PipePair → List (ℕ × Port)
leads pairs = map (λ (pair : PipePair). (pair.node, pair.port)) pairs

-- if one is exchanged for another that leads there
one_same : (older : List PipePair) (pair later : PipePair) → later.node ≡ pair.node → later.port ≡ pair.port → leads (older ++ later ∷ []) ≡ leads (older ++ pair ∷ [])
one_same older pair later node port =
    map-append (λ (pair : PipePair). (pair.node, pair.port)) older (later ∷ [])
    ∙ ap₂ (λ (n : ℕ) (p : Port). leads older ++ (n, p) ∷ []) node port
    ∙ sym (map-append (λ (pair : PipePair). (pair.node, pair.port)) older (pair ∷ []))

up_leads : (core : Core) (pairs : List PipePair) (sending : Sending) (new : Piped) → GoesUp core pairs sending new → leads new.pairs ≡ leads pairs
up_leads core pairs sendings.Sent new (older, pair, splits, is) =
    ap (λ (p : Piped). leads p.pairs) is ∙ one_same older pair (record pair { up = pair.up ++ core.out }) refl refl ∙ ap leads (sym splits)
up_leads core pairs sendings.Lost new is = ap (λ (p : Piped). leads p.pairs) is

where_leads : (up : Bool) (core : Core) (pairs : List PipePair) (sending : Sending) (new : Piped) → GoesUpWhere up core pairs sending new → leads new.pairs ≡ leads pairs
where_leads true core pairs sending new goes = up_leads core pairs sending new goes
where_leads false core pairs sending new goes = ap (λ (p : Piped). leads p.pairs) goes.1

pub calls_lead : (outcome : ClientOutcome) (old : Piped) (result : Result Sending ClientError) (new : Piped) → Calls outcome old result new → leads new.pairs ≡ leads old.pairs
calls_lead outcome old (Ok sending) new (core, does, goes) = where_leads (is_holding old) core old.pairs sending new goes
calls_lead outcome old (Err cause) new calls = ap leads calls.1

pub leaving_leads : (outcome : ClientOutcome) (old : Piped) (result : Result Sending ClientError) (new : Piped) → TakesLeave outcome old result new → leads new.pairs ≡ leads old.pairs
leaving_leads outcome old (Ok sending) new (core, leaves, goes) = up_leads core old.pairs sending new goes
leaving_leads outcome old (Err cause) new leaves = ap leads leaves.1

pub carrying_leads : (count : ℕ) (old : Piped) (result : Result (Unit {0}) ClientError) (new : Piped) → CarriesDown count old result new → leads new.pairs ≡ leads old.pairs
carrying_leads count old result new h = by h.goes_up
  where
    taken : leads (h.older ++ come_down count h.pair ∷ []) ≡ leads old.pairs
    taken = one_same h.older h.pair (come_down count h.pair) refl refl ∙ ap leads (sym h.newest)

    by : ((result ≡ h.read) × (new ≡ piped_up h.core h.older (come_down count h.pair)))
        ⊎ ((result ≡ Err errors.Memory) × (new ≡ broken h.core (h.older ++ come_down count h.pair ∷ []))) → leads new.pairs ≡ leads old.pairs
    by (inl end) =
        ap (λ (p : Piped). leads p.pairs) end.1
        ∙ one_same h.older (come_down count h.pair) (record h.pair { up = h.pair.up ++ h.core.out; down = (come_down count h.pair).down }) refl refl
        ∙ taken
    by (inr end) = ap (λ (p : Piped). leads p.pairs) end.1 ∙ taken
