-- Refusing.antt: why the master refuses a configuration, by the numbers of nodes up to 15.
use Rattle.std.proofs.Common.{◌≡◌, ℕ, Bool, true, false, nat_le, if◌then◌else◌, Some, None, refl, ap, sym, subst}
use Rattle.agreement.specs.MasterState.{MasterState, refusal}
use Rattle.machine.specs.Ballots.{max_ballot}
use Rattle.agreement.specs.MasterState.AssignRefusal.{bad_members, ballots_spent}
use Rattle.ballot_base.specs.LawfulConfig.{is_lawful, max_node}
use Rattle.ballot_base.specs.declared.config.Config.{Config}

spent_so : (fits spent : Bool) → fits ≡ true → ((if fits then (if spent then Some ballots_spent else None) else Some bad_members) ≡ None → ⊥)
    → (if fits then (if spent then Some ballots_spent else None) else Some bad_members) ≡ Some ballots_spent
spent_so false spent is not_none = cc
spent_so true true is not_none = refl
spent_so true false is not_none = absurd (not_none refl)

-- a configuration that a ballot may have is refused only if no ballot is left
pub spent_if : (master : MasterState) (config : Config) → master.greatest ≡ max_node → is_lawful max_node config.members config.primary ≡ true → (refusal master config ≡ None → ⊥)
    → refusal master config ≡ Some ballots_spent
spent_if master config numbers lawful refused =
    spent_so (is_lawful master.greatest config.members config.primary) (nat_le max_ballot master.given)
    (subst (λ (greatest : ℕ). is_lawful greatest config.members config.primary ≡ true) (sym numbers) lawful) refused

-- a configuration that no ballot may have
pub bad_if : (master : MasterState) (config : Config) → master.greatest ≡ max_node → is_lawful max_node config.members config.primary ≡ false → refusal master config ≡ Some bad_members
bad_if master config numbers unlawful =
    ap (λ fits. if fits then (if nat_le max_ballot master.given then Some ballots_spent else None) else Some bad_members)
    (subst (λ (greatest : ℕ). is_lawful greatest config.members config.primary ≡ false) (sym numbers) unlawful)
