-- Checked.antt: what was read after version, length and check sum.
use Rattle.std.proofs.Common.{◌≡◌, ℕ, Bool, true, false, ◌&&◌, if◌then◌else◌, List, take, Ok, Err, refl, sym, ap, ◌∙◌}
use Rattle.cluster.specs.declared.desk.error.FormFault.TheVariants.{Shape}
use Rattle.std.proofs.Common.{Some, None, nat_le}
use Rattle.ballot_base.specs.declared.config.Config.{Config}
use Rattle.ballot_base.specs.LawfulConfig.{is_lawful}
use Rattle.agreement.specs.MasterState.AssignRefusal.{bad_members, ballots_spent}
use Rattle.cluster.specs.declared.desk.error.DeskError.TheVariants.{BadMembers}
use Rattle.cluster.specs.desk.States.{DeskState, are_given, assign_refusal, is_sound, refused_by}
use Rattle.cluster.specs.desk.Form.{desk_of, is_of, shape_checked, state_at}

picked : (bytes : List ℕ) (b : Bool) → is_of (state_at bytes) (take 59 bytes) ≡ b → shape_checked bytes ≡ (if b then Ok (state_at bytes) else Err Shape)
picked bytes b e = ap (λ (x : Bool). if x then Ok (state_at bytes) else Err Shape) e

same_of : (bytes front : List ℕ) (state : DeskState) (b : Bool) → state ≡ state_at bytes → front ≡ take 59 bytes → is_of state front ≡ b → is_of (state_at bytes) (take 59 bytes) ≡ b
same_of bytes front state b is cut e = ap (λ (s : DeskState). is_of s (take 59 bytes)) (sym is) ∙ ap (λ (l : List ℕ). is_of state l) (sym cut) ∙ e

pub shape_ok : (bytes front : List ℕ) (state : DeskState) → desk_of bytes ≡ shape_checked bytes → state ≡ state_at bytes → front ≡ take 59 bytes → is_of state front ≡ true → desk_of bytes ≡ Ok state
shape_ok bytes front state says is cut e = says ∙ picked bytes true (same_of bytes front state true is cut e) ∙ ap (λ (s : DeskState). Ok s) (sym is)

pub shape_bad : (bytes front : List ℕ) (state : DeskState) → desk_of bytes ≡ shape_checked bytes → state ≡ state_at bytes → front ≡ take 59 bytes → is_of state front ≡ false → desk_of bytes ≡ Err Shape
shape_bad bytes front state says is cut e = says ∙ picked bytes false (same_of bytes front state false is cut e)

first : (a b : Bool) → (a && b) ≡ true → a ≡ true
first true b e = refl
first false b e = cc

pub shape_sound : (front : List ℕ) (state : DeskState) → is_of state front ≡ true → is_sound state.next state.master ≡ true
shape_sound front state e = first (is_sound state.next state.master) _ e

pub bad_members_refused : (state : DeskState) (config : Config) → state.master.greatest ≡ 254 → is_lawful 254 config.members config.primary ≡ false → Some BadMembers ≡ assign_refusal state config
bad_members_refused state config greatest bad =
    sym (ap (λ (b : Bool). refused_by (are_given state.next config.members) (if b then if nat_le 4294967296 state.master.given then Some ballots_spent else None else Some bad_members))
    (ap (λ (n : ℕ). is_lawful n config.members config.primary) greatest ∙ bad))
