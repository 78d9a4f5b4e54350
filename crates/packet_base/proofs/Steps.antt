-- What holds for the outcome of steps in a row, if each step is known to keep its part.
use Rattle.std.proofs.Common.{◌≡◌, Bool, true, false, cond, Result, Ok, Err, refl}
use Rattle.std.specs.Prelude.{IfOk, IsTrue}
use Rattle.packet_base.specs.declared.stop.Stop.{Stop}
use Rattle.packet_base.specs.Readers.{◌>>=◌, ◌>>◌, check}

-- a step with a value, and what continues from it
pub then_if : {A B : Type 0} (r : Result A Stop) (f : A → Result B Stop) (P : A → Type 0) (Q : B → Type 0) → IfOk r P → ((x : A) → P x → IfOk (f x) Q) → IfOk (r >>= f) Q
then_if (Ok x) f P Q p go = go x p
then_if (Err stop) f P Q p go = tt

-- a step without one
pub seq_if : {A B : Type 0} (r : Result A Stop) (s : Result B Stop) (P : Type 0) (Q : B → Type 0) → IfOk r (λ _. P) → (P → IfOk s Q) → IfOk (r >> s) Q
seq_if (Ok x) s P Q p go = go p
seq_if (Err stop) s P Q p go = tt

-- a check, whose test is true if it continues
pub check_if : {B : Type 0} (b : Bool) (stop : Stop) (s : Result B Stop) (Q : B → Type 0) → (IsTrue b → IfOk s Q) → IfOk (check b stop >> s) Q
check_if true stop s Q go = go refl
check_if false stop s Q go = tt

-- a choice
pub cond_if : {B E : Type 0} (b : Bool) (x y : Result B E) (Q : B → Type 0) → (b ≡ true → IfOk x Q) → (b ≡ false → IfOk y Q) → IfOk (cond b x y) Q
cond_if true x y Q then other = then refl
cond_if false x y Q then other = other refl
