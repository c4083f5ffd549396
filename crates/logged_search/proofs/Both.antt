-- What two clauses say of one answer.
use Rattle.std.proofs.Common.{Result, Ok, Err, IfOk}

-- where two facts hold of an answer, what follows from both does
pub ok_both : {X E : Type 0} (r : Result X E) (P Q R : X → Type 0) → ((x : X) → P x → Q x → R x) → IfOk r P → IfOk r Q → IfOk r R
ok_both (Ok x) P Q R f p q = f x p q
ok_both (Err e) P Q R f p q = tt

-- what holds of all values holds of one that is answered
pub ok_all : {X E : Type 0} (r : Result X E) (P : X → Type 0) → ((x : X) → P x) → IfOk r P
ok_all (Ok x) P each = each x
ok_all (Err e) P each = tt
