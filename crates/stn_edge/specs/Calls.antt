-- The calls of a store or a sink in memory, and which of them are to fail.
use Rattle.std.specs.Prelude.{ℕ, Bool, Option, refl, if◌then◌else◌}
use Rattle.std.specs.Ordering.{nat_cmp}
use Rattle.std.specs.Coded.{Coded, code_by, coded×, coded_ℕ}
use Rattle.std.specs.FinMap.{FinMap, code, empty, get, insert}
use Rattle.stn_edge.specs.Count.{next_count}

-- how many calls were made, and the calls that are to fail, each with the bytes that still go through
pub record CallPlan : Type 0 where
  pub made : ℕ
  pub failing : FinMap nat_cmp ℕ

abbrev pub call_plan_code : Coded CallPlan
call_plan_code =
    code_by (ℕ × FinMap nat_cmp ℕ) (coded× coded_ℕ (code coded_ℕ coded_ℕ))
    (λ c. (c.made, c.failing)) (λ p. record { made = p.0; failing = p.1 }) (λ _. refl)

-- no call was made, and none is to fail
abbrev pub no_calls : CallPlan
no_calls = record { made = 0; failing = empty }

-- the calls when that one is to fail after that many bytes, and every other is as it was
abbrev pub with_failure : CallPlan → ℕ → ℕ → CallPlan
with_failure calls call bytes = record calls { failing = insert calls.failing call bytes }

-- the bytes that still go through in the next call, where it is to fail; calls count from 1
abbrev pub due : CallPlan → Option ℕ
due calls = get calls.failing (next_count calls.made)

-- the calls after one more
abbrev pub after_call : CallPlan → CallPlan
after_call calls = record calls { made = next_count calls.made }

-- the count after a call of its kind, which is one more where the call is a fault
abbrev pub count_after : Bool → ℕ → ℕ
count_after is_fault count = if is_fault then next_count count else count
