-- What contracts see of a `MemSink`, and what a call leaves.
use Rattle.std.specs.Prelude.{ℕ, List, [], refl, is_some}
use Rattle.std.specs.Coded.{Coded, code_by, coded×, coded_ℕ, coded_list}
use Rattle.stn_edge.specs.Calls.{CallPlan, call_plan_code, no_calls, due, after_call, count_after}

-- the text put so far, the count of faults, and the calls
pub record MemText : Type 0 where
  pub text : List ℕ
  pub faults : ℕ
  pub calls : CallPlan

abbrev pub mem_text_code : Coded MemText
mem_text_code =
    code_by (List ℕ × (ℕ × CallPlan)) (coded× (coded_list coded_ℕ) (coded× coded_ℕ call_plan_code))
    (λ m. (m.text, (m.faults, m.calls))) (λ p. record { text = p.0; faults = p.1.0; calls = p.1.1 }) (λ _. refl)

-- a sink with nothing written, no fault and no call
abbrev pub no_text : MemText
no_text = record { text = []; faults = 0; calls = no_calls }

-- the sink after a call, when it has left this text
abbrev pub after_put : MemText → List ℕ → MemText
after_put sink text = record {
  text = text;
  faults = count_after (is_some (due sink.calls)) sink.faults;
  calls = after_call sink.calls;
}
