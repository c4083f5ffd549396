-- How many starts of a plan at hand an answer does not take over.
use Rattle.std.specs.Prelude.{ℕ, ◌==◌, ◌&&◌, not, nat_le, Bool, List, Option, None, Some, count_by}
use Rattle.std.specs.List.{list_any}
use Rattle.stn_model.specs.declared.start.Start.{Start}
use Rattle.stn_model.specs.declared.answer.Answer.{Answer}
use Rattle.answer_texts.specs.Planning.{printed_plan}

-- two starts are of the same task, unit, period and quanta
abbrev pub same_start : Start → Start → Bool
same_start a b = (a.period == b.period && a.unit == b.unit) && (a.task == b.task && a.quanta == b.quanta)

-- a plan has a start of the same task, unit, period and quanta
abbrev pub has_start : List Start → Start → Bool
has_start plan start = list_any (same_start start) plan

-- a start has changed: it is in the period or a later one, and the other plan does not have it
abbrev pub is_changed : ℕ → List Start → Start → Bool
is_changed period other start = nat_le period start.period && not (has_start other start)

-- how many starts of a plan have changed from a period on
abbrev pub changed_count : ℕ → List Start → List Start → ℕ
changed_count period plan other = count_by (is_changed period other) plan

-- how many starts of a plan an answer's plan does not have, where they are counted from a period on; none are in it where the
-- answer has no plan
abbrev pub counted_since : Option ℕ → List Start → Answer → Option ℕ
counted_since None plan said = None
counted_since (Some period) plan said = Some (changed_count period plan (printed_plan said))
