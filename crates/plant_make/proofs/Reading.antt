-- Tables of records are read as the records.
use Rattle.std.proofs.Common.{◌≡◌, ◌⊎◌, ◌≤ℤ◌, ℕ, pos, negsuc, suc, ◌+◌, ◌-◌, ◌<◌, ◌≤◌, nat_lt, Bool, true, false, cond, not, List, [], length, unsigned_abs, Option, Some, None, is_some, option_map, refl, sym, ◌∙◌, inl, inr, arith, lt-ltb}
use Rattle.std.specs.Prelude.{IfSome}
use Rattle.std.proofs.lemmas.Bool.{cases_Bool}
use Rattle.std.proofs.lemmas.Option.{IfSome_then}
use Rattle.std.proofs.lemmas.Bool.Decides.{nat_tests}
use Rattle.std.proofs.lemmas.List.Elements.{recursion_from_All}
use Rattle.toml.specs.Data.{Data, Members, string, integer}
use Rattle.stn_model.specs.declared.plant.Plant.{Plant}
use Rattle.stn_model.specs.declared.plant.State.{State}
use Rattle.stn_model.specs.declared.plant.Utility.{Utility}
use Rattle.stn_model.specs.declared.plant.StnUnit.{StnUnit}
use Rattle.stn_model.specs.declared.plant.Last.{Last}
use Rattle.stn_model.specs.declared.plant.Draw.{Draw}
use Rattle.stn_model.specs.declared.plant.Run.{Run}
use Rattle.stn_model.specs.declared.plant.Gap.{Gap}
use Rattle.stn_model.specs.declared.plant.Receipt.{Receipt}
use Rattle.stn_model.specs.declared.plant.Delivery.{Delivery}
use Rattle.stn_model.specs.declared.plant.Outage.{Outage}
use Rattle.stn_model.specs.Plant.{state_at, utility_at, task_at, unit_at}
use Rattle.stn_model.specs.Sound.{SoundState, SoundUtility, SoundLast, SoundUnit, SoundDraw, SoundRun, SoundGap, SoundReceipt, SoundDelivery, SoundOutage}
use Rattle.plant_text.specs.declared.fault.KeyName.TheVariants as key
use Rattle.plant_text.specs.declared.fault.TableName.TheVariants as table
use Rattle.plant_text.specs.declared.find.Key.{Key}
use Rattle.plant_text.specs.declared.scope.Owner.{Owner}
use Rattle.plant_text.specs.Words.{key_word}
use Rattle.plant_text.specs.Tests.{first_fault}
use Rattle.plant_text.specs.Fields.{table_tests, keys_of, held, needed, optional, since}
use Rattle.plant_text.specs.Scope.{Scope}
use Rattle.plant_text.specs.Tables.{has_run, run_place, outage_place, state_fields, state_tests, state_of, utility_fields, utility_tests, utility_of, unit_fields, unit_tests, unit_of, last_tests, run_fields, run_tests, run_more_tests, run_of, gap_fields, gap_tests, gap_of, receipt_fields, receipt_tests, receipt_of, delivery_fields, delivery_tests, delivery_of, outage_fields, outage_tests, outage_more_tests, outage_of, draw_fields, draw_tests, draw_of}
use Rattle.plant_text.proofs.Faults.{passes, nothing}
use Rattle.plant_make.specs.Entries.{table_of, number, numbers, some_text, some_amounts}
use Rattle.plant_make.specs.Numbers.{lone, several}
use Rattle.plant_make.specs.Printed.{made_of, lone_rate, last_name, until_of, state_name, utility_name, unit_name, task_name, state_entries, utility_entries, unit_entries, run_entries, gap_entries, receipt_entries, delivery_entries, outage_entries, draw_entries}
use Rattle.plant_make.proofs.Tables.{AreKnown, held_is, held_maybe, held_since, head_ok}
use Rattle.plant_make.proofs.Passing.{Pass, count_ok, money_ok, name_ok, refers_ok, numbers_ok, numbers_back, one_more}
use Rattle.plant_make.proofs.Limits.{limits_ok, always_some}
use Rattle.plant_make.proofs.Rates.{rates_ok}
use Rattle.plant_make.proofs.Labels.{label_ok, text_back}
use Rattle.plant_make.proofs.Lasts.{mention_ok, time_ok, last_back, declared}

-- the scope is that of the plant: version 3 where it is large, else 2, its horizon, and its names at their places
pub record IsScopeOf (plant : Plant) (scope : Scope) : Type 0 where
  pub second : scope.second ≡ true
  pub third : scope.third ≡ plant.large
  pub periods : scope.periods ≡ plant.periods
  pub states : (k : ℕ) → k < length plant.states → scope.states (state_at plant k).name ≡ Some k
  pub utilities : (k : ℕ) → k < length plant.utilities → scope.utilities (utility_at plant k).name ≡ Some k
  pub units : (k : ℕ) → k < length plant.units → scope.units (unit_at plant k).name ≡ Some k
  pub tasks : (k : ℕ) → k < length plant.tasks → scope.tasks (task_at plant k).name ≡ Some k

pub receipt_ok : (scope : Scope) (plant : Plant) (place : ℕ) (receipt : Receipt) → IsScopeOf plant scope → SoundReceipt plant receipt
    → Pass (receipt_tests scope place (made_of (receipt_entries plant receipt))) × (receipt_of scope (made_of (receipt_entries plant receipt)) ≡ receipt)
unfolding receipt_tests receipt_fields receipt_of receipt_entries key_word
receipt_ok scope plant place receipt reads sound =
    let es = receipt_entries plant receipt in
    let inside = table_of es in
    let state : held inside (needed key.State) ≡ Some (state_name plant receipt.state) = held_is (needed key.State) es _ refl refl in
    let time : held inside (needed key.Time) ≡ Some (number receipt.time) = held_is (needed key.Time) es _ refl refl in
    let amount : held inside (needed key.Amount) ≡ Some (number receipt.amount) = held_is (needed key.Amount) es _ refl refl in
    let first = reads.states receipt.state sound.state in (
      passes _ _ (head_ok _ _ es refl)
          (passes _ _ (refers_ok _ _ _ _ _ _ state first)
          (passes _ _ (count_ok _ _ _ _ _ _ time (omega arith) (rw reads.periods sound.time))
          (passes _ _ (count_ok _ _ _ _ _ _ amount sound.amount.0 sound.amount.1) nothing))),
      rw (state, time, amount, first) refl,
    )

pub delivery_ok : (scope : Scope) (plant : Plant) (place : ℕ) (delivery : Delivery) → IsScopeOf plant scope → SoundDelivery plant delivery
    → Pass (delivery_tests scope place (made_of (delivery_entries plant delivery))) × (delivery_of scope (made_of (delivery_entries plant delivery)) ≡ delivery)
unfolding delivery_tests delivery_fields delivery_of delivery_entries key_word
delivery_ok scope plant place delivery reads sound =
    let es = delivery_entries plant delivery in
    let inside = table_of es in
    let state : held inside (needed key.State) ≡ Some (state_name plant delivery.state) = held_is (needed key.State) es _ refl refl in
    let time : held inside (needed key.Time) ≡ Some (number delivery.time) = held_is (needed key.Time) es _ refl refl in
    let amount : held inside (needed key.Amount) ≡ Some (number delivery.amount) = held_is (needed key.Amount) es _ refl refl in
    let payment : held inside (optional key.Payment) ≡ Some (integer delivery.payment) = held_is (optional key.Payment) es _ refl refl in
    let first = reads.states delivery.state sound.state in (
      passes _ _ (head_ok _ _ es refl)
          (passes _ _ (refers_ok _ _ _ _ _ _ state first)
          (passes _ _ (count_ok _ _ _ _ _ _ time (omega arith) (rw reads.periods sound.time))
          (passes _ _ (count_ok _ _ _ _ _ _ amount sound.amount.0 sound.amount.1)
          (passes _ _ (money_ok _ _ _ _ _ payment sound.payment) nothing)))),
      rw (state, time, amount, payment, first) refl,
    )

outage_more_ok : (place : ℕ) (outage : Outage) → outage.from < outage.to → Pass (outage_more_tests place outage)
unfolding outage_more_tests first_fault
outage_more_ok place outage some = rw (lt-ltb outage.from outage.to some) refl

pub outage_ok : (scope : Scope) (plant : Plant) (place : ℕ) (outage : Outage) → IsScopeOf plant scope → SoundOutage plant outage
    → Pass (outage_tests scope place (made_of (outage_entries plant outage))) × (outage_of scope (made_of (outage_entries plant outage)) ≡ outage)
unfolding outage_tests outage_fields outage_of outage_entries key_word
outage_ok scope plant place outage reads sound =
    let es = outage_entries plant outage in
    let inside = table_of es in
    let unit : held inside (needed key.StnUnit) ≡ Some (unit_name plant outage.unit) = held_is (needed key.StnUnit) es _ refl refl in
    let from : held inside (needed key.From) ≡ Some (number outage.from) = held_is (needed key.From) es _ refl refl in
    let to : held inside (needed key.To) ≡ Some (number outage.to) = held_is (needed key.To) es _ refl refl in
    let first = reads.units outage.unit sound.unit in
    let back : outage_of scope (made_of es) ≡ outage = rw (unit, from, to, first) refl in
    let begins : outage.from ≤ scope.periods - 1 = rw reads.periods (omega (arith, sound.some, sound.to)) in
    let ends : 1 ≤ outage.to = omega (arith, sound.some) in (
      passes (table_tests (outage_place place) (outage_fields scope) (made_of es)) (outage_more_tests place (outage_of scope (made_of es)))
          (passes _ _ (head_ok _ _ es refl)
          (passes _ _ (refers_ok _ _ _ _ _ _ unit first)
          (passes _ _ (count_ok _ _ _ _ _ _ from (omega arith) begins)
          (passes _ _ (count_ok _ _ _ _ _ _ to ends (rw reads.periods sound.to)) nothing))))
          (rw back (outage_more_ok place outage sound.some)),
      back,
    )

-- a gap is as long as its version allows
gap_periods : (third large : Bool) (n : ℕ) → third ≡ large → n ≤ 336 → (large ≡ false → n ≤ 96) → n ≤ cond third 336 96
gap_periods true large n same most few = most
gap_periods false large n same most few = few (sym same)

pub gap_ok : (scope : Scope) (plant : Plant) (place : ℕ) (gap : Gap) → IsScopeOf plant scope → SoundGap plant gap → (plant.large ≡ false → gap.periods ≤ 96)
    → Pass (gap_tests scope place (made_of (gap_entries plant gap))) × (gap_of scope (made_of (gap_entries plant gap)) ≡ gap)
unfolding gap_tests gap_fields gap_of gap_entries key_word
gap_ok scope plant place gap reads sound few =
    let es = gap_entries plant gap in
    let inside = table_of es in
    let unit : held inside (needed key.StnUnit) ≡ Some (unit_name plant gap.unit) = held_is (needed key.StnUnit) es _ refl refl in
    let from : held inside (needed key.From) ≡ Some (task_name plant gap.from) = held_is (needed key.From) es _ refl refl in
    let to : held inside (needed key.To) ≡ Some (task_name plant gap.to) = held_is (needed key.To) es _ refl refl in
    let periods : held inside (needed key.Periods) ≡ Some (number gap.periods) = held_is (needed key.Periods) es _ refl refl in
    let cost : held inside (since scope.second key.Cost) ≡ Some (number gap.cost) = held_is (since scope.second key.Cost) es _ reads.second refl in
    let low : cond scope.second 0 1 ≤ gap.periods = rw reads.second (omega arith) in
    let at_unit = reads.units gap.unit sound.unit in
    let at_from = reads.tasks gap.from sound.from in
    let at_to = reads.tasks gap.to sound.to in (
      passes _ _ (head_ok _ _ es (rw reads.second refl))
          (passes _ _ (refers_ok _ _ _ _ _ _ unit at_unit)
          (passes _ _ (refers_ok _ _ _ _ _ _ from at_from)
          (passes _ _ (refers_ok _ _ _ _ _ _ to at_to)
          (passes _ _ (count_ok _ _ _ _ _ _ periods low (gap_periods scope.third plant.large gap.periods reads.third sound.periods few))
          (passes _ _ (count_ok _ _ _ _ _ _ cost (omega arith) sound.cost) nothing))))),
      rw (unit, from, to, periods, cost, at_unit, at_from, at_to) refl,
    )

run_more_ok : (earlier : List Run) (run : Run) → run.min ≤ run.max → has_run earlier run ≡ false → Pass (run_more_tests earlier run)
unfolding run_more_tests first_fault
run_more_ok earlier run range alone =
    let in_order : nat_lt run.max run.min ≡ false = grind (arith, nat_tests) in
    rw (in_order, alone) refl

pub run_ok : (scope : Scope) (plant : Plant) (earlier : List Run) (run : Run) → IsScopeOf plant scope → SoundRun plant run → has_run earlier run ≡ false
    → Pass (run_tests scope earlier (made_of (run_entries plant run))) × (run_of scope (made_of (run_entries plant run)) ≡ run)
unfolding run_tests run_fields run_of run_entries key_word
run_ok scope plant earlier run reads sound alone =
    let es = run_entries plant run in
    let inside = table_of es in
    let task : held inside (needed key.Task) ≡ Some (task_name plant run.task) = held_is (needed key.Task) es _ refl refl in
    let unit : held inside (needed key.StnUnit) ≡ Some (unit_name plant run.unit) = held_is (needed key.StnUnit) es _ refl refl in
    let min : held inside (needed key.Min) ≡ Some (number run.min) = held_is (needed key.Min) es _ refl refl in
    let max : held inside (needed key.Max) ≡ Some (number run.max) = held_is (needed key.Max) es _ refl refl in
    let cost : held inside (optional key.Cost) ≡ Some (integer run.cost) = held_is (optional key.Cost) es _ refl refl in
    let at_task = reads.tasks run.task sound.task in
    let at_unit = reads.units run.unit sound.unit in
    let back : run_of scope (made_of es) ≡ run = rw (task, unit, min, max, cost, at_task, at_unit) refl in
    let least : run.min ≤ 255 = omega (arith, sound.range, sound.most) in
    let some : 1 ≤ run.max = omega (arith, sound.least, sound.range) in (
      passes (table_tests (run_place (length earlier)) (run_fields scope) (made_of es)) (run_more_tests earlier (run_of scope (made_of es)))
          (passes _ _ (head_ok _ _ es refl)
          (passes _ _ (refers_ok _ _ _ _ _ _ task at_task)
          (passes _ _ (refers_ok _ _ _ _ _ _ unit at_unit)
          (passes _ _ (count_ok _ _ _ _ _ _ min sound.least least)
          (passes _ _ (count_ok _ _ _ _ _ _ max some sound.most)
          (passes _ _ (money_ok _ _ _ _ _ cost sound.cost) nothing))))))
          (rw back (run_more_ok earlier run sound.range alone)),
      back,
    )

-- a unit has no key that the version does not know
unit_known : (scope : Scope) (place : ℕ) (inside : Members) (plant : Plant) (unit : StnUnit) → (scope.third ≡ false → unit.last ≡ None) → (scope.third ≡ false → unit.label ≡ [])
    → AreKnown (keys_of (unit_fields scope place inside)) (unit_entries plant unit)
unfolding unit_fields unit_entries key_word
unit_known scope place inside plant unit few bare =
    elim (cases_Bool scope.third) [
      | inl e ↦ rw e refl
      | inr e ↦ rw (e, few e, bare e) refl
    ]

-- the key of a task's name is there where a batch held the unit last
not_alone : (plant : Plant) (last : Option Last) (o : Option Data) → o ≡ last_name plant last → IfSome last (λ batch. not (is_some o) ≡ false)
not_alone plant None o is = tt
not_alone plant (Some last) o is = rw is refl

-- what a printed unit holds at the keys of the batch that held it last
record HoldsLast (scope : Scope) (plant : Plant) (unit : StnUnit) (inside : Members) : Type 0 where
  last : held inside (since scope.third key.Last) ≡ last_name plant unit.last
  known : held inside (optional key.Last) ≡ last_name plant unit.last
  until : held inside (since scope.third key.Until) ≡ until_of unit.last

last_held : (scope : Scope) (plant : Plant) (unit : StnUnit) → (scope.third ≡ false → unit.last ≡ None) → HoldsLast scope plant unit (table_of (unit_entries plant unit))
unfolding unit_entries key_word
last_held scope plant unit few =
    let es = unit_entries plant unit in
    record {
      last = held_since scope.third key.Last es (last_name plant unit.last) refl (λ small. rw (few small) refl);
      known = held_maybe (optional key.Last) es (last_name plant unit.last) refl refl;
      until = held_since scope.third key.Until es (until_of unit.last) refl (λ small. rw (few small) refl);
    }

-- the task of a batch that held a unit last is at its place
last_named : (scope : Scope) (plant : Plant) (unit : StnUnit) → IsScopeOf plant scope → SoundUnit plant unit → IfSome unit.last (λ batch. scope.tasks (task_at plant batch.task).name ≡ Some batch.task)
last_named scope plant unit reads sound = IfSome_then unit.last sound.last (λ batch is. reads.tasks batch.task is.task)

-- and its end is in its range, where the other key is there
last_kept : (scope : Scope) (plant : Plant) (alone : Bool) (last : Option Last) → IsScopeOf plant scope → IfSome last (SoundLast plant) → IfSome last (λ batch. alone ≡ false)
    → IfSome last (λ batch. (alone ≡ false) × (negsuc 335 ≤ℤ batch.until) × (batch.until ≤ℤ pos scope.periods))
last_kept scope plant alone None reads sound with_other = tt
last_kept scope plant alone (Some last) reads sound with_other = (with_other, sound.early, rw reads.periods sound.late)

pub unit_ok : (scope : Scope) (plant : Plant) (place : ℕ) (unit : StnUnit) → IsScopeOf plant scope → SoundUnit plant unit → (plant.large ≡ false → unit.last ≡ None) → (plant.large ≡ false → unit.label ≡ [])
    → scope.units unit.name ≡ Some place
    → Pass (unit_tests scope place (made_of (unit_entries plant unit))) × (unit_of scope (made_of (unit_entries plant unit)) ≡ unit)
unfolding unit_tests unit_fields unit_of unit_entries key_word
unit_ok scope plant place unit reads sound few bare declared =
    let es = unit_entries plant unit in
    let inside = table_of es in
    let by_version : scope.third ≡ false → unit.last ≡ None = λ small. few (sym reads.third ∙ small) in
    let plain : scope.third ≡ false → unit.label ≡ [] = λ small. bare (sym reads.third ∙ small) in
    let name : held inside (needed key.Name) ≡ Some (string unit.name) = held_is (needed key.Name) es _ refl refl in
    let label : held inside (since scope.third key.Label) ≡ some_text unit.label = held_since scope.third key.Label es (some_text unit.label) refl (λ small. rw (plain small) refl) in
    let holds = last_held scope plant unit by_version in
    let alone = not (is_some (held inside (optional key.Last))) in
    let kept = last_kept scope plant alone unit.last reads sound.last (not_alone plant unit.last _ holds.known) in
    let back = last_back scope.tasks plant unit.last _ _ holds.last holds.until (last_named scope plant unit reads sound) in (
      passes _ _ (head_ok _ _ es (unit_known scope place inside plant unit by_version plain))
          (passes _ _ (name_ok _ _ _ _ _ _ name sound.name declared)
          (passes _ _ (label_ok _ (since scope.third key.Label) unit.label _ label refl sound.label)
          (passes _ _ (mention_ok _ (since scope.third key.Last) plant unit.last _ holds.last refl)
          (passes _ _ (time_ok _ (since scope.third key.Until) alone (negsuc 335) (pos scope.periods) unit.last _ holds.until refl kept) nothing)))),
      rw (name, text_back unit.label _ label, back) refl,
    )

-- and its task is declared
pub last_ok : (scope : Scope) (plant : Plant) (place : ℕ) (unit : StnUnit) → IsScopeOf plant scope → SoundUnit plant unit → (plant.large ≡ false → unit.last ≡ None)
    → Pass (last_tests scope place (made_of (unit_entries plant unit)))
unfolding last_tests
last_ok scope plant place unit reads sound few =
    let holds = last_held scope plant unit (λ small. few (sym reads.third ∙ small)) in
    one_more _ _ [] (declared scope.tasks plant unit.last _ holds.last (last_named scope plant unit reads sound)) nothing

-- a utility has no key that the version does not know
utility_known : (scope : Scope) (place : ℕ) (inside : Members) (utility : Utility) → scope.second ≡ true → (scope.third ≡ false → utility.rates ≡ []) → (scope.third ≡ false → utility.label ≡ [])
    → AreKnown (keys_of (utility_fields scope place inside)) (utility_entries utility)
unfolding utility_fields utility_entries key_word
utility_known scope place inside utility second few bare =
    elim (cases_Bool scope.third) [
      | inl e ↦ rw (second, e) refl
      | inr e ↦ rw (second, e, few e, bare e) refl
    ]

pub utility_ok : (scope : Scope) (plant : Plant) (place : ℕ) (utility : Utility) → IsScopeOf plant scope → SoundUtility plant.periods utility → (plant.large ≡ false → utility.rates ≡ [])
    → (plant.large ≡ false → utility.label ≡ []) → 1 ≤ plant.periods → scope.utilities utility.name ≡ Some place
    → Pass (utility_tests scope place (made_of (utility_entries utility))) × (utility_of scope (made_of (utility_entries utility)) ≡ utility)
unfolding utility_tests utility_fields utility_of utility_entries key_word
utility_ok scope plant place utility reads sound few bare some declared =
    let es = utility_entries utility in
    let inside = table_of es in
    let name : held inside (needed key.Name) ≡ Some (string utility.name) = held_is (needed key.Name) es _ refl refl in
    let limit : held inside (needed key.Limit) ≡ option_map number (lone utility.limits) = held_maybe (needed key.Limit) es (option_map number (lone utility.limits)) refl refl in
    let limits : held inside (since scope.second key.Limits) ≡ option_map numbers (several utility.limits) = held_maybe (since scope.second key.Limits) es (option_map numbers (several utility.limits)) reads.second refl in
    let by_version : scope.third ≡ false → utility.rates ≡ [] = λ small. few (sym reads.third ∙ small) in
    let plain : scope.third ≡ false → utility.label ≡ [] = λ small. bare (sym reads.third ∙ small) in
    let label : held inside (since scope.third key.Label) ≡ some_text utility.label = held_since scope.third key.Label es (some_text utility.label) refl (λ small. rw (plain small) refl) in
    let rate : held inside (optional key.Rate) ≡ lone_rate utility = held_maybe (optional key.Rate) es (lone_rate utility) refl refl in
    let rates : held inside (since scope.third key.Rates) ≡ some_amounts utility.rates = held_since scope.third key.Rates es (some_amounts utility.rates) refl (λ small. rw (by_version small) refl) in
    let lone_key : Key = record { name = key.Limit; known = true; required = not (is_some (held inside (since scope.second key.Limits))) } in
    let long : length utility.limits ≡ scope.periods = sound.limits ∙ sym reads.periods in
    let kept = limits_ok (record { table = table.Utility; item = place + 1; inner = 0 }) lone_key (since scope.second key.Limits) (held inside (needed key.Limit)) (held inside (since scope.second key.Limits)) utility.limits scope.periods 1000000000
    limit limits (λ absent. always_some _ _ utility.limits limit limits (omega (arith, sound.limits)) absent) refl (inr long) (recursion_from_All (λ n. n ≤ 1000000000) utility.limits sound.limit) in
    let whole : (utility.rates ≡ []) ⊎ ((length utility.rates ≡ scope.periods) × (utility.rate ≡ pos 0)) = elim sound.rates [ inl none ↦ inl none | inr all ↦ inr (all.0 ∙ sym reads.periods, all.1) ] in
    let cost = rates_ok (record { table = table.Utility; item = place + 1; inner = 0 }) (optional key.Rate) (since scope.third key.Rates) (held inside (optional key.Rate)) (held inside (since scope.third key.Rates)) utility.rate utility.rates scope.periods 1000000
    rate rates refl refl whole sound.rate (recursion_from_All (λ x. unsigned_abs x ≤ 1000000) utility.rates sound.each_rate) in (
      passes _ _ (head_ok _ _ es (utility_known scope place inside utility reads.second by_version plain))
          (passes _ _ (name_ok _ _ _ _ _ _ name sound.name declared)
          (passes _ _ (label_ok _ (since scope.third key.Label) utility.label _ label refl sound.label)
          (passes _ _ (kept.0)
          (passes _ _ (kept.1)
          (passes _ _ (cost.0)
          (passes _ _ (cost.1) nothing)))))),
      rw (name, text_back utility.label _ label, kept.2, cost.2, cost.3) refl,
    )

-- a state has no key that the version does not know
state_known : (scope : Scope) (place : ℕ) (inside : Members) (state : State) → scope.second ≡ true → (scope.third ≡ false → state.label ≡ []) → AreKnown (keys_of (state_fields scope place inside)) (state_entries state)
unfolding state_fields state_entries key_word
state_known scope place inside state second bare =
    elim (cases_Bool scope.third) [
      | inl e ↦ rw (second, e) refl
      | inr e ↦ rw (second, e, bare e) refl
    ]

pub state_ok : (scope : Scope) (plant : Plant) (place : ℕ) (state : State) → IsScopeOf plant scope → SoundState plant.periods state → (plant.large ≡ false → state.label ≡ []) → scope.states state.name ≡ Some place
    → Pass (state_tests scope place (made_of (state_entries state))) × (state_of scope (made_of (state_entries state)) ≡ state)
unfolding state_tests state_fields state_of state_entries key_word
state_ok scope plant place state reads sound bare declared =
    let es = state_entries state in
    let inside = table_of es in
    let name : held inside (needed key.Name) ≡ Some (string state.name) = held_is (needed key.Name) es _ refl refl in
    let plain : scope.third ≡ false → state.label ≡ [] = λ small. bare (sym reads.third ∙ small) in
    let label : held inside (since scope.third key.Label) ≡ some_text state.label = held_since scope.third key.Label es (some_text state.label) refl (λ small. rw (plain small) refl) in
    let initial : held inside (optional key.Initial) ≡ Some (number state.initial) = held_is (optional key.Initial) es _ refl refl in
    let limit : held inside (optional key.Limit) ≡ option_map number (lone state.limits) = held_maybe (optional key.Limit) es (option_map number (lone state.limits)) refl refl in
    let limits : held inside (since scope.second key.Limits) ≡ option_map numbers (several state.limits) = held_maybe (since scope.second key.Limits) es (option_map numbers (several state.limits)) reads.second refl in
    let price : held inside (optional key.Price) ≡ Some (integer state.price) = held_is (optional key.Price) es _ refl refl in
    let holding : held inside (optional key.Holding) ≡ Some (integer state.holding) = held_is (optional key.Holding) es _ refl refl in
    let times : suc plant.periods ≡ scope.periods + 1 = omega (arith, reads.periods) in
    let kept = limits_ok (record { table = table.State; item = place + 1; inner = 0 }) (optional key.Limit) (since scope.second key.Limits) (held inside (optional key.Limit)) (held inside (since scope.second key.Limits)) state.limits (scope.periods + 1) 1000000000
    limit limits (λ none. refl) refl (elim sound.limits [ inl none ↦ inl none | inr all ↦ inr (all ∙ times) ]) (recursion_from_All (λ n. n ≤ 1000000000) state.limits sound.limit) in (
      passes _ _ (head_ok _ _ es (state_known scope place inside state reads.second plain))
          (passes _ _ (name_ok _ _ _ _ _ _ name sound.name declared)
          (passes _ _ (label_ok _ (since scope.third key.Label) state.label _ label refl sound.label)
          (passes _ _ (count_ok _ _ _ _ _ _ initial (omega arith) sound.initial)
          (passes _ _ (kept.0)
          (passes _ _ (kept.1)
          (passes _ _ (money_ok _ _ _ _ _ price sound.price)
          (passes _ _ (money_ok _ _ _ _ _ holding sound.holding) nothing))))))),
      rw (name, text_back state.label _ label, initial, price, holding, kept.2) refl,
    )

pub draw_ok : (scope : Scope) (plant : Plant) (owner : Owner) (place : ℕ) (draw : Draw) → IsScopeOf plant scope → SoundDraw plant owner.duration draw
    → Pass (draw_tests scope owner place (made_of (draw_entries plant draw))) × (draw_of scope (made_of (draw_entries plant draw)) ≡ draw)
unfolding draw_tests draw_fields draw_of draw_entries key_word
draw_ok scope plant owner place draw reads sound =
    let es = draw_entries plant draw in
    let inside = table_of es in
    let utility : held inside (needed key.Utility) ≡ Some (utility_name plant draw.utility) = held_is (needed key.Utility) es _ refl refl in
    let fixed : held inside (needed key.Fixed) ≡ Some (numbers draw.fixed) = held_is (needed key.Fixed) es _ refl refl in
    let each : held inside (needed key.Each) ≡ Some (numbers draw.each) = held_is (needed key.Each) es _ refl refl in
    let first = reads.utilities draw.utility sound.utility in (
      passes _ _ (head_ok _ _ es refl)
          (passes _ _ (refers_ok _ _ _ _ _ _ utility first)
          (passes _ _ (numbers_ok _ _ _ _ _ _ _ fixed refl sound.fixed (recursion_from_All (λ n. n ≤ 1000000) draw.fixed sound.fixed_small))
          (passes _ _ (numbers_ok _ _ _ _ _ _ _ each refl sound.each (recursion_from_All (λ n. n ≤ 1000000) draw.each sound.each_small)) nothing))),
      rw (utility, fixed, each, first, numbers_back draw.fixed, numbers_back draw.each) refl,
    )
