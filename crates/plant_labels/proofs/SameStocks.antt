-- Stocks and loads on plants that are alike are the same.
use Rattle.std.proofs.Common.{◌≡◌, ℕ, ◌-◌, ◌&&◌, nat_le, nat_lt, if◌then◌else◌, List, sum_by, refl, ap}
use Rattle.std.proofs.Math.Path.{fun_ext}
use Rattle.stn_model.specs.declared.plant.Plant.{Plant}
use Rattle.stn_model.specs.declared.plant.State.{State}
use Rattle.stn_model.specs.declared.plant.Task.{Task}
use Rattle.stn_model.specs.declared.start.Start.{Start}
use Rattle.stn_model.specs.Plant.{state_at, end_of}
use Rattle.stn_model.specs.Stock.{received, delivered, taken, taken_by, given, given_by, inflow, outflow, stock}
use Rattle.stn_model.specs.Load.{drawn, drawn_in, load}
use Rattle.plant_labels.proofs.Alike.{AreAlike, task_same, state_same}
use Rattle.plant_labels.proofs.SameBatches.{end_same}

received_same : (a b : Plant) → AreAlike a b → (state time : ℕ) → received a state time ≡ received b state time
unfolding received
received_same a b same state time = rw same.receipts refl

delivered_same : (a b : Plant) → AreAlike a b → (state time : ℕ) → delivered a state time ≡ delivered b state time
unfolding delivered
delivered_same a b same state time = rw same.deliveries refl

taken_same : (a b : Plant) → AreAlike a b → (state time : ℕ) → taken a state time ≡ taken b state time
unfolding taken
taken_same a b same state time =
    fun_ext (λ start. ap (λ (task : Task). sum_by (taken_by state time start) task.inputs) (task_same a b same start.task))

given_same : (a b : Plant) → AreAlike a b → (state time : ℕ) → given a state time ≡ given b state time
unfolding given
given_same a b same state time =
    fun_ext (λ start. ap (λ (task : Task). sum_by (given_by state time start) task.outputs) (task_same a b same start.task))

inflow_same : (a b : Plant) → AreAlike a b → (plan : List Start) (state time : ℕ) → inflow a plan state time ≡ inflow b plan state time
unfolding inflow
inflow_same a b same plan state time =
    let initial : (state_at a state).initial ≡ (state_at b state).initial = ap (λ (one : State). one.initial) (state_same a b same state) in
    rw (initial, received_same a b same state time, given_same a b same state time) refl

outflow_same : (a b : Plant) → AreAlike a b → (plan : List Start) (state time : ℕ) → outflow a plan state time ≡ outflow b plan state time
unfolding outflow
outflow_same a b same plan state time = rw (delivered_same a b same state time, taken_same a b same state time) refl

pub stock_same : (a b : Plant) → AreAlike a b → (plan : List Start) (state time : ℕ) → stock a plan state time ≡ stock b plan state time
unfolding stock
stock_same a b same plan state time = rw (inflow_same a b same plan state time, outflow_same a b same plan state time) refl

drawn_same : (a b : Plant) → AreAlike a b → (utility period : ℕ) → drawn a utility period ≡ drawn b utility period
unfolding drawn
drawn_same a b same utility period =
    fun_ext (λ start.
    rw (end_same a b same start)
    (ap (λ (task : Task). if nat_le start.period period && nat_lt period (end_of b start)
    then sum_by (drawn_in utility start.quanta (period - start.period)) task.draws
    else 0)
    (task_same a b same start.task)))

pub load_same : (a b : Plant) → AreAlike a b → (plan : List Start) (utility period : ℕ) → load a plan utility period ≡ load b plan utility period
unfolding load
load_same a b same plan utility period = ap (λ (draws : Start → ℕ). sum_by draws plan) (drawn_same a b same utility period)
