-- What is added to tables of stocks and loads, also outside them.
use Rattle.std.proofs.Common.{◌≡◌, ℕ, ◌-◌, ◌<◌, ◌≤◌, length, sum_by, arith, refl, Bool, true, false, cond, eqb, leb, ltb, ap, sym, ◌∙◌, inl, inr, ◌&&◌, min}
use Rattle.std.proofs.lemmas.Bool.{cases_lt, lt-leb, lt-ltb, le-ltb, and_right, and_left}
use Rattle.stn_model.specs.declared.plant.Plant.{Plant}
use Rattle.stn_model.specs.declared.plant.Task.{Task}
use Rattle.stn_model.specs.declared.start.Start.{Start}
use Rattle.stn_model.specs.Plant.{end_of, task_at}
use Rattle.stn_model.specs.Load.{drawn, drawn_in}
use Rattle.plan_sim.specs.Moves.{moved_by, drawn_until}
use Rattle.plan_sim.proofs.Placed.{no_task_is}

-- what moves after the last column moves in none
pub moved_outside : (row column amount r c width : ℕ) → width ≤ column → c < width → moved_by row column amount r c ≡ 0
moved_outside row column amount r c width out inside =
    ap (λ (b : Bool). cond b amount 0) (and_right (eqb row r) (leb column c) (lt-leb column c (let k : c < column = omega arith in k)))

-- a batch that is cut at the end of the table draws the same in it
pub drawn_cut : (plant : Plant) (start : Start) (utility period width : ℕ) → period < width → drawn_until (task_at plant start.task).draws start (min (end_of plant start) width) utility period ≡ drawn plant utility period start
unfolding drawn
drawn_cut plant start utility period width h =
    let same : ltb period (min (end_of plant start) width) ≡ ltb period (end_of plant start) = elim (cases_lt period (end_of plant start)) [
      | inl l ↦ lt-ltb period (min (end_of plant start) width) (omega arith) ∙ sym (lt-ltb period (end_of plant start) l)
      | inr g ↦ le-ltb period (min (end_of plant start) width) (omega arith) ∙ sym (le-ltb period (end_of plant start) g)
    ] in
    ap (λ (b : Bool). cond (leb start.period period && b) (sum_by (drawn_in utility start.quanta (period - start.period)) (task_at plant start.task).draws) 0) same

-- nothing is drawn before the batch begins
pub drawn_later : (plant : Plant) (start : Start) (utility period : ℕ) → period < start.period → drawn plant utility period start ≡ 0
unfolding drawn
drawn_later plant start utility period h =
    ap (λ (b : Bool). cond b (sum_by (drawn_in utility start.quanta (period - start.period)) (task_at plant start.task).draws) 0)
    (and_left (leb start.period period) (ltb period (end_of plant start)) (lt-leb start.period period h))

nothing_either : (b : Bool) (n : ℕ) → cond b n n ≡ n
nothing_either true n = refl
nothing_either false n = refl

-- a task that is not there draws nothing
pub nothing_drawn : (plant : Plant) (start : Start) (utility period : ℕ) → length plant.tasks ≤ start.task → drawn plant utility period start ≡ 0
unfolding drawn
nothing_drawn plant start utility period out =
    ap (λ (t : Task). cond (leb start.period period && ltb period (end_of plant start)) (sum_by (drawn_in utility start.quanta (period - start.period)) t.draws) 0) (no_task_is plant start out)
    ∙ nothing_either (leb start.period period && ltb period (end_of plant start)) 0
