-- What a pass over the deliveries leaves, place after place.
use Rattle.std.proofs.Common.{◌≡◌, ℕ, ◌+◌, ◌<◌, ◌≤◌, Bool, true, false, cond, ◌⊎◌, inl, inr, Option, Some, None, List, [], ◌∷◌, length, map, get_or, refl, ap, sym, subst, ◌∙◌, arith}
use Rattle.std.specs.Prelude.{count_by, not}
use Rattle.std.proofs.lemmas.Bool.{cases_eq, false≢true}
use Rattle.std.proofs.lemmas.List.{map-set, length-map, length-set, get_or-set_same, get_or-set_other}
use Rattle.std.proofs.lemmas.List.Sums.{sum_by-set}
use Rattle.std.proofs.Math.Seq.{map-set_same}
use Rattle.std.proofs.Math.ListN.{set}
use Rattle.stn_model.specs.declared.plant.Plant.{Plant}
use Rattle.stn_model.specs.declared.plant.Delivery.{Delivery}
use Rattle.stn_model.specs.declared.answer.Answer.{Answer}
use Rattle.stn_model.specs.declared.answer.Answer.TheVariants as answer
use Rattle.stn_model.specs.declared.answer.Outcome.{Outcome}
use Rattle.stn_model.specs.Answers.{IsOutcome, IsAnswerOf}
use Rattle.stn_model.specs.Best.{NoPlan}
use Rattle.stn_model.specs.Feasible.{Feasible}
use Rattle.stn_model.specs.Points.{boxes}
use Rattle.fewer_orders.specs.Alone.{alone, picked}
use Rattle.order_text.specs.declared.mark.Mark.{Mark}
use Rattle.order_text.specs.declared.mark.Mark.TheVariants.{Out, Needed, Open}
use Rattle.order_text.specs.Marks.{is_left, left_of}
use Rattle.order_conflict.specs.declared.answer.ConflictAnswer.{ConflictAnswer}
use Rattle.order_conflict.specs.declared.answer.ConflictAnswer.TheVariants as said
use Rattle.order_conflict.specs.Conflict.{left_plant, left_without, mark_of, MarkSays, TrialSays, AreMarks, IsConflict, planned}
use Rattle.order_conflict.specs.Passes.{all_open, IsMarkedAnew, IsPassed}

-- a right answer of planning without a delivery says what its mark says
pub trial_says : (plant : Plant) (budget used : ℕ) (a : Answer) → IsOutcome plant budget (record { answer = a; boxes = used }) → TrialSays (mark_of a) budget plant
trial_says plant budget used (answer.Optimal plan earned) right = (plan, right.answer.0.admitted)
trial_says plant budget used answer.Infeasible right = right.answer
trial_says plant budget used (answer.BudgetSpent None earned cap) right =
    record { outcome = record { answer = answer.BudgetSpent None earned cap; boxes = used }; right = right; none = tt }
trial_says plant budget used (answer.BudgetSpent (Some plan) earned cap) right = (plan, right.answer.found.admitted)

-- the plant as a whole is planned, or not settled
pub planned_is : (plant : Plant) (budget used : ℕ) (a : Answer) (found : ConflictAnswer) → IsOutcome plant budget (record { answer = a; boxes = used }) → Some found ≡ planned a → IsConflict plant budget found
planned_is plant budget used (answer.Optimal plan earned) found right is =
    let e : said.Planned earned plan ≡ found = cc in
    subst (IsConflict plant budget) e (right.answer.0.admitted, right.answer.1)
planned_is plant budget used answer.Infeasible found right is = absurd cc
planned_is plant budget used (answer.BudgetSpent None earned cap) found right is =
    let e : said.Unsettled ≡ found = cc in
    subst (IsConflict plant budget) e (record { outcome = record { answer = answer.BudgetSpent None earned cap; boxes = used }; right = right; none = tt })
planned_is plant budget used (answer.BudgetSpent (Some plan) earned cap) found right is =
    let e : said.Planned earned plan ≡ found = cc in
    subst (IsConflict plant budget) e (right.answer.found.admitted, right.answer.found.profit_is)

-- or it has no plan
pub not_planned : (plant : Plant) (budget used : ℕ) (a : Answer) → IsOutcome plant budget (record { answer = a; boxes = used }) → None ≡ planned a → NoPlan plant
not_planned plant budget used (answer.Optimal plan earned) right is = absurd cc
not_planned plant budget used answer.Infeasible right is = right.answer
not_planned plant budget used (answer.BudgetSpent None earned cap) right is = absurd cc
not_planned plant budget used (answer.BudgetSpent (Some plan) earned cap) right is = absurd cc

-- a delivery that is left was marked anew
pub settled_by : (plant : Plant) (budget place : ℕ) (old : List Mark) (mark : Mark) → is_left (get_or old place Out) ≡ true → TrialSays mark budget (alone plant (left_without place old))
    → IsMarkedAnew plant budget place old (set old place mark) (not (is_left mark))
settled_by plant budget place old Out left says = (left, refl, says)
settled_by plant budget place old Needed left says = inr (Needed, (left, refl, refl, says))
settled_by plant budget place old Open left says = inr (Open, (left, refl, refl, says))

-- the deliveries that are left, when one goes
gone : (marks : List Mark) (place : ℕ) → left_of (set marks place Out) ≡ left_without place marks
gone marks place = map-set is_left marks place Out

-- and when one stays
stays : (marks : List Mark) (place : ℕ) (mark : Mark) → is_left (get_or marks place Out) ≡ true → is_left mark ≡ true → left_of (set marks place mark) ≡ left_of marks
stays marks place mark before after = map-set_same is_left marks place mark Out (after ∙ sym before)

-- how many are left, when the mark of one changes
counted : (marks : List Mark) (place : ℕ) (mark : Mark) → place < length marks → count_by is_left (set marks place mark) + cond (is_left (get_or marks place Out)) 1 0 ≡ count_by is_left marks + cond (is_left mark) 1 0
counted marks place mark within = sum_by-set (λ (m : Mark). cond (is_left m) 1 0) marks place mark Out within

counted_out : (marks : List Mark) (place : ℕ) → place < length marks → is_left (get_or marks place Out) ≡ true → count_by is_left (set marks place Out) + 1 ≡ count_by is_left marks
counted_out marks place within left = let all = counted marks place Out within in let now = rw left at all in omega arith

counted_in : (marks : List Mark) (place : ℕ) (mark : Mark) → place < length marks → is_left (get_or marks place Out) ≡ true → is_left mark ≡ true → count_by is_left (set marks place mark) ≡ count_by is_left marks
counted_in marks place mark within before after = let all = counted marks place mark within in let now = rw (before, after) at all in omega arith

-- what is said up to a place, and of it, is said up to the next
up_to : (P : ℕ → Type 0) (place : ℕ) → ((k : ℕ) → k < place → P k) → P place → (k : ℕ) → k < place + 1 → P k
up_to P place before here k below =
    elim (cases_eq k place) [
      | inl e ↦ subst P (sym e) here
      | inr other ↦ before k (omega arith)
    ]

-- what the mark at a place says of the plant without that delivery
abbrev SaysAt : Plant → ℕ → List Mark → ℕ → Type 0
SaysAt plant budget marks k = MarkSays (get_or marks k Out) budget (alone plant (left_without k marks))

-- a pass goes on past a delivery that goes
passed_out : (plant : Plant) (budget : ℕ) (old now : List Mark) (changed : Bool) (place : ℕ) → place < length now → IsPassed plant budget old now changed place
    → is_left (get_or now place Out) ≡ true → NoPlan (alone plant (left_without place now)) → IsPassed plant budget old (set now place Out) true (place + 1)
passed_out plant budget old now changed place within passed left none =
    let one = counted_out now place within left in
    let most = passed.most in
    record {
      each = length-set now place Out ∙ passed.each;
      none = subst (λ (kept : List Bool). NoPlan (alone plant kept)) (sym (gone now place)) none;
      most = omega arith;
      fewer = λ _. omega arith;
      says = λ e. absurd (false≢true (sym e));
    }

-- past one that had gone before
passed_same : (plant : Plant) (budget : ℕ) (old now : List Mark) (changed : Bool) (place : ℕ) → IsPassed plant budget old now changed place → get_or now place Out ≡ Out
    → IsPassed plant budget old now changed (place + 1)
passed_same plant budget old now changed place passed out =
    record {
      each = passed.each;
      none = passed.none;
      most = passed.most;
      fewer = passed.fewer;
      says = λ e. up_to (SaysAt plant budget now) place (passed.says e) (subst (λ (mark : Mark). MarkSays mark budget (alone plant (left_without place now))) (sym out) tt);
    }

-- and past one that stays
passed_kept : (plant : Plant) (budget : ℕ) (old now : List Mark) (changed : Bool) (place : ℕ) (mark : Mark) → place < length now → IsPassed plant budget old now changed place
    → is_left (get_or now place Out) ≡ true → is_left mark ≡ true → MarkSays mark budget (alone plant (left_without place now)) → IsPassed plant budget old (set now place mark) changed (place + 1)
passed_kept plant budget old now changed place mark within passed before after says =
    let same : left_of (set now place mark) ≡ left_of now = stays now place mark before after in
    let count = counted_in now place mark within before after in
    let most = passed.most in
    let others : (k : ℕ) → left_without k (set now place mark) ≡ left_without k now = λ k. ap (λ (kept : List Bool). set kept k false) same in
    record {
      each = length-set now place mark ∙ passed.each;
      none = subst (λ (kept : List Bool). NoPlan (alone plant kept)) (sym same) passed.none;
      most = omega arith;
      fewer = λ e. let less = passed.fewer e in omega arith;
      says = λ e. up_to (SaysAt plant budget (set now place mark)) place
          (λ k below.
          let differs = get_or-set_other now place k mark Out (λ (eq : k ≡ place). omega arith) in
          rw (differs, others k) (passed.says e k below))
          (rw (get_or-set_same now place mark Out within, others place) says);
    }

-- a pass goes on past a place that was marked anew
pub passed_next : (plant : Plant) (budget : ℕ) (old now next : List Mark) (changed : Bool) (place : ℕ) (out : Bool) → place < length now → IsPassed plant budget old now changed place
    → IsMarkedAnew plant budget place now next out → IsPassed plant budget old next (cond out true changed) (place + 1)
passed_next plant budget old now next changed place true within passed is =
    subst (λ (marks : List Mark). IsPassed plant budget old marks true (place + 1)) (sym is.1) (passed_out plant budget old now changed place within passed is.0 is.2)
passed_next plant budget old now next changed place false within passed (inl is) =
    subst (λ (marks : List Mark). IsPassed plant budget old marks changed (place + 1)) (sym is.1) (passed_same plant budget old now changed place passed is.0)
passed_next plant budget old now next changed place false within passed (inr is) =
    subst (λ (marks : List Mark). IsPassed plant budget old marks changed (place + 1)) (sym is.1.2) (passed_kept plant budget old now changed place is.0 within passed is.1.0 is.1.1 is.1.3)

-- a whole pass that leaves nothing out leaves right marks
pub passed_whole : (plant : Plant) (budget : ℕ) (old new : List Mark) → length old ≡ length plant.deliveries → IsPassed plant budget old new false (length old) → AreMarks plant budget new
passed_whole plant budget old new each passed = record {
  each = passed.each ∙ each;
  none = passed.none;
  says = λ place within. passed.says refl place (let same = passed.each in omega arith);
}

-- all deliveries are kept where each is
pick_all : (deliveries : List Delivery) → picked (left_of (map (λ _. Open) deliveries)) deliveries ≡ deliveries
pick_all [] = refl
pick_all (delivery ∷ deliveries) = ap (λ (rest : List Delivery). delivery ∷ rest) (pick_all deliveries)

-- with all of its deliveries the plant is itself
pub all_left : (plant : Plant) → left_plant plant (all_open plant) ≡ plant
unfolding alone
all_left plant = ap (λ (deliveries : List Delivery). record plant { deliveries = deliveries }) (pick_all plant.deliveries)
