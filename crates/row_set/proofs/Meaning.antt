-- What the points of a plant's program mean.
use Rattle.std.proofs.Common.{◌≡◌, ℕ, List, ◌++◌, map, sym, ap, ap₂, ◌∙◌, subst, arith}
use Rattle.std.specs.List.{All}
use Rattle.std.proofs.lemmas.Int.{ints}
use Rattle.std.proofs.lemmas.List.Elements.{All-append}
use Rattle.stn_model.specs.declared.plant.Plant.{Plant}
use Rattle.stn_model.specs.declared.start.Start.{Start}
use Rattle.stn_model.specs.Feasible.{Feasible}
use Rattle.stn_model.specs.Profit.{change_costs, profit}
use Rattle.stn_model.specs.Sums.{total}
use Rattle.stn_model.specs.Sound.{Sound}
use Rattle.plain_plan.proofs.Linear.{gain_alone, profit-gains}
use Rattle.time_grid.specs.Slots.{slots}
use Rattle.time_grid.specs.PlanPoint.{HasPoint, plan_point, point_starts}
use Rattle.time_grid.proofs.OnePlan.{has_point-feasible}
use Rattle.time_grid.proofs.PointPlan.{starts-of_point, point-of_plan, plan_point-is}
use Rattle.row_kit.specs.declared.domain.Domain.{Domain}
use Rattle.row_kit.specs.declared.program.Program.{Program}
use Rattle.row_kit.specs.declared.row.Row.{Row}
use Rattle.row_kit.specs.declared.row.Tag.{Tag}
use Rattle.row_kit.specs.declared.row.Change.{Change}
use Rattle.row_kit.specs.declared.row.Entry.{Entry}
use Rattle.row_kit.specs.Row.{entries_sum, entries_from, IsKept}
use Rattle.row_kit.specs.Change.{changeovers}
use Rattle.row_kit.specs.Point.{LiesIn, worth_of}
use Rattle.row_kit.proofs.Tables.{All-front, All-back}
use Rattle.balance_rows.specs.StockRows.{stock_rows}
use Rattle.balance_rows.proofs.Meaning.{stock_rows-kept}
use Rattle.utility_rows.specs.LoadRows.{load_rows}
use Rattle.utility_rows.proofs.Meaning.{load_rows-kept}
use Rattle.unit_rows.specs.Busy.{busy_rows}
use Rattle.unit_rows.specs.Gaps.{gap_rows}
use Rattle.unit_rows.specs.Firsts.{first_rows}
use Rattle.unit_rows.proofs.BusyRows.{busy_rows-kept}
use Rattle.unit_rows.proofs.GapRows.{gap_rows-kept}
use Rattle.unit_rows.proofs.FirstRows.{first_rows-kept}
use Rattle.unit_rows.proofs.PointRows.{entries_sum-plan_point}
use Rattle.row_set.specs.ProfitParts.{profit_part}
use Rattle.row_set.specs.PlantProgram.{plant_rows, IsMadeOf, IsProgramOf}
use Rattle.row_set.proofs.GainParts.{gain-parts}
use Rattle.row_set.proofs.Roots.{point-of_root, root-of_point}
use Rattle.row_set.proofs.Changeovers.{changeovers-are}

-- the five families of rows
record KeepsFamilies (plant : Plant) (kept : Row → Type 0) : Type 0 where
  busy : All kept (busy_rows plant)
  stocks : All kept (stock_rows plant)
  loads : All kept (load_rows plant)
  gaps : All kept (gap_rows plant)
  firsts : All kept (first_rows plant)

families : (plant : Plant) (kept : Row → Type 0) → All kept (plant_rows plant) → KeepsFamilies plant kept
unfolding plant_rows
families plant kept all =
    let rest = All-back kept (busy_rows plant) (stock_rows plant ++ (load_rows plant ++ (gap_rows plant ++ first_rows plant))) all in
    let later = All-back kept (stock_rows plant) (load_rows plant ++ (gap_rows plant ++ first_rows plant)) rest in
    let last = All-back kept (load_rows plant) (gap_rows plant ++ first_rows plant) later in
    record {
      busy = All-front kept (busy_rows plant) (stock_rows plant ++ (load_rows plant ++ (gap_rows plant ++ first_rows plant))) all;
      stocks = All-front kept (stock_rows plant) (load_rows plant ++ (gap_rows plant ++ first_rows plant)) rest;
      loads = All-front kept (load_rows plant) (gap_rows plant ++ first_rows plant) later;
      gaps = All-front kept (gap_rows plant) (first_rows plant) last;
      firsts = All-back kept (gap_rows plant) (first_rows plant) last;
    }

pub all_rows : (plant : Plant) (kept : Row → Type 0) → All kept (busy_rows plant) → All kept (stock_rows plant) → All kept (load_rows plant) → All kept (gap_rows plant) → All kept (first_rows plant) → All kept (plant_rows plant)
unfolding plant_rows
all_rows plant kept busy stocks loads gaps firsts =
    All-append kept (busy_rows plant) (stock_rows plant ++ (load_rows plant ++ (gap_rows plant ++ first_rows plant))) busy
    (All-append kept (stock_rows plant) (load_rows plant ++ (gap_rows plant ++ first_rows plant)) stocks
    (All-append kept (load_rows plant) (gap_rows plant ++ first_rows plant) loads (All-append kept (gap_rows plant) (first_rows plant) gaps firsts)))

-- a plan with a point keeps all rows exactly where it is feasible
rows_from_feasible : (plant : Plant) (plan : List Start) → Sound plant → HasPoint plant plan → Feasible plant plan → All (IsKept (plan_point plant plan)) (plant_rows plant)
rows_from_feasible plant plan sound has is =
    all_rows plant (IsKept (plan_point plant plan))
    ((busy_rows-kept plant plan sound has).1 is.apart)
    ((stock_rows-kept plant plan sound has).1 is.stocks)
    ((load_rows-kept plant plan sound has).1 is.loads)
    ((gap_rows-kept plant plan sound has is.apart).1 is.cleaned)
    ((first_rows-kept plant plan sound has).1 is.begun)

feasible_from_rows : (plant : Plant) (plan : List Start) → Sound plant → HasPoint plant plan → All (IsKept (plan_point plant plan)) (plant_rows plant) → Feasible plant plan
feasible_from_rows plant plan sound has all =
    let each = families plant (IsKept (plan_point plant plan)) all in
    let apart = (busy_rows-kept plant plan sound has).0 each.busy in
    record {
      fits = has.fits;
      apart = apart;
      cleaned = (gap_rows-kept plant plan sound has apart).0 each.gaps;
      begun = (first_rows-kept plant plan sound has).0 each.firsts;
      stocks = (stock_rows-kept plant plan sound has).0 each.stocks;
      loads = (load_rows-kept plant plan sound has).0 each.loads;
    }

-- the profit entries of a plan's point sum to what its starts gain
entries-gains : (plant : Plant) (plan : List Start) → Sound plant → HasPoint plant plan →
    entries_sum (entries_from 0 (map (profit_part plant) (slots plant))) (plan_point plant plan) ≡ total (gain_alone plant) plan
entries-gains plant plan sound has =
    entries_sum-plan_point plant (profit_part plant) (gain_alone plant) plan sound has (λ slot is value. gain-parts plant sound slot is value)

-- the worth of a plan's point is its profit
worth-profit : (plant : Plant) (program : Program) (plan : List Start) → Sound plant → IsMadeOf plant program → HasPoint plant plan → worth_of program (plan_point plant plan) ≡ profit plant plan
worth-profit plant program plan sound made has =
    let entries : entries_sum program.profit (plan_point plant plan) ≡ total (gain_alone plant) plan = ap (λ (es : List Entry). entries_sum es (plan_point plant plan)) made.profit_is ∙ entries-gains plant plan sound has in
    let changes : changeovers program.changes program.tags (plan_point plant plan) ≡ change_costs plant plan =
    ap₂ (λ (cs : List Change) (ts : List Tag). changeovers cs ts (plan_point plant plan)) made.changes_are made.tags_are ∙ changeovers-are plant plan sound has in
    omega (arith, ints, entries, changes, made.base_is, profit-gains plant plan)

-- a program made of a plant's parts is the plant's program
pub program-of_parts : (plant : Plant) (program : Program) → Sound plant → IsMadeOf plant program → IsProgramOf plant program
program-of_parts plant program sound made = record {
  feasible = λ plan. (
    λ is.
        let has = has_point-feasible plant plan sound is in (
          has,
          record {
            lies = subst (λ (ds : List Domain). LiesIn ds (plan_point plant plan)) (sym made.root_is) (root-of_point plant (plan_point plant plan) (plan_point-is plant plan sound has));
            keeps = subst (All (IsKept (plan_point plant plan))) (sym made.rows_are) (rows_from_feasible plant plan sound has is);
          },
        ),
    λ both. feasible_from_rows plant plan sound both.0 (subst (All (IsKept (plan_point plant plan))) made.rows_are both.1.keeps),
  );
  worth = λ plan has. worth-profit plant program plan sound made has;
  most = λ point. omega (arith, ints);
  some = λ point lawful.
      let own = starts-of_point plant point sound (point-of_root plant point (subst (λ (ds : List Domain). LiesIn ds point) made.root_is lawful.lies)) in
      let plan = point_starts plant (slots plant) point in
      let keeps = subst (λ (p : List ℕ). All (IsKept p) program.rows) (sym own.1) lawful.keeps in (
        plan,
        (feasible_from_rows plant plan sound own.0 (subst (All (IsKept (plan_point plant plan))) made.rows_are keeps), own.1),
      );
  plans = λ point plan lawful is.
      point-of_plan plant point plan sound (point-of_root plant point (subst (λ (ds : List Domain). LiesIn ds point) made.root_is lawful.lies)) is;
}
