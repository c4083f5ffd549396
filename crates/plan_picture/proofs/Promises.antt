-- What a planner reads in a picture is what the definitions say.
use Rattle.std.proofs.Common.{◌≡◌, ℕ, pos, ◌+◌, ◌*◌, ◌/◌, ◌%◌, ◌<◌, ◌≤◌, List, ◌++◌, length, subst, IsTrue, codes, arith, lt-ltb}
use Rattle.std.proofs.lemmas.List.Elements.{filter_agree}
use Rattle.std.proofs.Math.Nat.{div-add-mod, mod-lt}
use Rattle.stn_model.specs.declared.plant.Plant.{Plant}
use Rattle.stn_model.specs.declared.start.Start.{Start}
use Rattle.stn_model.specs.Plant.{task_at, duration_of, end_of}
use Rattle.stn_model.specs.Sound.{Sound}
use Rattle.stn_model.specs.Stock.{stock}
use Rattle.stn_model.specs.Load.{load}
use Rattle.stn_model.proofs.Fitting.{duration_pos}
use Rattle.plan_picture.specs.Scale.{band_count, days_top, band_top, time_of, periods_in, period_width, x_at}
use Rattle.plan_picture.specs.Chart.{part_head, grid}
use Rattle.plan_picture.specs.Bars.{span, first_place, last_place, unit_rows, outage_boxes, cleanings, whole_bar, bar, bars}
use Rattle.plan_picture.specs.Held.{held_bars}
use Rattle.plan_picture.specs.Graphs.{touched_count, stocks, loads}
use Rattle.plan_picture.specs.Days.{days}
use Rattle.plan_picture.specs.Picture.{head, band_begin, gantt, units, band_text, bands, whole_page, picture_end, picture_with, picture_text}
use Rattle.plan_picture.specs.Laws.{stands_at, runs_in, StandsIn, is_shown, bars_of, BarsAreBatches, BarsTellBatches, StepsAreStocks, StepsAreLoads}
use Rattle.plan_picture.proofs.Places.{framed_when_timed}
use Rattle.plan_picture.proofs.Parts.{part_at}
use Rattle.plan_picture.proofs.Standing.{stands_here, stands_before, stands_behind, stands_of, kept_texts}
use Rattle.plan_picture.proofs.Told.{titles_tell, bars_alone}

-- a period is at least a pixel wide
wide : (plant : Plant) → 1 ≤ period_width plant
unfolding period_width
wide plant = omega arith

-- the bar of a batch stands over a period in a row exactly where its unit runs it then
stands_when_run : (plant : Plant) (band unit place : ℕ) → place < periods_in plant band → (start : Start) → stands_at plant band unit place start ≡ runs_in plant unit (time_of band place) start
unfolding span x_at
stands_when_run plant band unit place here start =
    framed_when_timed start.period (end_of plant start) (48 * band) (periods_in plant band) place (period_width plant) start.unit unit here (wide plant)

pub bars_are_batches : (plant : Plant) (plan : List Start) → BarsAreBatches plant plan
bars_are_batches plant plan band unit place here =
    filter_agree (stands_at plant band unit place) (runs_in plant unit (time_of band place)) (stands_when_run plant band unit place here) plan

-- the bars of the batches that a band shows are all its bars
bars_kept : (plant : Plant) (plan : List Start) (band : ℕ) → bars plant plan band ≡ bars_of plant plan band
unfolding bar
bars_kept plant plan band = kept_texts (is_shown plant band) (whole_bar plant band) plan

-- the bars of a band stand behind outages, batches before the plan and cleaning
in_gantt : (plant : Plant) (plan : List Start) (band : ℕ) → StandsIn (bars plant plan band) (gantt plant plan band)
unfolding gantt
in_gantt plant plan band =
    let all = bars plant plan band in
    let behind = cleanings plant plan band ++ all in
    stands_behind all (outage_boxes plant band) (held_bars plant band ++ behind)
    (stands_behind all (held_bars plant band) behind (stands_behind all (cleanings plant plan band) all (stands_here all)))

-- they stand among what a band shows of its units
in_units : (plant : Plant) (plan : List Start) (states band : ℕ) → StandsIn (bars plant plan band) (units plant plan states band)
unfolding units
in_units plant plan states band =
    let all = bars plant plan band in
    let lines = grid plant band (days_top plant states) in
    let chart = gantt plant plan band in
    stands_behind all (part_head plant band 0 (codes "units")) (unit_rows plant band ++ (lines ++ chart))
    (stands_behind all (unit_rows plant band) (lines ++ chart) (stands_behind all lines chart (in_gantt plant plan band)))

-- they stand in the text of their band
in_band : (plant : Plant) (plan : List Start) (states band : ℕ) → StandsIn (bars plant plan band) (band_text plant plan states band)
unfolding band_text
in_band plant plan states band =
    let all = bars plant plan band in
    let rows = units plant plan states band in
    let graphs = stocks plant plan states band ++ (loads plant plan states band ++ (days plant states band ++ codes "</g>\n")) in
    stands_behind all (band_begin (band_top plant states band)) (rows ++ graphs) (stands_before all rows graphs (in_units plant plan states band))

-- they stand in the picture
in_picture : (plant : Plant) (plan : List Start) (states band : ℕ) → band < band_count plant → StandsIn (bars plant plan band) (picture_with plant plan states)
unfolding picture_with bands
in_picture plant plan states band there =
    let all = bars plant plan band in
    let texts = bands plant plan states in
    stands_behind all (whole_page plant states) (head plant plan ++ (texts ++ picture_end))
    (stands_behind all (head plant plan) (texts ++ picture_end) (stands_before all texts picture_end
    (stands_of (band_text plant plan states) all (band_count plant) band there (in_band plant plan states band))))

bars_stand : (plant : Plant) (plan : List Start) (band : ℕ) → band < band_count plant → StandsIn (bars_of plant plan band) (picture_text plant plan)
bars_stand plant plan band there =
    subst (λ (all : List ℕ). StandsIn all (picture_text plant plan)) (bars_kept plant plan band) (in_picture plant plan (touched_count plant plan) band there)

-- a batch that begins within the horizon is shown in the band of its start
shown_at_start : (plant : Plant) → Sound plant → (start : Start) → start.task < length plant.tasks → start.period < plant.periods
    → (start.period / 48 < band_count plant) × IsTrue (is_shown plant (start.period / 48) start)
unfolding end_of
shown_at_start plant sound start known within =
    let band = start.period / 48 in
    let parts : 48 * band + start.period % 48 ≡ start.period = div-add-mod start.period 48 in
    let rest : start.period % 48 < 48 = mod-lt start.period {m = 48} (omega arith) in
    let some : 1 ≤ duration_of (task_at plant start.task) = duration_pos plant start.task sound known in
    let whole : 48 * ((plant.periods + 47) / 48) + (plant.periods + 47) % 48 ≡ plant.periods + 47 = div-add-mod (plant.periods + 47) 48 in
    let end : (plant.periods + 47) % 48 < 48 = mod-lt (plant.periods + 47) {m = 48} (omega arith) in (
      omega (arith, parts, rest, whole, end, within),
      lt-ltb (first_place band start.period) (last_place plant band (end_of plant start)) (omega (arith, parts, rest, some, within)),
    )

pub bars_tell_batches : (plant : Plant) → Sound plant → (plan : List Start) → BarsTellBatches plant plan
bars_tell_batches plant sound plan = record {
  bars = bars_stand plant plan;
  shown = shown_at_start plant sound;
  titles = titles_tell plant sound;
  alone = bars_alone plant sound;
}

pub steps_are_stocks : (plant : Plant) (plan : List Start) → StepsAreStocks plant plan
steps_are_stocks plant plan band state place here = part_at plant band (plant.periods + 1) (λ time. stock plant plan state time) place here

pub steps_are_loads : (plant : Plant) (plan : List Start) → StepsAreLoads plant plan
steps_are_loads plant plan band utility place here = part_at plant band plant.periods (λ period. pos (load plant plan utility period)) place here
