-- The bars of batches that held units last: what is left of them in a plan, which has none of them among its batches.
use Rattle.std.specs.Prelude.{ℕ, if◌then◌else◌, length, List, [], ◌++◌, Option, Some, None, codes, decimal, flat_map}
use Rattle.std.specs.List.{range_with_len}
use Rattle.stn_model.specs.declared.plant.Plant.{Plant}
use Rattle.stn_model.specs.declared.plant.Last.{Last}
use Rattle.stn_model.specs.Plant.{unit_at, held_until}
use Rattle.plan_picture.specs.declared.marks.Frame.{Frame}
use Rattle.plan_picture.specs.Marks.{title, frame_at}
use Rattle.plan_picture.specs.Captions.{task_caption}
use Rattle.plan_picture.specs.Bars.{is_seen, span, colour_begin, edge_class, frame_words}

-- until when a batch goes on that began before the plan
unfoldable pub until_words : ℕ → List ℕ
until_words until = codes "until " ++ decimal until

-- what a pointer on the bar of such a batch shows: its task, and until when it goes on
unfoldable pub held_title : Plant → ℕ → ℕ → List ℕ
held_title plant task until = task_caption plant task ++ (codes " " ++ until_words until)

-- its bar in a frame: what is left of it, without a size
unfoldable pub held_bar : Plant → ℕ → ℕ → Frame → List ℕ
held_bar plant task until frame =
    colour_begin plant task ++ (title (held_title plant task until) ++ (frame_at (edge_class task) frame
    ++ (frame_words frame (task_caption plant task) (until_words until) ++ codes "</g>\n")))

-- what a band shows of a batch of a task that holds a unit from the begin until a time
unfoldable pub held_within : Plant → ℕ → ℕ → ℕ → ℕ → List ℕ
held_within plant band unit task until =
    if is_seen plant band 0 until then held_bar plant task until (span plant band unit 0 until) else []

-- what a band shows of this batch, which held a unit last
abbrev pub held_by : Plant → ℕ → ℕ → Option Last → List ℕ
held_by plant band unit None = []
held_by plant band unit (Some last) = held_within plant band unit last.task (held_until plant unit)

-- what a band shows of the batch that held a unit last
abbrev pub held : Plant → ℕ → ℕ → List ℕ
held plant band unit = held_by plant band unit (unit_at plant unit).last

-- what a band shows of all batches that held units last
abbrev pub held_bars : Plant → ℕ → List ℕ
held_bars plant band = flat_map (held plant band) (range_with_len 0 (length plant.units))
