use Rattle.std.proofs.Common.{◌+◌, ◌*◌, ◌≡◌, ap, ◌∙◌, arith}
use Rattle.plant_labels.specs.Clock.{minutes_later}
use Rattle.plant_labels.proofs.Days.{minutes_later-add}
use Rattle.plant_labels.proofs.law.clock_law.Goals as goal

pub returns : goal.returns
returns c = λ calendar sound period time.
    let sum : calendar.minutes * period + calendar.minutes * time ≡ calendar.minutes * (period + time) = omega arith in
    minutes_later-add calendar.start (calendar.minutes * period) (calendar.minutes * time)
    ∙ ap (minutes_later calendar.start) sum
