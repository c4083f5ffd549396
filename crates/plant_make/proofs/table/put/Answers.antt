use Rattle.std.proofs.Common.{ℕ, List, ap, ◌∙◌}
use Rattle.toml.specs.View.{view, table_view}
use Rattle.plant_make.specs.Entries.{with_member}
use Rattle.plant_make.proofs.Members.{members_view-insert}
use Rattle.plant_make.proofs.table.put.Goals as goal

pub returns : goal.returns
returns c =
    rw c.in_ok-insert.ensures.entries
    (members_view-insert c.args.table.now.entries c.in_ok-word.word c.args.value
    ∙ ap (λ (w : List ℕ). with_member w (view c.args.value) (table_view c.args.table.now)) (c.in_ok-word.ensures.ok ∙ c.word.ensures))
