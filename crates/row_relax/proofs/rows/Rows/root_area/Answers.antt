-- The root has a normal domain for each slot.
use Rattle.std.proofs.Common.{List, [], ◌∷◌, refl, sym, subst, map}
use Rattle.row_kit.specs.declared.domain.Domain.{Domain}
use Rattle.proof_tree.specs.Views.{present as shown}
use Rattle.row_relax.specs.View.{Fits, view_of}
use Rattle.row_relax.proofs.Marks.{fits_now}
use Rattle.row_relax.proofs.rows.Rows.root_area.Goals as goal

pub returns-clause-fits : goal.returns-clause-fits
returns-clause-fits c =
    let program = c.args.self.now.program in
    subst (λ (marks : List (List Domain)). Fits program (shown (map view_of marks))) (sym c.in_ok-area.ensures) (fits_now program (program.root ∷ []) refl program.root_normal)
