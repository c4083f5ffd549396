-- The program of a plant is a part of its choices, and its outcomes are those of the plant.
use Rattle.std.proofs.lemmas.Result.{IfOk-weaker}
use Rattle.proof_tree.specs.Tree.{tree_of}
use Rattle.stn_solve.specs.declared.solved.Solved.{Solved}
use Rattle.plan_told.specs.Proofs.{IsProofOf}
use Rattle.plan_told.proofs.WholePlant.{whole-is_part, whole-outcome}
use Rattle.stn_solve.proofs.plant.solve.Goals as goal

pub solve_rows-requires-clause-part : goal.solve_rows-requires-clause-part
solve_rows-requires-clause-part g c = whole-is_part c.args.plant.now c.in_ok-program.program c.in_ok-program.ensures.made c.in_ok-program.ensures.means

pub returns-clause-outcome : goal.returns-clause-outcome
returns-clause-outcome g c =
    IfOk-weaker c.solve_rows.result _ _
    (λ solved right. whole-outcome c.args.plant.now c.in_ok-program.program c.args.budget solved.outcome c.requires.sound c.in_ok-program.ensures.made c.in_ok-program.ensures.means right)
    c.solve_rows.ensures.outcome

pub returns-clause-proof : goal.returns-clause-proof
returns-clause-proof g c =
    IfOk-weaker c.solve_rows.result _ _
    (λ (solved : Solved) (proof : IsProofOf c.args.plant.now c.in_ok-program.program solved.outcome (tree_of solved.tree)). record { program = c.in_ok-program.program; made = c.in_ok-program.ensures.made; means = c.in_ok-program.ensures.means; proof = proof })
    c.solve_rows.ensures.proof
