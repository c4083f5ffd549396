-- Heads of logs of version 4: the sums, the setups and the derivations that a search declares.
use Rattle.std.specs.Prelude.{◌^◌, ◌<◌, ℕ, List, ◌∷◌, ◌++◌, [], length, flat_map}
use Rattle.stn_model.specs.declared.plant.Plant.{Plant}
use Rattle.row_kit.specs.declared.domain.Domain.{Domain}
use Rattle.row_kit.specs.declared.program.Program.{Program}
use Rattle.proof_tree.specs.Items.{tree_items}
use Rattle.row_relax.specs.declared.rows.Rows.{Rows}
use Rattle.row_relax.specs.Choices.{plain}
use Rattle.row_relax.specs.RowProofs.{RowTree}
use Rattle.log_lines.specs.declared.grammar.Limits.{Limits}
use Rattle.log_lines.specs.declared.line.Line.TheVariants.{End}
use Rattle.proof_log.specs.declared.claim.Claim.{Claim}
use Rattle.proof_log.specs.Log.{claim_lines, item_lines, lines_text}
use Rattle.sum_slots.specs.declared.sum.Sum.{Sum}
use Rattle.sum_lines.specs.Head.{AreKept, head_text}
use Rattle.setup_lines.specs.Line.{setups_text}
use Rattle.setup_lines.specs.Setups.{AreSetupsKept, limits_set_up}
use Rattle.derivations.specs.declared.derivation.Derivation.{Derivation}
use Rattle.derivation_lines.specs.Tail.{AreDerivationsKept, tail_text}
use Rattle.valid_log.specs.Verdict.{limits_of}
use Rattle.valid_log.specs.Heads.{IsWithHead, limits_with, setup_sizes}

-- the text of a whole head of version 4: its sums, behind them its setups, and behind these its derivations
abbrev pub whole_head : List Sum → List ℕ → List Derivation → List ℕ
whole_head sums units derivations = head_text 4 sums ++ (setups_text units ++ tail_text derivations)

-- the text of a log of version 4: its whole head, the lines of the proof's items and of the claim, and the end
abbrev pub headed_text : List Sum → List ℕ → List Derivation → RowTree → Claim → List ℕ
headed_text sums units derivations tree claim =
    whole_head sums units derivations ++ lines_text (flat_map item_lines (tree_items tree) ++ (claim_lines claim ++ End ∷ []))

-- the limits of a log over a program with so many sums and the setups of these units
abbrev pub limits_before : Plant → Program → ℕ → List Sum → List ℕ → Limits
limits_before plant program depth sums units = limits_set_up (limits_with program depth (length sums)) (setup_sizes plant) units

-- A log over a program of a plant can have a head of version 4 with these sums, the setups of these units and these derivations, which is
-- judged over domains and leads to these rows: they keep the limits of its logs, each sum and derivation is shown, and the head has fewer
-- than 2^64 bytes.
pub record CanHead (plant : Plant) (program : Program) (judged : List Domain) (sums : List Sum) (units : List ℕ) (derivations : List Derivation) (rows : Rows) : Type 0 where
  pub sums_kept : AreKept 4 (limits_of (plain program) 0) sums
  pub units_kept : AreSetupsKept (limits_with program 0 (length sums)) (setup_sizes plant) units
  pub derivations_kept : AreDerivationsKept (limits_before plant program 0 sums units) derivations
  pub few_bytes : length (whole_head sums units derivations) < 2 ^ 64
  pub enlarged : IsWithHead plant 4 program judged sums units derivations rows
