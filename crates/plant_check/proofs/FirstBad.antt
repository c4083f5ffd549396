-- The first sum of a head that is not shown.
use Rattle.std.proofs.Common.{ℕ, ◌≡◌, ◌∙◌, ◌<◌, suc, List, length, take, drop, sym, ap, subst, arith}
use Rattle.std.proofs.Math.Seq.{split_at}
use Rattle.std.proofs.lemmas.List.{length-take-le}
use Rattle.std.specs.List.{All}
use Rattle.std.specs.Prelude.{◌∷◌, ◌++◌, slice_index, slice_index_or}
use Rattle.row_kit.specs.declared.domain.Domain.{Domain}
use Rattle.row_kit.specs.declared.program.Program.{Program}
use Rattle.sum_slots.specs.declared.sum.Sum.{Sum}
use Rattle.sum_slots.specs.Shown.{IsShown}
use Rattle.valid_log.specs.Heads.{IsUnshown}

-- a sum before which each one is shown is the first that is not, and begins on the line at its place
pub first_bad : (program : Program) (ranges : List Domain) (sums : List Sum) (lines : List ℕ) (place line : ℕ) (sum : Sum) → place < length sums → length lines ≡ length sums → All (IsShown program ranges) (take place sums)
    → ¬ IsShown program ranges sum → sum ≡ slice_index_or sums place sum → line ≡ slice_index lines place → IsUnshown program ranges sums lines line
first_bad program ranges sums lines place line sum within same shown unshown here begins =
    let before : length (take place sums) ≡ place = length-take-le place sums (omega (arith, within)) in
    record {
      before = take place sums;
      sum = sum;
      later = drop (suc place) sums;
      listed = subst (λ (own : Sum). sums ≡ take place sums ++ (own ∷ drop (suc place) sums)) (sym here) (split_at sums place sum within);
      shown = shown;
      unshown = unshown;
      begins = begins ∙ ap (slice_index lines) (sym before);
    }
