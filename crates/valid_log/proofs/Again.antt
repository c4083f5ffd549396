-- One yes on the same bytes over programs that are the same.
use Rattle.std.proofs.Common.{◌≡◌, ℕ, ◌≤◌, List, subst}
use Rattle.stn_model.specs.declared.plant.Plant.{Plant}
use Rattle.row_kit.specs.declared.domain.Domain.{Domain}
use Rattle.row_kit.specs.declared.program.Program.{Program}
pub use Rattle.setup_slots.proofs.SameParts.{same-program}
use Rattle.proof_log.specs.declared.claim.Claim.{Claim}
use Rattle.valid_log.specs.declared.verdict.LogVerdict.{LogVerdict}
use Rattle.valid_log.specs.declared.verdict.LogVerdict.TheVariants.{Yes}
use Rattle.valid_log.specs.AnyVersion.{IsAnyVerdict}
use Rattle.valid_log.proofs.AnyVersions.{yes-stays}

-- a yes over a program is that over each that is the same, also where more splits may be open
pub yes-again : (plant : Plant) (a b : Program) (ranges root : List Domain) (depth more : ℕ) (bytes : List ℕ) (claim : Claim) (verdict : LogVerdict) → a ≡ b → depth ≤ more → IsAnyVerdict plant a ranges root depth bytes (Yes claim)
    → IsAnyVerdict plant b ranges root more bytes verdict → verdict ≡ Yes claim
yes-again plant a b ranges root depth more bytes claim verdict same less said right =
    yes-stays plant b ranges root depth more bytes claim verdict less (subst (λ (p : Program). IsAnyVerdict plant p ranges root depth bytes (Yes claim)) same said) right
