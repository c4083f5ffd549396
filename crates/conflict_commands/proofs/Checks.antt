-- What the text and the log of a conflict come to.
use Rattle.std.proofs.Common.{◌≡◌, ℕ, ◌<◌, Bool, true, List, length, Option, Some, None, nat_lt, refl, ap, sym, subst, ◌∙◌, arith}
use Rattle.std.specs.Prelude.{Ok, IfSome}
use Rattle.std.proofs.lemmas.Bool.Decides.{nat_tests}
use Rattle.stn_edge.specs.Files.{FileMap, file_of}
use Rattle.stn_model.specs.declared.plant.Plant.{Plant}
use Rattle.stn_model.specs.Best.{NoPlan}
use Rattle.log_lines.specs.declared.defect.Defect.{Defect}
use Rattle.proof_log.specs.LogNames.{log_name}
use Rattle.fewer_orders.specs.Alone.{alone}
use Rattle.least_horizon.specs.Stems.{IsJudged}
use Rattle.order_text.specs.ReadConflict.{conflict_read, most_bytes, bad_line}
use Rattle.conflict_commands.specs.declared.checking.ConflictVerdict.{ConflictVerdict}
use Rattle.conflict_commands.specs.declared.checking.ConflictVerdict.TheVariants.{Yes, NoText, NoLog}
use Rattle.conflict_commands.specs.Checking.{IsKeptChecked, IsRightOn, YesSaysNoPlan}

-- nothing speaks against the log of the plant that was made
pub kept_judged : (plant fewer : Plant) (kept : List Bool) (files : Option FileMap) (name own : List ℕ) (found : Option Defect) → fewer ≡ alone plant kept → own ≡ name → found ≡ None
    → IfSome files (λ m. IsJudged fewer (file_of m own) found) → IfSome files (λ m. IsJudged (alone plant kept) (file_of m name) None)
kept_judged plant fewer kept files name own found plant_is named none judged =
    subst (λ (f : Option Defect). IfSome files (λ m. IsJudged (alone plant kept) (file_of m name) f)) none
    (subst (λ (n : List ℕ). IfSome files (λ m. IsJudged (alone plant kept) (file_of m n) found)) named
    (subst (λ (p : Plant). IfSome files (λ m. IsJudged p (file_of m own) found)) plant_is judged))

-- and so it has no plan
pub kept_none : (plant fewer : Plant) (kept : List Bool) (found : Option Defect) → fewer ≡ alone plant kept → found ≡ None → (found ≡ None → NoPlan fewer) → NoPlan (alone plant kept)
kept_none plant fewer kept found plant_is none says = subst (λ (p : Plant). NoPlan p) plant_is (says none)

long_read : (plant : Plant) (text : List ℕ) → most_bytes < length text → conflict_read plant text ≡ bad_line 0
unfolding conflict_read
long_read plant text long = let test : nat_lt most_bytes (length text) ≡ true = grind (arith, nat_tests) in rw test refl

-- the defect of a text that is too long
pub too_long_read : (plant : Plant) (files : Option FileMap) (name : List ℕ) → IfSome files (λ m. most_bytes < length (file_of m name)) → IfSome files (λ m. conflict_read plant (file_of m name) ≡ bad_line 0)
too_long_read plant None name long = tt
too_long_read plant (Some m) name long = long_read plant (file_of m name) long

-- the verdict on a log of the deliveries that a text names is that on both
pub kept_right : (plant : Plant) (files : Option FileMap) (stem : List ℕ) (kept : List Bool) (verdict : ConflictVerdict) → IfSome files (λ m. conflict_read plant (file_of m (log_name stem 0)) ≡ Ok kept)
    → IsKeptChecked plant files (log_name stem 1) kept verdict → IsRightOn plant files stem verdict
kept_right plant None stem kept verdict reads is = tt
kept_right plant (Some m) stem kept (Yes own) reads is =
    (reads ∙ ap (λ (k : List Bool). Ok k) (sym is.0), subst (λ (k : List Bool). IsJudged (alone plant k) (file_of m (log_name stem 1)) None) (sym is.0) is.1)
kept_right plant (Some m) stem kept (NoText defect) reads is = absurd is
kept_right plant (Some m) stem kept (NoLog own defect) reads is =
    (reads ∙ ap (λ (k : List Bool). Ok k) (sym is.0), subst (λ (k : List Bool). IsJudged (alone plant k) (file_of m (log_name stem 1)) (Some defect)) (sym is.0) is.1)

-- and a yes says that no plan meets them
pub kept_says : (plant : Plant) (files : Option FileMap) (name : List ℕ) (kept : List Bool) (verdict : ConflictVerdict) → IsKeptChecked plant files name kept verdict → YesSaysNoPlan plant verdict
kept_says plant files name kept (Yes own) is = subst (λ (k : List Bool). NoPlan (alone plant k)) (sym is.0) is.2
kept_says plant files name kept (NoText defect) is = absurd is
kept_says plant files name kept (NoLog own defect) is = tt
