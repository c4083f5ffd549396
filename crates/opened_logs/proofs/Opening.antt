-- The head of a log that was read, and the rows with what it declares.
use Rattle.std.proofs.Common.{◌≡◌, ◌∙◌, ℕ, List, length, Option, inl, inr, refl, sym, ap, subst}
use Rattle.std.specs.Prelude.{IfSome}
use Rattle.stn_edge.specs.Files.{FileMap, file_of}
use Rattle.stn_model.specs.Points.{depth_limit}
use Rattle.stn_model.specs.declared.plant.Plant.{Plant}
use Rattle.row_kit.specs.declared.domain.Domain.{Domain}
use Rattle.row_kit.specs.declared.program.Program.{Program}
use Rattle.row_relax.specs.Choices.{plain}
use Rattle.row_set.specs.PlantProgram.{IsMadeOf, IsProgramOf, plant_root}
use Rattle.log_lines.specs.declared.grammar.Limits.{Limits}
use Rattle.log_nodes.proofs.Readings.{some_both, some_then}
use Rattle.log_parts.specs.declared.heads.LogFront.TheVariants as front
use Rattle.log_parts.specs.declared.heads.LogHead.{LogHead}
use Rattle.log_parts.specs.laws.Checked.{IsHeadFront, IsLogFront, IsSetUpFront, head_with, no_head}
use Rattle.opened_logs.proofs.Fronts.{none_read, setups_read}
use Rattle.sum_lines.specs.declared.head.Front.{Front}
use Rattle.sum_lines.specs.declared.head.Front.TheVariants.{Plain, Headed}
use Rattle.sum_lines.specs.declared.head.Head.{Head}
use Rattle.sum_lines.specs.Front.{IsFront}
use Rattle.setup_lines.specs.declared.setups.SetupFront.{SetupFront}
use Rattle.setup_lines.specs.declared.setups.SetupFront.TheVariants as setting
use Rattle.setup_lines.specs.declared.setups.Setups.{Setups}
use Rattle.derivation_lines.specs.declared.tail.Tail.{Tail}
use Rattle.derivation_lines.specs.declared.tail.TailFront.{TailFront}
use Rattle.derivation_lines.specs.declared.tail.TailFront.TheVariants.{Whole}
use Rattle.valid_log.specs.Heads.{AreSetups, IsTail, IsWithHead, limits_with, setup_sizes}
use Rattle.valid_log.specs.Verdict.{limits_of}
use Rattle.valid_log.proofs.LogFronts.{limits_same}
use Rattle.opened_logs.specs.declared.opened.Opened.{Opened}
use Rattle.opened_logs.specs.Opened.{IsOpened, IsOpenedHead, IsOpenedOver, IsOpenedSetUp}

-- a log without a head
pub opened-plain : (plant : Plant) (program : Program) (judged : List Domain) (told : Option FileMap) (name : List ℕ) (f : Front) (own : LogHead) → f ≡ Plain → own ≡ no_head (limits_with program (depth_limit plant) 0)
    → IfSome told (λ m. IsFront (limits_with program (depth_limit plant) 0) (file_of m name) f) → IfSome told (λ m. IsOpenedOver plant program judged (file_of m name) (record { head = own; rows = plain program }))
opened-plain plant program judged told name f own is none stands =
    some_then told (λ m. IsLogFront plant (limits_of (plain program) (depth_limit plant)) (file_of m name) (front.Whole own)) (λ m. IsOpenedOver plant program judged (file_of m name) (record { head = own; rows = plain program }))
    (λ m it. record { stands = it; over = inl (ap (λ (h : LogHead). h.bytes) none, refl) })
    (none_read plant program (depth_limit plant) told name f own (none ∙ ap no_head (sym (limits_same program (depth_limit plant)))) is stands)

-- a log with a head, behind which this stands
pub opened-headed : (plant : Plant) (program : Program) (judged : List Domain) (told : Option FileMap) (name : List ℕ) (f : Front) (head : Head) (opened : Opened) → f ≡ Headed head → IfSome told (λ m. IsFront (limits_with program (depth_limit plant) 0) (file_of m name) f)
    → IfSome told (λ m. IsOpenedHead plant program judged (file_of m name) head opened) → IfSome told (λ m. IsOpenedOver plant program judged (file_of m name) opened)
opened-headed plant program judged told name f head opened is stands =
    some_both told (λ m. IsFront (limits_with program (depth_limit plant) 0) (file_of m name) f) (λ m. IsOpenedHead plant program judged (file_of m name) head opened) (λ m. IsOpenedOver plant program judged (file_of m name) opened)
    (λ m it own. record {
      stands = record {
        front = Headed head;
        stands = subst (λ (l : Limits). IsFront l (file_of m name) (Headed head)) (sym (limits_same program (depth_limit plant))) (subst (IsFront (limits_with program (depth_limit plant) 0) (file_of m name)) is it);
        has = own.stands;
      };
      over = inr own.over;
    }) stands

-- the setups behind the sums of a head, behind which this stands
pub opened-set_up : (plant : Plant) (program : Program) (judged : List Domain) (told now : Option FileMap) (name : List ℕ) (head : Head) (set : SetupFront) (setups : Setups) (opened : Opened) → now ≡ told → set ≡ setting.Whole setups
    → IfSome told (λ m. AreSetups (limits_with program (depth_limit plant) (length head.sums)) (setup_sizes plant) head (file_of m name) set) → IfSome now (λ m. IsOpenedSetUp plant program judged (file_of m name) setups opened)
    → IfSome told (λ m. IsOpenedHead plant program judged (file_of m name) head opened)
opened-set_up plant program judged told now name head set setups opened same is stands has =
    let has_now = subst (λ (files : Option FileMap). IfSome files (λ m. IsOpenedSetUp plant program judged (file_of m name) setups opened)) same has in
    let fronts = some_then told (λ m. IsOpenedSetUp plant program judged (file_of m name) setups opened) (λ m. IsSetUpFront (file_of m name) setups (front.Whole opened.head)) (λ m it. it.stands) has_now in
    some_both told (λ m. IsHeadFront plant (limits_of (plain program) (depth_limit plant)) (file_of m name) head (front.Whole opened.head)) (λ m. IsOpenedSetUp plant program judged (file_of m name) setups opened) (λ m. IsOpenedHead plant program judged (file_of m name) head opened)
    (λ m it own. record { stands = it; over = own.over }) (setups_read plant program (depth_limit plant) told told name head set setups (front.Whole opened.head) refl is stands fronts) has_now

-- what stands behind the setups of a head
pub opened-tailed : (plant : Plant) (program : Program) (judged : List Domain) (told : Option FileMap) (name : List ℕ) (setups : Setups) (t : TailFront) (tail : Tail) (opened : Opened) → t ≡ Whole tail → IfSome told (λ m. IsTail setups.limits setups.head (file_of m name) t)
    → opened.head ≡ head_with setups tail → IsWithHead plant setups.head.version program judged setups.head.sums setups.units tail.derivations opened.rows → IfSome told (λ m. IsOpenedSetUp plant program judged (file_of m name) setups opened)
opened-tailed plant program judged told name setups t tail opened is follows head_is over =
    some_then told (λ m. IsTail setups.limits setups.head (file_of m name) t) (λ m. IsOpenedSetUp plant program judged (file_of m name) setups opened)
    (λ m it. record {
      stands = record { tail = Whole tail; follows = subst (IsTail setups.limits setups.head (file_of m name)) is it; is = ap front.Whole head_is };
      over = subst (λ (h : LogHead). IsWithHead plant h.version program judged h.declared.sums h.declared.units h.declared.derivations opened.rows) (sym head_is) over;
    }) follows

-- a log that is opened over the plant's own program, judged over the domains of its slots
pub opened-plant : (plant : Plant) (program : Program) (judged : List Domain) (told : Option FileMap) (name : List ℕ) (opened : Opened) → IsMadeOf plant program → IsProgramOf plant program → judged ≡ plant_root plant
    → IfSome told (λ m. IsOpenedOver plant program judged (file_of m name) opened) → IfSome told (λ m. IsOpened plant (file_of m name) opened)
opened-plant plant program judged told name opened made means is =
    some_then told (λ m. IsOpenedOver plant program judged (file_of m name) opened) (λ m. IsOpened plant (file_of m name) opened)
    (λ m it. record { program = program; made = made; means = means; is = subst (λ (ds : List Domain). IsOpenedOver plant program ds (file_of m name) opened) is it })
