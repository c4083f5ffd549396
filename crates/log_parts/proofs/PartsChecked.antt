-- What the checks of the logs of parts come to.
use Rattle.std.proofs.Common.{◌≡◌, ℕ, ◌<◌, ◌≤◌, ◌-◌, ◌^◌, List, [], ◌∷◌, ◌++◌, length, get_or, Option, None, Some, IfSome, refl, sym, ap, ◌∙◌, subst, inl, inr, arith, length-append, pow_pos}
use Rattle.std.proofs.Math.Seq.{get_or-append_seam}
use Rattle.std.proofs.lemmas.Bool.{cases_eq}
use Rattle.std.proofs.lemmas.List.{get_or_append_left}
use Rattle.std.specs.Prelude.{◌↔◌}
use Rattle.stn_edge.specs.Files.{FileMap, file_of}
use Rattle.stn_model.specs.Points.{depth_limit}
use Rattle.stn_model.specs.declared.plant.Plant.{Plant}
use Rattle.stn_model.specs.declared.start.Start.{Start}
use Rattle.stn_model.specs.Profit.{profit}
use Rattle.row_kit.specs.declared.domain.Domain.{Domain}
use Rattle.row_kit.specs.declared.program.Program.{Program}
use Rattle.row_set.specs.Parts.{IsPartOf, IsAdmitted, plan_of_values}
use Rattle.row_set.specs.PlantProgram.{plant_root}
use Rattle.row_relax.specs.Choices.{plain}
use Rattle.log_lines.specs.declared.grammar.Limits.{Limits}
use Rattle.proof_log.specs.declared.claim.Claim.{Claim}
use Rattle.proof_log.specs.declared.claim.Claim.TheVariants.{Infeasible}
use Rattle.log_lines.specs.declared.defect.Defect.{Defect}
use Rattle.proof_log.specs.LogNames.{log_name}
use Rattle.plan_images.proofs.Telling.{same-plans}
use Rattle.sum_lines.specs.declared.head.Front.{Front}
use Rattle.sum_lines.specs.declared.head.Front.TheVariants as front
use Rattle.sum_lines.specs.Front.{IsFront}
use Rattle.setup_lines.specs.declared.setups.SetupFront.{SetupFront}
use Rattle.setup_lines.specs.declared.setups.SetupFront.TheVariants as setting
use Rattle.setup_lines.specs.declared.setups.Setups.{Setups}
use Rattle.derivation_lines.specs.declared.tail.TailFront.{TailFront}
use Rattle.derivation_lines.specs.declared.tail.TailFront.TheVariants as tailed
use Rattle.valid_log.specs.declared.verdict.LogVerdict.TheVariants.{Yes, No}
use Rattle.valid_log.specs.Verdict.{limits_of}
use Rattle.valid_log.specs.AnyVersion.{IsSetUpVerdict, IsSetupsVerdict}
use Rattle.valid_log.specs.Heads.{AreSetups, IsTail, judged_over, limits_with, setup_sizes}
use Rattle.valid_log.specs.PlantLogs.{IsAnyPartChecked}
use Rattle.valid_log.proofs.LogFronts.{limits_same}
use Rattle.valid_log.specs.Claims.{SaysOf}
use Rattle.log_parts.specs.declared.checked.Checked.TheVariants.{Bad}
use Rattle.log_parts.specs.declared.fronts.PartCheck.{PartCheck}
use Rattle.log_parts.specs.declared.fronts.PartCheck.TheVariants as check
use Rattle.log_parts.specs.declared.heads.Declared.{Declared}
use Rattle.log_parts.specs.declared.heads.LogFront.{LogFront}
use Rattle.log_parts.specs.declared.heads.LogFront.TheVariants as head
use Rattle.log_parts.specs.declared.heads.LogHead.{LogHead}
use Rattle.log_parts.specs.Heads.{items_of, lines_on}
use Rattle.log_parts.specs.Joining.{EachSays}
use Rattle.log_parts.specs.laws.Checked.{AreChecked, HasFront, HasSetups, HaveClaims, IsAnyFound, IsCompared, IsFoundLog, IsFrontKept, IsFrontOf, IsHeadCompared, IsLogFront, IsOtherFront, IsPartCheck, PartSays, front_with, head_limits, nothing}
use Rattle.log_parts.specs.PartLogs.{AreValid, IsPartVerdict, IsRefused, IsValidPart, logs_of}
use Rattle.plant_parts.specs.PlantParts.{IsOfPart, part_root, IsPartProgram}
use Rattle.log_parts.proofs.HeadsDiffer.{no_other}
use Rattle.log_parts.proofs.Limits.{head_same}
use Rattle.log_parts.proofs.PartTrees.{front_here, one_head, part_tree}

-- ---- the log of a part

-- what a yes says of all admitted plans it says of those of the part
head_said : (plant : Plant) (levels part : ℕ) (program : Program) (declared : Declared) (own : LogHead) (claim : Claim) (said : PartCheck) → ((plan : List Start) → IsAdmitted plant program plan ↔ IsOfPart plant levels part plan)
    → SaysOf plant (IsAdmitted plant program) claim → IsHeadCompared declared own claim said → PartSays plant levels part said
head_said plant levels part program declared own claim (check.Valid version bytes other) exact says is =
    subst (SaysOf plant (IsOfPart plant levels part)) (sym is.0)
    (same-plans (IsAdmitted plant program) (IsOfPart plant levels part) (profit plant) (plan_of_values plant) claim (λ plan. (exact plan).0) (λ plan. (exact plan).1) says)
head_said plant levels part program declared own claim (check.Bad defect) exact says is = tt

pub part_said : (plant : Plant) (levels part : ℕ) (program : Program) (declared : Declared) (own : LogFront) (claim : Claim) (said : PartCheck) → ((plan : List Start) → IsAdmitted plant program plan ↔ IsOfPart plant levels part plan)
    → SaysOf plant (IsAdmitted plant program) claim → IsCompared declared own claim said → PartSays plant levels part said
part_said plant levels part program declared (head.Whole own) claim said exact says is = head_said plant levels part program declared own claim said exact says is
part_said plant levels part program declared (head.Bad defect) claim said exact says is = subst (PartSays plant levels part) (sym is) tt

-- a front with a defect is the verdict's
bad_front : (plant : Plant) (levels part : ℕ) (program : Program) (bytes : List ℕ) (f : Front) (defect : Defect) → IsPartProgram plant levels part program → IsFront (limits_of (plain program) (depth_limit plant - levels)) bytes f
    → HasFront plant (limits_of (plain program) (depth_limit plant - levels)) bytes f (head.Bad defect) → IsPartVerdict plant levels part bytes (No defect)
bad_front plant levels part program bytes front.Plain defect of_part stands has = absurd cc
bad_front plant levels part program bytes (front.Headed own) defect of_part stands has = by has.setups has.set_up has.has
  where
    stands' : IsFront (limits_with program (depth_limit plant - levels) 0) bytes (front.Headed own)
    stands' = subst (λ (l : Limits). IsFront l bytes (front.Headed own)) (limits_same program (depth_limit plant - levels)) stands

    -- the answer on the file, whatever stands behind the sums
    over : (set : SetupFront) → AreSetups (limits_with program (depth_limit plant - levels) (length own.sums)) (setup_sizes plant) own bytes set
        → ((judged : List Domain) → IsSetupsVerdict plant program judged (depth_limit plant - levels) bytes set (No defect)) → IsPartVerdict plant levels part bytes (No defect)
    over set stands_set right = record {
      program = program;
      of_part = of_part;
      right = record {
        right = record { front = front.Headed own; stands = stands'; right = record { setups = set; set_up = stands_set; right = right (judged_over (plant_root plant) (plant_root plant) own.version) } };
        holds = tt;
      };
    }

    bad_tail : (setups : Setups) (tail : TailFront) → IsTail setups.limits setups.head bytes tail → head.Bad defect ≡ front_with setups tail → (judged : List Domain) → IsSetUpVerdict plant program judged (depth_limit plant - levels) bytes setups (No defect)
    bad_tail setups (tailed.Whole tail) follows' is judged = absurd cc
    bad_tail setups (tailed.Bad other) follows' is judged = (let e : defect ≡ other = cc in record { tail = tailed.Bad other; follows = follows'; right = ap No e })

    by : (set : SetupFront) → AreSetups (limits_with program (depth_limit plant - levels) (length own.sums)) (setup_sizes plant) own bytes set → HasSetups bytes set (head.Bad defect) → IsPartVerdict plant levels part bytes (No defect)
    by (setting.Whole setups) stands_set has' = over (setting.Whole setups) stands_set (bad_tail setups has'.tail has'.follows has'.is)
    by (setting.Bad other) stands_set has' = (let e : defect ≡ other = cc in over (setting.Bad other) stands_set (λ judged. ap No e))
bad_front plant levels part program bytes (front.Bad other) defect of_part stands has =
    let stands' = subst (λ (l : Limits). IsFront l bytes (front.Bad other)) (limits_same program (depth_limit plant - levels)) stands in
    let same : No defect ≡ No other = (let e : defect ≡ other = cc in ap No e) in
    record { program = program; of_part = of_part; right = record { right = record { front = front.Bad other; stands = stands'; right = same }; holds = tt } }

bad_log : (plant : Plant) (levels part : ℕ) (program : Program) (bytes : List ℕ) (defect : Defect) → IsPartProgram plant levels part program → IsLogFront plant (limits_of (plain program) (depth_limit plant - levels)) bytes (head.Bad defect) → IsPartVerdict plant levels part bytes (No defect)
bad_log plant levels part program bytes defect of_part is = bad_front plant levels part program bytes is.front defect of_part is.stands is.has

compared_head : (plant : Plant) (levels part : ℕ) (program : Program) (bytes : List ℕ) (declared : Declared) (own : LogHead) (claim : Claim) (said : PartCheck) → IsPartProgram plant levels part program
    → IsLogFront plant (head_limits plant levels) bytes (head.Whole own) → IsAnyPartChecked plant program (depth_limit plant - levels) bytes (Yes claim) → IsHeadCompared declared own claim said → IsPartCheck plant levels part bytes declared said
compared_head plant levels part program bytes declared own claim (check.Valid version head_bytes other) of_part stands right is =
    record {
      program = program;
      of_part = of_part;
      right = subst (λ (c : Claim). IsAnyPartChecked plant program (depth_limit plant - levels) bytes (Yes c)) (sym is.0) right;
      own = own;
      stands = stands;
      declares = is.1;
      version_is = is.2;
      takes = is.3;
    }
compared_head plant levels part program bytes declared own claim (check.Bad defect) of_part stands right is =
    inr (record {
      found_declared = own.declared;
      found_version = own.version;
      found_bytes = own.bytes;
      claim = claim;
      found = record { program = program; of_part = of_part; right = right; own = own; stands = stands; declares = refl; version_is = refl; takes = refl };
      kind = is.0;
      differ = is.1;
    })

compared_at : (plant : Plant) (levels part : ℕ) (program : Program) (bytes : List ℕ) (declared : Declared) (own : LogFront) (claim : Claim) (said : PartCheck) → IsPartProgram plant levels part program
    → IsLogFront plant (limits_of (plain program) (depth_limit plant - levels)) bytes own → IsAnyPartChecked plant program (depth_limit plant - levels) bytes (Yes claim) → IsCompared declared own claim said → IsPartCheck plant levels part bytes declared said
compared_at plant levels part program bytes declared (head.Whole own) claim said of_part stands right is =
    compared_head plant levels part program bytes declared own claim said of_part (subst (λ (l : Limits). IsLogFront plant l bytes (head.Whole own)) (head_same plant levels part program of_part) stands) right is
compared_at plant levels part program bytes declared (head.Bad defect) claim said of_part stands right is =
    subst (IsPartCheck plant levels part bytes declared) (sym is) (inl (bad_log plant levels part program bytes defect of_part stands))

-- a yes to the log of a part, against what is declared, where the files are told
pub yes_checked : (plant : Plant) (levels part : ℕ) (program : Program) (files now : Option FileMap) (name stem : List ℕ) (declared : Declared) (own : LogFront) (claim : Claim) (said : PartCheck) → name ≡ log_name stem part → now ≡ files
    → IsPartOf plant program → program.root ≡ part_root plant levels part
    → IfSome files (λ m. IsLogFront plant (limits_of (plain program) (depth_limit plant - levels)) (file_of m name) own) → IfSome now (λ m. IsAnyPartChecked plant program (depth_limit plant - levels) (file_of m name) (Yes claim)) → IsCompared declared own claim said
    → IfSome files (λ m. IsPartCheck plant levels part (logs_of m stem part) declared said)
yes_checked plant levels part program None now name stem declared own claim said named same of_plant root stands right is = tt
yes_checked plant levels part program (Some m) now name stem declared own claim said named same of_plant root stands right is =
    let told = subst (λ (files : Option FileMap). IfSome files (λ m. IsAnyPartChecked plant program (depth_limit plant - levels) (file_of m name) (Yes claim))) same right in
    subst (λ (n : List ℕ). IsPartCheck plant levels part (file_of m n) declared said) named
    (compared_at plant levels part program (file_of m name) declared own claim said (record { is_part = of_plant; root = root }) stands told is)

-- a no
pub no_checked : (plant : Plant) (levels part : ℕ) (program : Program) (files now : Option FileMap) (name stem : List ℕ) (declared : Declared) (defect : Defect) → name ≡ log_name stem part → now ≡ files
    → IsPartOf plant program → program.root ≡ part_root plant levels part → IfSome now (λ m. IsAnyPartChecked plant program (depth_limit plant - levels) (file_of m name) (No defect))
    → IfSome files (λ m. IsPartCheck plant levels part (logs_of m stem part) declared (check.Bad defect))
no_checked plant levels part program None now name stem declared defect named same of_plant root right = tt
no_checked plant levels part program (Some m) now name stem declared defect named same of_plant root right =
    let told = subst (λ (files : Option FileMap). IfSome files (λ m. IsAnyPartChecked plant program (depth_limit plant - levels) (file_of m name) (No defect))) same right in
    inl (record { program = program; of_part = record { is_part = of_plant; root = root }; right = subst (λ (n : List ℕ). IsAnyPartChecked plant program (depth_limit plant - levels) (file_of m n) (No defect)) named told })

-- ---- the head of the first log

-- the front of a part's log, under the limits of all parts
front_at : (plant : Plant) (levels part : ℕ) (program : Program) (bytes : List ℕ) (own : LogFront) → IsPartProgram plant levels part program → IsLogFront plant (limits_of (plain program) (depth_limit plant - levels)) bytes own → IsFrontOf plant levels part bytes own
front_at plant levels part program bytes (head.Whole own) is stands = subst (λ (l : Limits). IsLogFront plant l bytes (head.Whole own)) (head_same plant levels part program is) stands
front_at plant levels part program bytes (head.Bad defect) is stands = bad_log plant levels part program bytes defect is stands

pub front_found : (plant : Plant) (levels part : ℕ) (program : Program) (files : Option FileMap) (name stem : List ℕ) (own : LogFront) → name ≡ log_name stem part → IsPartOf plant program → program.root ≡ part_root plant levels part
    → IfSome files (λ m. IsLogFront plant (limits_of (plain program) (depth_limit plant - levels)) (file_of m name) own) → IfSome files (λ m. IsFrontOf plant levels part (logs_of m stem part) own)
front_found plant levels part program None name stem own named of_plant root stands = tt
front_found plant levels part program (Some m) name stem own named of_plant root stands =
    subst (λ (n : List ℕ). IsFrontOf plant levels part (file_of m n) own) named (front_at plant levels part program (file_of m name) own (record { is_part = of_plant; root = root }) stands)

-- and what it keeps
pub front_kept : (plant : Plant) (levels part : ℕ) (program : Program) (own : LogFront) → IsPartOf plant program → program.root ≡ part_root plant levels part → IsFrontKept plant (limits_of (plain program) (depth_limit plant - levels)) own → IsFrontKept plant (head_limits plant levels) own
front_kept plant levels part program own of_plant root kept = subst (λ (l : Limits). IsFrontKept plant l own) (head_same plant levels part program (record { is_part = of_plant; root = root })) kept

-- where its head has a defect no log was valid
pub first_refused : (plant : Plant) (levels : ℕ) (stem : List ℕ) (files : Option FileMap) (said : LogFront) (defect : Defect) → said ≡ head.Bad defect → IfSome files (λ m. IsFrontOf plant levels 0 (logs_of m stem 0) said)
    → IfSome files (λ m. AreChecked plant levels (logs_of m stem) (Bad 0 defect))
first_refused plant levels stem None said defect is are = tt
first_refused plant levels stem (Some m) said defect is are =
    (pow_pos levels, (nothing, ((λ part below. absurd (omega (arith, below))), inl (subst (IsFrontOf plant levels 0 (logs_of m stem 0)) is are))))

-- ---- all logs

-- what holds of each claim, and of one more
each_more : (P : ℕ → Claim → Type 0) (claims : List Claim) (claim : Claim) → ((part : ℕ) → part < length claims → P part (get_or claims part Infeasible)) → P (length claims) claim
    → (part : ℕ) → part < length (claims ++ claim ∷ []) → P part (get_or (claims ++ claim ∷ []) part Infeasible)
each_more P claims claim each here part within =
    elim (cases_eq part (length claims)) [
      | inl e ↦ subst (λ (n : ℕ). P n (get_or (claims ++ claim ∷ []) n Infeasible)) (sym e) (subst (P (length claims)) (sym (get_or-append_seam claims claim [] Infeasible)) here)
      | inr other ↦
          let below : part < length claims = omega (arith, within, length-append claims (claim ∷ []), other) in
          subst (P part) (sym (get_or_append_left claims (claim ∷ []) Infeasible part below)) (each part below)
    ]

-- one more head stands behind the others
head_at : (heads : List ℕ) (head part : ℕ) → part < length heads → get_or (heads ++ head ∷ []) part 0 ≡ get_or heads part 0
head_at heads head part below = get_or_append_left heads (head ∷ []) 0 part below

-- one more valid log
pub one_more : (plant : Plant) (levels part : ℕ) (stem : List ℕ) (declared : Declared) (files now : Option FileMap) (heads heads' : List ℕ) (claims claims' : List Claim) (said : PartCheck) (version bytes : ℕ) (claim : Claim) → now ≡ files → length heads ≡ part → length claims ≡ part
    → heads' ≡ heads ++ bytes ∷ [] → claims' ≡ claims ++ claim ∷ [] → said ≡ check.Valid version bytes claim
    → IfSome files (λ m. HaveClaims plant levels (logs_of m stem) declared heads claims) → IfSome now (λ m. IsPartCheck plant levels part (logs_of m stem part) declared said) → IfSome files (λ m. HaveClaims plant levels (logs_of m stem) declared heads' claims')
one_more plant levels part stem declared None now heads heads' claims claims' said version bytes claim same long counted pushed pushed' is_valid have here = tt
one_more plant levels part stem declared (Some m) now heads heads' claims claims' said version bytes claim same long counted pushed pushed' is_valid have here =
    let told = subst (λ (files : Option FileMap). IfSome files (λ m. IsPartCheck plant levels part (logs_of m stem part) declared said)) same here in
    let own : IsFoundLog plant levels part (logs_of m stem part) declared version bytes claim = subst (IsPartCheck plant levels part (logs_of m stem part) declared) is_valid told in
    let later = heads ++ bytes ∷ [] in
    let all : ℕ → Claim → Type 0 = λ n c. IsAnyFound plant levels n (logs_of m stem n) declared (get_or later n 0) c in
    let last : get_or later part 0 ≡ bytes = ap (λ (n : ℕ). get_or later n 0) (sym long) ∙ get_or-append_seam heads bytes [] 0 in
    subst (λ (cs : List Claim). HaveClaims plant levels (logs_of m stem) declared heads' cs) (sym pushed')
    (subst (λ (hs : List ℕ). HaveClaims plant levels (logs_of m stem) declared hs (claims ++ claim ∷ [])) (sym pushed)
    (each_more all claims claim
    (λ n below. subst (λ (h : ℕ). IsAnyFound plant levels n (logs_of m stem n) declared h (get_or claims n Infeasible)) (sym (head_at heads bytes n (omega (arith, below, counted, long)))) (have n below))
    (subst (λ (n : ℕ). all n claim) (sym counted) (subst (λ (h : ℕ). IsAnyFound plant levels part (logs_of m stem part) declared h claim) (sym last) (version, own)))))

-- one more claim that holds
pub one_more_said : (plant : Plant) (levels part : ℕ) (claims later : List Claim) (said : PartCheck) (version bytes : ℕ) (claim : Claim) → length claims ≡ part → later ≡ claims ++ claim ∷ [] → said ≡ check.Valid version bytes claim → EachSays plant levels claims
    → PartSays plant levels part said → EachSays plant levels later
one_more_said plant levels part claims later said version bytes claim counted pushed is_valid says here =
    let own = subst (PartSays plant levels part) is_valid here in
    subst (EachSays plant levels) (sym pushed) (each_more (λ n c. SaysOf plant (IsOfPart plant levels n) c) claims claim says (subst (λ (n : ℕ). SaysOf plant (IsOfPart plant levels n) claim) (sym counted) own))

-- a log that was found is valid, with what it declares
valid_part : (plant : Plant) (levels part : ℕ) (bytes : List ℕ) (declared : Declared) (version head_bytes : ℕ) (claim : Claim) → IsFoundLog plant levels part bytes declared version head_bytes claim → IsValidPart plant levels part bytes declared
valid_part plant levels part bytes declared version head_bytes claim found =
    let tree = part_tree plant levels part bytes declared version head_bytes claim found in (tree.0, (claim, tree.1.is))

-- the first logs are valid
pub are_valid : (plant : Plant) (levels : ℕ) (logs : ℕ → List ℕ) (declared : Declared) (heads : List ℕ) (claims : List Claim) (count : ℕ) → count ≤ length claims → HaveClaims plant levels logs declared heads claims → AreValid plant levels logs declared count
are_valid plant levels logs declared heads claims count few have part below =
    let found = have part (omega (arith, few, below)) in
    valid_part plant levels part (logs part) declared found.0 (get_or heads part 0) (get_or claims part Infeasible) found.1

-- the first log has no other head than its own
not_first : (plant : Plant) (levels part : ℕ) (logs : ℕ → List ℕ) (first : LogHead) (defect : Defect) → IsLogFront plant (head_limits plant levels) (logs 0) (head.Whole first) → IsOtherFront plant levels part (logs part) first.declared defect → 0 < part
not_first plant levels part logs first defect are other =
    elim (cases_eq part 0) [
      | inl none ↦
          let found = subst (λ (n : ℕ). IsFoundLog plant levels n (logs n) other.found_declared other.found_version other.found_bytes other.claim) none other.found in
          let here = front_here plant levels 0 found.program (logs 0) (head.Whole first) found.of_part are in
          let own = front_here plant levels 0 found.program (logs 0) (head.Whole found.own) found.of_part found.stands in
          let same : first ≡ found.own = one_head plant found.program (depth_limit plant - levels) (logs 0) first found.own here own in
          let declared : first.declared ≡ other.found_declared = ap (λ (h : LogHead). h.declared) same ∙ sym found.declares in
          absurd (no_other (items_of first.declared) (items_of other.found_declared) (lines_on other.found_declared) defect.line (ap items_of declared) other.differ)
      | inr later ↦ omega (arith, later)
    ]

-- the first log that is refused
pub first_bad : (plant : Plant) (levels part : ℕ) (stem : List ℕ) (first : LogHead) (declared : Declared) (files now : Option FileMap) (heads : List ℕ) (claims : List Claim) (said : PartCheck) (defect : Defect) → now ≡ files → length claims ≡ part → part < 2 ^ levels
    → declared ≡ first.declared → said ≡ check.Bad defect → IfSome files (λ m. IsLogFront plant (head_limits plant levels) (logs_of m stem 0) (head.Whole first))
    → IfSome files (λ m. HaveClaims plant levels (logs_of m stem) declared heads claims) → IfSome now (λ m. IsPartCheck plant levels part (logs_of m stem part) declared said) → IfSome files (λ m. AreChecked plant levels (logs_of m stem) (Bad part defect))
first_bad plant levels part stem first declared None now heads claims said defect same counted within declares is_bad front have here = tt
first_bad plant levels part stem first declared (Some m) now heads claims said defect same counted within declares is_bad front have here =
    let told = subst (λ (files : Option FileMap). IfSome files (λ m. IsPartCheck plant levels part (logs_of m stem part) declared said)) same here in
    let bad : IsPartCheck plant levels part (logs_of m stem part) declared (check.Bad defect) = subst (IsPartCheck plant levels part (logs_of m stem part) declared) is_bad told in
    (within, (declared, (are_valid plant levels (logs_of m stem) declared heads claims part (omega (arith, counted)) have, refused bad)))
  where
    refused : IsPartCheck plant levels part (logs_of m stem part) declared (check.Bad defect) → IsRefused plant levels part (logs_of m stem part) declared defect
    refused (inl verdict) = inl verdict
    refused (inr other) =
        let own = subst (λ (d : Declared). IsOtherFront plant levels part (logs_of m stem part) d defect) declares other in
        inr (
          not_first plant levels part (logs_of m stem) first defect front own,
          record { own = other.found_declared; valid = valid_part plant levels part (logs_of m stem part) other.found_declared other.found_version other.found_bytes other.claim other.found; kind = other.kind; differ = other.differ },
        )
