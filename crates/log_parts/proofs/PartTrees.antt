-- What a valid log of a part says over the part's rows with what its head declares.
use Rattle.std.proofs.Common.{◌≡◌, ℕ, ◌-◌, List, [], ◌∷◌, ◌++◌, append_assoc, drop, length, None, refl, sym, ap, ◌∙◌, subst, arith, inl, inr}
use Rattle.std.proofs.lemmas.List.{take_all}
use Rattle.std.proofs.lemmas.List.Elements.{All-nil}
use Rattle.stn_model.specs.Points.{depth_limit}
use Rattle.stn_model.specs.declared.plant.Plant.{Plant}
use Rattle.row_kit.specs.declared.domain.Domain.{Domain}
use Rattle.row_kit.specs.declared.program.Program.{Program}
use Rattle.row_set.specs.PlantProgram.{plant_root}
use Rattle.row_relax.specs.declared.rows.Rows.{Rows}
use Rattle.row_relax.specs.Choices.{plain}
use Rattle.row_relax.specs.RowProofs.{RowTree}
use Rattle.log_lines.specs.declared.grammar.Limits.{Limits}
use Rattle.log_lines.specs.TextDefect.{log_text_defect}
use Rattle.proof_log.specs.declared.claim.Claim.{Claim}
use Rattle.proof_log.specs.declared.claim.Claim.TheVariants.{Optimal, Infeasible, Between, Below}
use Rattle.proof_log.specs.Behind.{behind}
use Rattle.proof_log.specs.OneText.{IsClaimOver}
use Rattle.sum_slots.specs.declared.sum.Sum.{Sum}
use Rattle.sum_slots.specs.Shown.{IsShown}
use Rattle.sum_lines.specs.declared.head.Front.{Front}
use Rattle.sum_lines.specs.declared.head.Front.TheVariants as front
use Rattle.sum_lines.specs.declared.head.Head.{Head}
use Rattle.sum_lines.specs.Front.{BeginsWith, IsFront, IsHeaded}
use Rattle.sum_lines.specs.Head.{first_line, lines_of as sum_lines_of, lines_text as sum_lines_text}
use Rattle.setup_lines.specs.declared.setups.SetupFront.{SetupFront}
use Rattle.setup_lines.specs.declared.setups.SetupFront.TheVariants as setting
use Rattle.setup_lines.specs.declared.setups.Setups.{Setups}
use Rattle.derivation_lines.specs.declared.tail.Tail.{Tail}
use Rattle.derivation_lines.specs.declared.tail.TailFront.{TailFront}
use Rattle.derivation_lines.specs.declared.tail.TailFront.TheVariants as tailed
use Rattle.valid_log.specs.declared.verdict.LogVerdict.TheVariants.{Yes}
use Rattle.valid_log.specs.Verdict.{IsLog, IsSoundLog, IsValidLog, limits_of}
use Rattle.valid_log.specs.Heads.{AreSetups, IsTail, IsWithHead, judged_over, limits_with, setup_sizes}
use Rattle.valid_log.specs.AnyVersion.{IsAnyLog, IsValidBehind, IsValidWith, given_claim}
use Rattle.valid_log.proofs.AnyVersions.{any_exact, same_head, setups_same, small_behind, small_of, small_with, tail_same}
use Rattle.valid_log.proofs.Deeper.{deep_setups, front-deeper, setups-deeper, tail-deeper}
use Rattle.valid_log.proofs.Fronts.{head_first, heads_same}
use Rattle.valid_log.proofs.LogFronts.{limits_same}
use Rattle.plant_parts.specs.PlantParts.{IsPartProgram}
use Rattle.log_parts.specs.declared.heads.Declared.{Declared}
use Rattle.log_parts.specs.declared.heads.LogFront.{LogFront}
use Rattle.log_parts.specs.declared.heads.LogFront.TheVariants as head
use Rattle.log_parts.specs.declared.heads.LogHead.{LogHead}
use Rattle.log_parts.specs.Heads.{IsNewest}
use Rattle.log_parts.specs.PartLogs.{IsPartLog}
use Rattle.log_parts.specs.laws.Checked.{HasFront, HasSetups, IsFoundLog, IsHeadFront, IsLogFront, front_with, head_limits, head_with, limits_more, no_head}
use Rattle.log_parts.proofs.Limits.{head_same, judged_same}
use Rattle.log_parts.proofs.PartHeads.{none-enlarged}

-- ---- one front

pub whole_same : (one other : LogHead) → head.Whole one ≡ head.Whole other → one ≡ other
whole_same one other is = cc

-- a front with a head whose setups stand behind it is that of its sums, setups and derivations
pub record HasTail (setups : Setups) (tail : TailFront) (said : LogHead) : Type 0 where
  pub found : Tail
  pub is : tail ≡ tailed.Whole found
  pub same : said ≡ head_with setups found

tail_of_front : (setups : Setups) (tail : TailFront) (said : LogHead) → head.Whole said ≡ front_with setups tail → HasTail setups tail said
tail_of_front setups (tailed.Whole found) said is = record { found = found; is = refl; same = whole_same said (head_with setups found) is }
tail_of_front setups (tailed.Bad defect) said is = absurd cc

-- a front with a head has setups behind its sums, maybe none, and derivations behind them
pub record HasSetUp (plant : Plant) (limits : Limits) (bytes : List ℕ) (own : Head) (said : LogHead) : Type 0 where
  pub setups : Setups
  pub set_up : AreSetups (limits_more limits (length own.sums)) (setup_sizes plant) own bytes (setting.Whole setups)
  pub tail : Tail
  pub follows : IsTail setups.limits setups.head bytes (tailed.Whole tail)
  pub same : said ≡ head_with setups tail

pub set_up_front : (plant : Plant) (limits : Limits) (bytes : List ℕ) (own : Head) (said : LogHead) → IsHeadFront plant limits bytes own (head.Whole said) → HasSetUp plant limits bytes own said
set_up_front plant limits bytes own said is = by is.setups is.set_up is.has
  where
    by : (front : SetupFront) → AreSetups (limits_more limits (length own.sums)) (setup_sizes plant) own bytes front → HasSetups bytes front (head.Whole said) → HasSetUp plant limits bytes own said
    by (setting.Whole setups) stands has =
        let of = tail_of_front setups has.tail said has.is in
        record { setups = setups; set_up = stands; tail = of.found; follows = subst (IsTail setups.limits setups.head bytes) of.is has.follows; same = of.same }
    by (setting.Bad defect) stands has = absurd cc

-- the version of its head
pub set_up_version : (plant : Plant) (limits : Limits) (bytes : List ℕ) (own : Head) (said : LogHead) → HasSetUp plant limits bytes own said → said.version ≡ own.version
set_up_version plant limits bytes own said is = ap (λ (h : LogHead). h.version) is.same ∙ (same_head (limits_more limits (length own.sums)) (setup_sizes plant) own bytes is.setups is.set_up).0

module _ (plant : Plant) (program : Program) (depth : ℕ) (bytes : List ℕ) where
  -- the limits of the log, by its program, and as its front has them
  abbrev limits : Limits
  limits = limits_of (plain program) depth

  abbrev wide : Limits
  wide = limits_with program depth 0

  -- what stands behind the sums of one head is the same
  one_tail : (own : Head) (one other : LogHead) → IsHeaded wide bytes own → IsHeadFront plant limits bytes own (head.Whole one) → IsHeadFront plant limits bytes own (head.Whole other) → one ≡ other
  one_tail own one other stands first second =
      let summed = limits_with program depth (length own.sums) in
      let sizes = setup_sizes plant in
      let a = set_up_front plant limits bytes own one first in
      let b = set_up_front plant limits bytes own other second in
      let whole : setting.Whole b.setups ≡ setting.Whole a.setups = setups_same summed sizes own bytes a.setups (setting.Whole b.setups) a.set_up b.set_up in
      let set : b.setups ≡ a.setups = cc in
      let small = small_behind summed sizes bytes own a.setups (small_with program depth own stands.kept) a.set_up in
      let follows' = subst (λ (s : Setups). IsTail s.limits s.head bytes (tailed.Whole b.tail)) set b.follows in
      let tail : tailed.Whole b.tail ≡ tailed.Whole a.tail = tail_same a.setups.limits a.setups.head bytes a.tail (tailed.Whole b.tail) small a.follows follows' in
      let tails : b.tail ≡ a.tail = cc in
      a.same ∙ ap (head_with a.setups) (sym tails) ∙ ap (λ (s : Setups). head_with s b.tail) (sym set) ∙ sym b.same

  by_fronts : (f g : Front) (one other : LogHead) → IsFront wide bytes f → IsFront wide bytes g → HasFront plant limits bytes f (head.Whole one) → HasFront plant limits bytes g (head.Whole other) → one ≡ other
  by_fronts front.Plain front.Plain one other stands stands2 has has2 = whole_same one other (has ∙ sym has2)
  by_fronts front.Plain (front.Headed h) one other stands stands2 has has2 = absurd (head_first wide bytes h stands2 stands)
  by_fronts front.Plain (front.Bad defect) one other stands stands2 has has2 = absurd cc
  by_fronts (front.Headed h) front.Plain one other stands stands2 has has2 = absurd (head_first wide bytes h stands stands2)
  by_fronts (front.Headed h) (front.Headed k) one other stands stands2 has has2 =
      let same = heads_same wide bytes k h (small_of program depth) stands2 stands in
      one_tail h one other stands has (subst (λ (x : Head). IsHeadFront plant limits bytes x (head.Whole other)) same has2)
  by_fronts (front.Headed h) (front.Bad defect) one other stands stands2 has has2 = absurd cc
  by_fronts (front.Bad defect) g one other stands stands2 has has2 = absurd cc

  -- a log has one head
  pub one_head : (one other : LogHead) → IsLogFront plant limits bytes (head.Whole one) → IsLogFront plant limits bytes (head.Whole other) → one ≡ other
  one_head one other first second =
      let as_wide = λ (f : Front) (stands : IsFront limits bytes f). subst (λ (l : Limits). IsFront l bytes f) (limits_same program depth) stands in
      by_fronts first.front second.front one other (as_wide first.front first.stands) (as_wide second.front second.stands) first.has second.has

-- ---- a yes

-- what a valid log says behind its head, over the rows with what it declares
pub record IsHeadLog (plant : Plant) (program : Program) (judged : List Domain) (depth : ℕ) (bytes : List ℕ) (own : LogHead) (claim : Claim) : Type 0 where
  pub version : ℕ
  pub rows : Rows
  pub enlarged : IsWithHead plant version program judged own.declared.sums own.declared.units own.declared.derivations rows
  pub none : version ≡ 3 → own.declared.derivations ≡ []
  pub newest : version ≡ 4 → IsNewest bytes
  pub inner : Claim
  pub valid : IsValidLog rows depth (behind version own.bytes bytes) inner
  pub claim_is : claim ≡ given_claim (length program.root) inner
  pub log : (tree : RowTree) → IsLog rows (behind version own.bytes bytes) tree inner
      → IsAnyLog plant program judged judged bytes own.declared.sums own.declared.units own.declared.derivations tree claim

-- the point of a claim over the slots stays
whole_claim : (slots : ℕ) (claim : Claim) → IsClaimOver slots claim → claim ≡ given_claim slots claim
whole_claim slots (Optimal profit point) over = ap (Optimal profit) (sym (take_all slots point (omega (arith, over))))
whole_claim slots Infeasible over = refl
whole_claim slots (Between profit most point) over = ap (Between profit most) (sym (take_all slots point (omega (arith, over))))
whole_claim slots (Below most) over = refl

-- without a head
plain_log : (plant : Plant) (program : Program) (judged : List Domain) (depth : ℕ) (bytes : List ℕ) (limits : Limits) (claim : Claim) → IsFront (limits_with program depth 0) bytes front.Plain → IsValidLog (plain program) depth bytes claim
    → IsHeadLog plant program judged depth bytes (no_head limits) claim
plain_log plant program judged depth bytes limits claim stands valid = record {
  version = 3;
  rows = plain program;
  enlarged = record {
    sums_shown = All-nil (IsShown program judged);
    between = program;
    with_sums = none-enlarged program judged;
    wide = program;
    with_setups = refl;
    derivations_shown = tt;
    grown = inl (refl, refl, refl);
    choices = refl;
  };
  none = λ three. refl;
  newest = λ four. absurd (omega (arith, four));
  inner = claim;
  valid = valid;
  claim_is = whole_claim (length program.root) claim valid.valid.is_log.over.claim_over;
  log = λ tree is_log. record { front = front.Plain; stands = stands; is_log = (refl, refl, refl, is_log) };
}

no_derivations : (limits : Limits) (own : Head) (bytes : List ℕ) (tail : Tail) → IsTail limits own bytes (tailed.Whole tail) → own.version ≡ 3 → tail.derivations ≡ []
no_derivations limits own bytes tail (inl none) three = (let is = none.1 in cc)
no_derivations limits own bytes tail (inr some) three = absurd (omega (arith, some.0, three))

-- a head of version 4 begins with that line
head_newest : (kept_by : Limits) (own : Head) (bytes : List ℕ) → IsFront kept_by bytes (front.Headed own) → own.version ≡ 4 → IsNewest bytes
head_newest kept_by own bytes stands four =
    let rest = drop own.bytes bytes in
    let lines = sum_lines_text (sum_lines_of own.sums) in
    subst (λ (version : ℕ). BeginsWith (first_line version) bytes) four
    (record { after = lines ++ rest; is = stands.is ∙ append_assoc (first_line own.version) (10 ∷ lines) rest })

-- with one
headed_log : (plant : Plant) (program : Program) (judged : List Domain) (depth : ℕ) (bytes : List ℕ) (own : Head) (claim : Claim) → IsFront (limits_with program depth 0) bytes (front.Headed own)
    → (valid : IsValidBehind plant program (judged_over judged judged own.version) depth bytes own claim) → IsHeadLog plant program judged depth bytes (head_with valid.setups valid.tail) claim
headed_log plant program judged depth bytes own claim stands valid =
    let setups = valid.setups in
    let summed = limits_with program depth (length own.sums) in
    let same = same_head summed (setup_sizes plant) own bytes setups valid.set_up in
    let enlarged = subst (λ (ds : List Domain). IsWithHead plant own.version program ds own.sums setups.units valid.tail.derivations valid.rows) (judged_same judged own.version) valid.enlarged in
    record {
      version = own.version;
      rows = valid.rows;
      enlarged = subst (λ (sums : List Sum). IsWithHead plant own.version program judged sums setups.units valid.tail.derivations valid.rows) (sym same.1.0) enlarged;
      none = λ three. no_derivations setups.limits setups.head bytes valid.tail valid.follows (same.0 ∙ three);
      newest = head_newest (limits_with program depth 0) own bytes stands;
      inner = valid.own;
      valid = valid.valid;
      claim_is = valid.is;
      log = λ tree is_log. record {
        front = front.Headed own;
        stands = front-deeper program depth 0 bytes own stands;
        is_log = record {
          setups = deep_setups 0 setups;
          set_up = setups-deeper summed 0 (setup_sizes plant) own bytes setups valid.set_up;
          tail = valid.tail;
          follows = tail-deeper setups.limits 0 setups.head bytes valid.tail valid.follows;
          declares = same.1.0;
          sets_up = refl;
          derives = refl;
          rows = valid.rows;
          enlarged = subst (λ (sums : List Sum). IsWithHead plant own.version program (judged_over judged judged own.version) sums setups.units valid.tail.derivations valid.rows) (sym same.1.0) valid.enlarged;
          own = valid.own;
          is_log = is_log;
          claim_is = valid.is;
        };
      };
    }

-- a valid log has a head, and says this behind it
pub record HasHeadLog (plant : Plant) (program : Program) (judged : List Domain) (depth : ℕ) (bytes : List ℕ) (claim : Claim) : Type 0 where
  pub own : LogHead
  pub stands : IsLogFront plant (limits_of (plain program) depth) bytes (head.Whole own)
  pub says : IsHeadLog plant program judged depth bytes own claim

by_front : (plant : Plant) (program : Program) (judged : List Domain) (depth : ℕ) (bytes : List ℕ) (f : Front) (claim : Claim) → IsFront (limits_with program depth 0) bytes f → IsValidWith plant program judged judged depth bytes f claim
    → HasHeadLog plant program judged depth bytes claim
by_front plant program judged depth bytes front.Plain claim stands valid =
    let narrow = subst (λ (l : Limits). IsFront l bytes front.Plain) (sym (limits_same program depth)) stands in
    record {
      own = no_head (limits_of (plain program) depth);
      stands = record { front = front.Plain; stands = narrow; has = refl };
      says = plain_log plant program judged depth bytes (limits_of (plain program) depth) claim stands valid;
    }
by_front plant program judged depth bytes (front.Headed own) claim stands valid =
    let narrow = subst (λ (l : Limits). IsFront l bytes (front.Headed own)) (sym (limits_same program depth)) stands in
    record {
      own = head_with valid.setups valid.tail;
      stands = record {
        front = front.Headed own;
        stands = narrow;
        has = record { setups = setting.Whole valid.setups; set_up = valid.set_up; has = record { tail = tailed.Whole valid.tail; follows = valid.follows; is = refl } };
      };
      says = headed_log plant program judged depth bytes own claim stands valid;
    }
by_front plant program judged depth bytes (front.Bad defect) claim stands valid = absurd valid

-- ---- the log of a part

-- the log of a part over the part's rows with what it declares: its tree, and what it says
pub record IsPartTree (plant : Plant) (levels part : ℕ) (bytes : List ℕ) (declared : Declared) (head_bytes : ℕ) (tree : RowTree) (claim : Claim) : Type 0 where
  pub program : Program
  pub of_part : IsPartProgram plant levels part program
  pub version : ℕ
  pub rows : Rows
  pub enlarged : IsWithHead plant version program (plant_root plant) declared.sums declared.units declared.derivations rows
  pub none : version ≡ 3 → declared.derivations ≡ []
  pub newest : version ≡ 4 → IsNewest bytes
  pub own : Claim
  pub log : IsLog rows (behind version head_bytes bytes) tree own
  pub clean : log_text_defect (limits_of rows (depth_limit plant - levels)) (behind version head_bytes bytes) ≡ None
  pub sound : IsSoundLog rows tree own
  pub claim_is : claim ≡ given_claim (length program.root) own
  pub is : IsPartLog plant levels part bytes declared tree claim

-- a valid log with a head that was found has a tree
with_head : (plant : Plant) (levels part : ℕ) (bytes : List ℕ) (own : LogHead) (claim : Claim) (found : IsFoundLog plant levels part bytes own.declared own.version own.bytes claim)
    → IsHeadLog plant found.program (plant_root plant) (depth_limit plant - levels) bytes own claim → (tree : RowTree) × IsPartTree plant levels part bytes own.declared own.bytes tree claim
with_head plant levels part bytes own claim found says = (
  says.valid.valid.tree,
  record {
    program = found.program;
    of_part = found.of_part;
    version = says.version;
    rows = says.rows;
    enlarged = says.enlarged;
    none = says.none;
    newest = says.newest;
    own = says.inner;
    log = says.valid.valid.is_log;
    clean = says.valid.clean;
    sound = says.valid.valid.sound_log;
    claim_is = says.claim_is;
    is = record { program = found.program; of_part = found.of_part; right = found.right; log = says.log says.valid.valid.tree says.valid.valid.is_log };
  },
)

-- the front of a part's log under the limits of the part's program
pub front_here : (plant : Plant) (levels part : ℕ) (program : Program) (bytes : List ℕ) (said : LogFront) → IsPartProgram plant levels part program → IsLogFront plant (head_limits plant levels) bytes said
    → IsLogFront plant (limits_of (plain program) (depth_limit plant - levels)) bytes said
front_here plant levels part program bytes said is stands = subst (λ (l : Limits). IsLogFront plant l bytes said) (sym (head_same plant levels part program is)) stands

-- a valid log that was found has a tree
pub part_tree : (plant : Plant) (levels part : ℕ) (bytes : List ℕ) (declared : Declared) (version head_bytes : ℕ) (claim : Claim) → IsFoundLog plant levels part bytes declared version head_bytes claim
    → (tree : RowTree) × IsPartTree plant levels part bytes declared head_bytes tree claim
part_tree plant levels part bytes declared version head_bytes claim found =
    let program = found.program in
    let depth = depth_limit plant - levels in
    let judged = plant_root plant in
    let valid = (any_exact plant program judged judged depth bytes (Yes claim) claim found.right.right).0 refl in
    let has = by_front plant program judged depth bytes valid.front claim valid.stands valid.valid in
    let same : has.own ≡ found.own = one_head plant program depth bytes has.own found.own has.stands (front_here plant levels part program bytes (head.Whole found.own) found.of_part found.stands) in
    let says = subst (λ (h : LogHead). IsHeadLog plant program judged depth bytes h claim) same has.says in
    let own : IsFoundLog plant levels part bytes found.own.declared found.own.version found.own.bytes claim =
    record { program = program; of_part = found.of_part; right = found.right; own = found.own; stands = found.stands; declares = refl; version_is = refl; takes = refl } in
    let tree = with_head plant levels part bytes found.own claim own says in (
      tree.0,
      subst (λ (d : Declared). IsPartTree plant levels part bytes d head_bytes tree.0 claim) (sym found.declares)
          (subst (λ (n : ℕ). IsPartTree plant levels part bytes found.own.declared n tree.0 claim) (sym found.takes) tree.1),
    )
