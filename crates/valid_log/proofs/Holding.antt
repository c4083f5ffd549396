-- The domains of a program with a head, and the points that its choices have.
use Rattle.std.proofs.Common.{◌≡◌, ◌⊎◌, inl, inr, ℕ, ◌+◌, ◌<◌, List, [], ◌∷◌, ◌++◌, length, map, take, drop, get_or, refl, sym, ap, ◌∙◌, subst, append-nil, arith}
use Rattle.std.specs.Prelude.{Option, unwrap_or}
use Rattle.std.specs.List.{All}
use Rattle.std.proofs.lemmas.List.{get_or-append-add, get_or-drop, length-append, length-drop, take-append-drop}
use Rattle.std.proofs.lemmas.List.Elements.{All-append}
use Rattle.stn_model.specs.declared.plant.Plant.{Plant}
use Rattle.row_kit.specs.declared.domain.Domain.{Domain}
use Rattle.row_kit.specs.Domain.{Holds as HoldsValue, IsNormal, domain_at, no_values}
use Rattle.row_kit.specs.declared.program.Program.{Program}
use Rattle.row_kit.specs.Point.{LiesIn}
use Rattle.row_relax.specs.declared.rows.Rows.{Rows}
use Rattle.row_relax.specs.Choices.{choices_of}
use Rattle.sum_slots.specs.declared.sum.Sum.{Sum}
use Rattle.sum_slots.specs.Larger.{IsWithSums, completed, given_of, sum_domain}
use Rattle.sum_slots.specs.Shown.{AreRanges}
use Rattle.sum_slots.specs.Sum.{IsDeclared}
use Rattle.sum_slots.proofs.Joined.{All-second, lies_both, lies_first}
use Rattle.setup_slots.specs.Larger.{setup_domain}
use Rattle.setup_slots.specs.Several.{AreSetUp, domains_with}
use Rattle.setup_slots.specs.Slots.{setup_slots}
use Rattle.derivations.specs.declared.derivation.Derivation.{Derivation}
use Rattle.derivations.specs.Growth.{AreShown}
use Rattle.derivations.specs.Larger.{IsWithDerivations, begun}
use Rattle.proof_log.specs.declared.claim.Claim.{Claim}
use Rattle.proof_log.specs.declared.claim.Claim.TheVariants.{Optimal, Infeasible, Between, Below}
use Rattle.plan_images.proofs.Imaging.{HaveSamePoints, derived-points, shown-points}
use Rattle.valid_log.specs.Heads.{IsWithHead, head_domains}
use Rattle.valid_log.specs.SumTexts.{larger_claim}
use Rattle.valid_log.proofs.Alike.{grown_in}

-- the last values of a point lie in the last domains
lies_second : (ds es : List Domain) (point : List ℕ) → LiesIn (ds ++ es) point → LiesIn es (drop (length ds) point)
lies_second ds es point lies = record {
  same_length = omega (arith, length-drop (length ds) point, lies.same_length, length-append ds es);
  held = λ k lt.
      let there : length ds + k < length (ds ++ es) = omega (arith, lt, length-append ds es) in
      let one : domain_at (ds ++ es) (length ds + k) ≡ domain_at es k = get_or-append-add ds es k no_values in
      let two : get_or point (length ds + k) 0 ≡ get_or (drop (length ds) point) k 0 = sym (get_or-drop (length ds) point k 0) in
      subst (λ (d : Domain). HoldsValue d (get_or (drop (length ds) point) k 0)) one (subst (HoldsValue (domain_at (ds ++ es) (length ds + k))) two (lies.held (length ds + k) there));
}

-- domains in which the points of a program lie, and those of the slots that another has besides, are such of the other
more-ranges : (given larger : Program) (domains own : List Domain) → AreRanges given domains → larger.root ≡ given.root ++ own → AreRanges larger (domains ++ own)
more-ranges given larger domains own wide root =
    let n = length given.root in
    record {
      same_length = length-append domains own ∙ ap (λ (m : ℕ). m + length own) wide.same_length ∙ sym (length-append given.root own) ∙ sym (ap length root);
      normal = All-append IsNormal domains own wide.normal (All-second IsNormal given.root own (subst (All IsNormal) root larger.root_normal));
      hold = λ point lies.
          let parts = subst (λ (ds : List Domain). LiesIn ds point) root lies in
          subst (LiesIn (domains ++ own)) (take-append-drop n point)
          (lies_both domains own (take n point) (drop n point) (wide.hold (take n point) (lies_first given.root own point parts)) (lies_second given.root own point parts));
    }

-- so are those of a program's sums besides
pub head-ranges : (program between : Program) (judged : List Domain) (sums : List Sum) → AreRanges program judged → IsWithSums program judged sums between → AreRanges between (head_domains program judged sums)
head-ranges program between judged sums wide with' = more-ranges program between judged (map (sum_domain program judged) sums) wide with'.root

-- and those of setups
pub setup-ranges : (plant : Plant) (units : List ℕ) (between wide : Program) (domains : List Domain) → AreRanges between domains → AreSetUp plant units between wide → AreRanges wide (domains_with plant units domains)
setup-ranges plant [] between wide domains ranges is = subst (λ (p : Program). AreRanges p domains) (sym is) ranges
setup-ranges plant (unit ∷ units) between wide domains ranges is =
    let own = map (λ slot. setup_domain) (setup_slots plant unit) in
    setup-ranges plant units is.0 wide (domains ++ own) (more-ranges between is.0 domains own ranges is.1.0.root) is.1.1

-- points that have the same points under their own names are those of a third
through : (a b c : Program) (there back : List ℕ → List ℕ) → HaveSamePoints a b there back → HaveSamePoints b c (λ point. point) (λ point. point) → HaveSamePoints a c there back
through a b c there back one other = record {
  there_is = λ point lawful. let is = one.there_is point lawful in let own = other.there_is (there point) is.0 in (own.0, own.1 ∙ is.1);
  back_is = λ point lawful. let own = other.back_is point lawful in let is = one.back_is point own.0 in (is.0, is.1 ∙ own.1);
  there_back = one.there_back;
  back_there = λ point lawful. one.back_there point (other.back_is point lawful).0;
}

-- what grows from a program with sums has its points, in either version
grown-points : (version : ℕ) (program between larger : Program) (domains : List Domain) (sums : List Sum) (derivations : List Derivation) → HaveSamePoints program between (completed sums) (given_of program) → AreRanges between domains
    → AreShown (begun between domains) derivations → ((version ≡ 3) × (larger ≡ between)) ⊎ ((version ≡ 4) × IsWithDerivations between domains derivations larger) → HaveSamePoints program larger (completed sums) (given_of program)
grown-points version program between larger domains sums derivations same ranges shown (inl three) = subst (λ (p : Program). HaveSamePoints program p (completed sums) (given_of program)) (sym three.1) same
grown-points version program between larger domains sums derivations same ranges shown (inr four) =
    through program between larger (completed sums) (given_of program) same (derived-points between larger domains derivations ranges shown four.1)

-- the choices of a program with a head have the points of the one without it, completed by the values of the sums there
pub head-points : (plant : Plant) (version : ℕ) (program : Program) (judged : List Domain) (sums : List Sum) (units : List ℕ) (derivations : List Derivation) (rows : Rows) → AreRanges program judged → All (IsDeclared (length program.root)) sums
    → IsWithHead plant version program judged sums units derivations rows → HaveSamePoints program (choices_of rows) (completed sums) (given_of program)
head-points plant version program judged sums [] derivations rows ranges declared is =
    let domains = head_domains program judged sums in
    let same = shown-points program is.between judged sums ranges declared is.sums_shown is.with_sums in
    let shown = subst (λ (p : Program). AreShown (begun p domains) derivations) is.with_setups is.derivations_shown in
    let grown = subst (λ (p : Program). ((version ≡ 3) × (rows.program ≡ p)) ⊎ ((version ≡ 4) × IsWithDerivations p domains derivations rows.program)) is.with_setups (grown_in plant version program judged sums [] derivations rows is) in
    subst (λ (c : Option Program). HaveSamePoints program (unwrap_or c rows.program) (completed sums) (given_of program)) (sym is.choices)
    (grown-points version program is.between rows.program domains sums derivations same (head-ranges program is.between judged sums ranges is.with_sums) shown grown)
head-points plant version program judged sums (unit ∷ units) derivations rows ranges declared is =
    subst (λ (c : Option Program). HaveSamePoints program (unwrap_or c rows.program) (completed sums) (given_of program)) (sym is.choices)
    (shown-points program is.between judged sums ranges declared is.sums_shown is.with_sums)

-- without sums a claim stays
pub larger-none : (claim : Claim) → larger_claim [] claim ≡ claim
larger-none (Optimal profit point) = ap (Optimal profit) (append-nil point)
larger-none Infeasible = refl
larger-none (Between profit most point) = ap (Between profit most) (append-nil point)
larger-none (Below most) = refl
