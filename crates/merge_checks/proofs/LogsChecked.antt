-- What the checks of logs that are merged come to.
use Rattle.std.proofs.Common.{◌≡◌, ◌∙◌, inl, inr, ℕ, ◌+◌, ◌<◌, ◌≤◌, true, List, [], ◌∷◌, ◌++◌, length, get_or, Option, None, Some, refl, sym, ap, subst, arith}
use Rattle.std.specs.Prelude.{◌↔◌, IfSome, MatchOption, slice_get}
use Rattle.std.proofs.Math.Seq.{get_or-append_seam}
use Rattle.std.proofs.lemmas.Bool.{cases_eq}
use Rattle.std.proofs.lemmas.List.{get_or_append_left, length_push}
use Rattle.std.proofs.lemmas.Option.{get_or_from_slice_get, slice_get-get_or}
use Rattle.stn_edge.specs.Files.{FileMap, file_of}
use Rattle.stn_model.specs.Points.{depth_limit}
use Rattle.stn_model.specs.declared.plant.Plant.{Plant}
use Rattle.row_relax.specs.Choices.{plain}
use Rattle.log_lines.specs.declared.defect.Defect.{Defect}
use Rattle.proof_log.specs.declared.claim.Claim.{Claim}
use Rattle.proof_log.specs.declared.claim.Claim.TheVariants.{Infeasible}
use Rattle.valid_log.specs.declared.verdict.LogVerdict.{LogVerdict}
use Rattle.valid_log.specs.declared.verdict.LogVerdict.TheVariants as verdict
use Rattle.valid_log.specs.PlantLogs.{IsAnyChecked}
use Rattle.valid_log.specs.Verdict.{limits_of}
use Rattle.log_nodes.specs.declared.front.Front.{Front}
use Rattle.log_parts.specs.declared.heads.Declared.{Declared}
use Rattle.log_parts.specs.declared.heads.LogHead.{LogHead}
use Rattle.log_parts.specs.Heads.{HasNewest, IsNewest, lines_on}
use Rattle.log_parts.specs.OtherHeads.{IsOtherHead}
use Rattle.log_parts.specs.laws.Checked.{nothing}
use Rattle.log_parts.proofs.Versions.{newest_head}
use Rattle.opened_logs.specs.declared.opened.Opened.{Opened}
use Rattle.opened_logs.specs.Opened.{IsOpened, front_of}
use Rattle.opened_logs.specs.Claims.{IsOpenClaim}
use Rattle.merge_checks.specs.declared.checked.Checked.TheVariants.{Bad}
use Rattle.merge_checks.specs.declared.checked.LogCheck.{LogCheck}
use Rattle.merge_checks.specs.declared.checked.LogCheck.TheVariants.{Valid, Bad as BadLog}
use Rattle.merge_checks.specs.declared.checked.Logs.{Logs}
use Rattle.merge_checks.specs.CheckedLogs.{AreValidTo, HasOtherHead}
use Rattle.merge_checks.specs.laws.Checked.{AreChecked, AreCheckedTo, AreKnownTo, IsCheckedLog, IsFirstLog, IsLogCheck, IsPushed}

-- ---- the check of one log

-- a valid log that is opened, where the files are told
pub log-valid : (plant : Plant) (told mid : Option FileMap) (name own : List ℕ) (said : LogVerdict) (claim : Claim) (opened : Opened) → name ≡ own → mid ≡ told → said ≡ verdict.Yes claim → IfSome told (λ m. IsAnyChecked plant (file_of m name) said)
    → IfSome mid (λ m. IsOpened plant (file_of m name) opened) → IfSome told (λ m. IsLogCheck plant (file_of m own) (Valid opened claim))
log-valid plant None mid name own said claim opened named same is checked found = tt
log-valid plant (Some m) mid name own said claim opened named same is checked found =
    let here = subst (λ (files : Option FileMap). IfSome files (λ k. IsOpened plant (file_of k name) opened)) same found in
    subst (λ (n : List ℕ). IsLogCheck plant (file_of m n) (Valid opened claim)) named (subst (IsAnyChecked plant (file_of m name)) is checked, here)

-- a log that is opened is of version 4 where its head is
newest-opened : (plant : Plant) (bytes : List ℕ) (opened : Opened) → IsOpened plant bytes opened → (opened.head.version ≡ 4) ↔ IsNewest bytes
newest-opened plant bytes opened is = newest_head plant (limits_of (plain is.program) (depth_limit plant)) bytes opened.head is.is.stands

-- ---- the first log

first-checked : (plant : Plant) (bytes : ℕ → List ℕ) (opened : Opened) (claim : Claim) (logs : Logs) → IsLogCheck plant (bytes 0) (Valid opened claim) → IsFirstLog opened claim logs → AreCheckedTo plant 1 bytes logs
first-checked plant bytes opened claim logs check is = record { first = subst (IsOpened plant (bytes 0)) (sym is.is) check.1; each = each; newest = (has, had) }
  where
    none : (number : ℕ) → number < 1 → number ≡ 0
    none number below = omega (arith, below)

    own_claim : claim ≡ get_or logs.claims.items 0 Infeasible
    own_claim = sym (ap (λ (cs : List Claim). get_or cs 0 Infeasible) is.claim_is)

    own : IsCheckedLog plant (bytes 0) logs 0
    own = record {
      own = opened;
      valid = subst (λ (c : Claim). IsAnyChecked plant (bytes 0) (verdict.Yes c)) own_claim check.0;
      opened = check.1;
      same_head = ap (λ (o : Opened). o.head.declared) (sym is.is);
      front = ap (λ (fs : List Front). slice_get fs 0) is.front;
    }

    each : (number : ℕ) → number < 1 → IsCheckedLog plant (bytes number) logs number
    each number below = subst (λ (n : ℕ). IsCheckedLog plant (bytes n) logs n) (sym (none number below)) own

    has : logs.newest ≡ true → HasNewest bytes 1
    has four = (0, (omega arith, (newest-opened plant (bytes 0) opened check.1).0 (is.newest.0 four)))

    had : HasNewest bytes 1 → logs.newest ≡ true
    had some = is.newest.1 ((newest-opened plant (bytes 0) opened check.1).1 (subst (λ (n : ℕ). IsNewest (bytes n)) (none some.0 some.1.0) some.1.1))

pub first-checked-if : (plant : Plant) (told mid : Option FileMap) (bytes : FileMap → ℕ → List ℕ) (said : LogCheck) (opened : Opened) (claim : Claim) (logs : Logs) → mid ≡ told → said ≡ Valid opened claim
    → IfSome told (λ m. IsLogCheck plant (bytes m 0) said) → IsFirstLog opened claim logs → IfSome mid (λ m. AreCheckedTo plant 1 (bytes m) logs)
first-checked-if plant told None bytes said opened claim logs same is check first = tt
first-checked-if plant told (Some m) bytes said opened claim logs same is check first =
    let here = subst (λ (files : Option FileMap). IfSome files (λ k. IsLogCheck plant (bytes k 0) said)) (sym same) check in
    first-checked plant (bytes m) opened claim logs (subst (IsLogCheck plant (bytes m 0)) is here) first

pub first-known : (opened : Opened) (claim : Claim) (logs : Logs) → opened.head.lines ≡ lines_on opened.head.declared → IsFirstLog opened claim logs → AreKnownTo 1 logs
first-known opened claim logs lines is = record {
  fronts = ap length is.front;
  claims = ap length is.claim_is;
  lines = subst (λ (o : Opened). o.head.lines ≡ lines_on o.head.declared) (sym is.is) lines;
  settled = λ number below closed.
      let none : number ≡ 0 = omega (arith, below) in
      let own : get_or logs.claims.items number Infeasible ≡ claim = ap (λ (n : ℕ). get_or logs.claims.items n Infeasible) none ∙ ap (λ (cs : List Claim). get_or cs 0 Infeasible) is.claim_is in
      is.settled.1 (subst (λ (c : Claim). ¬ IsOpenClaim c) own closed);
}

-- ---- the first log that is refused

-- the first is not valid
pub none-valid : (plant : Plant) (told : Option FileMap) (bytes : FileMap → ℕ → List ℕ) (count : ℕ) (said : LogCheck) (defect : Defect) → 1 ≤ count → said ≡ BadLog defect → IfSome told (λ m. IsLogCheck plant (bytes m 0) said)
    → IfSome told (λ m. AreChecked plant count (bytes m) (Bad 0 defect))
none-valid plant None bytes count said defect some is check = tt
none-valid plant (Some m) bytes count said defect some is check =
    (omega (arith, some), (nothing, ((λ number below. absurd (omega (arith, below))), inl (subst (IsLogCheck plant (bytes m 0)) is check))))

-- the logs before one that is refused are valid
are-valid : (plant : Plant) (bytes : ℕ → List ℕ) (count : ℕ) (logs : Logs) → AreCheckedTo plant count bytes logs → AreValidTo plant bytes logs.first.head.declared count
are-valid plant bytes count logs are number below =
    let own = are.each number below in
    (get_or logs.claims.items number Infeasible, (own.valid, (own.own, (own.opened, own.same_head))))

-- a later one is not valid
pub one-bad : (plant : Plant) (told mid : Option FileMap) (bytes : FileMap → ℕ → List ℕ) (count number : ℕ) (logs : Logs) (said : LogCheck) (defect : Defect) → mid ≡ told → number < count → said ≡ BadLog defect
    → IfSome told (λ m. AreCheckedTo plant number (bytes m) logs) → IfSome mid (λ m. IsLogCheck plant (bytes m number) said) → IfSome told (λ m. AreChecked plant count (bytes m) (Bad number defect))
one-bad plant None mid bytes count number logs said defect same within is are check = tt
one-bad plant (Some m) mid bytes count number logs said defect same within is are check =
    let here = subst (λ (files : Option FileMap). IfSome files (λ k. IsLogCheck plant (bytes k number) said)) same check in
    (within, (logs.first.head.declared, (are-valid plant (bytes m) number logs are, inl (subst (IsLogCheck plant (bytes m number)) is here))))

-- a later one has another head
pub one-other : (plant : Plant) (told mid : Option FileMap) (bytes : FileMap → ℕ → List ℕ) (count number : ℕ) (logs : Logs) (said : LogCheck) (opened : Opened) (claim : Claim) (defect : Defect) → mid ≡ told → 1 ≤ number → number < count → said ≡ Valid opened claim
    → (defect.kind ≡ 22) × IsOtherHead logs.first.head.declared opened.head.declared defect.line → IfSome told (λ m. AreCheckedTo plant number (bytes m) logs) → IfSome mid (λ m. IsLogCheck plant (bytes m number) said)
    → IfSome told (λ m. AreChecked plant count (bytes m) (Bad number defect))
one-other plant None mid bytes count number logs said opened claim defect same later within is other are check = tt
one-other plant (Some m) mid bytes count number logs said opened claim defect same later within is other are check =
    let here = subst (λ (files : Option FileMap). IfSome files (λ k. IsLogCheck plant (bytes k number) said)) same check in
    let own : IsLogCheck plant (bytes m number) (Valid opened claim) = subst (IsLogCheck plant (bytes m number)) is here in
    let not_first : 0 < number = omega (arith, later) in
    let has : HasOtherHead plant (bytes m number) logs.first.head.declared defect = (opened.head.declared, ((claim, (own.0, (opened, (own.1, refl)))), other.0, other.1)) in
    (within, (logs.first.head.declared, (are-valid plant (bytes m) number logs are, inr (not_first, has))))

-- ---- one more log

-- a log of which nothing else was told has the same head
pub same-head : (given own : Declared) (said : Option Defect) → ((defect : Defect) → said ≡ Some defect → ⊥) → MatchOption said (given ≡ own) (λ defect. (defect.kind ≡ 22) × IsOtherHead given own defect.line) → given ≡ own
same-head given own None apart is = is
same-head given own (Some defect) apart is = absurd (apart defect refl)

-- what is put behind others stands there, and they stand as before
claim_before : (claims : List Claim) (claim : Claim) (number : ℕ) → number < length claims → get_or (claims ++ claim ∷ []) number Infeasible ≡ get_or claims number Infeasible
claim_before claims claim number below = get_or_append_left claims (claim ∷ []) Infeasible number below

front_before : (fronts : List Front) (front own : Front) (number : ℕ) → number < length fronts → slice_get fronts number ≡ Some own → slice_get (fronts ++ front ∷ []) number ≡ Some own
front_before fronts front own number below is =
    let within : number < length (fronts ++ front ∷ []) = omega (arith, below, length_push fronts front) in
    slice_get-get_or (fronts ++ front ∷ []) number own within ∙ ap (λ (f : Front). Some f) (get_or_append_left fronts (front ∷ []) own number below ∙ get_or_from_slice_get fronts number own own is)

front_last : (fronts : List Front) (front : Front) → slice_get (fronts ++ front ∷ []) (length fronts) ≡ Some front
front_last fronts front =
    let within : length fronts < length (fronts ++ front ∷ []) = omega (arith, length_push fronts front) in
    slice_get-get_or (fronts ++ front ∷ []) (length fronts) front within ∙ ap (λ (f : Front). Some f) (get_or-append_seam fronts front [] front)

module _ (old : Logs) (head : LogHead) (claim : Claim) (new : Logs) (number : ℕ) (known : AreKnownTo number old) (pushed : IsPushed old head claim new) where
  claim_same : (n : ℕ) → n < number → get_or new.claims.items n Infeasible ≡ get_or old.claims.items n Infeasible
  claim_same n below =
      let there : n < length old.claims.items = omega (arith, below, known.claims) in
      ap (λ (cs : List Claim). get_or cs n Infeasible) pushed.claims ∙ claim_before old.claims.items claim n there

  claim_here : get_or new.claims.items number Infeasible ≡ claim
  claim_here =
      ap (λ (n : ℕ). get_or new.claims.items n Infeasible) (sym known.claims) ∙ ap (λ (cs : List Claim). get_or cs (length old.claims.items) Infeasible) pushed.claims
      ∙ get_or-append_seam old.claims.items claim [] Infeasible

  front_same : (n : ℕ) (own : Front) → n < number → slice_get old.fronts.items n ≡ Some own → slice_get new.fronts.items n ≡ Some own
  front_same n own below is =
      let there : n < length old.fronts.items = omega (arith, below, known.fronts) in
      ap (λ (fs : List Front). slice_get fs n) pushed.fronts ∙ front_before old.fronts.items (front_of head) own n there is

  front_here : slice_get new.fronts.items number ≡ Some (front_of head)
  front_here =
      ap (λ (n : ℕ). slice_get new.fronts.items n) (sym known.fronts) ∙ ap (λ (fs : List Front). slice_get fs (length old.fronts.items)) pushed.fronts ∙ front_last old.fronts.items (front_of head)

  pub more-known : AreKnownTo (number + 1) new
  more-known = record {
    fronts = ap length pushed.fronts ∙ length_push old.fronts.items (front_of head) ∙ ap (λ (n : ℕ). n + 1) known.fronts;
    claims = ap length pushed.claims ∙ length_push old.claims.items claim ∙ ap (λ (n : ℕ). n + 1) known.claims;
    lines = subst (λ (o : Opened). o.head.lines ≡ lines_on o.head.declared) (sym pushed.first) known.lines;
    settled = λ n below closed. elim (cases_eq n number) [
      | inl here ↦ pushed.settled.1 (inr (subst (λ (c : Claim). ¬ IsOpenClaim c) (ap (λ (k : ℕ). get_or new.claims.items k Infeasible) here ∙ claim_here) closed))
      | inr other ↦ (let before : n < number = omega (arith, below, other) in pushed.settled.1 (inl (known.settled n before (subst (λ (c : Claim). ¬ IsOpenClaim c) (claim_same n before) closed))))
    ];
  }

  -- the logs before it, and it itself
  more-each : (plant : Plant) (bytes : ℕ → List ℕ) (opened : Opened) → head ≡ opened.head → old.first.head.declared ≡ opened.head.declared → AreCheckedTo plant number bytes old → IsLogCheck plant (bytes number) (Valid opened claim)
      → (n : ℕ) → n < number + 1 → IsCheckedLog plant (bytes n) new n
  more-each plant bytes opened is_head same are check n below =
      elim (cases_eq n number) [
        | inl here ↦ subst (λ (k : ℕ). IsCheckedLog plant (bytes k) new k) (sym here) last
        | inr other ↦ (let before : n < number = omega (arith, below, other) in earlier before)
      ]
    where
      last : IsCheckedLog plant (bytes number) new number
      last = record {
        own = opened;
        valid = subst (λ (c : Claim). IsAnyChecked plant (bytes number) (verdict.Yes c)) (sym claim_here) check.0;
        opened = check.1;
        same_head = sym same ∙ ap (λ (o : Opened). o.head.declared) (sym pushed.first);
        front = front_here ∙ ap (λ (h : LogHead). Some (front_of h)) is_head;
      }

      earlier : n < number → IsCheckedLog plant (bytes n) new n
      earlier before =
          let own = are.each n before in
          record {
            own = own.own;
            valid = subst (λ (c : Claim). IsAnyChecked plant (bytes n) (verdict.Yes c)) (sym (claim_same n before)) own.valid;
            opened = own.opened;
            same_head = own.same_head ∙ ap (λ (o : Opened). o.head.declared) (sym pushed.first);
            front = front_same n (front_of own.own.head) before own.front;
          }

  -- whether one of them is of version 4
  more-newest : (plant : Plant) (bytes : ℕ → List ℕ) (opened : Opened) → head ≡ opened.head → IsOpened plant (bytes number) opened → (old.newest ≡ true) ↔ HasNewest bytes number → (new.newest ≡ true) ↔ HasNewest bytes (number + 1)
  more-newest plant bytes opened is_head is before = (has, had)
    where
      version : head.version ≡ opened.head.version
      version = ap (λ (h : LogHead). h.version) is_head

      has : new.newest ≡ true → HasNewest bytes (number + 1)
      has now =
          elim (pushed.newest.0 now) [
            | inl one ↦ (let some = before.0 one in (some.0, (omega (arith, some.1.0), some.1.1)))
            | inr four ↦ (number, (omega arith, (newest-opened plant (bytes number) opened is).0 (sym version ∙ four)))
          ]

      had : HasNewest bytes (number + 1) → new.newest ≡ true
      had some =
          elim (cases_eq some.0 number) [
            | inl here ↦ pushed.newest.1 (inr (version ∙ (newest-opened plant (bytes number) opened is).1 (subst (λ (n : ℕ). IsNewest (bytes n)) here some.1.1)))
            | inr other ↦ (let earlier : some.0 < number = omega (arith, some.1.0, other) in pushed.newest.1 (inl (before.1 (some.0, (earlier, some.1.1)))))
          ]

  pub more-checked : (plant : Plant) (told mid : Option FileMap) (bytes : FileMap → ℕ → List ℕ) (said : LogCheck) (opened : Opened) → mid ≡ told → said ≡ Valid opened claim → head ≡ opened.head → old.first.head.declared ≡ opened.head.declared
      → IfSome told (λ m. AreCheckedTo plant number (bytes m) old) → IfSome mid (λ m. IsLogCheck plant (bytes m number) said) → IfSome told (λ m. AreCheckedTo plant (number + 1) (bytes m) new)
  more-checked plant None mid bytes said opened same_files is is_head same are check = tt
  more-checked plant (Some m) mid bytes said opened same_files is is_head same are check =
      let here = subst (λ (files : Option FileMap). IfSome files (λ k. IsLogCheck plant (bytes k number) said)) same_files check in
      let own : IsLogCheck plant (bytes m number) (Valid opened claim) = subst (IsLogCheck plant (bytes m number)) is here in
      record {
        first = subst (IsOpened plant (bytes m 0)) (sym pushed.first) are.first;
        each = more-each plant (bytes m) opened is_head same are own;
        newest = more-newest plant (bytes m) opened is_head own.1 are.newest;
      }
