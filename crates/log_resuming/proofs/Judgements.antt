-- A log that was judged is one that goes on from the other.
use Rattle.std.proofs.Common.{◌≡◌, ◌≢◌, ℕ, ◌+◌, ◌≤◌, List, Option, None, Some, refl, inr, sym, subst}
use Rattle.std.specs.Prelude.{IfOk, IfSome, Result, Ok, Err}
use Rattle.std.specs.Option.{option_map}
use Rattle.stn_edge.specs.Files.{FileMap, OthersStay, file_of}
use Rattle.stn_model.specs.Points.{depth_limit}
use Rattle.stn_model.specs.declared.plant.Plant.{Plant}
use Rattle.branch_tree.specs.Searched.{IsSearchable}
use Rattle.log_lines.specs.declared.defect.Defect.{Defect}
use Rattle.proof_log.specs.declared.claim.Claim.{Claim}
use Rattle.log_growth.specs.declared.counts.Growth.{Growth}
use Rattle.log_nodes.specs.declared.pair.Share.{Share}
use Rattle.log_growth.specs.Logs.{AreGrown}
use Rattle.log_parts.specs.declared.heads.LogHead.{LogHead}
use Rattle.log_nodes.proofs.Stays.{same_file}
use Rattle.valid_log.specs.declared.verdict.LogVerdict.TheVariants.{Yes, No as NotValid}
use Rattle.valid_log.specs.PlantLogs.{IsAnyChecked}
use Rattle.opened_logs.specs.declared.opened.Opened.{Opened}
use Rattle.log_resuming.specs.declared.resumed.Resumed.{Resumed}
use Rattle.log_resuming.specs.declared.resumed.Resumed.TheVariants.{Done, No}
use Rattle.opened_logs.specs.Opened.{IsOpened, front_of}
use Rattle.opened_logs.specs.Claims.{IsNoLess, IsNoMore, IsOpenClaim, cap_of, profit_of}
use Rattle.log_resuming.specs.Resumed.{IsResumed, IsResuming, IsResumingIn, LeavesResumed}
use Rattle.log_resuming.specs.laws.Judged.{IsMeasured, Judges}

-- both logs were read side by side, and the counts and the claims are right
pub measured : (most : ℕ) (told : Option FileMap) (name out : List ℕ) (budget : ℕ) (share : Option Share) (log : Opened) (head : LogHead) (old_claim claim : Claim) (growth : Growth)
    → IfSome told (λ m. AreGrown most log.rows (profit_of old_claim) share (front_of log.head) (front_of head) (file_of m name) (file_of m out) growth) → growth.after ≤ growth.before + budget
    → (share ≡ None → IsOpenClaim claim → growth.deep ≡ 0 → growth.floors ≡ 0 → IsSearchable most log.rows.program → growth.after ≡ growth.before + budget) → IsNoLess (profit_of old_claim) (profit_of claim) → IsNoMore (cap_of old_claim) (cap_of claim)
    → IfSome told (λ m. IsMeasured most (file_of m name) (file_of m out) budget share log head old_claim claim growth.after)
measured most None name out budget share log head old_claim claim growth are within exactly profit cap = tt
measured most (Some m) name out budget share log head old_claim claim growth are within exactly profit cap = record {
  tree = are.tree;
  grown = are.grown;
  text = are.text;
  text_out = are.text_out;
  growth = growth;
  goes_on = are.is;
  boxes_are = refl;
  within = within;
  exactly = exactly;
  profit = profit;
  cap = cap;
}

-- and the second is valid, with the head of the first
pub judges : (told : Option FileMap) (plant : Plant) (name out : List ℕ) (budget : ℕ) (share : Option Share) (log own : Opened) (old_claim claim : Claim) (boxes : ℕ) → IfSome told (λ m. IsAnyChecked plant (file_of m out) (Yes claim)) → IfSome told (λ m. IsOpened plant (file_of m out) own)
    → own.head.declared ≡ log.head.declared → own.head.version ≡ 4 → IfSome told (λ m. IsMeasured (depth_limit plant) (file_of m name) (file_of m out) budget share log own.head old_claim claim boxes)
    → IfSome told (λ m. Judges plant (file_of m name) (file_of m out) budget share log old_claim claim boxes)
judges None plant name out budget share log own old_claim claim boxes checked opened same newest is = tt
judges (Some m) plant name out budget share log own old_claim claim boxes checked opened same newest is = λ old_checked old_opened. record {
  old_claim = old_claim;
  old_checked = old_checked;
  checked = checked;
  log = log;
  out = own;
  opened = old_opened;
  opened_out = opened;
  same_head = same;
  newest = newest;
  tree = is.tree;
  grown = is.grown;
  text = is.text;
  text_out = is.text_out;
  growth = is.growth;
  goes_on = is.goes_on;
  boxes_are = is.boxes_are;
  within = is.within;
  exactly = is.exactly;
  profit = is.profit;
  cap = is.cap;
}

-- what was judged of the files afterwards holds of the log as it was before, since no other file changed
pub resumed-in : (plant : Plant) (name out : List ℕ) (budget : ℕ) (share : Option Share) (log : Opened) (old_claim claim : Claim) (boxes : ℕ) (old new : Option FileMap) → OthersStay out old new → out ≢ name → IfSome old (λ m. IsAnyChecked plant (file_of m name) (Yes old_claim))
    → IfSome old (λ m. IsOpened plant (file_of m name) log) → IfSome new (λ n. Judges plant (file_of n name) (file_of n out) budget share log old_claim claim boxes) → IsResumingIn plant budget share name out old new (Done claim boxes)
resumed-in plant name out budget share log old_claim claim boxes None new others apart checked opened judged = tt
resumed-in plant name out budget share log old_claim claim boxes (Some m) None others apart checked opened judged = tt
resumed-in plant name out budget share log old_claim claim boxes (Some m) (Some n) others apart checked opened judged =
    let same : option_map (λ (files : FileMap). file_of files name) (Some n) ≡ option_map (λ (files : FileMap). file_of files name) (Some m) = same_file name (Some m) (Some n) (others name (λ is. apart (sym is))) in
    let here : file_of n name ≡ file_of m name = cc in
    subst (λ (bytes : List ℕ). IsResumed plant bytes (file_of n out) budget share claim boxes) here
    (judged (subst (λ (bytes : List ℕ). IsAnyChecked plant bytes (Yes old_claim)) (sym here) checked) (subst (λ (bytes : List ℕ). IsOpened plant bytes log) (sym here) opened))

-- the log is not valid
pub refused-in : (plant : Plant) (name out : List ℕ) (budget : ℕ) (share : Option Share) (defect : Defect) (old new : Option FileMap) → IfSome old (λ m. IsAnyChecked plant (file_of m name) (NotValid defect)) → IsResumingIn plant budget share name out old new (No defect)
refused-in plant name out budget share defect None new checked = tt
refused-in plant name out budget share defect (Some m) None checked = tt
refused-in plant name out budget share defect (Some m) (Some n) checked = checked

-- where files may have changed, the log was judged valid
pub leaves-judged : (plant : Plant) (name : List ℕ) (claim : Claim) (old new : Option FileMap) → IfSome old (λ m. IsAnyChecked plant (file_of m name) (Yes claim)) → LeavesResumed plant name old new
leaves-judged plant name claim None new checked = inr tt
leaves-judged plant name claim (Some m) new checked = inr (claim, checked)

-- what is right of a log that a later state shows is right of it as it was before, since no other file changed
pub resuming-stays : (plant : Plant) (budget : ℕ) (share : Option Share) (name out : List ℕ) (old mid new : Option FileMap) (said : Resumed) → OthersStay out old mid → out ≢ name → IsResumingIn plant budget share name out mid new said → IsResumingIn plant budget share name out old new said
resuming-stays plant budget share name out None mid new said others apart is = tt
resuming-stays plant budget share name out (Some m) None new said others apart is =
    let same = same_file name (Some m) None (others name (λ own. apart (sym own))) in
    absurd cc
resuming-stays plant budget share name out (Some m) (Some k) None said others apart is = tt
resuming-stays plant budget share name out (Some m) (Some k) (Some n) said others apart is =
    let same : option_map (λ (files : FileMap). file_of files name) (Some k) ≡ option_map (λ (files : FileMap). file_of files name) (Some m) = same_file name (Some m) (Some k) (others name (λ own. apart (sym own))) in
    let here : file_of k name ≡ file_of m name = cc in
    subst (λ (bytes : List ℕ). IsResuming plant budget share bytes (file_of n out) said) here is

-- what is said of a result follows from what is said of it
pub ok_if : {X E : Type 0} (result : Result X E) (P Q : X → Type 0) → ((x : X) → P x → Q x) → IfOk result P → IfOk result Q
ok_if (Ok x) P Q then_ is = then_ x is
ok_if (Err e) P Q then_ is = tt
