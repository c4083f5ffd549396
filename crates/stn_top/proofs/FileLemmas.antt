-- What a run leaves in its files, for whatever request its words say.
use Rattle.std.proofs.Common.{◌≡◌, ◌≢◌, ◌≤◌, ℕ, List, [], ◌∷◌, length, get_or, Option, None, Some, inl, sym, ap, ◌∙◌, subst, arith}
use Rattle.std.specs.Prelude.{codes}
use Rattle.std.specs.Option.{option_map}
use Rattle.std.specs.FinMap.{get}
use Rattle.std.proofs.lemmas.Fmt.{decimal_injective}
use Rattle.stn_edge.specs.Files.{FileMap, OthersStay}
use Rattle.least_horizon.specs.LogNames.{OthersStayBelow}
use Rattle.command_words.specs.Words.{Request, Solving, Logging, Printing, Simulating, Telling, Showing, Replanning, ReplanLogging, CheckingReplan, Rolling, Improving, Estimating, Seeking, Tracing, Auditing, Parting, PartSolving, Joining, Resuming, Merging, Says, Conflicting, ConflictLogging, CheckingConflict}
use Rattle.planning_commands.specs.NamedLog.{LogLeft}
use Rattle.stn_top.specs.Requests.{IsLeft, OthersKept}
use Rattle.command_words.specs.Words.{IsLevels, IsLogCount, IsPartNumber}
use Rattle.conflict_commands.specs.Logging.{OthersStayPair}
use Rattle.horizon_commands.proofs.Horizons.{each_log}
use Rattle.command_words.proofs.PartWords.{same_count, same_levels, same_part}
use Rattle.command_words.proofs.UseWords.{no_use}

-- ---- files that are as before

-- every other file is as before where all are
pub kept_same : (request : Request) (old new : Option FileMap) → new ≡ old → OthersKept request old new
kept_same request old new same = λ name others. ap (λ (files : Option FileMap). option_map (λ m. get m name) files) same

-- and nothing is left
pub left_same : (request : Request) (old new : Option FileMap) → new ≡ old → IsLeft request old new
left_same (Logging plant budget log) old new same = inl same
left_same (ReplanLogging plant plan period budget log) old new same = inl same
left_same (Improving plant plan budget (Some log)) old new same = inl same
left_same (Tracing plant budget stem) old new same = inl same
left_same (ConflictLogging plant budget stem) old new same = inl same
left_same (PartSolving plant levels part budget log) old new same = inl same
left_same (Joining plant levels stem log) old new same = inl same
left_same (Resuming plant log budget out share) old new same = inl same
left_same (Merging plant stem count out) old new same = inl same
left_same request old new same = same

-- ---- a log

-- every file but the log is as before
pub kept_log : (plant : List ℕ) (budget : ℕ) (log : List ℕ) (old new : Option FileMap) → OthersStay log old new → OthersKept (Logging plant budget log) old new
kept_log plant budget log old new stay = λ name others. stay name (others 0 [] (omega arith))

-- every file but the log of a replanning is as before
pub kept_replan : (plant plan : List ℕ) (period budget : ℕ) (log : List ℕ) (old new : Option FileMap) → OthersStay log old new → OthersKept (ReplanLogging plant plan period budget log) old new
kept_replan plant plan period budget log old new stay = λ name others. stay name (others 0 [] (omega arith))

-- every file but the log of planning that begins with a plan is as before, where it is named
pub kept_improve : (plant plan : List ℕ) (budget : ℕ) (log : Option (List ℕ)) (old new : Option FileMap) → LogLeft log (λ name. OthersStay name old new) old new → OthersKept (Improving plant plan budget log) old new
kept_improve plant plan budget None old new same = kept_same (Improving plant plan budget None) old new same
kept_improve plant plan budget (Some log) old new stay = λ name others. stay name (others 0 [] (omega arith))

-- every file but the log of a part is as before
pub kept_part : (plant : List ℕ) (levels part budget : ℕ) (log : List ℕ) (old new : Option FileMap) → OthersStay log old new → OthersKept (PartSolving plant levels part budget log) old new
kept_part plant levels part budget log old new stay = λ name others. stay name (others 0 [] (omega arith))

-- every file but the joined log is as before
pub kept_joined : (plant : List ℕ) (levels : ℕ) (stem log : List ℕ) (old new : Option FileMap) → OthersStay log old new → OthersKept (Joining plant levels stem log) old new
kept_joined plant levels stem log old new stay = λ name others. stay name (others 0 [] (omega arith))

-- every file but the log that goes on is as before
pub kept_resumed : (plant log : List ℕ) (budget : ℕ) (out : List ℕ) (share : Option (ℕ × ℕ)) (old new : Option FileMap) → OthersStay out old new → OthersKept (Resuming plant log budget out share) old new
kept_resumed plant log budget out share old new stay = λ name others. stay name (others 0 [] (omega arith))

-- every file but the merged log is as before
pub kept_merged : (plant stem : List ℕ) (count : ℕ) (out : List ℕ) (old new : Option FileMap) → OthersStay out old new → OthersKept (Merging plant stem count out) old new
kept_merged plant stem count out old new stay = λ name others. stay name (others 0 [] (omega arith))

-- every file but the logs of a stem is as before
pub kept_logs : (plant : List ℕ) (budget : ℕ) (stem : List ℕ) (old new : Option FileMap) → OthersStayBelow stem 337 old new → OthersKept (Tracing plant budget stem) old new
kept_logs plant budget stem old new stay = λ name others. stay name (λ g some below. each_log (λ written. name ≢ written) stem 337 others g some below)

-- every file but STEM.0 and STEM.1 is as before
pub kept_conflict : (plant : List ℕ) (budget : ℕ) (stem : List ℕ) (old new : Option FileMap) → OthersStayPair stem old new → OthersKept (ConflictLogging plant budget stem) old new
kept_conflict plant budget stem old new stay = λ name others. stay name (others 0 [] (omega arith)) (others 1 [] (omega arith))

-- what a request leaves
record Leaves (request : Request) (old new : Option FileMap) : Type 0 where
  kept : OthersKept request old new
  left : IsLeft request old new

-- where all files are as before
leaves_same : (request : Request) (old new : Option FileMap) → new ≡ old → Leaves request old new
leaves_same request old new same = record { kept = kept_same request old new same; left = left_same request old new same }

-- the first word
abbrev first : List (List ℕ) → List ℕ
first words = get_or words 0 []

-- the first byte of the first word
abbrev first_byte : List (List ℕ) → ℕ
first_byte words = get_or (first words) 0 0

-- the first word of a request; none is said of a use of a plant, a plan or a log
abbrev first_word : Request → List ℕ
first_word (Solving plant budget) = codes "solve"
first_word (Logging plant budget log) = codes "solve"
first_word (Showing seed) = codes "demo"
first_word (Replanning plant plan period budget) = codes "replan"
first_word (ReplanLogging plant plan period budget log) = codes "replan"
first_word (CheckingReplan plant plan period log) = codes "check-replan"
first_word (Rolling plant plan period rest) = codes "roll"
first_word (Improving plant plan budget log) = codes "improve"
first_word (Estimating plant log state step count) = codes "whatif"
first_word (Seeking plant budget) = codes "least"
first_word (Tracing plant budget stem) = codes "least"
first_word (Auditing plant horizon stem) = codes "check-least"
first_word (Conflicting plant budget) = codes "conflict"
first_word (ConflictLogging plant budget stem) = codes "conflict"
first_word (CheckingConflict plant stem) = codes "check-conflict"
first_word (Parting plant levels) = codes "parts"
first_word (PartSolving plant levels part budget log) = codes "solve-part"
first_word (Joining plant levels stem log) = codes "join"
first_word (Resuming plant log budget out share) = codes "resume"
first_word (Merging plant stem count out) = codes "merge"
first_word _ = []

-- at least four words, the first of which begins with no t (116), say no use, so their first word is that of what they say
first_is : (words : List (List ℕ)) (request : Request) → Says words request → 4 ≤ length words → first_byte words ≢ 116 → first words ≡ first_word request
first_is words (Printing usage plant) says long other = (let same = ap length says.0 in absurd (omega (arith, same, long)))
first_is words (Telling usage plant log) says long other = (let same = ap length says.0 in absurd (omega (arith, same, long)))
first_is words (Simulating usage plant plan) says long other = absurd (no_use words usage plant plan says.0 long other)
first_is words (Solving plant budget) says long other = ap first says.1.0
first_is words (Logging plant budget log) says long other = ap first says.1.0
first_is words (Showing seed) says long other = ap first says.1.0
first_is words (Replanning plant plan period budget) says long other = ap first says.1.1.0
first_is words (ReplanLogging plant plan period budget log) says long other = ap first says.1.1.0
first_is words (CheckingReplan plant plan period log) says long other = ap first says.1.0
first_is words (Rolling plant plan period rest) says long other = ap first says.1.0
first_is words (Improving plant plan budget log) says long other = ap first says.1.0
first_is words (Estimating plant log state step count) says long other = ap first says.1.1.0
first_is words (Seeking plant budget) says long other = ap first says.1.0
first_is words (Tracing plant budget stem) says long other = ap first says.1.0
first_is words (Auditing plant horizon stem) says long other = ap first says.1.0
first_is words (Conflicting plant budget) says long other = ap first says.1.0
first_is words (ConflictLogging plant budget stem) says long other = ap first says.1.0
first_is words (CheckingConflict plant stem) says long other = ap first says.0
first_is words (Parting plant levels) says long other = ap first says.1.0
first_is words (PartSolving plant levels part budget log) says long other = ap first says.1.1.1.0
first_is words (Joining plant levels stem log) says long other = ap first says.1.0
first_is words (Resuming plant log budget out share) says long other = ap first says.1.1.0
first_is words (Merging plant stem count out) says long other = ap first says.1.0

-- so where the first word is known, it is that of what else they say
also_first : (words : List (List ℕ)) (word : List ℕ) (request : Request) → first words ≡ word → 4 ≤ length words → first_byte words ≢ 116 → Says words request → word ≡ first_word request
also_first words word request is long other says = sym is ∙ first_is words request says long other

-- words that are the same have the same length, first byte and third byte
marks_same : {a b : List ℕ} → a ≡ b → (length a ≡ length b) × ((get_or a 0 0 ≡ get_or b 0 0) × (get_or a 2 0 ≡ get_or b 2 0))
marks_same same = (ap length same, (ap (λ (word : List ℕ). get_or word 0 0) same, ap (λ (word : List ℕ). get_or word 2 0) same))

-- the words of a planning with a log say no other request
leaves_log : (words : List (List ℕ)) (plant : List ℕ) (budget : ℕ) (log : List ℕ) (other : Request) (old new : Option FileMap) → Says words (Logging plant budget log) → Says words other
    → codes "solve" ≡ first_word other → Leaves (Logging plant budget log) old new → Leaves other old new
leaves_log words plant budget log (Solving plant2 budget2) old new says also same_word is = (let same = ap length (sym says.1.0 ∙ also.1.0) in absurd (omega (arith, same)))
leaves_log words plant budget log (Logging plant2 budget2 log2) old new says also same_word is =
    let same : codes "solve" ∷ plant ∷ says.0 ∷ log ∷ [] ≡ codes "solve" ∷ plant2 ∷ also.0 ∷ log2 ∷ [] = sym says.1.0 ∙ also.1.0 in
    let same_plant : plant ≡ plant2 = ap (λ (ws : List (List ℕ)). get_or ws 1 []) same in
    let same_log : log ≡ log2 = ap (λ (ws : List (List ℕ)). get_or ws 3 []) same in
    record {
      kept = subst (λ (l : List ℕ). OthersKept (Logging plant2 budget2 l) old new) same_log is.kept;
      left = subst (λ (l : List ℕ). IsLeft (Logging plant2 budget2 l) old new) same_log (subst (λ (p : List ℕ). IsLeft (Logging p budget log) old new) same_plant is.left);
    }
leaves_log words plant budget log other old new says also same is = (let marks = marks_same same in absurd (omega (arith, marks.0, marks.1.0, marks.1.1)))

-- the words of a replanning with a log say no other request
leaves_replan : (words : List (List ℕ)) (plant plan : List ℕ) (period budget : ℕ) (log : List ℕ) (other : Request) (old new : Option FileMap) → Says words (ReplanLogging plant plan period budget log) → Says words other
    → codes "replan" ≡ first_word other → Leaves (ReplanLogging plant plan period budget log) old new → Leaves other old new
leaves_replan words plant plan period budget log (Replanning plant2 plan2 period2 budget2) old new says also same_word is = (let same = ap length (sym says.1.1.0 ∙ also.1.1.0) in absurd (omega (arith, same)))
leaves_replan words plant plan period budget log (ReplanLogging plant2 plan2 period2 budget2 log2) old new says also same_word is =
    let same : codes "replan" ∷ plant ∷ plan ∷ says.0 ∷ says.1.0 ∷ log ∷ [] ≡ codes "replan" ∷ plant2 ∷ plan2 ∷ also.0 ∷ also.1.0 ∷ log2 ∷ [] = sym says.1.1.0 ∙ also.1.1.0 in
    let word = λ (k : ℕ). ap (λ (ws : List (List ℕ)). get_or ws k []) same in
    let period_is : period ≡ period2 = decimal_injective period period2 (omega (arith, says.1.1.6.most)) (omega (arith, also.1.1.6.most)) (sym says.1.1.6.digits ∙ word 3 ∙ also.1.1.6.digits) in
    record {
      kept = subst (λ (l : List ℕ). OthersKept (ReplanLogging plant2 plan2 period2 budget2 l) old new) (word 5) is.kept;
      left =
          subst (λ (l : List ℕ). IsLeft (ReplanLogging plant2 plan2 period2 budget2 l) old new) (word 5)
          (subst (λ (p : ℕ). IsLeft (ReplanLogging plant2 plan2 p budget2 log) old new) period_is
          (subst (λ (q : List ℕ). IsLeft (ReplanLogging plant2 q period budget2 log) old new) (word 2)
          (subst (λ (q : List ℕ). IsLeft (ReplanLogging q plan period budget2 log) old new) (word 1) is.left)));
    }
leaves_replan words plant plan period budget log other old new says also same is = (let marks = marks_same same in absurd (omega (arith, marks.0, marks.1.0, marks.1.1)))

-- the words of finding a least horizon with logs say no other request
leaves_logs : (words : List (List ℕ)) (plant : List ℕ) (budget : ℕ) (stem : List ℕ) (other : Request) (old new : Option FileMap) → Says words (Tracing plant budget stem) → Says words other
    → codes "least" ≡ first_word other → Leaves (Tracing plant budget stem) old new → Leaves other old new
leaves_logs words plant budget stem (Seeking plant2 budget2) old new says also same_word is = (let same = ap length (sym says.1.0 ∙ also.1.0) in absurd (omega (arith, same)))
leaves_logs words plant budget stem (Tracing plant2 budget2 stem2) old new says also same_word is =
    let same : codes "least" ∷ plant ∷ says.0 ∷ stem ∷ [] ≡ codes "least" ∷ plant2 ∷ also.0 ∷ stem2 ∷ [] = sym says.1.0 ∙ also.1.0 in
    let same_plant : plant ≡ plant2 = ap (λ (ws : List (List ℕ)). get_or ws 1 []) same in
    let same_word : says.0 ≡ also.0 = ap (λ (ws : List (List ℕ)). get_or ws 2 []) same in
    let same_stem : stem ≡ stem2 = ap (λ (ws : List (List ℕ)). get_or ws 3 []) same in
    let same_budget : budget ≡ budget2 =
    decimal_injective budget budget2 (omega (arith, says.1.4.most)) (omega (arith, also.1.4.most)) (sym says.1.4.digits ∙ (same_word ∙ also.1.4.digits)) in
    record {
      kept = subst (λ (s : List ℕ). OthersKept (Tracing plant2 budget2 s) old new) same_stem is.kept;
      left = subst (λ (s : List ℕ). IsLeft (Tracing plant2 budget2 s) old new) same_stem
          (subst (λ (b : ℕ). IsLeft (Tracing plant2 b stem) old new) same_budget (subst (λ (p : List ℕ). IsLeft (Tracing p budget stem) old new) same_plant is.left));
    }
leaves_logs words plant budget stem other old new says also same is = (let marks = marks_same same in absurd (omega (arith, marks.0, marks.1.0, marks.1.1)))

-- the words of finding a conflict with its log say no other request
leaves_conflict : (words : List (List ℕ)) (plant : List ℕ) (budget : ℕ) (stem : List ℕ) (other : Request) (old new : Option FileMap) → Says words (ConflictLogging plant budget stem) → Says words other
    → codes "conflict" ≡ first_word other → Leaves (ConflictLogging plant budget stem) old new → Leaves other old new
leaves_conflict words plant budget stem (Conflicting plant2 budget2) old new says also same_word is = (let same = ap length (sym says.1.0 ∙ also.1.0) in absurd (omega (arith, same)))
leaves_conflict words plant budget stem (ConflictLogging plant2 budget2 stem2) old new says also same_word is =
    let same : codes "conflict" ∷ plant ∷ says.0 ∷ stem ∷ [] ≡ codes "conflict" ∷ plant2 ∷ also.0 ∷ stem2 ∷ [] = sym says.1.0 ∙ also.1.0 in
    let same_plant : plant ≡ plant2 = ap (λ (ws : List (List ℕ)). get_or ws 1 []) same in
    let same_word : says.0 ≡ also.0 = ap (λ (ws : List (List ℕ)). get_or ws 2 []) same in
    let same_stem : stem ≡ stem2 = ap (λ (ws : List (List ℕ)). get_or ws 3 []) same in
    let same_budget : budget ≡ budget2 =
    decimal_injective budget budget2 (omega (arith, says.1.4.most)) (omega (arith, also.1.4.most)) (sym says.1.4.digits ∙ (same_word ∙ also.1.4.digits)) in
    record {
      kept = subst (λ (s : List ℕ). OthersKept (ConflictLogging plant2 budget2 s) old new) same_stem is.kept;
      left = subst (λ (s : List ℕ). IsLeft (ConflictLogging plant2 budget2 s) old new) same_stem
          (subst (λ (b : ℕ). IsLeft (ConflictLogging plant2 b stem) old new) same_budget (subst (λ (p : List ℕ). IsLeft (ConflictLogging p budget stem) old new) same_plant is.left));
    }
leaves_conflict words plant budget stem other old new says also same is = (let marks = marks_same same in absurd (omega (arith, marks.0, marks.1.0, marks.1.1)))

-- the words of planning a part say no other request
leaves_part : (words : List (List ℕ)) (plant : List ℕ) (levels part budget : ℕ) (log : List ℕ) (other : Request) (old new : Option FileMap) → Says words (PartSolving plant levels part budget log) → Says words other
    → codes "solve-part" ≡ first_word other → Leaves (PartSolving plant levels part budget log) old new → Leaves other old new
leaves_part words plant levels part budget log (PartSolving plant2 levels2 part2 budget2 log2) old new says also same_word is =
    let same : codes "solve-part" ∷ plant ∷ says.0 ∷ says.1.0 ∷ says.1.1.0 ∷ log ∷ [] ≡ codes "solve-part" ∷ plant2 ∷ also.0 ∷ also.1.0 ∷ also.1.1.0 ∷ log2 ∷ [] = sym says.1.1.1.0 ∙ also.1.1.1.0 in
    let word = λ (k : ℕ). ap (λ (ws : List (List ℕ)). get_or ws k []) same in
    let levels_is : levels ≡ levels2 = same_levels also.0 levels levels2 (subst (λ (w : List ℕ). IsLevels w levels) (word 2) says.1.1.1.4) also.1.1.1.4 in
    let part_is : part ≡ part2 = same_part also.1.0 levels levels2 part part2 says.1.1.1.4.most also.1.1.1.4.most (subst (λ (w : List ℕ). IsPartNumber w levels part) (word 3) says.1.1.1.5) also.1.1.1.5 in
    record {
      kept = subst (λ (l : List ℕ). OthersKept (PartSolving plant2 levels2 part2 budget2 l) old new) (word 5) is.kept;
      left = subst (λ (l : List ℕ). IsLeft (PartSolving plant2 levels2 part2 budget2 l) old new) (word 5)
          (subst (λ (n : ℕ). IsLeft (PartSolving plant2 levels2 n budget2 log) old new) part_is
          (subst (λ (n : ℕ). IsLeft (PartSolving plant2 n part budget2 log) old new) levels_is (subst (λ (p : List ℕ). IsLeft (PartSolving p levels part budget2 log) old new) (word 1) is.left)));
    }
leaves_part words plant levels part budget log other old new says also same is = (let marks = marks_same same in absurd (omega (arith, marks.0, marks.1.0, marks.1.1)))

-- the words of joining logs say no other request
leaves_join : (words : List (List ℕ)) (plant : List ℕ) (levels : ℕ) (stem log : List ℕ) (other : Request) (old new : Option FileMap) → Says words (Joining plant levels stem log) → Says words other
    → codes "join" ≡ first_word other → Leaves (Joining plant levels stem log) old new → Leaves other old new
leaves_join words plant levels stem log (Joining plant2 levels2 stem2 log2) old new says also same_word is =
    let same : codes "join" ∷ plant ∷ says.0 ∷ stem ∷ log ∷ [] ≡ codes "join" ∷ plant2 ∷ also.0 ∷ stem2 ∷ log2 ∷ [] = sym says.1.0 ∙ also.1.0 in
    let word = λ (k : ℕ). ap (λ (ws : List (List ℕ)). get_or ws k []) same in
    let levels_is : levels ≡ levels2 = same_levels also.0 levels levels2 (subst (λ (w : List ℕ). IsLevels w levels) (word 2) says.1.6) also.1.6 in
    record {
      kept = subst (λ (l : List ℕ). OthersKept (Joining plant2 levels2 stem2 l) old new) (word 4) is.kept;
      left = subst (λ (l : List ℕ). IsLeft (Joining plant2 levels2 stem2 l) old new) (word 4)
          (subst (λ (s : List ℕ). IsLeft (Joining plant2 levels2 s log) old new) (word 3)
          (subst (λ (n : ℕ). IsLeft (Joining plant2 n stem log) old new) levels_is (subst (λ (p : List ℕ). IsLeft (Joining p levels stem log) old new) (word 1) is.left)));
    }
leaves_join words plant levels stem log other old new says also same is = (let marks = marks_same same in absurd (omega (arith, marks.0, marks.1.0, marks.1.1)))

-- the words of planning that begins with a plan, with a log, say no other request
leaves_improve : (words : List (List ℕ)) (plant plan : List ℕ) (budget : ℕ) (log : List ℕ) (other : Request) (old new : Option FileMap) → Says words (Improving plant plan budget (Some log)) → Says words other
    → codes "improve" ≡ first_word other → Leaves (Improving plant plan budget (Some log)) old new → Leaves other old new
leaves_improve words plant plan budget log (Improving plant2 plan2 budget2 None) old new says also same_word is = (let same = ap length (sym says.1.0 ∙ also.1.0) in absurd (omega (arith, same)))
leaves_improve words plant plan budget log (Improving plant2 plan2 budget2 (Some log2)) old new says also same_word is =
    let same : codes "improve" ∷ plant ∷ plan ∷ says.0 ∷ log ∷ [] ≡ codes "improve" ∷ plant2 ∷ plan2 ∷ also.0 ∷ log2 ∷ [] = sym says.1.0 ∙ also.1.0 in
    let word = λ (k : ℕ). ap (λ (ws : List (List ℕ)). get_or ws k []) same in
    record {
      kept = subst (λ (l : List ℕ). OthersKept (Improving plant2 plan2 budget2 (Some l)) old new) (word 4) is.kept;
      left = subst (λ (l : List ℕ). IsLeft (Improving plant2 plan2 budget2 (Some l)) old new) (word 4)
          (subst (λ (p : List ℕ). IsLeft (Improving plant2 p budget2 (Some log)) old new) (word 2) (subst (λ (p : List ℕ). IsLeft (Improving p plan budget2 (Some log)) old new) (word 1) is.left));
    }
leaves_improve words plant plan budget log other old new says also same is = (let marks = marks_same same in absurd (omega (arith, marks.0, marks.1.0, marks.1.1)))

-- the words of going on from a log say no other request
leaves_resume : (words : List (List ℕ)) (plant log : List ℕ) (budget : ℕ) (out : List ℕ) (share : Option (ℕ × ℕ)) (other : Request) (old new : Option FileMap) → Says words (Resuming plant log budget out share) → Says words other
    → codes "resume" ≡ first_word other → Leaves (Resuming plant log budget out share) old new → Leaves other old new
leaves_resume words plant log budget out share (Resuming plant2 log2 budget2 out2 share2) old new says also same_word is =
    let same : codes "resume" ∷ plant ∷ log ∷ says.0 ∷ out ∷ says.1.0 ≡ codes "resume" ∷ plant2 ∷ log2 ∷ also.0 ∷ out2 ∷ also.1.0 = sym says.1.1.0 ∙ also.1.1.0 in
    let word = λ (k : ℕ). ap (λ (ws : List (List ℕ)). get_or ws k []) same in
    record {
      kept = subst (λ (o : List ℕ). OthersKept (Resuming plant2 log2 budget2 o share2) old new) (word 4) is.kept;
      left = subst (λ (l : List ℕ). IsLeft (Resuming plant2 l budget2 out2 share2) old new) (word 2) (subst (λ (p : List ℕ). IsLeft (Resuming p log budget2 out2 share2) old new) (word 1) is.left);
    }
leaves_resume words plant log budget out share other old new says also same is = (let marks = marks_same same in absurd (omega (arith, marks.0, marks.1.0, marks.1.1)))

-- the words of merging logs say no other request
leaves_merge : (words : List (List ℕ)) (plant stem : List ℕ) (count : ℕ) (out : List ℕ) (other : Request) (old new : Option FileMap) → Says words (Merging plant stem count out) → Says words other
    → codes "merge" ≡ first_word other → Leaves (Merging plant stem count out) old new → Leaves other old new
leaves_merge words plant stem count out (Merging plant2 stem2 count2 out2) old new says also same_word is =
    let same : codes "merge" ∷ plant ∷ stem ∷ says.0 ∷ out ∷ [] ≡ codes "merge" ∷ plant2 ∷ stem2 ∷ also.0 ∷ out2 ∷ [] = sym says.1.0 ∙ also.1.0 in
    let word = λ (k : ℕ). ap (λ (ws : List (List ℕ)). get_or ws k []) same in
    let count_is : count ≡ count2 = same_count also.0 count count2 (subst (λ (w : List ℕ). IsLogCount w count) (word 3) says.1.6) also.1.6 in
    record {
      kept = subst (λ (o : List ℕ). OthersKept (Merging plant2 stem2 count2 o) old new) (word 4) is.kept;
      left = subst (λ (s : List ℕ). IsLeft (Merging plant2 s count2 out2) old new) (word 2)
          (subst (λ (n : ℕ). IsLeft (Merging plant2 stem n out2) old new) count_is (subst (λ (p : List ℕ). IsLeft (Merging p stem count out2) old new) (word 1) is.left));
    }
leaves_merge words plant stem count out other old new says also same is = (let marks = marks_same same in absurd (omega (arith, marks.0, marks.1.0, marks.1.1)))

-- what one request leaves that the words say, each leaves that they say
leaves : (words : List (List ℕ)) (request other : Request) (old new : Option FileMap) → Says words request → Says words other → Leaves request old new → Leaves other old new
leaves words (Logging plant budget log) other old new says also is =
    leaves_log words plant budget log other old new says also
    (also_first words (codes "solve") other (ap first says.1.0) (let long = ap length says.1.0 in omega (arith, long)) (λ t. let byte = ap first_byte says.1.0 in omega (arith, t, byte)) also) is
leaves words (ReplanLogging plant plan period budget log) other old new says also is =
    leaves_replan words plant plan period budget log other old new says also
    (also_first words (codes "replan") other (ap first says.1.1.0) (let long = ap length says.1.1.0 in omega (arith, long)) (λ t. let byte = ap first_byte says.1.1.0 in omega (arith, t, byte)) also) is
leaves words (Improving plant plan budget (Some log)) other old new says also is =
    leaves_improve words plant plan budget log other old new says also
    (also_first words (codes "improve") other (ap first says.1.0) (let long = ap length says.1.0 in omega (arith, long)) (λ t. let byte = ap first_byte says.1.0 in omega (arith, t, byte)) also) is
leaves words (Tracing plant budget stem) other old new says also is =
    leaves_logs words plant budget stem other old new says also
    (also_first words (codes "least") other (ap first says.1.0) (let long = ap length says.1.0 in omega (arith, long)) (λ t. let byte = ap first_byte says.1.0 in omega (arith, t, byte)) also) is
leaves words (ConflictLogging plant budget stem) other old new says also is =
    leaves_conflict words plant budget stem other old new says also
    (also_first words (codes "conflict") other (ap first says.1.0) (let long = ap length says.1.0 in omega (arith, long)) (λ t. let byte = ap first_byte says.1.0 in omega (arith, t, byte)) also) is
leaves words (PartSolving plant levels part budget log) other old new says also is =
    leaves_part words plant levels part budget log other old new says also
    (also_first words (codes "solve-part") other (ap first says.1.1.1.0) (let long = ap length says.1.1.1.0 in omega (arith, long)) (λ t. let byte = ap first_byte says.1.1.1.0 in omega (arith, t, byte)) also) is
leaves words (Joining plant levels stem log) other old new says also is =
    leaves_join words plant levels stem log other old new says also
    (also_first words (codes "join") other (ap first says.1.0) (let long = ap length says.1.0 in omega (arith, long)) (λ t. let byte = ap first_byte says.1.0 in omega (arith, t, byte)) also) is
leaves words (Resuming plant log budget out share) other old new says also is =
    leaves_resume words plant log budget out share other old new says also
    (also_first words (codes "resume") other (ap first says.1.1.0) (let long = ap length says.1.1.0 in omega (arith, long)) (λ t. let byte = ap first_byte says.1.1.0 in omega (arith, t, byte)) also) is
leaves words (Merging plant stem count out) other old new says also is =
    leaves_merge words plant stem count out other old new says also
    (also_first words (codes "merge") other (ap first says.1.0) (let long = ap length says.1.0 in omega (arith, long)) (λ t. let byte = ap first_byte says.1.0 in omega (arith, t, byte)) also) is
leaves words request other old new says also is = leaves_same other old new is.left

-- the two facts apart
pub kept_all : (words : List (List ℕ)) (request : Request) (old new : Option FileMap) → Says words request → OthersKept request old new → IsLeft request old new → (other : Request) → Says words other → OthersKept other old new
kept_all words request old new says kept left other also = (leaves words request other old new says also (record { kept = kept; left = left })).kept

pub left_all : (words : List (List ℕ)) (request : Request) (old new : Option FileMap) → Says words request → OthersKept request old new → IsLeft request old new → (other : Request) → Says words other → IsLeft other old new
left_all words request old new says kept left other also = (leaves words request other old new says also (record { kept = kept; left = left })).left
