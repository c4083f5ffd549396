-- The lines of a group that has grown by a line.
use Rattle.std.proofs.Common.{◌≡◌, ℕ, ℤ, Option, None, Some, sym, append_assoc, append-nil, ◌+◌, ◌-◌, ◌==◌, ◌<◌, ◌≤◌, Bool, true, false, List, [], ◌∷◌, ◌++◌, length, map, refl, ap, ◌∙◌, subst, arith, if◌then◌else◌}
use Rattle.std.proofs.lemmas.Bool.Decides.{nat_tests}
use Rattle.std.proofs.lemmas.Grind.{common_steps}
use Rattle.std.proofs.lemmas.List.{length-replicate}
use Rattle.dual_bound.specs.declared.cert.Mult.{Mult}
use Rattle.log_lines.specs.declared.line.Line.{Line}
use Rattle.log_lines.specs.declared.line.Line.TheVariants.{Header, Node as NodeLine, Cut as CutLine, Found as FoundLine, Value as ValueLine, Empty as EmptyLine, Point as PointLine, Dual as DualLine, Pending as PendingLine, Floor as FloorLine, Split as SplitLine, Mult as MultLine, ClaimOptimal, ClaimInfeasible, ClaimBetween, ClaimBelow, End as EndLine}
use Rattle.proof_log.specs.Log.{floor_lines, started, value_lines, mult_line, item_lines, claim_lines}
use Rattle.proof_log.specs.declared.group.ValueHead.{ValueHead}
use Rattle.proof_log.specs.declared.group.ValueHead.TheVariants.{Found, Optimal, Between}
use Rattle.proof_log.specs.declared.group.MultHead.{MultHead}
use Rattle.proof_log.specs.declared.group.MultHead.TheVariants.{Dual, Pending, Split}
use Rattle.proof_log.specs.declared.group.Group.{Group}
use Rattle.proof_log.specs.declared.group.Group.TheVariants.{Nothing, Floor, Values, Mults}
use Rattle.proof_log.specs.declared.group.Grown.TheVariants.{More, Whole}
use Rattle.proof_log.specs.Gathering.{HasLines, IsPieceOver, value_head_line, mult_head_lines, piece_lines, group_lines, padded, value_piece, mult_piece, grown_values, grown_mults, begun, valued, multed, floored, followed, MayBegin, MaySplit, MayValue, MayMult, MayFollow}
use Rattle.proof_log.proofs.ValueLines.{value_lines-padded, started-padded, value_lines-more, started-more}

value_piece-lines : (head : ValueHead) (point : List ℕ) → piece_lines (value_piece head point) ≡ value_head_line head (started point) ∷ value_lines 0 point
unfolding item_lines claim_lines
value_piece-lines (Found value) point = refl
value_piece-lines (Optimal profit) point = refl
value_piece-lines (Between profit most) point = refl

value_piece-over : (head : ValueHead) (point : List ℕ) (slots : ℕ) → length point ≡ slots → IsPieceOver slots (value_piece head point)
value_piece-over (Found value) point slots is = is
value_piece-over (Optimal profit) point slots is = is
value_piece-over (Between profit most) point slots is = is

mult_piece-lines : (head : MultHead) (mults : List Mult) → piece_lines (mult_piece head mults) ≡ mult_head_lines head (length mults) ++ map mult_line mults
unfolding item_lines
mult_piece-lines (Dual scale) mults = refl
mult_piece-lines (Pending scale) mults = refl
mult_piece-lines (Split pick scale) mults = sym (append_assoc (floor_lines pick.floor) (SplitLine pick.slot pick.max scale (length mults) ∷ []) (map mult_line mults))

mult_piece-over : (head : MultHead) (mults : List Mult) (slots : ℕ) → IsPieceOver slots (mult_piece head mults)
mult_piece-over (Dual scale) mults slots = tt
mult_piece-over (Pending scale) mults slots = tt
mult_piece-over (Split pick scale) mults slots = tt

grown_values-lines : (slots : ℕ) (head : ValueHead) (left : ℕ) (point : List ℕ) → length point ≤ slots → HasLines slots (value_head_line head (left + started point) ∷ value_lines 0 point) (grown_values slots head left point)
grown_values-lines slots head left point within = at (left == 0) refl
  where
    at : (none : Bool) → (left == 0) ≡ none → HasLines slots (value_head_line head (left + started point) ∷ value_lines 0 point) (if none then Whole (value_piece head (padded slots point)) else More (Values head left point))
    at true is =
        let n = slots - length point in
        let zero : left ≡ 0 = grind (arith, nat_tests) in
        let count : started (padded slots point) ≡ left + started point = (let same = started-padded point n in omega arith) in
        let lines : value_lines 0 (padded slots point) ≡ value_lines 0 point = value_lines-padded point n in
        let long : length (padded slots point) ≡ slots = grind (arith, common_steps, length-replicate) in
        (value_piece-lines head (padded slots point) ∙ rw (count, lines) refl, value_piece-over head (padded slots point) slots long)
    at false is = refl

grown_mults-lines : (slots : ℕ) (head : MultHead) (left : ℕ) (mults : List Mult) → HasLines slots (mult_head_lines head (left + length mults) ++ map mult_line mults) (grown_mults head left mults)
grown_mults-lines slots head left mults = at (left == 0) refl
  where
    at : (none : Bool) → (left == 0) ≡ none → HasLines slots (mult_head_lines head (left + length mults) ++ map mult_line mults) (if none then Whole (mult_piece head mults) else More (Mults head left mults))
    at true is =
        let zero : left ≡ 0 = grind (arith, nat_tests) in
        let count : length mults ≡ left + length mults = omega arith in
        (mult_piece-lines head mults ∙ ap (λ n. mult_head_lines head n ++ map mult_line mults) count, mult_piece-over head mults slots)
    at false is = refl

values-begun : (slots : ℕ) (head : ValueHead) (count : ℕ) → HasLines slots (value_head_line head count ∷ []) (grown_values slots head count [])
values-begun slots head count =
    let same : count + 0 ≡ count = omega arith in
    subst (λ n. HasLines slots (value_head_line head n ∷ []) (grown_values slots head count [])) same (grown_values-lines slots head count [] (omega arith))

mults-begun : (slots : ℕ) (head : MultHead) (count : ℕ) → HasLines slots (mult_head_lines head count) (grown_mults head count [])
mults-begun slots head count =
    let same : count + 0 ≡ count = omega arith in
    let lines : mult_head_lines head (count + 0) ++ [] ≡ mult_head_lines head count = append-nil (mult_head_lines head (count + 0)) ∙ ap (mult_head_lines head) same in
    subst (λ ls. HasLines slots ls (grown_mults head count [])) lines (grown_mults-lines slots head count [])

-- the line of a split follows that of its floor
floored-lines : (slots : ℕ) (floor : Option ℤ) (line : Line) → MaySplit line → HasLines slots (floor_lines floor ++ line ∷ []) (floored floor line)
floored-lines slots floor (SplitLine slot max scale count) may = mults-begun slots (Split (record { slot = slot; max = max; floor = floor }) scale) count
floored-lines slots floor _ may = absurd may

begun-lines : (slots : ℕ) (line : Line) → MayBegin line → HasLines slots (line ∷ []) (begun slots line)
unfolding item_lines claim_lines
begun-lines slots (Header version) may = absurd may
begun-lines slots NodeLine may = (refl, tt)
begun-lines slots (CutLine row slot) may = (refl, tt)
begun-lines slots (FoundLine value count) may = values-begun slots (Found value) count
begun-lines slots (ValueLine slot quanta) may = absurd may
begun-lines slots EmptyLine may = (refl, tt)
begun-lines slots PointLine may = (refl, tt)
begun-lines slots (DualLine scale count) may = mults-begun slots (Dual scale) count
begun-lines slots (PendingLine scale count) may = mults-begun slots (Pending scale) count
begun-lines slots (FloorLine profit) may = refl
begun-lines slots (SplitLine slot max scale count) may = floored-lines slots None (SplitLine slot max scale count) may
begun-lines slots (MultLine row factor) may = absurd may
begun-lines slots (ClaimOptimal profit count) may = values-begun slots (Optimal profit) count
begun-lines slots ClaimInfeasible may = (refl, tt)
begun-lines slots (ClaimBetween profit most count) may = values-begun slots (Between profit most) count
begun-lines slots (ClaimBelow most) may = (refl, tt)
begun-lines slots EndLine may = absurd may

-- a value is one more line, and one less is left
values-grown : (slots : ℕ) (head : ValueHead) (left slot value : ℕ) (point : List ℕ) → 0 < left → length point ≤ slot → slot < slots → 0 < value → HasLines slots (value_head_line head (left + started point) ∷ (value_lines 0 point ++ ValueLine slot value ∷ [])) (grown_values slots head (left - 1) (padded slot point ++ value ∷ []))
values-grown slots head left slot value point some above within not_0 =
    let n = slot - length point in
    let later = padded slot point ++ value ∷ [] in
    let place : slot ≡ length point + n = omega arith in
    let more : started later ≡ started point + 1 = started-more point n value not_0 in
    let count : (left - 1) + started later ≡ left + started point = omega arith in
    let all : value_lines 0 later ≡ value_lines 0 point ++ ValueLine slot value ∷ [] = value_lines-more point n slot value place not_0 in
    let long : length later ≡ slot + 1 = grind (arith, common_steps, length-replicate) in
    let same : value_head_line head ((left - 1) + started later) ∷ value_lines 0 later ≡ value_head_line head (left + started point) ∷ (value_lines 0 point ++ ValueLine slot value ∷ []) = rw (count, all) refl in
    subst (λ t. HasLines slots t (grown_values slots head (left - 1) later)) same (grown_values-lines slots head (left - 1) later (omega arith))

-- a multiplier is one more line, and one less is left
mults-grown : (slots : ℕ) (head : MultHead) (left row factor : ℕ) (mults : List Mult) → 0 < left → HasLines slots (mult_head_lines head (left + length mults) ++ (map mult_line mults ++ MultLine row factor ∷ [])) (grown_mults head (left - 1) (mults ++ (record { row = row; factor = factor }) ∷ []))
mults-grown slots head left row factor mults some =
    let mult : Mult = record { row = row; factor = factor } in
    let later = mults ++ mult ∷ [] in
    let count : (left - 1) + length later ≡ left + length mults = grind (arith, common_steps) in
    let all : map mult_line later ≡ map mult_line mults ++ MultLine row factor ∷ [] = grind (arith, common_steps) in
    let same : mult_head_lines head ((left - 1) + length later) ++ map mult_line later ≡ mult_head_lines head (left + length mults) ++ (map mult_line mults ++ MultLine row factor ∷ []) = rw (count, all) refl in
    subst (λ t. HasLines slots t (grown_mults head (left - 1) later)) same (grown_mults-lines slots head (left - 1) later)

valued-lines : (slots : ℕ) (head : ValueHead) (left : ℕ) (point : List ℕ) (line : Line) → MayValue slots left point line → HasLines slots (value_head_line head (left + started point) ∷ (value_lines 0 point ++ line ∷ [])) (valued slots head left point line)
valued-lines slots head left point (ValueLine slot quanta) may = values-grown slots head left slot quanta point may.0 may.1 may.2 may.3
valued-lines slots head left point _ may = absurd may

multed-lines : (slots : ℕ) (head : MultHead) (left : ℕ) (mults : List Mult) (line : Line) → MayMult left line → HasLines slots (mult_head_lines head (left + length mults) ++ (map mult_line mults ++ line ∷ [])) (multed head left mults line)
multed-lines slots head left mults (MultLine row factor) may = mults-grown slots head left row factor mults may.0
multed-lines slots head left mults _ may = absurd may

-- a line that follows a group is one more line
pub followed-lines : (slots : ℕ) (group : Group) (line : Line) → MayFollow slots group line → HasLines slots (group_lines group ++ line ∷ []) (followed slots group line)
followed-lines slots Nothing line may = begun-lines slots line may
followed-lines slots (Floor profit) line may = floored-lines slots (Some profit) line may
followed-lines slots (Values head left point) line may = valued-lines slots head left point line may
followed-lines slots (Mults head left mults) line may =
    subst (λ ls. HasLines slots ls (multed head left mults line)) (sym (append_assoc (mult_head_lines head (left + length mults)) (map mult_line mults) (line ∷ []))) (multed-lines slots head left mults line may)
